-- What is looked up in the index of a list is the first place: each entry leads to the next one with its number, and an entry with
-- another number is another name.
--     along-end, along-none, along_out, along_here, along_on     one entry looked at
--     entry_bytes     an entry compared with a name
--     entered-none, entered-next     one entry entered
--     room-long, room_narrow, room-test, room-none, room_all     what a fill leaves
--     index_finds    tables that were zeros and are filled are the index
use mathlib.Core.Path.{◌≡◌, refl, sym, ap, ◌∙◌}
use mathlib.Core.Bool.{Bool, true, false, cond}
use mathlib.Core.List.{List, [], ◌∷◌}
use Prim.Native.Nat.{ℕ, zero, suc, ◌+◌, ◌*◌, ◌-◌, ◌/◌, ◌%◌, ◌≤◌, ◌<◌}
use native.Mathlib.Omega.{arith}
use lib.ListN.{length, get_or, set, take, drop, length-set, drop_of_length-le}
use lib.Seq.{drop-cons, get_or-set_same, get_or-set_other}
use lib.Dec.{eqb, ltb}
use borrow.Author.Tests.{eqb-true, eqb-false, eq-eqb, ne_eqb, le-leb, lt-leb, lt-ltb, le-ltb}
use Rattle.text.specs.Names.{same, place_from, entry, entries_of, entries}
use Rattle.text.proofs.Tests.{by_test}
use Rattle.std.specs.Str.{bytes_eq}
use Rattle.names.proofs.Same.{same_is, same_bytes}
use Rattle.names.proofs.Entries.{entry_of}
use Rattle.name_index.specs.Index.{part_from, part_of, Tables, enter, entered, room, filled, both, Fills, along, Indexed}

part_small : (v : List ℕ) (h : ℕ) → h < 512 → part_from v h < 512
unfolding part_from
part_small [] h lt = lt
part_small (b ∷ v) h lt = part_small v ((13 * h + b) % 512) (omega arith)

pub entries-length : (n : ℕ) (l : List ℕ) → length (entries_of n l) ≡ n
entries-length zero l = refl
entries-length (suc n) l = ap suc (entries-length n (drop 16 l))

module _ (es : List (List ℕ)) (u p : List ℕ) where
  pub along-end : (e : ℕ) → along 0 es u p e ≡ 0
  unfolding along
  along-end e = refl

  pub along-none : (m e : ℕ) → e ≡ 0 → along m es u p e ≡ 0
  unfolding along
  along-none zero e h = refl
  along-none (suc m) e h = rw (eq-eqb e 0 h)

  pub along_out : (m e : ℕ) → length es < e → along m es u p e ≡ 0
  unfolding along
  along_out zero e h = refl
  along_out (suc m) e h = rw (ne_eqb e 0 (λ z. omega arith), lt-ltb (length es) e h)

  module _ (m e : ℕ) (left : 0 < m) (some : e ≡ 0 → ⊥) (there : e ≤ length es) where
    step : along m es u p e ≡ cond (same p (entry es e)) e (along (m - 1) es u p (get_or u e 0))
    unfolding along
    step = by m left
      where
        by : (m : ℕ) → 0 < m → along m es u p e ≡ cond (same p (entry es e)) e (along (m - 1) es u p (get_or u e 0))
        by zero h = absurd (omega arith)
        by (suc m) h = let z : suc m - 1 ≡ m = omega arith in rw (ne_eqb e 0 some, le-ltb (length es) e there, z)

    pub along_here : same p (entry es e) ≡ true → along m es u p e ≡ e
    along_here h = step ∙ rw h

    pub along_on : same p (entry es e) ≡ false → along m es u p e ≡ along (m - 1) es u p (get_or u e 0)
    along_on h = step ∙ rw h

-- as the code compares it, the bytes of entry e
pub entry_bytes : (l p : List ℕ) (e : ℕ) → (e ≡ 0 → ⊥) → e ≤ length l / 16
    → bytes_eq p (take (16 * e - 16 * (e - 1)) (drop (16 * (e - 1)) l)) ≡ same p (entry (entries l) e)
entry_bytes l p e some there =
    let z : 16 * e - 16 * (e - 1) ≡ 16 = omega arith in
    same_bytes _ _ ∙ ap (same p) (rw z (sym (entry_of (length l / 16) l (e - 1) (omega arith))))

pub entered-none : (es : List (List ℕ)) (t : Tables) → entered es 0 t ≡ t
unfolding entered
entered-none es t = refl

entered_on : (es : List (List ℕ)) (e : ℕ) (t : Tables) → 0 < e → entered es e t ≡ entered es (e - 1) (enter es e t)
unfolding entered
entered_on es zero t h = absurd (omega arith)
entered_on es (suc k) t h = let z : suc k - 1 ≡ k = omega arith in rw z

-- as the code enters it, by the bytes of the entry
pub entered-next : (l f u : List ℕ) (e h : ℕ) → 0 < e → e ≤ length l / 16 → h ≡ part_of (take (16 * e - 16 * (e - 1)) (drop (16 * (e - 1)) l))
    → entered (entries l) e (both f u) ≡ entered (entries l) (e - 1) (record { first = set f h e; next = set u e (get_or f h 0) })
unfolding enter
entered-next l f u e h lt le q =
    let n : 16 * e - 16 * (e - 1) ≡ 16 = omega arith in
    let z : part_of (entry (entries l) e) ≡ h = ap part_of (entry_of (length l / 16) l (e - 1) (omega arith)) ∙ sym (rw n at q) in
    entered_on (entries l) e (both f u) lt ∙ ap (λ x. entered (entries l) (e - 1) (record { first = set f x e; next = set u e (get_or f x 0) })) z

-- ## The entries above k are entered

module _ (es : List (List ℕ)) where
  -- Tables that lead on alike above k find what is in the list above k.
  record Ready (k : ℕ) (t : Tables) : Type 0 where
    wide : 512 ≤ length t.first
    long : length es < length t.next
    finds : (p u : List ℕ) (m : ℕ) → ((j : ℕ) → k < j → get_or u j 0 ≡ get_or t.next j 0) → length es - k ≤ m
        → along m es u p (get_or t.first (part_of p) 0) ≡ place_from (suc k) p (drop k es)

  start : (t : Tables) → 512 ≤ length t.first → length es < length t.next → ((j : ℕ) → get_or t.first j 0 ≡ 0) → Ready (length es) t
  unfolding place_from
  start t w l z = record {
    wide = w;
    long = l;
    finds = λ p u m a h. along-none es u p m _ (z (part_of p)) ∙ rw (drop_of_length-le es {i = length es} (omega arith));
  }

  module _ (k : ℕ) (t : Tables) (lt : k < length es) (r : Ready (suc k) t) where
    one : entry es (suc k) ≡ get_or es k []
    one = let z : suc k - 1 ≡ k = omega arith in rw z

    place : (p : List ℕ) → place_from (suc k) p (drop k es) ≡ cond (same p (entry es (suc k))) (suc k) (place_from (suc (suc k)) p (drop (suc k) es))
    unfolding place_from
    place p = rw (drop-cons es k [] lt, one)

    finds_next : (p u : List ℕ) (m : ℕ) → ((j : ℕ) → k < j → get_or u j 0 ≡ get_or (enter es (suc k) t).next j 0) → length es - k ≤ m
        → along m es u p (get_or (enter es (suc k) t).first (part_of p) 0) ≡ place_from (suc k) p (drop k es)
    unfolding enter
    finds_next p u m a h =
        by_test (eqb (part_of p) (part_of (entry es (suc k))))
        (λ q. let e = eqb-true (part_of p) (part_of (entry es (suc k))) q in ap (λ x. along m es u p x) (ap (λ x. get_or (set t.first (part_of (entry es (suc k))) (suc k)) x 0) e
        ∙ get_or-set_same t.first (part_of (entry es (suc k))) (suc k) 0 (omega (arith, r.wide, part_small (entry es (suc k)) 0 (omega arith)))) ∙ first e (same p (entry es (suc k))) refl)
        (λ q. let e = eqb-false (part_of p) (part_of (entry es (suc k))) q in ap (λ x. along m es u p x) (get_or-set_other t.first (part_of (entry es (suc k))) (part_of p) (suc k) 0 e)
        ∙ r.finds p u m later (omega arith) ∙ sym (place p ∙ rw (differs e)))
      where
        later : (j : ℕ) → suc k < j → get_or u j 0 ≡ get_or t.next j 0
        later j g = a j (omega arith) ∙ get_or-set_other t.next (suc k) j (get_or t.first (part_of (entry es (suc k))) 0) 0 (λ z. omega arith)

        leads : part_of p ≡ part_of (entry es (suc k)) → get_or u (suc k) 0 ≡ get_or t.first (part_of p) 0
        leads e = a (suc k) (omega arith) ∙ get_or-set_same t.next (suc k) (get_or t.first (part_of (entry es (suc k))) 0) 0 (omega (arith, r.long)) ∙ ap (λ x. get_or t.first x 0) (sym e)

        first : part_of p ≡ part_of (entry es (suc k)) → (b : Bool) → same p (entry es (suc k)) ≡ b → along m es u p (suc k) ≡ place_from (suc k) p (drop k es)
        first e true s = along_here es u p m (suc k) (omega arith) (λ z. omega arith) (omega arith) s ∙ sym (place p ∙ rw s)
        first e false s =
            along_on es u p m (suc k) (omega arith) (λ z. omega arith) (omega arith) s ∙ ap (along (m - 1) es u p) (leads e)
            ∙ r.finds p u (m - 1) later (omega arith) ∙ sym (place p ∙ rw s)

        differs : (part_of p ≡ part_of (entry es (suc k)) → ⊥) → same p (entry es (suc k)) ≡ false
        differs e = by_test (same p (entry es (suc k))) (λ s. absurd (e (ap part_of (same_is p (entry es (suc k)) s)))) (λ s. s)

    next : Ready k (enter es (suc k) t)
    unfolding enter
    next = record {
      wide = omega (arith, r.wide, length-set t.first (part_of (entry es (suc k))) (suc k));
      long = omega (arith, r.long, length-set t.next (suc k) (get_or t.first (part_of (entry es (suc k))) 0));
      finds = finds_next;
    }

  all : (k : ℕ) (t : Tables) → k ≤ length es → Ready k t → Ready 0 (entered es k t)
  unfolding entered
  all zero t h r = r
  all (suc k) t h r = all k (enter es (suc k) t) (omega arith) (next k t h r)

  found : (t : Tables) → 512 ≤ length t.first → length es < length t.next → ((j : ℕ) → get_or t.first j 0 ≡ 0)
      → Indexed es (entered es (length es) t).first (entered es (length es) t).next
  found t w l z p = (all (length es) t (omega arith) (start t w l z)).finds p _ (length es) (λ j h. refl) (omega arith)

-- ## The index as the code fills it

module _ (l f u : List ℕ) where
  pub room-long : 999 < length l / 16 → room l (both f u) ≡ false
  unfolding room
  room-long h = rw (lt-leb (length l / 16) 999 h)

  pub room_narrow : length l / 16 ≤ 999 → length f < 512 → room l (both f u) ≡ false
  unfolding room
  room_narrow g h = rw (le-leb (length l / 16) 999 g, lt-leb 512 (length f) h)

  pub room-test : length l / 16 ≤ 999 → 512 ≤ length f → room l (both f u) ≡ ltb (length l / 16) (length u)
  unfolding room
  room-test g h = rw (le-leb (length l / 16) 999 g, le-leb 512 (length f) h)

  pub room-none : {r : Bool} → r ≡ false → r ≡ room l (both f u) → Fills l f u r f u
  unfolding filled
  room-none e h = record { answer = h; first = rw e; next = rw e }

  pub room_all : {f' u' : List ℕ} → true ≡ room l (both f u) → entered (entries l) (length l / 16) (both f u) ≡ both f' u' → Fills l f u true f' u'
  unfolding filled
  room_all h e = record { answer = h; first = ap (λ (t : Tables). t.first) (sym e); next = ap (λ (t : Tables). t.next) (sym e) }

  pub index_finds : {r : Bool} {f' u' : List ℕ} → Fills l f u r f' u' → length l / 16 ≤ 999 → 512 ≤ length f → ((j : ℕ) → get_or f j 0 ≡ 0) → length l / 16 < length u
      → Indexed (entries l) f' u'
  unfolding filled
  index_finds {r} {f'} {u'} h few wide zeros long =
      let e : r ≡ true = h.answer ∙ room-test few wide ∙ lt-ltb (length l / 16) (length u) long in
      let n = entries-length (length l / 16) l in
      let a : f' ≡ (entered (entries l) (length (entries l)) (both f u)).first = h.first ∙ rw (e, n) in
      let b : u' ≡ (entered (entries l) (length (entries l)) (both f u)).next = h.next ∙ rw (e, n) in
      rw (a, b) (found (entries l) (both f u) wide (omega (arith, n)) zeros)

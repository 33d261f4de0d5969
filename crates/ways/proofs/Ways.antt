-- The table of places.
--     goto_place .. header_place     the place of a record, by its kind as it was read
--     same_below, Put, put_none, put_one, put_all     the table filled entry by entry: at the start, a turn, at the end
--     ways-long, ways_are, way-found     the whole table, and what it then has
use mathlib.Core.Path.{◌≡◌, refl, sym, ap, ◌∙◌}
use mathlib.Core.Logic.{◌⊎◌, ⊎_elim}
use Prim.Native.Nat.{ℕ, suc, ◌+◌, ◌≤◌, ◌<◌}
use native.Mathlib.Nat.{add-zero}
use native.Mathlib.Numerals.{add-one}
use native.Mathlib.Omega.{arith}
use mathlib.Core.Bool.{Bool, true, false, cond, ◌&&◌}
use mathlib.Core.List.{List}
use lib.ListN.{length, get_or, set, length-set}
use lib.Seq.{get_or-set_same, get_or-set_other, ext_get_or}
use lib.Dec.{eqb, leb, ltb}
use borrow.Author.Tests.{eqb-true, eqb-false, leb-true, leb-false, ltb-true, ltb-false, le-leb, lt-leb, lt-ltb, le-ltb}
use Rattle.rules.specs.Record.{Rec, count}
use Rattle.rules.specs.Numbers.{or_zero, past}
use Rattle.rules.specs.Instruction.{ops}
use Rattle.rules.specs.Labels.{target, target2}
use Rattle.laws.proofs.Instructions.{tabulate}
use Rattle.records.specs.Reading.{rec_at}
use Rattle.tables.proofs.Filling.{tabulate_length, tabulate_at}
use Rattle.tables.proofs.Partners.{arm_found, end-found, loop_found, header-found}
use Rattle.ways.specs.Places.{places, place_for, place_at}
use Rattle.ways.specs.Ways.{way_of, entry_of, entered, ways, Plain, Partnered}
use Rattle.ways.proofs.Places.{from_one, in_file, place-header, place_loop, place_below, place_above}

-- ## What the tables of partners have, where the record has a partner

-- Record i as it was read.
module _ (s : List ℕ) (i : ℕ) {r : Rec} (e : r ≡ rec_at s i) where
  same_kind : r.kind ≡ (rec_at s i).kind
  same_kind = ap (λ (x : Rec). x.kind) e

  pub goto_place : r.kind ≡ 6 → or_zero (target (ops s) r.x) ≡ place_at s i
  unfolding place_at place_for places
  goto_place h = rw (← e, h)

  pub goto2_place : r.kind ≡ 7 → or_zero (target2 (ops s) r.x r.y) ≡ place_at s i
  unfolding place_at place_for places
  goto2_place h = rw (← e, h)

  pub below_place : r.kind < 6 → 0 ≡ place_at s i
  unfolding place_at
  below_place h = rw (← e) (sym (place_below (ops s) i r.x r.y r.kind h))

  pub end_place : r.kind ≡ 11 → 0 ≡ place_at s i
  unfolding place_at place_for places
  end_place h = rw (← e, h)

  pub above_place : 14 < r.kind → 0 ≡ place_at s i
  unfolding place_at
  above_place h = rw (← e) (sym (place_above (ops s) i r.x r.y r.kind h))

  module _ {stops ends headers : List ℕ} (q : Plain s i ⊎ Partnered s stops ends headers) where
    partnered : 8 ≤ r.kind → r.kind ≤ 14 → Partnered s stops ends headers
    partnered l h = ⊎_elim (λ p. absurd (omega (arith, same_kind, p (omega (arith, same_kind))))) (λ p. p) q

    named : 8 ≤ r.kind → (1 ≤ i) × (i ≤ count s)
    named l = let k : 0 < (rec_at s i).kind = omega (arith, same_kind) in (from_one s i k, in_file s i k)

    at-10 : r.kind ≡ 10 → past (get_or stops i 0) ≡ place_for (ops s) i r.kind r.x r.y
    unfolding place_for places
    at-10 z = let n = named (omega arith) in rw z (ap past (end-found s i n.0 n.1 same_kind (partnered (omega arith) (omega arith)).stopping z))

    pub stop_place : 8 ≤ r.kind → r.kind ≤ 10 → past (get_or stops i 0) ≡ place_at s i
    unfolding place_at
    stop_place l h = rw (← e) (by (leb r.kind 9) refl)
      where
        by : (b : Bool) → leb r.kind 9 ≡ b → past (get_or stops i 0) ≡ place_for (ops s) i r.kind r.x r.y
        by true p =
            let n = named l in
            let m = leb-true r.kind 9 p in
            ap past (arm_found s i n.0 n.1 same_kind (partnered l (omega arith)).stopping l m) ∙ sym (place-header (ops s) i r.x r.y r.kind l m)
        by false p = at-10 (omega (arith, leb-false r.kind 9 p))

    pub loop_place : 12 ≤ r.kind → r.kind ≤ 13 → past (get_or ends i 0) ≡ place_at s i
    unfolding place_at
    loop_place l h =
        let n = named (omega arith) in
        rw (← e) (ap past (loop_found s i n.0 n.1 (partnered (omega arith) (omega arith)).ending) ∙ sym (place_loop (ops s) i r.x r.y r.kind l h))

    pub header_place : r.kind ≡ 14 → get_or headers i 0 ≡ place_at s i
    unfolding place_at place_for places
    header_place h =
        let n = named (omega arith) in
        rw (← e, h) (header-found s i n.0 n.1 same_kind (partnered (omega arith) (omega arith)).opening h)

pub ruleset nowhere = (below_place, end_place, above_place)

-- ## Entry by entry

pub same_below : (j k to : ℕ) → (j < k → j < to) → (j < to → j < k) → ltb j k ≡ ltb j to
same_below j k to f g = by (ltb j k) refl
  where
    by : (b : Bool) → ltb j k ≡ b → ltb j k ≡ ltb j to
    by true q = q ∙ sym (lt-ltb j to (f (ltb-true j k q)))
    by false q = let l = ltb-false j k q in q ∙ sym (other (ltb j to) refl l)
      where
        other : (b : Bool) → ltb j to ≡ b → k ≤ j → ltb j to ≡ false
        other true r l = let z = g (ltb-true j to r) in absurd (omega arith)
        other false r l = r

-- The records behind the first `from` up to number k have their places.
pub record Put (s : List ℕ) (from k : ℕ) (t₀ t : List ℕ) : Type 0 where
  pub long : length t ≡ length t₀
  pub entries : (j : ℕ) → get_or t j 0 ≡ entry_of s from k t₀ j

module _ (s : List ℕ) (from : ℕ) where
  pub put_none : (t : List ℕ) → Put s from from t t
  unfolding entry_of
  put_none t = record { long = refl; entries = λ j. by j (leb from j) refl }
    where
      by : (j : ℕ) (b : Bool) → leb from j ≡ b → get_or t j 0 ≡ cond (leb from j && ltb j from) (way_of s (suc j)) (get_or t j 0)
      by j true q = rw (q, le-ltb j from (leb-true from j q))
      by j false q = rw q

  -- Two bounds that part the entries of the table alike.
  same-entry : (k to : ℕ) (t : List ℕ) (j : ℕ) → (from ≤ j → ltb j k ≡ ltb j to) → entry_of s from k t j ≡ entry_of s from to t j
  unfolding entry_of
  same-entry k to t j h = by (leb from j) refl
    where
      by : (b : Bool) → leb from j ≡ b → cond (leb from j && ltb j k) (way_of s (suc j)) (get_or t j 0) ≡ cond (leb from j && ltb j to) (way_of s (suc j)) (get_or t j 0)
      by true q = rw (h (leb-true from j q))
      by false q = rw q

  module _ {t₀ t : List ℕ} (k : ℕ) (u : Put s from k t₀ t) where
    pub put_one : {w : ℕ} → from ≤ k → k < length t → w ≡ way_of s (k + 1) → Put s from (k + 1) t₀ (set t k w)
    unfolding entry_of
    put_one {w} l h e = record { long = length-set t k w ∙ u.long; entries = λ j. by j (eqb j k) refl }
      where
        by : (j : ℕ) (b : Bool) → eqb j k ≡ b → get_or (set t k w) j 0 ≡ entry_of s from (k + 1) t₀ j
        by j true q =
            let z = eqb-true j k q in
            rw (z, le-leb from k l, lt-ltb k (k + 1) (omega arith)) (get_or-set_same t k w 0 h ∙ e ∙ ap (way_of s) (add-one k))
        by j false q =
            let z = eqb-false j k q in
            get_or-set_other t k j w 0 z ∙ u.entries j ∙ same-entry k (k + 1) t₀ j (λ f. same_below j k (k + 1) (λ g. omega arith) (λ g. omega (arith, z)))

    pub put_all : (to : ℕ) → ((j : ℕ) → from ≤ j → j < length t → ltb j k ≡ ltb j to) → t ≡ entered s from to t₀
    unfolding entered
    put_all to h =
        ext_get_or 0 t (tabulate (entry_of s from to t₀) 0 (length t₀)) (u.long ∙ sym (tabulate_length (entry_of s from to t₀) 0 (length t₀)))
        (λ j l. u.entries j ∙ same-entry k to t₀ j (λ f. h j f l) ∙ sym (tabulate_at (entry_of s from to t₀) 0 (length t₀) j (omega (arith, u.long)) ∙ ap (entry_of s from to t₀) (add-zero j)))

-- ## The whole table

module _ (s : List ℕ) (from to : ℕ) (t : List ℕ) where
  pub ways-long : 512 < count s → ways s from to t ≡ t
  unfolding ways
  ways-long h = rw (lt-leb (count s) 512 h)

  pub ways_are : count s ≤ 512 → ways s from to t ≡ entered s from to t
  unfolding ways
  ways_are h = rw (le-leb (count s) 512 h)

  pub way-found : count s ≤ 512 → (k : ℕ) → from ≤ k → k < to → k < length t → get_or (ways s from to t) k 0 ≡ way_of s (suc k)
  unfolding entered entry_of
  way-found h k a b l =
      rw (ways_are h) (tabulate_at (entry_of s from to t) 0 (length t) k l ∙ ap (entry_of s from to t) (add-zero k) ∙ rw (le-leb from k a, lt-ltb k to b))

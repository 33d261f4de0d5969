-- A text is read exactly if it is in the grammar with every name known and at most 999 labels: by one instruction after the other.
use mathlib.Core.Path.{◌≡◌, refl, sym, ap, ◌∙◌, subst, fun_ext}
use Prim.Native.Nat.{◌≤◌, ◌<◌}
use Prim.Native.Char.{code}
use native.Mathlib.Numerals.{sub-one}
use native.Mathlib.Omega.{arith}
use mathlib.Core.List.{append_assoc, append-nil}
use lib.ListN.{length-append, length-drop, take-append-drop, drop_of_length-le}
use lib.Seq.{length-take-le}
use borrow.Author.Tests.{eq-eqb, ne_eqb, eqb-true, eqb-false, lt-ltb, le-ltb, ltb-true, ltb-false}
use Rattle.std.specs.Prelude.{◌+◌, ◌-◌, ◌∷◌, ◌++◌}
use Rattle.rules.specs.Words.{ℕ, zero, suc, true, cond, List, [], length, take, drop, eqb, ltb}
use Rattle.rules.specs.Record.{Rec}
use Rattle.text.specs.declared.Sort.TheVariants.{Blank}
use Rattle.text.specs.declared.Fit.{Fit}
use Rattle.text.specs.declared.TextRefusal.TheVariants.{Name}
use Rattle.text.specs.Bytes.{run, span}
use Rattle.text.specs.Forms.{a, k, s, signs_of, letter_of, fit, best_of}
use Rattle.text.specs.Names.{name_at, number_at, place_of, action_of, label_of, with_label}
use Rattle.text.specs.Reading.{Next, made, bad, form_record, settled, known, with_action, with_number, with_label_at, with_second, named, next_of, reads, onwards, read_from, read_text}
use Rattle.text.specs.Grammar as grammar
use Rattle.text.specs.Grammar.{All, Form, Instructions, last, more, blanks, some}
use Rattle.text.proofs.Tests.{by_test}
use Rattle.grammar.specs.Promises.{actions_in, labels_in, actions_of, labels_of, AllListed, with_labels, Known, ReadsTexts}
use Rattle.grammar.proofs.Runs.{run_all}
use Rattle.grammar.proofs.Follows.{blanked}
use Rattle.grammar.proofs.Accepts.{Tail, semi, stop, tail-stops, blanks-stop, all_spaced, x_in, y_in}
use Rattle.grammar.proofs.Parts.{run_stands, Shown}
use Rattle.grammar.proofs.Instructions.{text_length, passed, found, seen}
use Rattle.grammar.proofs.Stuck.{Fair, next_fair, blanked_in}
use Rattle.grammar.proofs.Place.{up_to, behind, up_to_length, shown_piece, all_blank}
use Rattle.grammar.proofs.Spelt.{all_shaped, Spelt, plain, action, figure, label, labels, spelt}

-- ## A label has a number exactly if there are then at most 999

module _ (us : List (List ℕ)) (u : List ℕ) where
  grows : length us ≤ length (with_label us u)
  unfolding with_label
  grows = by_test (eqb (place_of u us) 0) (λ t. rw t (omega (arith, length-append us (u ∷ [])))) (λ t. rw t (omega arith))

  numbered : length (with_label us u) ≤ 999 → label_of us u ≡ 0 → ⊥
  unfolding with_label label_of
  numbered h e =
      by_test (eqb (place_of u us) 0)
      (λ t. let n : length (us ++ (u ∷ [])) ≤ 999 = rw t at h in
      let l : length us < 999 = omega (arith, length-append us (u ∷ [])) in
      let z : suc (length us) ≡ 0 = rw (t, lt-ltb (length us) 999 l) at e in omega arith)
      (λ t. let z : place_of u us ≡ 0 = rw t at e in eqb-false (place_of u us) 0 t z)

  few : length us ≤ 999 → (label_of us u ≡ 0 → ⊥) → length (with_label us u) ≤ 999
  unfolding with_label label_of
  few l h =
      by_test (eqb (place_of u us) 0)
      (λ t. by_test (ltb (length us) 999)
      (λ q. let n : length us < 999 = ltb-true (length us) 999 q in rw t (omega (arith, length-append us (u ∷ []))))
      (λ q. absurd (h (rw (t, q)))))
      (λ t. rw t l)

more_grow : (us ns : List (List ℕ)) → length us ≤ length (with_labels us ns)
more_grow us [] = omega arith
more_grow us (n ∷ ns) = omega (arith, grows us n, more_grow (with_label us n) ns)

-- ## One instruction

-- A name that is known is passed on, and only such a one.
pub known_on : (p v : ℕ) (on : ℕ → Next) → (v ≡ 0 → ⊥) → known p v on ≡ on v
known_on p v on h = rw (ne_eqb v 0 h)

pub known_was : (p v : ℕ) (on : ℕ → Next) {r : Rec} {us : List (List ℕ)} {e : ℕ} → known p v on ≡ made r us e → (v ≡ 0 → ⊥) × (on v ≡ made r us e)
known_was p v on {r} {us} {e} h =
    by_test (eqb v 0)
    (λ t. let z : bad (Name p) ≡ made r us e = rw t at h in cc)
    (λ t. (eqb-false v 0 t, rw t at h))

-- The name at suc q.
action-at : (w : List ℕ) (es : List (List ℕ)) (q : ℕ) (n : List ℕ) (on : ℕ → Next) → name_at w q ≡ n → with_action w es (suc q) on ≡ known (suc q) (action_of es n) on
unfolding with_action
action-at w es q n on e = rw (ne_eqb (suc q) 0 (λ z. omega arith), sub-one, e)

label_at : (w : List ℕ) (us : List (List ℕ)) (q : ℕ) (n : List ℕ) (on : ℕ → List (List ℕ) → Next) → name_at w q ≡ n
    → with_label_at w us (suc q) on ≡ known (suc q) (label_of us n) (λ v. on v (with_label us n))
unfolding with_label_at
label_at w us q n on e = rw (ne_eqb (suc q) 0 (λ z. omega arith), sub-one, e)

-- What a reading makes of a whole form, by its letter.
module _ (w : List ℕ) (es us : List (List ℕ)) (i far : ℕ) where
  abbrev pub found_form : ℕ → ℕ → Fit
  found_form x y = fit i true far x y

  abbrev pub result : ℕ → ℕ → List (List ℕ) → Next
  result x y vs = made (form_record i x y) vs far

  abbrev pub on_action : ℕ → Next
  on_action v = result v 0 us

  abbrev pub on_label : List ℕ → ℕ → Next
  on_label n v = result v 0 (with_label us n)

  abbrev pub on_second : List ℕ → List ℕ → ℕ → ℕ → Next
  on_second n m v y = result v y (with_label (with_label us n) m)

  abbrev pub on_first : ℕ → List ℕ → List ℕ → ℕ → Next
  on_first r n m v = known (suc r) (label_of (with_label us n) m) (on_second n m v)

  settles : (x y x' y' : ℕ) (vs : List (List ℕ)) → settled (found_form x y) x' y' vs ≡ result x' y' vs
  unfolding settled
  settles x y x' y' vs = refl

  pub by_none : (x y : ℕ) → named 0 w es us (found_form x y) ≡ result 0 0 us
  unfolding named
  by_none x y = settles x y 0 0 us

  pub by_action : (q y : ℕ) (n : List ℕ) → name_at w q ≡ n → named a w es us (found_form (suc q) y) ≡ known (suc q) (action_of es n) on_action
  unfolding named settled
  by_action q y n e = action-at w es q n (λ v. result v 0 us) e

  pub by_figure : (q y : ℕ) → named k w es us (found_form (suc q) y) ≡ result (number_at w q) 0 us
  unfolding named with_number settled
  by_figure q y = rw (ne_eqb (suc q) 0 (λ z. omega arith), sub-one)

  pub by_label : (q : ℕ) (n : List ℕ) → name_at w q ≡ n → named s w es us (found_form (suc q) 0) ≡ known (suc q) (label_of us n) (on_label n)
  unfolding named with_second with_label_at settled
  by_label q n e = label_at w us q n (λ v vs. result v 0 vs) e

  pub by_labels : (q r : ℕ) (n m : List ℕ) → name_at w q ≡ n → name_at w r ≡ m
      → named s w es us (found_form (suc q) (suc r))
      ≡ known (suc q) (label_of us n) (on_first r n m)
  unfolding named with_second settled
  by_labels q r n m e f =
      label_at w us q n (λ v vs. with_label_at w vs (suc r) (λ y vs'. result v y vs')) e
      ∙ ap (λ (on : ℕ → Next). known (suc q) (label_of us n) on) (fun_ext (λ v. label_at w (with_label us n) r m (λ y vs'. result v y vs') f))

  -- Known names, and few enough labels: a record is made, with the labels that are then there.
  makes : {letter x y : ℕ} {ac ls : List (List ℕ)} → Spelt w letter ac ls x y → AllListed es ac → length (with_labels us ls) ≤ 999
      → (r : Rec) × (named letter w es us (found_form x y) ≡ made r (with_labels us ls) far)
  makes {x = x} {y = y} (plain l e f) k h = (form_record i 0 0, rw (l, f) (by_none x y))
  makes {y = y} (action n q l e f g nm) k h =
      let kn : action_of es n ≡ 0 → ⊥ = (rw e at k).0 in
      (form_record i (action_of es n) 0, rw (l, g, f) (by_action q y n nm ∙ known_on (suc q) (action_of es n) on_action kn))
  makes {y = y} (figure n q l e f g nm) k h = (form_record i (number_at w q) 0, rw (l, g, f) (by_figure q y))
  makes (label n q l e f g nm z) k h =
      let h' : length (with_label us n) ≤ 999 = rw f at h in
      (form_record i (label_of us n) 0, rw (l, g, f, z) (by_label q n nm ∙ known_on (suc q) (label_of us n) (on_label n) (numbered us n h')))
  makes (labels n m q r l e f g nm z nm') k h =
      let h' : length (with_label (with_label us n) m) ≤ 999 = rw f at h in
      let h'' : length (with_label us n) ≤ 999 = omega (arith, grows (with_label us n) m) in (
        form_record i (label_of us n) (label_of (with_label us n) m),
        rw (l, g, f, z) (by_labels q r n m nm nm' ∙ known_on (suc q) (label_of us n) (on_first r n m) (numbered us n h'') ∙ known_on (suc r) (label_of (with_label us n) m) (on_second n m (label_of us n)) (numbered (with_label us n) m h')),
      )

  -- And only then.
  record Said (ac ls vs : List (List ℕ)) : Type 0 where
    listed : AllListed es ac
    spoken : vs ≡ with_labels us ls
    fewer : length vs ≤ 999

  was_made : {letter x y e : ℕ} {ac ls vs : List (List ℕ)} {r : Rec} → Spelt w letter ac ls x y → length us ≤ 999
      → named letter w es us (found_form x y) ≡ made r vs e → Said ac ls vs
  was_made {x = x} {y = y} {e = e} {vs = vs} {r = r} (plain l ae f) h m =
      let z : result 0 0 us ≡ made r vs e = sym (by_none x y) ∙ (rw l at m) in
      let v : us ≡ vs = cc in
      rw (ae, f, ← v) (record { listed = tt; spoken = refl; fewer = h })
  was_made {y = y} {e = e} {vs = vs} {r = r} (action n q l ae f g nm) h m =
      let z = known_was (suc q) (action_of es n) on_action (sym (by_action q y n nm) ∙ (rw (l, g) at m)) in
      let v : us ≡ vs = let t = z.1 in cc in
      rw (ae, f, ← v) (record { listed = (z.0, tt); spoken = refl; fewer = h })
  was_made {y = y} {e = e} {vs = vs} {r = r} (figure n q l ae f g nm) h m =
      let z : result (number_at w q) 0 us ≡ made r vs e = sym (by_figure q y) ∙ (rw (l, g) at m) in
      let v : us ≡ vs = cc in
      rw (ae, f, ← v) (record { listed = tt; spoken = refl; fewer = h })
  was_made {e = e} {vs = vs} {r = r} (label n q l ae f g nm yz) h m =
      let z = known_was (suc q) (label_of us n) (on_label n) (sym (by_label q n nm) ∙ (rw (l, g, yz) at m)) in
      let v : with_label us n ≡ vs = let t = z.1 in cc in
      rw (ae, f, ← v) (record { listed = tt; spoken = refl; fewer = few us n h z.0 })
  was_made {e = e} {vs = vs} {r = r} (labels n o q j l ae f g nm yz nm') h m =
      let z = known_was (suc q) (label_of us n) (on_first j n o) (sym (by_labels q j n o nm nm') ∙ (rw (l, g, yz) at m)) in
      let z' = known_was (suc j) (label_of (with_label us n) o) (on_second n o (label_of us n)) z.1 in
      let v : with_label (with_label us n) o ≡ vs = let t = z'.1 in cc in
      rw (ae, f, ← v) (record { listed = tt; spoken = refl; fewer = few (with_label us n) o (few us n h z.0) z'.0 })

-- ## An instruction in its text

listed_append : (es ns ms : List (List ℕ)) → AllListed es ns → AllListed es ms → AllListed es (ns ++ ms)
listed_append es [] ms h g = g
listed_append es (n ∷ ns) ms h g = (h.0, listed_append es ns ms h.1 g)

listed_left : (es ns ms : List (List ℕ)) → AllListed es (ns ++ ms) → AllListed es ns
listed_left es [] ms h = tt
listed_left es (n ∷ ns) ms h = (h.0, listed_left es ns ms h.1)

listed_right : (es ns ms : List (List ℕ)) → AllListed es (ns ++ ms) → AllListed es ms
listed_right es [] ms h = h
listed_right es (n ∷ ns) ms h = listed_right es ns ms h.1

labels_append : (us ns ms : List (List ℕ)) → with_labels us (ns ++ ms) ≡ with_labels (with_labels us ns) ms
labels_append us [] ms = refl
labels_append us (n ∷ ns) ms = labels_append (with_label us n) ns ms

module _ (es us : List (List ℕ)) (i : ℕ) (pre b u c z : List ℕ) (hi : i < 17) (bs : All Blank b) (f : Form (signs_of (suc i)) u) (cs : All Blank c) (t : Tail z) where
  abbrev pub whole : List ℕ
  whole = pre ++ (b ++ (u ++ (c ++ z)))

  abbrev pub start : ℕ
  start = length pre + length b

  abbrev pub end : ℕ
  end = start + length u + length c + 1

  pub spells : Spelt whole (letter_of (suc i)) (actions_in f) (labels_in f) (x_in f start 0) (y_in f start 0)
  spells =
      let l : length (pre ++ b) ≡ start = length-append pre b in
      let r = spelt (pre ++ b) (c ++ z) f (all_shaped i hi) (all_spaced (suc i)) (blanks-stop c z cs (tail-stops t)) in
      rw (append_assoc pre b (u ++ (c ++ z)), l) at r

  pub next_is : next_of whole es us (length pre) ≡ named (letter_of (suc i)) whole es us (fit (suc i) true end (x_in f start 0) (y_in f start 0))
  unfolding next_of
  next_is =
      ap (λ (j : ℕ). named (letter_of (best_of whole j).form) whole es us (best_of whole j)) (passed i pre b u c z hi bs f cs t)
      ∙ ap (λ (g : Fit). named (letter_of g.form) whole es us g) (found i pre b u c z hi bs f cs t)

  next_makes : AllListed es (actions_in f) → length (with_labels us (labels_in f)) ≤ 999 → (r : Rec) × (next_of whole es us (length pre) ≡ made r (with_labels us (labels_in f)) end)
  next_makes k h = let m = makes whole es us (suc i) end spells k h in (m.0, next_is ∙ m.1)

  next_was : {r : Rec} {vs : List (List ℕ)} {e : ℕ} → length us ≤ 999 → next_of whole es us (length pre) ≡ made r vs e → Said whole es us (suc i) end (actions_in f) (labels_in f) vs
  next_was h m = was_made whole es us (suc i) end spells h (sym next_is ∙ m)

-- ## A text with known names is read

abbrev Reads : ℕ → List ℕ → List (List ℕ) → ℕ → List (List ℕ) → List Rec → Type 0
Reads m w es at us rs = (rs' : List Rec) × (read_from m w es at us rs ≡ reads rs')

module _ (m : ℕ) (w : List ℕ) (es : List (List ℕ)) (at : ℕ) (us : List (List ℕ)) (rs : List Rec) where
  -- The last instruction, and one with another behind it.
  ends_here : {r : Rec} {vs : List (List ℕ)} {e : ℕ} → next_of w es us at ≡ made r vs e → length w < e → Reads (suc m) w es at us rs
  unfolding read_from
  ends_here {r} {vs} {e} n h = (rs ++ (r ∷ []), rw (n, lt-ltb (length w) e h))

  goes_on : {r : Rec} {vs : List (List ℕ)} {e : ℕ} → next_of w es us at ≡ made r vs e → e ≤ length w → Reads m w es e vs (rs ++ (r ∷ [])) → Reads (suc m) w es at us rs
  unfolding read_from
  goes_on {r} {vs} {e} n h g = (g.0, rw (n, le-ltb (length w) e h) g.1)

last_reads : (m : ℕ) (es us : List (List ℕ)) (rs : List Rec) (i : ℕ) (pre b u c : List ℕ) (hi : i < 17) (bs : All Blank b) (f : Form (signs_of (suc i)) u) (cs : All Blank c)
    → AllListed es (actions_in f) → length (with_labels us (labels_in f)) ≤ 999 → Reads (suc m) (pre ++ (b ++ (u ++ c))) es (length pre) us rs
last_reads m es us rs i pre b u c hi bs f cs k h =
    let n = next_makes es us i pre b u c [] hi bs f cs stop k h in
    let l = text_length i pre b u c [] hi bs f cs stop in
    subst (λ (x : List ℕ). Reads (suc m) (pre ++ (b ++ (u ++ x))) es (length pre) us rs) (append-nil c)
    (ends_here m (pre ++ (b ++ (u ++ (c ++ [])))) es (length pre) us rs n.1 (omega arith))

more_reads : (m : ℕ) (es us : List (List ℕ)) (rs : List Rec) (i : ℕ) (pre b u c v : List ℕ) (hi : i < 17) (bs : All Blank b) (f : Form (signs_of (suc i)) u) (cs : All Blank c)
    → AllListed es (actions_in f) → length (with_labels us (labels_in f)) ≤ 999
    → ((rs' : List Rec) → Reads m ((pre ++ up_to b u c) ++ v) es (length (pre ++ up_to b u c)) (with_labels us (labels_in f)) rs')
    → Reads (suc m) (pre ++ (b ++ (u ++ (c ++ (code ";" ∷ v))))) es (length pre) us rs
more_reads m es us rs i pre b u c v hi bs f cs k h go =
    let n = next_makes es us i pre b u c (code ";" ∷ v) hi bs f cs (semi v) k h in
    let l = text_length i pre b u c (code ";" ∷ v) hi bs f cs (semi v) in
    let g = go (rs ++ (n.0 ∷ [])) in
    goes_on m (pre ++ (b ++ (u ++ (c ++ (code ";" ∷ v))))) es (length pre) us rs n.1 (omega arith)
    (rw (behind pre b u c v, up_to_length pre b u c) at g)

some-reads : (m : ℕ) (es us : List (List ℕ)) (rs : List Rec) {v : List ℕ} (pre : List ℕ) (x : Instructions v) → length (pre ++ v) < length pre + m
    → AllListed es (actions_of x) → length (with_labels us (labels_of x)) ≤ 999 → Reads m (pre ++ v) es (length pre) us rs
some-reads zero es us rs {v} pre x l k h = absurd (omega (arith, length-append pre v))
some-reads (suc m) es us rs pre (last i b u c hi bs f cs) l k h = last_reads m es us rs i pre b u c hi bs f cs k h
some-reads (suc m) es us rs pre (more i b u c {v} hi bs f cs x) l k h =
    let h' : length (with_labels (with_labels us (labels_in f)) (labels_of x)) ≤ 999 = rw (labels_append us (labels_in f) (labels_of x)) at h in
    more_reads m es us rs i pre b u c v hi bs f cs (listed_left es (actions_in f) (actions_of x) k) (omega (arith, more_grow (with_labels us (labels_in f)) (labels_of x)))
    (λ rs'. some-reads m es (with_labels us (labels_in f)) rs' (pre ++ up_to b u c) x
    (omega (arith, ap length (behind pre b u c v), up_to_length pre b u c)) (listed_right es (actions_in f) (actions_of x) k) h')

-- ## What is read is a text with known names

abbrev Good : List (List ℕ) → List (List ℕ) → List ℕ → Type 0
Good es us v = (x : Instructions v) × AllListed es (actions_of x) × (length (with_labels us (labels_of x)) ≤ 999)

more_good : (es us : List (List ℕ)) (i : ℕ) (b u c v : List ℕ) (hi : i < 17) (bs : All Blank b) (f : Form (signs_of (suc i)) u) (cs : All Blank c)
    → AllListed es (actions_in f) → Good es (with_labels us (labels_in f)) v → Good es us (b ++ (u ++ (c ++ (code ";" ∷ v))))
more_good es us i b u c v hi bs f cs k g =
    (more i b u c hi bs f cs g.0, listed_append es (actions_in f) (actions_of g.0) k g.1, rw (labels_append us (labels_in f) (labels_of g.0)) g.2)

module _ (w : List ℕ) (es : List (List ℕ)) where
  -- An instruction that was found whole at `at`, and the text as it stands there.
  pub record Here (at : ℕ) : Type 0 where
    pub number : ℕ
    pub hi : number < 17
    pub shows : Shown w (signs_of (suc number)) (blanked w at) (best_of w (blanked w at)).far
    pub stands : drop at w ≡ run Blank w at (length w) ++ (shows.u ++ (shows.c ++ shows.z))
    pub before : take at w ++ (run Blank w at (length w) ++ (shows.u ++ (shows.c ++ shows.z))) ≡ w

  pub here : (at : ℕ) → at ≤ length w → (best_of w (blanked w at)).whole ≡ true → Here at
  here at h t =
      let r = seen w (blanked w at) (blanked_in w at h) t in
      let s : drop at w ≡ run Blank w at (length w) ++ (r.shows.u ++ (r.shows.c ++ r.shows.z)) = run_stands w Blank at (length w) ∙ ap (λ (l : List ℕ). run Blank w at (length w) ++ l) r.shows.stands in
      record { number = r.number; hi = r.listed; shows = r.shows; stands = s; before = ap (λ (l : List ℕ). take at w ++ l) (sym s) ∙ take-append-drop at w }

  -- What was said of it.
  record Spoken (at : ℕ) (us vs : List (List ℕ)) (o : Here at) : Type 0 where
    listed : AllListed es (actions_in o.shows.form)
    spoken : vs ≡ with_labels us (labels_in o.shows.form)
    fewer : length vs ≤ 999

  spoke : {at : ℕ} {us vs : List (List ℕ)} {r : Rec} {e : ℕ} (o : Here at) → at ≤ length w → length us ≤ 999 → next_of w es us at ≡ made r vs e → Spoken at us vs o
  spoke {at} {us} {vs} {r} {e} o h l m =
      let k : length (take at w) ≡ at = length-take-le at w h in
      let g = next_was es us o.number (take at w) (run Blank w at (length w)) o.shows.u o.shows.c o.shows.z o.hi (run_all Blank w at (length w)) o.shows.form o.shows.blanks o.shows.tail {r = r} {vs = vs} {e = e} l
      (rw (o.before, k) m) in
      record { listed = g.listed; spoken = g.spoken; fewer = g.fewer }

  last_good : {at : ℕ} {us vs : List (List ℕ)} (o : Here at) → at ≤ length w → length w < (best_of w (blanked w at)).far → Spoken at us vs o → Good es us (drop at w)
  last_good {at} {us} {vs} o h lt p = by o.shows.z o.shows.tail o.stands o.shows.stands
    where
      b : List ℕ
      b = run Blank w at (length w)

      by : (z : List ℕ) → Tail z → drop at w ≡ run Blank w at (length w) ++ (o.shows.u ++ (o.shows.c ++ z)) → drop (blanked w at) w ≡ o.shows.u ++ (o.shows.c ++ z) → Good es us (drop at w)
      by z stop e d =
          let q : drop at w ≡ run Blank w at (length w) ++ (o.shows.u ++ o.shows.c) = e ∙ ap (λ (l : List ℕ). run Blank w at (length w) ++ (o.shows.u ++ l)) (append-nil o.shows.c) in
          subst (Good es us) (sym q)
          (last o.number (run Blank w at (length w)) o.shows.u o.shows.c o.hi (run_all Blank w at (length w)) o.shows.form o.shows.blanks, p.listed, rw (← p.spoken) p.fewer)
      by z (semi v) e d =
          let n : length w - blanked w at ≡ length o.shows.u + (length o.shows.c + suc (length v)) = sym (length-drop (blanked w at) w) ∙ ap length d ∙ length-append o.shows.u (o.shows.c ++ (code ";" ∷ v)) ∙ ap (λ (m : ℕ). length o.shows.u + m) (length-append o.shows.c (code ";" ∷ v)) in
          let k = o.shows.size in
          absurd (omega (arith, blanked_in w at h))

  next_good : {at : ℕ} {us vs : List (List ℕ)} (o : Here at) → at ≤ length w → (best_of w (blanked w at)).far ≤ length w → Spoken at us vs o
      → Good es vs (drop (best_of w (blanked w at)).far w) → Good es us (drop at w)
  next_good {at} {us} {vs} o h le p g =
      let q = shown_piece w le (blanked_in w at h) o.shows in
      let far = (best_of w (blanked w at)).far in
      let e : drop at w ≡ run Blank w at (length w) ++ (o.shows.u ++ (o.shows.c ++ (code ";" ∷ drop far w))) =
      run_stands w Blank at (length w) ∙ ap (λ (l : List ℕ). run Blank w at (length w) ++ l)
      (q.0.stands ∙ ap (λ (l : List ℕ). l ++ drop far w) q.1 ∙ append_assoc o.shows.u (o.shows.c ++ (code ";" ∷ [])) (drop far w)
      ∙ ap (λ (l : List ℕ). o.shows.u ++ l) (append_assoc o.shows.c (code ";" ∷ []) (drop far w))) in
      subst (Good es us) (sym e)
      (more_good es us o.number (run Blank w at (length w)) o.shows.u o.shows.c (drop far w) o.hi (run_all Blank w at (length w)) o.shows.form o.shows.blanks p.listed
      (rw p.spoken at g))

  reads_good : (m at : ℕ) (us : List (List ℕ)) (rs rs' : List Rec) → at ≤ length w → length us ≤ 999 → read_from m w es at us rs ≡ reads rs' → Good es us (drop at w)
  unfolding read_from
  reads_good zero at us rs rs' h l e = cc
  reads_good (suc m) at us rs rs' h l e = by (next_of w es us at) refl (next_fair w es us at) (λ d vs qs hi k q. reads_good m d vs qs rs' hi k q) e
    where
      by : (x : Next) → next_of w es us at ≡ x → Fair (best_of w (blanked w at)) x
          → ((d : ℕ) (vs : List (List ℕ)) (qs : List Rec) → d ≤ length w → length vs ≤ 999 → read_from m w es d vs qs ≡ reads rs' → Good es vs (drop d w))
          → onwards x (λ r vs d. cond (ltb (length w) d) (reads (rs ++ (r ∷ []))) (read_from m w es d vs (rs ++ (r ∷ [])))) ≡ reads rs' → Good es us (drop at w)
      by (made r vs d) n g go q =
          let o = here at h g.0 in
          let p = spoke o h l n in
          by_test (ltb (length w) d)
          (λ t. last_good o h (subst (λ (j : ℕ). length w < j) g.1 (ltb-true (length w) d t)) p)
          (λ t. let le : d ≤ length w = ltb-false (length w) d t in
          next_good o h (subst (λ (j : ℕ). j ≤ length w) g.1 le) p (subst (λ (j : ℕ). Good es vs (drop j w)) g.1 (go d vs (rs ++ (r ∷ [])) le p.fewer (rw t at q))))
      by (bad x) n g go q = cc

-- ## The theorem

blank_text : (w : List ℕ) → span Blank w 0 (length w) ≡ length w → All Blank w
blank_text w e =
    let d : w ≡ run Blank w 0 (length w) ++ drop (0 + span Blank w 0 (length w)) w = run_stands w Blank 0 (length w) in
    let k : 0 + span Blank w 0 (length w) ≡ length w = omega arith in
    let n : w ≡ run Blank w 0 (length w) = d ∙ ap (λ (l : List ℕ). run Blank w 0 (length w) ++ l) (ap (λ (j : ℕ). drop j w) k ∙ drop_of_length-le w {i = length w} (omega arith)) ∙ append-nil _ in
    subst (λ (l : List ℕ). All Blank l) (sym n) (run_all Blank w 0 (length w))

pub reads_texts : ReadsTexts
unfolding read_text
reads_texts w es = (
  λ r. by_test (eqb (span Blank w 0 (length w)) (length w))
      (λ t. (blanks w (blank_text w (eqb-true _ _ t)), tt))
      (λ t. let g = reads_good w es (length w + 1) 0 [] [] r.0 (omega arith) (omega arith) (rw t at r.1) in (some g.0, (g.1, g.2))),
  λ k. known-reads k.0 k.1,
)
  where
    known-reads : (x : grammar.Text w) → Known es x → (rs : List Rec) × (cond (eqb (span Blank w 0 (length w)) (length w)) (reads []) (read_from (length w + 1) w es 0 [] []) ≡ reads rs)
    known-reads (blanks b bs) k = ([], rw (eq-eqb (span Blank b 0 (length b)) (length b) (all_blank b bs)))
    known-reads (some x) k =
        by_test (eqb (span Blank w 0 (length w)) (length w)) (λ t. ([], rw t))
        (λ t. let r = some-reads (length w + 1) es [] [] [] x (omega arith) k.0 k.1 in (r.0, rw t r.1))

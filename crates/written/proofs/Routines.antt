-- The labels that are read are numbered by first appearance, and a routine whose labels are so is read from what is written for it, where
-- no two entries of the list are the same.
use mathlib.Core.Path.{◌≡◌, refl, sym, ap, ◌∙◌, subst}
use Prim.Native.Nat.{◌≤◌, ◌<◌}
use native.Mathlib.Omega.{arith}
use lib.ListN.{get_or-eq_default, length-append}
use borrow.Author.Tests.{ltb-true, ltb-false}
use Rattle.std.specs.Prelude.{◌-◌, ◌∷◌, ◌++◌}
use Rattle.rules.specs.Words.{ℕ, zero, suc, true, List, [], map, length, get_or, replicate, eqb, ltb}
use Rattle.rules.specs.declared.Notation.TheVariants.{Routine}
use Rattle.rules.specs.Record.{Rec, rec, count, records}
use Rattle.rules.specs.Table.{row_of}
use Rattle.laws.proofs.Records as paper
use Rattle.laws.proofs.Refusals.{fine}
use Rattle.text.specs.Forms.{a, k, s, t, signs_of, letter_of}
use Rattle.text.specs.Names.{same, place_from, place_of, padded, action_of, entries, entry, name_of, proper}
use Rattle.text.specs.Writing.{nameless_from}
use Rattle.text.specs.Answers.{text_written}
use Rattle.text.proofs.Tests.{by_test}
use Rattle.written.specs.Promises.{Distinct, tags, tagged, label_numbers, greater, InOrder, LabelsInOrder, RoutineBack}
use Rattle.written.proofs.Numbered.{same_self, there, proper-some, proper-same, Given}
use Rattle.written.proofs.Fields.{Ranged, inside, all_suited, faultless, no-tags, with_tags, by_letter}
use Rattle.written.proofs.Texts.{named_first, writable}
use Rattle.written.proofs.Made.{Right, of_none, of_action, of_number, of_label, of_labels, Rights, no_more, one_more, right_few, text_right}
use Rattle.written.proofs.Again.{text_again}

-- ## The labels that are read

order_none : (m : ℕ) (r : Rec) (ps ls : List ℕ) → tags ps ≡ [] → InOrder m ls → InOrder m (map (tagged r) (tags ps) ++ ls)
order_none m r ps ls e g = rw e g

order_right : {es : List (List ℕ)} {m m' : ℕ} {r : Rec} (ls : List ℕ) → Right es m r m' → InOrder m' ls → InOrder m (map (tagged r) (tags (signs_of r.kind)) ++ ls)
order_right {m = m} ls (of_none i h e) g = order_none m (rec (suc i) 0 0) (signs_of (suc i)) ls (no-tags i h (rw e)) g
order_right {m = m} ls (of_action i x h e p q lo hi) g = order_none m (rec (suc i) x 0) (signs_of (suc i)) ls (no-tags i h (rw e)) g
order_right {m = m} ls (of_number i x h e q) g = order_none m (rec (suc i) x 0) (signs_of (suc i)) ls (no-tags i h (rw e)) g
order_right ls (of_label i x m' h e tg v) g = rw tg (v.one, omega (arith, v.next), subst (λ (j : ℕ). InOrder j ls) v.grown g)
order_right {m = m} ls (of_labels i x y m' m'' h e tg v v') g =
    let o : InOrder m' (y ∷ ls) = (v'.one, omega (arith, v'.next), subst (λ (j : ℕ). InOrder j ls) v'.grown g) in
    rw tg (v.one, omega (arith, v.next), subst (λ (j : ℕ). InOrder j (y ∷ ls)) v.grown o)

order_rights : {es : List (List ℕ)} {m : ℕ} {rs : List Rec} → Rights es m rs → InOrder m (label_numbers rs)
order_rights (no_more m) = tt
order_rights (one_more m m' r rs g gs) = order_right (label_numbers rs) g (order_rights gs)

pub labels_in_order : LabelsInOrder
labels_in_order w es rs e = order_rights (text_right w es rs e)

-- ## Distinct entries

-- What stands in a list has a place.
placed : (i : ℕ) (u : List ℕ) (vs : List (List ℕ)) (j : ℕ) → j < length vs → get_or vs j [] ≡ u → place_from (suc i) u vs ≡ 0 → ⊥
unfolding place_from
placed i u [] j h e z = omega arith
placed i u (v ∷ vs) zero h e z = let t : same u v ≡ true = rw e (same_self u) in let y : suc i ≡ 0 = rw t at z in omega arith
placed i u (v ∷ vs) (suc j) h e z =
    by_test (same u v)
    (λ t. let y : suc i ≡ 0 = rw t at z in omega arith)
    (λ t. placed (suc i) u vs j (omega arith) e (rw t at z))

record Listed (es : List (List ℕ)) (x : ℕ) : Type 0 where
  within : x ≤ length es
  first_place : action_of es (name_of es x) ≡ x

-- A proper entry is in the list.
in_list : (es : List (List ℕ)) (x : ℕ) → proper es x ≡ true → x - 1 < length es
in_list es x h =
    by_test (ltb (x - 1) (length es)) (ltb-true (x - 1) (length es))
    (λ c. let e : entry es x ≡ [] = get_or-eq_default es [] (ltb-false (x - 1) (length es) c) in
    let n : length (padded 16 (name_of es x)) ≡ 0 = ap length (proper-same es x h ∙ e) in
    absurd (omega (arith, proper-some es x h, length-append (name_of es x) (replicate (16 - length (name_of es x)) 0))))

distinct_listed : (es : List (List ℕ)) (x : ℕ) → Distinct es → 1 ≤ x → proper es x ≡ true → Listed es x
distinct_listed es x d lo h =
    let u = padded 16 (name_of es x) in
    let e : get_or es (x - 1) [] ≡ u = sym (proper-same es x h) in
    let l = in_list es x h in
    let r = there 1 u es (placed 0 u es (x - 1) l e) in
    let f = r.from in
    let g = r.upto in
    let c : place_of u es - 1 ≡ x - 1 = d (place_of u es - 1) (x - 1) (omega arith) l (r.stands ∙ sym e) in
    record { within = omega arith; first_place = omega arith }

-- ## One record

is_record : (r : Rec) (j x y : ℕ) → r.kind ≡ j → r.x ≡ x → r.y ≡ y → rec j x y ≡ r
is_record r j x y e f g = rw (← e, ← f, ← g)

-- The record is right, and the labels behind it are still in order.
record Goes (es : List (List ℕ)) (m : ℕ) (r : Rec) (ls : List ℕ) : Type 0 where
  m' : ℕ
  right : Right es m r m'
  ordered : InOrder m' ls

given_one : (m v : ℕ) → 1 ≤ v → v ≤ suc m → v ≤ 999 → m ≤ 999 → Given m v (greater m v)
unfolding greater
given_one m v lo hi few l = record { one = lo; next = hi; few = by_test (ltb m v) (λ t. rw t few) (λ t. rw t l); grown = refl }

module _ (es : List (List ℕ)) (m : ℕ) (few : m ≤ 999) (r : Rec) (ls : List ℕ) (q : Ranged r) where
  abbrev i : ℕ
  i = q.number

  as_right : (x y m' : ℕ) → r.x ≡ x → r.y ≡ y → Right es m (rec (suc i) x y) m' → Right es m r m'
  as_right x y m' e f g = subst (λ (p : Rec). Right es m p m') (is_record r (suc i) x y q.is_kind e f) g

  none_goes : letter_of (suc i) ≡ 0 → InOrder m ls → Goes es m r ls
  none_goes e o =
      let c = all_suited i q.listed in
      let b = inside 0 0 0 0 (row_of Routine (suc i)) r (rw e at c) q.in_row_lem in
      record { m' = m; right = as_right 0 0 m (omega (arith, b.1)) (omega (arith, b.3)) (of_none i q.listed e); ordered = o }

  action_goes : Distinct es → letter_of (suc i) ≡ a → proper es r.x ≡ true → InOrder m ls → Goes es m r ls
  action_goes d e p o =
      let c = all_suited i q.listed in
      let b = inside 1 999 0 0 (row_of Routine (suc i)) r (rw e at c) q.in_row_lem in
      let n = distinct_listed es r.x d b.0 p in
      record { m' = m; right = as_right r.x 0 m refl (omega (arith, b.3)) (of_action i r.x q.listed e p n.first_place b.0 n.within); ordered = o }

  number_goes : letter_of (suc i) ≡ k → InOrder m ls → Goes es m r ls
  number_goes e o =
      let c = all_suited i q.listed in
      let b = inside 0 9999 0 0 (row_of Routine (suc i)) r (rw e at c) q.in_row_lem in
      record { m' = m; right = as_right r.x 0 m refl (omega (arith, b.3)) (of_number i r.x q.listed e b.1); ordered = o }

  label_goes : letter_of (suc i) ≡ s → tags (signs_of (suc i)) ≡ s ∷ [] → InOrder m (r.x ∷ ls) → Goes es m r ls
  unfolding same
  label_goes e tg o =
      let c = all_suited i q.listed in
      let b = inside 1 999 0 0 (row_of Routine (suc i)) r (rw (e, tg) at c) q.in_row_lem in
      let g = given_one m r.x o.0 o.1 b.1 few in
      record { m' = greater m r.x; right = as_right r.x 0 (greater m r.x) refl (omega (arith, b.3)) (of_label i r.x (greater m r.x) q.listed e tg g); ordered = o.2 }

  labels_goes : letter_of (suc i) ≡ s → tags (signs_of (suc i)) ≡ s ∷ t ∷ [] → InOrder m (r.x ∷ r.y ∷ ls) → Goes es m r ls
  unfolding same
  labels_goes e tg o =
      let c = all_suited i q.listed in
      let b = inside 1 999 1 999 (row_of Routine (suc i)) r (rw (e, tg) at c) q.in_row_lem in
      let m₁ = greater m r.x in
      let g = given_one m r.x o.0 o.1 b.1 few in
      let g' = given_one m₁ r.y o.2.0 o.2.1 b.3 g.few in
      record { m' = greater m₁ r.y; right = as_right r.x r.y (greater m₁ r.y) refl refl (of_labels i r.x r.y m₁ (greater m₁ r.y) q.listed e tg g g'); ordered = o.2.2 }

  goes : Distinct es → (eqb (letter_of (suc i)) a ≡ true → proper es r.x ≡ true) → InOrder m (map (tagged r) (tags (signs_of (suc i))) ++ ls) → Goes es m r ls
  goes d p o =
      by_letter i q.listed
      (λ e. with_tags i q.listed e (λ tg. label_goes e tg (rw tg at o)) (λ tg. labels_goes e tg (rw tg at o)))
      (λ e. none_goes e (rw (no-tags i q.listed (rw e)) at o))
      (λ e. action_goes d e (p (rw e)) (rw (no-tags i q.listed (rw e)) at o))
      (λ e. number_goes e (rw (no-tags i q.listed (rw e)) at o))

-- ## All of them

routine_right : (n : ℕ) (es : List (List ℕ)) (m : ℕ) (rs : List Rec) → 1 ≤ n → m ≤ 999 → Distinct es → paper.All Ranged rs → nameless_from n es rs ≡ 0 → InOrder m (label_numbers rs) → Rights es m rs
routine_right n es m [] lo few d p e o = no_more m
routine_right n es m (r ∷ rs) lo few d p e o =
    let q = p.0 in
    let h = named_first n es r rs lo e in
    let g = goes es m few r (label_numbers rs) q d (λ c. h.0 (rw q.is_kind c)) (subst (λ (j : ℕ). InOrder m (map (tagged r) (tags (signs_of j)) ++ label_numbers rs)) q.is_kind o) in
    one_more m g.m' r rs g.right (routine_right (suc n) es g.m' rs (omega arith) (right_few few g.right) d p.1 h.1 g.ordered)

pub routine_back : RoutineBack
unfolding text_written
routine_back f l text n e d o =
    let w = writable f l text n e in
    let g = fine Routine f w.checked in
    text_again (routine_right 1 (entries l) 0 (records f) (omega arith) (omega arith) d (faultless 1 (count f) f g.faultless) w.all_named o)

-- Labels in the bytes of a routine, one record at a time.
--     after, after_start, after_out, other_kind, other_label, label_here     the first label behind a record
--     placed     what was found, as a number
--     lost-kind     a record is a lost goto by its kind and numbers
--     lowest     the first lost goto from the left is the lowest
use mathlib.Core.Path.{◌≡◌, refl, sym, ap, ◌∙◌}
use Prim.Native.Nat.{ℕ, zero, suc, ◌+◌, ◌-◌, ◌*◌, ◌≤◌, ◌<◌}
use native.Mathlib.Nat.{add-zero}
use native.Mathlib.Numerals.{add-one}
use native.Mathlib.Omega.{arith}
use mathlib.Core.Bool.{Bool, true, false, cond, ◌&&◌, ◌||◌}
use Rattle.std.specs.Prelude.{Option, None, Some, unwrap_or}
use Rattle.std.specs.List.{find, range_with_len}
use mathlib.Core.List.{List, ◌∷◌}
use lib.ListN.{drop, get_or, get_or-map}
use lib.Dec.{eqb}
use borrow.Author.Tests.{eq-eqb, ne_eqb}
use Rattle.rules.specs.Record.{Rec, count}
use Rattle.rules.specs.Instruction.{Op, jump, act_of, written, decode, encode, ops}
use Rattle.rules.specs.Numbers.{or_zero, found}
use Rattle.rules.specs.Labels.{is_label, label_from, label_after, target, target2, missing, lost, lost_from, lost_goto}
use Rattle.laws.proofs.Records.{record_at, ops-drop, ops-end}
use Rattle.laws.proofs.Instructions.{tabulated}
use Rattle.records.specs.Reading.{rec_at}
use Rattle.records.proofs.Reading.{rec_at_lem}
use Rattle.labels.specs.Lost.{lost_record, lost_at}

-- A record is [y] where its kind is 5 and its x is y.
label-kind : (y : ℕ) (r : Rec) → is_label y (decode r) ≡ eqb r.kind 5 && eqb r.x y
unfolding is_label decode written encode
label-kind y r =
    sym (get_or-map (is_label y) (jump 0 ∷ written (act_of r.x r.y) r.x r.y) r.kind (jump 0))
    ∙ tabulated (λ k. eqb k 5 && eqb r.x y) false 0 17 r.kind (λ j h. rw (ne_eqb j 5 (λ e. omega arith)))
    ∙ ap (λ (k : ℕ). eqb k 5 && eqb r.x y) (add-zero r.kind)

-- The first [y] behind record number k.
abbrev pub after : List ℕ → ℕ → ℕ → Option ℕ
after s y k = label_from y (suc k) (drop k (ops s))

pub after_start : (s : List ℕ) (y i : ℕ) → label_after (ops s) i y ≡ after s y i
unfolding label_after
after_start s y i = refl

pub after_out : (s : List ℕ) (y k : ℕ) → count s ≤ k → after s y k ≡ None
unfolding label_from
after_out s y k h = ap (label_from y (suc k)) (ops-end s k h)

module _ (s : List ℕ) (y k : ℕ) (h : k < count s) where
  here : after s y k ≡ cond (eqb (get_or s (8 * k) 0) 5 && eqb (record_at s k).x y) (Some (k + 1)) (after s y (k + 1))
  unfolding label_from
  here =
      ap (label_from y (suc k)) (ops-drop s k h)
      ∙ rw (label-kind y (record_at s k))
      (ap (λ (j : ℕ). cond (eqb (get_or s (8 * k) 0) 5 && eqb (record_at s k).x y) (Some j) (after s y j)) (sym (add-one k)))

  x_of_lem : {x : ℕ} → x ≡ (rec_at s (k + 1)).x → (record_at s k).x ≡ x
  x_of_lem e =
      let j : k ≡ k + 1 - 1 = omega arith in
      ap (λ (i : ℕ). (record_at s i).x) j ∙ sym (ap (λ (r : Rec). r.x) (rec_at_lem s (k + 1) (λ z. omega arith) (omega arith))) ∙ sym e

  pub other_kind : ¬ (get_or s (8 * k) 0 ≡ 5) → after s y k ≡ after s y (k + 1)
  other_kind n = here ∙ rw (ne_eqb (get_or s (8 * k) 0) 5 n)

  module _ (x : ℕ) (e : get_or s (8 * k) 0 ≡ 5) (g : x ≡ (rec_at s (k + 1)).x) where
    pub other_label : ¬ (x ≡ y) → after s y k ≡ after s y (k + 1)
    other_label n = here ∙ rw (eq-eqb (get_or s (8 * k) 0) 5 e, x_of_lem g, ne_eqb _ y n)

    pub label_here : x ≡ y → after s y k ≡ Some (k + 1)
    label_here q = here ∙ rw (eq-eqb (get_or s (8 * k) 0) 5 e, x_of_lem g, eq-eqb _ y q)

pub ruleset label_read = (after_start, after_out, other_kind, other_label, label_here)

-- A number, 0 where nothing was found.
pub placed : {k : ℕ} {a : Option ℕ} (o : Option ℕ) → k ≡ unwrap_or a 0 → a ≡ o → k ≡ or_zero o
unfolding or_zero
placed None e f = e ∙ ap (λ (x : Option ℕ). unwrap_or x 0) f
placed (Some k) e f = e ∙ ap (λ (x : Option ℕ). unwrap_or x 0) f

-- ## Lost gotos

lost-kind : (L : List Op) (r : Rec) → lost L (decode r) ≡ lost_record L r
unfolding lost lost_record decode written encode
lost-kind L r =
    sym (get_or-map (lost L) (jump 0 ∷ written (act_of r.x r.y) r.x r.y) r.kind (jump 0))
    ∙ tabulated by false 0 17 r.kind (λ j h. rw (ne_eqb j 6 (λ e. omega arith), ne_eqb j 7 (λ e. omega arith)))
    ∙ ap by (add-zero r.kind)
  where
    by : ℕ → Bool
    by k = eqb k 6 && missing (target L r.x) || eqb k 7 && missing (target2 L r.x r.y)

-- The lowest lost goto behind record number k.
losts_from : List ℕ → ℕ → ℕ
losts_from s k = lost_from (ops s) (suc k) (drop k (ops s))

losts_out : (s : List ℕ) (k : ℕ) → count s ≤ k → losts_from s k ≡ 0
unfolding lost_from losts_from
losts_out s k h = ap (lost_from (ops s) (suc k)) (ops-end s k h)

losts_here : (s : List ℕ) (k : ℕ) → k < count s → losts_from s k ≡ cond (lost_at s (k + 1)) (k + 1) (losts_from s (k + 1))
unfolding lost_from losts_from
losts_here s k h =
    let j : k ≡ k + 1 - 1 = omega arith in
    let e : lost_record (ops s) (record_at s k) ≡ lost_at s (k + 1) = ap (λ (i : ℕ). lost_record (ops s) (record_at s i)) j ∙ sym (ap (lost_record (ops s)) (rec_at_lem s (k + 1) (λ z. omega arith) (omega arith))) in
    ap (lost_from (ops s) (suc k)) (ops-drop s k h)
    ∙ rw (lost-kind (ops s) (record_at s k), e)
    (ap (λ (j : ℕ). cond (lost_at s (k + 1)) j (lost_from (ops s) (suc j) (drop j (ops s)))) (sym (add-one k)))

lowest_from : (s : List ℕ) (m k : ℕ) → k + m ≡ count s → find (lost_at s) (range_with_len (k + 1) m) ≡ found (losts_from s k)
lowest_from s zero k e = sym (ap found (losts_out s k (omega arith)))
lowest_from s (suc m) k e = sym (ap found (losts_here s k (omega arith)) ∙ by (lost_at s (k + 1)) ∙ ap (λ (o : Option ℕ). cond (lost_at s (k + 1)) (Some (k + 1)) o) (sym (lowest_from s m (k + 1) (omega arith))))
  where
    by : (b : Bool) → found (cond b (k + 1) (losts_from s (k + 1))) ≡ cond b (Some (k + 1)) (found (losts_from s (k + 1)))
    by true = rw add-one
    by false = refl

pub lowest : (s : List ℕ) → find (lost_at s) (range_with_len 1 (count s)) ≡ found (lost_goto (ops s))
unfolding lost_goto losts_from
lowest s = lowest_from s (count s) 0 (omega arith)

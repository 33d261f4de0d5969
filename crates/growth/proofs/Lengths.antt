-- The places added in the base, over the bytes of a routine: what the table's row of each record's kind says.
--     row_adds, row_read     what the row of a kind says that it adds, and how the row is found
--     skips_from, skips_start, skips_out, no_test, next_adds_not, next_adds     refusal 6, one record at a time
--     sum_next, sum_out, base_none, base_is, base_starts, base_bound     the converted length, one record at a time, and its bound
use mathlib.Core.Path.{◌≡◌, refl, sym, ap, ◌∙◌}
use Prim.Native.Nat.{ℕ, suc, ◌+◌, ◌-◌, ◌*◌, ◌≤◌, ◌<◌}
use native.Mathlib.Nat.{add-zero, mul-le-mul, mul-le-mul_left}
use native.Mathlib.Numerals.{add-one}
use native.Mathlib.Omega.{arith}
use mathlib.Core.Bool.{Bool, true, false, not, cond, ◌&&◌, ◌||◌, and-false}
use Rattle.std.specs.Prelude.{Option, None, Some}
use mathlib.Core.List.{List, [], ◌∷◌}
use lib.ListN.{length, drop, get_or, get_or-map}
use lib.Dec.{eqb, leb}
use borrow.Author.Tests.{eq-eqb, ne_eqb, le-leb, lt-leb, leb-true, leb-false}
use Rattle.rules.specs.declared.Row.{Row}
use Rattle.rules.specs.declared.Notation.TheVariants.{Routine}
use Rattle.rules.specs.Record.{Rec, count}
use Rattle.rules.specs.Numbers.{found}
use Rattle.rules.specs.Table.{row_of}
use Rattle.rules.specs.Instruction.{Op, jump, act_of, written, decode, encode, ops}
use Rattle.rules.specs.Skip.{added_by, added, adding, plain_test, skip_from, skip, added_all, converted_length}
use Rattle.laws.proofs.Records.{record_at, ops-length, ops-drop, ops-end}
use Rattle.laws.proofs.Instructions.{tabulated}
use Rattle.laws.proofs.Length.{once_of, return_of, added-kind, ones, returns, converted_counts, added_here}
use Rattle.growth.specs.Length.{test_kind, base_length}

-- ## What a kind adds

bounded : (t : Bool) (x : ℕ) → x ≤ 1 → cond t 1 x ≤ 1
bounded true x h = omega arith
bounded false x h = h

once_small : (k : ℕ) → once_of k ≤ 1
unfolding once_of
once_small k = bounded (eqb k 8) _ (bounded (eqb k 9) _ (bounded (eqb k 12) _ (bounded (eqb k 13) _ (bounded (eqb k 15) 0 (omega arith)))))

return-small : (k : ℕ) → return_of k ≤ 1
unfolding return_of
return-small k = bounded (eqb k 16) 0 (omega arith)

added_small : (n k : ℕ) → added_by n (row_of Routine k) ≤ 6 * n + 1
added_small n k = omega (arith, added-kind n k, once_small k, mul-le-mul_left (6 * n) (return-small k))

-- A kind without a row adds nothing; of any other the row says it, and the sum is small.
pub no_row : (n : ℕ) → added_by n None ≡ 0
unfolding added_by
no_row n = refl

pub row_adds : (row : Row) (n : ℕ) → row.once + row.each * n ≡ added_by n (Some row)
unfolding added_by
row_adds row n = refl

pub row_small : (row : Row) (k n : ℕ) → row_of Routine k ≡ Some row → row.once + row.each * n ≤ 6 * n + 1
unfolding added_by
row_small row k n e = omega (arith, added_small n k, ap (added_by n) e)

pub ruleset row_read = (no_row, row_adds, row_small)

-- The row of the kind of the record after the first k, and what it adds.
abbrev row_at : List ℕ → ℕ → Option Row
row_at s k = row_of Routine (get_or s (8 * k) 0)

module _ (s : List ℕ) (k : ℕ) (h : k < count s) where
  sum_here : (n : ℕ) → added_all n (drop k (ops s)) ≡ added_by n (row_at s k) + added_all n (drop (k + 1) (ops s))
  sum_here n =
      let j : added_all n (drop (suc k) (ops s)) ≡ added_all n (drop (k + 1) (ops s)) = ap (λ (i : ℕ). added_all n (drop i (ops s))) (sym (add-one k)) in
      omega (arith, added_here s k h n, added-kind n (get_or s (8 * k) 0))

-- ## Refusal 6

test_kind_lem : (r : Rec) → plain_test (decode r) ≡ test_kind r.kind
unfolding plain_test decode written encode test_kind
test_kind_lem r =
    sym (get_or-map plain_test (jump 0 ∷ written (act_of r.x r.y) r.x r.y) r.kind (jump 0))
    ∙ tabulated (λ k. eqb k 2 || eqb k 3) false 0 17 r.kind (λ j h. rw (ne_eqb j 2 (λ e. omega arith), ne_eqb j 3 (λ e. omega arith)))
    ∙ ap (λ (k : ℕ). eqb k 2 || eqb k 3) (add-zero r.kind)

adding-row : (s : List ℕ) (k : ℕ) → k < count s → adding (decode (record_at s k)) ≡ not (eqb (added_by 1 (row_at s k)) 0)
unfolding adding added_all
adding-row s k h =
    let e : added 1 (decode (record_at s k)) ≡ added_by 1 (row_at s k) = omega (arith, added-kind 1 (get_or s (8 * k) 0), added_here s k h 1, ap (added_all 1) (ops-drop s k h)) in
    ap (λ (a : ℕ). not (eqb a 0)) e

skip_pair : (i : ℕ) (o p : Op) (os ps : List Op) → ps ≡ p ∷ os → skip_from i (o ∷ ps) ≡ cond (plain_test o && adding p) i (skip_from (suc i) ps)
unfolding skip_from
skip_pair i o p os ps e = rw e

-- The lowest test before an adding kind, from record number k on.
abbrev pub skips_from : List ℕ → ℕ → ℕ
skips_from s k = skip_from k (drop (k - 1) (ops s))

pub skips_start : (s : List ℕ) → skip (ops s) ≡ skips_from s 1
unfolding skip
skips_start s = refl

module _ (s : List ℕ) (k : ℕ) (l : 1 ≤ k) where
  module _ (h : k < count s) where
    skips_here : skips_from s k ≡ cond (test_kind (get_or s (8 * (k - 1)) 0) && not (eqb (added_by 1 (row_at s k)) 0)) k (skips_from s (k + 1))
    skips_here =
        let e : suc (k - 1) ≡ k = omega arith in
        let j : suc k ≡ k + 1 = omega arith in
        let i : k ≡ k + 1 - 1 = omega arith in
        ap (skip_from k) (ops-drop s (k - 1) (omega arith))
        ∙ ap (λ (i : ℕ). skip_from k (decode (record_at s (k - 1)) ∷ drop i (ops s))) e
        ∙ skip_pair k (decode (record_at s (k - 1))) (decode (record_at s k)) _ _ (ops-drop s k h)
        ∙ rw (test_kind_lem (record_at s (k - 1)), adding-row s k h, j)
        (ap (λ (i : ℕ). cond (test_kind (get_or s (8 * (k - 1)) 0) && not (eqb (added_by 1 (row_at s k)) 0)) k (skip_from (k + 1) (drop i (ops s)))) i)

    pub no_test : test_kind (get_or s (8 * (k - 1)) 0) ≡ false → skips_from s k ≡ skips_from s (k + 1)
    no_test e = skips_here ∙ rw e

    pub next_adds_not : added_by 1 (row_at s k) ≡ 0 → skips_from s k ≡ skips_from s (k + 1)
    next_adds_not e = skips_here ∙ rw (eq-eqb _ 0 e, and-false)

    pub next_adds : test_kind (get_or s (8 * (k - 1)) 0) ≡ true → ¬ (added_by 1 (row_at s k) ≡ 0) → found (skips_from s k) ≡ Some k
    next_adds t z =
        let e : suc (k - 1) ≡ k = omega arith in
        ap found (skips_here ∙ rw (t, ne_eqb _ 0 z)) ∙ ap found (sym e) ∙ ap Some e

  pub skips_out : count s ≤ k → found (skips_from s k) ≡ None
  unfolding skip_from
  skips_out h = by (leb (count s) (k - 1)) refl
    where
      by : (t : Bool) → leb (count s) (k - 1) ≡ t → found (skips_from s k) ≡ None
      by true e = ap (λ (os : List Op). found (skip_from k os)) (ops-end s (k - 1) (leb-true (count s) (k - 1) e))
      by false e =
          ap (λ (os : List Op). found (skip_from k os))
          (ops-drop s (k - 1) (leb-false (count s) (k - 1) e) ∙ ap (λ (os : List Op). decode (record_at s (k - 1)) ∷ os) (ops-end s (suc (k - 1)) (omega arith)))

pub ruleset skips_read = (skips_start, skips_out, no_test, next_adds_not)

-- ## The converted length

module _ (s : List ℕ) where
  -- The places that the records after the first k add.
  abbrev pub added_from : ℕ → ℕ
  added_from k = added_all (count s) (drop k (ops s))

  pub sum_next : (k : ℕ) → k < count s → added_from k ≡ added_by (count s) (row_at s k) + added_from (k + 1)
  sum_next k h = sum_here s k h (count s)

  pub sum_out : (k : ℕ) → count s ≤ k → added_from k ≡ 0
  unfolding added_all
  sum_out k h = ap (added_all (count s)) (ops-end s k h)

  pub base_none : 512 < count s → base_length s ≡ 0
  unfolding base_length
  base_none h = rw (lt-leb (count s) 512 h)

  pub base_is : count s ≤ 512 → base_length s ≡ converted_length (ops s)
  unfolding base_length
  base_is h = rw (le-leb (count s) 512 h)

  pub base_starts : count s ≤ 512 → base_length s ≡ count s + added_from 0
  unfolding converted_length
  base_starts h = base_is h ∙ rw ops-length

counts_small : (L : List Op) → (ones L ≤ length L) × (returns L ≤ length L)
unfolding ones returns
counts_small [] = (omega arith, omega arith)
counts_small (o ∷ os) = let r = counts_small os in (omega (arith, once_small (encode o).kind, r.0), omega (arith, return-small (encode o).kind, r.1))

pub base_bound : (s : List ℕ) → count s ≤ 512 → base_length s ≤ 1573888
base_bound s h =
    let l = ops-length s in
    let c = counts_small (ops s) in
    let r : returns (ops s) ≤ 512 = omega (arith, c.1) in
    let n : length (ops s) ≤ 512 = omega arith in
    let m : returns (ops s) * length (ops s) ≤ 512 * 512 = mul-le-mul r n in
    omega (arith, base_is s h, converted_counts (ops s), c.0)

pub ruleset sums_read = (sum_next, sum_out, base_none, base_starts, base_bound)

-- Reading on stays in the text.
--     past_end, in_text       past its end no byte is of a sort, and one that is of a sort is in it
--     byte_there              nor is a byte that is not 0 past its end
--     span-within             a run of bytes of a sort stays in it
--     Reach, take_reach       a sign that is there takes a byte and stays in it; one that is not stops in it
use mathlib.Core.Path.{◌≡◌, refl, sym, ap, ◌∙◌}
use Prim.Native.Nat.{◌≤◌, ◌<◌}
use native.Mathlib.Omega.{arith}
use lib.ListN.{get_or-eq_default}
use borrow.Author.Tests.{ltb-true, ltb-false, eqb-true, eqb-false, leb-false}
use Rattle.std.specs.Prelude.{◌+◌, Result, Ok, Err}
use Rattle.rules.specs.Words.{ℕ, zero, suc, true, false, cond, List, length, eqb, leb, ltb}
use Rattle.text.specs.declared.Sort.{Sort}
use Rattle.text.specs.declared.Sort.TheVariants.{Blank, Digit, Named}
use Rattle.text.specs.Bytes.{byte_at, blank, digit, letter, in_sort, run, span}
use Rattle.text.specs.Forms.{Part, itself, name, number, part_of, take_run, take_part, take_sign}
use Rattle.text.proofs.Tests.{by_test, cond_has, never}

none_zero : (c : Sort) → in_sort c 0 ≡ false
unfolding in_sort blank digit letter
none_zero Blank = refl
none_zero Digit = refl
none_zero Named = refl

pub past_end : (c : Sort) (w : List ℕ) (at : ℕ) → length w ≤ at → in_sort c (byte_at w at) ≡ false
past_end c w at h = ap (in_sort c) (get_or-eq_default w 0 h) ∙ none_zero c

pub in_text : (c : Sort) (w : List ℕ) (at : ℕ) → in_sort c (byte_at w at) ≡ true → at < length w
in_text c w at h =
    by_test (ltb at (length w)) (ltb-true at (length w)) (λ e. never (sym h ∙ past_end c w at (ltb-false at (length w) e)))

pub span-within : (c : Sort) (w : List ℕ) (at n : ℕ) → at ≤ length w → at + span c w at n ≤ length w
unfolding run
span-within c w at zero h = omega arith
span-within c w at (suc n) h =
    by_test (in_sort c (byte_at w at))
    (λ t. let r : suc at + span c w (suc at) n ≤ length w = span-within c w (suc at) n (in_text c w at t) in rw t (omega arith))
    (λ t. rw t (omega arith))

abbrev pub Reach : List ℕ → ℕ → Result ℕ ℕ → Type 0
Reach w at (Ok e) = (at < e) × (e ≤ length w)
Reach w at (Err e) = (at ≤ e) × (e ≤ length w)

module _ (w : List ℕ) (at : ℕ) where
  pub byte_there : (byte_at w at ≡ 0 → ⊥) → at < length w
  byte_there h = by_test (ltb at (length w)) (ltb-true at (length w)) (λ e. absurd (h (get_or-eq_default w 0 (ltb-false at (length w) e))))

  run_reach : (c : Sort) (most : ℕ) → at ≤ length w → Reach w at (take_run c most w at)
  unfolding take_run
  run_reach c most h =
      let n = span c w at (suc most) in
      let i : at + n ≤ length w = span-within c w at (suc most) h in
      cond_has (Reach w at) (eqb n 0) (Err at) (cond (leb n most) (Ok (at + n)) (Err (at + most)))
      (λ e. (omega arith, omega arith))
      (λ e. cond_has (Reach w at) (leb n most) (Ok (at + n)) (Err (at + most))
      (λ l. (omega (arith, eqb-false n 0 e), omega arith))
      (λ l. (omega arith, omega (arith, leb-false n most l))))

  part_reach : (q : Part) (p : ℕ) → 0 < p → at ≤ length w → Reach w at (take_part q p w at)
  unfolding take_part
  part_reach itself p pos h =
      cond_has (Reach w at) (eqb (byte_at w at) p) (Ok (at + 1)) (Err at)
      (λ e. let b : at < length w = byte_there (λ z. omega (arith, eqb-true (byte_at w at) p e)) in (omega arith, omega arith))
      (λ _. (omega arith, omega arith))
  part_reach name p pos h = run_reach _ _ h
  part_reach number p pos h = run_reach _ _ h

  pub take_reach : (p : ℕ) → 0 < p → at ≤ length w → Reach w at (take_sign p w at)
  take_reach p pos h = part_reach (part_of p) p pos h

-- Digits read one after the other: one more, or the last; and how large the number then is.
use mathlib.Core.Path.{◌≡◌, refl}
use mathlib.Core.Bool.{true, false}
use mathlib.Core.List.{List}
use Prim.Native.Nat.{ℕ, zero, suc, ◌+◌, ◌*◌, ◌-◌, ◌≤◌, ◌<◌}
use native.Mathlib.Omega.{arith}
use Rattle.std.specs.Char.{is_ascii_digit}
use Rattle.text.specs.declared.Sort.TheVariants.{Digit}
use Rattle.text.specs.Bytes.{byte_at, digit, in_sort, run}
use Rattle.text.specs.Names.{value_of}
use Rattle.runs.proofs.Runs.{run_on, run_off}

-- ten to the i
abbrev pub tens : ℕ → ℕ
tens zero = 1
tens (suc i) = 10 * tens i

pub tens_on : (i : ℕ) → tens (i + 1) ≡ 10 * tens i
tens_on i = let e : i + 1 ≡ suc i = omega arith in rw e

pub tens_small : (i : ℕ) → i < 4 → tens i ≤ 1000
tens_small zero h = omega arith
tens_small (suc zero) h = omega arith
tens_small (suc (suc zero)) h = omega arith
tens_small (suc (suc (suc zero))) h = omega arith
tens_small (suc (suc (suc (suc i)))) h = absurd (omega arith)

-- a digit by the library's test is one by the definition
pub ascii : (b : ℕ) → is_ascii_digit b ≡ in_sort Digit b
unfolding in_sort digit
ascii b = refl

module _ (w : List ℕ) (at i v : ℕ) where
  pub number_on : i < 4 → in_sort Digit (byte_at w (at + i)) ≡ true
      → value_of (run Digit w (at + i) (4 - i)) v ≡ value_of (run Digit w (at + (i + 1)) (4 - (i + 1))) (10 * v + (byte_at w (at + i) - 48))
  unfolding value_of
  number_on lt h =
      let e : 4 - i ≡ suc (4 - (i + 1)) = omega arith in
      let d : at + (i + 1) ≡ suc (at + i) = omega arith in
      rw (e, run_on Digit w (at + i) (4 - (i + 1)) h, d)

  pub number_off : in_sort Digit (byte_at w (at + i)) ≡ false → value_of (run Digit w (at + i) (4 - i)) v ≡ v
  unfolding value_of
  number_off h = rw (run_off Digit w (at + i) (4 - i) h)

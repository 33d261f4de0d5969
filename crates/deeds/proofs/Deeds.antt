-- A kind that is none of 1 to 16 is no instruction.
use mathlib.Core.Path.{◌≡◌, refl, sym}
use Prim.Native.Nat.{ℕ, suc, ◌≤◌}
use native.Mathlib.Omega.{arith}
use mathlib.Core.Bool.{Bool, true, false}
use mathlib.Core.List.{List}
use lib.ListN.{get_or-eq_default}
use lib.Dec.{leb}
use borrow.Author.Tests.{leb-true, leb-false}
use Rattle.deeds.specs.declared.Deed.TheVariants.{Leap}
use Rattle.deeds.specs.Deeds.{rows, deed_of}

module _ (s ps : List ℕ) (i next k : ℕ) where
  above : (n : ℕ) → n ≤ k → ¬ (k ≡ n) → suc n ≤ k
  above n l z = omega arith

  pub row-none : ¬ (k ≡ 1) → ¬ (k ≡ 2) → ¬ (k ≡ 3) → ¬ (k ≡ 4) → ¬ (k ≡ 5) → ¬ (k ≡ 6) → ¬ (k ≡ 7) → ¬ (k ≡ 8) → ¬ (k ≡ 9) → ¬ (k ≡ 10) → ¬ (k ≡ 11) → ¬ (k ≡ 12) → ¬ (k ≡ 13) → ¬ (k ≡ 14) → ¬ (k ≡ 15) → ¬ (k ≡ 16)
      → Leap 0 ≡ deed_of s ps i next k
  unfolding deed_of rows
  row-none a1 a2 a3 a4 a5 a6 a7 a8 a9 a10 a11 a12 a13 a14 a15 a16 = by (leb 1 k) refl
    where
      by : (b : Bool) → leb 1 k ≡ b → Leap 0 ≡ deed_of s ps i next k
      by true e =
          let l : 1 ≤ k = leb-true 1 k e in
          sym (get_or-eq_default (rows i next _ _ _) (Leap 0) {n = k} (above 16 (above 15 (above 14 (above 13 (above 12 (above 11 (above 10 (above 9 (above 8 (above 7 (above 6 (above 5 (above 4 (above 3 (above 2 (above 1 l a1) a2) a3) a4) a5) a6) a7) a8) a9) a10) a11) a12) a13) a14) a15) a16))
      by false e = let z : k ≡ 0 = omega (arith, leb-false 1 k e) in rw z

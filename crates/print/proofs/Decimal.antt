-- A number in decimal, as code prints it, and how many digits it has.
--     decimal_one, decimal_more     a single digit; the last digit behind those of the tenth
--     decimal-length     a number below 10 ^ k has at most k digits
use mathlib.Core.Path.{◌≡◌, refl, ap, ◌∙◌}
use Prim.Native.Nat.{ℕ, zero, suc, ◌+◌, ◌/◌, ◌%◌, ◌^◌, ◌≤◌, ◌<◌}
use native.Mathlib.Nat.{pow-suc}
use native.Mathlib.Omega.{arith}
use mathlib.Core.Bool.{Bool, true, false, cond}
use mathlib.Core.List.{List, [], ◌∷◌, ◌++◌}
use lib.ListN.{length, length-append}
use lib.Dec.{ltb}
use borrow.Author.Tests.{lt-ltb, le-ltb, ltb-true, ltb-false}
use Rattle.print.specs.Text.{digit, digits, decimal}

-- any bound above the number does
bounds : (j k n : ℕ) → n < j → n < k → digits j n ≡ digits k n
unfolding digits
bounds zero k n h l = absurd (omega arith)
bounds (suc j) zero n h l = absurd (omega arith)
bounds (suc j) (suc k) n h l = by (ltb n 10) refl (λ f. bounds j k (n / 10) (omega arith) (omega arith))
  where
    by : (t : Bool) → ltb n 10 ≡ t → (10 ≤ n → digits j (n / 10) ≡ digits k (n / 10))
        → cond t (digit n ∷ []) (digits j (n / 10) ++ (digit (n % 10) ∷ [])) ≡ cond t (digit n ∷ []) (digits k (n / 10) ++ (digit (n % 10) ∷ []))
    by true e f = refl
    by false e f = ap (λ (ds : List ℕ). ds ++ (digit (n % 10) ∷ [])) (f (ltb-false n 10 e))

module _ (n : ℕ) where
  pub decimal_one : n < 10 → decimal n ≡ digit n ∷ []
  unfolding decimal digits
  decimal_one h = rw (lt-ltb n 10 h)

  pub decimal_more : 10 ≤ n → decimal n ≡ decimal (n / 10) ++ (digit (n % 10) ∷ [])
  unfolding decimal digits
  decimal_more h =
      rw (le-ltb n 10 h) (ap (λ (ds : List ℕ). ds ++ (digit (n % 10) ∷ [])) (bounds n (suc (n / 10)) (n / 10) (omega arith) (omega arith)))

  pub more_length : 10 ≤ n → length (decimal n) ≡ length (decimal (n / 10)) + 1
  more_length h = ap length (decimal_more h) ∙ length-append (decimal (n / 10)) (digit (n % 10) ∷ [])

pub decimal-length : (k n : ℕ) → n < 10 ^ suc k → length (decimal n) ≤ suc k
decimal-length zero n h = rw (decimal_one n h) (omega arith)
decimal-length (suc k) n h = by (ltb n 10) refl (λ l. decimal-length k (n / 10) (omega (arith, pow-suc 10 (suc k))))
  where
    by : (t : Bool) → ltb n 10 ≡ t → (10 ≤ n → length (decimal (n / 10)) ≤ suc k) → length (decimal n) ≤ suc (suc k)
    by true e f = rw (decimal_one n (ltb-true n 10 e)) (omega arith)
    by false e f = let l = ltb-false n 10 e in omega (arith, more_length n l, f l)

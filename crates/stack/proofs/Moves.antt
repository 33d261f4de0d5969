-- Numbers in 1..n, and moves to them or to 0.
use mathlib.Core.Path.{◌≡◌, refl}
use Prim.Native.Nat.{ℕ, zero, suc, ◌≤◌}
use native.Mathlib.Omega.{arith}
use mathlib.Core.Bool.{true, false}
use lib.Dec.{leb}
use borrow.Author.Tests.{le-leb, leb-true}
use Rattle.rules.specs.Numbers.{names, move_to}

pub names-leb : (n k : ℕ) → ¬ (k ≡ 0) → names n k ≡ leb k n
unfolding names
names-leb n zero h = absurd (h refl)
names-leb n (suc k) h = refl

pub named : (n k : ℕ) → names n k ≡ true → (1 ≤ k) × (k ≤ n)
unfolding names
named n zero e = absurd (let z : ◌≡◌ {A = ℕ} 0 1 = cc in omega arith)
named n (suc k) e = (omega arith, leb-true (suc k) n e)

pub move_in : (n k : ℕ) → k ≤ n → move_to n k ≡ k
unfolding move_to names
move_in n zero h = refl
move_in n (suc k) h = rw (le-leb (suc k) n h)

pub move_named : (n k : ℕ) → names n k ≡ true → move_to n k ≡ k
unfolding move_to
move_named n k e = rw e

pub move_out : (n k : ℕ) → names n k ≡ false → move_to n k ≡ 0
unfolding move_to
move_out n k e = rw e

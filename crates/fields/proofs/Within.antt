-- Which kinds 1..n holds.
use mathlib.Core.Path.{◌≡◌, refl}
use Prim.Native.Nat.{ℕ, zero, suc}
use native.Mathlib.Omega.{arith}
use mathlib.Core.Bool.{◌&&◌}
use lib.Dec.{leb}
use borrow.Author.Tests.{le-leb}
use Rattle.rules.specs.Numbers.{names}

-- 1..n holds what is not below 1 and not above n
pub names_range : (n k : ℕ) → names n k ≡ (leb 1 k && leb k n)
unfolding names
names_range n zero = refl
names_range n (suc k) = rw (le-leb 1 (suc k) (omega arith))

-- A number that may be none, as an answer.
use mathlib.Core.Path.{◌≡◌, refl}
use Prim.Native.Nat.{ℕ, zero, suc}
use native.Mathlib.Omega.{arith}
use Rattle.std.specs.Prelude.{None, Some}
use Rattle.rules.specs.Numbers.{found}

pub found_some : (k : ℕ) → (k ≡ 0 → ⊥) → found k ≡ Some k
found_some zero h = absurd (h refl)
found_some (suc k) h = refl

pub none_found : (k : ℕ) → None ≡ found k → k ≡ 0
none_found zero e = refl
none_found (suc k) e = absurd (let z : ◌≡◌ {A = ℕ} 0 1 = cc in omega arith)

pub some_found : (k x : ℕ) → Some x ≡ found k → (k ≡ x) × (k ≡ 0 → ⊥)
some_found zero x e = absurd (let z : ◌≡◌ {A = ℕ} 0 1 = cc in omega arith)
some_found (suc k) x e = (let z : suc k ≡ x = cc in z, λ z. omega arith)

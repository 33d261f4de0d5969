-- A test and what holds by it.
--     by_test      by a test, with what it says
--     cond_has     a choice has what each of its sides has where the test leads to it
--     never        a test does not go both ways
use mathlib.Core.Path.{◌≡◌, refl}
use Rattle.rules.specs.Words.{Bool, true, false, cond}

pub by_test : {P : Type 0} (t : Bool) → (t ≡ true → P) → (t ≡ false → P) → P
by_test true f g = f refl
by_test false f g = g refl

pub cond_has : {X : Type 0} (P : X → Type 0) (b : Bool) (x y : X) → (b ≡ true → P x) → (b ≡ false → P y) → P (cond b x y)
cond_has P true x y f g = f refl
cond_has P false x y f g = g refl

pub never : {P : Type 0} → true ≡ false → P
never h = cc

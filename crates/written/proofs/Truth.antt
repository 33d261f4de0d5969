-- Laws of truth values: what a test that computes tells.
use mathlib.Core.Path.{◌≡◌, refl, sym}
use Prim.Native.Nat.{◌≤◌}
use lib.Dec.{T}
use borrow.Author.Tests.{eqb-true, leb-true}
use Rattle.std.specs.Prelude.{◌&&◌, ◌||◌}
use Rattle.rules.specs.Words.{ℕ, Bool, true, false, eqb, leb}
use Rattle.text.proofs.Tests.{never}

pub T_true : (b : Bool) → T b → b ≡ true
T_true true h = refl
T_true false h = absurd h

pub is_T : (b : Bool) → b ≡ true → T b
is_T true h = tt
is_T false h = never (sym h)

pub T_le : (m n : ℕ) → T (leb m n) → m ≤ n
T_le m n h = leb-true m n (T_true _ h)

pub T_eq : (m n : ℕ) → T (eqb m n) → m ≡ n
T_eq m n h = eqb-true m n (T_true _ h)

pub or_left : (b c : Bool) → T b → T (b || c)
or_left true c h = tt
or_left false c h = absurd h

pub or_right : (b c : Bool) → T c → T (b || c)
or_right true c h = tt
or_right false c h = h

pub and_left : (b c : Bool) → (b && c) ≡ true → b ≡ true
and_left true c h = refl
and_left false c h = h

pub and_right : (b c : Bool) → (b && c) ≡ true → c ≡ true
and_right true c h = h
and_right false c h = never (sym h)

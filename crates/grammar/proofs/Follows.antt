-- Following a form: a sign that is there takes a byte and stays in the text, one that is not stops in the text. So a form that is
-- followed from a place goes on from there.
use mathlib.Core.Path.{◌≡◌, refl, sym}
use Prim.Native.Nat.{◌≤◌, ◌<◌}
use Prim.Native.Char.{code}
use native.Mathlib.Omega.{arith}
use lib.Dec.{T}
use borrow.Author.Tests.{eqb-false}
use Rattle.std.specs.Prelude.{◌+◌, ◌&&◌, ◌||◌, ◌∷◌, Result, Ok, Err}
use Rattle.rules.specs.Words.{ℕ, zero, suc, Bool, true, false, not, List, [], length, get_or, eqb}
use Rattle.text.specs.declared.Sort.TheVariants.{Blank}
use Rattle.text.specs.declared.Fit.{Fit}
use Rattle.text.specs.Bytes.{byte_at, span}
use Rattle.text.specs.Forms.{forms, signs_of, take_sign, x_at, y_at, fit, ending, going, follow}
use Rattle.text.proofs.Tests.{cond_has, never}
use Rattle.text.proofs.Reach.{Reach, take_reach}

-- ## What holds of each form, by one test over them all

abbrev every : (List ℕ → Bool) → List (List ℕ) → Bool
every q [] = true
every q (f ∷ fs) = q f && every q fs

pub left : (b c : Bool) → T (b && c) → T b
left true c h = tt
left false c h = h

pub right : (b c : Bool) → T (b && c) → T c
right true c h = h
right false c h = absurd h

each : (q : List ℕ → Bool) → T (q []) → (fs : List (List ℕ)) (i : ℕ) → T (every q fs) → T (q (get_or fs i []))
each q e [] i n = e
each q e (f ∷ fs) zero n = left (q f) (every q fs) n
each q e (f ∷ fs) (suc i) n = each q e fs i (right (q f) (every q fs) n)

pub each_form : (q : List ℕ → Bool) → T (every q ([] ∷ forms)) → T (q []) → (i : ℕ) → T (q (signs_of i))
each_form q n e i = each q e ([] ∷ forms) i n

-- All signs are above zero.
abbrev pub positive : List ℕ → Bool
positive [] = true
positive (p ∷ ps) = not (eqb p 0) && positive ps

pub forms_positive : (i : ℕ) → T (positive (signs_of i))
forms_positive i = each_form positive tt tt i

pub above : (p : ℕ) (ps : List ℕ) → T (positive (p ∷ ps)) → 0 < p
above p ps ok = by (eqb p 0) refl ok
  where
    by : (b : Bool) → eqb p 0 ≡ b → T (not b && positive ps) → 0 < p
    by true h z = absurd z
    by false h z = omega (arith, eqb-false p 0 h)

pub rest : (p : ℕ) (ps : List ℕ) → T (positive (p ∷ ps)) → T (positive ps)
rest p ps ok = right (not (eqb p 0)) (positive ps) ok

-- ## A form goes on from where it is

-- Where the blanks from `at` on end, and whether an instruction may end there.
abbrev pub blanked : List ℕ → ℕ → ℕ
blanked w at = at + span Blank w at (length w)

abbrev pub ended : List ℕ → ℕ → Bool
ended w e = eqb e (length w) || eqb (byte_at w e) (code ";")

-- Behind a form the text is followed to the blanks' end, and past it where the form is whole.
pub ending_has : (P : Fit → Type 0) (i : ℕ) (w : List ℕ) (at x y : ℕ)
    → (ended w (blanked w at) ≡ true → P (fit i true (blanked w at + 1) x y)) → (ended w (blanked w at) ≡ false → P (fit i false (blanked w at) x y))
    → P (ending i w at x y)
unfolding ending
ending_has P i w at x y f g = cond_has P (ended w (blanked w at)) (fit i true (blanked w at + 1) x y) (fit i false (blanked w at) x y) f g

pub ending_from : (i : ℕ) (w : List ℕ) (at x y : ℕ) → at ≤ (ending i w at x y).far
ending_from i w at x y = ending_has (λ (f : Fit). at ≤ f.far) i w at x y (λ _. omega arith) (λ _. omega arith)

pub ending-ahead : (i : ℕ) (w : List ℕ) (at x y : ℕ) → (ending i w at x y).whole ≡ true → at < (ending i w at x y).far
ending-ahead i w at x y = ending_has (λ (f : Fit). f.whole ≡ true → at < f.far) i w at x y (λ _ _. omega arith) (λ _ h. never (sym h))

module _ (i : ℕ) (w : List ℕ) where
  pub follow_from : (ps : List ℕ) (at x y : ℕ) → T (positive ps) → at ≤ length w → at ≤ (follow i ps w at x y).far
  unfolding follow
  follow_from [] at x y ok le = ending_from i w at x y
  follow_from (p ∷ ps) at x y ok le = by (λ e x' y'. follow_from ps e x' y' (rest p ps ok)) (take_sign p w at) (take_reach w at p (above p ps ok) le)
    where
      by : ((e x' y' : ℕ) → e ≤ length w → e ≤ (follow i ps w e x' y').far) → (r : Result ℕ ℕ) → Reach w at r
          → at ≤ (going r (λ e. follow i ps w e (x_at p at x) (y_at p at y)) (λ e. fit i false e x y)).far
      by go (Ok e) h = let z : e ≤ (follow i ps w e (x_at p at x) (y_at p at y)).far = go e (x_at p at x) (y_at p at y) h.1 in omega (arith, h.0)
      by go (Err e) h = h.0

  pub follow-ahead : (ps : List ℕ) (at x y : ℕ) → T (positive ps) → at ≤ length w → (follow i ps w at x y).whole ≡ true → at < (follow i ps w at x y).far
  unfolding follow
  follow-ahead [] at x y ok le h = ending-ahead i w at x y h
  follow-ahead (p ∷ ps) at x y ok le h = by (λ e x' y'. follow-ahead ps e x' y' (rest p ps ok)) (take_sign p w at) (take_reach w at p (above p ps ok) le) h
    where
      by : ((e x' y' : ℕ) → e ≤ length w → (follow i ps w e x' y').whole ≡ true → e < (follow i ps w e x' y').far) → (r : Result ℕ ℕ) → Reach w at r
          → (going r (λ e. follow i ps w e (x_at p at x) (y_at p at y)) (λ e. fit i false e x y)).whole ≡ true
          → at < (going r (λ e. follow i ps w e (x_at p at x) (y_at p at y)) (λ e. fit i false e x y)).far
      by go (Ok e) q h = let z : e < (follow i ps w e (x_at p at x) (y_at p at y)).far = go e (x_at p at x) (y_at p at y) q.1 h in omega (arith, q.0)
      by go (Err e) q h = never (sym h)

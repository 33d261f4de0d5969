-- Where the best form ends: at or after its start, after it where it is whole; and its names are in the text.
use mathlib.Core.Path.{◌≡◌}
use mathlib.Core.Bool.{true, false, ◌||◌}
use mathlib.Core.List.{List, [], ◌∷◌}
use Prim.Native.Nat.{ℕ, zero, suc, ◌+◌, ◌≤◌, ◌<◌}
use native.Mathlib.Omega.{arith}
use lib.Dec.{T, eqb, ltb}
use lib.ListN.{length}
use Rattle.text.specs.declared.Sort.TheVariants.{Blank}
use Rattle.std.specs.Prelude.{Result, Ok, Err}
use Rattle.text.specs.declared.Fit.{Fit}
use Rattle.text.specs.Bytes.{byte_at, span}
use Rattle.text.specs.Forms.{a, k, s, t, signs_of, take_sign, x_at, y_at, ending, fit, going, follow, fit_of, further, best_to}
use Rattle.text.proofs.Tests.{cond_has}
use Rattle.text.proofs.Reach.{span-within, Reach, take_reach}
use Rattle.signs.proofs.Signs.{positive, above, all_positive}

pub record Inside (w : List ℕ) (at n : ℕ) (f : Fit) : Type 0 where
  pub number : f.form ≤ n
  pub upto : f.far ≤ length w + 1
  pub x : f.x ≤ length w
  pub y : f.y ≤ length w
  pub ahead : f.whole ≡ true → at < f.far

module _ (w : List ℕ) (at n i : ℕ) (le : i ≤ n) where
  stuck : (e x y : ℕ) → e ≤ length w → x ≤ length w → y ≤ length w → Inside w at n (fit i false e x y)
  stuck e x y hi hx hy = record { number = le; upto = omega arith; x = hx; y = hy; ahead = λ z. cc }

  ending_inside : (e x y : ℕ) → at ≤ e → e ≤ length w → x ≤ length w → y ≤ length w → Inside w at n (ending i w e x y)
  unfolding ending
  ending_inside e x y lo hi hx hy =
      let d = e + span Blank w e (length w) in
      let g : d ≤ length w = span-within Blank w e (length w) hi in
      cond_has (Inside w at n) (eqb d (length w) || eqb (byte_at w d) 59) (fit i true (d + 1) x y) (fit i false d x y)
      (λ _. record { number = le; upto = omega arith; x = hx; y = hy; ahead = λ _. omega arith })
      (λ _. stuck d x y g hx hy)

  follow_inside : (ps : List ℕ) (e x y : ℕ) → T (positive ps) → at ≤ e → e ≤ length w → x ≤ length w → y ≤ length w
      → Inside w at n (follow i ps w e x y)
  unfolding follow x_at y_at
  follow_inside [] e x y ok lo hi hx hy = ending_inside e x y lo hi hx hy
  follow_inside (p ∷ ps) e x y ok lo hi hx hy =
      by (λ d x' y'. follow_inside ps d x' y' (above p ps ok).1) (take_sign p w e) (take_reach w e p (above p ps ok).0 hi)
    where
      by : ((d x' y' : ℕ) → at ≤ d → d ≤ length w → x' ≤ length w → y' ≤ length w → Inside w at n (follow i ps w d x' y'))
          → (r : Result ℕ ℕ) → Reach w e r → Inside w at n (going r (λ d. follow i ps w d (x_at p e x) (y_at p e y)) (λ d. fit i false d x y))
      by go (Ok d) h =
          let lt : e + 1 ≤ length w = omega arith in
          go d (x_at p e x) (y_at p e y) (omega arith) h.1
          (cond_has (λ v. v ≤ length w) (eqb p a || eqb p k || eqb p s) (e + 1) x (λ _. lt) (λ _. hx))
          (cond_has (λ v. v ≤ length w) (eqb p t) (e + 1) y (λ _. lt) (λ _. hy))
      by go (Err d) h = stuck d x y (omega arith) hx hy

pub best_inside : (w : List ℕ) (at n : ℕ) → at ≤ length w → Inside w at n (best_to w at n)
unfolding best_to further
best_inside w at zero h = stuck w at 0 0 (omega arith) at 0 0 h (omega arith) (omega arith)
best_inside w at (suc n) h =
    cond_has (Inside w at (suc n)) (ltb (best_to w at n).far (fit_of (suc n) w at).far) (fit_of (suc n) w at) (best_to w at n)
    (λ _. follow_inside w at (suc n) (suc n) (omega arith) (signs_of (suc n)) at 0 0 (all_positive (suc n)) (omega arith) h (omega arith) (omega arith))
    (λ _. let b = best_inside w at n h in record { number = omega (arith, b.number); upto = b.upto; x = b.x; y = b.y; ahead = b.ahead })

-- A reading depends on no byte behind the one where it stops: where the best form stops before n, another text with the same first n
-- bytes has the same best form. So the byte where the best form is stuck is one that no text has there, however it goes on.
use mathlib.Core.Path.{◌≡◌, refl, ap, ◌∙◌}
use Prim.Native.Nat.{◌≤◌, ◌<◌}
use native.Mathlib.Nat.{not-suc-le-zero, le_of_suc-le-suc}
use native.Mathlib.Omega.{arith}
use lib.Dec.{T}
use borrow.Author.Tests.{eqb-true, ne_eqb, leb-false, ltb-true, ltb-false}
use Rattle.std.specs.Prelude.{◌+◌, ◌∷◌, Result, Ok, Err}
use Rattle.rules.specs.Words.{ℕ, zero, suc, false, List, [], length, eqb, leb, ltb}
use Rattle.text.specs.declared.Sort.{Sort}
use Rattle.text.specs.declared.Sort.TheVariants.{Blank, Digit, Named}
use Rattle.text.specs.Bytes.{byte_at, in_sort, run, span}
use Rattle.text.specs.Forms.{signs_of, Part, itself, name, number, part_of, take_run, take_part, take_sign, x_at, y_at, ending, fit, going, follow, fit_of, further, best_to}
use Rattle.text.proofs.Tests.{by_test}
use Rattle.text.proofs.Reach.{span-within, Reach, take_reach}
use Rattle.grammar.proofs.Runs.{span_most}
use Rattle.grammar.proofs.Follows.{positive, forms_positive, above, rest, blanked, ended, follow_from}

-- The first n bytes are the same.
abbrev pub Agree : List ℕ → List ℕ → ℕ → Type 0
Agree w v n = (i : ℕ) → i < n → byte_at w i ≡ byte_at v i

abbrev stop_of : Result ℕ ℕ → ℕ
stop_of (Ok e) = e
stop_of (Err e) = e

module _ (w v : List ℕ) (n : ℕ) (ag : Agree w v n) where
  -- A run, looking at so many bytes at most.
  span_local : (c : Sort) (at m : ℕ) → at + span c w at m ≤ n → (span c w at m < m → at + span c w at m < n) → span c v at m ≡ span c w at m
  unfolding run
  span_local c at zero h g = refl
  span_local c at (suc m) h g =
      by_test (in_sort c (byte_at w at))
      (λ e. let hh : at + suc (span c w (suc at) m) ≤ n = rw e at h in
      let gg : suc (span c w (suc at) m) < suc m → at + suc (span c w (suc at) m) < n = rw e at g in
      let b : byte_at w at ≡ byte_at v at = ag at (omega arith) in
      let r : span c v (suc at) m ≡ span c w (suc at) m = span_local c (suc at) m (omega arith) (λ q. let z : at + suc (span c w (suc at) m) < n = gg (omega arith) in omega arith) in
      rw (← b, e) (ap suc r))
      (λ e. let gg : 0 < suc m → at + 0 < n = rw e at g in
      let z : at + 0 < n = gg (omega arith) in
      let b : byte_at w at ≡ byte_at v at = ag at (omega arith) in
      rw (← b, e))

  -- Blanks, with room to look on in both.
  pub blanks_local : (c : Sort) (at m m' : ℕ) → at + span c w at m < n → span c w at m < m → span c w at m < m' → span c v at m' ≡ span c w at m
  unfolding run
  blanks_local c at zero m' h g g' = absurd (not-suc-le-zero g)
  blanks_local c at (suc m) zero h g g' = absurd (not-suc-le-zero g')
  blanks_local c at (suc m) (suc m') h g g' =
      by_test (in_sort c (byte_at w at))
      (λ e. let hh : at + suc (span c w (suc at) m) < n = rw e at h in
      let gg : suc (span c w (suc at) m) < suc m = rw e at g in
      let g'' : suc (span c w (suc at) m) < suc m' = rw e at g' in
      let b : byte_at w at ≡ byte_at v at = ag at (omega arith) in
      let r : span c v (suc at) m' ≡ span c w (suc at) m = blanks_local c (suc at) m m' (omega arith) (le_of_suc-le-suc gg) (le_of_suc-le-suc g'') in
      rw (← b, e) (ap suc r))
      (λ e. let hh : at + 0 < n = rw e at h in
      let b : byte_at w at ≡ byte_at v at = ag at (omega arith) in
      rw (← b, e))

  run_local : (c : Sort) (most at : ℕ) → stop_of (take_run c most w at) < n → take_run c most v at ≡ take_run c most w at
  unfolding take_run
  run_local c most at h =
      let m = span c w at (suc most) in
      let q : m ≤ suc most = span_most c w at (suc most) in
      let r : span c v at (suc most) ≡ m =
      by_test (eqb m 0)
      (λ e. let z : at < n = rw e at h in let y : m ≡ 0 = eqb-true m 0 e in span_local c at (suc most) (omega arith) (λ _. omega arith))
      (λ e. by_test (leb m most)
      (λ g. let z : at + m < n = rw (e, g) at h in span_local c at (suc most) (omega arith) (λ _. omega arith))
      (λ g. let z : at + most < n = rw (e, g) at h in let y : most < m = leb-false m most g in span_local c at (suc most) (omega arith) (λ x. absurd (omega arith)))) in
      rw r

  part_local : (q : Part) (p at : ℕ) → at ≤ stop_of (take_part q p w at) → stop_of (take_part q p w at) < n → take_part q p v at ≡ take_part q p w at
  unfolding take_part
  part_local itself p at le h = let b : byte_at w at ≡ byte_at v at = ag at (omega arith) in rw b
  part_local name p at le h = run_local Named 16 at h
  part_local number p at le h = run_local Digit 4 at h

  module _ (lw : n ≤ length w) (lv : n ≤ length v) where
    ending_local : (i at x y : ℕ) → (ending i w at x y).far < n → at ≤ length w → ending i v at x y ≡ ending i w at x y
    unfolding ending
    ending_local i at x y h le =
        let e = blanked w at in
        let u : e ≤ length w = span-within Blank w at (length w) le in
        let lt : e < n = by_test (ended w e) (λ b. let z : e + 1 < n = rw b at h in omega arith) (λ b. rw b at h) in
        let r : span Blank v at (length v) ≡ span Blank w at (length w) = blanks_local Blank at (length w) (length v) lt (omega arith) (omega arith) in
        rw (r, ne_eqb e (length w) (λ z. omega arith), ne_eqb e (length v) (λ z. omega arith), ← ag e lt)

    follow_local : (i : ℕ) (ps : List ℕ) (at x y : ℕ) → T (positive ps) → at ≤ length w → (follow i ps w at x y).far < n → follow i ps v at x y ≡ follow i ps w at x y
    unfolding follow
    follow_local i [] at x y ok le h = ending_local i at x y h le
    follow_local i (p ∷ ps) at x y ok le h =
        by (λ e x' y'. follow_local i ps e x' y' (rest p ps ok)) (take_sign p w at) refl (take_reach w at p (above p ps ok) le) h
      where
        by : ((e x' y' : ℕ) → e ≤ length w → (follow i ps w e x' y').far < n → follow i ps v e x' y' ≡ follow i ps w e x' y')
            → (r : Result ℕ ℕ) → take_sign p w at ≡ r → Reach w at r
            → (going r (λ e. follow i ps w e (x_at p at x) (y_at p at y)) (λ e. fit i false e x y)).far < n
            → going (take_sign p v at) (λ e. follow i ps v e (x_at p at x) (y_at p at y)) (λ e. fit i false e x y)
            ≡ going r (λ e. follow i ps w e (x_at p at x) (y_at p at y)) (λ e. fit i false e x y)
        by go (Ok e) q h f =
            let z : e ≤ (follow i ps w e (x_at p at x) (y_at p at y)).far = follow_from i w ps e (x_at p at x) (y_at p at y) (rest p ps ok) h.1 in
            let tk : take_sign p v at ≡ Ok e = part_local (part_of p) p at (rw q (omega (arith, h.0))) (rw q (omega arith)) ∙ q in
            rw tk (go e (x_at p at x) (y_at p at y) h.1 f)
        by go (Err e) q h f =
            let tk : take_sign p v at ≡ Err e = part_local (part_of p) p at (rw q h.0) (rw q f) ∙ q in
            rw tk

    pub best_local : (at m : ℕ) → at ≤ length w → (best_to w at m).far < n → best_to v at m ≡ best_to w at m
    unfolding best_to further
    best_local at zero le h = refl
    best_local at (suc m) le h =
        let f = best_to w at m in
        let g = fit_of (suc m) w at in
        let lf : f.far < n = by_test (ltb f.far g.far)
        (λ b. let z : g.far < n = rw b at h in omega (arith, ltb-true f.far g.far b)) (λ b. rw b at h) in
        let lg : g.far < n = by_test (ltb f.far g.far) (λ b. rw b at h)
        (λ b. let z : f.far < n = rw b at h in omega (arith, ltb-false f.far g.far b)) in
        rw (best_local at m le lf, follow_local (suc m) (signs_of (suc m)) at 0 0 (forms_positive (suc m)) le lg)

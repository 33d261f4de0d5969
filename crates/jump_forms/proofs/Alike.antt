-- Forms that begin with `##`, behind the first sign, and `a` and `R##k`, by the bytes in which they differ.
--     jumps_off, jumps-goto, jumps_back, jumps-number     no second `#`; a label, `R`, or a number behind it
--     past                      a name that starts is followed past its first byte
--     calls-none, calls_name     no `R`, or no `#` behind it
--     calls_off, calls_on        one `#`, or two
--     jumps_are, calls_are       all of them
use mathlib.Core.Path.{◌≡◌, refl, sym, ap, ◌∙◌}
use mathlib.Core.Bool.{true, false, cond}
use mathlib.Core.List.{List, [], ◌∷◌}
use Prim.Native.Nat.{ℕ, suc, ◌+◌, ◌≤◌, ◌<◌}
use native.Mathlib.Numerals.{add-one}
use native.Mathlib.Omega.{arith}
use lib.Dec.{eqb, leb}
use lib.ListN.{length}
use borrow.Author.Tests.{eqb-true, eqb-false}
use Rattle.text.specs.declared.Sort.TheVariants.{Digit, Named}
use Rattle.std.specs.Prelude.{Ok, Err}
use Rattle.text.specs.declared.Fit.{Fit}
use Rattle.text.specs.Bytes.{byte_at, digit, letter, in_sort, span}
use Rattle.text.specs.Forms.{part_of, take_run, take_part, x_at, y_at, ending, fit, going, follow, fit_of, further}
use Rattle.text.proofs.Tests.{by_test, cond_has}
use Rattle.text.proofs.Reach.{in_text, span-within}
use Rattle.runs.proofs.Runs.{run_on, run_off, span_off}
use Rattle.parts.proofs.Further.{nearer, farther, further-far, least, took_on, took_off, name_least, inside, there, missing, halted, two, three, level, square, hash, back}
use Rattle.label_forms.specs.Gotos.{of_gotos}
use Rattle.jump_forms.specs.Jumps.{of_jumps, of_calls}

-- ## `##k`, `##[s]`, `##[s][t]`, `##R`

four : {f f' g g' h h' m m' : Fit} → f ≡ f' → g ≡ g' → h ≡ h' → m ≡ m' → further (further (further f g) h) m ≡ further (further (further f' g') h') m'
four d e q r = two (three d e q) r

-- where no digit stands there is no number
no_number : (w : List ℕ) (at i x y : ℕ) (ps : List ℕ) → in_sort Digit (byte_at w at) ≡ false → follow i (107 ∷ ps) w at x y ≡ fit i false at x y
unfolding take_part part_of take_run
no_number w at i x y ps h = took_off w 107 at at i ps x y (rw (span_off Digit w at 5 h))

module _ (w : List ℕ) (at : ℕ) where
  pub jumps_off : (byte_at w at ≡ 35 → ⊥) → of_jumps w at ≡ fit 4 false at 0 0
  jumps_off n =
      four (missing w hash at 4 0 0 (107 ∷ []) n) (missing w hash at 6 0 0 (91 ∷ 115 ∷ 93 ∷ []) n) (missing w hash at 7 0 0 (91 ∷ 115 ∷ 93 ∷ 91 ∷ 116 ∷ 93 ∷ []) n) (missing w hash at 16 0 0 (82 ∷ []) n)
      ∙ three (level 4 6 at 0 0 0 0) refl refl ∙ two (level 4 7 at 0 0 0 0) refl ∙ level 4 16 at 0 0 0 0

  module _ (o : byte_at w at ≡ 35) where
    behind : of_jumps w at
        ≡ further (further (further (follow 4 (107 ∷ []) w (at + 1) 0 0) (follow 6 (91 ∷ 115 ∷ 93 ∷ []) w (at + 1) 0 0)) (follow 7 (91 ∷ 115 ∷ 93 ∷ 91 ∷ 116 ∷ 93 ∷ []) w (at + 1) 0 0)) (follow 16 (82 ∷ []) w (at + 1) 0 0)
    behind = four (there w hash at 4 0 0 (107 ∷ []) o) (there w hash at 6 0 0 (91 ∷ 115 ∷ 93 ∷ []) o) (there w hash at 7 0 0 (91 ∷ 115 ∷ 93 ∷ 91 ∷ 116 ∷ 93 ∷ []) o) (there w hash at 16 0 0 (82 ∷ []) o)

    pub jumps-goto : byte_at w (at + 1) ≡ 91 → of_jumps w at ≡ of_gotos w (at + 2)
    unfolding in_sort digit
    jumps-goto h =
        let z : at + 1 + 1 ≡ at + 2 = omega arith in
        let le = inside w square (at + 1) h in
        let l : at + 2 ≤ (follow 6 (115 ∷ 93 ∷ []) w (at + 2) 0 0).far = least w 6 (115 ∷ 93 ∷ []) (at + 2) 0 0 tt (omega arith) in
        let no : byte_at w (at + 1) ≡ 82 → ⊥ = λ r. omega (arith, sym h ∙ r) in
        behind
        ∙ four (no_number w (at + 1) 4 0 0 [] (ap (in_sort Digit) h))
        (there w square (at + 1) 6 0 0 (115 ∷ 93 ∷ []) h ∙ ap (λ d. follow 6 (115 ∷ 93 ∷ []) w d 0 0) z)
        (there w square (at + 1) 7 0 0 (115 ∷ 93 ∷ 91 ∷ 116 ∷ 93 ∷ []) h ∙ ap (λ d. follow 7 (115 ∷ 93 ∷ 91 ∷ 116 ∷ 93 ∷ []) w d 0 0) z)
        (missing w back (at + 1) 16 0 0 [] no)
        ∙ three (farther (fit 4 false (at + 1) 0 0) (follow 6 (115 ∷ 93 ∷ []) w (at + 2) 0 0) (omega arith)) refl refl
        ∙ nearer (of_gotos w (at + 2)) (fit 16 false (at + 1) 0 0) (omega (arith, further-far (at + 2) (follow 6 (115 ∷ 93 ∷ []) w (at + 2) 0 0) (follow 7 (115 ∷ 93 ∷ 91 ∷ 116 ∷ 93 ∷ []) w (at + 2) 0 0) l))

    pub jumps_back : byte_at w (at + 1) ≡ 82 → of_jumps w at ≡ ending 16 w (at + 2) 0 0
    unfolding in_sort digit follow
    jumps_back h =
        let z : at + 1 + 1 ≡ at + 2 = omega arith in
        let no : byte_at w (at + 1) ≡ 91 → ⊥ = λ r. omega (arith, sym h ∙ r) in
        let le = inside w back (at + 1) h in
        behind
        ∙ four (no_number w (at + 1) 4 0 0 [] (ap (in_sort Digit) h)) (missing w square (at + 1) 6 0 0 (115 ∷ 93 ∷ []) no) (missing w square (at + 1) 7 0 0 (115 ∷ 93 ∷ 91 ∷ 116 ∷ 93 ∷ []) no)
        (there w back (at + 1) 16 0 0 [] h ∙ ap (λ d. ending 16 w d 0 0) z)
        ∙ three (level 4 6 (at + 1) 0 0 0 0) refl refl ∙ two (level 4 7 (at + 1) 0 0 0 0) refl
        ∙ farther (fit 4 false (at + 1) 0 0) (ending 16 w (at + 2) 0 0) (omega (arith, least w 16 [] (at + 2) 0 0 tt (omega arith)))

    pub jumps-number : (byte_at w (at + 1) ≡ 91 → ⊥) → (byte_at w (at + 1) ≡ 82 → ⊥) → of_jumps w at ≡ follow 4 (107 ∷ []) w (at + 1) 0 0
    jumps-number n m =
        let f = follow 4 (107 ∷ []) w (at + 1) 0 0 in
        let l : at + 1 ≤ f.far = least w 4 (107 ∷ []) (at + 1) 0 0 tt (inside w hash at o) in
        behind
        ∙ four refl (missing w square (at + 1) 6 0 0 (115 ∷ 93 ∷ []) n) (missing w square (at + 1) 7 0 0 (115 ∷ 93 ∷ 91 ∷ 116 ∷ 93 ∷ []) n) (missing w back (at + 1) 16 0 0 [] m)
        ∙ three (nearer f (fit 6 false (at + 1) 0 0) l) refl refl ∙ two (nearer f (fit 7 false (at + 1) 0 0) l) refl ∙ nearer f (fit 16 false (at + 1) 0 0) l

  -- ## `a`, `R##k`

  module _ (n : in_sort Named (byte_at w at) ≡ true) where
    -- a name that starts is followed past its first byte
    pub past : at < (fit_of 1 w at).far
    unfolding follow take_part part_of take_run x_at y_at
    past =
        let m = span Named w at 17 in
        let some : 0 < m = omega (arith, ap length (run_on Named w at 16 n)) in
        let reach : at + m ≤ length w = span-within Named w at 17 (omega (arith, in_text Named w at n)) in
        cond_has (λ r. at < (going r (λ e. ending 1 w e (at + 1) 0) (λ e. fit 1 false e 0 0)).far) (eqb m 0) (Err at) (cond (leb m 16) (Ok (at + m)) (Err (at + 16)))
        (λ z. absurd (omega (arith, eqb-true m 0 z)))
        (λ _. cond_has (λ r. at < (going r (λ e. ending 1 w e (at + 1) 0) (λ e. fit 1 false e 0 0)).far) (leb m 16) (Ok (at + m)) (Err (at + 16))
        (λ _. omega (arith, least w 1 [] (at + m) (at + 1) 0 tt reach))
        (λ _. omega arith))

  pub calls-none : (byte_at w at ≡ 82 → ⊥) → of_calls w at ≡ fit_of 1 w at
  calls-none h = two refl (missing w back at 15 0 0 (35 ∷ 35 ∷ 107 ∷ []) h) ∙ nearer (fit_of 1 w at) (fit 15 false at 0 0) (name_least w 1 [] at tt)

  module _ (r : byte_at w at ≡ 82) where
    named : in_sort Named (byte_at w at) ≡ true
    unfolding in_sort digit letter
    named = ap (in_sort Named) r

    pub calls_name : (byte_at w (at + 1) ≡ 35 → ⊥) → of_calls w at ≡ fit_of 1 w at
    calls_name h =
        two refl (there w back at 15 0 0 (35 ∷ 35 ∷ 107 ∷ []) r ∙ missing w hash (at + 1) 15 0 0 (35 ∷ 107 ∷ []) h)
        ∙ nearer (fit_of 1 w at) (fit 15 false (at + 1) 0 0) (omega (arith, past named))

    module _ (h : byte_at w (at + 1) ≡ 35) where
      -- the name is R alone
      alone : take_run Named 16 w at ≡ Ok (at + 1)
      unfolding take_run in_sort digit letter
      alone =
          let e : byte_at w (suc at) ≡ 35 = ap (byte_at w) (sym (add-one at)) ∙ h in
          rw (run_on Named w at 16 named, run_off Named w (suc at) 16 (ap (in_sort Named) e))

      called : of_calls w at ≡ follow 15 (35 ∷ 107 ∷ []) w (at + 2) 0 0
      unfolding take_part part_of x_at y_at follow
      called =
          let z : at + 1 + 1 ≡ at + 2 = omega arith in
          let le = inside w hash (at + 1) h in
          two (took_on w 97 at (at + 1) 1 [] 0 0 alone ∙ halted w hash (at + 1) 1 (at + 1) 0 h)
          (there w back at 15 0 0 (35 ∷ 35 ∷ 107 ∷ []) r ∙ there w hash (at + 1) 15 0 0 (35 ∷ 107 ∷ []) h ∙ ap (λ d. follow 15 (35 ∷ 107 ∷ []) w d 0 0) z)
          ∙ farther (fit 1 false (at + 1) (at + 1) 0) (follow 15 (35 ∷ 107 ∷ []) w (at + 2) 0 0) (omega (arith, least w 15 (35 ∷ 107 ∷ []) (at + 2) 0 0 tt (omega arith)))

      pub calls_off : (byte_at w (at + 2) ≡ 35 → ⊥) → of_calls w at ≡ fit 15 false (at + 2) 0 0
      calls_off m = called ∙ missing w hash (at + 2) 15 0 0 (107 ∷ []) m

      pub calls_on : byte_at w (at + 2) ≡ 35 → of_calls w at ≡ follow 15 (107 ∷ []) w (at + 3) 0 0
      calls_on m = let z : at + 2 + 1 ≡ at + 3 = omega arith in called ∙ there w hash (at + 2) 15 0 0 (107 ∷ []) m ∙ ap (λ d. follow 15 (107 ∷ []) w d 0 0) z

  -- ## as the code goes on

  pub jumps_are : of_jumps w at
      ≡ cond (eqb (byte_at w at) 35)
      (cond (eqb (byte_at w (at + 1)) 91) (of_gotos w (at + 2)) (cond (eqb (byte_at w (at + 1)) 82) (ending 16 w (at + 2) 0 0) (follow 4 (107 ∷ []) w (at + 1) 0 0)))
      (fit 4 false at 0 0)
  jumps_are =
      by_test (eqb (byte_at w at) 35)
      (λ t. let h = eqb-true (byte_at w at) 35 t in
      by_test (eqb (byte_at w (at + 1)) 91)
      (λ u. rw (t, u) (jumps-goto h (eqb-true (byte_at w (at + 1)) 91 u)))
      (λ u. by_test (eqb (byte_at w (at + 1)) 82)
      (λ v. rw (t, u, v) (jumps_back h (eqb-true (byte_at w (at + 1)) 82 v)))
      (λ v. rw (t, u, v) (jumps-number h (eqb-false (byte_at w (at + 1)) 91 u) (eqb-false (byte_at w (at + 1)) 82 v)))))
      (λ t. rw t (jumps_off (eqb-false (byte_at w at) 35 t)))

  pub calls_are : of_calls w at
      ≡ cond (eqb (byte_at w at) 82)
      (cond (eqb (byte_at w (at + 1)) 35) (cond (eqb (byte_at w (at + 2)) 35) (follow 15 (107 ∷ []) w (at + 3) 0 0) (fit 15 false (at + 2) 0 0)) (fit_of 1 w at))
      (fit_of 1 w at)
  calls_are =
      by_test (eqb (byte_at w at) 82)
      (λ t. let h = eqb-true (byte_at w at) 82 t in
      by_test (eqb (byte_at w (at + 1)) 35)
      (λ u. let k = eqb-true (byte_at w (at + 1)) 35 u in
      by_test (eqb (byte_at w (at + 2)) 35)
      (λ v. rw (t, u, v) (calls_on h k (eqb-true (byte_at w (at + 2)) 35 v)))
      (λ v. rw (t, u, v) (calls_off h k (eqb-false (byte_at w (at + 2)) 35 v))))
      (λ u. rw (t, u) (calls_name h (eqb-false (byte_at w (at + 1)) 35 u))))
      (λ t. rw t (calls-none (eqb-false (byte_at w at) 82 t)))

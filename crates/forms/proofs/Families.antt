-- Forms that begin alike, behind their first sign, by the bytes in which they differ.
--     tests_off, tests_plain, tests_block, tests_loop     `+a`, `+a{`, `+a{*`: no name; nothing, `{` or `{*` behind it
--     ends-both, ends_one                                 `}{`, `}`
--     tests_are, ends_are                                 all of them
use mathlib.Core.Path.{◌≡◌, refl, ap, ◌∙◌}
use mathlib.Core.Bool.{false, cond}
use mathlib.Core.List.{List, [], ◌∷◌}
use Prim.Native.Nat.{ℕ, ◌+◌}
use native.Mathlib.Omega.{arith}
use lib.Dec.{eqb}
use borrow.Author.Tests.{eqb-true, eqb-false}
use Rattle.text.specs.declared.Sort.TheVariants.{Named}
use Rattle.std.specs.Prelude.{Result, Ok, Err}
use Rattle.text.specs.Bytes.{byte_at}
use Rattle.text.specs.Forms.{part_of, take_run, take_part, x_at, y_at, ending, fit, going, follow, further}
use Rattle.text.specs.declared.Fit.{Fit}
use Rattle.text.proofs.Tests.{by_test}
use Rattle.parts.proofs.Further.{NameTo, name_to, nearer, least, took_on, took_off, inside, there, missing, halted, longer, shorter, two, three, level, brace, star}
use Rattle.forms.specs.Families.{of_tests, of_ends}

module _ (w : List ℕ) (at i j k e : ℕ) where
  pub tests_off : take_run Named 16 w at ≡ Err e → of_tests i j k w at ≡ fit i false e 0 0
  unfolding take_part part_of
  tests_off h =
      three (took_off w 97 at e i [] 0 0 h) (took_off w 97 at e j (123 ∷ []) 0 0 h) (took_off w 97 at e k (123 ∷ 42 ∷ []) 0 0 h)
      ∙ two (level i j e 0 0 0 0) refl ∙ level i k e 0 0 0 0

  module _ (n : NameTo w at e) where
    named : of_tests i j k w at ≡ further (further (ending i w e (at + 1) 0) (follow j (123 ∷ []) w e (at + 1) 0)) (follow k (123 ∷ 42 ∷ []) w e (at + 1) 0)
    unfolding take_part part_of follow x_at y_at
    named = three (took_on w 97 at e i [] 0 0 n.taken) (took_on w 97 at e j (123 ∷ []) 0 0 n.taken) (took_on w 97 at e k (123 ∷ 42 ∷ []) 0 0 n.taken)

    pub tests_plain : (byte_at w e ≡ 123 → ⊥) → of_tests i j k w at ≡ ending i w e (at + 1) 0
    tests_plain o = named ∙ two (shorter w brace e i (at + 1) 0 j [] tt n.within o) refl ∙ shorter w brace e i (at + 1) 0 k (42 ∷ []) tt n.within o

    module _ (o : byte_at w e ≡ 123) where
      opened : of_tests i j k w at ≡ further (ending j w (e + 1) (at + 1) 0) (follow k (42 ∷ []) w (e + 1) (at + 1) 0)
      unfolding follow
      opened = named ∙ two (longer w brace e i (at + 1) 0 j [] tt n.within o) (there w brace e k (at + 1) 0 (42 ∷ []) o)

      pub tests_block : (byte_at w (e + 1) ≡ 42 → ⊥) → of_tests i j k w at ≡ ending j w (e + 1) (at + 1) 0
      tests_block z = opened ∙ shorter w star (e + 1) j (at + 1) 0 k [] tt (inside w brace e o) z

      pub tests_loop : byte_at w (e + 1) ≡ 42 → of_tests i j k w at ≡ ending k w (e + 2) (at + 1) 0
      unfolding follow
      tests_loop b = let z : e + 1 + 1 ≡ e + 2 = omega arith in opened ∙ longer w star (e + 1) j (at + 1) 0 k [] tt (inside w brace e o) b ∙ ap (λ d. ending k w d (at + 1) 0) z

module _ (w : List ℕ) (at : ℕ) where
  pub ends-both : byte_at w at ≡ 123 → of_ends w at ≡ ending 10 w (at + 1) 0 0
  unfolding follow
  ends-both h =
      two (there w brace at 10 0 0 [] h) (halted w brace at 11 0 0 h)
      ∙ nearer (ending 10 w (at + 1) 0 0) (fit 11 false at 0 0) (omega (arith, least w 10 [] (at + 1) 0 0 tt (inside w brace at h)))

  pub ends_one : (byte_at w at ≡ 123 → ⊥) → of_ends w at ≡ further (fit 10 false at 0 0) (ending 11 w at 0 0)
  unfolding follow
  ends_one n = two (missing w brace at 10 0 0 [] n) refl

  pub ends_are : of_ends w at ≡ cond (eqb (byte_at w at) 123) (ending 10 w (at + 1) 0 0) (further (fit 10 false at 0 0) (ending 11 w at 0 0))
  ends_are =
      by_test (eqb (byte_at w at) 123)
      (λ t. rw t (ends-both (eqb-true (byte_at w at) 123 t)))
      (λ t. rw t (ends_one (eqb-false (byte_at w at) 123 t)))

-- as the code goes on behind a name
abbrev tests_on : (i j k : ℕ) (w : List ℕ) (at e : ℕ) → Fit
tests_on i j k w at e = cond (eqb (byte_at w e) 123) (cond (eqb (byte_at w (e + 1)) 42) (ending k w (e + 2) (at + 1) 0) (ending j w (e + 1) (at + 1) 0)) (ending i w e (at + 1) 0)

pub tests_are : (i j k : ℕ) (w : List ℕ) (at : ℕ) → of_tests i j k w at ≡ going (take_run Named 16 w at) (tests_on i j k w at) (λ e. fit i false e 0 0)
tests_are i j k w at = by (take_run Named 16 w at) refl
  where
    by : (r : Result ℕ ℕ) → take_run Named 16 w at ≡ r → of_tests i j k w at ≡ going r (tests_on i j k w at) (λ e. fit i false e 0 0)
    by (Err e) h = tests_off w at i j k e h
    by (Ok e) h =
        let n = name_to w at e h in
        by_test (eqb (byte_at w e) 123)
        (λ t. let o = eqb-true (byte_at w e) 123 t in
        by_test (eqb (byte_at w (e + 1)) 42)
        (λ u. rw (t, u) (tests_loop w at i j k e n o (eqb-true (byte_at w (e + 1)) 42 u)))
        (λ u. rw (t, u) (tests_block w at i j k e n o (eqb-false (byte_at w (e + 1)) 42 u))))
        (λ t. rw t (tests_plain w at i j k e n (eqb-false (byte_at w e) 123 t)))

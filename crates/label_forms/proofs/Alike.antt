-- `##[s]` and `##[s][t]` behind the first bracket, by the bytes in which they differ.
--     gotos_off      no name
--     gotos_open     a name without its bracket
--     gotos_one, gotos_two     one label, and two
--     gotos_are      all of them
use mathlib.Core.Path.{◌≡◌, refl, ap, ◌∙◌}
use mathlib.Core.Bool.{false, cond}
use mathlib.Core.List.{List, [], ◌∷◌}
use Prim.Native.Nat.{ℕ, ◌+◌}
use native.Mathlib.Omega.{arith}
use borrow.Author.Tests.{eqb-true, eqb-false}
use Rattle.text.specs.declared.Sort.TheVariants.{Named}
use lib.Dec.{eqb}
use Rattle.std.specs.Prelude.{Result, Ok, Err}
use Rattle.text.specs.Bytes.{byte_at}
use Rattle.text.specs.Forms.{part_of, take_run, take_part, x_at, y_at, ending, fit, going, follow, further}
use Rattle.text.proofs.Tests.{by_test}
use Rattle.parts.proofs.Further.{NameTo, name_to, took_on, took_off, inside, there, missing, longer, shorter, two, level, square, closing}
use Rattle.label_forms.specs.Gotos.{of_gotos}

module _ (w : List ℕ) (at e : ℕ) where
  pub gotos_off : take_run Named 16 w at ≡ Err e → of_gotos w at ≡ fit 6 false e 0 0
  unfolding take_part part_of
  gotos_off h = two (took_off w 115 at e 6 (93 ∷ []) 0 0 h) (took_off w 115 at e 7 (93 ∷ 91 ∷ 116 ∷ 93 ∷ []) 0 0 h) ∙ level 6 7 e 0 0 0 0

  module _ (n : NameTo w at e) where
    labelled : of_gotos w at ≡ further (follow 6 (93 ∷ []) w e (at + 1) 0) (follow 7 (93 ∷ 91 ∷ 116 ∷ 93 ∷ []) w e (at + 1) 0)
    unfolding take_part part_of x_at y_at
    labelled = two (took_on w 115 at e 6 (93 ∷ []) 0 0 n.taken) (took_on w 115 at e 7 (93 ∷ 91 ∷ 116 ∷ 93 ∷ []) 0 0 n.taken)

    pub gotos_open : (byte_at w e ≡ 93 → ⊥) → of_gotos w at ≡ fit 6 false e (at + 1) 0
    gotos_open o = labelled ∙ two (missing w closing e 6 (at + 1) 0 [] o) (missing w closing e 7 (at + 1) 0 (91 ∷ 116 ∷ 93 ∷ []) o) ∙ level 6 7 e (at + 1) 0 (at + 1) 0

    module _ (o : byte_at w e ≡ 93) where
      closed : of_gotos w at ≡ further (ending 6 w (e + 1) (at + 1) 0) (follow 7 (91 ∷ 116 ∷ 93 ∷ []) w (e + 1) (at + 1) 0)
      unfolding follow
      closed = labelled ∙ two (there w closing e 6 (at + 1) 0 [] o) (there w closing e 7 (at + 1) 0 (91 ∷ 116 ∷ 93 ∷ []) o)

      pub gotos_one : (byte_at w (e + 1) ≡ 91 → ⊥) → of_gotos w at ≡ ending 6 w (e + 1) (at + 1) 0
      gotos_one z = closed ∙ shorter w square (e + 1) 6 (at + 1) 0 7 (116 ∷ 93 ∷ []) tt (inside w closing e o) z

      pub gotos_two : byte_at w (e + 1) ≡ 91 → of_gotos w at ≡ follow 7 (116 ∷ 93 ∷ []) w (e + 2) (at + 1) 0
      gotos_two b =
          let z : e + 1 + 1 ≡ e + 2 = omega arith in
          closed ∙ longer w square (e + 1) 6 (at + 1) 0 7 (116 ∷ 93 ∷ []) tt (inside w closing e o) b ∙ ap (λ d. follow 7 (116 ∷ 93 ∷ []) w d (at + 1) 0) z

-- as the code goes on
pub gotos_are : (w : List ℕ) (at : ℕ) → of_gotos w at ≡ going (take_run Named 16 w at)
    (λ e. cond (eqb (byte_at w e) 93) (cond (eqb (byte_at w (e + 1)) 91) (follow 7 (116 ∷ 93 ∷ []) w (e + 2) (at + 1) 0) (ending 6 w (e + 1) (at + 1) 0)) (fit 6 false e (at + 1) 0))
    (λ e. fit 6 false e 0 0)
gotos_are w at = by (take_run Named 16 w at) refl
  where
    by : (r : Result ℕ ℕ) → take_run Named 16 w at ≡ r → of_gotos w at ≡ going r
        (λ e. cond (eqb (byte_at w e) 93) (cond (eqb (byte_at w (e + 1)) 91) (follow 7 (116 ∷ 93 ∷ []) w (e + 2) (at + 1) 0) (ending 6 w (e + 1) (at + 1) 0)) (fit 6 false e (at + 1) 0))
        (λ e. fit 6 false e 0 0)
    by (Err e) h = gotos_off w at e h
    by (Ok e) h =
        let n = name_to w at e h in
        by_test (eqb (byte_at w e) 93)
        (λ t. by_test (eqb (byte_at w (e + 1)) 91)
        (λ u. rw (t, u) (gotos_two w at e n (eqb-true _ _ t) (eqb-true _ _ u)))
        (λ u. rw (t, u) (gotos_one w at e n (eqb-true _ _ t) (eqb-false _ _ u))))
        (λ t. rw t (gotos_open w at e n (eqb-false _ _ t)))

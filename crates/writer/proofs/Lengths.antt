-- How long a text can get.
--     text_length     21 bytes for each record whose fields fit two bytes
use mathlib.Core.Bool.{Bool, true, false, cond}
use mathlib.Core.List.{List, [], ◌∷◌}
use Prim.Native.Nat.{ℕ, ◌+◌, ◌*◌, ◌≤◌}
use native.Mathlib.Omega.{arith}
use lib.Dec.{eqb, leb, leb→le}
use lib.ListN.{length, length-append}
use Rattle.rules.specs.Record.{Rec}
use Rattle.laws.proofs.Records.{All, Small}
use Rattle.text.specs.declared.Sort.TheVariants.{Named}
use Rattle.text.specs.Forms.{a, k, s, t, forms, signs_of}
use Rattle.text.specs.Names.{name_of, entry}
use Rattle.text.specs.Writing.{decimal, label_name, written_sign, written_signs, form_of, written, further_ones, text_of}
use Rattle.signs.proofs.Signs.{each}
use Rattle.names.proofs.Same.{run_most}
use Rattle.phrases.proofs.Signs.{five_digits}

-- the most bytes that a sign is written as, and a form
abbrev weight : ℕ → ℕ
weight p = cond (eqb p a) 16 (cond (eqb p k) 5 (cond (eqb p s) 6 (cond (eqb p t) 6 1)))

abbrev weights : List ℕ → ℕ
weights [] = 0
weights (p ∷ ps) = weight p + weights ps

module _ (es : List (List ℕ)) where
  module _ (r : Rec) (n : Small r) where
    sign-length : (p : ℕ) → length (written_sign es r p) ≤ weight p
    unfolding written_sign
    sign-length p = by (eqb p a) (eqb p k) (eqb p s) (eqb p t)
      where
        by : (b c d e : Bool)
            → length (cond b (name_of es r.x) (cond c (decimal r.x) (cond d (label_name r.x) (cond e (label_name r.y) (p ∷ [])))))
            ≤ cond b 16 (cond c 5 (cond d 6 (cond e 6 1)))
        by true c d e = run_most Named (entry es r.x) 0 16
        by false true d e = five_digits r.x n.0
        by false false true e = omega (arith, five_digits r.x n.0)
        by false false false true = omega (arith, five_digits r.y n.1)
        by false false false false = omega arith

    signs_length : (ps : List ℕ) → length (written_signs es r ps) ≤ weights ps
    unfolding written_signs
    signs_length [] = omega arith
    signs_length (p ∷ ps) = omega (arith, length-append (written_sign es r p) (written_signs es r ps), sign-length p, signs_length ps)

    written-length : length (written es r) ≤ 19
    written-length = let i = form_of r in omega (arith, signs_length (signs_of i), leb→le (weights (signs_of i)) 19 (each (λ f. leb (weights f) 19) tt ([] ∷ forms) i tt))

  further-length : (rs : List Rec) → All Small rs → length (further_ones es rs) ≤ 21 * length rs
  unfolding further_ones
  further-length [] h = omega arith
  further-length (r ∷ rs) h = omega (arith, length-append (written es r) (further_ones es rs), written-length r h.0, further-length rs h.1)

  pub text_length : (rs : List Rec) → All Small rs → length (text_of es rs) ≤ 21 * length rs
  unfolding text_of
  text_length [] h = omega arith
  text_length (r ∷ rs) h = omega (arith, length-append (written es r) (further_ones es rs), written-length r h.0, further-length rs h.1)

-- A text read, one instruction after the other, to records or to a refusal.
use Rattle.std.specs.Prelude.{◌+◌, ◌-◌, ◌∷◌, ◌++◌}
use Rattle.rules.specs.Words.{ℕ, zero, suc, cond, List, [], length, eqb, ltb}
use Rattle.rules.specs.Record.{Rec, rec}
use Rattle.text.specs.declared.Sort.TheVariants.{Blank}
use Rattle.text.specs.declared.Fit.{Fit}
use Rattle.text.specs.declared.TextRefusal.{TextRefusal}
use Rattle.text.specs.declared.TextRefusal.TheVariants.{Text, Name}
use Rattle.text.specs.Bytes.{span}
use Rattle.text.specs.Forms.{a, k, s, letter_of, best_of}
use Rattle.text.specs.Names.{name_at, number_at, action_of, label_of, with_label}

-- The next instruction: its record, the labels so far, and where the one behind it starts; or a refusal.
pub data Next : Type 0 where
  made : Rec → List (List ℕ) → ℕ → Next
  bad : TextRefusal → Next

-- The record of form i: form 17, `!`, is ##0.
unfoldable pub form_record : ℕ → ℕ → ℕ → Rec
form_record i x y = cond (eqb i 17) (rec 4 0 0) (rec i x y)

-- The record where the form is whole, else 12 at the first byte that no text could have there.
unfoldable pub settled : Fit → ℕ → ℕ → List (List ℕ) → Next
settled f x y us = cond f.whole (made (form_record f.form x y) us f.far) (bad (Text (f.far + 1)))

-- 13 at the first byte p of a name that has no number.
abbrev pub known : ℕ → ℕ → (ℕ → Next) → Next
known p v on = cond (eqb v 0) (bad (Name p)) (on v)

-- The name at p, from 1, as an action, as a number, as a label; nothing where p is 0, since the text does not come so far.
unfoldable pub with_action : List ℕ → List (List ℕ) → ℕ → (ℕ → Next) → Next
with_action w es p on = cond (eqb p 0) (on 0) (known p (action_of es (name_at w (p - 1))) on)

unfoldable pub with_number : List ℕ → ℕ → (ℕ → Next) → Next
with_number w p on = cond (eqb p 0) (on 0) (on (number_at w (p - 1)))

unfoldable pub with_label_at : List ℕ → List (List ℕ) → ℕ → (ℕ → List (List ℕ) → Next) → Next
with_label_at w us p on = cond (eqb p 0) (on 0 us) (known p (label_of us (name_at w (p - 1))) (λ v. on v (with_label us (name_at w (p - 1)))))

-- A form with its names: ##[s][t] has a second label.
unfoldable pub with_second : List ℕ → Fit → ℕ → List (List ℕ) → Next
with_second w f x us = with_label_at w us f.y (λ y us'. settled f x y us')

unfoldable pub named : ℕ → List ℕ → List (List ℕ) → List (List ℕ) → Fit → Next
named letter w es us f =
    cond (eqb letter a) (with_action w es f.x (λ x. settled f x 0 us))
    (cond (eqb letter k) (with_number w f.x (λ x. settled f x 0 us))
    (cond (eqb letter s) (with_label_at w us f.x (λ x us'. with_second w f x us'))
    (settled f 0 0 us)))

-- Blanks, and then the form that the text follows furthest.
unfoldable pub next_of : List ℕ → List (List ℕ) → List (List ℕ) → ℕ → Next
next_of w es us at =
    let f = best_of w (at + span Blank w at (length w)) in
    named (letter_of f.form) w es us f

-- A whole text.
pub data Reading : Type 0 where
  reads : List Rec → Reading
  refused : TextRefusal → Reading

abbrev pub onwards : Next → (Rec → List (List ℕ) → ℕ → Reading) → Reading
onwards (made r us e) on = on r us e
onwards (bad r) on = refused r

-- From `at` on, with the labels us and the records rs before. An instruction has a byte, so that m, one more than the bytes of the
-- text, does not run out.
unfoldable pub read_from : ℕ → List ℕ → List (List ℕ) → ℕ → List (List ℕ) → List Rec → Reading
read_from zero w es at us rs = refused (Text 0)
read_from (suc m) w es at us rs =
    onwards (next_of w es us at)
    (λ r us' e. cond (ltb (length w) e) (reads (rs ++ (r ∷ []))) (read_from m w es e us' (rs ++ (r ∷ []))))

-- Text without instructions is the empty routine.
unfoldable pub read_text : List ℕ → List (List ℕ) → Reading
read_text w es = cond (eqb (span Blank w 0 (length w)) (length w)) (reads []) (read_from (length w + 1) w es 0 [] [])

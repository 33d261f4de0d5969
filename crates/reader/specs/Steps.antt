-- What the code's answers for one instruction mean.
use Rattle.std.specs.Prelude.{◌≡◌, ◌≤◌, ◌<◌, ◌+◌, Result, Ok, Err}
use Rattle.rules.specs.Words.{ℕ, cond, List, length}
use Rattle.rules.specs.Record.{Rec}
use Rattle.text.specs.declared.Fit.{Fit}
use Rattle.text.specs.declared.TextRefusal.{TextRefusal}
use Rattle.text.specs.declared.TextRefusal.TheVariants.{Text}
use Rattle.text.specs.Reading.{Next, made, bad, form_record, with_label_at, next_of}
use Rattle.label_numbers.specs.Labels.{labels_of}

-- What comes after an answer, or its refusal.
abbrev pub after : {A : Type 0} → Result A TextRefusal → (A → Next) → Next
after (Ok v) on = on v
after (Err r) on = bad r

-- With all numbers known: the record and the place behind it.
unfoldable pub settled_step : Fit → ℕ → ℕ → Result (Rec × ℕ) TextRefusal
settled_step f x y = cond f.whole (Ok (form_record f.form x y, f.far)) (Err (Text (f.far + 1)))

-- The label at p has the number that is answered, and a new one was kept: the places p of the labels so far became p'.
abbrev pub Labelled : List ℕ → List ℕ → ℕ → Result ℕ TextRefusal → List ℕ → Type 0
Labelled w f p r f' = (on : ℕ → List (List ℕ) → Next) → after r (λ v. on v (labels_of w f')) ≡ with_label_at w (labels_of w f) p on

-- Where an instruction was made: it took a byte.
abbrev pub Ahead : Result (Rec × ℕ) TextRefusal → List ℕ → ℕ → Type 0
Ahead (Ok m) w at = (at < m.1) × (m.1 ≤ length w + 1)
Ahead (Err r) w at = Unit {0}

-- One instruction by the code.
pub record Stepped (w : List ℕ) (es : List (List ℕ)) (f : List ℕ) (at : ℕ) (r : Result (Rec × ℕ) TextRefusal) (f' : List ℕ) : Type 0 where
  pub next : after r (λ m. made m.0 (labels_of w f') m.1) ≡ next_of w es (labels_of w f) at
  pub ahead : Ahead r w at

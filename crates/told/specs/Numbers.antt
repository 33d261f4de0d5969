-- Answers as C sees them: the paper's numbers, in 32 bits where the C struct has 32.
use Rattle.rules.specs.Words.{ℕ, cond, leb}
use Rattle.rules.specs.Refusals.{Verdict, told}
use Rattle.std.specs.Prelude.{Ok, Err}
use Rattle.rules.specs.Run.{Outcome, status_number}
use Rattle.rules.specs.declared.State.{State}
use Rattle.rules.specs.declared.Ran.{Ran}
use Rattle.text.specs.declared.TextRefusal.{TextRefusal}
use Rattle.text.specs.Answers.{TextVerdict}
use Rattle.text.specs.Answers as text
use Rattle.told.specs.declared.QhVerdict.{QhVerdict}
use Rattle.told.specs.declared.QhState.{QhState}
use Rattle.told.specs.declared.QhRan.{QhRan}

-- The greatest number of 32 bits stands for every greater one.
unfoldable pub in32 : ℕ → ℕ
in32 n = cond (leb n 4294967295) n 4294967295

-- No count comes with a refusal.
unfoldable pub refused_with : ℕ → ℕ → QhVerdict
refused_with number place = record { refusal = in32 number; place = in32 place; count = 0 }

-- Refusal 0 says that the call was accepted.
unfoldable pub verdict_told : Verdict → QhVerdict
verdict_told (Ok n) = record { refusal = 0; place = 0; count = in32 n }
verdict_told (Err r) = refused_with (told r).number (told r).place

-- 12, 13, or one of the paper's.
unfoldable pub text_refusal_told : TextRefusal → QhVerdict
text_refusal_told r = refused_with (text.told r).number (text.told r).place

unfoldable pub text_told : TextVerdict → QhVerdict
text_told (Ok n) = record { refusal = 0; place = 0; count = in32 n }
text_told (Err r) = text_refusal_told r

unfoldable pub state_told : State → QhState
state_told m = record { at = in32 m.at; depth = in32 m.stack.depth; entries = m.stack.entries }

unfoldable pub state_given : QhState → State
state_given m = record { at = m.at; stack = record { entries = m.entries; depth = m.depth } }

-- Status 0 says that the call was refused.
unfoldable pub refusal_told : Outcome → ℕ
refusal_told (Ok w) = 0
refusal_told (Err r) = in32 (told r).number

unfoldable pub place_told : Outcome → ℕ
place_told (Ok w) = 0
place_told (Err r) = in32 (told r).place

unfoldable pub status_told : Outcome → ℕ
status_told (Ok w) = status_number w
status_told (Err r) = 0

unfoldable pub ran_told : Ran → QhRan
ran_told r = record {
  refusal = refusal_told r.outcome;
  place = place_told r.outcome;
  status = status_told r.outcome;
  state = state_told r.state;
  steps = r.steps;
  replies = r.replies;
  actions = r.actions;
}

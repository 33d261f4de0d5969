-- Soundness of a counter stack, place by place; a verdict on a file with the checks 9 and 10 after it; and what a refused call answers.
use Rattle.std.specs.Prelude.{Err, Ok}
use Rattle.rules.specs.Words.{ℕ, not, List}
use Rattle.rules.specs.declared.State.{State}
use Rattle.rules.specs.declared.Ran.{Ran}
use Rattle.rules.specs.declared.Refusal.{Refusal}
use Rattle.rules.specs.declared.Refusal.TheVariants.{Reply}
use Rattle.rules.specs.declared.Refusal.TheVariants as refusal
use Rattle.rules.specs.Refusals.{Verdict, when, when_at, verdict_of}
use Rattle.rules.specs.Answers.{bad_reply, sound}

unfoldable pub with_replies : Verdict → List ℕ → Verdict
with_replies (Err r) replies = Err r
with_replies (Ok n) replies = verdict_of (when_at Reply (bad_reply replies)) n

unfoldable pub with_state : Verdict → State → Verdict
with_state (Err r) m = Err r
with_state (Ok n) m = verdict_of (when (not (sound n m)) refusal.State) n

-- A refused call has taken no step, and used and logged nothing.
abbrev pub away_with : Refusal → State → Ran
away_with r m = record { outcome = Err r; state = m; steps = 0; replies = 0; actions = 0 }

-- What the machine's own functions answer, and when a table of places is right.
use Rattle.std.specs.Prelude.{◌≡◌, Ok}
use Rattle.rules.specs.Words.{ℕ, List}
use Rattle.rules.specs.declared.Stack.{Stack}
use Rattle.rules.specs.declared.State.{State}
use Rattle.rules.specs.declared.Status.{Status}
use Rattle.rules.specs.declared.Ran.{Ran}
use Rattle.rules.specs.Record.{count}
use Rattle.rules.specs.Numbers.{move_to}
use Rattle.rules.specs.Stack.{fresh}
use Rattle.ways.specs.Places.{place_at}
use Rattle.deeds.specs.Deeds.{place_in}

abbrev pub fresh_at : ℕ → State
fresh_at i = record { at = i; stack = fresh }

-- A run that stops.
abbrev pub stops : Status → ℕ → Stack → ℕ → ℕ → Ran
stops w i s steps asked = record {
  outcome = Ok w;
  state = record { at = i; stack = s };
  steps = steps;
  replies = asked;
  actions = asked;
}

-- By the table ps, record j of the file leads where it should.
abbrev pub Right : List ℕ → List ℕ → ℕ → Type 0
Right s ps j = move_to (count s) (place_in ps j) ≡ move_to (count s) (place_at s j)

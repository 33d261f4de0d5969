-- What a record's name is asked for.
use Rattle.rules.specs.Words.{ℕ, Bool, true, cond, List, eqb}
use Rattle.rules.specs.Record.{Rec}
use Rattle.text.specs.Forms.{a, letter_of}
use Rattle.text.specs.Names.{proper}

-- A record with an action has a proper name for it in the list.
unfoldable pub has_name : List (List ℕ) → Rec → Bool
has_name es r = cond (eqb (letter_of r.kind) a) (proper es r.x) true

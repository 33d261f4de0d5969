-- The words of a listing, byte for byte: actions and instructions.
use Prim.Native.String.{String}
use Rattle.std.specs.Prelude.{◌++◌}
use Rattle.rules.specs.Words.{ℕ, cond, List, [], eqb}
use Rattle.rules.specs.Record.{Rec}
use Rattle.rules.specs.Instruction.{Act, outside, push, pop, compare, act_of}
use Rattle.print.specs.Text.{ascii, decimal}

-- A word, and a number behind it.
abbrev pub named : String → ℕ → List ℕ
named word n = ascii word ++ decimal n

-- Push, pop and compare print as push(y), pop and topeq(y), an outside action by its number.
unfoldable pub action : Act → List ℕ
action (outside n) = named "a" n
action (push y) = named "push(" y ++ ascii ")"
action pop = ascii "pop"
action (compare y) = named "topeq(" y ++ ascii ")"

-- The sign of kind 2 or 3.
unfoldable pub sign : ℕ → List ℕ
sign kind = cond (eqb kind 2) (ascii "+") (cond (eqb kind 3) (ascii "-") [])

-- The instruction of a base record: ##k, or an action with its sign in front.
unfoldable pub instruction : Rec → List ℕ
instruction r = cond (eqb r.kind 4) (named "##" r.x) (sign r.kind ++ action (act_of r.x r.y))

-- The four stages, alike: what a record becomes, and where a jump leads once second level is removed.
use Rattle.std.specs.Prelude.{◌≡◌, ◌*◌}
use Rattle.rules.specs.Words.{ℕ, cond, List, length, get_or, eqb, leb}
use Rattle.rules.specs.Record.{Rec, rec}
use Rattle.rules.specs.Numbers.{each}
use Rattle.rules.specs.Instruction.{Op, ops}
use Rattle.rules.specs.SecondLevel.{Group, stays, renumber}
use Rattle.rules.specs.Labels.{unlabel}
use Rattle.rules.specs.Calls.{uncall}
use Rattle.rules.specs.Loops.{unloop}
use Rattle.rules.specs.Conditionals.{uncond}
use Rattle.places.specs.declared.Stage.{Stage}
use Rattle.places.specs.declared.Stage.TheVariants.{Labels, Calls, Loops, Conditionals}

-- The group of a record, and the groups of all of them. Labels make no second level.
unfoldable pub becomes : Stage → List Op → ℕ → Op → Group
becomes Labels L i o = stays (unlabel L i o)
becomes Calls L i o = uncall (length L) i o
becomes Loops L i o = unloop L i o
becomes Conditionals L i o = uncond L i o

unfoldable pub expanded : Stage → List Op → List Group
expanded stage L = each (becomes stage L) 1 L

-- The second-level records that a record of a kind brings with it, in a stage on n records.
unfoldable pub seconds_of : Stage → ℕ → ℕ → ℕ
seconds_of Labels n kind = 0
seconds_of Calls n kind = cond (eqb kind 15) 1 (cond (eqb kind 16) (5 * n) 0)
seconds_of Loops n kind = cond (eqb kind 12) 1 (cond (eqb kind 13) 1 0)
seconds_of Conditionals n kind = cond (eqb kind 8) 1 (cond (eqb kind 9) 1 0)

-- A number that a base can have; 0 in place of a greater one.
unfoldable pub within : ℕ → ℕ
within k = cond (leb k 4096) k 0

-- Where a jump to k leads once second level is removed from the stage on this file.
unfoldable pub leads : Stage → List ℕ → ℕ → ℕ
leads stage s k = within (renumber (expanded stage (ops s)) k)

-- A record that stays, but for its number where it is a jump.
unfoldable pub kept : Stage → List ℕ → Rec → Rec
kept stage s r = cond (eqb r.kind 4) (rec 4 (leads stage s r.x) 0) r

-- The same by a table of where jumps lead.
unfoldable pub kept_by : List ℕ → Rec → Rec
kept_by t r = cond (eqb r.kind 4) (rec 4 (get_or t r.x 0) 0) r

-- A table has where jumps lead in the stage on this file.
pub record Leading (stage : Stage) (s t : List ℕ) : Type 0 where
  pub led : (k : ℕ) → get_or t k 0 ≡ leads stage s k

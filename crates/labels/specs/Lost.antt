-- Whether a record of a file is a goto that leads nowhere.
use Rattle.std.specs.Prelude.{◌&&◌, ◌||◌}
use Rattle.rules.specs.Words.{ℕ, Bool, List, eqb}
use Rattle.rules.specs.Record.{Rec}
use Rattle.rules.specs.Instruction.{Op, ops}
use Rattle.rules.specs.Labels.{target, target2, missing}
use Rattle.records.specs.Reading.{rec_at}

-- The goto r of L, kind 6 or 7, has no target.
unfoldable pub lost_record : List Op → Rec → Bool
lost_record L r = eqb r.kind 6 && missing (target L r.x) || eqb r.kind 7 && missing (target2 L r.x r.y)

abbrev pub lost_at : List ℕ → ℕ → Bool
lost_at s i = lost_record (ops s) (rec_at s i)

-- The body reader calls the item reader at the same place, and each other call goes to a later place: the measures are twice the
-- records left, and one more for the body reader.
use Prim.Native.Nat.{◌+◌, ◌-◌, ◌*◌, ◌≤◌}
use Rattle.rules.specs.Record.{count}
use Rattle.shape.specs.Reading.{Passes}
use Rattle.shape.proofs.nesting.+read_body_read_item.Given as goal

abbrev pub decreases-read_body : goal.decreases-read_body
decreases-read_body l = 2 * (count l.s.now - l.at) + 1

abbrev pub decreases-read_item : goal.decreases-read_item
decreases-read_item l = 2 * (count l.s.now - l.at)

-- What was read so far changes nothing of what is open.
abbrev pub invariant-read_body-loop-i : goal.invariant-read_body-loop-i
invariant-read_body-loop-i l = (l.at ≤ l.i) × (l.i ≤ count l.s) × Passes l.s l.at l.i

abbrev pub decreases-read_body-loop-i : goal.decreases-read_body-loop-i
decreases-read_body-loop-i l = count l.s - l.i

-- The records from i on are passed: `top` is where the arm behind record i - 1 ends.
use mathlib.Core.Path.{◌≡◌}
use mathlib.Core.Bool.{true}
use Rattle.rules.specs.Record.{count}
use Rattle.rules.specs.Instruction.{ops}
use Rattle.partners.specs.Roles.{sort_of}
use Rattle.tables.specs.Passing.{stop_of}
use Rattle.tables.proofs.Filling.{Entries}
use Rattle.tables.proofs.Stops.{from}
use Rattle.tables.proofs.fill_stops.Given as goal

abbrev pub invariant-loop-i : goal.invariant-loop-i
invariant-loop-i l = record {
  top : l.top ≡ from (sort_of l.sort) (ops l.s) true 0 l.i;
  entries : Entries (stop_of (sort_of l.sort) (ops l.s)) l.i (count l.s) (count l.s) l.initial.t l.t;
}

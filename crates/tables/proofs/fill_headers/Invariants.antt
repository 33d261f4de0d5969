-- The records before i are passed: `top` is the header that is open before i.
use mathlib.Core.Path.{◌≡◌}
use Prim.Native.Nat.{◌-◌}
use Rattle.rules.specs.Record.{count}
use Rattle.rules.specs.Instruction.{loop, ops}
use Rattle.tables.specs.Passing.{open_at}
use Rattle.tables.proofs.Filling.{Entries}
use Rattle.tables.proofs.fill_headers.Given as goal

abbrev pub invariant-loop-i : goal.invariant-loop-i
invariant-loop-i l = record {
  top : l.top ≡ open_at loop (ops l.s) l.i;
  entries : Entries (open_at loop (ops l.s)) 0 (l.i - 1) (count l.s) l.initial.t l.t;
}

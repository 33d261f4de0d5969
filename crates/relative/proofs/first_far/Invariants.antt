-- None of the first i records is too far, so that the whole answer is that of those behind them.
use mathlib.Core.Path.{◌≡◌}
use Rattle.rules.specs.Record.{records}
use Rattle.rules.specs.Relative.{far}
use Rattle.relative.proofs.Jumps.{far_after}
use Rattle.relative.proofs.first_far.Given as goal

abbrev pub invariant-loop-i : goal.invariant-loop-i
invariant-loop-i l = far (records l.s) ≡ far_after l.s l.i

-- The lowest place from the start is the lowest from here on.
use mathlib.Core.Path.{◌≡◌}
use Rattle.rules.specs.Instruction.{ops}
use Rattle.rules.specs.Skip.{skip}
use Rattle.growth.proofs.Lengths.{skips_from}
use Rattle.growth.proofs.skip_place.Given as goal

abbrev pub invariant-loop-k : goal.invariant-loop-k
invariant-loop-k l = skip (ops l.s) ≡ skips_from l.s l.k

use mathlib.Core.Path.{ap}
use Prim.Native.Nat.{◌+◌}
use native.Mathlib.Omega.{arith}
use Rattle.rules.specs.Record.{count}
use Rattle.places.proofs.Groups.{none_written, one_written, all_written}
use Rattle.places.proofs.expansion.write_groups.Goals as goal

pub loop-i-init : goal.loop-i-init
loop-i-init g c = none_written _ _ _

pub loop-i-preserved : goal.loop-i-preserved
loop-i-preserved g c = one_written _ _ (c.loop-i.i + 1) (omega arith) (omega (arith, ap count c.file.ensures)) c.loop-i.invariant c.write_group-at.ensures

pub returns : goal.returns
returns g c = all_written _ _ (c.loop-i.i + 1) (omega (arith, ap count c.file.ensures)) (omega (arith, ap count c.file.ensures)) c.loop-i.invariant

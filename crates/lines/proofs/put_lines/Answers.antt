use native.Mathlib.Omega.{arith}
use lib.Seq.{take_all}
use Rattle.rules.specs.Record.{records}
use Rattle.laws.proofs.Records.{records-length}
use Rattle.print.proofs.Printing.{print-none}
use Rattle.lines.specs.Text.{lines}
use Rattle.lines.proofs.Lines.{turn}
use Rattle.lines.proofs.put_lines.Goals as goal

pub loop-i-init : goal.loop-i-init
unfolding lines
loop-i-init c = print-none _

pub loop-i-preserved : goal.loop-i-preserved
loop-i-preserved c = turn _ _ c.loop-i-test.true c.loop-i.invariant (rw c.record_at.ensures at c.put_line-at.ensures)

pub returns : goal.returns
returns c =
    let s = c.args.base.now in
    rw (take_all c.loop-i.i (records s) (omega (arith, records-length s))) at c.loop-i.invariant

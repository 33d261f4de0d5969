use mathlib.Core.Path.{refl, sym, ap, ◌∙◌}
use native.Mathlib.Omega.{arith}
use Rattle.rules.specs.Numbers.{found}
use Rattle.rules.specs.Relative.{far}
use Rattle.relative.proofs.Jumps.{far_here, far_on, far-end}
use Rattle.relative.proofs.first_far.Goals as goal

pub loop-i-init : goal.loop-i-init
unfolding far
loop-i-init c = refl

pub returns-then-absolute_x-gt9999 : goal.returns-then-absolute_x-gt9999
returns-then-absolute_x-gt9999 c =
    sym (ap found c.loop-i.invariant ∙ far_here _ _ c.loop-i-test.true c.record_at.ensures c.absolute_x.ensures (omega arith))

pub loop-i-preserved : goal.loop-i-preserved
loop-i-preserved c =
    c.loop-i.invariant ∙ far_on _ _ c.loop-i-test.true c.record_at.ensures c.absolute_x.ensures (omega arith)

pub returns : goal.returns
returns c = sym (ap found c.loop-i.invariant ∙ far-end _ _ (omega arith))

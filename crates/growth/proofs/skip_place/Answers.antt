use mathlib.Core.Path.{sym, ap, ◌∙◌}
use Rattle.rules.specs.Numbers.{found}
use Rattle.growth.proofs.Lengths.{next_adds}
use Rattle.growth.proofs.skip_place.Goals as goal

pub returns-then-added-ne0 : goal.returns-then-added-ne0
returns-then-added-ne0 c = sym (ap found c.loop-k.invariant ∙ next_adds _ _ c.loop-k.auto.k c.loop-k-test.true (sym c.is_test.ensures ∙ c.if-is_test.true) (λ z. c.if-added-ne0.true (c.added.ensures ∙ z)))

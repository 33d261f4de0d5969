use mathlib.Core.Path.{ap, ◌∙◌}
use Prim.Native.Nat.{◌-◌}
use native.Mathlib.Omega.{arith}
use Rattle.rules.specs.Numbers.{found}
use Rattle.text.specs.Names.{name_at, padded}
use Rattle.reader.proofs.Lookups.{action_zero, action_some, action_none, action_small}
use Rattle.reader.proofs.Actions.number.Goals as goal

pub returns-then-p-eq0 : goal.returns-then-p-eq0
returns-then-p-eq0 c = action_zero _ _ _ c.if-p-eq0.true

pub overflow_cast-result : goal.overflow_cast-result
overflow_cast-result c =
    let a = c.args in
    omega (arith, action_small a.self.now.list.now (name_at a.s.now (a.p - 1)) c.in-Some.x a.self.now.few (c.in-Some.ensures ∙ ap found (a.self.now.indexed (padded 16 (name_at a.s.now (a.p - 1))))))

pub returns-in-Some : goal.returns-in-Some
returns-in-Some c = let a = c.args in action_some _ _ _ c.if-p-eq0.false c.in-Some.x (c.in-Some.ensures ∙ ap found (a.self.now.indexed (padded 16 (name_at a.s.now (a.p - 1)))))

pub returns-in-None : goal.returns-in-None
returns-in-None c = let a = c.args in action_none _ _ _ c.if-p-eq0.false (c.in-None.ensures ∙ ap found (a.self.now.indexed (padded 16 (name_at a.s.now (a.p - 1)))))

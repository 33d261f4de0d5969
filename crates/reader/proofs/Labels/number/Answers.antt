use native.Mathlib.Omega.{arith}
use Rattle.reader.proofs.Lookups.{label_zero, label_old, label_small, label_full, label_new}
use Rattle.reader.proofs.Labels.number.Goals as goal

pub returns-then-p-eq0 : goal.returns-then-p-eq0
returns-then-p-eq0 c = label_zero _ _ _ _ c.if-p-eq0.true

pub overflow_cast-result : goal.overflow_cast-result
overflow_cast-result c =
    let a = c.args in
    omega (arith, a.self.now.few, label_small a.s.now a.self.now.firsts a.self.now.count a.p c.if-p-eq0.false (omega (arith, a.self.now.few)) c.in-Some.x c.in-Some.ensures)

pub returns-in-Some : goal.returns-in-Some
returns-in-Some c = label_old _ _ _ _ c.if-p-eq0.false c.in-Some.x c.in-Some.ensures

pub returns-then-self-eq999 : goal.returns-then-self-eq999
returns-then-self-eq999 c = let a = c.args in label_full a.s.now a.self.now.firsts a.self.now.count a.p c.if-p-eq0.false (omega (arith, a.self.now.few)) c.in_default.ensures c.if-self-eq999.true

pub returns : goal.returns
returns c =
    let a = c.args in
    label_new a.s.now a.self.now.firsts a.self.now.count a.p c.if-p-eq0.false (omega (arith, a.self.now.few)) c.in_default.ensures
    (omega (arith, a.self.now.few, c.if-self-eq999.false)) (omega (arith, a.self.now.few, c.if-self-eq999.false))

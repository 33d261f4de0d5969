use mathlib.Core.Path.{sym, ◌∙◌}
use Prim.Native.Nat.{◌≤◌}
use native.Mathlib.Omega.{arith}
use borrow.Author.Rules.{rules}
use Rattle.rules.specs.Answers.{mem_at}
use Rattle.stack.proofs.Moves.{named}
use Rattle.machine.proofs.Running.{begins, answered, ends, spends, halts, goes}
use Rattle.machine.proofs.run.drive.Goals as goal

pub loop-stack-init : goal.loop-stack-init
loop-stack-init c = begins _ _ _ _ _ _

pub returns-then-not-names : goal.returns-then-not-names
unfolding mem_at
returns-then-not-names c =
    let l = c.loop-stack in
    answered _ l.steps _ _ _ _ _ _ (ends l.invariant (sym c.names.ensures ∙ c.if-not-names.true)) _ c.stop.ensures

pub returns-then-steps-budget : goal.returns-then-steps-budget
unfolding mem_at
returns-then-steps-budget c =
    let l = c.loop-stack in
    answered _ l.steps _ _ _ _ _ _ (spends l.invariant (sym c.names.ensures ∙ c.if-not-names.false) c.if-steps-budget.true) _ c.stop-then-steps-budget.ensures

pub overflow_add-at : goal.overflow_add-at
overflow_add-at c = let h = named _ _ (sym c.names.ensures ∙ c.if-not-names.false) in omega (arith, h, c.requires.s_bound)

pub overflow_cast-at : goal.overflow_cast-at
overflow_cast-at c =
    let h = named _ _ (sym c.names.ensures ∙ c.if-not-names.false) in
    let small : c.loop-stack.at ≤ 4096 = omega (arith, h, c.requires.s_bound) in
    search rules

pub loop-stack-preserved : goal.loop-stack-preserved
loop-stack-preserved c =
    let l = c.loop-stack in
    let h = rw c.in-Ok.is at c.turn.ensures in
    goes l.invariant (sym c.names.ensures ∙ c.if-not-names.false) c.if-steps-budget.false _ c.requires.by_index _ c.deed_at-deed.ensures _ _ _ _ h c.turn.auto.log

pub returns-in-Err : goal.returns-in-Err
unfolding mem_at
returns-in-Err c =
    let l = c.loop-stack in
    let h = rw c.in-Err.is at c.turn.ensures in
    answered _ l.steps _ _ _ _ _ _ (halts l.invariant (sym c.names.ensures ∙ c.if-not-names.false) c.if-steps-budget.false _ c.requires.by_index _ c.deed_at-deed.ensures _ _ h.1 h.0) _ c.stop-in-Err.ensures

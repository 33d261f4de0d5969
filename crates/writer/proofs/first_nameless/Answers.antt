use mathlib.Core.Path.{sym, ap, ◌∙◌}
use Prim.Native.Nat.{◌+◌}
use native.Mathlib.Omega.{arith}
use Rattle.rules.specs.Numbers.{found}
use Rattle.text.specs.Names.{entries}
use Rattle.text.specs.Writing.{nameless_from}
use Rattle.names.proofs.Found.{found_some}
use Rattle.phrases.proofs.Texts.{none_behind}
use Rattle.writer.proofs.Named.{named_on, named_off}
use Rattle.writer.proofs.first_nameless.Goals as goal

pub returns-then-not-has_name : goal.returns-then-not-has_name
returns-then-not-has_name c =
    let a = c.args in let l = c.loop-i in
    let h = named_off a.routine.now l.i c.loop-i-test.true (entries a.names.now) _ c.record_at.ensures (sym c.has_name.ensures ∙ c.if-not-has_name.true) in
    sym (ap found (l.invariant ∙ h) ∙ found_some (l.i + 1) (omega arith))

pub loop-i-preserved : goal.loop-i-preserved
loop-i-preserved c =
    let a = c.args in let l = c.loop-i in
    l.invariant ∙ named_on a.routine.now l.i c.loop-i-test.true (entries a.names.now) _ c.record_at.ensures (sym c.has_name.ensures ∙ c.if-not-has_name.false)

pub returns : goal.returns
unfolding nameless_from
returns c =
    let a = c.args in let l = c.loop-i in
    sym (ap found (l.invariant ∙ ap (nameless_from (l.i + 1) (entries a.names.now)) (none_behind a.routine.now l.i (omega arith))))

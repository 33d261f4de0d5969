use mathlib.Core.Path.{sym, ap, ◌∙◌}
use Prim.Native.Nat.{◌+◌}
use native.Mathlib.Omega.{arith}
use Rattle.rules.specs.Numbers.{found}
use Rattle.names.proofs.Found.{found_some}
use Rattle.names.proofs.Same.{run_most}
use Rattle.label_numbers.proofs.Names.{all_named, label_on, label_off, label_none}
use Rattle.text.specs.declared.Sort.TheVariants.{Named}
use Rattle.text.specs.Names.{place_of}
use Rattle.label_numbers.specs.Labels.{labels_of}
use Rattle.label_numbers.proofs.label_number.Goals as goal

pub is_same-requires : goal.is_same-requires
is_same-requires c = let a = c.args in rw c.name_at-name.ensures (all_named a.s.now a.at 16, run_most Named a.s.now a.at 16)

pub returns-then-is_same : goal.returns-then-is_same
returns-then-is_same c =
    let a = c.args in let l = c.loop-i in
    let h = label_on c.name_at-name.result.now a.s.now a.firsts.now l.i c.loop-i-test.true (sym c.is_same.ensures ∙ c.if-is_same.true) in
    rw c.name_at-name.ensures at (sym (ap found (l.invariant ∙ h) ∙ found_some (l.i + 1) (omega arith)))

pub loop-i-preserved : goal.loop-i-preserved
loop-i-preserved c =
    let a = c.args in let l = c.loop-i in
    l.invariant ∙ label_off c.name_at-name.result.now a.s.now a.firsts.now l.i c.loop-i-test.true (sym c.is_same.ensures ∙ c.if-is_same.false)

pub returns : goal.returns
returns c =
    let a = c.args in let l = c.loop-i in
    sym (ap (λ u. found (place_of u (labels_of a.s.now a.firsts.now))) (sym c.name_at-name.ensures) ∙ ap found (l.invariant ∙ label_none c.name_at-name.result.now a.s.now a.firsts.now l.i (omega arith)))

use mathlib.Core.Path.{ap, ◌∙◌}
use Prim.Native.Nat.{◌+◌}
use native.Mathlib.Omega.{arith}
use lib.ListN.{length, take}
use Rattle.text.specs.declared.Sort.TheVariants.{Blank}
use Rattle.text.specs.Forms.{best_of}
use Rattle.text.specs.Names.{entries}
use Rattle.text.proofs.Reach.{span-within}
use Rattle.reader.proofs.Settled.{form_bounds, step-bad, step_made}
use Rattle.reader.proofs.next.Goals as goal

pub overflow_add-at : goal.overflow_add-at
overflow_add-at c = let a = c.args in omega (arith, c.span_of.ensures, span-within Blank a.s.now a.at (length a.s.now) c.requires)

pub returns-in_err-x : goal.returns-in_err-x
returns-in_err-x c = let a = c.args in step-bad _ _ _ a.at c.requires c.best-f.result (c.best-f.ensures ∙ ap (λ n. best_of a.s.now (a.at + n)) c.span_of.ensures) _ _ _ c.from_residual.ensures.1 c.in_err-x.ensures

pub settle-requires : goal.settle-requires
settle-requires c =
    let a = c.args in
    let b = form_bounds a.s.now (entries a.actions.now.list.now) (take a.labels.now.count a.labels.now.firsts) a.at c.requires c.best-f.result (c.best-f.ensures ∙ ap (λ n. best_of a.s.now (a.at + n)) c.span_of.ensures) in
    (b.0, omega (arith, b.1))

pub returns : goal.returns
returns c =
    let a = c.args in
    step_made _ _ _ a.at c.requires c.best-f.result (c.best-f.ensures ∙ ap (λ n. best_of a.s.now (a.at + n)) c.span_of.ensures) _ _ _ _ c.settle.ensures c.in_ok-x.ensures

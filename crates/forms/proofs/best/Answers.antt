use mathlib.Core.Path.{sym, ◌∙◌}
use native.Mathlib.Omega.{arith}
use Rattle.forms.proofs.Starts.{best_none}
use Rattle.forms.proofs.best.Goals as goal

pub returns-in_default-2 : goal.returns-in_default-2
returns-in_default-2 c =
    let a = c.args in
    let plain = sym c.in_sort.ensures ∙ c.if-in_sort.false in
    c.stuck.ensures
    ∙ sym (best_none a.s.now a.at _ (sym c.byte_at-b.ensures) plain (λ z. omega arith) (λ z. omega arith) (λ z. omega arith) (λ z. omega arith) (λ z. omega arith) (λ z. omega arith) (λ z. omega arith))

use mathlib.Core.Path.{sym, ◌∙◌}
use native.Mathlib.Omega.{arith}
use lib.ListN.{take}
use Rattle.text.specs.Reading.{settled, with_second}
use Rattle.label_numbers.specs.Labels.{labels_of}
use Rattle.reader.proofs.Settled.{after-err, by_action, by_number, by_label, second, by_none}
use Rattle.reader.proofs.numbers.Goals as goal

pub returns-in_err-number-in-97 : goal.returns-in_err-number-in-97
returns-in_err-number-in-97 c =
    let a = c.args in
    after-err _ _ _ c.from_residual.ensures.1
    ∙ c.in_err-number-in-97.ensures (λ x. settled a.f x 0 (labels_of a.s.now (take a.labels.now.count a.labels.now.firsts)))
    ∙ by_action _ _ _ a.f _ (sym c.letter_of.ensures ∙ c.in-97.is)

pub returns-in_err-x-in-115 : goal.returns-in_err-x-in-115
returns-in_err-x-in-115 c =
    let a = c.args in
    after-err _ _ _ c.from_residual-in_err-x-in-115.ensures.1
    ∙ c.in_err-x-in-115.ensures (λ x us. with_second a.s.now a.f x us)
    ∙ by_label _ _ _ a.f _ (sym c.letter_of.ensures ∙ c.in-115.is)

pub returns-in_err-y-in-115 : goal.returns-in_err-y-in-115
returns-in_err-y-in-115 c =
    let a = c.args in
    after-err _ _ _ c.from_residual-in_err-y-in-115.ensures.1
    ∙ c.in_err-y-in-115.ensures (λ y us. settled a.f c.in_ok-x-in-115.x y us)
    ∙ second _ _ a.f c.in_ok-x-in-115.x
    ∙ c.in_ok-x-in-115.ensures (λ x us. with_second a.s.now a.f x us)
    ∙ by_label _ _ _ a.f _ (sym c.letter_of.ensures ∙ c.in-115.is)

pub returns-in_ok-number-in-97 : goal.returns-in_ok-number-in-97
returns-in_ok-number-in-97 c =
    let a = c.args in
    c.in_ok-number-in-97.ensures (λ x. settled a.f x 0 (labels_of a.s.now (take a.labels.now.count a.labels.now.firsts)))
    ∙ by_action _ _ _ a.f _ (sym c.letter_of.ensures ∙ c.in-97.is)

pub returns-in-107 : goal.returns-in-107
returns-in-107 c =
    let a = c.args in
    c.number-in-107.ensures (λ x. settled a.f x 0 (labels_of a.s.now (take a.labels.now.count a.labels.now.firsts)))
    ∙ by_number _ _ _ a.f _ (sym c.letter_of.ensures ∙ c.in-107.is)

pub returns-in_ok-y-in-115 : goal.returns-in_ok-y-in-115
returns-in_ok-y-in-115 c =
    let a = c.args in
    c.in_ok-y-in-115.ensures (λ y us. settled a.f c.in_ok-x-in-115.x y us)
    ∙ second _ _ a.f c.in_ok-x-in-115.x
    ∙ c.in_ok-x-in-115.ensures (λ x us. with_second a.s.now a.f x us)
    ∙ by_label _ _ _ a.f _ (sym c.letter_of.ensures ∙ c.in-115.is)

pub returns-in_default : goal.returns-in_default
returns-in_default c =
    let a = c.args in
    by_none _ _ _ a.f _ (λ z. omega (arith, c.letter_of.ensures)) (λ z. omega (arith, c.letter_of.ensures)) (λ z. omega (arith, c.letter_of.ensures))

use mathlib.Core.Path.{◌≡◌, refl}
use borrow.Author.Rules.{rules}
use Rattle.std.specs.Prelude.{Err}
use Rattle.rules.specs.Relative.{relative_at, to_relative}
use Rattle.relative.proofs.Translations.{turned_away_lem, translated, base_kept, relating-refused, relating-short, relating_enough}
use Rattle.relative.proofs.to_relative.Goals as goal

pub returns-in_err-n : goal.returns-in_err-n
returns-in_err-n c =
    let e : c.from_residual.result ≡ Err c.in_err-n.field-0.0 = search rules in
    turned_away_lem (relating-refused _ _ c.in_err-n.ensures) e

pub returns-then-out-n : goal.returns-then-out-n
returns-then-out-n c = turned_away_lem (relating-short _ _ c.in_ok-n.ensures c.if-out-n.true) refl

pub returns : goal.returns
unfolding to_relative
returns c =
    let a = c.in_ok-n.ensures in
    translated _ _ (relating_enough _ _ a c.if-out-n.false) (base_kept a).counted (c.put_turned.ensures relative_at (λ i r q a b d e p. search rules))

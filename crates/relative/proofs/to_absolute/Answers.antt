use mathlib.Core.Path.{◌≡◌, refl}
use borrow.Author.Rules.{rules}
use Rattle.std.specs.Prelude.{Err}
use Rattle.rules.specs.Relative.{absolute_at, to_absolute}
use Rattle.relative.proofs.Translations.{turned_away_lem, translated, relative_kept, absoluting-refused, absoluting-short, absoluting_enough, absoluting-far, no_far}
use Rattle.relative.proofs.Jumps.{near}
use Rattle.relative.proofs.to_absolute.Goals as goal

pub returns-in_err-n : goal.returns-in_err-n
returns-in_err-n c =
    let e : c.from_residual.result ≡ Err c.in_err-n.field-0.0 = search rules in
    turned_away_lem (absoluting-refused _ _ c.in_err-n.ensures) e

pub returns-in-Some : goal.returns-in-Some
returns-in-Some c = turned_away_lem (absoluting-far _ _ c.in_ok-n.ensures c.in-Some.ensures) refl

pub put_turned-requires-clause-can : goal.put_turned-requires-clause-can
put_turned-requires-clause-can c = λ i h. let n = near _ (no_far _ c.in_default.ensures) i h in search rules

pub returns-then-out-n : goal.returns-then-out-n
returns-then-out-n c = turned_away_lem (absoluting-short _ _ c.in_ok-n.ensures (no_far _ c.in_default.ensures) c.if-out-n.true) refl

pub returns : goal.returns
unfolding to_absolute
returns c =
    let a = c.in_ok-n.ensures in
    let z = no_far _ c.in_default.ensures in
    translated _ _ (absoluting_enough _ _ a z c.if-out-n.false) (relative_kept a).counted (c.put_turned.ensures absolute_at (λ i r q a b d e p. search rules))

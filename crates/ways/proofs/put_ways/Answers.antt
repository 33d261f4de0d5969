use mathlib.Core.Path.{refl, ap, ◌∙◌}
use native.Mathlib.Omega.{arith}
use native.Mathlib.Numerals.{add-one}
use Rattle.ways.specs.Ways.{near}
use Rattle.ways.proofs.Ways.{same_below, put_none, put_one, put_all}
use Rattle.ways.proofs.put_ways.Goals as goal

pub loop-k-init : goal.loop-k-init
loop-k-init c = (λ h. refl, put_none _ _ _)

pub place-requires : goal.place-requires
place-requires c = let l = c.loop-k in rw add-one (c.requires l.k l.auto.k (omega arith))

pub loop-k-preserved : goal.loop-k-preserved
loop-k-preserved c =
    let l = c.loop-k in
    (λ h. absurd (omega arith), put_one _ _ l.k l.invariant.1 l.auto.k (omega arith) (c.near.ensures ∙ ap near c.place.ensures))

-- A loop that began past its end has put nothing.
pub returns : goal.returns
returns c =
    let l = c.loop-k in
    put_all _ _ l.k l.invariant.1 _ (λ j a b. same_below j l.k _ (λ g. grind arith) (λ g. omega arith))

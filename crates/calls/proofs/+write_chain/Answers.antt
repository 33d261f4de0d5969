use mathlib.Core.Path.{sym}
use Prim.Native.Nat.{◌+◌, ◌-◌}
use mathlib.Core.List.{◌++◌}
use Rattle.places.specs.Groups.{chain_by}
use Rattle.places.specs.Writing.{Fitted}
use Rattle.places.proofs.Writing.{fit_one, fit_more, fit_as}
use Rattle.places.proofs.Groups.{link, chain_more, chain_none}
use Rattle.calls.proofs.+write_chain.Goals as goal
use Rattle.calls.proofs.+write_chain.Goals.{in-1, in_default}

pub returns : goal.returns
returns t c =
    let a = c.args in
    let first = c.put_link-at.ensures in
    let arms : Fitted (link a.j c.look.result ++ chain_by a.places.now (a.j - 1)) a.out.now c.match-j.out (c.put_link-at.result + c.match-j.at) =
    elim c.match-j.branch [
      | in-1 w ↦ rw (w.out-is, w.at-is, chain_none a.places.now a.j w.in-1.is) (fit_more first (fit_one (sym w.jump.ensures) w.put_record.ensures))
      | in_default w ↦ rw (w.out-is, w.at-is) (fit_more first w.write_chain.ensures)
    ]
    in
    fit_as (chain_more _ _ c.look.ensures c.requires.0) (fit_more arms (fit_one (sym c.record.ensures) c.put_record-2.ensures))

use mathlib.Core.Path.{◌∙◌}
use native.Mathlib.Omega.{arith}
use Rattle.partners.specs.Roles.{sort_of}
use Rattle.shape.specs.Reading.{ItemTo, Fails, StaysOpen}
use Rattle.shape.proofs.Bodies.{body_end, body_shut, item_is, item-alone, item_shut, first_done, parted_at, second_done, second_second, Parted}
use Rattle.shape.proofs.nesting.+read_body_read_item.Goals as goal

pub read_body-returns-then-m-i : goal.read_body-returns-then-m-i
read_body-returns-then-m-i t c =
    let got : ItemTo c.args.s.now c.loop-i.i c.in-To.m = item_is _ _ _ c.read_item.ensures _ c.in-To.is in
    let v = c.loop-i.invariant in
    body_shut _ _ _ v.0 v.2 c.loop-i-test.true (got.empty c.if-m-i.true)

pub read_body-loop-i-smaller : goal.read_body-loop-i-smaller
read_body-loop-i-smaller t c = let g : ItemTo c.args.s.now c.loop-i.i c.in-To.m = item_is _ _ _ c.read_item.ensures _ c.in-To.is in omega arith

pub read_body-loop-i-preserved : goal.read_body-loop-i-preserved
read_body-loop-i-preserved t c =
    let g : ItemTo c.args.s.now c.loop-i.i c.in-To.m = item_is _ _ _ c.read_item.ensures _ c.in-To.is in
    let v = c.loop-i.invariant in
    (omega arith, g.upto, λ st. v.2 st ∙ g.passes st)

pub read_body-returns-in-Misfit : goal.read_body-returns-in-Misfit
read_body-returns-in-Misfit t c =
    let f : Fails c.args.s.now c.loop-i.i c.in-Misfit.k = item_is _ _ _ c.read_item.ensures _ c.in-Misfit.is in
    record { numbered = f.numbered; fails = λ st. c.loop-i.invariant.2 st ∙ f.fails st }

pub read_body-returns-in-Open : goal.read_body-returns-in-Open
read_body-returns-in-Open t c =
    let f : StaysOpen c.args.s.now c.loop-i.i c.in-Open.k = item_is _ _ _ c.read_item.ensures _ c.in-Open.is in
    record { numbered = f.numbered; stays = λ st. c.loop-i.invariant.2 st ∙ f.stays st }

pub read_body-returns : goal.read_body-returns
read_body-returns t c = let v = c.loop-i.invariant in body_end _ _ _ v.0 v.2 v.1 c.loop-i-test.false

pub read_item-returns-in-Alone : goal.read_item-returns-in-Alone
read_item-returns-in-Alone t c = item-alone _ _ c.requires _ c.start_of.ensures c.in-Alone.is

pub read_item-returns-in-Shut : goal.read_item-returns-in-Shut
read_item-returns-in-Shut t c = item_shut _ _ c.requires _ c.start_of.ensures c.in-Shut.is

pub read_item-returns-in-Done : goal.read_item-returns-in-Done
read_item-returns-in-Done t c =
    first_done _ _ _ _ _ _ c.requires c.start_of.ensures c.in-Header.is c.read_body.ensures c.after_body.ensures _ c.in-Done.is

pub read_item-read_body-requires-in-Second : goal.read_item-read_body-requires-in-Second
read_item-read_body-requires-in-Second t c =
    let p : Parted c.args.s.now c.args.at (sort_of c.in-Header.sort) c.in-Second.m = parted_at _ _ _ _ _ _ c.requires c.start_of.ensures c.in-Header.is c.read_body.ensures c.after_body.ensures _ c.in-Second.is in
    (omega arith, p.upto)

pub read_item-returns-in-Done-after_body : goal.read_item-returns-in-Done-after_body
read_item-returns-in-Done-after_body t c =
    second_done _ _ _ _ _ _ c.requires c.start_of.ensures c.in-Header.is c.read_body.ensures c.after_body.ensures _ c.in-Second.is _ _ c.read_body-in-Second.ensures c.after_body-in-Second.ensures _ c.in-Done-after_body.is

pub read_item-returns-in-Second-after_body : goal.read_item-returns-in-Second-after_body
read_item-returns-in-Second-after_body t c =
    second_second _ _ _ _ _ _ c.requires c.start_of.ensures c.in-Header.is c.read_body.ensures c.after_body.ensures _ c.in-Second.is _ _ c.read_body-in-Second.ensures c.after_body-in-Second.ensures _ c.in-Second-after_body.is

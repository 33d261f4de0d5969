use Prim.Native.Nat.{ℕ}
use mathlib.Core.Path.{◌≡◌, sym, ap, ◌∙◌}
use native.Mathlib.Omega.{arith}
use lib.ListN.{replicate}
use Rattle.std.specs.Prelude.{Err}
use Rattle.std.proofs.Common.{rules}
use Rattle.lower.proofs.Converting.{turned_away_lem, converted, refused, accepted, output-short, working-short, enough}
use Rattle.lower.proofs.convert.Goals as goal
use Rattle.lower.proofs.convert.Goals.{then-out-n-via-then-out-n, then-out-n-via-else-out-n+then-work-n}

pub returns-in_err-check_routine : goal.returns-in_err-check_routine
returns-in_err-check_routine c =
    let e : c.from_residual.result ≡ Err c.in_err-check_routine.field-0.0 = search rules in
    rw e (turned_away_lem (refused _ _ _ (sym c.in_err-check_routine.ensures)))

pub overflow_mul-n : goal.overflow_mul-n
overflow_mul-n c = omega (arith, (accepted _ (sym c.in_ok-check_routine.ensures) c.base_count-n.ensures).small)

pub returns-then-out-n : goal.returns-then-out-n
returns-then-out-n c =
    let u = accepted _ (sym c.in_ok-check_routine.ensures) c.base_count-n.ensures in
    elim c.then-out-n.branch [
      | then-out-n-via-then-out-n w ↦ turned_away_lem (output-short _ _ _ u w.if-out-n.true)
      | then-out-n-via-else-out-n+then-work-n w ↦ turned_away_lem (working-short _ _ _ u w.if-out-n.false w.if-work-n.true)
    ]

pub write_base-bytes-requires : goal.write_base-bytes-requires
write_base-bytes-requires c =
    let u = accepted _ (sym c.in_ok-check_routine.ensures) c.base_count-n.ensures in
    record { routine_value = u.value; routine_in_bounds = (omega (arith, u.base), omega (arith, u.base)) }

pub returns : goal.returns
returns c =
    let u = accepted _ (sym c.in_ok-check_routine.ensures) c.base_count-n.ensures in
    let w = c.write_base-bytes in
    converted (enough _ _ _ u c.if-out-n.false c.if-work-n.false) u.base w.ensures (c.clear.ensures ∙ ap (λ (k : ℕ). replicate k 0) w.auto.work)

use mathlib.Core.Path.{refl}
use native.Mathlib.Omega.{arith}
use Rattle.records.proofs.Writing.{eight}
use Rattle.relative.proofs.Turning.{put_none, put_on, put_all}
use Rattle.relative.proofs.put_turned.Goals as goal

pub loop-i-init : goal.loop-i-init
loop-i-init g c = record { far = refl; put = λ f t. put_none _ f _ }

pub loop-i-preserved : goal.loop-i-preserved
loop-i-preserved g c = record {
  far = omega (arith, eight c.put_record-at.ensures (omega arith));
  put = λ f t. put_on _ f _ (c.loop-i.invariant.put f t) c.record_at.ensures (t _ _ _ (omega arith) (omega arith) (omega arith) (omega arith) c.turn.ensures) c.put_record-at.ensures (omega arith);
}

pub returns : goal.returns
returns g c = λ f t. put_all _ f (c.loop-i.invariant.put f t) (omega arith)

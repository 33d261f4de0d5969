-- After i turns the first i records are put, whatever it is that turns each of them.
use mathlib.Core.Path.{◌≡◌}
use Prim.Native.Nat.{ℕ, ◌*◌}
use mathlib.Core.List.{[], ◌∷◌}
use Rattle.rules.specs.Record.{Rec}
use Rattle.laws.proofs.SecondLevel.{groups}
use Rattle.records.specs.Reading.{rec_at}
use Rattle.records.specs.Writing.{Wrote}
use Rattle.relative.specs.Turning.{Turns}
use Rattle.relative.proofs.put_turned.Given as goal

abbrev pub invariant-loop-i : goal.invariant-loop-i
invariant-loop-i g l = record {
  far : l.at ≡ 8 * l.i;
  put : (f : ℕ → Rec → Rec) → Turns (goal.F-post g l.turn) f → Wrote (groups (λ i. f i (rec_at l.s i) ∷ []) l.i) l.initial.out l.out l.at;
}

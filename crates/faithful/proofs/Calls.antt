-- Stage 2, calls and returns: what it makes of each record, and so that it is a simulation.
use Prim.Native.Nat.{◌≤◌}
use native.Mathlib.Omega.{arith}
use Rattle.rules.specs.Words.{ℕ, List, length}
use Rattle.rules.specs.Instruction.{conditional, loop, Op, act, test, jump, label, goto, goto2, header, separator, end, call, return}
use Rattle.rules.specs.Numbers.{each}
use Rattle.rules.specs.Calls.{uncall, calls}
use Rattle.faithful.proofs.Inner.Places.{place}
use Rattle.faithful.proofs.Inner.Turns.{rank, Good, Turns, keeps, returns}
use Rattle.faithful.proofs.Inner.Stage.{Staged, staged}

turned : (L : List Op) (i : ℕ) (o : Op) → rank o ≤ 3 → Turns L 2 i o (uncall (length L) i o)
unfolding uncall
turned L i (act a) r = keeps tt
turned L i (test v a) r = keeps tt
turned L i (jump k) r = keeps tt
turned L i (label s) r = absurd (omega arith)
turned L i (goto s) r = absurd (omega arith)
turned L i (goto2 s t) r = absurd (omega arith)
turned L i (header conditional v a) r = keeps tt
turned L i (header loop v a) r = keeps tt
turned L i separator r = keeps tt
turned L i (end conditional) r = keeps tt
turned L i (end loop) r = keeps tt
turned L i (call k) r = Turns.calls
turned L i return r = returns (omega arith)

pub calls-staged : (L : List Op) → Good 3 L → Staged 2 L (calls L) (place (each (uncall (length L)) 1 L))
unfolding calls
calls-staged L g = staged 2 (omega arith) (uncall (length L)) L g (turned L)

-- Stage 3, loops: what it makes of each record, and so that it is a simulation.
use mathlib.Core.Path.{◌≡◌, refl}
use Prim.Native.Nat.{◌≤◌}
use native.Mathlib.Omega.{arith}
use Rattle.rules.specs.Words.{ℕ, List}
use Rattle.rules.specs.Instruction.{Sort, conditional, loop, Op, act, test, jump, label, goto, goto2, header, separator, end, call, return}
use Rattle.rules.specs.Numbers.{each}
use Rattle.rules.specs.Nesting.{bracket}
use Rattle.rules.specs.Partners.{other, role_of, role}
use Rattle.rules.specs.Loops.{unloop, loops}
use Rattle.rules.specs.Step.{deed}
use Rattle.faithful.proofs.Inner.Places.{place}
use Rattle.faithful.proofs.Inner.Simulation.{cost}
use Rattle.faithful.proofs.Inner.Turns.{sort_rank, rank, Good, Turns, keeps, leaps, forks}
use Rattle.faithful.proofs.Inner.Stage.{Staged, staged}

-- The end of a loop is nothing to conditionals.
apart : (b : Sort) → sort_rank b ≤ 1 → role b (end loop) ≡ other
unfolding role role_of bracket
apart conditional h = refl
apart loop h = absurd (omega arith)

turned : (L : List Op) (i : ℕ) (o : Op) → rank o ≤ 2 → Turns L 1 i o (unloop L i o)
unfolding unloop deed cost
turned L i (act a) r = keeps tt
turned L i (test v a) r = keeps tt
turned L i (jump k) r = keeps tt
turned L i (label s) r = absurd (omega arith)
turned L i (goto s) r = absurd (omega arith)
turned L i (goto2 s t) r = absurd (omega arith)
turned L i (header conditional v a) r = keeps tt
turned L i (header loop v a) r = forks refl refl
turned L i separator r = keeps tt
turned L i (end conditional) r = keeps tt
turned L i (end loop) r = leaps refl (λ n m. refl) apart
turned L i (call k) r = absurd (omega arith)
turned L i return r = absurd (omega arith)

pub loops-staged : (L : List Op) → Good 2 L → Staged 1 L (loops L) (place (each (unloop L) 1 L))
unfolding loops
loops-staged L g = staged 1 (omega arith) (unloop L) L g (turned L)

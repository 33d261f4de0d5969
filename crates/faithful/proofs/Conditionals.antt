-- Stage 4, conditionals: what it makes of each record, and so that it is a simulation.
use mathlib.Core.Path.{◌≡◌, refl}
use Prim.Native.Nat.{◌≤◌}
use native.Mathlib.Omega.{arith}
use Rattle.rules.specs.Words.{ℕ, List}
use Rattle.rules.specs.Instruction.{Sort, conditional, loop, Op, act, test, jump, label, goto, goto2, header, separator, end, call, return}
use Rattle.rules.specs.Numbers.{each}
use Rattle.rules.specs.Partners.{other, role}
use Rattle.rules.specs.Conditionals.{uncond, conditionals}
use Rattle.rules.specs.Step.{deed}
use Rattle.faithful.proofs.Inner.Places.{place}
use Rattle.faithful.proofs.Inner.Simulation.{cost}
use Rattle.faithful.proofs.Inner.Turns.{sort_rank, rank, Good, Turns, keeps, leaps, forks}
use Rattle.faithful.proofs.Inner.Stage.{Staged, staged}

-- No sort stays.
apart : (o : Op) (b : Sort) → sort_rank b ≤ 0 → role b o ≡ other
apart o conditional h = absurd (omega arith)
apart o loop h = absurd (omega arith)

turned : (L : List Op) (i : ℕ) (o : Op) → rank o ≤ 1 → Turns L 0 i o (uncond L i o)
unfolding uncond deed cost
turned L i (act a) r = keeps tt
turned L i (test v a) r = keeps tt
turned L i (jump k) r = keeps tt
turned L i (label s) r = absurd (omega arith)
turned L i (goto s) r = absurd (omega arith)
turned L i (goto2 s t) r = absurd (omega arith)
turned L i (header conditional v a) r = forks refl refl
turned L i (header loop v a) r = absurd (omega arith)
turned L i separator r = leaps refl (λ n m. refl) (apart separator)
turned L i (end conditional) r = leaps refl (λ n m. refl) (apart (end conditional))
turned L i (end loop) r = absurd (omega arith)
turned L i (call k) r = absurd (omega arith)
turned L i return r = absurd (omega arith)

pub conditionals-staged : (L : List Op) → Good 1 L → Staged 0 L (conditionals L) (place (each (uncond L) 1 L))
unfolding conditionals
conditionals-staged L g = staged 0 (omega arith) (uncond L) L g (turned L)

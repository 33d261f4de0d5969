-- The table of cases holds, and so do the rows beside it, each by computation; only "to any budget" is by induction.
use mathlib.Core.Path.{◌≡◌, refl, ap}
use Prim.Native.Nat.{ℕ, zero, suc}
use mathlib.Core.List.{[], ◌∷◌}
use Rattle.rules.specs.declared.Status.TheVariants.{Spent}
use Rattle.rules.specs.Instruction.{jump}
use Rattle.rules.specs.Run.{runs}
use Rattle.rules.proofs.Cases.{Cases}
use Rattle.rules.proofs.Beside.{Checking, Lowering, Running, Stepping, Sharp, Advice, Incident}
use Rattle.rules.proofs.Computes.{computes}

for_ever : (budget : ℕ) → ((runs (jump 1 ∷ []) [] [] budget).steps ≡ budget) × ((runs (jump 1 ∷ []) [] [] budget).status ≡ Spent) × ((runs (jump 1 ∷ []) [] [] budget).mem.logged ≡ 0)
unfolding computes
for_ever zero = (refl, refl, refl)
for_ever (suc b) = let h = for_ever b in (ap suc h.0, h.1, h.2)

pub table : Cases
unfolding computes Cases
table = (refl, refl, refl, refl, for_ever, refl, refl, refl, refl, refl, refl, refl, refl, refl, refl, refl, refl, refl, refl, refl, refl, refl, refl, refl, refl)

pub checking : Checking
unfolding computes Checking
checking = (refl, refl, refl, refl, refl, refl, refl, refl, refl, refl, refl, refl, refl, refl, refl, refl, refl, refl, refl, refl, refl, refl)

pub lowering : Lowering
unfolding computes Lowering
lowering = (refl, refl, refl, refl, refl, refl, refl, refl, refl, refl, refl, refl, refl, refl)

pub running : Running
unfolding computes Running
running = (refl, refl, refl, refl, refl, refl, refl, refl, refl, refl, refl, refl, refl)

pub stepping : Stepping
unfolding computes Stepping
stepping = (refl, refl, refl, refl, refl, refl, refl, refl, refl, refl, refl, refl)

pub sharp : Sharp
unfolding computes Sharp
sharp = (refl, refl, refl, refl, refl)

pub incident : Incident
unfolding computes Incident
incident = (refl, refl, refl, refl, refl, refl, refl)

pub advice : Advice
unfolding computes Advice
advice = ((refl, refl, refl, refl, refl, refl), (refl, refl, refl, refl, refl, refl), (refl, refl, refl, refl, refl, refl), refl)

-- Partners by their tables, of a record that is known by its kind.
--     loop_end, loop_header     of a loop's header, and of a loop's end
--     arm_end, parts_end     of a conditional's header, and of a separator
use mathlib.Core.Path.{◌≡◌, refl}
use Prim.Native.Nat.{ℕ, ◌≤◌}
use native.Mathlib.Omega.{arith}
use mathlib.Core.List.{List}
use lib.ListN.{get_or}
use Rattle.rules.specs.Instruction.{conditional, loop, ops}
use Rattle.rules.specs.Partners.{end_of, arm_of, header_of}
use Rattle.records.specs.Reading.{rec_at}
use Rattle.tables.specs.Passing.{Stopping, Opening}
use Rattle.tables.proofs.Partners.{loop_found, arm_found, end-found, header-found}
use Rattle.places.proofs.Places.{there}

module _ (s : List ℕ) {t : List ℕ} (i : ℕ) where
  pub loop_end : Stopping loop s t → ¬ ((rec_at s i).kind ≡ 0) → get_or t i 0 ≡ end_of loop (ops s) i
  loop_end u z = let r = there s i refl z in loop_found s i r.0 r.1 u

  pub loop_header : Opening s t → (rec_at s i).kind ≡ 14 → get_or t i 0 ≡ header_of loop (ops s) i
  loop_header u e = let r = there s i refl (λ z. omega arith) in header-found s i r.0 r.1 refl u e

  pub arm_end : Stopping conditional s t → 8 ≤ (rec_at s i).kind → (rec_at s i).kind ≤ 9 → get_or t i 0 ≡ arm_of (ops s) i
  arm_end u a b = let r = there s i refl (λ z. omega arith) in arm_found s i r.0 r.1 refl u a b

  pub parts_end : Stopping conditional s t → (rec_at s i).kind ≡ 10 → get_or t i 0 ≡ end_of conditional (ops s) i
  parts_end u e = let r = there s i refl (λ z. omega arith) in end-found s i r.0 r.1 refl u e

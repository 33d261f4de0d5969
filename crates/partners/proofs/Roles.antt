-- Roles as they are read of the bytes of a routine.
--     role-at     the role of record number i, by its kind; there is none where there is no such record
use mathlib.Core.Path.{◌≡◌, refl}
use Prim.Native.Nat.{ℕ, zero, suc}
use mathlib.Core.List.{List, [], ◌∷◌, map}
use Rattle.rules.specs.Record.{Rec, records}
use Rattle.rules.specs.Instruction.{Sort, conditional, loop, decode, ops}
use Rattle.rules.specs.Numbers.{at}
use Rattle.rules.specs.Partners.{other}
use Rattle.laws.proofs.Partners.{role_of_kind, role-kind, role_at}
use Rattle.records.specs.Reading.{or_nothing, rec_at}

module _ (b : Sort) where
  kind_zero : other ≡ role_of_kind b 0
  unfolding role_of_kind
  kind_zero = by b
    where
      by : (b : Sort) → other ≡ role_of_kind b 0
      by conditional = refl
      by loop = refl

  kinds : (rs : List Rec) (i : ℕ) → role_at b (at (map decode rs) i) ≡ role_of_kind b (or_nothing (at rs i)).kind
  unfolding at role_at or_nothing
  kinds rs zero = kind_zero
  kinds [] (suc i) = kind_zero
  kinds (r ∷ rs) (suc zero) = role-kind b r
  kinds (r ∷ rs) (suc (suc i)) = kinds rs (suc i)

  pub role-at : (s : List ℕ) (i : ℕ) → role_at b (at (ops s) i) ≡ role_of_kind b (rec_at s i).kind
  unfolding ops rec_at
  role-at s i = kinds (records s) i

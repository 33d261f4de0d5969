-- A record by its number, as code reads it: out of range there is nothing, and in range it is the record at its bytes.
use mathlib.Core.Path.{◌≡◌, refl, ap}
use Prim.Native.Nat.{ℕ, zero, suc, ◌-◌, ◌≤◌, ◌<◌}
use native.Mathlib.Omega.{arith}
use mathlib.Core.List.{List}
use Rattle.rules.specs.Record.{rec, count, records}
use Rattle.laws.proofs.Records.{at_zero, record_at, records-at, records-none}
use Rattle.records.specs.Reading.{or_nothing, rec_at}

module _ (s : List ℕ) (i : ℕ) where
  pub rec_zero : i ≡ 0 → rec_at s i ≡ rec 0 0 0
  unfolding rec_at or_nothing
  rec_zero e = rw e (ap or_nothing (at_zero (records s)))

  pub rec-none : count s < i → rec_at s i ≡ rec 0 0 0
  unfolding rec_at or_nothing
  rec-none h = ap or_nothing (records-none s i h)

pub rec_at_lem : (s : List ℕ) (i : ℕ) → ¬ (i ≡ 0) → i ≤ count s → rec_at s i ≡ record_at s (i - 1)
unfolding rec_at or_nothing
rec_at_lem s zero z h = absurd (z refl)
rec_at_lem s (suc k) z h = let e : suc k - 1 ≡ k = omega arith in rw e (ap or_nothing (records-at s k (omega arith)))

pub ruleset reading = (rec_zero, rec-none, rec_at_lem)

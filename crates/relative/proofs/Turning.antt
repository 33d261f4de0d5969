-- The records of a file, each turned and put behind those before it.
--     put_none, put_on, put_all     of none of them; of one more; of all
use mathlib.Core.Path.{◌≡◌, refl, sym}
use Prim.Native.Nat.{ℕ, ◌+◌, ◌-◌, ◌≤◌}
use native.Mathlib.Numerals.{add-one}
use mathlib.Core.List.{List, [], ◌∷◌}
use lib.ListN.{length}
use borrow.Rule.Slice.PartMut.{put_mid}
use Rattle.rules.specs.Numbers.{each}
use Rattle.rules.specs.Record.{Rec, count, records}
use Rattle.laws.proofs.SecondLevel.{groups}
use Rattle.records.specs.Reading.{rec_at}
use Rattle.records.specs.Writing.{Put, Wrote}
use Rattle.records.proofs.Writing.{rest, one, more, each-records}

module _ (s : List ℕ) (f : ℕ → Rec → Rec) where
  abbrev turned : ℕ → List Rec
  turned i = f i (rec_at s i) ∷ []

  pub put_none : (o : List ℕ) → Wrote (groups turned 0) o o 0
  unfolding groups
  put_none o = record { count = refl; holds = refl }

  pub put_on : (i : ℕ) {at k : ℕ} {o w ys : List ℕ} {r q : Rec} → Wrote (groups turned i) o w at → r ≡ rec_at s (i + 1) → q ≡ f (i + 1) r → Put q (rest w at) ys k → 8 ≤ length (rest w at)
      → Wrote (groups turned (i + 1)) o (put_mid at (length w - at) w ys) (at + k)
  unfolding groups
  put_on i {q = q} v e d p room =
      let h : f (i + 1) (rec_at s (i + 1)) ≡ q = rw e at (sym d) in
      rw add-one (more v (one (rw add-one at h) p room))

  pub put_all : {i at : ℕ} {o w : List ℕ} → Wrote (groups turned i) o w at → i ≡ count s → Wrote (each f 1 (records s)) o w at
  put_all v e = rw (each-records s f, ← e) v

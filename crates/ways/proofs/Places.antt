-- Separators and ends are records of the list, so that the number after one fits; and the place of a record whose kind is known.
use mathlib.Core.Path.{◌≡◌, refl}
use Prim.Native.Nat.{ℕ, zero, suc, ◌+◌, ◌≤◌, ◌<◌}
use native.Mathlib.Omega.{arith}
use mathlib.Core.Bool.{Bool, true, false}
use mathlib.Core.List.{List, [], ◌∷◌}
use lib.ListN.{length, drop, length-drop, get_or, get_or-eq_default}
use lib.Dec.{eqb, leb}
use borrow.Author.Tests.{eqb-true, eqb-false, leb-true, leb-false}
use Rattle.rules.specs.Record.{count}
use Rattle.rules.specs.Instruction.{Sort, conditional, loop, Op, ops}
use Rattle.rules.specs.Numbers.{past}
use Rattle.rules.specs.Partners.{Role, opens, parts, ends, other, role, stop_at, stop_from, end_of, arm_of}
use Rattle.laws.proofs.Records.{ops-length}
use Rattle.records.specs.Reading.{rec_at}
use Rattle.records.proofs.Reading.{rec_zero, rec-none}
use Rattle.ways.specs.Places.{places, place_for}

stop_from_lem : (w : Bool) (b : Sort) (d k : ℕ) (os : List Op) → stop_from w b d (suc k) os ≤ k + length os
unfolding stop_from stop_at
stop_from_lem w b d k [] = omega arith
stop_from_lem w b d k (o ∷ os) = by w (role b o) d (λ e. omega (arith, stop_from_lem w b e (suc k) os))
  where
    by : (v : Bool) (r : Role) (d : ℕ) → ((e : ℕ) → stop_from w b e (suc (suc k)) os ≤ k + length (o ∷ os))
        → stop_at v r d (suc k) (λ e. stop_from w b e (suc (suc k)) os) ≤ k + length (o ∷ os)
    by v opens d on = on (suc d)
    by false parts d on = on d
    by true parts zero on = omega arith
    by true parts (suc d) on = on (suc d)
    by v ends zero on = omega arith
    by v ends (suc d) on = on d
    by v other d on = on d

-- A record that has a kind stands in the file, and so does its partner.
module _ (s : List ℕ) (i : ℕ) (h : 0 < (rec_at s i).kind) where
  pub from_one : 1 ≤ i
  from_one = by i refl
    where
      by : (j : ℕ) → i ≡ j → 1 ≤ i
      by zero e = let z = rec_zero s i e in absurd (omega (arith, rw z at h))
      by (suc j) e = omega (arith, e)

  pub in_file : i ≤ count s
  in_file = by (leb i (count s)) refl
    where
      by : (b : Bool) → leb i (count s) ≡ b → i ≤ count s
      by true e = leb-true i (count s) e
      by false e = let z = rec-none s i (leb-false i (count s) e) in absurd (omega (arith, rw z at h))

  stop_in : (w : Bool) (b : Sort) → stop_from w b 0 (suc i) (drop i (ops s)) ≤ count s
  stop_in w b = omega (arith, in_file, stop_from_lem w b 0 i (drop i (ops s)), length-drop i (ops s), ops-length s)

  pub end_in : (b : Sort) → end_of b (ops s) i ≤ count s
  unfolding end_of
  end_in b = stop_in false b

  pub arm_in : arm_of (ops s) i ≤ count s
  unfolding arm_of
  arm_in = stop_in true conditional

-- The kinds that come in twos, and those of no place.
module _ (L : List Op) (i x y : ℕ) where
  pub place-header : (k : ℕ) → 8 ≤ k → k ≤ 9 → place_for L i k x y ≡ past (arm_of L i)
  unfolding place_for places
  place-header k l h = by (eqb k 8) refl
    where
      by : (b : Bool) → eqb k 8 ≡ b → get_or (places L i x y) k 0 ≡ past (arm_of L i)
      by true e = rw (eqb-true k 8 e)
      by false e = let z : k ≡ 9 = omega (arith, eqb-false k 8 e) in rw z

  pub place_loop : (k : ℕ) → 12 ≤ k → k ≤ 13 → place_for L i k x y ≡ past (end_of loop L i)
  unfolding place_for places
  place_loop k l h = by (eqb k 12) refl
    where
      by : (b : Bool) → eqb k 12 ≡ b → get_or (places L i x y) k 0 ≡ past (end_of loop L i)
      by true e = rw (eqb-true k 12 e)
      by false e = let z : k ≡ 13 = omega (arith, eqb-false k 12 e) in rw z

  pub place_above : (k : ℕ) → 14 < k → place_for L i k x y ≡ 0
  unfolding place_for places
  place_above k h = get_or-eq_default (places L i x y) 0 {n = k} h

  pub place_below : (k : ℕ) → k < 6 → place_for L i k x y ≡ 0
  unfolding place_for places
  place_below zero h = refl
  place_below (suc zero) h = refl
  place_below (suc (suc zero)) h = refl
  place_below (suc (suc (suc zero))) h = refl
  place_below (suc (suc (suc (suc zero)))) h = refl
  place_below (suc (suc (suc (suc (suc zero))))) h = refl
  place_below (suc (suc (suc (suc (suc (suc k)))))) h = absurd (omega arith)

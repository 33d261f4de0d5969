-- The first record that is too far, as the code goes on from i.
--     far_after     the answer of the records behind the first i
--     far_here, far_on, far-end     it is the next one; it is behind that; there are no more
--     near     where there is none, each is near
use mathlib.Core.Path.{◌≡◌, refl, sym, ap, ◌∙◌}
use Prim.Native.Nat.{ℕ, zero, suc, ◌+◌, ◌≤◌, ◌<◌}
use native.Mathlib.Numerals.{add-one}
use native.Mathlib.Omega.{arith}
use mathlib.Core.Bool.{Bool, true, false}
use mathlib.Core.List.{List}
use lib.Dec.{ltb}
use lib.ListN.{drop, drop_of_length-le}
use borrow.Author.Tests.{lt-ltb, le-ltb, ltb-true, ltb-false}
use Rattle.std.specs.Prelude.{None, Some}
use Rattle.rules.specs.Numbers.{found}
use Rattle.rules.specs.Record.{Rec, count, records}
use Rattle.rules.specs.Relative.{absolute_at, far_from, far}
use Rattle.laws.proofs.Records.{records-length}
use Rattle.records.specs.Reading.{rec_at}
use Rattle.records.proofs.Writing.{rec-drop}

abbrev pub far_after : List ℕ → ℕ → ℕ
far_after s i = far_from (suc i) (drop i (records s))

module _ (s : List ℕ) where
  module _ (i : ℕ) (h : i < count s) where
    far_here_at : 9999 < (absolute_at (i + 1) (rec_at s (i + 1))).x → far_after s i ≡ i + 1
    unfolding far_from
    far_here_at = rw add-one (λ l. rw (rec-drop s i h, lt-ltb 9999 (absolute_at (suc i) (rec_at s (suc i))).x l))

    far_on_at : (absolute_at (i + 1) (rec_at s (i + 1))).x ≤ 9999 → far_after s i ≡ far_after s (i + 1)
    unfolding far_from
    far_on_at = rw add-one (λ l. rw (rec-drop s i h, le-ltb 9999 (absolute_at (suc i) (rec_at s (suc i))).x l))

    near_at : far_after s i ≡ 0 → (absolute_at (i + 1) (rec_at s (i + 1))).x ≤ 9999
    near_at z = by (ltb 9999 x) refl
      where
        x : ℕ
        x = (absolute_at (i + 1) (rec_at s (i + 1))).x

        by : (t : Bool) → ltb 9999 x ≡ t → x ≤ 9999
        by true e = absurd (omega (arith, far_here_at (ltb-true 9999 x e)))
        by false e = ltb-false 9999 x e

    module _ {r : Rec} {x : ℕ} (e : r ≡ rec_at s (i + 1)) (f : x ≡ (absolute_at (i + 1) r).x) where
      pub far_here : 9999 < x → found (far_after s i) ≡ Some (i + 1)
      far_here l = ap found (far_here_at (rw (← e, ← f) l)) ∙ rw add-one

      pub far_on : x ≤ 9999 → far_after s i ≡ far_after s (i + 1)
      far_on l = far_on_at (rw (← e, ← f) l)

  pub far-end : (i : ℕ) → count s ≤ i → found (far_after s i) ≡ None
  unfolding far_from
  far-end i h = rw (drop_of_length-le (records s) {i = i} (omega (arith, records-length s)))

  none_behind : far_after s 0 ≡ 0 → (i : ℕ) → i ≤ count s → far_after s i ≡ 0
  none_behind z zero h = z
  none_behind z (suc i) h =
      let n = none_behind z i (omega arith) in
      rw (← add-one i) (sym (far_on_at i h (near_at i h n)) ∙ n)

  pub near : far (records s) ≡ 0 → (i : ℕ) → i < count s → (absolute_at (i + 1) (rec_at s (i + 1))).x ≤ 9999
  unfolding far
  near z i h = near_at i h (none_behind z i (omega arith))

-- The verdict on a translation, by what its checks found in their order; and the contract, by the verdict.
--     turned_away_lem, translated     what the call leaves, by the verdict
--     Kept, base_kept, relative_kept     an accepted file: how many records it has
--     relating-refused, relating-short, relating_enough     the verdict on one made relative
--     absoluting-refused, absoluting-far, no_far, absoluting-short, absoluting_enough     .. on one made absolute
use mathlib.Core.Path.{◌≡◌, refl, sym, ◌∙◌}
use Prim.Native.Nat.{ℕ, zero, suc, ◌*◌, ◌≤◌, ◌<◌}
use native.Mathlib.Omega.{arith}
use mathlib.Core.List.{List, [], ◌∷◌}
use lib.ListN.{length}
use borrow.Author.Tests.{lt-ltb, le-ltb}
use Rattle.rules.specs.declared.Notation.TheVariants.{Base, Relative}
use Rattle.rules.specs.declared.Refusal.{Refusal}
use Rattle.rules.specs.declared.Refusal.TheVariants.{Room, Far}
use Rattle.rules.specs.Refusals.{Verdict, when, when_at, or_else, first, verdict_of, verdict}
use Rattle.std.specs.Prelude.{None, Some, Ok, Err}
use Rattle.rules.specs.Numbers.{each, found}
use Rattle.rules.specs.Record.{Rec, count, records}
use Rattle.rules.specs.Checks.{most, record_checks}
use Rattle.rules.specs.Relative.{far}
use Rattle.rules.specs.Answers.{short, check_records, filled, relating, absoluting, Translated}
use Rattle.laws.proofs.Records.{records-length}
use Rattle.laws.proofs.SecondLevel.{each-length}
use Rattle.laws.proofs.Refusals.{refused_then, accepted_then, held}
use Rattle.records.specs.Writing.{Wrote}
use Rattle.records.proofs.Writing.{filled_by}

pub turned_away_lem : {v a : Verdict} {r : Refusal} {rs : List Rec} {o : List ℕ} → v ≡ Err r → a ≡ Err r → Translated v rs o a o
unfolding filled
turned_away_lem e d = record { answers = d ∙ sym e; output = rw e }

pub translated : (s : List ℕ) (f : ℕ → Rec → Rec) {v : Verdict} {n : ℕ} {o w : List ℕ} {k : ℕ} → v ≡ Ok n → count s ≡ n → Wrote (each f 1 (records s)) o w k
    → Translated v (each f 1 (records s)) o (Ok n) w
translated s f e c w =
    record { answers = sym e; output = filled_by e (sym (each-length f 1 (records s) ∙ records-length s ∙ c)) w }

pub record Kept (s : List ℕ) (n : ℕ) : Type 0 where
  pub counted : count s ≡ n
  pub few : n ≤ 4096

pub base_kept : {s : List ℕ} {n : ℕ} → Ok n ≡ check_records Base s → Kept s n
unfolding most
base_kept e = let h = held Base _ _ (sym e) in record { counted = h.counted; few = omega (arith, h.counted, h.fines.few) }

pub relative_kept : {s : List ℕ} {n : ℕ} → Ok n ≡ check_records Relative s → Kept s n
unfolding most
relative_kept e = let h = held Relative _ _ (sym e) in record { counted = h.counted; few = omega (arith, h.counted, h.fines.few) }

-- 8 is the last check.
room-short : (n : ℕ) (o : List ℕ) → length o < 8 * n → verdict (when (short n o) Room ∷ []) n ≡ Err Room
unfolding verdict verdict_of first or_else when short
room-short n o l = rw (lt-ltb _ _ l)

room_enough : (n : ℕ) (o : List ℕ) → 8 * n ≤ length o → verdict (when (short n o) Room ∷ []) n ≡ Ok n
unfolding verdict verdict_of first or_else when short
room_enough n o l = rw (le-ltb _ _ l)

module _ (s o : List ℕ) where
  pub relating-refused : {r : Refusal} → Err r ≡ check_records Base s → relating s o ≡ Err r
  unfolding check_records relating
  relating-refused e = refused_then (record_checks Base s) (count s) _ _ (sym e)

  pub absoluting-refused : {r : Refusal} → Err r ≡ check_records Relative s → absoluting s o ≡ Err r
  unfolding check_records absoluting
  absoluting-refused e = refused_then (record_checks Relative s) (count s) _ _ (sym e)

  module _ {n : ℕ} (e : Ok n ≡ check_records Base s) where
    relating-room : relating s o ≡ verdict (when (short n o) Room ∷ []) n
    unfolding check_records relating
    relating-room = rw (sym (base_kept e).counted) (accepted_then (record_checks Base s) (count s) _ _ (sym e))

    pub relating-short : length o < 8 * n → relating s o ≡ Err Room
    relating-short l = relating-room ∙ room-short n o l

    pub relating_enough : 8 * n ≤ length o → relating s o ≡ Ok n
    relating_enough l = relating-room ∙ room_enough n o l

  module _ {n : ℕ} (e : Ok n ≡ check_records Relative s) where
    far_first : absoluting s o ≡ verdict (when_at Far (far (records s)) ∷ when (short n o) Room ∷ []) n
    unfolding check_records absoluting
    far_first = rw (sym (relative_kept e).counted) (accepted_then (record_checks Relative s) (count s) _ _ (sym e))

    pub absoluting-far : {p : ℕ} → Some p ≡ found (far (records s)) → absoluting s o ≡ Err (Far p)
    unfolding verdict verdict_of first or_else when_at
    absoluting-far {p} q = far_first ∙ by (far (records s)) q
      where
        by : (m : ℕ) → Some p ≡ found m → verdict (when_at Far m ∷ when (short n o) Room ∷ []) n ≡ Err (Far p)
        by zero q = cc
        by (suc m) q = cc

    near_first : far (records s) ≡ 0 → absoluting s o ≡ verdict (when (short n o) Room ∷ []) n
    unfolding verdict first or_else when_at
    near_first z = far_first ∙ rw z

    pub absoluting-short : far (records s) ≡ 0 → length o < 8 * n → absoluting s o ≡ Err Room
    absoluting-short z l = near_first z ∙ room-short n o l

    pub absoluting_enough : far (records s) ≡ 0 → 8 * n ≤ length o → absoluting s o ≡ Ok n
    absoluting_enough z l = near_first z ∙ room_enough n o l

pub no_far : (m : ℕ) → None ≡ found m → m ≡ 0
no_far zero e = refl
no_far (suc m) e = cc

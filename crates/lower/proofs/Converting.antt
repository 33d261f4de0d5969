-- The verdict on a conversion, by what its checks found in their order; and the contract, by the verdict.
use mathlib.Core.Path.{◌≡◌, sym, ap, ◌∙◌}
use Prim.Native.Nat.{ℕ, ◌*◌, ◌/◌, ◌≤◌, ◌<◌}
use native.Mathlib.Omega.{arith}
use mathlib.Core.Bool.{Bool, true, false, ◌||◌}
use mathlib.Core.List.{List, [], ◌∷◌}
use lib.ListN.{length, replicate, length-map}
use borrow.Author.Tests.{lt-ltb, le-ltb, le-leb}
use Rattle.rules.specs.declared.Refusal.{Refusal}
use Rattle.rules.specs.declared.Refusal.TheVariants.{Room}
use Rattle.std.specs.Prelude.{Ok, Err}
use Rattle.rules.specs.Record.{count}
use Rattle.rules.specs.Instruction.{encode, ops}
use Rattle.rules.specs.Refusals.{when, or_else, first, verdict_of, verdict}
use Rattle.rules.specs.Checks.{most}
use Rattle.rules.specs.Convert.{convert}
use Rattle.rules.specs.Answers.{routine_checks, short, check_routine, filled, cleared, base_records, base_count, converting, Converted}
use Rattle.laws.proofs.Length.{converted_length_lem}
use Rattle.laws.proofs.Refusals.{refused_then, accepted_then, admitted}
use Rattle.records.specs.Writing.{Wrote}
use Rattle.records.proofs.Writing.{filled_by, wrote_length}
use Rattle.growth.specs.Length.{base_length}

module _ {s o w : List ℕ} where
  pub turned_away_lem : {r : Refusal} → converting s o w ≡ Err r → Converted s o w (Err r) o w
  unfolding filled cleared
  turned_away_lem e = record { answers = sym e; output = rw e; working = rw e }

  -- The answer is how many records were written.
  pub converted : {n : ℕ} {o' w' : List ℕ} {k : ℕ} → converting s o w ≡ Ok n → n ≡ base_count s → Wrote (base_records s) o o' k → w' ≡ replicate (length w) 0 → Converted s o w (Ok (k / 8)) o' w'
  unfolding base_records base_count cleared
  converted {n} {k = k} e l u z =
      let h : n ≡ length (base_records s) = l ∙ sym (converted_length_lem (ops s)) ∙ sym (length-map (convert (ops s)) encode) in
      let b : k / 8 ≡ n = omega (arith, wrote_length u, h) in
      record { answers = ap Ok b ∙ sym e; output = filled_by e h u; working = z ∙ rw e }

-- An accepted routine, and the length of its base as the code counts it.
pub record Accepted (s : List ℕ) (n : ℕ) : Type 0 where
  pub value : check_routine s ≡ Ok (count s)
  pub base : n ≡ base_count s
  pub small : n ≤ 4096

pub accepted : (s : List ℕ) {m n : ℕ} → check_routine s ≡ Ok m → n ≡ base_length s → Accepted s n
unfolding base_length base_count most
accepted s {m} {n} e c =
    let a = admitted s m e in
    let b : n ≡ base_count s = c ∙ rw (le-leb (count s) 512 a.fines.few) in
    record { value = e ∙ ap Ok (sym a.counted); base = b; small = omega (arith, b, a.room) }

module _ (s o w : List ℕ) where
  pub refused : {r : Refusal} → check_routine s ≡ Err r → converting s o w ≡ Err r
  unfolding check_routine converting
  refused e = refused_then (routine_checks s) (count s) _ _ e

  module _ {n : ℕ} (u : Accepted s n) where
    room : {b : Bool} → (short n o || short n w) ≡ b → converting s o w ≡ verdict (when b Room ∷ []) n
    unfolding check_routine converting
    room h = accepted_then (routine_checks s) (count s) _ _ u.value ∙ rw (← u.base, h)

    pub output-short : length o < 8 * n → converting s o w ≡ Err Room
    unfolding verdict verdict_of first or_else when short
    output-short l = room {b = true} (rw (lt-ltb _ _ l))

    pub working-short : 8 * n ≤ length o → length w < 8 * n → converting s o w ≡ Err Room
    unfolding verdict verdict_of first or_else when short
    working-short h l = room {b = true} (rw (le-ltb _ _ h, lt-ltb _ _ l))

    pub enough : 8 * n ≤ length o → 8 * n ≤ length w → converting s o w ≡ Ok n
    unfolding verdict verdict_of first or_else when short
    enough h l = room {b = false} (rw (le-ltb _ _ h, le-ltb _ _ l))

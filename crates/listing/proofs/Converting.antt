-- From what a conversion into two arrays of 32,768 bytes answers to what a listing does.
--     text_length     a routine that is not refused has a text of at most 73,744 bytes
--     refused_as     a refusal of the conversion is one of the routine, and the listing's own
--     Base, base_of     an accepted conversion: how many records, and the text that is printed from them, which has its room
--     listed_as     what was printed from them is the listing
use mathlib.Core.Path.{◌≡◌, refl, sym, ap, ◌∙◌}
use Prim.Native.Nat.{ℕ, ◌*◌, ◌≤◌}
use native.Mathlib.Omega.{arith}
use mathlib.Core.Bool.{false, ◌||◌}
use Rattle.std.specs.Prelude.{None, Ok, Err}
use mathlib.Core.List.{List, [], ◌∷◌, ◌++◌}
use lib.ListN.{length, take, drop, length-append, length-map}
use lib.Seq.{take_at}
use borrow.Author.Tests.{le-ltb}
use Rattle.rules.specs.declared.Refusal.{Refusal}
use Rattle.rules.specs.Refusals.{Verdict, when, or_else, first, verdict_of, verdict}
use Rattle.rules.specs.declared.Notation.TheVariants.{Routine}
use Rattle.rules.specs.Checks.{most}
use Rattle.rules.specs.Record.{bytes_of, count, records}
use Rattle.rules.specs.Instruction.{encode, ops}
use Rattle.rules.specs.Skip.{converted_length}
use Rattle.rules.specs.Convert.{convert}
use Rattle.rules.specs.Answers.{routine_checks, short, check_routine, filled, base_records, base_count, converting, Converted}
use Rattle.laws.proofs.Records.{All, Small, bytes_length, records_back}
use Rattle.laws.proofs.Instructions.{Fit, accepted-ops}
use Rattle.laws.proofs.Fits.{all_fit-small, stages_fit}
use Rattle.laws.proofs.Length.{converted_length_lem}
use Rattle.laws.proofs.Refusals.{refused_then, accepted_then, accepted-count, accepted-none, Admitted, admitted}
use Rattle.lines.specs.Text.{listing}
use Rattle.listing.specs.Text.{text_of}
use Rattle.listing.specs.Answers.{room_for, listing_of, printed, Listed}
use Rattle.listing.proofs.Lengths.{all_narrow, listing-length}

-- The verdict on the routine alone, with the base's count.
abbrev alone : List ℕ → Verdict
alone s = verdict (routine_checks s) (base_count s)

module _ (s : List ℕ) (e : first (routine_checks s) ≡ None) where
  sound : Admitted s (count s)
  unfolding check_routine verdict verdict_of
  sound = admitted s (count s) (rw e)

  base_fit : All Fit (convert (ops s))
  base_fit = (stages_fit (ops s) sound.room (accepted-ops Routine s sound.fines.faultless tt)).fourth

  base_length_lem : length (base_records s) ≡ converted_length (ops s)
  unfolding base_records
  base_length_lem = length-map (convert (ops s)) encode ∙ converted_length_lem (ops s)

  base_small : All Small (base_records s)
  unfolding base_records
  base_small = all_fit-small (convert (ops s)) base_fit

  pub text_length : length (text_of s) ≤ 73744
  unfolding text_of base_records most
  text_length =
      listing-length (count s) (base_records s) (omega (arith, sound.fines.few)) (omega (arith, base_length_lem, sound.room)) (all_narrow (convert (ops s)) base_fit)

-- The listing that is printed from the records in the first 8n bytes of an array.
abbrev pub from : List ℕ → List ℕ → ℕ → List ℕ
from s base n = listing (count s) (records (take (8 * n) base))

pub record Base (s base : List ℕ) (n : ℕ) : Type 0 where
  pub bounded : n ≤ 4096
  pub within : 8 * n ≤ length base
  pub fits : length (from s base n) ≤ 73744
  pub is_text : from s base n ≡ text_of s
  pub then_room : (text : List ℕ) → listing_of s text ≡ verdict (room_for (text_of s) text ∷ []) (length (text_of s))

module _ {s out work base spare : List ℕ} {v : Verdict} (c : Converted s out work v base spare) (o : length out ≡ 32768) (w : length work ≡ 32768) where
  room : {n : ℕ} → alone s ≡ Ok n → (short (base_count s) out || short (base_count s) work) ≡ false
  unfolding short base_count
  room e =
      let b = (sound s (accepted-none (routine_checks s) (base_count s) e)).room in
      rw (le-ltb (length out) (8 * converted_length (ops s)) (omega arith), le-ltb (length work) (8 * converted_length (ops s)) (omega arith))

  -- 4,096 records have their room, so that refusals 1 to 7 decide
  converting_is : (u : Verdict) → alone s ≡ u → converting s out work ≡ u
  unfolding converting verdict verdict_of first or_else when
  converting_is (Ok n) e =
      accepted_then (routine_checks s) (base_count s) _ (base_count s) e
      ∙ rw (room e) (ap Ok (sym (accepted-count (routine_checks s) (base_count s) e)))
  converting_is (Err r) e = refused_then (routine_checks s) (base_count s) _ (base_count s) e

  decided : {u : Verdict} → v ≡ u → alone s ≡ u
  decided e = sym (converting_is (alone s) refl) ∙ sym c.answers ∙ e

  pub refused_as : {r : Refusal} {text : List ℕ} → v ≡ Err r → Listed (listing_of s text) (text_of s) text (Err r) text
  unfolding listing_of printed
  refused_as e =
      let l = refused_then (routine_checks s) (base_count s) _ _ (decided e) in
      record { answers = sym l; output = rw l }

  pub base_of : {n : ℕ} → v ≡ Ok n → Base s base n
  unfolding filled base_count listing_of text_of
  base_of {n} e =
      let a = decided e in
      let z = accepted-none (routine_checks s) (base_count s) a in
      let h = sound s z in
      let k = accepted-count (routine_checks s) (base_count s) a in
      let l = bytes_length (base_records s) in
      let m = base_length_lem s z in
      let x : base ≡ bytes_of (base_records s) ++ drop (8 * n) out = c.output ∙ rw (converting_is (alone s) refl, a) in
      let t : from s base n ≡ text_of s =
      ap (λ (b : List ℕ). from s b n) x
      ∙ ap (λ (b : List ℕ). listing (count s) (records b)) (take_at (bytes_of (base_records s)) _ (8 * n) (omega arith))
      ∙ ap (listing (count s)) (records_back (base_records s) (base_small s z)) in
      record {
        bounded = omega (arith, h.room);
        within = omega (arith, ap length x, length-append (bytes_of (base_records s)) (drop (8 * n) out));
        fits = rw t (text_length s z);
        is_text = t;
        then_room = λ text. accepted_then (routine_checks s) (base_count s) _ _ a;
      }

  pub listed_as : {n : ℕ} {text text' : List ℕ} {r : Verdict} → v ≡ Ok n
      → Listed (verdict (room_for (from s base n) text ∷ []) (length (from s base n))) (from s base n) text r text' → Listed (listing_of s text) (text_of s) text r text'
  listed_as e p = let b = base_of e in rw (b.then_room _, ← b.is_text) p

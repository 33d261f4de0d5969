-- One stage after another: what a stage wrote is the file that the next one reads.
--     part_length, eights     the part of a buffer that a stage wrote
--     stage, next     what a stage writes of a file, and of what the stage before it wrote
--     over           a later stage that writes as much over an earlier one leaves the rest as it was before both
--     Ready, ready   what an accepted routine gives the stages
use mathlib.Core.Path.{◌≡◌, sym, ap, ◌∙◌}
use Prim.Native.Nat.{ℕ, ◌+◌, ◌-◌, ◌*◌, ◌≤◌}
use native.Mathlib.Omega.{arith}
use mathlib.Core.List.{List, ◌++◌, map}
use lib.ListN.{length, take, drop, length-map}
use lib.Seq.{take_at, drop_at, drop-drop, length-take-le}
use Rattle.rules.specs.declared.Notation.TheVariants.{Routine}
use Rattle.std.specs.Prelude.{Ok}
use Rattle.rules.specs.Record.{Rec, bytes_of, count, records}
use Rattle.rules.specs.Instruction.{Op, encode, ops, file}
use Rattle.rules.specs.Checks.{most}
use Rattle.rules.specs.Skip.{converted_length}
use Rattle.rules.specs.Answers.{check_routine}
use Rattle.laws.proofs.Records.{All, records_back, ops-length}
use Rattle.laws.proofs.Instructions.{Fit, accepted-ops, accepted-records}
use Rattle.laws.proofs.Length.{labels_length, labels-room}
use Rattle.laws.proofs.Fits.{Stages, stages_fit, all_fit-small, fit-ops}
use Rattle.laws.proofs.Refusals.{admitted}
use Rattle.records.specs.Writing.{Wrote}
use Rattle.records.proofs.Writing.{wrote_length}
use Rattle.places.specs.declared.Stage.{Stage}
use Rattle.places.specs.Writing.{Fitted}
use Rattle.places.proofs.Writing.{fit_sizes, fit_as, fit_all}
use Rattle.places.specs.Groups.{staged}
use Rattle.lower.proofs.Groups.{Own, lowers, stage_is}

pub part_length : {g : List Rec} {o w : List ℕ} {k : ℕ} → Fitted g o w k → k ≡ length (take k w)
part_length {w = w} {k} v = sym (length-take-le k w (omega (arith, fit_sizes v)))

pub eights : (L : List Op) {o w : List ℕ} {k : ℕ} → Wrote (map encode L) o w k → k ≡ 8 * length L
eights L v = wrote_length v ∙ ap (λ (n : ℕ). 8 * n) (length-map L encode)

-- The stage on a file, where what it gives fits into a base and into the output.
pub stage : (at : Stage) {s : List ℕ} → Own s → (M : List Op) → lowers at (ops s) ≡ M → {o w : List ℕ} {k : ℕ} → length M ≤ 4096 → 8 * length M ≤ length o
    → Fitted (staged at s) o w k → Wrote (map encode M) o w k
stage at {s} a M e l r v = fit_all (fit_as (sym (stage_is s a at (rw e l) ∙ ap (map encode) e)) v) (rw (length-map M encode) r)

module _ (L : List Op) {o w : List ℕ} {k : ℕ} (v : Wrote (map encode L) o w k) (f : All Fit L) where
  part_is : take k w ≡ file L
  unfolding file
  part_is = ap (take k) v.holds ∙ take_at (bytes_of (map encode L)) (drop k o) k (sym v.count)

  read : ops (take k w) ≡ L
  read = ap ops part_is ∙ fit-ops L f

  own_part : length L ≤ 4096 → Own (take k w)
  unfolding file
  own_part l = record {
    own = ap (map encode) read ∙ sym (records_back (map encode L) (all_fit-small L f)) ∙ ap records (sym part_is);
    few = omega (arith, ops-length (take k w), ap length read);
  }

  pub next : (at : Stage) {o' w' : List ℕ} {k' : ℕ} → length L ≤ 4096 → length (lowers at L) ≤ 4096 → 8 * length (lowers at L) ≤ length o'
      → Fitted (staged at (take k w)) o' w' k' → Wrote (map encode (lowers at L)) o' w' k'
  next at l m r u = stage at (own_part l) (lowers at L) (ap (lowers at) read) m r u

pub over : {f g : List Rec} {o w v : List ℕ} {j k : ℕ} → Wrote f o w j → Wrote g w v k → j ≤ k → Wrote g o v k
over {f} {g} {o} {w} {v} {j} {k} u t h =
    let e : j + (k - j) ≡ k = omega arith in
    let d : drop j w ≡ drop j o = ap (drop j) u.holds ∙ drop_at (bytes_of f) (drop j o) j (sym u.count) in
    let r : drop k w ≡ drop k o = ap (λ (n : ℕ). drop n w) (sym e) ∙ sym (drop-drop (k - j) j w) ∙ ap (drop (k - j)) d ∙ drop-drop (k - j) j o ∙ ap (λ (n : ℕ). drop n o) e in
    record { count = t.count; holds = t.holds ∙ ap (λ (l : List ℕ). bytes_of g ++ l) r }

pub record Ready (s : List ℕ) : Type 0 where
  pub own : Own s
  pub short : converted_length (ops s) ≤ 4096
  pub starts : count s ≤ converted_length (ops s)
  pub fits : Stages (ops s)

pub ready : (s : List ℕ) {n : ℕ} → check_routine s ≡ Ok n → Ready s
unfolding most
ready s {n} e =
    let a = admitted s n e in
    record {
      own = record { own = accepted-records Routine s a.fines.faultless tt; few = omega (arith, a.fines.few) };
      short = a.room;
      starts = omega (arith, labels-room (ops s), labels_length (ops s), ops-length s);
      fits = stages_fit (ops s) a.room (accepted-ops Routine s a.fines.faultless tt);
    }

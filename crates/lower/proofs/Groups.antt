-- A stage on a file is the paper's stage on its instructions: what a record becomes, by its kind, is what its instruction becomes.
--     Own     the records of the file are those of its instructions, and no more than a base may have
--     lowers, stage_is     the stage, by its name; where what it gives is no longer than a base may be
use mathlib.Core.Path.{◌≡◌, refl, sym, ap, ◌∙◌}
use Prim.Native.Nat.{ℕ, zero, suc, ◌≤◌, ◌<◌}
use native.Mathlib.Omega.{arith}
use mathlib.Core.Bool.{true, false}
use mathlib.Core.List.{List, [], ◌∷◌, map, map-append}
use lib.ListN.{length, get_or, get_or-map}
use borrow.Author.Tests.{le-leb}
use Rattle.rules.specs.Record.{Rec, rec, count, records}
use Rattle.rules.specs.Instruction.{conditional, loop, Op, act, test, jump, label, goto, goto2, header, separator, end, call, return, x_of, y_of, decode, encode, ops}
use Rattle.rules.specs.SecondLevel.{members, renumber, sent, removed}
use Rattle.rules.specs.Labels.{unlabel, labels}
use Rattle.rules.specs.Calls.{chain, uncall, calls}
use Rattle.rules.specs.Loops.{unloop, loops}
use Rattle.rules.specs.Conditionals.{uncond, conditionals}
use Rattle.laws.proofs.Records.{ops-length}
use Rattle.laws.proofs.SecondLevel.{groups, groups_ext, groups_map, lowered, single, stage_groups, each_groups, renumber_zero, renumber_in}
use Rattle.records.specs.Reading.{rec_at}
use Rattle.records.proofs.Writing.{rec-get_or}
use Rattle.places.specs.declared.Stage.{Stage}
use Rattle.places.specs.declared.Stage.TheVariants.{Labels, Calls, Loops, Conditionals}
use Rattle.places.specs.Stages.{becomes, expanded, within, leads, kept}
use Rattle.places.specs.Groups.{labelled, chain_of, called, looped, parted, group, staged}
use Rattle.places.proofs.Groups.{staged_is}

pub record Own (s : List ℕ) : Type 0 where
  pub own : map encode (ops s) ≡ records s
  pub few : count s ≤ 4096

abbrev pub lowers : Stage → List Op → List Op
lowers Labels L = labels L
lowers Calls L = calls L
lowers Loops L = loops L
lowers Conditionals L = conditionals L

-- ## One record, by its instruction

module _ (s : List ℕ) (i : ℕ) where
  label_is : (o : Op) → labelled s i (encode o) ≡ encode (unlabel (ops s) i o) ∷ []
  unfolding labelled unlabel encode x_of y_of
  label_is (act a) = refl
  label_is (test true a) = refl
  label_is (test false a) = refl
  label_is (jump k) = refl
  label_is (label s) = refl
  label_is (goto s) = refl
  label_is (goto2 s t) = refl
  label_is (header conditional true a) = refl
  label_is (header conditional false a) = refl
  label_is (header loop true a) = refl
  label_is (header loop false a) = refl
  label_is separator = refl
  label_is (end conditional) = refl
  label_is (end loop) = refl
  label_is (call k) = refl
  label_is return = refl

  module _ (to : ℕ → ℕ) where
    module _ (t : (k : ℕ) → leads Calls s k ≡ to k) (z : to 0 ≡ 0) where
      chain_is : (j : ℕ) → chain_of s j ≡ map encode (map (sent to) (members (chain j)))
      unfolding chain_of chain members sent encode x_of y_of
      chain_is zero = rw z
      chain_is (suc j) =
          rw (t, chain_is j)
          (ap (λ (rs : List Rec). rec 8 1003 (suc j) ∷ rec 1 1002 0 ∷ rec 4 (to (suc j)) 0 ∷ rec 10 0 0 ∷ rs)
          (sym (ap (map encode) (map-append (sent to) (members (chain j)) (end conditional ∷ [])) ∙ map-append encode (map (sent to) (members (chain j))) (end conditional ∷ []))))

      call_is : (o : Op) → called s i (encode o) ≡ map encode (map (sent to) (members (uncall (length (ops s)) i o)))
      unfolding called kept uncall members sent encode x_of y_of
      call_is (call k) = rw t
      call_is return = chain_is (count s) ∙ rw (← ops-length s)
      call_is (jump k) = rw t
      call_is (act a) = refl
      call_is (test true a) = refl
      call_is (test false a) = refl
      call_is (label s) = refl
      call_is (goto s) = refl
      call_is (goto2 s t) = refl
      call_is (header conditional true a) = refl
      call_is (header conditional false a) = refl
      call_is (header loop true a) = refl
      call_is (header loop false a) = refl
      call_is separator = refl
      call_is (end conditional) = refl
      call_is (end loop) = refl

    loop_is : ((k : ℕ) → leads Loops s k ≡ to k) → (o : Op) → looped s i (encode o) ≡ map encode (map (sent to) (members (unloop (ops s) i o)))
    unfolding looped kept unloop members sent encode x_of y_of
    loop_is t (header loop true a) = rw t
    loop_is t (header loop false a) = rw t
    loop_is t (end loop) = rw t
    loop_is t (jump k) = rw t
    loop_is t (act a) = refl
    loop_is t (test true a) = refl
    loop_is t (test false a) = refl
    loop_is t (label s) = refl
    loop_is t (goto s) = refl
    loop_is t (goto2 s t') = refl
    loop_is t (header conditional true a) = refl
    loop_is t (header conditional false a) = refl
    loop_is t separator = refl
    loop_is t (end conditional) = refl
    loop_is t (call k) = refl
    loop_is t return = refl

    conditional_is : ((k : ℕ) → leads Conditionals s k ≡ to k) → (o : Op) → parted s i (encode o) ≡ map encode (map (sent to) (members (uncond (ops s) i o)))
    unfolding parted kept uncond members sent encode x_of y_of
    conditional_is t (header conditional true a) = rw t
    conditional_is t (header conditional false a) = rw t
    conditional_is t separator = rw t
    conditional_is t (end conditional) = rw t
    conditional_is t (jump k) = rw t
    conditional_is t (act a) = refl
    conditional_is t (test true a) = refl
    conditional_is t (test false a) = refl
    conditional_is t (label s) = refl
    conditional_is t (goto s) = refl
    conditional_is t (goto2 s t') = refl
    conditional_is t (header loop true a) = refl
    conditional_is t (header loop false a) = refl
    conditional_is t (end loop) = refl
    conditional_is t (call k) = refl
    conditional_is t return = refl

-- ## All records

module _ (s : List ℕ) (a : Own s) where
  abbrev none : Op
  none = decode (rec 0 0 0)

  -- A record is that of its instruction.
  own_at : (k : ℕ) → k < count s → rec_at s (suc k) ≡ encode (get_or (ops s) k none)
  own_at k h =
      sym (rec-get_or s k h (encode none))
      ∙ ap (λ (rs : List Rec). get_or rs k (encode none)) (sym a.own)
      ∙ get_or-map encode (ops s) k none

  module _ (stage : Stage) (l : length (removed (expanded stage (ops s))) ≤ 4096) where
    abbrev to : ℕ → ℕ
    to = renumber (expanded stage (ops s))

    leads_is : (k : ℕ) → leads stage s k ≡ to k
    unfolding leads within removed expanded
    leads_is k = rw (le-leb (to k) 4096 (omega (arith, renumber_in (becomes stage (ops s)) to (ops s) none k)))

    removed_is : ((o : Op) (k : ℕ) → k < count s → rec_at s (suc k) ≡ encode o → group stage s (suc k) ≡ map encode (map (sent to) (members (becomes stage (ops s) (suc k) o))))
        → staged stage s ≡ map encode (removed (expanded stage (ops s)))
    unfolding removed expanded
    removed_is g =
        staged_is stage s a.few
        ∙ groups_ext _ _ (count s) (λ k h. g (get_or (ops s) k none) k h (own_at k h))
        ∙ sym (ap (map encode) (stage_groups (becomes stage (ops s)) to (ops s) none ∙ ap (groups _) (ops-length s)) ∙ groups_map encode (lowered (becomes stage (ops s)) to (ops s) none) (count s))

  pub stage_is : (stage : Stage) → length (lowers stage (ops s)) ≤ 4096 → staged stage s ≡ map encode (lowers stage (ops s))
  unfolding group labels calls loops conditionals expanded becomes
  stage_is Labels l =
      staged_is Labels s a.few
      ∙ groups_ext _ _ (count s) (λ k h. ap (labelled s (suc k)) (own_at k h) ∙ label_is s (suc k) (get_or (ops s) k none))
      ∙ sym (ap (map encode) (each_groups (unlabel (ops s)) (ops s) none) ∙ groups_map encode (single (unlabel (ops s)) (ops s) none) (length (ops s)) ∙ ap (groups _) (ops-length s))
  stage_is Calls l = removed_is Calls l (λ o k h e. ap (called s (suc k)) e ∙ call_is s (suc k) _ (leads_is Calls l) (renumber_zero (expanded Calls (ops s))) o)
  stage_is Loops l = removed_is Loops l (λ o k h e. ap (looped s (suc k)) e ∙ loop_is s (suc k) _ (leads_is Loops l) o)
  stage_is Conditionals l = removed_is Conditionals l (λ o k h e. ap (parted s (suc k)) e ∙ conditional_is s (suc k) _ (leads_is Conditionals l) o)

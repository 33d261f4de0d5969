-- The verdict on a routine: refusals 1 to 4 first, then 5, 14, 6 and 7, each where no earlier one is given.
--     check_refused     a routine with one of refusals 1 to 4
--     not_long     one with none of them is short enough
--     Left, starts     the checks that are left decide: at first all behind 1 to 4
--     passes, refuses     the next check, by a place, finds nothing, or finds its refusal
--     nesting_refused, label_refused, skip_refused, growth_refused, accepted     the verdict by what each check found
use mathlib.Core.Path.{◌≡◌, refl, sym, ap, ◌∙◌}
use Prim.Native.Nat.{ℕ, zero, suc, ◌≤◌, ◌<◌}
use Rattle.std.specs.Prelude.{Option, None, Some, Ok, Err}
use mathlib.Core.List.{List, [], ◌∷◌}
use borrow.Author.Tests.{lt-ltb, le-ltb}
use Rattle.rules.specs.declared.Refusal.{Refusal}
use Rattle.rules.specs.declared.Refusal.TheVariants.{Nesting, Label, Skip, Growth}
use Rattle.rules.specs.declared.Notation.TheVariants.{Routine}
use Rattle.rules.specs.Numbers.{found}
use Rattle.rules.specs.Record.{count}
use Rattle.rules.specs.Instruction.{ops}
use Rattle.rules.specs.Refusals.{when, when_at, or_else, first, verdict_of, verdict}
use Rattle.rules.specs.Checks.{most, record_checks}
use Rattle.rules.specs.Nesting.{nesting}
use Rattle.rules.specs.Labels.{lost_goto}
use Rattle.rules.specs.Skip.{skip, converted_length, grown}
use Rattle.rules.specs.Answers.{routine_checks, check_records, check_routine}
use Rattle.laws.proofs.Refusals.{refused_then, accepted_then, accepted-count, held}
use Rattle.growth.specs.Length.{base_length}
use Rattle.growth.proofs.Lengths.{base_is}

-- ## Refusals 1 to 4

module _ (s : List ℕ) where
  pub check_refused : (r : Refusal) → check_records Routine s ≡ Err r → check_routine s ≡ Err r
  unfolding check_records check_routine routine_checks
  check_refused r e = refused_then (record_checks Routine s) (count s) _ (count s) e

  pub not_long : {n : ℕ} → check_records Routine s ≡ Ok n → count s ≤ 512
  unfolding most
  not_long {n} e = (held Routine s n e).fines.few

-- ## One check after another

abbrev Left : List ℕ → List (Option Refusal) → Type 0
Left s cs = check_routine s ≡ verdict cs (count s)

starts : (s : List ℕ) {n : ℕ} → check_records Routine s ≡ Ok n
    → Left s (when_at Nesting (nesting (ops s)) ∷ when_at Label (lost_goto (ops s)) ∷ when_at Skip (skip (ops s)) ∷ when (grown (ops s)) Growth ∷ [])
unfolding check_records check_routine routine_checks
starts s e = accepted_then (record_checks Routine s) (count s) _ (count s) e

module _ (s : List ℕ) (cs : List (Option Refusal)) (r : ℕ → Refusal) (j : ℕ) {o : Option ℕ} (l : Left s (when_at r j ∷ cs)) (e : o ≡ found j) where
  passes : o ≡ None → Left s cs
  unfolding verdict first or_else when_at
  passes z = l ∙ by j (sym e ∙ z)
    where
      by : (j : ℕ) → found j ≡ None → verdict (when_at r j ∷ cs) (count s) ≡ verdict cs (count s)
      by zero q = refl
      by (suc j) q = cc

  refuses : {k : ℕ} → o ≡ Some k → Err (r k) ≡ check_routine s
  unfolding verdict verdict_of first or_else when_at
  refuses {k} z = sym (l ∙ by j (sym e ∙ z))
    where
      by : (j : ℕ) → found j ≡ Some k → verdict (when_at r j ∷ cs) (count s) ≡ Err (r k)
      by zero q = cc
      by (suc j) q = let n : suc j ≡ k = cc in rw n

-- ## The checks of a routine that has none of refusals 1 to 4

module _ (s : List ℕ) {n : ℕ} (e : check_records Routine s ≡ Ok n) {misfit : Option ℕ} (misfit-is : misfit ≡ found (nesting (ops s))) where
  pub nesting_refused : {k : ℕ} → misfit ≡ Some k → Err (Nesting k) ≡ check_routine s
  nesting_refused z = refuses s _ Nesting _ (starts s e) misfit-is z

  module _ (no_misfit : misfit ≡ None) {lost : Option ℕ} (lost-is : lost ≡ found (lost_goto (ops s))) where
    nested : Left s (when_at Label (lost_goto (ops s)) ∷ when_at Skip (skip (ops s)) ∷ when (grown (ops s)) Growth ∷ [])
    nested = passes s _ Nesting _ (starts s e) misfit-is no_misfit

    pub label_refused : {k : ℕ} → lost ≡ Some k → Err (Label k) ≡ check_routine s
    label_refused z = refuses s _ Label _ nested lost-is z

    module _ (no_lost : lost ≡ None) {test : Option ℕ} (test-is : test ≡ found (skip (ops s))) where
      labelled : Left s (when_at Skip (skip (ops s)) ∷ when (grown (ops s)) Growth ∷ [])
      labelled = passes s _ Label _ nested lost-is no_lost

      pub skip_refused : {k : ℕ} → test ≡ Some k → Err (Skip k) ≡ check_routine s
      skip_refused z = refuses s _ Skip _ labelled test-is z

      module _ (no_test : test ≡ None) {m : ℕ} (m-is : m ≡ base_length s) where
        left : Left s (when (grown (ops s)) Growth ∷ [])
        left = passes s _ Skip _ labelled test-is no_test

        length_is : m ≡ converted_length (ops s)
        length_is = m-is ∙ base_is s (not_long s e)

        pub growth_refused : 4096 < m → Err Growth ≡ check_routine s
        unfolding when grown verdict verdict_of first or_else
        growth_refused h = sym (left ∙ rw (← length_is, lt-ltb 4096 m h))

        pub accepted : m ≤ 4096 → Ok n ≡ check_routine s
        unfolding check_records when grown verdict verdict_of first or_else
        accepted h = ap Ok (accepted-count (record_checks Routine s) (count s) e) ∙ sym (left ∙ rw (← length_is, le-ltb 4096 m h))

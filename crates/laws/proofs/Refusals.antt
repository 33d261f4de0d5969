-- How a call's checks follow one another.
--     or_none, neither, first_append, refused_then, accepted_then     checks with more behind them: an earlier refusal stays, and where there is none the later ones decide
--     accepted-count, accepted-none, none_first, none_then     what is accepted, and that no check of it found anything
--     when-none, when_at-none     a check that finds nothing: its test is false, its place 0
--     Fine, fine     no refusal 1 to 4: no bytes left over, not too many records, none with a fault
--     Held, held, Admitted, admitted     an accepted file, and an accepted routine
use mathlib.Core.Path.{◌≡◌, refl, sym, ◌∙◌}
use Prim.Native.Nat.{ℕ, zero, suc, ◌%◌, ◌≤◌}
use mathlib.Core.Bool.{Bool, true, false}
use Rattle.std.specs.Prelude.{Option, None, Some, Ok, Err}
use mathlib.Core.List.{List, [], ◌∷◌, ◌++◌}
use lib.ListN.{length}
use borrow.Author.Tests.{not-false, eqb-true, ltb-false}
use Rattle.rules.specs.declared.Notation.{Notation}
use Rattle.rules.specs.declared.Notation.TheVariants.{Routine}
use Rattle.rules.specs.declared.Refusal.{Refusal}
use Rattle.rules.specs.declared.Refusal.TheVariants.{Ragged, Long}
use Rattle.rules.specs.Refusals.{when, when_at, or_else, first, verdict_of, verdict}
use Rattle.rules.specs.Record.{count}
use Rattle.rules.specs.Instruction.{ops}
use Rattle.rules.specs.Checks.{ragged, most, long, fault_from, record_checks}
use Rattle.rules.specs.Nesting.{nesting}
use Rattle.rules.specs.Labels.{lost_goto}
use Rattle.rules.specs.Skip.{skip, converted_length, grown}
use Rattle.rules.specs.Answers.{routine_checks, check_records, check_routine}

pub or_none : (c : Option Refusal) → or_else c None ≡ c
unfolding or_else
or_none None = refl
or_none (Some r) = refl

pub neither : (c d : Option Refusal) → or_else c d ≡ None → (c ≡ None) × (d ≡ None)
unfolding or_else
neither None d e = (refl, e)
neither (Some r) d e = cc

pub first_append : (cs ds : List (Option Refusal)) → first (cs ++ ds) ≡ or_else (first cs) (first ds)
unfolding first or_else
first_append [] ds = refl
first_append (None ∷ cs) ds = first_append cs ds
first_append (Some r ∷ cs) ds = refl

module _ (cs : List (Option Refusal)) (m : ℕ) where
  pub accepted-none : {k : ℕ} → verdict cs m ≡ Ok k → first cs ≡ None
  unfolding verdict verdict_of
  accepted-none {k} e = by (first cs) e
    where
      by : (c : Option Refusal) → verdict_of c m ≡ Ok k → c ≡ None
      by None e = refl
      by (Some r) e = cc

  refused-some : {r : Refusal} → verdict cs m ≡ Err r → first cs ≡ Some r
  unfolding verdict verdict_of
  refused-some {r} e = by (first cs) e
    where
      by : (c : Option Refusal) → verdict_of c m ≡ Err r → c ≡ Some r
      by None e = cc
      by (Some q) e = cc

  pub accepted-count : {k : ℕ} → verdict cs m ≡ Ok k → k ≡ m
  unfolding verdict verdict_of
  accepted-count e = let h = rw (accepted-none e) at e in cc

  module _ (ds : List (Option Refusal)) (n : ℕ) where
    pub refused_then : {r : Refusal} → verdict cs m ≡ Err r → verdict (cs ++ ds) n ≡ Err r
    unfolding verdict verdict_of or_else
    refused_then e = rw (first_append cs ds, refused-some e)

    pub accepted_then : {k : ℕ} → verdict cs m ≡ Ok k → verdict (cs ++ ds) n ≡ verdict ds n
    unfolding verdict or_else
    accepted_then e = rw (first_append cs ds, accepted-none e)

module _ (c : Option Refusal) (cs : List (Option Refusal)) where
  pub none_first : first (c ∷ cs) ≡ None → c ≡ None
  unfolding first
  none_first e = (neither c (first cs) e).0

  pub none_then : first (c ∷ cs) ≡ None → first cs ≡ None
  unfolding first
  none_then e = (neither c (first cs) e).1

pub when-none : (b : Bool) (r : Refusal) → when b r ≡ None → b ≡ false
unfolding when
when-none true r e = cc
when-none false r e = refl

pub when_at-none : (f : ℕ → Refusal) (i : ℕ) → when_at f i ≡ None → i ≡ 0
unfolding when_at
when_at-none f zero e = refl
when_at-none f (suc i) e = cc

pub record Fine (nt : Notation) (s : List ℕ) : Type 0 where
  pub even : length s % 8 ≡ 0
  pub few : count s ≤ most nt
  pub faultless : fault_from nt 1 (count s) s ≡ None

pub fine : (nt : Notation) (s : List ℕ) → first (record_checks nt s) ≡ None → Fine nt s
unfolding record_checks ragged long
fine nt s e =
    let e2 = none_then (when (ragged s) Ragged) _ e in
    record {
      even = eqb-true _ 0 (not-false _ (when-none _ _ (none_first _ _ e)));
      few = ltb-false _ _ (when-none _ _ (none_first _ _ e2));
      faultless = none_first _ [] (none_then (when (long nt s) Long) _ e2);
    }

-- ## What is accepted

pub record Held (nt : Notation) (s : List ℕ) (n : ℕ) : Type 0 where
  pub fines : Fine nt s
  pub counted : count s ≡ n

pub held : (nt : Notation) (s : List ℕ) (n : ℕ) → check_records nt s ≡ Ok n → Held nt s n
unfolding check_records
held nt s n e = record { fines = fine nt s (accepted-none _ (count s) e); counted = sym (accepted-count (record_checks nt s) (count s) e) }

pub record Admitted (s : List ℕ) (n : ℕ) : Type 0 where
  pub fines : Fine Routine s
  pub counted : count s ≡ n
  pub nested : nesting (ops s) ≡ 0
  pub aimed : lost_goto (ops s) ≡ 0
  pub allowed : skip (ops s) ≡ 0
  pub room : converted_length (ops s) ≤ 4096

pub admitted : (s : List ℕ) (n : ℕ) → check_routine s ≡ Ok n → Admitted s n
unfolding check_routine routine_checks grown
admitted s n e =
    let a = neither (first (record_checks Routine s)) _ (sym (first_append (record_checks Routine s) _) ∙ accepted-none _ (count s) e) in
    let b = none_then _ _ a.1 in
    let c = none_then _ _ b in
    record {
      fines = fine Routine s a.0;
      counted = sym (accepted-count (routine_checks s) (count s) e);
      nested = when_at-none _ _ (none_first _ _ a.1);
      aimed = when_at-none _ _ (none_first _ _ b);
      allowed = when_at-none _ _ (none_first _ _ c);
      room = ltb-false _ _ (when-none _ _ (none_first _ _ (none_then _ _ c)));
    }

-- The checks of a call one after another: what is refused, and what is then known of an accepted file.
use mathlib.Core.Path.{◌≡◌, refl, sym, ap, ◌∙◌}
use Prim.Native.Nat.{ℕ, ◌-◌, ◌≤◌, ◌<◌}
use native.Mathlib.Omega.{arith}
use mathlib.Core.Bool.{Bool, true, false, not, ◌&&◌}
use Rattle.std.specs.Prelude.{Option, None, Some, Ok, Err}
use mathlib.Core.List.{List, [], ◌∷◌, ◌++◌, append_assoc}
use lib.ListN.{take}
use lib.Dec.{leb}
use borrow.Author.Tests.{leb-true, leb-false, lt-leb}
use Rattle.rules.specs.declared.Refusal.{Refusal}
use Rattle.rules.specs.declared.Refusal.TheVariants.{Reply}
use Rattle.rules.specs.declared.Refusal.TheVariants as refusal
use Rattle.rules.specs.Refusals.{Verdict, when, when_at, or_else, first, verdict_of, verdict}
use Rattle.rules.specs.declared.Notation.TheVariants.{Base}
use Rattle.rules.specs.declared.Ran.{Ran}
use Rattle.rules.specs.declared.State.{State}
use Rattle.rules.specs.Record.{Rec, count, records}
use Rattle.rules.specs.Numbers.{names, move_to}
use Rattle.rules.specs.Instruction.{ops}
use Rattle.rules.specs.Table.{rows, row_of}
use Rattle.rules.specs.Checks.{most, in_row, stack_action, has_stack, field_fault, fault_from}
use Rattle.rules.specs.Run.{start_of, fresh_mem, run, runs}
use Rattle.rules.specs.Answers.{Called, check_records, check_routine, bad_reply, sound, unless, turned_away, no_state, running, ran, stepping, mem_at}
use Rattle.laws.proofs.Records.{at_none, all_get_d, records-length, records-get_or, ops-length}
use Rattle.laws.proofs.Instructions.{no_faults}
use Rattle.laws.proofs.Refusals.{first_append, when-none, held, admitted}
use Rattle.records.specs.Reading.{rec_at}
use Rattle.records.proofs.Reading.{rec_at_lem}
use Rattle.stack.proofs.Moves.{named, names-leb, move_in}
use Rattle.ways.specs.Places.{place_at}
use Rattle.ways.proofs.Places.{place_below}
use Rattle.deeds.specs.Deeds.{place_in}
use Rattle.states.specs.States.{with_replies, with_state, away_with}
use Rattle.machine.specs.Running.{fresh_at, Right}

first_one : (c : Option Refusal) → first (c ∷ []) ≡ c
unfolding first or_else
first_one None = refl
first_one (Some r) = refl

-- One check more.
module _ (cs : List (Option Refusal)) (n : ℕ) where
  more : (c : Option Refusal) → first (cs ++ (c ∷ [])) ≡ or_else (first cs) c
  more c = first_append cs (c ∷ []) ∙ ap (or_else (first cs)) (first_one c)

  pub with_replies_lem : (replies : List ℕ) → with_replies (verdict cs n) replies ≡ verdict (cs ++ (when_at Reply (bad_reply replies) ∷ [])) n
  unfolding verdict verdict_of or_else with_replies
  with_replies_lem replies = rw (more (when_at Reply (bad_reply replies))) (by (first cs))
    where
      by : (o : Option Refusal) → with_replies (verdict_of o n) replies ≡ verdict_of (or_else o (when_at Reply (bad_reply replies))) n
      by None = refl
      by (Some r) = refl

  pub with_state_lem : (m : State) → with_state (verdict cs n) m ≡ verdict (cs ++ (when (not (sound n m)) refusal.State ∷ [])) n
  unfolding verdict verdict_of or_else with_state
  with_state_lem m = rw (more (when (not (sound n m)) refusal.State)) (by (first cs))
    where
      by : (o : Option Refusal) → with_state (verdict_of o n) m ≡ verdict_of (or_else o (when (not (sound n m)) refusal.State)) n
      by None = refl
      by (Some r) = refl

accepted : (o : Option Refusal) (n k : ℕ) → verdict_of o n ≡ Ok k → (o ≡ None) × (k ≡ n)
unfolding verdict_of
accepted None n k e = (refl, cc)
accepted (Some r) n k e = absurd (let z : ◌≡◌ {A = ℕ} 0 1 = cc in omega arith)

refused : (o : Option Refusal) (n : ℕ) (r : Refusal) → verdict_of o n ≡ Err r → o ≡ Some r
unfolding verdict_of
refused None n r e = absurd (let z : ◌≡◌ {A = ℕ} 0 1 = cc in omega arith)
refused (Some q) n r e = cc

-- ## What a call answers

module _ (checks : List (Option Refusal)) (s replies : List ℕ) where
  abbrev run_checks : List (Option Refusal)
  run_checks = checks ++ (when_at Reply (bad_reply replies) ∷ [])

  abbrev step_checks : State → List (Option Refusal)
  step_checks m = checks ++ (when_at Reply (bad_reply replies) ∷ when (not (sound (count s) m)) refusal.State ∷ [])

  module _ (v w : Verdict) (p : v ≡ verdict checks (count s)) (q : w ≡ with_replies v replies) where
    run-verdict : w ≡ verdict_of (first run_checks) (count s)
    unfolding verdict
    run-verdict = q ∙ rw p (with_replies_lem checks (count s) replies)

    module _ (log : List ℕ) (budget : ℕ) (m : State) (a : Ran) where
      pub run-refused : (r : Refusal) → w ≡ Err r → m ≡ fresh_at 0 → a ≡ away_with r m → Called (running checks s replies log budget) a log
      unfolding running unless turned_away no_state
      run-refused r e f h = rw (refused (first run_checks) (count s) r (sym run-verdict ∙ e)) (record { answers = h ∙ rw f; logs = refl })

      pub run-called : (k : ℕ) → w ≡ Ok k → m ≡ fresh_at 1 → (log' : List ℕ)
          → Called (ran (run (ops s) budget (move_to (count s) m.at) (mem_at m replies log))) a log' → Called (running checks s replies log budget) a log'
      unfolding running unless runs start_of fresh_mem mem_at
      run-called k e f log' h = rw ((accepted (first run_checks) (count s) k (sym run-verdict ∙ e)).0, ops-length s) (rw f at h)

  module _ (m : State) (v w z : Verdict) (p : v ≡ verdict checks (count s)) (q : w ≡ with_replies v replies) (o : z ≡ with_state w m) where
    step-verdict : z ≡ verdict_of (first (step_checks m)) (count s)
    unfolding verdict
    step-verdict =
        o
        ∙ ap (λ (x : Verdict). with_state x m) (q ∙ rw p (with_replies_lem checks (count s) replies))
        ∙ with_state_lem run_checks (count s) m
        ∙ ap (λ (cs : List (Option Refusal)). verdict_of (first cs) (count s)) (append_assoc checks _ _)

    module _ (log : List ℕ) (a : Ran) where
      pub step-refused : (r : Refusal) → z ≡ Err r → a ≡ away_with r m → Called (stepping checks s replies log m) a log
      unfolding stepping unless turned_away
      step-refused r e h = rw (refused (first (step_checks m)) (count s) r (sym step-verdict ∙ e)) (record { answers = h; logs = refl })

      pub step-called : (k : ℕ) → z ≡ Ok k → m.at ≤ count s → (log' : List ℕ)
          → Called (ran (run (ops s) 1 (move_to (count s) m.at) (mem_at m replies log))) a log' → Called (stepping checks s replies log m) a log'
      unfolding stepping unless
      step-called k e l log' h =
          rw (accepted (first (step_checks m)) (count s) k (sym step-verdict ∙ e)).0 (rw (move_in (count s) m.at l) at h)

-- ## What is known of an accepted call

pub replies-accepted : (replies : List ℕ) {v w : Verdict} {k : ℕ} → w ≡ with_replies v replies → w ≡ Ok k → v ≡ Ok k
unfolding with_replies
replies-accepted replies {v = v} {k = k} q e = by v (sym q ∙ e)
  where
    by : (v : Verdict) → with_replies v replies ≡ Ok k → v ≡ Ok k
    by (Ok n) e = ap Ok (sym (accepted _ n k e).1)
    by (Err r) e = absurd (let z : ◌≡◌ {A = ℕ} 0 1 = cc in omega arith)

and_first : (a b : Bool) → a && b ≡ true → a ≡ true
and_first true b e = refl
and_first false b e = absurd (let z : ◌≡◌ {A = ℕ} 0 1 = cc in omega arith)

not_not : (b : Bool) → not b ≡ false → b ≡ true
not_not true e = refl
not_not false e = absurd (let z : ◌≡◌ {A = ℕ} 0 1 = cc in omega arith)

-- The position is in 0..n.
pub state_accepted : (m : State) {w z : Verdict} {k : ℕ} → z ≡ with_state w m → z ≡ Ok k → (w ≡ Ok k) × (m.at ≤ k)
unfolding with_state sound
state_accepted m {w = w} {k = k} o e = by w (sym o ∙ e)
  where
    by : (w : Verdict) → with_state w m ≡ Ok k → (w ≡ Ok k) × (m.at ≤ k)
    by (Ok n) e =
        let a = accepted _ n k e in
        let h = and_first (leb m.at n) _ (and_first _ _ (not_not (sound n m) (when-none _ refusal.State a.0))) in
        (ap Ok (sym a.1), omega (arith, a.1, leb-true m.at n h))
    by (Err r) e = absurd (let z : ◌≡◌ {A = ℕ} 0 1 = cc in omega arith)

pub few_routine : (s : List ℕ) {v : Verdict} {k : ℕ} → v ≡ check_routine s → v ≡ Ok k → (count s ≡ k) × (count s ≤ 512)
unfolding most
few_routine s {k = k} c e = let h = admitted s k (sym c ∙ e) in (h.counted, h.fines.few)

base_kind : (r : Rec) → field_fault Base r ≡ false → r.kind < 6
unfolding field_fault in_row row_of rows has_stack stack_action
base_kind r h = by (leb r.kind 5) refl
  where
    by : (b : Bool) → leb r.kind 5 ≡ b → r.kind < 6
    by true e = omega (arith, leb-true r.kind 5 e)
    by false e =
        let l = leb-false r.kind 5 e in
        let n : names 3 r.kind ≡ false = names-leb 3 r.kind (λ z. omega arith) ∙ lt-leb r.kind 3 (omega arith) in
        let z = rw (at_none (take 4 rows) r.kind (omega arith), n) at h in
        absurd (let y : ◌≡◌ {A = ℕ} 0 1 = cc in omega arith)

-- No record of a base leads elsewhere, so a base needs no table.
pub base_right : (s : List ℕ) {v : Verdict} {k : ℕ} → v ≡ check_records Base s → v ≡ Ok k
    → (count s ≡ k) × (count s ≤ 4096) × ((j : ℕ) → names (count s) j ≡ true → Right s [] j)
unfolding most place_in place_at
base_right s {k = k} c e = let h = held Base s k (sym c ∙ e) in (h.counted, h.fines.few, right h.fines.faultless)
  where
    right : fault_from Base 1 (count s) s ≡ None → (j : ℕ) → names (count s) j ≡ true → Right s [] j
    right f j n =
        let b = named (count s) j n in
        let g = all_get_d (λ r. field_fault Base r ≡ false) (records s) (j - 1) (rec_at s j) (no_faults Base 1 (count s) s f) (omega (arith, b, records-length s)) in
        let r = records-get_or s (j - 1) (rec_at s j) (omega arith) ∙ sym (rec_at_lem s j (λ z. omega arith) b.1) in
        ap (move_to (count s)) (sym (place_below (ops s) j (rec_at s j).x (rec_at s j).y (rec_at s j).kind (base_kind (rec_at s j) (rw r at g))))

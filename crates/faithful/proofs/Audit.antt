-- The auditor's sentence, from demand 3 and the base's acceptance: contracts of `convert`, `run_routine` and `run_base` cite the very
-- definitions that it speaks of.
use mathlib.Core.Path.{◌≡◌, refl, sym, ap, ◌∙◌, subst}
use Prim.Native.Nat.{ℕ, zero, suc, ◌+◌, ◌*◌, ◌≤◌, ◌<◌, zero-le}
use native.Mathlib.Omega.{arith}
use mathlib.Core.Bool.{Bool, true, false, cond, ◌||◌}
use Rattle.std.specs.Prelude.{Option, None, Some, Ok, Err}
use mathlib.Core.List.{List, [], ◌∷◌, ◌++◌, map}
use borrow.Author.Tests.{leb-true, eq-eqb, ne_eqb}
use lib.ListN.{length, take, drop, length-map}
use lib.Seq.{take_at}
use Rattle.rules.specs.declared.Notation.TheVariants.{Base}
use Rattle.rules.specs.declared.Refusal.{Refusal}
use Rattle.rules.specs.declared.Refusal.TheVariants.{Room, Reply as BadReply}
use Rattle.rules.specs.Refusals.{Verdict, when, when_at, or_else, first, verdict_of, verdict}
use Rattle.rules.specs.declared.Status.{Status}
use Rattle.rules.specs.declared.Status.TheVariants.{Ended, NoReply, LogFull, StackFull, Spent}
use Rattle.rules.specs.Numbers.{at, names, move_to}
use Rattle.rules.specs.Record.{count}
use Rattle.rules.specs.Instruction.{Act, outside, push, pop, compare, Op, jump, encode, ops, file}
use Rattle.rules.specs.Checks.{record_checks}
use Rattle.rules.specs.Skip.{skip, converted_length}
use Rattle.rules.specs.Convert.{convert}
use Rattle.rules.specs.Stack.{top, full}
use Rattle.rules.specs.Step.{Deed, ask, leap, enter, leave, Mem, no_reply_left, log_is_full, perform, Acted, did, stops, Out, go, halt, agree, branch, leaving, does, step_at, step}
use Rattle.rules.specs.Run.{Run, one_more, onward, run, start_of, fresh_mem, runs}
use Rattle.rules.specs.Answers.{routine_checks, short, check_records, check_routine, filled, base_records, base_count, converting, Converted, Call, ran, turned_away, unless, no_state, bad_reply, running, run_routine, run_base}
use Rattle.laws.proofs.Records.{at-get_or, bytes_length, ops-length}
use Rattle.laws.proofs.Refusals.{neither, or_none, first_append, accepted-none, accepted-count, admitted}
use Rattle.laws.proofs.Runs.{run-steps, run_more}
use Rattle.faithful.specs.Promises.{and_then, after, why, Based}
use Rattle.faithful.specs.Audit.{Alike, Followed, Audited, Audit}
use Rattle.faithful.proofs.Demand.{demand3, demand3_run}
use Rattle.faithful.proofs.Base.{base_length_lem, base_accepted}

-- ## A step stops with 2, 3 or 4 alone, but at position 0, and moves within the records

abbrev stopper : Status → Bool
stopper Ended = false
stopper NoReply = true
stopper LogFull = true
stopper StackFull = true
stopper Spent = false

module _ (v : Bool) (t f : ℕ) where
  tested : (b : Bool) (w : Status) (x : Acted) → stopper w ≡ true → ((u : Status) → branch v t f x ≡ halt u → stopper u ≡ true) → (u : Status) → branch v t f (cond b (stops w) x) ≡ halt u → stopper u ≡ true
  unfolding branch
  tested true w x h k u e = let z : w ≡ u = cc in rw (← z) h
  tested false w x h k u e = k u e

  done : (r : Bool) (m : Mem) (u : Status) → branch v t f (did r m) ≡ halt u → stopper u ≡ true
  unfolding branch
  done r m u e = cc

  performs : (a : Act) (m : Mem) (u : Status) → branch v t f (perform a m) ≡ halt u → stopper u ≡ true
  unfolding perform
  performs (outside a) m = tested (no_reply_left m) NoReply _ refl (tested (log_is_full m) LogFull _ refl (done _ _))
  performs (push y) m = tested (full m.stack) StackFull _ refl (done _ _)
  performs pop m = done _ _
  performs (compare y) m = done _ _

does_halts : (n : ℕ) (d : Deed) (m : Mem) (u : Status) → does n d m ≡ halt u → stopper u ≡ true
unfolding does leaving
does_halts n (ask a v t f) m u e = performs v (move_to n t) (move_to n f) a m u e
does_halts n (leap k) m u e = cc
does_halts n (enter r k) m u e = performs true (move_to n k) (move_to n k) (push r) m u e
does_halts n leave m u e = by (top m.stack) e
  where
    pick : (b : Bool) (i j : ℕ) (x y : Mem) → cond b (go i x) (go j y) ≡ halt u → stopper u ≡ true
    pick true i j x y e = cc
    pick false i j x y e = cc

    by : (t : Option ℕ) → leaving n t m ≡ halt u → stopper u ≡ true
    by None e = cc
    by (Some t) e = pick (names n t) _ _ _ _ e

step_halts : (L : List Op) (i : ℕ) (m : Mem) (u : Status) (o : Op) → at L i ≡ Some o → step L i m ≡ halt u → stopper u ≡ true
unfolding step step_at
step_halts L i m u o q e = does_halts (length L) _ m u (rw q at e)

names_in : (n k : ℕ) → names n k ≡ true → k ≤ n
unfolding names
names_in n zero e = zero-le
names_in n (suc k) e = leb-true (suc k) n e

move_in : (n k : ℕ) → move_to n k ≤ n
unfolding move_to
move_in n k = by (names n k) refl
  where
    by : (b : Bool) → names n k ≡ b → cond b k 0 ≤ n
    by true e = names_in n k e
    by false e = zero-le

cond_in : (n : ℕ) (b : Bool) (x y : ℕ) → x ≤ n → y ≤ n → cond b x y ≤ n
cond_in n true x y h k = h
cond_in n false x y h k = k

branch_in : (n : ℕ) (v : Bool) (t f : ℕ) (x : Acted) (j : ℕ) (m₁ : Mem) → t ≤ n → f ≤ n → branch v t f x ≡ go j m₁ → j ≤ n
unfolding branch
branch_in n v t f (did r m) j m₁ h k e = let z : cond (agree v r) t f ≡ j = cc in rw z at (cond_in n (agree v r) t f h k)
branch_in n v t f (stops w) j m₁ h k e = cc

does_in : (n : ℕ) (d : Deed) (m : Mem) (j : ℕ) (m₁ : Mem) → does n d m ≡ go j m₁ → j ≤ n
unfolding does leaving
does_in n (ask a v t f) m j m₁ e = branch_in n v _ _ (perform a m) j m₁ (move_in n t) (move_in n f) e
does_in n (leap k) m j m₁ e = let z : move_to n k ≡ j = cc in rw z at (move_in n k)
does_in n (enter r k) m j m₁ e = branch_in n true _ _ (perform (push r) m) j m₁ (move_in n k) (move_in n k) e
does_in n leave m j m₁ e = by (top m.stack) e
  where
    zero_in : {x : Mem} → go 0 x ≡ go j m₁ → j ≤ n
    zero_in e = let z : ◌≡◌ {A = ℕ} 0 j = cc in omega arith

    pick : (t : ℕ) (b : Bool) (x y : Mem) → names n t ≡ b → cond b (go t x) (go 0 y) ≡ go j m₁ → j ≤ n
    pick t true x y q e = let z : t ≡ j = cc in rw z at (names_in n t q)
    pick t false x y q e = zero_in e

    by : (t : Option ℕ) → leaving n t m ≡ go j m₁ → j ≤ n
    by None e = zero_in e
    by (Some t) e = pick t (names n t) _ _ refl e

step_in : (L : List Op) (i : ℕ) (m : Mem) (j : ℕ) (m₁ : Mem) → step L i m ≡ go j m₁ → j ≤ length L
unfolding step step_at
step_in L i m j m₁ e = by (at L i) e
  where
    by : (o : Option Op) → step_at L i o m ≡ go j m₁ → j ≤ length L
    by None e = cc
    by (Some o) e = does_in (length L) _ m j m₁ e

after_in : (L : List Op) (c i : ℕ) (m : Mem) (j : ℕ) (m₁ : Mem) → i ≤ length L → after L c i m ≡ go j m₁ → j ≤ length L
unfolding after and_then
after_in L zero i m j m₁ h e = let z : i ≡ j = cc in rw z at h
after_in L (suc c) i m j m₁ h e = by (step L i m) (step_in L i m) e (after_in L c)
  where
    by : (o : Out) → ((k : ℕ) (m₂ : Mem) → o ≡ go k m₂ → k ≤ length L) → and_then (λ k m₂. after L c k m₂) o ≡ go j m₁
        → ((k : ℕ) (m₂ : Mem) (x : ℕ) (y : Mem) → k ≤ length L → after L c k m₂ ≡ go x y → x ≤ length L) → j ≤ length L
    by (go k m₂) g e ih = ih k m₂ j m₁ (g k m₂ refl) e
    by (halt w) g e ih = cc

-- a place that stops as a record does is a record's
stands : (L : List Op) (i : ℕ) (m : Mem) → ¬ (i ≡ 0) → i ≤ length L → why (step L i m) ≡ Some Ended → ⊥
unfolding why
stands L zero m z h e = z refl
stands L (suc k) m z h e = by (step L (suc k) m) refl e
  where
    by : (o : Out) → step L (suc k) m ≡ o → why o ≡ Some Ended → ⊥
    by (go j m₁) q e = let y : ◌≡◌ {A = ℕ} 0 1 = cc in omega arith
    by (halt w) q e =
        let y : w ≡ Ended = cc in
        let g = step_halts L (suc k) m w _ (at-get_or L k (jump 0) h) q in
        let f : false ≡ true = ap stopper (sym y) ∙ g in
        let u : ◌≡◌ {A = ℕ} 0 1 = cc in omega arith

at-end : (L : List Op) (i : ℕ) (m : Mem) → i ≡ 0 → why (step L i m) ≡ Some Ended
unfolding why step step_at at
at-end L i m e = rw e

-- ## A run whose budget is spent

pub record Whole (L : List Op) (b i : ℕ) (m : Mem) : Type 0 where
  pub steps : (run L b i m).steps ≡ b
  pub stands_at : after L b i m ≡ go (run L b i m).position (run L b i m).mem
  pub not_ended : ¬ ((run L b i m).position ≡ 0)

never_spent : (L : List Op) (i : ℕ) (m : Mem) → step L i m ≡ halt Spent → ⊥
unfolding step step_at
never_spent L i m e = by (at L i) refl e
  where
    by : (o : Option Op) → at L i ≡ o → step_at L i o m ≡ halt Spent → ⊥
    by None q e = let u : ◌≡◌ {A = ℕ} 0 1 = cc in omega arith
    by (Some o) q e = let g : false ≡ true = does_halts (length L) _ m Spent e in let u : ◌≡◌ {A = ℕ} 0 1 = cc in omega arith

run_spent : (L : List Op) (b i : ℕ) (m : Mem) → (run L b i m).status ≡ Spent → Whole L b i m
unfolding run after and_then onward
run_spent L zero i m e = record { steps = refl; stands_at = refl; not_ended = λ z. let y = sym e ∙ ap (λ (b : Bool). cond b Ended Spent) (eq-eqb i 0 z) in let u : ◌≡◌ {A = ℕ} 0 1 = cc in omega arith }
run_spent L (suc b) i m e = by (step L i m) refl e (run_spent L b)
  where
    by : (o : Out) → step L i m ≡ o → (onward i m (λ x y. run L b x y) o).status ≡ Spent → ((j : ℕ) (m₁ : Mem) → (run L b j m₁).status ≡ Spent → Whole L b j m₁) → Whole L (suc b) i m
    by (go j m₁) q e ih = let w = ih j m₁ e in record { steps = rw q (ap suc w.steps); stands_at = rw q w.stands_at; not_ended = rw q w.not_ended }
    by (halt w) q e ih = absurd (never_spent L i m (q ∙ ap halt e))

run_to : (L : List Op) (c i : ℕ) (m : Mem) (j : ℕ) (m₁ : Mem) → after L c i m ≡ go j m₁ → ¬ (j ≡ 0) → run L c i m ≡ record { position = j; mem = m₁; steps = c; status = Spent }
unfolding run after and_then onward
run_to L zero i m j m₁ e h =
    let e₀ : i ≡ j = cc in
    let e₁ : m ≡ m₁ = cc in
    rw (e₀, e₁, ne_eqb j 0 h)
run_to L (suc c) i m j m₁ e h = by (step L i m) e (run_to L c)
  where
    by : (o : Out) → and_then (λ k m₂. after L c k m₂) o ≡ go j m₁ → ((k : ℕ) (m₂ : Mem) (x : ℕ) (y : Mem) → after L c k m₂ ≡ go x y → ¬ (x ≡ 0) → run L c k m₂ ≡ record { position = x; mem = y; steps = c; status = Spent })
        → onward i m (λ x y. run L c x y) o ≡ record { position = j; mem = m₁; steps = suc c; status = Spent }
    by (go k m₂) e ih = ap one_more (ih k m₂ j m₁ e h)
    by (halt w) e ih = cc

-- ## What the two runs answer

last : (checks : List (Option Refusal)) (c : Option Refusal) → first checks ≡ None → first (checks ++ (c ∷ [])) ≡ c
unfolding or_else first
last checks c e = first_append checks (c ∷ []) ∙ rw e (or_none c)

-- no refusal among a call's own checks: it is turned away by a bad reply, or runs
running_is : (checks : List (Option Refusal)) (s replies log : List ℕ) (budget : ℕ) → first checks ≡ None
    → running checks s replies log budget ≡ unless (when_at BadReply (bad_reply replies)) no_state log (ran (runs (ops s) replies log budget))
unfolding running
running_is checks s replies log budget e = ap (λ (c : Option Refusal). unless c no_state log (ran (runs (ops s) replies log budget))) (last checks _ e)

-- a bad reply turns both away, whatever they would have done; without one neither is turned away
tells : ℕ → List ℕ → Run → Call
tells bad log r = unless (when_at BadReply bad) no_state log (ran r)

both_turned : (bad : ℕ) (log : List ℕ) (x y : Run) (r : Refusal) → (tells bad log x).answer.outcome ≡ Err r → tells bad log y ≡ tells bad log x
unfolding tells unless when_at ran
both_turned zero log x y r e = absurd (let u : ◌≡◌ {A = ℕ} 0 1 = cc in omega arith)
both_turned (suc p) log x y r e = refl

no-bad : (bad : ℕ) (log : List ℕ) (x : Run) (w : Status) → (tells bad log x).answer.outcome ≡ Ok w → (bad ≡ 0) × (x.status ≡ w)
unfolding tells unless when_at ran turned_away
no-bad zero log x w e = (refl, cc)
no-bad (suc p) log x w e = absurd (let u : ◌≡◌ {A = ℕ} 0 1 = cc in omega arith)

tells_ran : (bad : ℕ) (log : List ℕ) (x : Run) → bad ≡ 0 → tells bad log x ≡ ran x
unfolding tells unless when_at
tells_ran bad log x e = rw e

same_mem : (x y : Run) → x.mem ≡ y.mem → x.status ≡ y.status → Alike (ran x) (ran y)
unfolding ran
same_mem x y m w = record {
  outcome = ap Ok w;
  replies = ap (λ (z : Mem). z.used) m;
  actions = ap (λ (z : Mem). z.logged) m;
  stack = ap (λ (z : Mem). z.stack) m;
  log = ap (λ (z : Mem). z.log) m;
}

-- ## Demand 3 for a run, whatever its status

start_in : (L : List Op) → start_of L ≤ length L
unfolding start_of
start_in L = move_in (length L) 1

-- the base's run under a budget, beside the routine's run x
abbrev Matched : List Op → List ℕ → List ℕ → Run → ℕ → Type 0
Matched L replies log x budget = ((runs (convert L) replies log budget).mem ≡ x.mem) × ((runs (convert L) replies log budget).status ≡ x.status)

record Counted (L : List Op) (replies log : List ℕ) (x : Run) : Type 0 where
  total : ℕ
  low : x.steps ≤ total
  high : total ≤ (2 * length L + 1) * x.steps
  over : ¬ (x.status ≡ Spent) → (larger : ℕ) → total < larger → Matched L replies log x larger
  spent : x.status ≡ Spent → Matched L replies log x total

module _ (L : List Op) (allowed : skip L ≡ 0) (replies log : List ℕ) where
  with_budget_left : (b : ℕ) → (runs L replies log b).steps < b → ¬ ((runs L replies log b).status ≡ Spent) → Counted L replies log (runs L replies log b)
  with_budget_left b l h =
      let d = demand3_run L allowed replies log b l in
      record {
        total = d.count;
        low = d.at_least;
        high = d.at_most;
        over = λ z larger g. (ap (λ (r : Run). r.mem) (d.same larger g), ap (λ (r : Run). r.status) (d.same larger g));
        spent = λ z. absurd (h z);
      }

  -- one that stopped with its last step is the same with one step more to spend
  that_stopped : (b : ℕ) → ¬ ((runs L replies log b).status ≡ Spent) → Counted L replies log (runs L replies log b)
  unfolding runs
  that_stopped b h =
      let e = run_more L b (suc b) (start_of L) (fresh_mem replies log) (omega arith) h in
      let l = run-steps L b (start_of L) (fresh_mem replies log) in
      subst (Counted L replies log) e (with_budget_left (suc b) (rw e (omega arith)) (rw e h))

  that_went_on : (b : ℕ) → (runs L replies log b).status ≡ Spent → Counted L replies log (runs L replies log b)
  unfolding runs
  that_went_on b h =
      let w = run_spent L b (start_of L) (fresh_mem replies log) h in
      let r = run L b (start_of L) (fresh_mem replies log) in
      let d = demand3 L allowed replies log b r.position r.mem w.stands_at in
      let here = after_in L b (start_of L) (fresh_mem replies log) r.position r.mem (start_in L) w.stands_at in
      let there : ¬ (d.place ≡ 0) = λ z. stands L r.position r.mem w.not_ended here (sym d.alike ∙ at-end (convert L) d.place r.mem z) in
      let e = run_to (convert L) d.count (start_of (convert L)) (fresh_mem replies log) d.place r.mem d.same there in
      record {
        total = d.count;
        low = rw w.steps d.at_least;
        high = rw w.steps d.at_most;
        over = λ z. absurd (z h);
        spent = λ z. (ap (λ (q : Run). q.mem) e, ap (λ (q : Run). q.status) e ∙ sym h);
      }

  counted : (b : ℕ) (w : Status) → (runs L replies log b).status ≡ w → Counted L replies log (runs L replies log b)
  counted b Spent e = that_went_on b e
  counted b Ended e = that_stopped b (λ z. let u : ◌≡◌ {A = ℕ} 0 1 = cc in omega arith)
  counted b NoReply e = that_stopped b (λ z. let u : ◌≡◌ {A = ℕ} 0 1 = cc in omega arith)
  counted b LogFull e = that_stopped b (λ z. let u : ◌≡◌ {A = ℕ} 0 1 = cc in omega arith)
  counted b StackFull e = that_stopped b (λ z. let u : ◌≡◌ {A = ℕ} 0 1 = cc in omega arith)

-- ## The sentence

module _ (s b : List ℕ)
    (routine-is : (replies log : List ℕ) (budget : ℕ) → run_routine s replies log budget ≡ tells (bad_reply replies) log (runs (ops s) replies log budget))
    (base_is : (replies log : List ℕ) (budget : ℕ) → run_base b replies log budget ≡ tells (bad_reply replies) log (runs (convert (ops s)) replies log budget)) where
  turned_alike : (replies log : List ℕ) (budget other : ℕ) (r : Refusal) → (run_routine s replies log budget).answer.outcome ≡ Err r → run_base b replies log other ≡ run_routine s replies log budget
  turned_alike replies log budget other r e =
      rw (routine-is replies log budget, base_is replies log other) (both_turned (bad_reply replies) log _ _ r (rw (routine-is replies log budget) at e))

  followed : skip (ops s) ≡ 0 → (replies log : List ℕ) (budget : ℕ) (w : Status) → (run_routine s replies log budget).answer.outcome ≡ Ok w → Followed s b replies log budget w
  unfolding ran
  followed allowed replies log budget w e =
      let k = no-bad (bad_reply replies) log (runs (ops s) replies log budget) w (rw (routine-is replies log budget) at e) in
      let r = routine-is replies log budget ∙ tells_ran (bad_reply replies) log (runs (ops s) replies log budget) k.0 in
      let o : (q : ℕ) → run_base b replies log q ≡ ran (runs (convert (ops s)) replies log q) = λ q. base_is replies log q ∙ tells_ran (bad_reply replies) log (runs (convert (ops s)) replies log q) k.0 in
      let d = counted (ops s) allowed replies log budget w k.1 in
      record {
        steps = d.total;
        at_least = rw r d.low;
        at_most = rw (r, ← ops-length s) d.high;
        stops = λ h larger g. let a = d.over (λ z. h (sym k.1 ∙ z)) larger g in rw (r, o larger) (same_mem _ _ a.0 a.1);
        goes_on = λ h. let a = d.spent (k.1 ∙ h) in rw (r, o d.total) (same_mem _ _ a.0 a.1);
      }

module _ (s out work out' work' : List ℕ) (m : ℕ) (c : Converted s out work (Ok m) out' work') where
  checked : verdict (routine_checks s ++ (when (short (base_count s) out || short (base_count s) work) Room ∷ [])) (base_count s) ≡ Ok m
  unfolding converting
  checked = sym c.answers

  unrefused : first (routine_checks s) ≡ None
  unrefused = (neither _ _ (sym (first_append (routine_checks s) _) ∙ accepted-none _ _ checked)).0

  approved : check_routine s ≡ Ok (count s)
  unfolding check_routine verdict verdict_of
  approved = rw unrefused

  based : Based s
  based = base_accepted s (count s) approved

  sized : m ≡ converted_length (ops s)
  unfolding base_count
  sized = accepted-count _ _ checked

  the_base : take (8 * m) out' ≡ file (convert (ops s))
  unfolding filled base_records file
  the_base =
      let b = file (convert (ops s)) in
      let l : length b ≡ 8 * m = bytes_length (map encode (convert (ops s))) ∙ ap (λ (n : ℕ). 8 * n) (length-map (convert (ops s)) encode ∙ base_length_lem (ops s) ∙ sym sized) in
      ap (take (8 * m)) (c.output ∙ ap (λ (v : Verdict). filled v (base_records s) out) (sym c.answers)) ∙ take_at b (drop (8 * m) out) (8 * m) l

  routine_runs : (replies log : List ℕ) (budget : ℕ) → run_routine s replies log budget ≡ tells (bad_reply replies) log (runs (ops s) replies log budget)
  unfolding run_routine tells
  routine_runs replies log budget = running_is (routine_checks s) s replies log budget unrefused

  base_runs : (replies log : List ℕ) (budget : ℕ) → run_base (file (convert (ops s))) replies log budget ≡ tells (bad_reply replies) log (runs (convert (ops s)) replies log budget)
  unfolding run_base tells check_records
  base_runs replies log budget =
      let b = file (convert (ops s)) in
      running_is (record_checks Base b) b replies log budget (accepted-none _ _ based.checked)
      ∙ ap (λ (L : List Op). unless (when_at BadReply (bad_reply replies)) no_state log (ran (runs L replies log budget))) based.read_back

  allowed : skip (ops s) ≡ 0
  allowed = (admitted s (count s) approved).allowed

pub audit : Audit
audit s out work out' work' m c =
    let b = file (convert (ops s)) in
    subst (λ (x : List ℕ). Audited s x m) (sym (the_base s out work out' work' m c))
    (record {
      accepted = (based s out work out' work' m c).checked ∙ ap Ok (sym (sized s out work out' work' m c));
      refused = turned_alike s b (routine_runs s out work out' work' m c) (base_runs s out work out' work' m c);
      follows = followed s b (routine_runs s out work out' work' m c) (base_runs s out work out' work' m c) (allowed s out work out' work' m c);
    })

-- Demand 3: the four simulations together, what their steps cost, and from steps to runs.
use mathlib.Core.Path.{◌≡◌, refl, ap, ◌∙◌, subst}
use Prim.Native.Nat.{◌≤◌, ◌<◌, zero-le}
use native.Mathlib.Nat.{mul-suc}
use native.Mathlib.Omega.{arith}
use Rattle.std.specs.Prelude.{◌+◌, ◌*◌, ◌∷◌}
use Rattle.rules.specs.Words.{ℕ, zero, suc, Bool, true, false, cond, Option, None, Some, List, [], length, slice_get}
use Rattle.rules.specs.declared.Status.{Status}
use Rattle.rules.specs.Instruction.{Op, act, test, jump, label, goto, goto2, header, separator, end, call, return, conditional, loop, ops}
use Rattle.rules.specs.Numbers.{at, each}
use Rattle.rules.specs.Skip.{skip}
use Rattle.rules.specs.Labels.{labels}
use Rattle.rules.specs.Calls.{uncall, calls}
use Rattle.rules.specs.Loops.{unloop, loops}
use Rattle.rules.specs.Conditionals.{uncond}
use Rattle.rules.specs.Convert.{convert}
use Rattle.rules.specs.Stack.{fresh, top, equals}
use Rattle.rules.specs.Step.{Mem, Acted, did, stops, perform, Out, go, halt, agree, step}
use Rattle.rules.specs.Run.{start_of, fresh_mem, Run, one_more, onward, run, runs}
use Rattle.rules.proofs.Cases.{there_and_back}
use Rattle.laws.proofs.Records.{ops-length}
use Rattle.rules.proofs.Computes.{computes}
use Rattle.faithful.specs.Promises.{and_then, after, why, Follows, Demand3, RunFollows, Demand3Run, Demand3File}
use Rattle.laws.proofs.Refusals.{admitted}
use Rattle.faithful.proofs.Inner.Places.{clash, place}
use Rattle.faithful.proofs.Inner.Simulation.{fork_cost, link_cost, cost, cost_of, cost_at, Way, stay, on, Sim, both, lift, go-halt, at_in}
use Rattle.faithful.proofs.Inner.Turns.{rank, Good}
use Rattle.faithful.proofs.Inner.Stage.{Staged}
use Rattle.faithful.proofs.Labels.{labels-staged}
use Rattle.faithful.proofs.Calls.{calls-staged}
use Rattle.faithful.proofs.Loops.{loops-staged}
use Rattle.faithful.proofs.Conditionals.{conditionals-staged}

-- ## The four stages together

-- Where the record number k of a routine begins in its base.
pub place_of : List Op → ℕ → ℕ
place_of L k =
    let A = labels L in
    let B = calls A in
    let C = loops B in
    place (each (uncond C) 1 C) (place (each (unloop B) 1 B) (place (each (uncall (length A)) 1 A) k))

then : {k k' : ℕ} {L M N : List Op} {P Q : ℕ → ℕ} → Staged k L M P → Staged k' M N Q → Staged k' L N (λ i. Q (P i))
then {Q} s t = record { sim = both s.sim t.sim; good = t.good; starts = t.starts ∙ ap Q s.starts }

pub converted : (L : List Op) → skip L ≡ 0 → Staged 0 L (convert L) (place_of L)
unfolding convert place_of
converted L e =
    let a = labels-staged L e in
    let b = calls-staged (labels L) a.good in
    let c = loops-staged (calls (labels L)) b.good in
    then a (then b (then c (conditionals-staged (loops (calls (labels L))) c.good)))

-- ## A step costs 1 to 2n + 1

between : (b : Bool) (w x y z : ℕ) → (w ≤ x) × (x ≤ z) → (w ≤ y) × (y ≤ z) → (w ≤ cond b x y) × (cond b x y ≤ z)
between true w x y z g h = g
between false w x y z g h = h

link_cost_lem : (j : ℕ) (t : Option ℕ) → (1 ≤ link_cost j t) × (link_cost j t ≤ 2 * j + 1)
unfolding link_cost
link_cost_lem zero t = omega arith
link_cost_lem (suc j) t = let h = link_cost_lem j t in between (equals t (suc j)) 1 3 _ _ (omega arith) (omega arith)

fork_cost_lem : (v : Bool) (x : Acted) → (1 ≤ fork_cost v x) × (fork_cost v x ≤ 2)
unfolding fork_cost
fork_cost_lem v (did r m) = between (agree v r) 1 1 2 2 (omega arith) (omega arith)
fork_cost_lem v (stops w) = omega arith

op_cost : (n : ℕ) (o : Op) (m : Mem) → 1 ≤ n → (1 ≤ cost n o m) × (cost n o m ≤ 2 * n + 1)
unfolding cost
op_cost n (header b v a) m h = let g = fork_cost_lem v (perform a m) in omega arith
op_cost n (call k) m h = omega arith
op_cost n return m h = link_cost_lem n (top m.stack)
op_cost n (act a) m h = omega arith
op_cost n (test v a) m h = omega arith
op_cost n (jump k) m h = omega arith
op_cost n (label s) m h = omega arith
op_cost n (goto s) m h = omega arith
op_cost n (goto2 s t) m h = omega arith
op_cost n separator m h = omega arith
op_cost n (end b) m h = omega arith

step_cost : (L : List Op) (i : ℕ) (m : Mem) → (1 ≤ cost_at L i m) × (cost_at L i m ≤ 2 * length L + 1)
unfolding cost_at cost_of at
step_cost L zero m = omega arith
step_cost L (suc k) m = by (at L (suc k)) refl
  where
    by : (x : Option Op) → at L (suc k) ≡ x → (1 ≤ cost_of (length L) x m) × (cost_of (length L) x m ≤ 2 * length L + 1)
    by None e = omega arith
    by (Some o) e = op_cost (length L) o m (omega (arith, at_in L (suc k) o e))

-- In a base every step costs 1.
base_cost : (L : List Op) → Good 0 L → (i : ℕ) (m : Mem) → cost_at L i m ≡ 1
unfolding cost_at cost_of at cost
base_cost L g zero m = refl
base_cost L g (suc j) m = by (length L) L g j
  where
    one : (n : ℕ) (o : Op) → rank o ≤ 0 → cost n o m ≡ 1
    one n (header conditional v a) r = absurd (omega arith)
    one n (header loop v a) r = absurd (omega arith)
    one n (call k) r = absurd (omega arith)
    one n return r = absurd (omega arith)
    one n (act a) r = refl
    one n (test v a) r = refl
    one n (jump k) r = refl
    one n (label s) r = refl
    one n (goto s) r = refl
    one n (goto2 s t) r = refl
    one n separator r = refl
    one n (end b) r = refl

    by : (n : ℕ) (os : List Op) → Good 0 os → (j : ℕ) → cost_of n (slice_get os j) m ≡ 1
    by n [] g j = refl
    by n (o ∷ os) g zero = one n o g.0
    by n (o ∷ os) g (suc j) = by n os g.2 j

-- ## Steps as a way, and a way as steps

-- s steps are a way, and its cost is from s to (2n+1)·s.
record Costed (L : List Op) (s i : ℕ) (m : Mem) (j : ℕ) (m₁ : Mem) : Type 0 where
  total : ℕ
  way : Way L i m j m₁ total
  low : s ≤ total
  high : total ≤ (2 * length L + 1) * s

costed : (L : List Op) (s i : ℕ) (m : Mem) (j : ℕ) (m₁ : Mem) → after L s i m ≡ go j m₁ → Costed L s i m j m₁
unfolding after and_then
costed L zero i m j m₁ e =
    let e₀ : i ≡ j = cc in
    let e₁ : m ≡ m₁ = cc in
    record { total = 0; way = subst (λ (x : ℕ). Way L i m x m₁ 0) e₀ (subst (λ (y : Mem). Way L i m i y 0) e₁ (stay refl)); low = omega arith; high = zero-le }
costed L (suc s) i m j m₁ e = by (step L i m) refl e (λ k m₂ h. costed L s k m₂ j m₁ h)
  where
    by : (o : Out) → step L i m ≡ o → and_then (λ k m₂. after L s k m₂) o ≡ go j m₁
        → ((k : ℕ) (m₂ : Mem) → after L s k m₂ ≡ go j m₁ → Costed L s k m₂ j m₁) → Costed L (suc s) i m j m₁
    by (go k m₂) a b ih =
        let r = ih k m₂ b in
        let c = step_cost L i m in
        let l = r.low in
        let h = r.high in
        record { total = cost_at L i m + r.total; way = on a r.way refl; low = omega arith; high = omega (arith, mul-suc (2 * length L + 1) s) }
    by (halt w) a b ih = clash cc

way_after : (L : List Op) → ((i : ℕ) (m : Mem) → cost_at L i m ≡ 1) → {i : ℕ} {m : Mem} {j : ℕ} {m₁ : Mem} {c : ℕ} → Way L i m j m₁ c → after L c i m ≡ go j m₁
unfolding after and_then
way_after L f {i} {m} (stay e) = ap (λ (c : ℕ). after L c i m) e
way_after L f {i} {m} (on {b = b} {c = c} a w e) =
    let h : c ≡ suc b = omega (arith, f i m) in
    ap (λ (c : ℕ). after L c i m) h ∙ ap (and_then (λ j m'. after L b j m')) a ∙ way_after L f w

-- Both go on, or both stop alike.
way_goes : {L : List Op} {i : ℕ} {m : Mem} {j : ℕ} {m₁ : Mem} {c : ℕ} → Way L i m j m₁ c → 1 ≤ c → why (step L i m) ≡ None
unfolding why
way_goes (stay e) h = absurd (omega arith)
way_goes (on a w e) h = ap why a

same-status : {L L' : List Op} {P : ℕ → ℕ} → Sim L L' P → (i : ℕ) (m : Mem) → why (step L' (P i) m) ≡ why (step L i m)
unfolding why
same-status {L} {L'} {P} S i m = by (step L i m) refl
  where
    by : (o : Out) → step L i m ≡ o → why (step L' (P i) m) ≡ why o
    by (go j m₁) e = way_goes (S.steps i m j m₁ e) (step_cost L i m).0
    by (halt w) e = ap why (S.halts i m w e)

-- ## Demand 3

pub demand3 : Demand3
demand3 L a replies log s i m e =
    let m₀ = fresh_mem replies log in
    let w = costed L s (start_of L) m₀ i m e in
    let c = converted L a in
    let flat = base_cost (convert L) c.good in
    record {
      count = w.total;
      place = place_of L i;
      at_least = w.low;
      at_most = w.high;
      same = ap (λ (p : ℕ). after (convert L) w.total p m₀) c.starts ∙ way_after (convert L) flat (lift c.sim w.way);
      alike = same-status c.sim i m;
    }

-- ## Runs that stop with budget left over

-- Steps that end in a stop are a run ..
pub run_of : (L : List Op) (c b i : ℕ) (m : Mem) (j : ℕ) (m₁ : Mem) (w : Status) → after L c i m ≡ go j m₁ → step L j m₁ ≡ halt w → c < b
    → run L b i m ≡ record { position = j; mem = m₁; steps = c; status = w }
unfolding after and_then run onward
run_of L c zero i m j m₁ w e h g = absurd (omega arith)
run_of L zero (suc b) i m j m₁ w e h g =
    let e₀ : i ≡ j = cc in
    let e₁ : m ≡ m₁ = cc in
    rw (e₀, e₁) (ap (onward j m₁ (λ x y. run L b x y)) h)
run_of L (suc c) (suc b) i m j m₁ w e h g = by (step L i m) e (λ k m₂ e₁. run_of L c b k m₂ j m₁ w e₁ h (omega arith))
  where
    by : (o : Out) → and_then (λ k m₂. after L c k m₂) o ≡ go j m₁
        → ((k : ℕ) (m₂ : Mem) → after L c k m₂ ≡ go j m₁ → run L b k m₂ ≡ record { position = j; mem = m₁; steps = c; status = w })
        → onward i m (λ x y. run L b x y) o ≡ record { position = j; mem = m₁; steps = suc c; status = w }
    by (go k m₂) a ih = ap one_more (ih k m₂ a)
    by (halt s) a ih = absurd (go-halt a)

-- .. and a run with budget left over is such steps.
abbrev Ran : List Op → ℕ → Mem → Run → Type 0
Ran L i m r = (after L r.steps i m ≡ go r.position r.mem) × (step L r.position r.mem ≡ halt r.status)

pub run_is : (L : List Op) (b i : ℕ) (m : Mem) → (run L b i m).steps < b → Ran L i m (run L b i m)
unfolding after and_then run onward
run_is L zero i m g = absurd (omega arith)
run_is L (suc b) i m g = by (step L i m) refl (λ k m₂. run_is L b k m₂) g
  where
    by : (o : Out) → step L i m ≡ o → ((k : ℕ) (m₂ : Mem) → (run L b k m₂).steps < b → Ran L k m₂ (run L b k m₂))
        → (onward i m (λ x y. run L b x y) o).steps < suc b → Ran L i m (onward i m (λ x y. run L b x y) o)
    by (go k m₂) a ih h = let r = ih k m₂ (omega arith) in (ap (and_then (λ x y. after L (run L b k m₂).steps x y)) a ∙ r.0, r.1)
    by (halt w) a ih h = (refl, a)

stop-halt : (o : Out) (w : Status) → why o ≡ Some w → o ≡ halt w
unfolding why
stop-halt (go i m) w e = clash cc
stop-halt (halt v) w e = let z : v ≡ w = cc in ap halt z

pub demand3_run : Demand3Run
unfolding runs why
demand3_run L a replies log b h =
    let r = runs L replies log b in
    let k = run_is L b (start_of L) (fresh_mem replies log) h in
    let d = demand3 L a replies log r.steps r.position r.mem k.0 in
    let stop = stop-halt _ _ (d.alike ∙ ap why k.1) in
    record {
      count = d.count;
      place = d.place;
      at_least = d.at_least;
      at_most = d.at_most;
      same = λ larger x. run_of (convert L) d.count larger (start_of (convert L)) (fresh_mem replies log) d.place r.mem r.status d.same stop x;
    }

-- ## Of an accepted file

pub demand3_file : Demand3File
demand3_file f n e replies log =
    let a = admitted f n e in
    let l : length (ops f) ≡ n = ops-length f ∙ a.counted in (
      λ s i m g. subst (λ (k : ℕ). Follows k (ops f) replies log s i m) l (demand3 (ops f) a.allowed replies log s i m g),
      λ b h. subst (λ (k : ℕ). RunFollows k (ops f) replies log (runs (ops f) replies log b)) l (demand3_run (ops f) a.allowed replies log b h),
    )

-- ## At work: the 5 steps of the paper's 36-record case are 14 of its base

abbrev pub start36 : Mem
start36 = fresh_mem (1 ∷ 1 ∷ []) (7 ∷ 7 ∷ 7 ∷ 7 ∷ 7 ∷ [])

pub five : after there_and_back 5 (start_of there_and_back) start36
    ≡ go 0 (record { stack = fresh; replies = 1 ∷ 1 ∷ []; used = 2; log = 2 ∷ 0 ∷ 1 ∷ 0 ∷ 7 ∷ []; logged = 2 })
unfolding computes after and_then
five = refl

pub allowed36 : skip there_and_back ≡ 0
unfolding computes
allowed36 = refl

pub fourteen : (demand3 there_and_back allowed36 _ _ 5 _ _ five).count ≡ 14
unfolding computes demand3 costed cost_at cost_of cost link_cost
fourteen = refl

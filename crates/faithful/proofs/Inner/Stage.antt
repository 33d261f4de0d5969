-- What a stage that lays groups does: if every record stays or turns into a group of the known forms, then what is laid simulates what
-- was given, and may stand before the next stage. From the laws of places, of reading and of the chain. Nothing is asked of the nesting:
-- a partner that is not there is not there in what is laid either.
use mathlib.Core.Path.{◌≡◌, refl, sym, ap, ◌∙◌, subst}
use Prim.Native.Nat.{◌≤◌}
use native.Mathlib.Nat.{zero-add}
use native.Mathlib.Omega.{arith}
use lib.Dec.{leb→le}
use Rattle.std.specs.Prelude.{◌+◌, ◌∷◌, ◌++◌}
use Rattle.rules.specs.Words.{ℕ, zero, suc, Bool, true, false, None, Some, List, [], map, length, slice_get}
use Rattle.rules.specs.Instruction.{Act, Sort, conditional, loop, Op, act, test, jump, label, goto, goto2, header, separator, end, call, return}
use Rattle.rules.specs.Numbers.{at, each, given, past, move_to}
use Rattle.rules.specs.Nesting.{bracket}
use Rattle.rules.specs.Skip.{plain_test}
use Rattle.rules.specs.Partners.{Role, opens, parts, ends, other, role_of, role, stop_at, stop_from, end_of, arm_of, header_of}
use Rattle.rules.specs.SecondLevel.{Group, members, renumber, sent, laid, removed}
use Rattle.rules.specs.Stack.{top}
use Rattle.rules.specs.Step.{deed, Mem, Out, go, halt, leaving, does}
use Rattle.rules.specs.Run.{start_of}
use Rattle.laws.proofs.Records.{at-get_or, at_none}
use Rattle.laws.proofs.SecondLevel.{each-length}
use Rattle.laws.proofs.Partners.{back_at, back}
use Rattle.rules.proofs.Computes.{computes}
use Rattle.faithful.proofs.Inner.Places.{clash, in_or_out, over, over_suc, ahead, ahead_out, place, move_out, move_place, move_renumber}
use Rattle.faithful.proofs.Inner.Simulation.{Sim, simulated, Meets, cost, link_cost, asked, leapt, jumped, opened, called}
use Rattle.faithful.proofs.Inner.Reading.{From, whole, next, from_at, from_length, from_of, from_over, sent_on, stop_body, end_of_lem, arm_of_lem, back_one, back_body, header_of_lem}
use Rattle.faithful.proofs.Inner.Chain.{Arrives, chain_runs}
use Rattle.faithful.proofs.Inner.Turns.{sort_rank, rank, Calm, Good, Turns, keeps, leaps, forks, calls, returns, turn-single, Reads, same, nothing_of, turn-reads, turn_good}

-- What a stage gives: a simulation, a list that may stand before the next stage, and the same beginning.
pub record Staged (k : ℕ) (L L' : List Op) (P : ℕ → ℕ) : Type 0 where
  pub sim : Sim L L' P
  pub good : Good k L'
  pub starts : start_of L' ≡ P (start_of L)

over_sent : (to : ℕ → ℕ) (xs : List Op) (q : ℕ) → over (map (sent to) xs) q ≡ over xs q
over_sent to [] q = refl
over_sent to (x ∷ xs) q = over_sent to xs (suc q)

is_plain : (v : Bool) (a : Act) → plain_test (test v a) ≡ true
unfolding computes
is_plain true a = refl
is_plain false a = refl

back_sent : (P : ℕ → ℕ) (r : Role) (d k : ℕ) (on on' : ℕ → ℕ) → ((e : ℕ) → on' e ≡ P (on e)) → back_at r d (P k) on' ≡ P (back_at r d k on)
unfolding back_at
back_sent P opens zero k on on' h = refl
back_sent P opens (suc d) k on on' h = h d
back_sent P parts d k on on' h = h d
back_sent P ends d k on on' h = h (suc d)
back_sent P other d k on on' h = h d

back_other : (d k : ℕ) (r : Role) (on : ℕ → ℕ) → r ≡ other → on d ≡ back_at r d (suc k) on
unfolding back_at
back_other d k r on e = ap (λ (x : Role). back_at x d (suc k) on) (sym e)

module _ (k : ℕ) (small : k ≤ 2) (f : ℕ → Op → Group) (L : List Op) (good : Good (suc k) L)
    (turns : (i : ℕ) (o : Op) → rank o ≤ suc k → Turns L k i o (f i o)) where
  abbrev gs : List Group
  gs = each f 1 L

  abbrev P : ℕ → ℕ
  P = place gs

  abbrev Q : ℕ → ℕ
  Q = renumber gs

  abbrev L' : List Op
  L' = laid Q gs

  -- What is laid for record j + 1, what is laid from there on, and how many records stand before it.
  abbrev group : ℕ → Op → List Op
  group j o = map (sent Q) (members (f (suc j) o))

  abbrev laid_from : ℕ → List Op → List Op
  laid_from j os = laid Q (each f (suc j) os)

  abbrev pre : ℕ → ℕ
  pre = ahead 0 gs

  good_from : {j : ℕ} {os : List Op} → From L j os → Good (suc k) os
  good_from whole = good
  good_from (next t) = (good_from t).2

  turn : {j : ℕ} {o : Op} {os : List Op} → From L j (o ∷ os) → Turns L k (suc j) o (f (suc j) o)
  turn {j} {o} t = turns (suc j) o (good_from t).0

  width : {j : ℕ} {o : Op} {os : List Op} → From L j (o ∷ os) → pre (suc j) ≡ over (group j o) (pre j)
  unfolding each at
  width {j} {o} t = by 0 1 L j (from_at t) ∙ ap (λ (i : ℕ). over (members (f i o)) (pre j)) (omega arith) ∙ sym (over_sent Q (members (f (suc j) o)) (pre j))
    where
      by : (q p : ℕ) (M : List Op) (j : ℕ) → slice_get M j ≡ Some o → ahead q (each f p M) (suc j) ≡ over (members (f (j + p) o)) (ahead q (each f p M) j)
      by q p [] j e = clash cc
      by q p (x ∷ M) zero e = let h : x ≡ o = cc in rw (zero-add p, h)
      by q p (x ∷ M) (suc j) e =
          let q' = over (members (f p x)) q in
          by q' (suc p) M j e ∙ ap (λ (i : ℕ). over (members (f i o)) (ahead q' (each f (suc p) M) j)) (omega arith)

  along : {j : ℕ} {os : List Op} → From L j os → From L' (pre j) (laid_from j os)
  unfolding laid each
  along whole = whole
  along (next {k = j} {o = o} t) = rw (width t) (from_over (group j o) (along t))

  goes : (t : ℕ) → move_to (length L') (P t) ≡ P (move_to (length L) t)
  goes t = subst (λ (n : ℕ). move_to (length L') (P t) ≡ P (move_to n t)) (each-length f 1 L) (move_place Q gs t)

  jumps : (t : ℕ) → move_to (length L') (Q t) ≡ P (move_to (length L) t)
  jumps t = subst (λ (n : ℕ). move_to (length L') (Q t) ≡ P (move_to n t)) (each-length f 1 L) (move_renumber Q gs t)

  to : (t' t : ℕ) → t' ≡ P t → move_to (length L') t' ≡ P (move_to (length L) t)
  to t' t e = ap (move_to (length L')) e ∙ goes t

  -- ## Searches, there and here

  module _ (b : Sort) (kept : sort_rank b ≤ k) where
    to_right : (w : Bool) {j : ℕ} (os : List Op) → From L j os → (d : ℕ) → past (stop_from w b d (P (suc j)) (laid_from j os)) ≡ P (past (stop_from w b d (suc j) os))
    unfolding stop_from stop_at laid each past given
    to_right w [] t d = refl
    to_right w {j} (o ∷ os) t d = by (group j o) (turn-reads b kept Q (turn t)) (width t) (to_right w os (next t))
      where
        by : (xs : List Op) → Reads b o xs → pre (suc j) ≡ over xs (pre j)
            → ((e : ℕ) → past (stop_from w b e (suc (pre (suc j))) (laid_from (suc j) os)) ≡ P (past (stop_from w b e (suc (suc j)) os)))
            → past (stop_from w b d (suc (pre j)) (xs ++ laid_from (suc j) os)) ≡ P (past (stop_at w (role b o) d (suc j) (λ e. stop_from w b e (suc (suc j)) os)))
        by xs (same r) h ih = rw r (sent_on w P refl (role b o) d (suc j) (suc (pre j)) _ _ (ap suc (sym h)) (λ e. rw h at (ih e)))
        by xs (nothing_of r y) h ih =
            ap past (stop_body w b y d (suc (pre j)) (laid_from (suc j) os))
            ∙ ap (λ (q : ℕ). past (stop_from w b d q (laid_from (suc j) os))) (over_suc xs (pre j) ∙ ap suc (sym h))
            ∙ ih d
            ∙ ap (λ (q : ℕ). P (past q)) (sym (ap (λ (x : Role). stop_at w x d (suc j) (λ e. stop_from w b e (suc (suc j)) os)) r))

    to_left : {j : ℕ} {os : List Op} → From L j os → (d : ℕ) → back b L' (pre j) d ≡ P (back b L j d)
    unfolding back laid each
    to_left whole d = refl
    to_left (next {k = j} {o = o} {os = os} t) d =
        ap (λ (q : ℕ). back b L' q d) (width t) ∙ by (group j o) (turn-reads b kept Q (turn t)) (along t) (λ e. to_left t e) ∙ ap P (sym (back_one b t d))
      where
        by : (xs : List Op) → Reads b o xs → From L' (pre j) (xs ++ laid_from (suc j) os) → ((e : ℕ) → back b L' (pre j) e ≡ P (back b L j e))
            → back b L' (over xs (pre j)) d ≡ P (back_at (role b o) d (suc j) (λ e. back b L j e))
        by xs (same r) u ih = back_one b u d ∙ rw r (back_sent P (role b o) d (suc j) (λ e. back b L j e) (λ e. back b L' (pre j) e) ih)
        by xs (nothing_of r y) u ih = back_body b (laid_from (suc j) os) y u d ∙ ih d ∙ ap P (back_other d j (role b o) (λ e. back b L j e) r)

  -- ## Partners, there and here

  -- Record j + 1, which is o, and the one record x that is its group.
  record One (j : ℕ) (o : Op) (os : List Op) (x : Op) : Type 0 where
    there : From L j (o ∷ os)
    here : From L' (pre j) (x ∷ laid_from (suc j) os)
    wide : pre (suc j) ≡ suc (pre j)

  module _ {j : ℕ} {o : Op} {os : List Op} {x : Op} (u : One j o os x) where
    onward : move_to (length L') (suc (suc (pre j))) ≡ P (move_to (length L) (suc (suc j)))
    onward = to _ (suc (suc j)) (ap suc (sym u.wide))

    after_end : (b : Sort) → sort_rank b ≤ k → past (end_of b L' (suc (pre j))) ≡ P (past (end_of b L (suc j)))
    after_end b h =
        ap past (end_of_lem u.here b ∙ ap (λ (q : ℕ). stop_from false b 0 (suc q) (laid_from (suc j) os)) (sym u.wide))
        ∙ to_right b h false os (next u.there) 0
        ∙ ap (λ (q : ℕ). P (past q)) (sym (end_of_lem u.there b))

    after_arm : 1 ≤ k → past (arm_of L' (suc (pre j))) ≡ P (past (arm_of L (suc j)))
    after_arm h =
        ap past (arm_of_lem u.here ∙ ap (λ (q : ℕ). stop_from true conditional 0 (suc q) (laid_from (suc j) os)) (sym u.wide))
        ∙ to_right conditional h true os (next u.there) 0
        ∙ ap (λ (q : ℕ). P (past q)) (sym (arm_of_lem u.there))

    its_header : (b : Sort) → sort_rank b ≤ k → role b o ≡ ends → role b x ≡ ends → header_of b L' (suc (pre j)) ≡ P (header_of b L (suc j))
    its_header b h e e' = header_of_lem u.here b e' ∙ to_left b h u.there 0 ∙ ap P (sym (header_of_lem u.there b e))

  -- ## Each record is done by its group

  abbrev Ok : ℕ → Op → Mem → Type 0
  Ok j o m = Meets L' P (suc (pre j)) m (cost (length L) o m) (does (length L) (deed L (suc j) o) m)

  skipping : {j : ℕ} {o : Op} (os : List Op) {x : Op} → One j o os x → Calm true os
      → move_to (length L') (suc (suc (suc (pre j)))) ≡ P (move_to (length L) (suc (suc (suc j))))
  unfolding laid each
  skipping {j} [] u c =
      let w = u.wide in
      move_out (length L') (suc (suc (suc (pre j)))) (omega (arith, from_length (along (next u.there))))
      ∙ ap P (sym (move_out (length L) (suc (suc (suc j))) (omega (arith, from_length u.there))))
  skipping {j} (x ∷ os) u c =
      let s = turn-single Q (turn (next u.there)) c in
      let w : pre (suc (suc j)) ≡ suc (pre (suc j)) = width (next u.there) ∙ ap (λ (xs : List Op). over xs (pre (suc j))) s.1 in
      to _ (suc (suc (suc j))) (ap (λ (q : ℕ). suc (suc q)) (sym u.wide) ∙ ap suc (sym w))

  keep : {j : ℕ} (o : Op) {os : List Op} → rank o ≤ k → One j o os (sent Q o) → (m : Mem) → Ok j o m
  unfolding sent deed does cost role role_of bracket
  keep {j} (act a) r u m = asked L' (length L) P (suc (pre j)) m (act a) a true _ _ _ _ (from_at u.here) refl (onward u) (onward u)
  keep {j} (test v a) {os} r u m =
      let c = subst (λ (b : Bool). Calm b os) (is_plain v a) (good_from u.there).1 in
      asked L' (length L) P (suc (pre j)) m (test v a) a v _ _ _ _ (from_at u.here) refl (onward u) (skipping os u c)
  keep {j} (jump x) r u m = jumped L' (length L) P (suc (pre j)) m x (Q x) (from_at u.here) (jumps x)
  keep (label s) r u m = absurd (omega arith)
  keep (goto s) r u m = absurd (omega arith)
  keep (goto2 s t) r u m = absurd (omega arith)
  keep {j} (header conditional v a) r u m =
      asked L' (length L) P (suc (pre j)) m (header conditional v a) a v _ _ _ _ (from_at u.here) refl (onward u) (to _ _ (after_arm u r))
  keep {j} (header loop v a) r u m =
      asked L' (length L) P (suc (pre j)) m (header loop v a) a v _ _ _ _ (from_at u.here) refl (onward u) (to _ _ (after_end u loop r))
  keep {j} separator r u m = leapt L' (length L) P (suc (pre j)) m separator _ _ (from_at u.here) refl (to _ _ (after_end u conditional r))
  keep {j} (end conditional) r u m =
      leapt L' (length L) P (suc (pre j)) m (end conditional) _ _ (from_at u.here) refl (onward u)
  keep {j} (end loop) r u m = leapt L' (length L) P (suc (pre j)) m (end loop) _ _ (from_at u.here) refl (to _ _ (its_header u loop r refl refl))
  keep (call x) r u m = absurd (omega arith)
  keep return r u m = absurd (omega arith)

  done : {j : ℕ} {o : Op} {os : List Op} (g : Group) → Turns L k (suc j) o g → From L j (o ∷ os)
      → From L' (pre j) (map (sent Q) (members g) ++ laid_from (suc j) os) → pre (suc j) ≡ over (map (sent Q) (members g)) (pre j) → (m : Mem) → Ok j o m
  unfolding members sent deed does cost
  done g (keeps {o = o} r) t t' w m = keep o (leb→le (rank o) k r) (record { there = t; here = t'; wide = w }) m
  done {j} g (leaps {x = x} d c ot) t t' w m = rw (c (length L) m, d) (jumped L' (length L) P (suc (pre j)) m x (Q x) (from_at t') (jumps x))
  done {j} g (forks {v = v} {a = a} {x = x} r d) t t' w m =
      rw d (opened L' (length L) P (suc (pre j)) m a v _ x _ (from_at t') (from_at (next t')) (to _ (suc (suc j)) (ap suc (sym w))) (jumps x))
  done {j} g (calls {x = x}) t t' w m = called L' (length L) P (suc (pre j)) m _ x _ (from_at t') (from_at (next t')) (jumps x)
  done {j} {os} g (returns r) t t' w m =
      by (leaving (length L) (top m.stack) m) (chain_runs L' (length L) P Q jumps (length L) (omega arith) (pre j) (laid_from (suc j) os) t' m)
    where
      c : ℕ
      c = link_cost (length L) (top m.stack)

      by : (x : Out) → Arrives L' (length L) P Q jumps (suc (pre j)) m c x → Meets L' P (suc (pre j)) m c x
      by (go p m₁) a = a
      by (halt s) a = absurd a

  sim : Sim L L' P
  unfolding at laid each
  sim = simulated L L' P met gone
    where
      met : (i : ℕ) (o : Op) → at L i ≡ Some o → (m : Mem) → Meets L' P (P i) m (cost (length L) o m) (does (length L) (deed L i o) m)
      met zero o e m = clash cc
      met (suc j) o e m = let t = (from_of L j o e).1 in done (f (suc j) o) (turn t) t (along t) (width t) m

      gone : (i : ℕ) → at L i ≡ None → at L' (P i) ≡ None
      gone zero e = refl
      gone (suc j) e = in_or_out (length L) (suc j)
          (λ h. let q = at-get_or L j (jump 0) h in clash cc)
          (λ h. at_none L' (suc (pre j)) (omega (arith, ahead_out Q 0 j gs (omega (arith, each-length f 1 L)))))

  -- ## What is left may stand

  calm_laid : (b : Bool) (p : ℕ) (os : List Op) → Good (suc k) os → Calm b os → Calm b (laid Q (each f p os))
  unfolding laid each
  calm_laid false p os g c = tt
  calm_laid true p [] g c = tt
  calm_laid true p (o ∷ os) g c =
      let s = turn-single Q (turns p o g.0) c in
      subst (λ (xs : List Op). Calm true (xs ++ laid Q (each f (suc p) os))) (sym s.1) s.2

  good_laid : (p : ℕ) (os : List Op) → Good (suc k) os → Good k (laid Q (each f p os))
  unfolding laid each
  good_laid p [] g = tt
  good_laid p (o ∷ os) g = turn_good Q (turns p o g.0) _ (calm_laid (plain_test o) (suc p) os g.2 g.1) (good_laid (suc p) os g.2)

  pub staged : Staged k L (removed gs) P
  unfolding removed start_of
  staged = record { sim = sim; good = good_laid 1 L good; starts = goes 1 }

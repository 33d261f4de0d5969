-- The deeds of the code are those of the definitions, kind by kind.
use mathlib.Core.Path.{◌≡◌, refl, sym, ap, ◌∙◌}
use Prim.Native.Nat.{ℕ, zero, suc, ◌+◌, ◌-◌, ◌≤◌}
use native.Mathlib.Omega.{arith}
use native.Mathlib.Numerals.{add-one}
use mathlib.Core.Bool.{Bool, true, false, cond}
use Rattle.std.specs.Prelude.{Option, None, Some}
use mathlib.Core.List.{List}
use lib.ListN.{get_or}
use lib.Dec.{eqb}
use Rattle.rules.specs.Record.{Rec, rec, count}
use Rattle.rules.specs.Numbers.{at, past, names, move_to}
use Rattle.rules.specs.Instruction.{outside, push, pop, compare, loop, act_of, Op, written, decode, ops}
use Rattle.rules.specs.Partners.{end_of, arm_of}
use Rattle.rules.specs.Stack.{popped, top}
use Rattle.rules.specs.Step.{Mem, Out, go, halt, with_stack, Acted, did, stops, perform, agree, branch, leaving, does, deed, ask, step_at, step}
use Rattle.laws.proofs.Records.{ops-length, ops-at}
use Rattle.records.specs.Reading.{rec_at}
use Rattle.records.proofs.Reading.{rec_at_lem}
use Rattle.stack.proofs.Moves.{move_named}
use Rattle.ways.specs.Places.{places, place_for, place_at}
use Rattle.deeds.specs.declared.Own.TheVariants.{Push, Pop}
use Rattle.deeds.specs.declared.Deed.{Deed}
use Rattle.deeds.specs.declared.Deed.TheVariants.{Leap, Ask, Change, Compare}
use Rattle.deeds.specs.Deeds.{asking, rows, place_in, deed_of}
use Rattle.steps.specs.Steps.{done}

-- A move to any number outside 1..n sets 0.
unfoldable pub landed : ℕ → Out → Out
landed n (go k m) = go (move_to n k) m
landed n (halt w) = halt w

module _ (n : ℕ) (m : Mem) where
  land_branch : (v : Bool) (t f : ℕ) (r : Acted) → branch v (move_to n t) (move_to n f) r ≡ landed n (branch v t f r)
  unfolding branch landed
  land_branch v t f (did b m') = by (agree v b)
    where
      by : (a : Bool) → go (cond a (move_to n t) (move_to n f)) m' ≡ landed n (go (cond a t f) m')
      by true = refl
      by false = refl
  land_branch v t f (stops w) = refl

  -- On the other sign yes and no are exchanged.
  exchanged : (t f : ℕ) (r : Acted) → branch false t f r ≡ branch true f t r
  unfolding branch agree
  exchanged t f (did true m') = refl
  exchanged t f (did false m') = refl
  exchanged t f (stops w) = refl

  returned : (o : Option ℕ) → leaving n o m ≡ landed n (leaving n o m)
  unfolding leaving landed move_to names
  returned None = refl
  returned (Some t) = by (names n t) refl
    where
      by : (b : Bool) → names n t ≡ b
          → cond b (go t (with_stack (popped m.stack) m)) (go 0 m) ≡ landed n (cond b (go t (with_stack (popped m.stack) m)) (go 0 m))
      by true e = ap (λ k. go k (with_stack (popped m.stack) m)) (sym (move_named n t e))
      by false e = refl

  module _ (x y : ℕ) where
    asked : (t f : ℕ) → branch true t f (perform (act_of x y) m) ≡ done n (asking x y t f) m
    unfolding act_of asking done
    asked t f = by (eqb x 1001) (eqb x 1002) (eqb x 1003)
      where
        by : (a b c : Bool)
            → branch true t f (perform (cond a (push y) (cond b pop (cond c (compare y) (outside x)))) m)
            ≡ done n (cond a (Change (Push y) t f) (cond b (Change Pop t f) (cond c (Compare y t f) (Ask x t f)))) m
        by true b c = refl
        by false true c = refl
        by false false true = refl
        by false false false = refl

    -- With places t' and f' to which a move is the same.
    plus : (t f t' f' : ℕ) → move_to n t' ≡ move_to n t → move_to n f' ≡ move_to n f → does n (ask (act_of x y) true t f) m ≡ landed n (done n (asking x y t' f') m)
    unfolding does
    plus t f t' f' p q = rw (← p, ← q) (land_branch true t' f' (perform (act_of x y) m) ∙ ap (landed n) (asked t' f'))

    minus : (t f t' f' : ℕ) → move_to n t' ≡ move_to n t → move_to n f' ≡ move_to n f → does n (ask (act_of x y) false t f) m ≡ landed n (done n (asking x y f' t') m)
    unfolding does
    minus t f t' f' p q =
        rw (← p, ← q)
        (exchanged (move_to n t') (move_to n f') (perform (act_of x y) m) ∙ land_branch true f' t' (perform (act_of x y) m) ∙ ap (landed n) (asked f' t'))

    -- Record i of L, where it leads by p as it should.
    module _ (L : List Op) (i p : ℕ) where
      pub kinds : (k : ℕ) → move_to n p ≡ move_to n (place_for L i k x y)
          → does n (deed L i (decode (rec k x y))) m ≡ landed n (done n (get_or (rows i (suc i) x y p) k (Leap 0)) m)
      unfolding decode written deed does done landed place_for places rows move_to names
      kinds zero e = refl
      kinds (suc zero) e = plus (suc i) (suc i) (suc i) (suc i) refl refl
      kinds (suc (suc zero)) e = plus (suc i) (suc (suc i)) (suc i) (suc (suc i)) refl refl
      kinds (suc (suc (suc zero))) e = minus (suc i) (suc (suc i)) (suc i) (suc (suc i)) refl refl
      kinds (suc (suc (suc (suc zero)))) e = refl
      kinds (suc (suc (suc (suc (suc zero))))) e = refl
      kinds (suc (suc (suc (suc (suc (suc zero)))))) e = ap (λ k. go k m) (sym e)
      kinds (suc (suc (suc (suc (suc (suc (suc zero))))))) e = ap (λ k. go k m) (sym e)
      kinds (suc (suc (suc (suc (suc (suc (suc (suc zero)))))))) e = plus (suc i) (past (arm_of L i)) (suc i) p refl e
      kinds (suc (suc (suc (suc (suc (suc (suc (suc (suc zero))))))))) e = minus (suc i) (past (arm_of L i)) (suc i) p refl e
      kinds (suc (suc (suc (suc (suc (suc (suc (suc (suc (suc zero)))))))))) e = ap (λ k. go k m) (sym e)
      kinds (suc (suc (suc (suc (suc (suc (suc (suc (suc (suc (suc zero))))))))))) e = refl
      kinds (suc (suc (suc (suc (suc (suc (suc (suc (suc (suc (suc (suc zero)))))))))))) e = plus (suc i) (past (end_of loop L i)) (suc i) p refl e
      kinds (suc (suc (suc (suc (suc (suc (suc (suc (suc (suc (suc (suc (suc zero))))))))))))) e = minus (suc i) (past (end_of loop L i)) (suc i) p refl e
      kinds (suc (suc (suc (suc (suc (suc (suc (suc (suc (suc (suc (suc (suc (suc zero)))))))))))))) e = ap (λ k. go k m) (sym e)
      kinds (suc (suc (suc (suc (suc (suc (suc (suc (suc (suc (suc (suc (suc (suc (suc zero))))))))))))))) e = land_branch true x x (perform (push (suc i)) m)
      kinds (suc (suc (suc (suc (suc (suc (suc (suc (suc (suc (suc (suc (suc (suc (suc (suc zero)))))))))))))))) e = returned (top m.stack)
      kinds (suc (suc (suc (suc (suc (suc (suc (suc (suc (suc (suc (suc (suc (suc (suc (suc (suc k))))))))))))))))) e = refl

-- The step at position i of the file, by the table of places.
pub stands : (s ps : List ℕ) (i : ℕ) → 1 ≤ i → i ≤ count s → move_to (count s) (place_in ps i) ≡ move_to (count s) (place_at s i)
    → (d : Deed) → d ≡ deed_of s ps i (i + 1) (rec_at s i).kind → (m : Mem) → step (ops s) i m ≡ landed (count s) (done (count s) d m)
unfolding step step_at deed_of place_at
stands s ps i l h e d f m =
    let z : i ≡ suc (i - 1) = omega arith in
    let r = rec_at_lem s i (λ q. omega arith) h in
    let q : at (ops s) i ≡ Some (decode (rec_at s i)) = ap (at (ops s)) z ∙ ops-at s (i - 1) (omega arith) ∙ ap (λ (o : Rec). Some (decode o)) (sym r) in
    rw (q, ops-length s, f, add-one) (kinds (count s) m (rec_at s i).x (rec_at s i).y (ops s) i (place_in ps i) (rec_at s i).kind e)

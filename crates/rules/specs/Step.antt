-- What one step does, in a routine and in a base.
use Rattle.std.specs.Prelude.{◌+◌, ◌-◌, ◌*◌}
use Rattle.rules.specs.Words.{ℕ, suc, Bool, true, not, cond, Option, None, Some, List, length, get_or, set, eqb, leb, ltb}
use Rattle.rules.specs.declared.Stack.{Stack}
use Rattle.rules.specs.declared.Status.{Status}
use Rattle.rules.specs.declared.Status.TheVariants.{Ended, NoReply, LogFull, StackFull}
use Rattle.rules.specs.Numbers.{at, or_zero, past, names, move_to}
use Rattle.rules.specs.Record.{low_byte, high_byte}
use Rattle.rules.specs.Instruction.{Act, outside, push, pop, compare, conditional, loop, Op, act, test, jump, label, goto, goto2, header, separator, end, call, return}
use Rattle.rules.specs.Labels.{target, target2}
use Rattle.rules.specs.Partners.{end_of, arm_of, header_of}
use Rattle.rules.specs.Stack.{full, pushed, popped, top, nonempty, equals}

-- ## What each record does, with its numbers worked out

pub data Deed : Type 0 where
  ask : Act → Bool → ℕ → ℕ → Deed  -- do the action; on the reply that the Bool says, to the first number, else to the second
  leap : ℕ → Deed  -- go there
  enter : ℕ → ℕ → Deed  -- push the first number, go to the second
  leave : Deed  -- back to the number on top of the stack

-- Record i of L. The paper's list, one line for each form: do a, go to i+1; on yes i+1, on no i+2; to k; i+1; to the target, or end;
-- past the separator, or past the end where there is none, or past the loop end; past its end; i+1; to the loop header; push i+1, go to
-- k; back to the top.
unfoldable pub deed : List Op → ℕ → Op → Deed
deed L i (act a) = ask a true (suc i) (suc i)
deed L i (test v a) = ask a v (suc i) (suc (suc i))
deed L i (jump k) = leap k
deed L i (label s) = leap (suc i)
deed L i (goto s) = leap (or_zero (target L s))
deed L i (goto2 s t) = leap (or_zero (target2 L s t))
deed L i (header conditional v a) = ask a v (suc i) (past (arm_of L i))
deed L i (header loop v a) = ask a v (suc i) (past (end_of loop L i))
deed L i separator = leap (past (end_of conditional L i))
deed L i (end conditional) = leap (suc i)
deed L i (end loop) = leap (header_of loop L i)
deed L i (call k) = enter (suc i) k
deed L i return = leave

-- ## What the deeds work on

-- The counter stack; the replies as lent, and how many are used; the log as lent, and how many actions are logged in it.
pub record Mem : Type 0 where
  pub stack : Stack
  pub replies : List ℕ
  pub used : ℕ
  pub log : List ℕ
  pub logged : ℕ

unfoldable pub with_stack : Stack → Mem → Mem
with_stack s m = record { stack = s; replies = m.replies; used = m.used; log = m.log; logged = m.logged }

-- An outside action uses one reply, and logs its number in two bytes, low first.
unfoldable pub logging : ℕ → Mem → Mem
logging a m = record {
  stack = m.stack;
  replies = m.replies;
  used = suc m.used;
  log = set (set m.log (2 * m.logged) (low_byte a)) (2 * m.logged + 1) (high_byte a);
  logged = suc m.logged;
}

-- A reply is 0 no, 1 yes.
unfoldable pub reply : Mem → Bool
reply m = eqb (get_or m.replies m.used 0) 1

unfoldable pub no_reply_left : Mem → Bool
no_reply_left m = leb (length m.replies) m.used

-- A log with under two bytes left is full.
unfoldable pub log_is_full : Mem → Bool
log_is_full m = ltb (length m.log - 2 * m.logged) 2

-- ## Doing an action: a reply, or a stop before it

pub data Acted : Type 0 where
  did : Bool → Mem → Acted
  stops : Status → Acted

-- An outside action stops with 2, no reply left, then 3, log full. Push replies yes, or stops with 4, stack full; pop replies no on
-- empty, else yes; compare replies yes exactly if not empty and the top equals y, and keeps it. These three use no outside reply and
-- aren't logged.
unfoldable pub perform : Act → Mem → Acted
perform (outside a) m = cond (no_reply_left m) (stops NoReply) (cond (log_is_full m) (stops LogFull) (did (reply m) (logging a m)))
perform (push y) m = cond (full m.stack) (stops StackFull) (did true (with_stack (pushed y m.stack) m))
perform pop m = did (nonempty (top m.stack)) (with_stack (popped m.stack) m)
perform (compare y) m = did (equals (top m.stack) y) m

-- ## One step: to a position with what is then there, or a stop before it

pub data Out : Type 0 where
  go : ℕ → Mem → Out
  halt : Status → Out

-- The reply is the one the sign asks for.
unfoldable pub agree : Bool → Bool → Bool
agree v r = cond v r (not r)

unfoldable pub branch : Bool → ℕ → ℕ → Acted → Out
branch v t f (did r m) = go (cond (agree v r) t f) m
branch v t f (stops s) = halt s

-- ##R: if the stack is not empty and its top t is in 1..n, pop and go to t; otherwise end, stack kept.
unfoldable pub leaving : ℕ → Option ℕ → Mem → Out
leaving n None m = go 0 m
leaving n (Some t) m = cond (names n t) (go t (with_stack (popped m.stack) m)) (go 0 m)

unfoldable pub does : ℕ → Deed → Mem → Out
does n (ask a v t f) m = branch v (move_to n t) (move_to n f) (perform a m)
does n (leap k) m = go (move_to n k) m
does n (enter r k) m = branch true (move_to n k) (move_to n k) (perform (push r) m)
does n leave m = leaving n (top m.stack) m

unfoldable pub step_at : List Op → ℕ → Option Op → Mem → Out
step_at L i None m = halt Ended
step_at L i (Some o) m = does (length L) (deed L i o) m

-- The step of the routine or base L at position i. Position 0 means ended.
unfoldable pub step : List Op → ℕ → Mem → Out
step L i m = step_at L i (at L i) m

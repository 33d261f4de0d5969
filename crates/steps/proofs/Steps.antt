-- What each deed comes to, by the tests that the code makes.
use mathlib.Core.Path.{◌≡◌, refl}
use Prim.Native.Nat.{ℕ, ◌+◌, ◌-◌, ◌*◌, ◌/◌, ◌≤◌, ◌<◌}
use native.Mathlib.Omega.{arith}
use native.Mathlib.Numerals.{add-one}
use mathlib.Core.Bool.{Bool, true, false, cond}
use Rattle.std.specs.Prelude.{Option, None, Some, Err}
use mathlib.Core.List.{List}
use lib.ListN.{length, get_or, set}
use lib.Dec.{eqb}
use borrow.Author.Tests.{le-leb, lt-leb, lt-ltb, le-ltb, eq-eqb, ne_eqb}
use Rattle.rules.specs.declared.Stack.{Stack}
use Rattle.rules.specs.declared.Status.TheVariants.{NoReply, LogFull, StackFull}
use Rattle.rules.specs.Record.{low_byte, high_byte}
use Rattle.rules.specs.Numbers.{names}
use Rattle.rules.specs.Stack.{full, pushed, without, popped, top, nonempty, equals}
use Rattle.rules.specs.Step.{Mem, with_stack, go, did, stops, logging, reply, no_reply_left, log_is_full, perform, agree, branch, leaving}
use Rattle.stack.specs.declared.StackReply.TheVariants.{Yes, Full}
use Rattle.stack.specs.declared.Handed.{Handed}
use Rattle.stack.specs.Methods.{said, handed, pushing, popping, comparing}
use Rattle.deeds.specs.declared.Own.TheVariants.{Push, Pop}
use Rattle.deeds.specs.declared.Deed.TheVariants.{Ask, Change, Compare, Return}
use Rattle.steps.specs.Steps.{mem, done, leads, Went}

-- ## The counter stack's own

module _ (n : ℕ) (s : Stack) (replies : List ℕ) (asked : ℕ) (log : List ℕ) where
  abbrev here : Stack → Mem
  here z = mem z replies asked log

  -- What push, pop and compare hand back, and where the reply leads.
  pub pushes : (y t f : ℕ) {h : Handed} → h ≡ pushing s y → Went (done n (Change (Push y) t f) (here s)) (here s) (leads h.reply t f) (here h.stack)
  unfolding done branch agree perform with_stack leads pushing
  pushes y t f e = rw e (by (full s))
    where
      by : (b : Bool)
          → Went (branch true t f (cond b (stops StackFull) (did true (with_stack (pushed y s) (here s))))) (here s)
          (leads (cond b (handed Full s) (handed Yes (pushed y s))).reply t f) (here (cond b (handed Full s) (handed Yes (pushed y s))).stack)
      by true = (refl, refl)
      by false = refl

  pub pops : (t f : ℕ) {h : Handed} → h ≡ popping s → Went (done n (Change Pop t f) (here s)) (here s) (leads h.reply t f) (here h.stack)
  unfolding done branch agree perform with_stack leads popping popped said nonempty
  pops t f e = rw e (by (top s))
    where
      by : (o : Option ℕ) → Went (branch true t f (did (nonempty o) (with_stack (without o s) (here s)))) (here s) (leads (said (nonempty o)) t f) (here (without o s))
      by None = refl
      by (Some x) = refl

  pub compares : (y t f : ℕ) → Went (done n (Compare y t f) (here s)) (here s) (leads (comparing s y).reply t f) (here s)
  unfolding done branch agree perform leads comparing said
  compares y t f = by (equals (top s) y)
    where
      by : (b : Bool) → Went (branch true t f (did b (here s))) (here s) (leads (said b) t f) (here s)
      by true = refl
      by false = refl

  pub leaves : {t : ℕ} → top s ≡ Some t → names n t ≡ true → done n Return (here s) ≡ go t (here (popping s).stack)
  unfolding done leaving popping with_stack
  leaves e h = rw (e, h)

  pub stays : {t : ℕ} → top s ≡ Some t → names n t ≡ false → done n Return (here s) ≡ go 0 (here s)
  unfolding done leaving
  stays e h = rw (e, h)

  pub stays_empty : top s ≡ None → done n Return (here s) ≡ go 0 (here s)
  unfolding done leaving
  stays_empty e = rw e

-- ## Outside actions

module _ (n x t f : ℕ) (s : Stack) (replies : List ℕ) (asked : ℕ) (log : List ℕ) where
  abbrev before : Mem
  before = mem s replies asked log

  pub no-reply : length replies ≤ asked → Went (done n (Ask x t f) before) before (Err NoReply) before
  unfolding done branch perform no_reply_left
  no-reply h = (rw (le-leb (length replies) asked h), refl)

  module _ (h : asked < length replies) where
    pub log-full : length log / 2 ≤ asked → Went (done n (Ask x t f) before) before (Err LogFull) before
    unfolding done branch perform no_reply_left log_is_full
    log-full q = (rw (lt-leb (length replies) asked h, lt-ltb (length log - 2 * asked) 2 (omega arith)), refl)

    module _ (q : asked < length log / 2) where
      after : Mem
      after = mem s replies (asked + 1) (set (set log (2 * asked) (low_byte x)) (2 * asked + 1) (high_byte x))

      heard : (b : Bool) → eqb (get_or replies asked 0) 1 ≡ b → done n (Ask x t f) before ≡ go (cond b t f) after
      unfolding done branch agree perform no_reply_left log_is_full reply logging after
      heard true e = rw (lt-leb (length replies) asked h, le-ltb (length log - 2 * asked) 2 (omega arith), e, add-one asked)
      heard false e = rw (lt-leb (length replies) asked h, le-ltb (length log - 2 * asked) 2 (omega arith), e, add-one asked)

      pub heard_yes : get_or replies asked 0 ≡ 1
          → done n (Ask x t f) before ≡ go t (mem s replies (asked + 1) (set (set log (2 * asked) (low_byte x)) (2 * asked + 1) (high_byte x)))
      unfolding after
      heard_yes e = heard true (eq-eqb _ _ e)

      pub heard_no : ¬ (get_or replies asked 0 ≡ 1)
          → done n (Ask x t f) before ≡ go f (mem s replies (asked + 1) (set (set log (2 * asked) (low_byte x)) (2 * asked + 1) (high_byte x)))
      unfolding after
      heard_no e = heard false (ne_eqb _ _ e)

-- What a deed of the code comes to, in the words of the step.
use Rattle.std.specs.Prelude.{◌≡◌, Result, Ok, Err}
use Rattle.rules.specs.Words.{ℕ, true, List}
use Rattle.rules.specs.declared.Stack.{Stack}
use Rattle.rules.specs.Instruction.{outside, push, pop, compare}
use Rattle.rules.specs.Stack.{top}
use Rattle.rules.specs.Step as step
use Rattle.rules.specs.Step.{Mem, go, halt, perform, branch, leaving}
use Rattle.rules.specs.declared.Status.{Status}
use Rattle.rules.specs.declared.Status.TheVariants.{StackFull}
use Rattle.stack.specs.declared.StackReply.{StackReply}
use Rattle.stack.specs.declared.StackReply.TheVariants.{Yes, No, Full}
use Rattle.deeds.specs.declared.Own.TheVariants.{Push, Pop}
use Rattle.deeds.specs.declared.Deed.{Deed}
use Rattle.deeds.specs.declared.Deed.TheVariants.{Leap, Ask, Change, Compare, Return}

-- Each outside action uses one reply and is logged once.
abbrev pub mem : Stack → List ℕ → ℕ → List ℕ → Mem
mem s replies asked log = record { stack = s; replies = replies; used = asked; log = log; logged = asked }

-- The deed in a file of n records. Positions are as the record names them: a move comes later.
unfoldable pub done : ℕ → Deed → Mem → step.Out
done n (Leap k) m = go k m
done n (Ask x t f) m = branch true t f (perform (outside x) m)
done n (Change (Push y) t f) m = branch true t f (perform (push y) m)
done n (Change Pop t f) m = branch true t f (perform pop m)
done n (Compare y t f) m = branch true t f (perform (compare y) m)
done n Return m = leaving n (top m.stack) m

-- Where the stack's reply leads.
unfoldable pub leads : StackReply → ℕ → ℕ → Result ℕ Status
leads Yes t f = Ok t
leads No t f = Ok f
leads Full t f = Err StackFull

-- What the code answers to the deed d on m, and what is there then: a stop leaves all as it was.
abbrev pub Went : step.Out → Mem → Result ℕ Status → Mem → Type 0
Went o m (Ok k) m' = o ≡ go k m'
Went o m (Err w) m' = (o ≡ halt w) × (m' ≡ m)

abbrev pub Steps : ℕ → Deed → Mem → Result ℕ Status → Mem → Type 0
Steps n d m r m' = Went (done n d m) m r m'

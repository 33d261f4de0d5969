-- What the counter stack's methods answer, on every stack.
use Rattle.rules.specs.Words.{ℕ, Bool, true, false, cond}
use Rattle.rules.specs.declared.Stack.{Stack}
use Rattle.rules.specs.Stack.{full, pushed, popped, top, nonempty, equals}
use Rattle.stack.specs.declared.StackReply.{StackReply}
use Rattle.stack.specs.declared.StackReply.TheVariants.{Yes, No, Full}
use Rattle.stack.specs.declared.Handed.{Handed}

unfoldable pub said : Bool → StackReply
said true = Yes
said false = No

abbrev pub handed : StackReply → Stack → Handed
handed r s = record { reply = r; stack = s }

unfoldable pub pushing : Stack → ℕ → Handed
pushing s y = cond (full s) (handed Full s) (handed Yes (pushed y s))

unfoldable pub popping : Stack → Handed
popping s = handed (said (nonempty (top s))) (popped s)

unfoldable pub comparing : Stack → ℕ → Handed
comparing s y = handed (said (equals (top s) y)) s

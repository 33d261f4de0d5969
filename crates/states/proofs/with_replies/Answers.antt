use Rattle.rules.specs.Refusals.{verdict_of}
use Rattle.states.specs.States.{with_replies}
use Rattle.states.proofs.States.{first_bad}
use Rattle.states.proofs.with_replies.Goals as goal

pub returns-in-Some : goal.returns-in-Some
unfolding with_replies verdict_of
returns-in-Some c = rw (c.in_ok-n.was, first_bad, ← c.bad_reply.ensures, c.in-Some.is)

pub returns-in-None : goal.returns-in-None
unfolding with_replies verdict_of
returns-in-None c = rw (c.in_ok-n.was, first_bad, ← c.bad_reply.ensures, c.in-None.is)

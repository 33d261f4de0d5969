-- The link, then the chain for j-1 in the rest, then its end. The measure is j.
use Rattle.calls.proofs.+write_chain.Given as goal

abbrev pub decreases-write_chain : goal.decreases-write_chain
decreases-write_chain l = l.j

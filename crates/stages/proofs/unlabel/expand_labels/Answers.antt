use Rattle.places.proofs.Groups.{staged-long}
use Rattle.stages.proofs.unlabel.expand_labels.Goals as goal

pub returns-then-s-gt4096 : goal.returns-then-s-gt4096
returns-then-s-gt4096 c = staged-long _ _ c.if-s-gt4096.true

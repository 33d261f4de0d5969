use Rattle.show.specs.Text.{answer}
use Rattle.show.proofs.put_answer.Goals as goal

pub returns-in-Err : goal.returns-in-Err
unfolding answer
returns-in-Err c = rw (c.in-Err.is, ← c.number_of.ensures, ← c.place_of.ensures) c.put_form-in-Err.ensures

use Prim.Native.Nat.{ℕ}
use lib.ListN.{length-replicate}
use Rattle.text.specs.Answers.{text_written}
use Rattle.print.proofs.Printing.{in_array}
use Rattle.writer.proofs.Whole.{too_short, shown}
use Rattle.writer.proofs.show.Goals as goal

pub returns-then-text-length : goal.returns-then-text-length
unfolding text_written
returns-then-text-length c = too_short (in_array 10752 (length-replicate {A = ℕ} 10752 0) c.requires c.put_text-length.ensures) _ _ c.into.ensures c.if-text-length.true

pub returns : goal.returns
unfolding text_written
returns c = shown (in_array 10752 (length-replicate {A = ℕ} 10752 0) c.requires c.put_text-length.ensures) _ c.if-text-length.false c.copy_from_slice.ensures.after

use Prim.Native.Nat.{ℕ}
use lib.ListN.{length-replicate}
use Rattle.print.proofs.Printing.{in_array}
use Rattle.listing.proofs.Printing.{too_short, shown}
use Rattle.listing.proofs.show.Goals as goal

pub returns-then-text-length : goal.returns-then-text-length
returns-then-text-length c =
    too_short (in_array 73744 (length-replicate {A = ℕ} 73744 0) c.requires c.put_listing-length.ensures) _ c.if-text-length.true

pub returns : goal.returns
returns c =
    shown (in_array 73744 (length-replicate {A = ℕ} 73744 0) c.requires c.put_listing-length.ensures) _ c.if-text-length.false c.copy_from_slice.ensures.after

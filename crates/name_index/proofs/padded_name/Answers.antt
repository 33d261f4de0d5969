use mathlib.Core.Path.{sym}
use lib.Seq.{length-take-le}
use Rattle.name_index.proofs.Bytes.{at_most_16, padded_is}
use Rattle.name_index.proofs.padded_name.Goals as goal

pub slice_bounds-name-end : goal.slice_bounds-name-end
slice_bounds-name-end c = at_most_16 _ _ c.name_at-bytes.ensures

pub slice_bounds-copy_from_slice-end : goal.slice_bounds-copy_from_slice-end
slice_bounds-copy_from_slice-end c = sym (length-take-le _ _ (at_most_16 _ _ c.name_at-bytes.ensures))

pub copy_from_slice-requires : goal.copy_from_slice-requires
copy_from_slice-requires c = length-take-le _ _ (at_most_16 _ _ c.name_at-bytes.ensures)

pub returns : goal.returns
returns c = padded_is _ _ c.name_at-bytes.ensures c.copy_from_slice.ensures.after

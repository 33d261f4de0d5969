use Rattle.listing.proofs.Room.{within}
use Rattle.list.proofs.print.Goals as goal

pub slice_bounds-text-end : goal.slice_bounds-text-end
slice_bounds-text-end g c = (within _ c.in-Ok.ensures).bounded

pub slice_bounds-write_all-end : goal.slice_bounds-write_all-end
slice_bounds-write_all-end g c = (within _ c.in-Ok.ensures).counted

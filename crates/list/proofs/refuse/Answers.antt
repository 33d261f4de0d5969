use Rattle.lines.proofs.Refused.{line-within}
use Rattle.list.proofs.refuse.Goals as goal

pub slice_bounds-line-end : goal.slice_bounds-line-end
slice_bounds-line-end g c = (line-within c.refused_line-length.ensures).bounded

pub slice_bounds-write_all-end : goal.slice_bounds-write_all-end
slice_bounds-write_all-end g c = (line-within c.refused_line-length.ensures).counted

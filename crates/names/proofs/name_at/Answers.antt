use Rattle.names.proofs.Same.{name_within, name_is}
use Rattle.names.proofs.name_at.Goals as goal

pub slice_bounds-result-end : goal.slice_bounds-result-end
slice_bounds-result-end c = let a = c.args in name_within a.s.now a.at _ _ c.min-from.ensures c.span_of-n.ensures

pub returns : goal.returns
returns c = let a = c.args in name_is a.s.now a.at _ _ c.min-from.ensures c.span_of-n.ensures

use mathlib.Core.Path.{refl, sym, ◌∙◌}
use Prim.Native.Nat.{◌+◌}
use native.Mathlib.Omega.{arith}
use Rattle.std.proofs.Common.{rules, tests}
use Rattle.std.proofs.lemmas.Iterator.{YieldsList-from_range}
use Rattle.std.proofs.lemmas.Iterator.Adapters.{option_map_id}
use Rattle.std.proofs.lemmas.Iterator.Search.{find_from_yields_List}
use Rattle.rules.specs.Record.{count}
use Rattle.labels.specs.Lost.{lost_at}
use Rattle.labels.proofs.Targets.{lowest}
use Rattle.labels.proofs.lost_goto.Goals as goal

pub returns : goal.returns
returns c =
    let s = c.args.s.now in
    sym (option_map_id _)
    ∙ find_from_yields_List (lost_at s) _ _ c.find.result c.find.ensures.ran (YieldsList-from_range 1 (count s + 1) (count s) refl (omega arith)) (λ x b q k. search (rules, tests))
    ∙ lowest s

use mathlib.Core.Path.{sym, ◌∙◌}
use mathlib.Core.Logic.{inr}
use native.Mathlib.Omega.{arith}
use Rattle.rules.specs.Instruction.{conditional, loop}
use Rattle.tables.proofs.Partners.{stops-made, headers_made}
use Rattle.ways.proofs.Ways.{ways-long, ways_are}
use Rattle.ways.proofs.fill_ways.Goals as goal

pub returns-then-s-gt512 : goal.returns-then-s-gt512
returns-then-s-gt512 c = sym (ways-long _ _ _ _ c.if-s-gt512.true)

pub returns-then-not-any_bracket : goal.returns-then-not-any_bracket
returns-then-not-any_bracket c = c.put_ways.ensures ∙ sym (ways_are _ _ _ _ (omega arith))

pub put_ways-requires-2 : goal.put_ways-requires-2
put_ways-requires-2 c =
    λ k a b. inr (record {
      stopping = stops-made _ 513 (omega arith) (omega arith) conditional c.fill_stops.ensures;
      ending = stops-made _ 513 (omega arith) (omega arith) loop c.fill_stops-2.ensures;
      opening = headers_made _ 513 (omega arith) (omega arith) c.fill_headers.ensures;
    })

pub returns : goal.returns
returns c = c.put_ways-2.ensures ∙ sym (ways_are _ _ _ _ (omega arith))

-- The one number that a step needs besides its record's own fields: where a goto or a bracket leads.
use Rattle.std.specs.Prelude.{◌∷◌}
use Rattle.rules.specs.Words.{ℕ, List, [], get_or}
use Rattle.rules.specs.Numbers.{or_zero, past}
use Rattle.rules.specs.Instruction.{conditional, loop, Op, ops}
use Rattle.rules.specs.Labels.{target, target2}
use Rattle.rules.specs.Partners.{end_of, arm_of, header_of}
use Rattle.records.specs.Reading.{rec_at}

-- Of record i of L, by its kind from 0 on: a goto to its target; a header past its first arm or loop end; a separator past its end;
-- a loop end to its header. 0 for any other kind.
unfoldable pub places : List Op → ℕ → ℕ → ℕ → List ℕ
places L i x y =
    0 ∷ 0 ∷ 0 ∷ 0 ∷ 0 ∷ 0
    ∷ or_zero (target L x) ∷ or_zero (target2 L x y)
    ∷ past (arm_of L i) ∷ past (arm_of L i) ∷ past (end_of conditional L i) ∷ 0
    ∷ past (end_of loop L i) ∷ past (end_of loop L i) ∷ header_of loop L i ∷ []

unfoldable pub place_for : List Op → ℕ → ℕ → ℕ → ℕ → ℕ
place_for L i k x y = get_or (places L i x y) k 0

unfoldable pub place_at : List ℕ → ℕ → ℕ
place_at s i = place_for (ops s) i (rec_at s i).kind (rec_at s i).x (rec_at s i).y

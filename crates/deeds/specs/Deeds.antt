-- What a record does, by its kind, its fields and the place that it leads to.
use Rattle.std.specs.Prelude.{◌-◌, ◌∷◌}
use Rattle.rules.specs.Words.{ℕ, suc, cond, List, [], get_or, eqb}
use Rattle.records.specs.Reading.{rec_at}
use Rattle.deeds.specs.declared.Own.TheVariants.{Push, Pop}
use Rattle.deeds.specs.declared.Deed.{Deed}
use Rattle.deeds.specs.declared.Deed.TheVariants.{Leap, Ask, Change, Compare, Return}

-- The action x with its places on yes and on no: 1001 pushes y, 1002 pops, 1003 compares the top with y.
unfoldable pub asking : ℕ → ℕ → ℕ → ℕ → Deed
asking x y t f =
    cond (eqb x 1001) (Change (Push y) t f)
    (cond (eqb x 1002) (Change Pop t f)
    (cond (eqb x 1003) (Compare y t f) (Ask x t f)))

-- The kinds from 0 on, for record i: next is the number that a call pushes, p where a goto or a bracket leads.
unfoldable pub rows : ℕ → ℕ → ℕ → ℕ → ℕ → List Deed
rows i next x y p =
    Leap 0
    ∷ asking x y (suc i) (suc i) ∷ asking x y (suc i) (suc (suc i)) ∷ asking x y (suc (suc i)) (suc i)
    ∷ Leap x ∷ Leap (suc i) ∷ Leap p ∷ Leap p
    ∷ asking x y (suc i) p ∷ asking x y p (suc i) ∷ Leap p ∷ Leap (suc i)
    ∷ asking x y (suc i) p ∷ asking x y p (suc i) ∷ Leap p
    ∷ Change (Push next) x x ∷ Return ∷ []

-- The place of record i by the table ps, 0 where the table has none.
unfoldable pub place_in : List ℕ → ℕ → ℕ
place_in ps i = get_or ps (i - 1) 0

-- Record i of the file as one of kind k.
unfoldable pub deed_of : List ℕ → List ℕ → ℕ → ℕ → ℕ → Deed
deed_of s ps i next k = get_or (rows i next (rec_at s i).x (rec_at s i).y (place_in ps i)) k (Leap 0)

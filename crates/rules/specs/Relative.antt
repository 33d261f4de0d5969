-- Relative jumps (2.2), record by record. Every other record stays as it is.
use Rattle.std.specs.Prelude.{◌+◌, ◌-◌, ◌∷◌}
use Rattle.rules.specs.Words.{ℕ, zero, suc, cond, List, [], eqb, leb, ltb}
use Rattle.rules.specs.Numbers.{each}
use Rattle.rules.specs.Record.{Rec, rec}

-- At i, ##0 (kind 4) becomes stop (19); other ##k becomes forward k-i (17) if k ≥ i, else backward i-k (18).
unfoldable pub relative_jump : ℕ → ℕ → Rec
relative_jump i zero = rec 19 0 0
relative_jump i (suc k) = cond (leb i (suc k)) (rec 17 (suc k - i) 0) (rec 18 (i - suc k) 0)

unfoldable pub relative_at : ℕ → Rec → Rec
relative_at i r = cond (eqb r.kind 4) (relative_jump i r.x) r

unfoldable pub to_relative : List Rec → List Rec
to_relative rs = each relative_at 1 rs

-- Back: forward k becomes ##(k+i); backward k becomes ##(i-k) if k < i, else ##0; stop becomes ##0.
unfoldable pub absolute_at : ℕ → Rec → Rec
absolute_at i r =
    cond (eqb r.kind 17) (rec 4 (r.x + i) 0)
    (cond (eqb r.kind 18) (rec 4 (cond (ltb r.x i) (i - r.x) 0) 0)
    (cond (eqb r.kind 19) (rec 4 0 0) r))

unfoldable pub to_absolute : List Rec → List Rec
to_absolute rs = each absolute_at 1 rs

-- Refusal 11: relative to absolute gives a number above 9,999. The first such record from number i on: 0 if there is none.
unfoldable pub far_from : ℕ → List Rec → ℕ
far_from i [] = 0
far_from i (r ∷ rs) = let later = far_from (suc i) rs in cond (ltb 9999 (absolute_at i r).x) i later

unfoldable pub far : List Rec → ℕ
far rs = far_from 1 rs

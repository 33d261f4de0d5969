-- Records are numbered from 1. The number 0 names no record: it is the answer "there is none", and as a position it means ended.
use Rattle.std.specs.Prelude.{◌∷◌}
use Rattle.rules.specs.Words.{ℕ, zero, suc, Bool, false, cond, Option, None, Some, List, [], slice_get, leb}

-- Number i of a list.
unfoldable pub at : {A : Type 0} → List A → ℕ → Option A
at L zero = None
at L (suc i) = slice_get L i

-- f of each record and its number; the first has number i.
unfoldable pub each : {A B : Type 0} → (ℕ → A → B) → ℕ → List A → List B
each f i [] = []
each f i (o ∷ os) = f i o ∷ each f (suc i) os

-- x where k names a record, else 0.
unfoldable pub given : ℕ → ℕ → ℕ
given zero x = 0
given (suc k) x = x

-- The number that was found, 0 where none was.
unfoldable pub or_zero : Option ℕ → ℕ
or_zero None = 0
or_zero (Some k) = k

-- The number k as an answer that may be none: 0 says that there is none.
abbrev pub found : ℕ → Option ℕ
found zero = None
found (suc k) = Some (suc k)

-- The number after k, where k names a record.
unfoldable pub past : ℕ → ℕ
past k = given k (suc k)

-- k is in 1..n.
unfoldable pub names : ℕ → ℕ → Bool
names n zero = false
names n (suc k) = leb (suc k) n

-- A move to any number outside 1..n sets 0.
unfoldable pub move_to : ℕ → ℕ → ℕ
move_to n k = cond (names n k) k 0

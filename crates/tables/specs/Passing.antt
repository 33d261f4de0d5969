-- What the two tables of partners have for a record; and what passing one record does to them.
use Rattle.std.specs.Prelude.{◌≡◌, ◌≤◌, ◌-◌}
use Rattle.rules.specs.Words.{ℕ, suc, Bool, true, false, cond, List, drop, get_or, set}
use Rattle.rules.specs.Instruction.{Sort, loop, Op, ops}
use Rattle.rules.specs.Numbers.{at}
use Rattle.rules.specs.Record.{count}
use Rattle.rules.specs.Partners.{Role, opens, parts, ends, other, stop_from, end_of}
use Rattle.laws.proofs.Partners.{role_of_kind, role_at, back}
use Rattle.records.specs.Reading.{rec_at}

unfoldable pub parting : Role → Bool
parting opens = false
parting parts = true
parting ends = false
parting other = false

-- Behind record i: where the arm ends that is open there.
abbrev pub arm_from : Sort → List Op → ℕ → ℕ
arm_from b L i = stop_from true b 0 (suc i) (drop i L)

-- Of a separator its end; of any other record where the arm behind it ends.
unfoldable pub stop_of : Sort → List Op → ℕ → ℕ
stop_of b L i = cond (parting (role_at b (at L i))) (end_of b L i) (arm_from b L i)

-- The header of the item that is open before record i.
unfoldable pub open_at : Sort → List Op → ℕ → ℕ
open_at b L i = back b L (i - 1) 0

-- From the right: the end that k is, or that the separator k has in the table; the entry of record i, and then what is behind the record
-- before it. `top` is where the arm behind i ends, `end` its item's end, `out` what the table has for that end.
unfoldable pub end_by : Sort → List ℕ → List ℕ → ℕ → ℕ
end_by b s t k = cond (parting (role_of_kind b (rec_at s k).kind)) (get_or t k 0) k

unfoldable pub entry_of : Role → ℕ → ℕ → ℕ
entry_of r top end = cond (parting r) end top

unfoldable pub top_of : Role → ℕ → ℕ → ℕ → ℕ
top_of opens i top out = out
top_of parts i top out = i
top_of ends i top out = i
top_of other i top out = top

-- Record i is passed: of the table t it leaves t', and answers r.
pub record Passed (b : Sort) (s t : List ℕ) (i top r : ℕ) (t' : List ℕ) : Type 0 where
  pub behind : r ≡ top_of (role_of_kind b (rec_at s i).kind) i top (get_or t (end_by b s t top) 0)
  pub entry : t' ≡ set t i (entry_of (role_of_kind b (rec_at s i).kind) top (end_by b s t top))

-- From the left: the header that is open behind record i. `top` is the one open before it, `out` what the table has for that.
unfoldable pub head_of : Role → ℕ → ℕ → ℕ → ℕ
head_of opens i top out = i
head_of parts i top out = top
head_of ends i top out = out
head_of other i top out = top

-- A table has the stops of the records of a file, or the headers that are open before them.
pub record Stopping (b : Sort) (s t : List ℕ) : Type 0 where
  pub stops : (k : ℕ) → 1 ≤ k → k ≤ count s → get_or t k 0 ≡ stop_of b (ops s) k

pub record Opening (s t : List ℕ) : Type 0 where
  pub opened : (k : ℕ) → 1 ≤ k → k ≤ count s → get_or t k 0 ≡ open_at loop (ops s) k

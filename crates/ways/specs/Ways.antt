-- A table of places: entry k is of record k + 1.
use Rattle.std.specs.Prelude.{◌≤◌, ◌<◌, ◌&&◌}
use Rattle.rules.specs.Words.{ℕ, suc, cond, List, length, get_or, leb, ltb}
use Rattle.rules.specs.Record.{count}
use Rattle.rules.specs.Instruction.{conditional, loop}
use Rattle.laws.proofs.Instructions.{tabulate}
use Rattle.records.specs.Reading.{rec_at}
use Rattle.tables.specs.Passing.{Stopping, Opening}
use Rattle.ways.specs.Places.{place_at}

-- A move to any number outside 1..n ends, so a place beyond 512 may be 0.
unfoldable pub near : ℕ → ℕ
near k = cond (leb k 512) k 0

-- The place of record i.
abbrev pub way_of : List ℕ → ℕ → ℕ
way_of s i = near (place_at s i)

-- Of the records behind the first `from`, up to number `to`, the table has their places; its other entries are as they were. A file
-- longer than a routine may be is not looked at.
unfoldable pub entry_of : List ℕ → ℕ → ℕ → List ℕ → ℕ → ℕ
entry_of s from to t k = cond (leb from k && ltb k to) (way_of s (suc k)) (get_or t k 0)

unfoldable pub entered : List ℕ → ℕ → ℕ → List ℕ → List ℕ
entered s from to t = tabulate (entry_of s from to t) 0 (length t)

unfoldable pub ways : List ℕ → ℕ → ℕ → List ℕ → List ℕ
ways s from to t = cond (leb (count s) 512) (entered s from to t) t

-- A record that is no header, separator or end; and tables that have the partners of the others.
abbrev pub Plain : List ℕ → ℕ → Type 0
Plain s i = 8 ≤ (rec_at s i).kind → 14 < (rec_at s i).kind

pub record Partnered (s stops ends headers : List ℕ) : Type 0 where
  pub stopping : Stopping conditional s stops
  pub ending : Stopping loop s ends
  pub opening : Opening s headers

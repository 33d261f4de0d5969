-- What a translation makes of the records of a file, one by one.
use Rattle.std.specs.Prelude.{◌≡◌, ◌<◌}
use Rattle.rules.specs.Words.{ℕ}
use Rattle.rules.specs.Record.{Rec}

-- Record i is turned into f of it: `post i r q` says that q may be what r at i is turned into.
abbrev pub Turns : (ℕ → Rec → Rec → Type 0) → (ℕ → Rec → Rec) → Type 0
Turns post f = (i : ℕ) (r q : Rec) → i < 65536 → r.kind < 256 → r.x < 65536 → r.y < 65536 → post i r q → q ≡ f i r

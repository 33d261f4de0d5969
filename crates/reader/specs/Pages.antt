-- The page that the records of a text are read to, since a refused text writes nothing to the output.
use Rattle.std.specs.Prelude.{◌≡◌, ◌≤◌, ◌*◌, ◌∷◌, ◌++◌, Ok, Err}
use Rattle.rules.specs.Words.{ℕ, List, [], length, drop}
use Rattle.rules.specs.Record.{Rec, bytes_of}
use Rattle.text.specs.Answers.{TextVerdict, fits, records_read, Answered}
use Rattle.text.specs.Reading.{Reading, reads, refused}

-- The records at the start of the page, which was o, if they are no more than 512.
abbrev pub Kept : List Rec → List ℕ → List ℕ → Type 0
Kept rs o w = length rs ≤ 512 → w ≡ bytes_of rs ++ drop (8 * length rs) o

-- The record r behind any n that were kept before.
abbrev pub Keeps : ℕ → Rec → List ℕ → List ℕ → Type 0
Keeps n r w w' = (length w' ≡ length w) × ((rs : List Rec) (o : List ℕ) → length rs ≡ n → Kept rs o w → Kept (rs ++ (r ∷ [])) o w')

-- How many records, or the refusal.
abbrev pub counted : Reading → TextVerdict
counted (reads rs) = Ok (length rs)
counted (refused r) = Err r

abbrev pub Held : Reading → List ℕ → List ℕ → Type 0
Held (reads rs) o w = Kept rs o w
Held (refused r) o w = Unit {0}

pub record ReadTo (q : Reading) (o : List ℕ) (r : TextVerdict) (w : List ℕ) : Type 0 where
  pub answers : r ≡ counted q
  pub holds : Held q o w
  pub same : length w ≡ length o

-- The n records that the pass over a text left on the page are handed on as the answer to the text.
abbrev pub HandedOn : ℕ → List ℕ → List ℕ → TextVerdict → List ℕ → Type 0
HandedOn n w out r out' = (q : Reading) (o : List ℕ) → ReadTo q o (Ok n) w → Answered (fits q out) (bytes_of (records_read q)) out r out'

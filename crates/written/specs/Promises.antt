-- What is proved of the texts that are written: they are texts, and what was read comes back.
use Rattle.std.specs.Prelude.{◌≡◌, ◌≤◌, ◌<◌, ◌*◌, ◌||◌, ◌∷◌, ◌++◌, Ok}
use Rattle.rules.specs.Words.{ℕ, suc, cond, List, [], map, length, get_or, eqb, ltb}
use Rattle.rules.specs.Record.{Rec, records}
use Rattle.text.specs.Forms.{s, t, signs_of}
use Rattle.text.specs.Names.{entries}
use Rattle.text.specs.Reading.{reads, read_text}
use Rattle.text.specs.Writing.{text_of, nameless}
use Rattle.text.specs.Answers.{reading, writing, bytes_read, text_written}
use Rattle.text.specs.Grammar as grammar

-- ## What is written is in the grammar (proofs/Texts)

abbrev pub WritesTexts : Type 0
WritesTexts = (s l text : List ℕ) (n : ℕ) → writing s l text ≡ Ok n → grammar.Text (text_written s l)

-- ## Writing what was read, and reading it again (proofs/RoundTrip)

-- The records that are read from a text all have their names, and what is written for them is read as the same records. The request has
-- this for a list of distinct names; it holds for every list, since an action's number is its name's first place.
abbrev pub RecordsBack : Type 0
RecordsBack =
    (w : List ℕ) (es : List (List ℕ)) (rs : List Rec) → read_text w es ≡ reads rs
    → (nameless es rs ≡ 0) × (read_text (text_of es rs) es ≡ reads rs)

-- The text that is written for what was read from w.
abbrev pub again : List ℕ → List ℕ → List ℕ
again w l = text_written (bytes_read w l) l

-- Of a text w from which n records were read: given room, they are written, and from what is written n records are read, the same.
pub record Back (w l : List ℕ) (n : ℕ) : Type 0 where
  pub is_written : (text : List ℕ) → length (again w l) ≤ length text → writing (bytes_read w l) l text ≡ Ok (length (again w l))
  pub is_read : (out : List ℕ) → 8 * n ≤ length out → reading (again w l) l out ≡ Ok n
  pub same : bytes_read (again w l) l ≡ bytes_read w l

abbrev pub RoundTrip : Type 0
RoundTrip = (w l out : List ℕ) (n : ℕ) → reading w l out ≡ Ok n → Back w l n

-- ## Any routine, written and read (proofs/Routines)

-- No two entries are the same.
abbrev pub Distinct : List (List ℕ) → Type 0
Distinct es = (i j : ℕ) → i < length es → j < length es → get_or es i [] ≡ get_or es j [] → i ≡ j

-- The letters of a form that stand for labels, and the labels of a record and of a routine, from the left.
unfoldable pub tags : List ℕ → List ℕ
tags [] = []
tags (p ∷ ps) = let later = tags ps in cond (eqb p s || eqb p t) (p ∷ later) later

abbrev pub tagged : Rec → ℕ → ℕ
tagged r p = cond (eqb p s) r.x r.y

abbrev pub label_numbers : List Rec → List ℕ
label_numbers [] = []
label_numbers (r ∷ rs) = map (tagged r) (tags (signs_of r.kind)) ++ label_numbers rs

-- Numbered by first appearance: with m labels before, each is one of them or the next.
unfoldable pub greater : ℕ → ℕ → ℕ
greater m v = cond (ltb m v) v m

abbrev pub InOrder : ℕ → List ℕ → Type 0
InOrder m [] = Unit {0}
InOrder m (v ∷ vs) = (1 ≤ v) × (v ≤ suc m) × InOrder (greater m v) vs

-- So are the labels that are read, and no other routine can come back from its text. One whose labels are so does, where no two entries
-- are the same.
abbrev pub LabelsInOrder : Type 0
LabelsInOrder = (w : List ℕ) (es : List (List ℕ)) (rs : List Rec) → read_text w es ≡ reads rs → InOrder 0 (label_numbers rs)

abbrev pub RoutineBack : Type 0
RoutineBack =
    (f l text : List ℕ) (n : ℕ) → writing f l text ≡ Ok n → Distinct (entries l) → InOrder 0 (label_numbers (records f))
    → read_text (text_written f l) (entries l) ≡ reads (records f)

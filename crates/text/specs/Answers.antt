-- What the two calls answer, and what the lent buffer then holds, on every input.
use Rattle.std.specs.Prelude.{◌≡◌, ◌++◌, Result, Ok, Err}
use Rattle.rules.specs.Words.{ℕ, cond, Option, None, Some, List, [], length, drop, eqb, ltb}
use Rattle.rules.specs.declared.Refusal.{Refusal}
use Rattle.rules.specs.declared.Refusal.TheVariants.{Long, Room}
use Rattle.rules.specs.declared.Notation.TheVariants.{Routine}
use Rattle.rules.specs.Record.{Rec, bytes_of, records}
use Rattle.rules.specs.Refusals.{Told, first}
use Rattle.rules.specs.Refusals as paper
use Rattle.rules.specs.Checks.{most, record_checks}
use Rattle.rules.specs.Answers.{short}
use Rattle.text.specs.declared.TextRefusal.{TextRefusal}
use Rattle.text.specs.declared.TextRefusal.TheVariants.{Text, Name, Earlier}
use Rattle.text.specs.Names.{entries, list_fault}
use Rattle.text.specs.Reading.{Reading, reads, refused, read_text}
use Rattle.text.specs.Writing.{text_of, nameless}

-- 12 text and 13 name, each with its place; the others have the paper's numbers.
unfoldable pub told : TextRefusal → Told
told (Text p) = record { number = 12; place = p }
told (Name p) = record { number = 13; place = p }
told (Earlier r) = paper.told r

-- What the two calls answer: how many records were read or bytes written, or why not.
abbrev pub TextVerdict : Type 0
TextVerdict = Result ℕ TextRefusal

-- ## Reading

unfoldable pub fits : Reading → List ℕ → TextVerdict
fits (refused r) out = Err r
fits (reads rs) out =
    cond (ltb (most Routine) (length rs)) (Err (Earlier Long))
    (cond (short (length rs) out) (Err (Earlier Room))
    (Ok (length rs)))

-- read_text(text, names, out): 13 at 0 for the list; then 12 and 13, whichever comes first; then 2 and 8, no others.
unfoldable pub reading : List ℕ → List ℕ → List ℕ → TextVerdict
reading w l out = cond (list_fault l) (Err (Name 0)) (fits (read_text w (entries l)) out)

unfoldable pub records_read : Reading → List Rec
records_read (reads rs) = rs
records_read (refused r) = []

-- ## Writing

-- 13 at the record p whose action has no proper name; then 8.
unfoldable pub writes : ℕ → List ℕ → List ℕ → TextVerdict
writes p u text =
    cond (eqb p 0)
    (cond (ltb (length text) (length u)) (Err (Earlier Room)) (Ok (length u)))
    (Err (Name p))

unfoldable pub unless_refused : Option Refusal → TextVerdict → TextVerdict
unless_refused None v = v
unless_refused (Some r) v = Err (Earlier r)

-- write_text(routine, names, text): 1 to 4 of the routine; 13 at 0 for the list, else at the record; then 8.
unfoldable pub writing : List ℕ → List ℕ → List ℕ → TextVerdict
writing s l text =
    unless_refused (first (record_checks Routine s))
    (cond (list_fault l) (Err (Name 0)) (writes (nameless (entries l) (records s)) (text_of (entries l) (records s)) text))

-- ## The contract of both

-- A refused call writes nothing; one that succeeds fills the first bytes of the buffer, and keeps the rest.
unfoldable pub filled : TextVerdict → List ℕ → List ℕ → List ℕ
filled (Ok n) u out = u ++ drop (length u) out
filled (Err r) u out = out

-- The verdict v on a call that writes u.
pub record Answered (v : TextVerdict) (u out : List ℕ) (answer : TextVerdict) (out' : List ℕ) : Type 0 where
  pub answers : answer ≡ v
  pub output : out' ≡ filled v u out

-- The bytes that read_text and write_text write where they are not refused.
unfoldable pub bytes_read : List ℕ → List ℕ → List ℕ
bytes_read w l = bytes_of (records_read (read_text w (entries l)))

unfoldable pub text_written : List ℕ → List ℕ → List ℕ
text_written s l = text_of (entries l) (records s)

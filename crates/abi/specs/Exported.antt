-- The contracts of the exported calls: the answer as told in numbers, and every lent buffer as the call below leaves it.
use Rattle.std.specs.Prelude.{◌≡◌}
use Rattle.rules.specs.Words.{ℕ, List}
use Rattle.rules.specs.Refusals.{Verdict}
use Rattle.rules.specs.Record.{Rec}
use Rattle.rules.specs.Answers.{filled, cleared, base_records, converting, Call}
use Rattle.listing.specs.Text.{text_of}
use Rattle.listing.specs.Answers.{listing_of, printed}
use Rattle.text.specs.Answers.{TextVerdict}
use Rattle.text.specs.Answers as text
use Rattle.told.specs.declared.QhVerdict.{QhVerdict}
use Rattle.told.specs.declared.QhRan.{QhRan}
use Rattle.told.specs.Numbers.{verdict_told, text_told, ran_told}

pub record Converts (s out work : List ℕ) (answer : QhVerdict) (out' work' : List ℕ) : Type 0 where
  pub answers : answer ≡ verdict_told (converting s out work)
  pub output : out' ≡ filled (converting s out work) (base_records s) out
  pub working : work' ≡ cleared (converting s out work) work

pub record Translates (v : Verdict) (rs : List Rec) (out : List ℕ) (answer : QhVerdict) (out' : List ℕ) : Type 0 where
  pub answers : answer ≡ verdict_told v
  pub output : out' ≡ filled v rs out

pub record Calls (c : Call) (answer : QhRan) (log' : List ℕ) : Type 0 where
  pub answers : answer ≡ ran_told c.answer
  pub logs : log' ≡ c.log

pub record Lists (s text : List ℕ) (answer : QhVerdict) (text' : List ℕ) : Type 0 where
  pub answers : answer ≡ verdict_told (listing_of s text)
  pub output : text' ≡ printed (listing_of s text) (text_of s) text

-- The verdict v on a call that writes the bytes u.
pub record Types (v : TextVerdict) (u out : List ℕ) (answer : QhVerdict) (out' : List ℕ) : Type 0 where
  pub answers : answer ≡ text_told v
  pub output : out' ≡ text.filled v u out

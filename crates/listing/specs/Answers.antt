-- What the call answers, and what the lent text then holds, on every input.
use Rattle.std.specs.Prelude.{◌≡◌, ◌∷◌, ◌++◌, Ok, Err}
use Rattle.rules.specs.Words.{ℕ, Option, List, [], length, drop, ltb}
use Rattle.rules.specs.declared.Refusal.{Refusal}
use Rattle.rules.specs.declared.Refusal.TheVariants.{Room}
use Rattle.rules.specs.Refusals.{Verdict, when, verdict}
use Rattle.rules.specs.Answers.{routine_checks}
use Rattle.listing.specs.Text.{text_of}

-- Refusal 8 where the text t is longer than the part lent; else the bytes printed.
unfoldable pub room_for : List ℕ → List ℕ → Option Refusal
room_for t text = when (ltb (length text) (length t)) Room

-- list(s, text): the routine's refusals, then 8.
unfoldable pub listing_of : List ℕ → List ℕ → Verdict
listing_of s text = verdict (routine_checks s ++ (room_for (text_of s) text ∷ [])) (length (text_of s))

-- A refused call prints nothing; one that succeeds prints t at the start, and keeps the rest.
unfoldable pub printed : Verdict → List ℕ → List ℕ → List ℕ
printed (Ok n) t text = t ++ drop n text
printed (Err r) t text = text

-- The verdict v on a call that prints t.
pub record Listed (v : Verdict) (t text : List ℕ) (answer : Verdict) (text' : List ℕ) : Type 0 where
  pub answers : answer ≡ v
  pub output : text' ≡ printed v t text

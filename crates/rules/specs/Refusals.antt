-- What is turned away: the paper's number and place of each refusal, and how a call's checks follow one another.
use Rattle.std.specs.Prelude.{◌∷◌, Result, Ok, Err}
use Rattle.rules.specs.Words.{ℕ, zero, suc, Bool, cond, Option, None, Some, List, []}
use Rattle.rules.specs.declared.Refusal.{Refusal}
use Rattle.rules.specs.declared.Refusal.TheVariants.{Ragged, Long, Kind, Field, Nesting, Skip, Growth, Room, Reply, State, Far, Label}

-- The columns "No." and "Place".
pub record Told : Type 0 where
  pub number : ℕ
  pub place : ℕ

abbrev no : ℕ → ℕ → Told
no n p = record { number = n; place = p }

unfoldable pub told : Refusal → Told
told Ragged = no 1 0
told Long = no 2 0
told (Kind i) = no 3 i
told (Field i) = no 4 i
told (Nesting i) = no 5 i
told (Skip i) = no 6 i
told Growth = no 7 0
told Room = no 8 0
told (Reply i) = no 9 i
told State = no 10 0
told (Far i) = no 11 i
told (Label i) = no 14 i

-- A check finds its refusal, or none: by a test, or at a place where 0 says that there is none.
unfoldable pub when : Bool → Refusal → Option Refusal
when b r = cond b (Some r) None

unfoldable pub when_at : (ℕ → Refusal) → ℕ → Option Refusal
when_at r zero = None
when_at r (suc i) = Some (r (suc i))

-- Each refusal is given exactly when its condition holds and no earlier one does.
unfoldable pub or_else : Option Refusal → Option Refusal → Option Refusal
or_else None later = later
or_else (Some r) later = Some r

unfoldable pub first : List (Option Refusal) → Option Refusal
first [] = None
first (c ∷ cs) = or_else c (first cs)

-- What a check, a conversion or a translation answers: how many records there are, or why it is turned away.
abbrev pub Verdict : Type 0
Verdict = Result ℕ Refusal

-- The answer of a call with these checks, which accepts n records.
unfoldable pub verdict_of : Option Refusal → ℕ → Verdict
verdict_of None n = Ok n
verdict_of (Some r) n = Err r

unfoldable pub verdict : List (Option Refusal) → ℕ → Verdict
verdict checks n = verdict_of (first checks) n

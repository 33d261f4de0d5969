-- What the answers of the body reader and the item reader mean: in terms of reading from the left with the items that are open.
use Rattle.std.specs.Prelude.{◌≡◌, ◌≤◌, ◌<◌, ◌+◌, ◌*◌, ◌∷◌}
use Rattle.rules.specs.Words.{ℕ, suc, false, cond, List, drop, get_or, ltb}
use Rattle.rules.specs.Record.{count}
use Rattle.rules.specs.Instruction as instruction
use Rattle.rules.specs.Instruction.{jump, ops}
use Rattle.rules.specs.Nesting.{Bracket, opener, middle, closer, alone, bracket, Item, item, lowest, scan}
use Rattle.rules.specs.Partners as partners
use Rattle.rules.specs.Partners.{opens, parts, ends, other}
use Rattle.laws.proofs.Partners.{role_of_kind}
use Rattle.partners.specs.declared.Sort.TheVariants.{Conditional, Loop}
use Rattle.shape.specs.declared.nesting.Start.{Start}
use Rattle.shape.specs.declared.nesting.Start.TheVariants as start
use Rattle.shape.specs.declared.nesting.Read.{Read}
use Rattle.shape.specs.declared.nesting.Read.TheVariants.{To, Misfit, Open}
use Rattle.shape.specs.declared.nesting.Behind.{Behind}
use Rattle.shape.specs.declared.nesting.Behind.TheVariants.{Done, Second}

-- What a record is to a body, by what it is to the conditionals and to the loops.
unfoldable pub start_of : partners.Role → partners.Role → Start
start_of opens l = start.Header Conditional
start_of parts l = start.Shut
start_of ends l = start.Shut
start_of other opens = start.Header Loop
start_of other parts = start.Shut
start_of other ends = start.Shut
start_of other other = start.Alone

-- The record with number k stands behind a body of an item of this sort.
unfoldable pub behind_by : partners.Role → ℕ → Behind
behind_by opens k = Done (Misfit k)
behind_by parts k = Second k
behind_by ends k = Done (To k)
behind_by other k = Done (Misfit k)

unfoldable pub behind_of : List ℕ → ℕ → instruction.Sort → Read → Behind
behind_of s at b (To m) = cond (ltb m (count s)) (behind_by (role_of_kind b (get_or s (8 * m) 0)) (m + 1)) (Done (Open (at + 1)))
behind_of s at b (Misfit k) = Done (Misfit k)
behind_of s at b (Open k) = Done (Open (at + 1))

-- The place of refusal 5 from the record after the first `at` on, with these items open.
unfoldable pub run : List ℕ → ℕ → List Item → ℕ
run s at st = scan (suc at) st (drop at (ops s))

-- A separator or an end.
abbrev pub Shut : Bracket → Type 0
Shut (opener b) = ⊥
Shut middle = Unit {0}
Shut (closer b) = Unit {0}
Shut alone = ⊥

abbrev pub bracket_at : List ℕ → ℕ → Bracket
bracket_at s at = bracket (get_or (ops s) at (jump 0))

-- Whatever was open before: the records from `at` up to m change nothing of it ..
abbrev pub Passes : List ℕ → ℕ → ℕ → Type 0
Passes s at m = (st : List Item) → run s at st ≡ run s m st

-- .. or the place is k ..
pub record Fails (s : List ℕ) (at k : ℕ) : Type 0 where
  pub numbered : 1 ≤ k
  pub fails : (st : List Item) → run s at st ≡ k

-- .. or nothing misfits, and an opener with number k stays open, the lowest from `at` on.
pub record StaysOpen (s : List ℕ) (at k : ℕ) : Type 0 where
  pub numbered : 1 ≤ k
  pub stays : (st : List Item) → run s at st ≡ lowest (item instruction.loop false k ∷ st)

pub record BodyTo (s : List ℕ) (at m : ℕ) : Type 0 where
  pub from : at ≤ m
  pub upto : m ≤ count s
  pub stops : m < count s → Shut (bracket_at s m)
  pub passes : Passes s at m

-- An item is not empty, unless a separator or an end stands there.
pub record ItemTo (s : List ℕ) (at m : ℕ) : Type 0 where
  pub from : at ≤ m
  pub upto : m ≤ count s
  pub empty : m ≡ at → Shut (bracket_at s at)
  pub passes : Passes s at m

abbrev pub BodyRead : List ℕ → ℕ → Read → Type 0
BodyRead s at (To m) = BodyTo s at m
BodyRead s at (Misfit k) = Fails s at k
BodyRead s at (Open k) = StaysOpen s at k

abbrev pub ItemRead : List ℕ → ℕ → Read → Type 0
ItemRead s at (To m) = ItemTo s at m
ItemRead s at (Misfit k) = Fails s at k
ItemRead s at (Open k) = StaysOpen s at k

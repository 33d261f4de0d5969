-- What the stages 2, 3 and 4 make of a record: it stays, or turns into one of four forms of group. And what follows of the group
-- whichever form it is: how many places it adds, what it is to items that stay, and that what is left may stand before the next stage.
use mathlib.Core.Path.{◌≡◌, refl, sym, ◌∙◌, subst}
use Prim.Native.Nat.{◌≤◌, zero-le}
use native.Mathlib.Omega.{arith}
use lib.Dec.{T, leb→le}
use Rattle.std.specs.Prelude.{◌∷◌, ◌++◌}
use Rattle.rules.specs.Words.{ℕ, zero, suc, Bool, true, false, not, List, [], map, length, leb}
use Rattle.rules.specs.Instruction.{Act, push, Sort, conditional, loop, Op, act, test, jump, label, goto, goto2, header, separator, end, call, return}
use Rattle.rules.specs.Nesting.{bracket, Body, nothing, single}
use Rattle.rules.specs.Skip.{adding, plain_test}
use Rattle.rules.specs.Partners.{other, role_of, role}
use Rattle.rules.specs.SecondLevel.{Group, ◌▹◌, stays, members, sent}
use Rattle.rules.specs.Calls.{chain}
use Rattle.rules.specs.Step.{ask, leap, deed, Mem}
use Rattle.rules.proofs.Computes.{computes}
use Rattle.faithful.proofs.Inner.Simulation.{cost}
use Rattle.faithful.proofs.Inner.Chain.{sent-chain, chain_body}
use Rattle.faithful.proofs.Inner.Places.{clash}

-- ## What may stand in a list between two stages

-- 0: what a base holds; 1: of a conditional; 2: of a loop; 3: a call or a return; 4: labels and gotos.
abbrev pub sort_rank : Sort → ℕ
sort_rank conditional = 1
sort_rank loop = 2

abbrev pub rank : Op → ℕ
rank (act a) = 0
rank (test v a) = 0
rank (jump k) = 0
rank (label s) = 4
rank (goto s) = 4
rank (goto2 s t) = 4
rank (header b v a) = sort_rank b
rank separator = 1
rank (end b) = sort_rank b
rank (call k) = 3
rank return = 3

-- Where a plain test stands before os, no record that adds places comes first in os.
abbrev pub Calm : Bool → List Op → Type 0
Calm false os = Unit {0}
Calm true [] = Unit {0}
Calm true (o ∷ os) = adding o ≡ false

-- Ranks up to k, and no plain test directly before a record that adds places.
abbrev pub Good : ℕ → List Op → Type 0
Good k [] = Unit {0}
Good k (o ∷ os) = (rank o ≤ k) × Calm (plain_test o) os × Good k os

-- ## The forms: what a stage that leaves the ranks up to k makes of record i of L

pub data Turns (L : List Op) (k i : ℕ) : Op → Group → Type 0 where
  keeps : {o : Op} → T (leb (rank o) k) → Turns L k i o (stays o)
  leaps : {o : Op} {x : ℕ} → deed L i o ≡ leap x → ((n : ℕ) (m : Mem) → cost n o m ≡ 1) → ((b : Sort) → sort_rank b ≤ k → role b o ≡ other)
      → Turns L k i o (jump x ▹ [])
  forks : {b : Sort} {v : Bool} {a : Act} {x : ℕ} → sort_rank b ≡ suc k → deed L i (header b v a) ≡ ask a v (suc i) x
      → Turns L k i (header b v a) (test (not v) a ▹ jump x ∷ [])
  calls : {x : ℕ} → Turns L k i (call x) (act (push (suc i)) ▹ jump x ∷ [])
  returns : 1 ≤ k → Turns L k i return (chain (length L))

-- Sending a jump on changes nothing but its number.
pub sent-alike {ℓ} : {A : Type ℓ} (h : Op → A) → ((x y : ℕ) → h (jump x) ≡ h (jump y)) → (to : ℕ → ℕ) (o : Op) → h (sent to o) ≡ h o
unfolding sent
sent-alike h e to (act a) = refl
sent-alike h e to (test v a) = refl
sent-alike h e to (jump k) = e (to k) k
sent-alike h e to (label s) = refl
sent-alike h e to (goto s) = refl
sent-alike h e to (goto2 s t) = refl
sent-alike h e to (header b v a) = refl
sent-alike h e to separator = refl
sent-alike h e to (end b) = refl
sent-alike h e to (call k) = refl
sent-alike h e to return = refl

-- ## The places it adds

adds_header : (b : Sort) (v : Bool) (a : Act) → adding (header b v a) ≡ true
unfolding computes
adds_header conditional true a = refl
adds_header conditional false a = refl
adds_header loop true a = refl
adds_header loop false a = refl

adds_call : (x : ℕ) → adding (call x) ≡ true
unfolding computes
adds_call x = refl

adds_return : adding return ≡ true
unfolding computes
adds_return = refl

adds_jump : (x : ℕ) → adding (jump x) ≡ false
unfolding computes
adds_jump x = refl

true-false : {b : Bool} {A : Type 0} → b ≡ true → b ≡ false → A
true-false e h = clash cc

module _ {L : List Op} {k i : ℕ} (to : ℕ → ℕ) where
  -- What adds no places becomes one record, which adds none.
  pub turn-single : {o : Op} {g : Group} → Turns L k i o g → adding o ≡ false → (x : Op) × (map (sent to) (members g) ≡ x ∷ []) × (adding x ≡ false)
  unfolding members sent
  turn-single (keeps {o = o} r) e = (sent to o, refl, sent-alike adding (λ x y. adds_jump x ∙ sym (adds_jump y)) to o ∙ e)
  turn-single (leaps {x = x} d c ot) e = (jump (to x), refl, adds_jump (to x))
  turn-single (forks {b = b} {v = v} {a = a} r d) e = true-false (adds_header b v a) e
  turn-single (calls {x = x}) e = true-false (adds_call x) e
  turn-single (returns r) e = true-false adds_return e

-- ## What it is to the items of a sort that stays: one record of the same role, or a body for a record that is none of theirs

pub data Reads (b : Sort) (o : Op) : List Op → Type 0 where
  same : {x : Op} → role b x ≡ role b o → Reads b o (x ∷ [])
  nothing_of : {xs : List Op} → role b o ≡ other → Body xs → Reads b o xs

other_sort : (b c : Sort) (v : Bool) (a : Act) (k : ℕ) → sort_rank b ≤ k → sort_rank c ≡ suc k → role b (header c v a) ≡ other
unfolding role role_of bracket
other_sort conditional conditional v a k h e = absurd (omega arith)
other_sort conditional loop v a k h e = refl
other_sort loop conditional v a k h e = refl
other_sort loop loop v a k h e = absurd (omega arith)

pub turn-reads : {L : List Op} {k i : ℕ} {o : Op} {g : Group} (b : Sort) → sort_rank b ≤ k → (to : ℕ → ℕ) → Turns L k i o g
    → Reads b o (map (sent to) (members g))
unfolding members sent role role_of bracket
turn-reads b h to (keeps {o = o} r) = same (sent-alike (role b) (λ x y. refl) to o)
turn-reads b h to (leaps d c ot) = nothing_of (ot b h) (single refl nothing)
turn-reads {k} b h to (forks {b = c} {v = v} {a = a} r d) = nothing_of (other_sort b c v a k h r) (single refl (single refl nothing))
turn-reads b h to calls = nothing_of refl (single refl (single refl nothing))
turn-reads {L} b h to (returns r) = nothing_of refl (chain_body to (length L))

-- ## What is left may stand

before-jump : (b : Bool) (x : ℕ) (os : List Op) → Calm b (jump x ∷ os)
before-jump false x os = tt
before-jump true x os = adds_jump x

chain_good : (k : ℕ) → 1 ≤ k → (to : ℕ → ℕ) (j : ℕ) (os : List Op) → Good k os → Good k (map (sent to) (members (chain j)) ++ os)
unfolding computes
chain_good k h to zero os g = (zero-le, tt, g)
chain_good k h to (suc j) os g =
    let c = chain_good k h to j (end conditional ∷ os) (h, tt, g) in
    subst (Good k) (sym (sent-chain to j os)) (h, tt, (zero-le, tt, (zero-le, tt, (h, tt, c))))

pub turn_good : {L : List Op} {k i : ℕ} {o : Op} {g : Group} (to : ℕ → ℕ) → Turns L k i o g → (os : List Op) → Calm (plain_test o) os → Good k os
    → Good k (map (sent to) (members g) ++ os)
unfolding members sent computes
turn_good {k} to (keeps {o = o} r) os c h = (
  rw (sent-alike rank (λ x y. refl) to o) (leb→le (rank o) k r),
  rw (sent-alike plain_test (λ x y. refl) to o) c,
  h,
)
turn_good to (leaps d e ot) os c h = (zero-le, tt, h)
turn_good to (forks {v = v} {a = a} r d) os c h = (zero-le, before-jump (plain_test (test (not v) a)) _ os, (zero-le, tt, h))
turn_good to calls os c h = (zero-le, tt, (zero-le, tt, h))
turn_good {L} {k} to (returns r) os c h = chain_good k r to (length L) os h

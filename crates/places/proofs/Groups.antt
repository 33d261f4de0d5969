-- The chain by a table of where jumps lead, link by link; and a stage, group by group.
--     link, chain_more, chain_none, chain_led     the chain by a table
--     Written, none_written, one_written, all_written     the loop of a stage: at the start, a turn, at the end
--     staged-long, staged_is     a file that is too long, and any other
use mathlib.Core.Path.{◌≡◌, refl}
use Prim.Native.Nat.{ℕ, zero, suc, ◌+◌, ◌-◌, ◌≤◌, ◌<◌}
use native.Mathlib.Omega.{arith}
use mathlib.Core.List.{List, [], ◌∷◌, ◌++◌}
use lib.ListN.{length, get_or}
use borrow.Rule.Slice.PartMut.{put_mid}
use borrow.Author.Tests.{le-leb, lt-leb}
use Rattle.rules.specs.Record.{Rec, rec, count}
use Rattle.laws.proofs.SecondLevel.{groups}
use Rattle.records.proofs.Writing.{rest}
use Rattle.places.specs.declared.Stage.{Stage}
use Rattle.places.specs.declared.Stage.TheVariants.{Calls}
use Rattle.places.specs.Stages.{Leading}
use Rattle.places.specs.Writing.{Fitted}
use Rattle.places.proofs.Writing.{fit_none, fit_as, fit_more}
use Rattle.places.specs.Groups.{to, chain_of, chain_by, group, staged}

-- ## The chain, link by link

abbrev pub link : ℕ → ℕ → List Rec
link j k = rec 8 1003 j ∷ rec 1 1002 0 ∷ rec 4 k 0 ∷ rec 10 0 0 ∷ []

module _ (t : List ℕ) (j : ℕ) {k : ℕ} (e : k ≡ get_or t j 0) where
  pub chain_more : 1 ≤ j → chain_by t j ≡ link j k ++ chain_by t (j - 1) ++ (rec 11 0 0 ∷ [])
  unfolding chain_by
  chain_more l = by j l e
    where
      by : (j : ℕ) → 1 ≤ j → k ≡ get_or t j 0 → chain_by t j ≡ link j k ++ chain_by t (j - 1) ++ (rec 11 0 0 ∷ [])
      by zero l e = absurd (omega arith)
      by (suc j) l e = let z : suc j - 1 ≡ j = omega arith in rw (e, z)

pub chain_none : (t : List ℕ) (j : ℕ) → j ≡ 1 → chain_by t (j - 1) ≡ to 0
unfolding chain_by
chain_none t j h = rw h

pub chain_led : {s t : List ℕ} → Leading Calls s t → (j : ℕ) → chain_of s j ≡ chain_by t j
unfolding chain_of chain_by
chain_led u zero = refl
chain_led u (suc j) = rw (u.led (suc j), chain_led u j)

-- ## The whole stage, group by group

-- The groups of the records before record i are written, of a file of which `at` bytes fitted.
abbrev pub Written : Stage → List ℕ → List ℕ → List ℕ → ℕ → ℕ → Type 0
Written stage s o w at i = (i ≤ count s + 1) × Fitted (groups (group stage s) (i - 1)) o w at

module _ (stage : Stage) (s : List ℕ) where
  pub staged-long : {o : List ℕ} → 4096 < count s → Fitted (staged stage s) o o 0
  unfolding staged
  staged-long h = fit_as (rw (lt-leb (count s) 4096 h)) (fit_none _)

  pub staged_is : count s ≤ 4096 → staged stage s ≡ groups (group stage s) (count s)
  unfolding staged
  staged_is h = rw (le-leb (count s) 4096 h)

  pub none_written : (o : List ℕ) → Written stage s o o 0 1
  unfolding groups
  none_written o = (omega arith, fit_none o)

  pub one_written : {o w ys : List ℕ} {at k : ℕ} (i : ℕ) → 1 ≤ i → i ≤ count s → Written stage s o w at i → Fitted (group stage s i) (rest w at) ys k
      → Written stage s o (put_mid at (length w - at) w ys) (at + k) (i + 1)
  unfolding groups
  one_written i l h u v =
      let this : i ≡ suc (i - 1) = omega arith in
      let next : i + 1 - 1 ≡ suc (i - 1) = omega arith in
      (omega arith, rw next (fit_more u.1 (rw this at v)))

  pub all_written : {o w : List ℕ} {at : ℕ} (i : ℕ) → count s ≤ 4096 → count s < i → Written stage s o w at i → Fitted (staged stage s) o w at
  all_written i l h u = let all : count s ≡ i - 1 = omega (arith, u.0) in fit_as (staged_is l) (rw all u.1)

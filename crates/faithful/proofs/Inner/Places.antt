-- Where records stand once second level is removed: every group begins at its place, a number is sent to the place of its group, and a
-- move there is the place of the move here. From the definitions of `removed` and `move_to` alone; once for all stages.
use mathlib.Core.Path.{◌≡◌, refl, sym, ap, ◌∙◌}
use Prim.Native.Nat.{◌≤◌, ◌<◌, zero-le}
use native.Mathlib.Omega.{arith}
use lib.ListN.{length-append, length-map}
use borrow.Author.Tests.{leb-true, leb-false, le-leb, lt-leb}
use Rattle.std.specs.Prelude.{◌+◌, ◌∷◌, ◌++◌}
use Rattle.rules.specs.Words.{ℕ, zero, suc, Bool, true, false, List, [], map, length, leb}
use Rattle.rules.specs.Instruction.{Op}
use Rattle.rules.specs.Numbers.{names, move_to}
use Rattle.rules.specs.SecondLevel.{Group, ◌▹◌, members, seconds, renumber, sent, laid}

-- What cannot be.
pub clash : {A : Type 0} → ◌≡◌ {A = ℕ} 0 1 → A
clash e = absurd (omega arith)

-- ## Moves

pub move_in : (n k : ℕ) → k ≤ n → move_to n k ≡ k
unfolding move_to names
move_in n zero h = refl
move_in n (suc k) h = rw (le-leb (suc k) n h)

pub move_out : (n k : ℕ) → n < k → move_to n k ≡ 0
unfolding move_to names
move_out n zero h = refl
move_out n (suc k) h = rw (lt-leb (suc k) n h)

pub in_or_out : (n k : ℕ) {A : Type 0} → (k ≤ n → A) → (n < k → A) → A
in_or_out n k {A} f g = by (leb k n) refl
  where
    by : (b : Bool) → leb k n ≡ b → A
    by true e = f (leb-true k n e)
    by false e = g (leb-false k n e)

-- ## Places

-- The number that follows the records xs, the first of which has number q.
abbrev pub over : List Op → ℕ → ℕ
over [] q = q
over (x ∷ xs) q = over xs (suc q)

pub over_length : (xs : List Op) (q : ℕ) → over xs q ≡ length xs + q
over_length [] q = omega arith
over_length (x ∷ xs) q = over_length xs (suc q) ∙ omega arith

pub over_suc : (xs : List Op) (q : ℕ) → over xs (suc q) ≡ suc (over xs q)
over_suc [] q = refl
over_suc (x ∷ xs) q = over_suc xs (suc q)

pub over_append : (xs ys : List Op) (q : ℕ) → over (xs ++ ys) q ≡ over ys (over xs q)
over_append [] ys q = refl
over_append (x ∷ xs) ys q = over_append xs ys (suc q)

-- How many records stand before group number k + 1, if q stand before the first.
abbrev pub ahead : ℕ → List Group → ℕ → ℕ
ahead q gs zero = q
ahead q [] (suc k) = q
ahead q (g ∷ gs) (suc k) = ahead (over (members g) q) gs k

-- The place of group number k.
abbrev pub place : List Group → ℕ → ℕ
place gs zero = 0
place gs (suc k) = suc (ahead 0 gs k)

-- It is the paper's: k and the second-level records before the k-th first-level one.
ahead-seconds : (q k : ℕ) (gs : List Group) → k ≤ length gs → ahead q gs k ≡ q + k + seconds k gs
unfolding seconds members
ahead-seconds q zero gs h = omega arith
ahead-seconds q (suc k) [] h = absurd (omega arith)
ahead-seconds q (suc k) ((o ▹ os) ∷ gs) h = omega (arith, ahead-seconds (over os (suc q)) k gs (omega arith), over_length os (suc q))

pub renumber-place : (gs : List Group) (k : ℕ) → renumber gs k ≡ place gs (move_to (length gs) k)
unfolding renumber move_to names
renumber-place gs zero = refl
renumber-place gs (suc k) = in_or_out (length gs) (suc k)
    (λ h. rw (le-leb (suc k) (length gs) h) (omega (arith, ahead-seconds 0 k gs (omega arith))))
    (λ h. rw (lt-leb (suc k) (length gs) h))

module _ (to : ℕ → ℕ) where
  laid-length : (g : Group) (gs : List Group) → length (laid to (g ∷ gs)) ≡ length (members g) + length (laid to gs)
  unfolding laid
  laid-length g gs = length-append (map (sent to) (members g)) (laid to gs) ∙ ap (λ (n : ℕ). n + length (laid to gs)) (length-map (members g) (sent to))

  ahead_in : (q k : ℕ) (gs : List Group) → k < length gs → ahead q gs k < q + length (laid to gs)
  unfolding members
  ahead_in q k [] h = absurd (omega arith)
  ahead_in q zero ((o ▹ os) ∷ gs) h = omega (arith, laid-length (o ▹ os) gs)
  ahead_in q (suc k) (g ∷ gs) h = omega (arith, laid-length g gs, over_length (members g) q, ahead_in (over (members g) q) k gs (omega arith))

  pub ahead_out : (q k : ℕ) (gs : List Group) → length gs ≤ k → ahead q gs k ≡ q + length (laid to gs)
  unfolding laid
  ahead_out q zero [] h = omega arith
  ahead_out q (suc k) [] h = omega arith
  ahead_out q zero (g ∷ gs) h = absurd (omega arith)
  ahead_out q (suc k) (g ∷ gs) h = omega (arith, laid-length g gs, over_length (members g) q, ahead_out (over (members g) q) k gs (omega arith))

  pub move_place : (gs : List Group) (k : ℕ) → move_to (length (laid to gs)) (place gs k) ≡ place gs (move_to (length gs) k)
  move_place gs zero = move_in (length (laid to gs)) 0 zero-le ∙ ap (place gs) (sym (move_in (length gs) 0 zero-le))
  move_place gs (suc k) = in_or_out (length gs) (suc k)
      (λ h. rw (move_in (length gs) (suc k) h) (move_in (length (laid to gs)) _ (omega (arith, ahead_in 0 k gs h))))
      (λ h. rw (move_out (length gs) (suc k) h) (move_out (length (laid to gs)) _ (omega (arith, ahead_out 0 k gs (omega arith)))))

  pub move_renumber : (gs : List Group) (k : ℕ) → move_to (length (laid to gs)) (renumber gs k) ≡ place gs (move_to (length gs) k)
  move_renumber gs k = ap (move_to (length (laid to gs))) (renumber-place gs k) ∙ move_place gs (move_to (length gs) k) ∙ ap (place gs) twice
    where
      twice : move_to (length gs) (move_to (length gs) k) ≡ move_to (length gs) k
      twice = in_or_out (length gs) k
          (λ h. ap (move_to (length gs)) (move_in (length gs) k h))
          (λ h. rw (move_out (length gs) k h) (move_in (length gs) 0 zero-le))

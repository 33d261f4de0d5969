-- Soundness of the entries in use and of the others, and the replies byte by byte.
use mathlib.Core.Path.{◌≡◌, refl, ◌∙◌}
use Prim.Native.Nat.{ℕ, zero, suc, ◌+◌, ◌≤◌, max}
use native.Mathlib.Omega.{arith}
use native.Mathlib.Numerals.{add-one}
use mathlib.Core.Bool.{Bool, true, false, ◌&&◌, cond}
use mathlib.Core.List.{List, [], ◌∷◌}
use lib.ListN.{take, drop}
use lib.Dec.{leb, ltb, eqb}
use borrow.Author.Tests.{leb-true, leb-false, lt-ltb, le-ltb}
use Rattle.std.specs.Prelude.{option_map, None, Some}
use Rattle.std.specs.List.{fold, list_all, position, position_from}
use Rattle.std.proofs.lemmas.Iterator.Adapters.{position_from-zero}
use Rattle.rules.specs.declared.Refusal.TheVariants.{Reply}
use Rattle.rules.specs.Refusals.{when_at}
use Rattle.rules.specs.Answers.{entries_sound, bad_reply, bad_reply_from}

and_assoc : (a b c : Bool) → a && (b && c) ≡ a && b && c
and_assoc true b c = refl
and_assoc false b c = refl

pub entries_split : (d : ℕ) (es : List ℕ) → entries_sound d es ≡ list_all (λ v. leb v 9999) (take d es) && list_all (λ v. eqb v 0) (drop d es)
unfolding entries_sound
entries_split zero [] = refl
entries_split (suc d) [] = refl
entries_split zero (e ∷ es) = rw (entries_split zero es)
entries_split (suc d) (e ∷ es) = rw (entries_split d es) (and_assoc (leb e 9999) _ _)

-- The greatest byte so far is not above the greatest of all.
above : (a : ℕ) (rs : List ℕ) → a ≤ fold (λ m r. max m r) a rs
above a [] = omega arith
above a (r ∷ rs) = let h = above (max a r) rs in omega (arith, h)

above_fine : (a i : ℕ) (rs : List ℕ) → fold (λ m r. max m r) a rs ≤ 1 → position_from (λ r. ltb 1 r) i rs ≡ None
above_fine a i [] h = refl
above_fine a i (r ∷ rs) h =
    let b = above (max a r) rs in
    let l : r ≤ 1 = omega (arith, b, h) in
    rw (le-ltb 1 r l) (above_fine (max a r) (i + 1) rs h)

pub fine : (rs : List ℕ) → fold (λ m r. max m r) 0 rs ≤ 1 → position (λ r. ltb 1 r) rs ≡ None
fine rs h = position_from-zero (λ r. ltb 1 r) rs ∙ above_fine 0 0 rs h

-- The place of the first bad byte, as a number from 1.
bad_from : (i : ℕ) (rs : List ℕ) → when_at Reply (bad_reply_from (suc i) rs) ≡ option_map (λ k. Reply (k + 1)) (position_from (λ r. ltb 1 r) i rs)
unfolding bad_reply_from when_at
bad_from i [] = refl
bad_from i (r ∷ rs) = by (leb r 1) refl (bad_from (i + 1) rs)
  where
    by : (b : Bool) → leb r 1 ≡ b
        → when_at Reply (bad_reply_from (suc (i + 1)) rs) ≡ option_map (λ k. Reply (k + 1)) (position_from (λ r. ltb 1 r) (i + 1) rs)
        → when_at Reply (cond (leb r 1) (bad_reply_from (suc (suc i)) rs) (suc i))
        ≡ option_map (λ k. Reply (k + 1)) (cond (ltb 1 r) (Some i) (position_from (λ r. ltb 1 r) (i + 1) rs))
    by true e h = rw (e, le-ltb 1 r (leb-true r 1 e), add-one) (rw add-one at h)
    by false e h = rw (e, lt-ltb 1 r (leb-false r 1 e), add-one)

pub first_bad : (rs : List ℕ) → when_at Reply (bad_reply rs) ≡ option_map (λ k. Reply (k + 1)) (position (λ r. ltb 1 r) rs)
unfolding bad_reply
first_bad rs = rw (position_from-zero (λ r. ltb 1 r) rs) (bad_from 0 rs)

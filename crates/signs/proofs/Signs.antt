-- The signs of the forms.
--     each                                 what is tested of every form holds of one
--     all_positive, above                  every sign is above zero
--     sign-some, sign-none, sign_eight     the signs of a form, one after the other, eight at most
use mathlib.Core.Path.{◌≡◌, refl}
use mathlib.Core.Bool.{Bool, true, false, cond}
use mathlib.Core.List.{List, [], ◌∷◌}
use Prim.Native.Nat.{ℕ, zero, suc, ◌+◌, ◌<◌}
use native.Mathlib.Numerals.{add-one}
use native.Mathlib.Omega.{arith}
use lib.Dec.{T, eqb, leb, leb→le}
use lib.ListN.{length, get_or, get_or-eq_default, drop}
use lib.Seq.{drop-cons}
use borrow.Author.Tests.{eqb-false}
use Rattle.text.specs.Bytes.{byte_at}
use Rattle.text.specs.Forms.{forms, signs_of}
use Rattle.text.proofs.Reach.{byte_there}

-- all signs are above zero, and a form has at most eight: by one test over all forms
abbrev pub positive : List ℕ → Bool
positive [] = true
positive (b ∷ f) = cond (eqb b 0) false (positive f)

abbrev pub short : List ℕ → Bool
short f = leb (length f) 8

abbrev pub every : (List ℕ → Bool) → List (List ℕ) → Bool
every q [] = true
every q (f ∷ fs) = cond (q f) (every q fs) false

pub each : (q : List ℕ → Bool) → T (q []) → (fs : List (List ℕ)) (i : ℕ) → T (every q fs) → T (q (get_or fs i []))
each q e [] i n = e
each q e (f ∷ fs) zero n = here (q f) n
  where
    here : (b : Bool) → T (cond b (every q fs) false) → T b
    here true n = tt
    here false n = n
each q e (f ∷ fs) (suc i) n = each q e fs i (rest (q f) n)
  where
    rest : (b : Bool) → T (cond b (every q fs) false) → T (every q fs)
    rest true n = n
    rest false n = absurd n

-- of a number above 17 there is no form
pub formless : (i : ℕ) → 17 < i → signs_of i ≡ []
formless i h = get_or-eq_default ([] ∷ forms) [] {n = i} (omega arith)

pub all_positive : (i : ℕ) → T (positive (signs_of i))
all_positive i = each positive tt ([] ∷ forms) i tt

pub above : (p : ℕ) (ps : List ℕ) → T (positive (p ∷ ps)) → (0 < p) × T (positive ps)
above p ps = by (eqb p 0) refl
  where
    by : (b : Bool) → eqb p 0 ≡ b → T (cond b false (positive ps)) → (0 < p) × T (positive ps)
    by true h z = absurd z
    by false h z = (omega (arith, eqb-false p 0 h), z)

none_left : (f : List ℕ) (j : ℕ) → T (positive f) → get_or f j 0 ≡ 0 → drop j f ≡ []
none_left [] zero n h = refl
none_left [] (suc j) n h = refl
none_left (b ∷ f) zero n h = absurd (let z = (above b f n).0 in omega arith)
none_left (b ∷ f) (suc j) n h = none_left f j (above b f n).1 h

-- a sign that is there is one of eight
pub sign_eight : (i j : ℕ) → (byte_at (signs_of i) j ≡ 0 → ⊥) → j < 8
sign_eight i j h = omega (arith, byte_there (signs_of i) j h, leb→le (length (signs_of i)) 8 (each short tt ([] ∷ forms) i tt))

pub sign-some : (i j : ℕ) → (byte_at (signs_of i) j ≡ 0 → ⊥) → drop j (signs_of i) ≡ byte_at (signs_of i) j ∷ drop (j + 1) (signs_of i)
sign-some i j h = rw (add-one j) (drop-cons (signs_of i) j 0 (byte_there (signs_of i) j h))

pub sign-none : (i j : ℕ) → byte_at (signs_of i) j ≡ 0 → drop j (signs_of i) ≡ []
sign-none i j h = none_left (signs_of i) j (all_positive i) h

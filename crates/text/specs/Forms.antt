-- The forms of an instruction, and how far a text follows one.
use Prim.Native.Char.{code}
use Rattle.std.specs.Prelude.{◌+◌, ◌||◌, ◌∷◌, Result, Ok, Err}
use Rattle.rules.specs.Words.{ℕ, zero, suc, Bool, true, false, cond, List, [], length, get_or, eqb, leb, ltb}
use Rattle.text.specs.declared.Sort.{Sort}
use Rattle.text.specs.declared.Sort.TheVariants.{Blank, Digit, Named}
use Rattle.text.specs.declared.Fit.{Fit}
use Rattle.text.specs.Bytes.{ascii, byte_at, span}

-- The column "Written" of the paper's table, kinds 1 to 16 in their order; form 17 is `!`. The small letters stand for an action's
-- name, a number and two labels, every other sign for itself.
abbrev pub forms : List (List ℕ)
forms =
    ascii "a" ∷ ascii "+a" ∷ ascii "-a"
    ∷ ascii "##k"
    ∷ ascii "[s]" ∷ ascii "##[s]" ∷ ascii "##[s][t]"
    ∷ ascii "+a{" ∷ ascii "-a{" ∷ ascii "}{" ∷ ascii "}"
    ∷ ascii "+a{*" ∷ ascii "-a{*" ∷ ascii "*}"
    ∷ ascii "R##k" ∷ ascii "##R"
    ∷ ascii "!" ∷ []

abbrev pub a : ℕ
a = code "a"

abbrev pub k : ℕ
k = code "k"

abbrev pub s : ℕ
s = code "s"

abbrev pub t : ℕ
t = code "t"

-- The signs of form number i, from 1.
abbrev pub signs_of : ℕ → List ℕ
signs_of i = get_or ([] ∷ forms) i []

-- The letter that x of a form is written by: a, k or s, or 0 where the form has none.
unfoldable pub letter_in : List ℕ → ℕ
letter_in [] = 0
letter_in (p ∷ ps) = let later = letter_in ps in cond (eqb p a || eqb p k || eqb p s) p later

abbrev pub letter_of : ℕ → ℕ
letter_of i = letter_in (signs_of i)

-- What a sign stands for.
pub data Part : Type 0 where
  itself name number : Part

unfoldable pub part_of : ℕ → Part
part_of p = cond (eqb p k) number (cond (eqb p a || eqb p s || eqb p t) name itself)

-- A sign along a text: where what follows it starts, or else the first byte that cannot be.

-- 1 to `most` bytes of a sort: the first byte that cannot be is the first one, if it is not of the sort, or the one after `most`.
unfoldable pub take_run : Sort → ℕ → List ℕ → ℕ → Result ℕ ℕ
take_run c most w at =
    let n = span c w at (suc most) in
    cond (eqb n 0) (Err at) (cond (leb n most) (Ok (at + n)) (Err (at + most)))

-- A name is 1 to 16 letters or digits, a number has 1 to 4 digits.
unfoldable pub take_part : Part → ℕ → List ℕ → ℕ → Result ℕ ℕ
take_part itself p w at = cond (eqb (byte_at w at) p) (Ok (at + 1)) (Err at)
take_part name p w at = take_run Named 16 w at
take_part number p w at = take_run Digit 4 w at

-- The sign p at `at` in the text w.
abbrev pub take_sign : ℕ → List ℕ → ℕ → Result ℕ ℕ
take_sign p w at = take_part (part_of p) p w at

-- Where x and y start, from 1, when the sign p is at `at`.
unfoldable pub x_at : ℕ → ℕ → ℕ → ℕ
x_at p at x = cond (eqb p a || eqb p k || eqb p s) (at + 1) x

unfoldable pub y_at : ℕ → ℕ → ℕ → ℕ
y_at p at y = cond (eqb p t) (at + 1) y

abbrev pub fit : ℕ → Bool → ℕ → ℕ → ℕ → Fit
fit i whole far x y = record { form = i; whole = whole; far = far; x = x; y = y }

-- Behind a form: blanks, then `;` or the end of the text. The next instruction then starts after the `;`.
unfoldable pub ending : ℕ → List ℕ → ℕ → ℕ → ℕ → Fit
ending i w at x y =
    let e = at + span Blank w at (length w) in
    cond (eqb e (length w) || eqb (byte_at w e) (code ";")) (fit i true (e + 1) x y) (fit i false e x y)

abbrev pub going : {X : Type 0} → Result ℕ ℕ → (ℕ → X) → (ℕ → X) → X
going (Ok e) on off = on e
going (Err e) on off = off e

-- The signs ps of form i along the text w from `at` on.
unfoldable pub follow : ℕ → List ℕ → List ℕ → ℕ → ℕ → ℕ → Fit
follow i [] w at x y = ending i w at x y
follow i (p ∷ ps) w at x y =
    going (take_sign p w at) (λ e. follow i ps w e (x_at p at x) (y_at p at y)) (λ e. fit i false e x y)

abbrev pub fit_of : ℕ → List ℕ → ℕ → Fit
fit_of i w at = follow i (signs_of i) w at 0 0

-- The form that the text follows furthest, the earlier of two that it follows equally far: of the first n, and of all. No form at all
-- is followed to `at` itself.
unfoldable pub further : Fit → Fit → Fit
further f g = cond (ltb f.far g.far) g f

unfoldable pub best_to : List ℕ → ℕ → ℕ → Fit
best_to w at zero = fit 0 false at 0 0
best_to w at (suc n) = further (best_to w at n) (fit_of (suc n) w at)

abbrev pub best_of : List ℕ → ℕ → Fit
best_of w at = best_to w at 17

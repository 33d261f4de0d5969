-- A routine written as text.
use Prim.Native.Char.{code}
use Rattle.std.specs.Prelude.{◌+◌, ◌/◌, ◌%◌, ◌∷◌, ◌++◌}
use Rattle.rules.specs.Words.{ℕ, zero, suc, cond, List, [], eqb, ltb}
use Rattle.rules.specs.Record.{Rec}
use Rattle.text.specs.Bytes.{ascii}
use Rattle.text.specs.Forms.{a, k, s, t, signs_of, letter_of}
use Rattle.text.specs.Names.{name_of, proper}

-- A number in decimal, no leading zeros: its last digit behind those of its tenth. `most` is a bound on how many there are.
unfoldable pub digits : ℕ → ℕ → List ℕ
digits zero n = []
digits (suc most) n = let before = digits most (n / 10) in cond (ltb n 10) ((48 + n) ∷ []) (before ++ ((48 + n % 10) ∷ []))

abbrev pub decimal : ℕ → List ℕ
decimal n = digits (suc n) n

-- Labels as L1, L2 and so on.
abbrev pub label_name : ℕ → List ℕ
label_name n = code "L" ∷ decimal n

-- What a sign of the record's form is written as.
unfoldable pub written_sign : List (List ℕ) → Rec → ℕ → List ℕ
written_sign es r p =
    cond (eqb p a) (name_of es r.x)
    (cond (eqb p k) (decimal r.x)
    (cond (eqb p s) (label_name r.x)
    (cond (eqb p t) (label_name r.y)
    (p ∷ []))))

unfoldable pub written_signs : List (List ℕ) → Rec → List ℕ → List ℕ
written_signs es r [] = []
written_signs es r (p ∷ ps) = written_sign es r p ++ written_signs es r ps

-- The form of a record: `!` for ##0.
unfoldable pub form_of : Rec → ℕ
form_of r = cond (eqb r.kind 4) (cond (eqb r.x 0) 17 4) r.kind

abbrev pub written : List (List ℕ) → Rec → List ℕ
written es r = written_signs es r (signs_of (form_of r))

-- Instructions joined by `; `.
unfoldable pub further_ones : List (List ℕ) → List Rec → List ℕ
further_ones es [] = []
further_ones es (r ∷ rs) = ascii "; " ++ (written es r ++ further_ones es rs)

unfoldable pub text_of : List (List ℕ) → List Rec → List ℕ
text_of es [] = []
text_of es (r ∷ rs) = written es r ++ further_ones es rs

-- The first record whose action has no proper name in the list; 0 where there is none. The first of these has number i.
unfoldable pub nameless_from : ℕ → List (List ℕ) → List Rec → ℕ
nameless_from i es [] = 0
nameless_from i es (r ∷ rs) =
    let later = nameless_from (suc i) es rs in
    cond (eqb (letter_of r.kind) a) (cond (proper es r.x) later i) later

abbrev pub nameless : List (List ℕ) → List Rec → ℕ
nameless es rs = nameless_from 1 es rs

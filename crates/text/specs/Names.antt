-- Names and numbers: an action's number is its place in the lent list, a label's that of its first appearance.
use Rattle.std.specs.Prelude.{◌+◌, ◌*◌, ◌-◌, ◌/◌, ◌%◌, ◌&&◌, ◌||◌, ◌∷◌, ◌++◌}
use Rattle.rules.specs.Words.{ℕ, zero, suc, Bool, true, false, not, cond, List, [], length, take, drop, get_or, replicate, eqb, leb, ltb}
use Rattle.text.specs.declared.Sort.TheVariants.{Digit, Named}
use Rattle.text.specs.Bytes.{run}

-- The name and the digits that start at `at`.
abbrev pub name_at : List ℕ → ℕ → List ℕ
name_at w at = run Named w at 16

abbrev pub digits_at : List ℕ → ℕ → List ℕ
digits_at w at = run Digit w at 4

-- The number of these digits, behind others worth v.
unfoldable pub value_of : List ℕ → ℕ → ℕ
value_of [] v = v
value_of (d ∷ ds) v = value_of ds (10 * v + (d - 48))

abbrev pub number_at : List ℕ → ℕ → ℕ
number_at w at = value_of (digits_at w at) 0

-- The same bytes.
unfoldable pub same : List ℕ → List ℕ → Bool
same [] [] = true
same [] (c ∷ v) = false
same (b ∷ u) [] = false
same (b ∷ u) (c ∷ v) = let later = same u v in cond (eqb b c) later false

-- The number of the first of these that is u; 0 where none is. The first of them has number i.
unfoldable pub place_from : ℕ → List ℕ → List (List ℕ) → ℕ
place_from i u [] = 0
place_from i u (v ∷ vs) = let later = place_from (suc i) u vs in cond (same u v) i later

abbrev pub place_of : List ℕ → List (List ℕ) → ℕ
place_of u vs = place_from 1 u vs

-- ## Actions

-- The list of names: 16-byte entries padded with zeros.
abbrev pub entries_of : ℕ → List ℕ → List (List ℕ)
entries_of zero l = []
entries_of (suc n) l = take 16 l ∷ entries_of n (drop 16 l)

abbrev pub entries : List ℕ → List (List ℕ)
entries l = entries_of (length l / 16) l

abbrev pub padded : ℕ → List ℕ → List ℕ
padded size u = u ++ replicate (size - length u) 0

-- The number of an action is its name's first place in the list; 0 where the list has no such name.
abbrev pub action_of : List (List ℕ) → List ℕ → ℕ
action_of es u = place_of (padded 16 u) es

-- The name that entry number e holds. It is proper if it is 1 to 16 letters or digits and then zeros only.
abbrev pub entry : List (List ℕ) → ℕ → List ℕ
entry es e = get_or es (e - 1) []

abbrev pub name_of : List (List ℕ) → ℕ → List ℕ
name_of es e = name_at (entry es e) 0

unfoldable pub proper : List (List ℕ) → ℕ → Bool
proper es e = leb 1 (length (name_of es e)) && same (padded 16 (name_of es e)) (entry es e)

-- A list that is ragged or above 999 entries.
unfoldable pub list_fault : List ℕ → Bool
list_fault l = not (eqb (length l % 16) 0) || ltb 999 (length l / 16)

-- ## Labels

-- Labels are numbered by first appearance, and the thousandth has no number: 0. After it a new one stands behind the labels so far.
unfoldable pub label_of : List (List ℕ) → List ℕ → ℕ
label_of us u = cond (eqb (place_of u us) 0) (cond (ltb (length us) 999) (suc (length us)) 0) (place_of u us)

unfoldable pub with_label : List (List ℕ) → List ℕ → List (List ℕ)
with_label us u = cond (eqb (place_of u us) 0) (us ++ (u ∷ [])) us

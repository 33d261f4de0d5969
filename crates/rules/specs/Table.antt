-- The table of kinds. Written out singly it has sixteen rows, one for each kind a routine may use. An unlisted field is zero.
use Rattle.std.specs.Prelude.{◌-◌, ◌∷◌}
use Rattle.rules.specs.Words.{ℕ, cond, Option, List, [], take, leb}
use Rattle.rules.specs.declared.Row.{Row}
use Rattle.rules.specs.declared.Notation.{Notation}
use Rattle.rules.specs.declared.Notation.TheVariants.{Routine, Base, Relative}
use Rattle.rules.specs.Numbers.{at}

-- The range of a field.
pub record Range : Type 0 where
  pub low : ℕ
  pub high : ℕ

abbrev range : ℕ → ℕ → Range
range low high = record { low = low; high = high }

-- An action or a label is 1..999, a number 0..9,999.
abbrev action : Range
action = range 1 999

abbrev label : Range
label = range 1 999

abbrev number : Range
number = range 0 9999

abbrev unlisted : Range
unlisted = range 0 0

-- A row: the ranges of x and y, and the places added in the base of a routine of n records: `once`, and `each` times n.
abbrev row : Range → Range → ℕ → ℕ → Row
row x y once each = record { xmin = x.low; xmax = x.high; ymin = y.low; ymax = y.high; once = once; each = each }

unfoldable pub rows : List Row
rows =
    row action unlisted 0 0  -- 1   a
    ∷ row action unlisted 0 0  -- 2   +a
    ∷ row action unlisted 0 0  -- 3   -a
    ∷ row number unlisted 0 0  -- 4   ##k
    ∷ row label unlisted 0 0  -- 5   [s]
    ∷ row label unlisted 0 0  -- 6   ##[s]
    ∷ row label label 0 0  -- 7   ##[s][t]
    ∷ row action unlisted 1 0  -- 8   +a{
    ∷ row action unlisted 1 0  -- 9   -a{
    ∷ row unlisted unlisted 0 0  -- 10  }{
    ∷ row unlisted unlisted 0 0  -- 11  }
    ∷ row action unlisted 1 0  -- 12  +a{*
    ∷ row action unlisted 1 0  -- 13  -a{*
    ∷ row unlisted unlisted 0 0  -- 14  *}
    ∷ row number unlisted 1 0  -- 15  R##k
    ∷ row unlisted unlisted 0 6  -- 16  ##R
    ∷ []

-- A relative base holds 17 (forward x), 18 (backward x) and 19 (stop) in place of jumps.
unfoldable pub relative_rows : List Row
relative_rows = row number unlisted 0 0 ∷ row number unlisted 0 0 ∷ row unlisted unlisted 0 0 ∷ []

-- The row of a kind in each of the three notations: none where the kind is not of the notation. A base holds kinds 1 to 4 only,
-- a relative base kinds 1 to 3 and 17 to 19.
unfoldable pub row_of : Notation → ℕ → Option Row
row_of Routine k = at rows k
row_of Base k = at (take 4 rows) k
row_of Relative k = cond (leb k 3) (at rows k) (at relative_rows (k - 16))

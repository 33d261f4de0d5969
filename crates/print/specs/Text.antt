-- Text, byte for byte: words, numbers in decimal, and forms that are filled with numbers.
use Prim.Native.Char.{code}
use Prim.Native.String.{String}
use Prim.Native.String as text
use Rattle.std.specs.Prelude.{◌+◌, ◌/◌, ◌%◌, ◌∷◌, ◌++◌}
use Rattle.rules.specs.Words.{ℕ, zero, suc, cond, List, [], eqb, ltb}

-- The bytes of a word.
abbrev pub ascii : String → List ℕ
ascii text.[] = []
ascii (text.◌∷◌ c word) = code c ∷ ascii word

-- A number in decimal, without leading zeros: its last digit behind those of its tenth. `most` is a bound on how many there are.
abbrev pub digit : ℕ → ℕ
digit d = 48 + d

unfoldable pub digits : ℕ → ℕ → List ℕ
digits zero n = []
digits (suc most) n = let before = digits most (n / 10) in cond (ltb n 10) (digit n ∷ []) (before ++ (digit (n % 10) ∷ []))

unfoldable pub decimal : ℕ → List ℕ
decimal n = digits (suc n) n

-- In a form x and y stand for two numbers, a dot for nothing, and every other sign for itself.
unfoldable pub filled_sign : ℕ → ℕ → ℕ → List ℕ
filled_sign x y p =
    cond (eqb p (code "x")) (decimal x)
    (cond (eqb p (code "y")) (decimal y)
    (cond (eqb p (code ".")) []
    (p ∷ [])))

unfoldable pub filled : List ℕ → ℕ → ℕ → List ℕ
filled [] x y = []
filled (p ∷ ps) x y = filled_sign x y p ++ filled ps x y

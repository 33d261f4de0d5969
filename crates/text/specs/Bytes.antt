-- The bytes that a text is made of.
use Prim.Native.Char.{code}
use Prim.Native.String.{String}
use Prim.Native.String as text
use Rattle.std.specs.Prelude.{◌&&◌, ◌||◌, ◌∷◌}
use Rattle.rules.specs.Words.{ℕ, zero, suc, Bool, cond, List, [], length, get_or, eqb, leb}
use Rattle.text.specs.declared.Sort.{Sort}
use Rattle.text.specs.declared.Sort.TheVariants.{Blank, Digit, Named}

-- The bytes of a word.
abbrev pub ascii : String → List ℕ
ascii text.[] = []
ascii (text.◌∷◌ c word) = code c ∷ ascii word

-- Bytes 9, 10, 13 and 32 are free around instructions.
unfoldable pub blank : ℕ → Bool
blank b = eqb b 9 || eqb b 10 || eqb b 13 || eqb b 32

-- 0 to 9, and A to Z, a to z.
unfoldable pub digit : ℕ → Bool
digit b = leb 48 b && leb b 57

unfoldable pub letter : ℕ → Bool
letter b = leb 65 b && leb b 90 || leb 97 b && leb b 122

unfoldable pub in_sort : Sort → ℕ → Bool
in_sort Blank b = blank b
in_sort Digit b = digit b
in_sort Named b = digit b || letter b

-- The byte of a text behind its first `at`; past the end 0, which no text has.
abbrev pub byte_at : List ℕ → ℕ → ℕ
byte_at w at = get_or w at 0

-- The bytes of a sort that follow one another from `at` on, n of them at most, and how many they are.
unfoldable pub run : Sort → List ℕ → ℕ → ℕ → List ℕ
run c w at zero = []
run c w at (suc n) = let later = run c w (suc at) n in cond (in_sort c (byte_at w at)) (byte_at w at ∷ later) []

abbrev pub span : Sort → List ℕ → ℕ → ℕ → ℕ
span c w at n = length (run c w at n)

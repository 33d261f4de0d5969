-- What a text is, as a grammar: nothing here says how it is read.
use Rattle.std.specs.Prelude.{◌≡◌, ◌≤◌, ◌<◌, ◌∷◌, ◌++◌}
use Prim.Native.Char.{code}
use Rattle.rules.specs.Words.{ℕ, suc, true, List, [], length}
use Rattle.text.specs.declared.Sort.{Sort}
use Rattle.text.specs.declared.Sort.TheVariants.{Blank, Digit, Named}
use Rattle.text.specs.Bytes.{in_sort}
use Rattle.text.specs.Forms.{itself, name, number, part_of, signs_of}

-- All bytes are of the sort.
abbrev pub All : Sort → List ℕ → Type 0
All c [] = Unit {0}
All c (b ∷ u) = (in_sort c b ≡ true) × All c u

-- What the signs of a form may be written as.
pub data Form : List ℕ → List ℕ → Type 0 where
  done : Form [] []
  sign : {p : ℕ} {ps u : List ℕ} → part_of p ≡ itself → Form ps u → Form (p ∷ ps) (p ∷ u)
  named : {p : ℕ} {ps : List ℕ} (n : List ℕ) {u : List ℕ} → part_of p ≡ name → All Named n → 1 ≤ length n → length n ≤ 16 → Form ps u → Form (p ∷ ps) (n ++ u)
  numbered : {p : ℕ} {ps : List ℕ} (n : List ℕ) {u : List ℕ} → part_of p ≡ number → All Digit n → 1 ≤ length n → length n ≤ 4 → Form ps u → Form (p ∷ ps) (n ++ u)

-- Instructions parted by `;`, with blanks around them.
pub data Instructions : List ℕ → Type 0 where
  last : (i : ℕ) (b u c : List ℕ) → i < 17 → All Blank b → Form (signs_of (suc i)) u → All Blank c → Instructions (b ++ (u ++ c))
  more : (i : ℕ) (b u c : List ℕ) {v : List ℕ} → i < 17 → All Blank b → Form (signs_of (suc i)) u → All Blank c → Instructions v → Instructions (b ++ (u ++ (c ++ (code ";" ∷ v))))

pub data Text : List ℕ → Type 0 where
  blanks : (b : List ℕ) → All Blank b → Text b
  some : {v : List ℕ} → Instructions v → Text v

-- The beginning of some text.
abbrev pub Start : List ℕ → Type 0
Start u = (v : List ℕ) × Text (u ++ v)

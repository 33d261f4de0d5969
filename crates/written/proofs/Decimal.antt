-- A number in decimal: its digits, how many they are, and that they are worth the number.
use mathlib.Core.Path.{◌≡◌, refl, sym, ap, ◌∙◌}
use Prim.Native.Nat.{◌≤◌, ◌<◌}
use native.Mathlib.Omega.{arith}
use lib.ListN.{length-append}
use borrow.Author.Tests.{le-leb, leb-true, lt-ltb, ltb-true, ltb-false}
use Rattle.std.specs.Prelude.{◌+◌, ◌*◌, ◌-◌, ◌/◌, ◌%◌, ◌∷◌, ◌++◌}
use Rattle.rules.specs.Words.{ℕ, zero, suc, true, List, [], length, leb, ltb}
use Rattle.text.specs.declared.Sort.{Sort}
use Rattle.text.specs.declared.Sort.TheVariants.{Digit, Named}
use Rattle.text.specs.Bytes.{digit, letter, in_sort}
use Rattle.text.specs.Names.{value_of, digits_at, number_at}
use Rattle.text.specs.Writing.{digits, decimal, label_name}
use Rattle.text.specs.Grammar.{All}
use Rattle.text.proofs.Tests.{by_test}
use Rattle.grammar.proofs.Runs.{span_most, run_all}
use Rattle.grammar.proofs.Instructions.{digit-named}
use Rattle.written.proofs.Truth.{and_right}

all_append : (c : Sort) (u v : List ℕ) → All c u → All c v → All c (u ++ v)
all_append c [] v p q = q
all_append c (b ∷ u) v p q = (p.0, all_append c u v p.1 q)

all_named : (u : List ℕ) → All Digit u → All Named u
all_named [] p = tt
all_named (b ∷ u) p = (digit-named b p.0, all_named u p.1)

-- ## Each is a digit

is_digit : (n : ℕ) → n < 10 → in_sort Digit (48 + n) ≡ true
unfolding in_sort digit
is_digit n h = rw (le-leb 48 (48 + n) (omega arith), le-leb (48 + n) 57 (omega arith))

all_digits : (m n : ℕ) → All Digit (digits m n)
unfolding digits
all_digits zero n = tt
all_digits (suc m) n =
    by_test (ltb n 10)
    (λ t. rw t (is_digit n (ltb-true n 10 t), tt))
    (λ t. rw t (all_append Digit (digits m (n / 10)) _ (all_digits m (n / 10)) (is_digit (n % 10) (omega arith), tt)))

pub decimal-digits : (n : ℕ) → All Digit (decimal n)
decimal-digits n = all_digits (suc n) n

-- ## How many

abbrev tens : ℕ → ℕ
tens zero = 1
tens (suc j) = 10 * tens j

digits_most : (j m n : ℕ) → n < tens (suc j) → length (digits m n) ≤ suc j
unfolding digits
digits_most j zero n h = omega arith
digits_most zero (suc m) n h = rw (lt-ltb n 10 (omega arith)) (omega arith)
digits_most (suc j) (suc m) n h =
    by_test (ltb n 10)
    (λ t. rw t (omega arith))
    (λ t. let q : n / 10 < tens (suc j) = omega arith in
    let r : length (digits m (n / 10)) ≤ suc j = digits_most j m (n / 10) q in
    rw t (omega (arith, length-append (digits m (n / 10)) ((48 + n % 10) ∷ []))))

digits-some : (m n : ℕ) → 1 ≤ length (digits (suc m) n)
unfolding digits
digits-some m n =
    by_test (ltb n 10)
    (λ t. rw t (omega arith))
    (λ t. rw t (omega (arith, length-append (digits m (n / 10)) ((48 + n % 10) ∷ []))))

pub decimal-some : (n : ℕ) → 1 ≤ length (decimal n)
decimal-some n = digits-some n n

pub decimal_most : (n : ℕ) → n ≤ 9999 → length (decimal n) ≤ 4
decimal_most n h = digits_most 3 (suc n) n (omega arith)

-- ## What they are worth

value_append : (u : List ℕ) (d v : ℕ) → value_of (u ++ (d ∷ [])) v ≡ 10 * value_of u v + (d - 48)
unfolding value_of
value_append [] d v = refl
value_append (b ∷ u) d v = value_append u d (10 * v + (b - 48))

digits_value : (m n : ℕ) → n ≤ m → value_of (digits (suc m) n) 0 ≡ n
unfolding digits value_of
digits_value zero n h = rw (lt-ltb n 10 (omega arith)) (omega arith)
digits_value (suc m) n h =
    by_test (ltb n 10)
    (λ t. rw t (omega arith))
    (λ t. let l = ltb-false n 10 t in
    let r : value_of (digits (suc m) (n / 10)) 0 ≡ n / 10 = digits_value m (n / 10) (omega arith) in
    rw t (value_append (digits (suc m) (n / 10)) (48 + n % 10) 0 ∙ rw r (omega arith)))

pub decimal_value : (n : ℕ) → value_of (decimal n) 0 ≡ n
decimal_value n = digits_value n n (omega arith)

-- ## The number of at most four digits

abbrev tens_of : ℕ → ℕ → ℕ
tens_of zero b = b
tens_of (suc k) b = tens_of k (10 * b)

tens_grow : (k b : ℕ) → b ≤ tens_of k b
tens_grow zero b = omega arith
tens_grow (suc k) b = omega (arith, tens_grow k (10 * b))

digit_most : (b : ℕ) → in_sort Digit b ≡ true → b ≤ 57
unfolding in_sort digit
digit_most b h = leb-true b 57 (and_right (leb 48 b) _ h)

value_most : (u : List ℕ) (v k b : ℕ) → All Digit u → v < b → length u ≤ k → value_of u v < tens_of k b
unfolding value_of
value_most [] v k b p h l = omega (arith, tens_grow k b)
value_most (d ∷ u) v zero b p h l = absurd (omega arith)
value_most (d ∷ u) v (suc k) b p h l = value_most u (10 * v + (d - 48)) k (10 * b) p.1 (omega (arith, digit_most d p.0)) (omega arith)

pub number_most : (w : List ℕ) (at : ℕ) → number_at w at ≤ 9999
number_most w at = let h : number_at w at < 10000 = value_most (digits_at w at) 0 4 1 (run_all Digit w at 4) (omega arith) (span_most Digit w at 4) in omega arith

-- ## Names of labels

pub label_all : (n : ℕ) → All Named (label_name n)
unfolding in_sort digit letter
label_all n = (refl, all_named (decimal n) (decimal-digits n))

pub label_most : (n : ℕ) → n ≤ 9999 → length (label_name n) ≤ 16
label_most n h = omega (arith, decimal_most n h)

pub label_differs : (n m : ℕ) → label_name n ≡ label_name m → n ≡ m
label_differs n m e =
    let d : decimal n ≡ decimal m = cc in
    sym (decimal_value n) ∙ ap (λ (u : List ℕ). value_of u 0) d ∙ decimal_value m

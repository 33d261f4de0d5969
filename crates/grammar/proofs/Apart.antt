-- Of two forms at most one is whole, and where one is, the other goes less far. So where a form is whole, it is the one that the text
-- follows furthest. By one test over all pairs of forms; only a name and R##k are apart for another reason.
use mathlib.Core.Path.{◌≡◌, refl, sym, ap, ◌∙◌, subst}
use mathlib.Core.Logic.{⊎_elim}
use Prim.Native.Nat.{◌≤◌, ◌<◌}
use Prim.Native.Char.{code}
use native.Mathlib.Nat.{not-suc-le-zero, le_of_suc-le-suc, eq-or-lt_of_le}
use native.Mathlib.Omega.{arith}
use lib.Dec.{T}
use borrow.Author.Tests.{eqb-true, ne_eqb, lt-ltb, le-ltb}
use Rattle.std.specs.Prelude.{◌+◌, ◌&&◌, ◌||◌, ◌∷◌, Result, Ok, Err}
use Rattle.rules.specs.Words.{ℕ, zero, suc, Bool, true, false, not, cond, List, [], length, eqb, ltb}
use Rattle.text.specs.declared.Sort.TheVariants.{Blank, Digit, Named}
use Rattle.text.specs.declared.Fit.{Fit}
use Rattle.text.specs.Bytes.{byte_at, blank, digit, letter, in_sort, run, span}
use Rattle.text.specs.Forms.{signs_of, Part, itself, name, number, part_of, take_run, take_part, take_sign, x_at, y_at, ending, fit, going, follow, fit_of, further, best_to, best_of}
use Rattle.text.proofs.Tests.{by_test, cond_has, never}
use Rattle.text.proofs.Reach.{Reach, take_reach, byte_there}
use Rattle.grammar.proofs.Runs.{span_zero}
use Rattle.grammar.proofs.Accepts.{T_not}
use Rattle.grammar.proofs.Follows.{left, right, positive, forms_positive, above, rest, ending-ahead, follow-ahead}

-- ## The byte that a sign begins with

module _ (p : ℕ) (w : List ℕ) (at : ℕ) where
  abbrev begins : Part → ℕ → Bool
  begins itself b = eqb b p
  begins name b = in_sort Named b
  begins number b = in_sort Digit b

  off_part : (q : Part) → begins q (byte_at w at) ≡ false → take_part q p w at ≡ Err at
  unfolding take_part take_run run
  off_part itself h = rw h
  off_part name h = rw h
  off_part number h = rw h

  off : begins (part_of p) (byte_at w at) ≡ false → take_sign p w at ≡ Err at
  off h = off_part (part_of p) h

  on : (e : ℕ) → take_sign p w at ≡ Ok e → begins (part_of p) (byte_at w at) ≡ true
  on e h = by_test (begins (part_of p) (byte_at w at)) (λ t. t) (λ f. let z : Ok e ≡ Err at = sym h ∙ off f in cc)

-- No byte begins both.
abbrev clash_by : Part → Part → ℕ → ℕ → Bool
clash_by itself itself p q = not (eqb p q)
clash_by itself name p q = not (in_sort Named p)
clash_by itself number p q = not (in_sort Digit p)
clash_by name itself p q = not (in_sort Named q)
clash_by number itself p q = not (in_sort Digit q)
clash_by name name p q = false
clash_by name number p q = false
clash_by number name p q = false
clash_by number number p q = false

abbrev clash : ℕ → ℕ → Bool
clash p q = clash_by (part_of p) (part_of q) p q

clash_by_lem : (m n : Part) (p q b : ℕ) (w : List ℕ) (at : ℕ) → T (clash_by m n p q) → begins p w at m b ≡ true → begins q w at n b ≡ false
clash_by_lem itself itself p q b w at c h = let e : b ≡ p = eqb-true b p h in rw e (T_not (eqb p q) c)
clash_by_lem itself name p q b w at c h = let e : b ≡ p = eqb-true b p h in rw e (T_not (in_sort Named p) c)
clash_by_lem itself number p q b w at c h = let e : b ≡ p = eqb-true b p h in rw e (T_not (in_sort Digit p) c)
clash_by_lem name itself p q b w at c h = ne_eqb b q (λ e. never (sym (rw e at h) ∙ T_not (in_sort Named q) c))
clash_by_lem number itself p q b w at c h = ne_eqb b q (λ e. never (sym (rw e at h) ∙ T_not (in_sort Digit q) c))
clash_by_lem name name p q b w at c h = absurd c
clash_by_lem name number p q b w at c h = absurd c
clash_by_lem number name p q b w at c h = absurd c
clash_by_lem number number p q b w at c h = absurd c

-- Where p is there and q clashes with it, q is not.
clashes : (p q : ℕ) (w : List ℕ) (at e : ℕ) → T (clash p q) → take_sign p w at ≡ Ok e → take_sign q w at ≡ Err at
clashes p q w at e c h = off q w at (clash_by_lem (part_of p) (part_of q) p q (byte_at w at) w at c (on p w at e h))

-- ## Where one form ends and the other does not

-- A sign that stands for itself, and is no blank and no `;`.
abbrev solid_by : Part → ℕ → Bool
solid_by itself q = not (in_sort Blank q) && not (eqb q (code ";"))
solid_by name q = false
solid_by number q = false

record Solid (q : ℕ) : Type 0 where
  self : part_of q ≡ itself
  no-blank : in_sort Blank q ≡ false
  no_semi : eqb q (code ";") ≡ false

solid : (q : ℕ) → T (solid_by (part_of q) q) → Solid q
solid q h = by (part_of q) refl h
  where
    by : (m : Part) → part_of q ≡ m → T (solid_by m q) → Solid q
    by itself e z = record { self = e; no-blank = T_not _ (left (not (in_sort Blank q)) (not (eqb q (code ";"))) z); no_semi = T_not _ (right (not (in_sort Blank q)) (not (eqb q (code ";"))) z) }
    by name e z = absurd z
    by number e z = absurd z

-- Where a solid sign stands, no form ends.
solid_ending : (i q : ℕ) (w : List ℕ) (at x y : ℕ) → Solid q → 0 < q → byte_at w at ≡ q → ending i w at x y ≡ fit i false (at + 0) x y
unfolding ending
solid_ending i q w at x y d pos e =
    let z : span Blank w at (length w) ≡ 0 = span_zero Blank w at (length w) (rw e d.no-blank) in
    let lt : at < length w = byte_there w at (λ n. omega arith) in
    let b : byte_at w (at + 0) ≡ q = let r : at + 0 ≡ at = omega arith in ap (byte_at w) r ∙ e in
    rw (z, ne_eqb (at + 0) (length w) (λ n. omega arith), b, d.no_semi)

-- A form whose first sign is not there stops at once.
stuck : (j q : ℕ) (qs w : List ℕ) (at x y : ℕ) → take_sign q w at ≡ Err at → (follow j (q ∷ qs) w at x y).far ≡ at
unfolding follow
stuck j q qs w at x y e = rw e

-- The first sign of a whole form is there, and the rest is whole.
record There (i p : ℕ) (ps w : List ℕ) (at x y : ℕ) : Type 0 where
  e : ℕ
  is : take_sign p w at ≡ Ok e
  upto : e ≤ length w
  then : (follow i ps w e (x_at p at x) (y_at p at y)).whole ≡ true

there : (i p : ℕ) (ps w : List ℕ) (at x y : ℕ) → 0 < p → at ≤ length w → (follow i (p ∷ ps) w at x y).whole ≡ true → There i p ps w at x y
unfolding follow
there i p ps w at x y pos le h = by (take_sign p w at) refl (take_reach w at p pos le) h
  where
    by : (r : Result ℕ ℕ) → take_sign p w at ≡ r → Reach w at r
        → (going r (λ e. follow i ps w e (x_at p at x) (y_at p at y)) (λ e. fit i false e x y)).whole ≡ true → There i p ps w at x y
    by (Ok e) q g h = record { e = e; is = q; upto = g.1; then = h }
    by (Err e) q g h = never (sym h)

-- One sign in common.
common : (i j p : ℕ) (ps qs w : List ℕ) (at x y x' y' e : ℕ) → take_sign p w at ≡ Ok e
    → (follow j qs w e (x_at p at x') (y_at p at y')).far < (follow i ps w e (x_at p at x) (y_at p at y)).far
    → (follow j (p ∷ qs) w at x' y').far < (follow i (p ∷ ps) w at x y).far
unfolding follow
common i j p ps qs w at x y x' y' e o lt = rw o lt

abbrev apart : List ℕ → List ℕ → Bool
apart [] [] = false
apart [] (q ∷ qs) = solid_by (part_of q) q
apart (p ∷ ps) [] = solid_by (part_of p) p
apart (p ∷ ps) (q ∷ qs) = cond (eqb p q) (apart ps qs) (clash p q)

module _ (i j : ℕ) (w : List ℕ) where
  not_at-end : (p : ℕ) (ps : List ℕ) (at x y x' y' : ℕ) → T (solid_by (part_of p) p) → T (positive (p ∷ ps)) → at ≤ length w
      → (follow i (p ∷ ps) w at x y).whole ≡ true → (ending j w at x' y').far < (follow i (p ∷ ps) w at x y).far
  not_at-end p ps at x y x' y' c ok le h =
      let d = solid p c in
      let o = there i p ps w at x y (above p ps ok) le h in
      let b : byte_at w at ≡ p = eqb-true (byte_at w at) p (rw d.self at (on p w at o.e o.is)) in
      let lt : at < (follow i (p ∷ ps) w at x y).far = follow-ahead i w (p ∷ ps) at x y ok le h in
      rw (solid_ending j p w at x' y' d (above p ps ok) b) (omega arith)

  clashing : (p q : ℕ) (ps qs : List ℕ) (at x y x' y' : ℕ) → T (clash p q) → T (positive (p ∷ ps)) → at ≤ length w
      → (follow i (p ∷ ps) w at x y).whole ≡ true → (follow j (q ∷ qs) w at x' y').far < (follow i (p ∷ ps) w at x y).far
  clashing p q ps qs at x y x' y' c ok le h =
      let o = there i p ps w at x y (above p ps ok) le h in
      let lt : at < (follow i (p ∷ ps) w at x y).far = follow-ahead i w (p ∷ ps) at x y ok le h in
      rw (stuck j q qs w at x' y' (clashes p q w at o.e c o.is)) lt

  -- Where the first form is whole, the second goes less far.
  lock : (ps qs : List ℕ) (at x y x' y' : ℕ) → T (apart ps qs) → T (positive ps) → T (positive qs) → at ≤ length w
      → (follow i ps w at x y).whole ≡ true → (follow j qs w at x' y').far < (follow i ps w at x y).far
  unfolding follow
  lock [] [] at x y x' y' c ok ok' le h = absurd c
  lock [] (q ∷ qs) at x y x' y' c ok ok' le h =
      let d = solid q c in
      let f : eqb (byte_at w at) q ≡ false = ne_eqb (byte_at w at) q (λ e. never (sym h ∙ ap (λ (g : Fit). g.whole) (solid_ending i q w at x y d (above q qs ok') e))) in
      let o : take_sign q w at ≡ Err at = off q w at (rw d.self f) in
      let lt : at < (ending i w at x y).far = ending-ahead i w at x y h in
      rw o lt
  lock (p ∷ ps) [] at x y x' y' c ok ok' le h = not_at-end p ps at x y x' y' c ok le h
  lock (p ∷ ps) (q ∷ qs) at x y x' y' c ok ok' le h =
      by (λ e u v u' v' c'. lock ps qs e u v u' v' c' (rest p ps ok) (rest q qs ok')) (eqb p q) refl c
    where
      by : ((e u v u' v' : ℕ) → T (apart ps qs) → e ≤ length w → (follow i ps w e u v).whole ≡ true → (follow j qs w e u' v').far < (follow i ps w e u v).far)
          → (b : Bool) → eqb p q ≡ b → T (cond b (apart ps qs) (clash p q)) → (follow j (q ∷ qs) w at x' y').far < (follow i (p ∷ ps) w at x y).far
      by go true e c =
          let d : p ≡ q = eqb-true p q e in
          let o = there i p ps w at x y (above p ps ok) le h in
          subst (λ (n : ℕ). (follow j (n ∷ qs) w at x' y').far < (follow i (p ∷ ps) w at x y).far) d
          (common i j p ps qs w at x y x' y' o.e o.is
          (go o.e (x_at p at x) (y_at p at y) (x_at p at x') (y_at p at y') c o.upto o.then))
      by go false e c = clashing p q ps qs at x y x' y' c ok le h

-- ## The one pair that is not apart sign by sign: a name, form 1, and R##k, form 15

-- `R#`: the name is R alone.
run_one : (w : List ℕ) (at : ℕ) → byte_at w at ≡ 82 → byte_at w (suc at) ≡ 35 → take_sign 97 w at ≡ Ok (at + 1)
unfolding part_of take_part take_run run in_sort digit letter
run_one w at e f = rw (e, f)

solid_hash : Solid 35
unfolding part_of in_sort blank
solid_hash = record { self = refl; no-blank = refl; no_semi = refl }

take_R : (w : List ℕ) (at : ℕ) → byte_at w at ≡ 82 → take_sign 82 w at ≡ Ok (at + 1)
unfolding part_of take_part
take_R w at e = rw e

self_R : part_of 82 ≡ itself
unfolding part_of
self_R = refl

-- The byte under a sign that stands for itself.
byte_is : (p : ℕ) (w : List ℕ) (at e : ℕ) → part_of p ≡ itself → take_sign p w at ≡ Ok e → byte_at w at ≡ p
byte_is p w at e s o = eqb-true (byte_at w at) p (rw s at (on p w at e o))

module _ (w : List ℕ) (at : ℕ) (le : at ≤ length w) where
  -- Where R##k is whole, the name stops at the #.
  call_first : (x y x' y' : ℕ) → (follow 15 (82 ∷ 35 ∷ 35 ∷ 107 ∷ []) w at x y).whole ≡ true
      → (follow 1 (97 ∷ []) w at x' y').far < (follow 15 (82 ∷ 35 ∷ 35 ∷ 107 ∷ []) w at x y).far
  unfolding follow
  call_first x y x' y' h =
      let o = there 15 82 (35 ∷ 35 ∷ 107 ∷ []) w at x y (omega arith) le h in
      let b : byte_at w at ≡ 82 = byte_is 82 w at o.e self_R o.is in
      let r : take_sign 82 w at ≡ Ok (at + 1) = take_R w at b in
      let h' : (follow 15 (35 ∷ 35 ∷ 107 ∷ []) w (at + 1) (x_at 82 at x) (y_at 82 at y)).whole ≡ true = rw r at h in
      let lt : at < length w = byte_there w at (λ z. omega arith) in
      let o' = there 15 35 (35 ∷ 107 ∷ []) w (at + 1) (x_at 82 at x) (y_at 82 at y) (omega arith) (omega arith) h' in
      let b' : byte_at w (at + 1) ≡ 35 = byte_is 35 w (at + 1) o'.e solid_hash.self o'.is in
      let s : at + 1 ≡ suc at = omega arith in
      let n : take_sign 97 w at ≡ Ok (at + 1) = run_one w at b (rw s at b') in
      let f : at + 1 < (follow 15 (35 ∷ 35 ∷ 107 ∷ []) w (at + 1) (x_at 82 at x) (y_at 82 at y)).far = follow-ahead 15 w (35 ∷ 35 ∷ 107 ∷ []) (at + 1) (x_at 82 at x) (y_at 82 at y) tt (omega arith) h' in
      rw (n, r, solid_ending 1 35 w (at + 1) (x_at 97 at x') (y_at 97 at y') solid_hash (omega arith) b') (omega arith)

  -- Where a name that begins with R is whole, R##k stops at the next byte.
  second_byte : (x y x' y' : ℕ) → (follow 1 (97 ∷ []) w at x y).whole ≡ true → byte_at w at ≡ 82
      → (follow 15 (82 ∷ 35 ∷ 35 ∷ 107 ∷ []) w at x' y').far < (follow 1 (97 ∷ []) w at x y).far
  unfolding follow
  second_byte x y x' y' h b =
      let o = there 1 97 [] w at x y (omega arith) le h in
      let g : Reach w at (Ok o.e) = subst (λ (r : Result ℕ ℕ). Reach w at r) o.is (take_reach w at 97 (omega arith) le) in
      let r : take_sign 82 w at ≡ Ok (at + 1) = take_R w at b in
      let s : at + 1 ≡ suc at = omega arith in
      let ne : byte_at w (at + 1) ≡ 35 → ⊥ = λ f.
      let n : take_sign 97 w at ≡ Ok (at + 1) = run_one w at b (rw s at f) in
      let z : Ok o.e ≡ Ok (at + 1) = sym o.is ∙ n in
      let e : o.e ≡ at + 1 = cc in
      never (sym o.then ∙ ap (λ (q : Fit). q.whole) (solid_ending 1 35 w o.e (x_at 97 at x) (y_at 97 at y) solid_hash (omega arith) (rw e f))) in
      let f : take_sign 35 w (at + 1) ≡ Err (at + 1) = off 35 w (at + 1) (rw solid_hash.self (ne_eqb (byte_at w (at + 1)) 35 ne)) in
      let lt : o.e < (ending 1 w o.e (x_at 97 at x) (y_at 97 at y)).far = ending-ahead 1 w o.e (x_at 97 at x) (y_at 97 at y) o.then in
      rw (r, f, o.is) (omega (arith, g.0))

  -- Where a name is whole, R##k stops at or before the name's end.
  name_first : (x y x' y' : ℕ) → (follow 1 (97 ∷ []) w at x y).whole ≡ true
      → (follow 15 (82 ∷ 35 ∷ 35 ∷ 107 ∷ []) w at x' y').far < (follow 1 (97 ∷ []) w at x y).far
  name_first x y x' y' h =
      let lt : at < (follow 1 (97 ∷ []) w at x y).far = follow-ahead 1 w (97 ∷ []) at x y tt le h in
      by_test (eqb (byte_at w at) 82)
      (λ t. second_byte x y x' y' h (eqb-true (byte_at w at) 82 t))
      (λ t. rw (stuck 15 82 (35 ∷ 35 ∷ 107 ∷ []) w at x' y' (off 82 w at (rw self_R t))) lt)

-- ## All pairs

abbrev pub all_to : ℕ → (ℕ → Bool) → Bool
all_to zero f = true
all_to (suc n) f = f n && all_to n f

pub upto : (n : ℕ) (f : ℕ → Bool) (i : ℕ) → T (all_to n f) → i < n → T (f i)
upto zero f i h lt = absurd (not-suc-le-zero lt)
upto (suc n) f i h lt =
    ⊎_elim (λ (e : i ≡ n). subst (λ (m : ℕ). T (f m)) (sym e) (left (f n) (all_to n f) h)) (λ (l : i < n). upto n f i (right (f n) (all_to n f) h) l)
    (eq-or-lt_of_le (le_of_suc-le-suc lt))

abbrev same_or_R : ℕ → ℕ → Bool
same_or_R i j = eqb i j || eqb i 0 && eqb j 14 || eqb i 14 && eqb j 0

abbrev pairs : ℕ → ℕ → Bool
pairs i j = same_or_R i j || apart (signs_of (suc i)) (signs_of (suc j))

all_pairs : T (all_to 17 (λ i. all_to 17 (λ j. pairs i j)))
unfolding part_of in_sort blank digit letter
all_pairs = tt

-- Where form i + 1 is whole, every other goes less far.
less : (i j : ℕ) (w : List ℕ) (at : ℕ) → i < 17 → j < 17 → (i ≡ j → ⊥) → at ≤ length w → (fit_of (suc i) w at).whole ≡ true → (fit_of (suc j) w at).far < (fit_of (suc i) w at).far
less i j w at hi hj ne le h = by (same_or_R i j) refl (upto 17 (λ j. pairs i j) j (upto 17 (λ i. all_to 17 (λ j. pairs i j)) i all_pairs hi) hj)
  where
    special : same_or_R i j ≡ true → (fit_of (suc j) w at).far < (fit_of (suc i) w at).far
    special s =
        by_test (eqb i 0)
        (λ e. let a : i ≡ 0 = eqb-true i 0 e in
        by_test (eqb j 14)
        (λ f. let b : j ≡ 14 = eqb-true j 14 f in rw (a, b) (name_first w at le 0 0 0 0 (rw a at h)))
        (λ f. never (sym (rw (ne_eqb i j ne, a, f) at s))))
        (λ e. by_test (eqb i 14)
        (λ f. let a : i ≡ 14 = eqb-true i 14 f in
        by_test (eqb j 0)
        (λ g. let b : j ≡ 0 = eqb-true j 0 g in rw (a, b) (call_first w at le 0 0 0 0 (rw a at h)))
        (λ g. never (sym (rw (ne_eqb i j ne, a, g) at s))))
        (λ f. never (sym (rw (ne_eqb i j ne, e, f) at s))))

    by : (b : Bool) → same_or_R i j ≡ b → T (b || apart (signs_of (suc i)) (signs_of (suc j))) → (fit_of (suc j) w at).far < (fit_of (suc i) w at).far
    by true s z = special s
    by false s z = lock (suc i) (suc j) w (signs_of (suc i)) (signs_of (suc j)) at 0 0 0 0 z (forms_positive (suc i)) (forms_positive (suc j)) le h

-- ## The best form is the whole one

module _ (i : ℕ) (w : List ℕ) (at : ℕ) (hi : i < 17) (le : at ≤ length w) (h : (fit_of (suc i) w at).whole ≡ true) where
  before : (n : ℕ) → n ≤ i → (best_to w at n).far < (fit_of (suc i) w at).far
  unfolding best_to further
  before zero lt = follow-ahead (suc i) w (signs_of (suc i)) at 0 0 (forms_positive (suc i)) le h
  before (suc n) lt =
      let b : (best_to w at n).far < (fit_of (suc i) w at).far = before n (omega arith) in
      cond_has (λ (f : Fit). f.far < (fit_of (suc i) w at).far) (ltb (best_to w at n).far (fit_of (suc n) w at).far) (fit_of (suc n) w at) (best_to w at n)
      (λ _. less i n w at hi (omega arith) (λ e. omega arith) le h) (λ _. b)

  after : (n : ℕ) → i < n → n ≤ 17 → best_to w at n ≡ fit_of (suc i) w at
  unfolding best_to further
  after zero lo hn = absurd (not-suc-le-zero lo)
  after (suc n) lo hn =
      ⊎_elim
      (λ (e : i ≡ n). let b : (best_to w at n).far < (fit_of (suc n) w at).far = subst (λ (m : ℕ). (best_to w at n).far < (fit_of (suc m) w at).far) e (before n (omega arith)) in
      rw (lt-ltb (best_to w at n).far (fit_of (suc n) w at).far b) (ap (λ (m : ℕ). fit_of (suc m) w at) (sym e)))
      (λ (l : i < n). let b : best_to w at n ≡ fit_of (suc i) w at = after n l (omega arith) in
      let g : (fit_of (suc n) w at).far < (fit_of (suc i) w at).far = less i n w at hi hn (λ e. omega arith) le h in
      rw (b, le-ltb (fit_of (suc i) w at).far (fit_of (suc n) w at).far (omega arith)))
      (eq-or-lt_of_le (le_of_suc-le-suc lo))

  pub best_is : best_of w at ≡ fit_of (suc i) w at
  best_is = after 17 hi (omega arith)

-- What the grammar has, its form follows to the end: a form's bytes, with nothing of a name behind them, are followed to the form's
-- ending, and with blanks and `;` or the end of the text behind them the form is whole.
use mathlib.Core.Path.{◌≡◌, refl, ap, ◌∙◌, subst}
use Prim.Native.Nat.{◌≤◌}
use Prim.Native.Char.{code}
use native.Mathlib.Omega.{arith}
use mathlib.Core.List.{append_assoc}
use lib.Dec.{T}
use lib.ListN.{length-append}
use lib.Seq.{get_or-append_seam, get_or-append-add, append_snoc}
use borrow.Author.Tests.{eq-eqb, ne_eqb, le-leb, eqb-true}
use Rattle.std.specs.Prelude.{◌+◌, ◌&&◌, ◌||◌, ◌∷◌, ◌++◌, Ok}
use Rattle.rules.specs.Words.{ℕ, suc, Bool, true, false, not, List, [], length, eqb}
use Rattle.text.specs.declared.Sort.{Sort}
use Rattle.text.specs.declared.Sort.TheVariants.{Blank, Digit, Named}
use Rattle.text.specs.Bytes.{byte_at, digit, letter, blank, in_sort, span}
use Rattle.text.specs.Forms.{signs_of, Part, itself, name, number, part_of, take_run, take_part, take_sign, x_at, y_at, ending, fit, follow, fit_of}
use Rattle.text.specs.Grammar.{All, Form, done, sign, named, numbered}
use Rattle.text.proofs.Tests.{by_test, never}
use Rattle.grammar.proofs.Runs.{span_exact}
use Rattle.grammar.proofs.Follows.{left, right, each_form}

-- ## One sign

-- No name goes on at the start of z.
abbrev pub Stops : List ℕ → Type 0
Stops z = in_sort Named (byte_at z 0) ≡ false

-- What ends a name ends a number.
pub stops-digit : (b : ℕ) → in_sort Named b ≡ false → in_sort Digit b ≡ false
unfolding in_sort
stops-digit b h = by (digit b) h
  where
    by : (q : Bool) → (q || letter b) ≡ false → q ≡ false
    by true e = never e
    by false e = refl

-- A run of the right length.
run_there : (c : Sort) (most : ℕ) (pre n z : List ℕ) → All c n → 1 ≤ length n → length n ≤ most → in_sort c (byte_at z 0) ≡ false
    → take_run c most (pre ++ (n ++ z)) (length pre) ≡ Ok (length pre + length n)
unfolding take_run
run_there c most pre n z p lo hi h =
    rw (span_exact c pre n z (suc most) p (omega arith) h, ne_eqb (length n) 0 (omega arith), le-leb (length n) most hi)

module _ (p : ℕ) (pre : List ℕ) where
  as_part : (q : Part) (w : List ℕ) (at : ℕ) → part_of p ≡ q → take_sign p w at ≡ take_part q p w at
  as_part q w at h = ap (λ (r : Part). take_part r p w at) h

  take_sign_lem : (z : List ℕ) → part_of p ≡ itself → take_sign p (pre ++ (p ∷ z)) (length pre) ≡ Ok (length pre + 1)
  unfolding take_part
  take_sign_lem z h = as_part itself _ _ h ∙ rw (eq-eqb (byte_at (pre ++ (p ∷ z)) (length pre)) p (get_or-append_seam pre p z 0))

  take_name : (n z : List ℕ) → part_of p ≡ name → All Named n → 1 ≤ length n → length n ≤ 16 → Stops z → take_sign p (pre ++ (n ++ z)) (length pre) ≡ Ok (length pre + length n)
  unfolding take_part
  take_name n z h al lo hi st = as_part name _ _ h ∙ run_there Named 16 pre n z al lo hi st

  take_number : (n z : List ℕ) → part_of p ≡ number → All Digit n → 1 ≤ length n → length n ≤ 4 → Stops z → take_sign p (pre ++ (n ++ z)) (length pre) ≡ Ok (length pre + length n)
  unfolding take_part
  take_number n z h al lo hi st = as_part number _ _ h ∙ run_there Digit 4 pre n z al lo hi (stops-digit (byte_at z 0) st)

-- ## All signs: behind each name or number of a form stands a sign that no name has, or the form's end

abbrev pub alone : Part → ℕ → Bool
alone itself q = not (in_sort Named q)
alone name q = false
alone number q = false

abbrev pub head_is_ok : List ℕ → Bool
head_is_ok [] = true
head_is_ok (q ∷ qs) = alone (part_of q) q

abbrev pub ok_after : Part → List ℕ → Bool
ok_after itself ps = true
ok_after name ps = head_is_ok ps
ok_after number ps = head_is_ok ps

abbrev pub spaced : List ℕ → Bool
spaced [] = true
spaced (p ∷ ps) = ok_after (part_of p) ps && spaced ps

pub T_not : (b : Bool) → T (not b) → b ≡ false
T_not true h = absurd h
T_not false h = refl

pub head_stops : {ps u : List ℕ} (z : List ℕ) → Form ps u → T (head_is_ok ps) → Stops z → Stops (u ++ z)
head_stops z done ok st = st
head_stops z (sign {p} e f) ok st = T_not (in_sort Named p) (subst (λ (q : Part). T (alone q p)) e ok)
head_stops z (named {p} n e al lo hi f) ok st = absurd (subst (λ (q : Part). T (alone q p)) e ok)
head_stops z (numbered {p} n e al lo hi f) ok st = absurd (subst (λ (q : Part). T (alone q p)) e ok)

pub head_ok : (q : Part) (p : ℕ) (ps : List ℕ) → part_of p ≡ q → T (spaced (p ∷ ps)) → T (ok_after q ps)
head_ok q p ps e ok = subst (λ (r : Part). T (ok_after r ps)) e (left (ok_after (part_of p) ps) (spaced ps) ok)

pub rest_ok : (p : ℕ) (ps : List ℕ) → T (spaced (p ∷ ps)) → T (spaced ps)
rest_ok p ps ok = right (ok_after (part_of p) ps) (spaced ps) ok

-- Where the names of a form stand that starts at `at`.
abbrev pub x_in : {ps u : List ℕ} → Form ps u → ℕ → ℕ → ℕ
x_in done at x = x
x_in (sign {p} e f) at x = x_in f (at + 1) (x_at p at x)
x_in (named {p} n e al lo hi f) at x = x_in f (at + length n) (x_at p at x)
x_in (numbered {p} n e al lo hi f) at x = x_in f (at + length n) (x_at p at x)

abbrev pub y_in : {ps u : List ℕ} → Form ps u → ℕ → ℕ → ℕ
y_in done at y = y
y_in (sign {p} e f) at y = y_in f (at + 1) (y_at p at y)
y_in (named {p} n e al lo hi f) at y = y_in f (at + length n) (y_at p at y)
y_in (numbered {p} n e al lo hi f) at y = y_in f (at + length n) (y_at p at y)

-- The form followed to its ending.
pub record Reached (i : ℕ) (ps w : List ℕ) (from to x y x' y' : ℕ) : Type 0 where
  pub reaches : follow i ps w from x y ≡ ending i w to x' y'

then : {i p : ℕ} {ps w : List ℕ} {from mid to x' y' : ℕ} (x y : ℕ) → take_sign p w from ≡ Ok mid → Reached i ps w mid to (x_at p from x) (y_at p from y) x' y'
    → Reached i (p ∷ ps) w from to x y x' y'
unfolding follow
then x y e r = record { reaches = rw e r.reaches }

on_sign : (i p : ℕ) (ps u z pre : List ℕ) (x y x' y' : ℕ) → part_of p ≡ itself
    → Reached i ps ((pre ++ (p ∷ [])) ++ (u ++ z)) (length (pre ++ (p ∷ []))) (length (pre ++ (p ∷ [])) + length u) (x_at p (length pre) x) (y_at p (length pre) y) x' y'
    → Reached i (p ∷ ps) (pre ++ (p ∷ (u ++ z))) (length pre) (length pre + suc (length u)) x y x' y'
on_sign i p ps u z pre x y x' y' e r =
    let l : length (pre ++ (p ∷ [])) ≡ length pre + 1 = length-append pre (p ∷ []) in
    let d : length pre + 1 + length u ≡ length pre + suc (length u) = omega arith in
    then x y (take_sign_lem p pre (u ++ z) e) (rw (append_snoc pre p (u ++ z), l, d) at r)

on_run : (i p : ℕ) (ps n u z pre : List ℕ) (x y x' y' : ℕ) → take_sign p (pre ++ (n ++ (u ++ z))) (length pre) ≡ Ok (length pre + length n)
    → Reached i ps ((pre ++ n) ++ (u ++ z)) (length (pre ++ n)) (length (pre ++ n) + length u) (x_at p (length pre) x) (y_at p (length pre) y) x' y'
    → Reached i (p ∷ ps) (pre ++ ((n ++ u) ++ z)) (length pre) (length pre + length (n ++ u)) x y x' y'
on_run i p ps n u z pre x y x' y' e r =
    let l : length (pre ++ n) ≡ length pre + length n = length-append pre n in
    let d : length pre + length n + length u ≡ length pre + length (n ++ u) = omega (arith, length-append n u) in
    let g : (pre ++ n) ++ (u ++ z) ≡ pre ++ (n ++ (u ++ z)) = append_assoc pre n (u ++ z) in
    let h : (n ++ u) ++ z ≡ n ++ (u ++ z) = append_assoc n u z in
    rw h (then x y e (rw (g, l, d) at r))

at-end : (i : ℕ) (z pre : List ℕ) (x y : ℕ) → Reached i [] (pre ++ z) (length pre) (length pre + 0) x y x y
unfolding follow
at-end i z pre x y = record { reaches = let e : length pre ≡ length pre + 0 = omega arith in ap (λ n. ending i (pre ++ z) n x y) e }

pub follows : (i : ℕ) {ps u : List ℕ} (z pre : List ℕ) (x y : ℕ) (f : Form ps u) → T (spaced ps) → Stops z
    → Reached i ps (pre ++ (u ++ z)) (length pre) (length pre + length u) x y (x_in f (length pre) x) (y_in f (length pre) y)
follows i z pre x y done ok st = at-end i z pre x y
follows i z pre x y (sign {p} {ps} {u} e f) ok st =
    let l : length (pre ++ (p ∷ [])) ≡ length pre + 1 = length-append pre (p ∷ []) in
    let r = follows i z (pre ++ (p ∷ [])) (x_at p (length pre) x) (y_at p (length pre) y) f (rest_ok p ps ok) st in
    on_sign i p ps u z pre x y _ _ e
    (subst (λ (m : ℕ). Reached i ps ((pre ++ (p ∷ [])) ++ (u ++ z)) (length (pre ++ (p ∷ []))) (length (pre ++ (p ∷ [])) + length u) (x_at p (length pre) x) (y_at p (length pre) y) (x_in f m (x_at p (length pre) x)) (y_in f m (y_at p (length pre) y))) l r)
follows i z pre x y (named {p} {ps} n {u} e al lo hi f) ok st =
    let l : length (pre ++ n) ≡ length pre + length n = length-append pre n in
    let r = follows i z (pre ++ n) (x_at p (length pre) x) (y_at p (length pre) y) f (rest_ok p ps ok) st in
    on_run i p ps n u z pre x y _ _ (take_name p pre n (u ++ z) e al lo hi (head_stops z f (head_ok name p ps e ok) st))
    (subst (λ (m : ℕ). Reached i ps ((pre ++ n) ++ (u ++ z)) (length (pre ++ n)) (length (pre ++ n) + length u) (x_at p (length pre) x) (y_at p (length pre) y) (x_in f m (x_at p (length pre) x)) (y_in f m (y_at p (length pre) y))) l r)
follows i z pre x y (numbered {p} {ps} n {u} e al lo hi f) ok st =
    let l : length (pre ++ n) ≡ length pre + length n = length-append pre n in
    let r = follows i z (pre ++ n) (x_at p (length pre) x) (y_at p (length pre) y) f (rest_ok p ps ok) st in
    on_run i p ps n u z pre x y _ _ (take_number p pre n (u ++ z) e al lo hi (head_stops z f (head_ok number p ps e ok) st))
    (subst (λ (m : ℕ). Reached i ps ((pre ++ n) ++ (u ++ z)) (length (pre ++ n)) (length (pre ++ n) + length u) (x_at p (length pre) x) (y_at p (length pre) y) (x_in f m (x_at p (length pre) x)) (y_in f m (y_at p (length pre) y))) l r)

-- ## A form's bytes with blanks and `;`, or the end, behind them: the form is whole

pub blank_not_named : (b : ℕ) → in_sort Blank b ≡ true → in_sort Named b ≡ false
unfolding in_sort blank digit letter
blank_not_named b h =
    by_test (eqb b 9) (λ e. rw (eqb-true b 9 e))
    (λ e. by_test (eqb b 10) (λ f. rw (eqb-true b 10 f))
    (λ f. by_test (eqb b 13) (λ g. rw (eqb-true b 13 g))
    (λ g. let z : eqb b 32 ≡ true = rw (e, f, g) at h in rw (eqb-true b 32 z))))

-- What stands behind an instruction and its blanks: `;` and more, or nothing.
pub data Tail : List ℕ → Type 0 where
  semi : (v : List ℕ) → Tail (code ";" ∷ v)
  stop : Tail []

pub tail-stops : {z : List ℕ} → Tail z → Stops z
unfolding in_sort digit letter
tail-stops (semi v) = refl
tail-stops stop = refl

tail-no-blank : {z : List ℕ} → Tail z → in_sort Blank (byte_at z 0) ≡ false
unfolding in_sort blank
tail-no-blank (semi v) = refl
tail-no-blank stop = refl

pub blanks-stop : (c z : List ℕ) → All Blank c → Stops z → Stops (c ++ z)
blanks-stop [] z al st = st
blanks-stop (b ∷ c) z al st = blank_not_named b al.0

ended_there : (q c : List ℕ) {z : List ℕ} → Tail z → (eqb (length q + length c) (length (q ++ (c ++ z))) || eqb (byte_at (q ++ (c ++ z)) (length q + length c)) (code ";")) ≡ true
ended_there q c (semi v) =
    let b : byte_at (q ++ (c ++ (code ";" ∷ v))) (length q + length c) ≡ code ";" = get_or-append-add q (c ++ (code ";" ∷ v)) (length c) 0 ∙ get_or-append_seam c (code ";") v 0 in
    or_true (eqb (length q + length c) (length (q ++ (c ++ (code ";" ∷ v))))) (eq-eqb _ (code ";") b)
  where
    or_true : (a : Bool) {b : Bool} → b ≡ true → (a || b) ≡ true
    or_true true e = refl
    or_true false e = e
ended_there q c stop =
    let n : length (q ++ (c ++ [])) ≡ length q + (length c + 0) = length-append q (c ++ []) ∙ ap (λ m. length q + m) (length-append c []) in
    rw (eq-eqb (length q + length c) (length (q ++ (c ++ []))) (omega arith))

ending_whole : (i x y : ℕ) (q c : List ℕ) {z : List ℕ} → All Blank c → 1 ≤ length q → Tail z → ending i (q ++ (c ++ z)) (length q) x y ≡ fit i true (length q + length c + 1) x y
unfolding ending
ending_whole i x y q c {z} al lo t =
    let n : length (q ++ (c ++ z)) ≡ length q + (length c + length z) = length-append q (c ++ z) ∙ ap (λ m. length q + m) (length-append c z) in
    let sp : span Blank (q ++ (c ++ z)) (length q) (length (q ++ (c ++ z))) ≡ length c = span_exact Blank q c z (length (q ++ (c ++ z))) al (omega arith) (tail-no-blank t) in
    rw (sp, ended_there q c t)

pub all_spaced : (i : ℕ) → T (spaced (signs_of i))
unfolding part_of in_sort digit letter
all_spaced i = each_form spaced tt tt i

-- An instruction behind pre: whole, with its names where they stand, and the place behind it.
pub whole : (i : ℕ) (pre u c : List ℕ) {z : List ℕ} (f : Form (signs_of i) u) → 1 ≤ length (pre ++ u) → All Blank c → Tail z
    → fit_of i (pre ++ (u ++ (c ++ z))) (length pre) ≡ fit i true (length pre + length u + length c + 1) (x_in f (length pre) 0) (y_in f (length pre) 0)
whole i pre u c {z} f lo al t =
    let r = follows i (c ++ z) pre 0 0 f (all_spaced i) (blanks-stop c z al (tail-stops t)) in
    let l : length (pre ++ u) ≡ length pre + length u = length-append pre u in
    let g : (pre ++ u) ++ (c ++ z) ≡ pre ++ (u ++ (c ++ z)) = append_assoc pre u (c ++ z) in
    let e = ending_whole i (x_in f (length pre) 0) (y_in f (length pre) 0) (pre ++ u) c al lo t in
    r.reaches ∙ (rw (g, l) at e)

-- The best form by the first byte: a form that cannot start with the byte at hand is followed no further than that byte, so that it is
-- not the best.
--     starters, among, best_among     the forms that can start with a byte, and the best of all is the best of these
--     best_bang, best-jumps, best_loop_end, best_plus, best_minus, best-label, best-ends     by the sign that stands there
--     best-calls, best_none           where a letter or digit stands; where nothing does that a form can start with
--     best_is                         all of them
use mathlib.Core.Path.{◌≡◌, refl, sym, ap, ◌∙◌}
use mathlib.Core.Bool.{Bool, true, false, cond}
use mathlib.Core.List.{List, [], ◌∷◌}
use Prim.Native.Nat.{ℕ, zero, suc, ◌+◌, ◌≤◌, ◌<◌}
use native.Mathlib.Omega.{arith}
use lib.Dec.{T, eqb}
use lib.ListN.{length, get_or}
use borrow.Author.Tests.{eqb-true, eqb-false, ne_eqb}
use Rattle.text.specs.declared.Sort.TheVariants.{Named}
use Rattle.std.specs.Prelude.{Err}
use Rattle.text.specs.declared.Fit.{Fit}
use Rattle.text.specs.Bytes.{byte_at, digit, letter, in_sort}
use Rattle.text.specs.Forms.{a, k, s, t, part_of, forms, signs_of, take_run, take_part, take_sign, ending, fit, follow, fit_of, further, best_to, best_of}
use Rattle.forms.specs.Starts.{starts_with}
use Rattle.forms.specs.Families.{of_tests, of_ends}
use Rattle.text.proofs.Tests.{by_test, never}
use Rattle.runs.proofs.Runs.{span_off}
use Rattle.signs.proofs.Signs.{positive, every}
use Rattle.parts.specs.LastSign.{last_sign}
use Rattle.parts.proofs.Further.{Plain, nearer, farther, further-far, least, inside, there, two, three, last_is, bang, hash, star, plus, minus, square, bend}
use Rattle.jump_forms.specs.Jumps.{of_jumps, of_calls}
use Rattle.jump_forms.proofs.Alike.{past, calls-none}

-- a form starts with a name or with a sign that stands for itself: by one test over all forms
abbrev plain : List ℕ → Bool
plain [] = false
plain (p ∷ ps) = cond (eqb p a) true (cond (eqb p k) false (cond (eqb p s) false (cond (eqb p t) false true)))

within : (fs : List (List ℕ)) (i : ℕ) → i < length fs → T (every plain fs) → T (plain (get_or fs i []))
within [] i h ok = absurd (omega arith)
within (f ∷ fs) zero h ok = here (plain f) ok
  where
    here : (b : Bool) → T (cond b (every plain fs) false) → T b
    here true ok = tt
    here false ok = ok
within (f ∷ fs) (suc i) h ok = within fs i (omega arith) (rest (plain f) ok)
  where
    rest : (b : Bool) → T (cond b (every plain fs) false) → T (every plain fs)
    rest true ok = ok
    rest false ok = absurd ok

module _ (w : List ℕ) (at : ℕ) where
  off : (p : ℕ) (ps : List ℕ) → T (plain (p ∷ ps)) → cond (eqb p a) (in_sort Named (byte_at w at)) (eqb p (byte_at w at)) ≡ false → take_sign p w at ≡ Err at
  unfolding take_part part_of take_run
  off p ps ok e =
      by_test (eqb p a)
      (λ x. let z : p ≡ 97 = eqb-true p a x in let o : in_sort Named (byte_at w at) ≡ false = rw x at e in rw (z, span_off Named w at 17 o))
      (λ x. by_test (eqb p k)
      (λ y. absurd (rw (x, y) at ok))
      (λ y. by_test (eqb p s)
      (λ z. absurd (rw (x, y, z) at ok))
      (λ z. by_test (eqb p t)
      (λ v. absurd (rw (x, y, z, v) at ok))
      (λ v. let o : eqb p (byte_at w at) ≡ false = rw x at e in rw (x, y, z, v, ne_eqb (byte_at w at) p (λ q. eqb-false p (byte_at w at) o (sym q)))))))

  skips : (i : ℕ) (ps : List ℕ) → T (plain ps) → cond (eqb (byte_at ps 0) a) (in_sort Named (byte_at w at)) (eqb (byte_at ps 0) (byte_at w at)) ≡ false → (follow i ps w at 0 0).far ≡ at
  unfolding follow
  skips i [] ok e = absurd ok
  skips i (p ∷ ps) ok e = rw (off p ps ok e)

  best-far : (n : ℕ) → at ≤ (best_to w at n).far
  unfolding best_to
  best-far zero = omega arith
  best-far (suc n) = further-far at (best_to w at n) (fit_of (suc n) w at) (best-far n)

  skipped : (n : ℕ) → n < 17 → starts_with (suc n) (byte_at w at) ≡ false → best_to w at (suc n) ≡ best_to w at n
  unfolding best_to starts_with
  skipped n lt e = nearer (best_to w at n) (fit_of (suc n) w at) (rw (skips (suc n) (signs_of (suc n)) (within forms n lt tt) e) (best-far n))

-- the last first
abbrev also : Bool → ℕ → List ℕ → List ℕ
also true i is = i ∷ is
also false i is = is

abbrev starters : ℕ → ℕ → List ℕ
starters b zero = []
starters b (suc n) = also (starts_with (suc n) b) (suc n) (starters b n)

-- a byte of a name is no byte of another sort
apart : {q : Bool} (p b : ℕ) → in_sort Named p ≡ cond q false true → in_sort Named b ≡ q → eqb p b ≡ false
apart {q} p b hp hb = by_test (eqb p b) (λ e. differ q (sym (ap (in_sort Named) (eqb-true p b e) ∙ hb) ∙ hp)) (λ e. e)
  where
    differ : {P : Type 0} (q : Bool) → q ≡ cond q false true → P
    differ true e = never e
    differ false e = never (sym e)

module _ (b : ℕ) where
  starters_named : in_sort Named b ≡ true → starters b 17 ≡ also (eqb 82 b) 15 (1 ∷ [])
  unfolding starts_with in_sort digit letter
  starters_named n = rw (n, apart 43 b refl n, apart 45 b refl n, apart 35 b refl n, apart 91 b refl n, apart 125 b refl n, apart 42 b refl n, apart 33 b refl n)

  module _ (n : in_sort Named b ≡ false) (bang : b ≡ 33 → ⊥) (hash : b ≡ 35 → ⊥) (star : b ≡ 42 → ⊥) (plus : b ≡ 43 → ⊥) (minus : b ≡ 45 → ⊥) (square : b ≡ 91 → ⊥) (bend : b ≡ 125 → ⊥) where
    starters_none : starters b 17 ≡ []
    unfolding starts_with in_sort digit letter
    starters_none = rw (n, apart 82 b refl n, ne_eqb 33 b (λ e. bang (sym e)), ne_eqb 35 b (λ e. hash (sym e)), ne_eqb 42 b (λ e. star (sym e)), ne_eqb 43 b (λ e. plus (sym e)), ne_eqb 45 b (λ e. minus (sym e)), ne_eqb 91 b (λ e. square (sym e)), ne_eqb 125 b (λ e. bend (sym e)))

module _ (w : List ℕ) (at : ℕ) where
  abbrev among : List ℕ → Fit
  among [] = fit 0 false at 0 0
  among (i ∷ is) = further (among is) (fit_of i w at)

  best_among : (n : ℕ) → n ≤ 17 → best_to w at n ≡ among (starters (byte_at w at) n)
  unfolding best_to
  best_among zero h = refl
  best_among (suc n) h =
      by_test (starts_with (suc n) (byte_at w at))
      (λ e. rw e (ap (λ f. further f (fit_of (suc n) w at)) (best_among n (omega arith))))
      (λ e. rw e (skipped w at n h e ∙ best_among n (omega arith)))

  by_byte : (b : ℕ) → byte_at w at ≡ b → best_of w at ≡ among (starters b 17)
  by_byte b h = best_among 17 (omega arith) ∙ ap (λ x. among (starters x 17)) h

  -- the first of a family, behind its sign
  module _ {p : ℕ} (q : Plain p) (h : byte_at w at ≡ p) (i : ℕ) (ps : List ℕ) (ok : T (positive ps)) where
    first : further (fit 0 false at 0 0) (follow i (p ∷ ps) w at 0 0) ≡ follow i ps w (at + 1) 0 0
    first = two refl (there w q at i 0 0 ps h) ∙ farther (fit 0 false at 0 0) (follow i ps w (at + 1) 0 0) (omega (arith, least w i ps (at + 1) 0 0 ok (inside w q at h)))

  pub best_bang : byte_at w at ≡ 33 → best_of w at ≡ ending 17 w (at + 1) 0 0
  unfolding starts_with in_sort digit letter follow
  best_bang h = by_byte 33 h ∙ first bang h 17 [] tt

  pub best_loop_end : byte_at w at ≡ 42 → best_of w at ≡ last_sign 14 125 w (at + 1) 0 0
  unfolding starts_with in_sort digit letter
  best_loop_end h = by_byte 42 h ∙ first star h 14 (125 ∷ []) tt ∙ sym (last_is bend 14 w (at + 1) 0 0)

  pub best-label : byte_at w at ≡ 91 → best_of w at ≡ follow 5 (115 ∷ 93 ∷ []) w (at + 1) 0 0
  unfolding starts_with in_sort digit letter
  best-label h = by_byte 91 h ∙ first square h 5 (115 ∷ 93 ∷ []) tt

  pub best-ends : byte_at w at ≡ 125 → best_of w at ≡ of_ends w (at + 1)
  unfolding starts_with in_sort digit letter
  best-ends h = by_byte 125 h ∙ two (first bend h 10 (123 ∷ []) tt) (there w bend at 11 0 0 [] h)

  pub best-jumps : byte_at w at ≡ 35 → best_of w at ≡ of_jumps w (at + 1)
  unfolding starts_with in_sort digit letter
  best-jumps h =
      by_byte 35 h ∙ two (three (first hash h 4 (35 ∷ 107 ∷ []) tt) (there w hash at 6 0 0 (35 ∷ 91 ∷ 115 ∷ 93 ∷ []) h)
      (there w hash at 7 0 0 (35 ∷ 91 ∷ 115 ∷ 93 ∷ 91 ∷ 116 ∷ 93 ∷ []) h)) (there w hash at 16 0 0 (35 ∷ 82 ∷ []) h)

  tested : {p : ℕ} (q : Plain p) (i j k : ℕ) → byte_at w at ≡ p
      → further (further (further (fit 0 false at 0 0) (follow i (p ∷ 97 ∷ []) w at 0 0)) (follow j (p ∷ 97 ∷ 123 ∷ []) w at 0 0)) (follow k (p ∷ 97 ∷ 123 ∷ 42 ∷ []) w at 0 0) ≡ of_tests i j k w (at + 1)
  tested q i j k h = three (first q h i (97 ∷ []) tt) (there w q at j 0 0 (97 ∷ 123 ∷ []) h) (there w q at k 0 0 (97 ∷ 123 ∷ 42 ∷ []) h)

  pub best_plus : byte_at w at ≡ 43 → best_of w at ≡ of_tests 2 8 12 w (at + 1)
  unfolding starts_with in_sort digit letter
  best_plus h = by_byte 43 h ∙ tested plus 2 8 12 h

  pub best_minus : byte_at w at ≡ 45 → best_of w at ≡ of_tests 3 9 13 w (at + 1)
  unfolding starts_with in_sort digit letter
  best_minus h = by_byte 45 h ∙ tested minus 3 9 13 h

  pub best_none : (b : ℕ) → byte_at w at ≡ b → in_sort Named b ≡ false → (b ≡ 33 → ⊥) → (b ≡ 35 → ⊥) → (b ≡ 42 → ⊥) → (b ≡ 43 → ⊥) → (b ≡ 45 → ⊥) → (b ≡ 91 → ⊥) → (b ≡ 125 → ⊥)
      → best_of w at ≡ fit 0 false at 0 0
  best_none b h n bang hash star plus minus square bend = by_byte b h ∙ ap among (starters_none b n bang hash star plus minus square bend)

  pub best-calls : (b : ℕ) → byte_at w at ≡ b → in_sort Named b ≡ true → best_of w at ≡ of_calls w at
  best-calls b h n =
      let c : in_sort Named (byte_at w at) ≡ true = ap (in_sort Named) h ∙ n in
      let one : further (fit 0 false at 0 0) (fit_of 1 w at) ≡ fit_of 1 w at = farther (fit 0 false at 0 0) (fit_of 1 w at) (past w at c) in
      by_byte b h ∙ ap among (starters_named b n)
      ∙ by_test (eqb 82 b)
      (λ e. ap (λ t. among (also t 15 (1 ∷ []))) e ∙ two one refl)
      (λ e. ap (λ t. among (also t 15 (1 ∷ []))) e ∙ one ∙ sym (calls-none w at (λ z. eqb-false 82 b e (sym z ∙ h))))

  -- as the code goes on
  pub best_is : best_of w at
      ≡ cond (in_sort Named (byte_at w at)) (of_calls w at)
      (cond (eqb (byte_at w at) 33) (ending 17 w (at + 1) 0 0)
      (cond (eqb (byte_at w at) 35) (of_jumps w (at + 1))
      (cond (eqb (byte_at w at) 42) (last_sign 14 125 w (at + 1) 0 0)
      (cond (eqb (byte_at w at) 43) (of_tests 2 8 12 w (at + 1))
      (cond (eqb (byte_at w at) 45) (of_tests 3 9 13 w (at + 1))
      (cond (eqb (byte_at w at) 91) (follow 5 (115 ∷ 93 ∷ []) w (at + 1) 0 0)
      (cond (eqb (byte_at w at) 125) (of_ends w (at + 1))
      (fit 0 false at 0 0))))))))
  best_is =
      let b = byte_at w at in
      by_test (in_sort Named b)
      (λ n. rw n (best-calls b refl n))
      (λ n. by_test (eqb b 33)
      (λ t. rw (n, t) (best_bang (eqb-true b 33 t)))
      (λ bang. by_test (eqb b 35)
      (λ t. rw (n, bang, t) (best-jumps (eqb-true b 35 t)))
      (λ hash. by_test (eqb b 42)
      (λ t. rw (n, bang, hash, t) (best_loop_end (eqb-true b 42 t)))
      (λ star. by_test (eqb b 43)
      (λ t. rw (n, bang, hash, star, t) (best_plus (eqb-true b 43 t)))
      (λ plus. by_test (eqb b 45)
      (λ t. rw (n, bang, hash, star, plus, t) (best_minus (eqb-true b 45 t)))
      (λ minus. by_test (eqb b 91)
      (λ t. rw (n, bang, hash, star, plus, minus, t) (best-label (eqb-true b 91 t)))
      (λ square. by_test (eqb b 125)
      (λ t. rw (n, bang, hash, star, plus, minus, square, t) (best-ends (eqb-true b 125 t)))
      (λ bend. rw (n, bang, hash, star, plus, minus, square, bend)
      (best_none b refl n (eqb-false b 33 bang) (eqb-false b 35 hash) (eqb-false b 42 star) (eqb-false b 43 plus) (eqb-false b 45 minus) (eqb-false b 91 square) (eqb-false b 125 bend))))))))))

-- One instruction in a text: its blanks are passed and the form it was written by is found, whole, with its names where they stand.
use mathlib.Core.Path.{◌≡◌, refl, sym, ap, ◌∙◌, subst}
use Prim.Native.Nat.{◌≤◌, ◌<◌}
use native.Mathlib.Omega.{arith}
use mathlib.Core.List.{append_assoc}
use lib.Dec.{T}
use lib.ListN.{length-append}
use Rattle.std.specs.Prelude.{◌+◌, ◌∷◌, ◌++◌}
use Rattle.rules.specs.Words.{ℕ, zero, suc, Bool, true, false, not, List, [], length, ltb}
use Rattle.text.specs.declared.Sort.TheVariants.{Blank, Digit, Named}
use Rattle.text.specs.declared.Fit.{Fit}
use Rattle.text.specs.Bytes.{byte_at, blank, in_sort}
use Rattle.text.specs.Forms.{signs_of, Part, itself, name, number, part_of, fit, fit_of, further, best_to, best_of}
use Rattle.text.specs.Grammar.{All, Form, done, sign, named, numbered}
use Rattle.text.proofs.Tests.{by_test, cond_has, never}
use Rattle.grammar.proofs.Runs.{span_exact}
use Rattle.grammar.proofs.Follows.{forms_positive, blanked}
use Rattle.grammar.proofs.Accepts.{T_not, blank_not_named, Tail, x_in, y_in, whole}
use Rattle.grammar.proofs.Apart.{upto, best_is}
use Rattle.grammar.proofs.Parts.{Shown, shown, Begun, begun, begun_here}

-- ## The first byte of an instruction is no blank

named-no-blank : (b : ℕ) → in_sort Named b ≡ true → in_sort Blank b ≡ false
named-no-blank b h = by_test (in_sort Blank b) (λ t. never (sym h ∙ blank_not_named b t)) (λ t. t)

pub digit-named : (b : ℕ) → in_sort Digit b ≡ true → in_sort Named b ≡ true
unfolding in_sort
digit-named b h = rw h

abbrev start_by : Part → ℕ → Bool
start_by itself p = not (in_sort Blank p)
start_by name p = true
start_by number p = true

abbrev start_ok : List ℕ → Bool
start_ok [] = false
start_ok (p ∷ ps) = start_by (part_of p) p

head_sort : (n u z : List ℕ) → ((b : ℕ) (m : List ℕ) → n ≡ b ∷ m → in_sort Blank b ≡ false) → 1 ≤ length n → in_sort Blank (byte_at ((n ++ u) ++ z) 0) ≡ false
head_sort [] u z h lo = absurd (omega arith)
head_sort (b ∷ m) u z h lo = h b m refl

pub starts : {ps u : List ℕ} (z : List ℕ) → Form ps u → T (start_ok ps) → in_sort Blank (byte_at (u ++ z) 0) ≡ false
starts z done ok = absurd ok
starts z (sign {p} e f) ok = T_not (in_sort Blank p) (subst (λ (q : Part). T (start_by q p)) e ok)
starts z (named n {u} e al lo hi f) ok = head_sort n u z (λ b m q. named-no-blank b (subst (λ (l : List ℕ). All Named l) q al).0) lo
starts z (numbered n {u} e al lo hi f) ok = head_sort n u z (λ b m q. named-no-blank b (digit-named b (subst (λ (l : List ℕ). All Digit l) q al).0)) lo

pub forms_start : (i : ℕ) → i < 17 → T (start_ok (signs_of (suc i)))
unfolding part_of in_sort blank
forms_start i h = upto 17 (λ j. start_ok (signs_of (suc j))) i tt h

pub some_bytes : {ps u : List ℕ} → Form ps u → T (start_ok ps) → 1 ≤ length u
some_bytes done ok = absurd ok
some_bytes (sign e f) ok = omega arith
some_bytes (named n {u} e al lo hi f) ok = omega (arith, length-append n u)
some_bytes (numbered n {u} e al lo hi f) ok = omega (arith, length-append n u)

-- ## An instruction of form i + 1 behind pre, with blanks b before it and c behind it

module _ (i : ℕ) (pre b u c z : List ℕ) (hi : i < 17) (bs : All Blank b) (f : Form (signs_of (suc i)) u) (cs : All Blank c) (t : Tail z) where
  abbrev pub text : List ℕ
  text = pre ++ (b ++ (u ++ (c ++ z)))

  abbrev start : ℕ
  start = length pre + length b

  pub text_length : length text ≡ length pre + (length b + (length u + (length c + length z)))
  text_length =
      length-append pre (b ++ (u ++ (c ++ z))) ∙ ap (λ (m : ℕ). length pre + m)
      (length-append b (u ++ (c ++ z)) ∙ ap (λ (m : ℕ). length b + m) (length-append u (c ++ z) ∙ ap (λ (m : ℕ). length u + m) (length-append c z)))

  pub passed : blanked text (length pre) ≡ start
  passed =
      let l = text_length in
      let s = some_bytes f (forms_start i hi) in
      ap (λ (m : ℕ). length pre + m) (span_exact Blank pre b (u ++ (c ++ z)) (length text) bs (omega arith) (starts (c ++ z) f (forms_start i hi)))

  found-fit : fit_of (suc i) text start ≡ fit (suc i) true (start + length u + length c + 1) (x_in f start 0) (y_in f start 0)
  found-fit =
      let l : length (pre ++ b) ≡ start = length-append pre b in
      let s = some_bytes f (forms_start i hi) in
      let n = length-append (pre ++ b) u in
      let w = whole (suc i) (pre ++ b) u c f (omega arith) cs t in
      rw (append_assoc pre b (u ++ (c ++ z)), l) at w

  pub found : best_of text start ≡ fit (suc i) true (start + length u + length c + 1) (x_in f start 0) (y_in f start 0)
  found =
      let l = text_length in
      best_is i text start hi (omega arith) (ap (λ (g : Fit). g.whole) found-fit) ∙ found-fit

-- ## The best form is none, stuck where it started, or one of the seventeen

data Best (w : List ℕ) (at : ℕ) : Fit → Type 0 where
  no_form : Best w at (fit 0 false at 0 0)
  form : (i : ℕ) → i < 17 → Best w at (fit_of (suc i) w at)

best_one : (w : List ℕ) (at n : ℕ) → n ≤ 17 → Best w at (best_to w at n)
unfolding best_to further
best_one w at zero h = no_form
best_one w at (suc n) h =
    cond_has (Best w at) (ltb (best_to w at n).far (fit_of (suc n) w at).far) (fit_of (suc n) w at) (best_to w at n) (λ _. form n h) (λ _. best_one w at n (omega arith))

module _ (w : List ℕ) (at : ℕ) (le : at ≤ length w) where
  -- Where it is whole, an instruction stands there.
  pub record Seen (f : Fit) : Type 0 where
    pub number : ℕ
    pub listed : number < 17
    pub shows : Shown w (signs_of (suc number)) at f.far

  seen_best : {f : Fit} → Best w at f → f.whole ≡ true → Seen f
  seen_best no_form h = never (sym h)
  seen_best (form i lt) h = record { number = i; listed = lt; shows = shown w (suc i) (signs_of (suc i)) at 0 0 (forms_positive (suc i)) le h }

  pub seen : (best_of w at).whole ≡ true → Seen (best_of w at)
  seen h = seen_best (best_one w at 17 (omega arith)) h

  -- Where it is not, the bytes up to there begin one.
  pub record Broken (f : Fit) : Type 0 where
    pub number : ℕ
    pub listed : number < 17
    pub begins : Begun w (signs_of (suc number)) at f.far

  broken_best : {f : Fit} → Best w at f → f.whole ≡ false → Broken f
  broken_best no_form h = record { number = 0; listed = omega arith; begins = begun_here w (signs_of 1) at }
  broken_best (form i lt) h = record { number = i; listed = lt; begins = begun w (suc i) (signs_of (suc i)) at 0 0 (forms_positive (suc i)) le h }

  pub broken : (best_of w at).whole ≡ false → Broken (best_of w at)
  broken h = broken_best (best_one w at 17 (omega arith)) h

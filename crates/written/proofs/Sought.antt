-- Where a reading looks for the number, the action or the labels of an instruction, and that they stand there.
use mathlib.Core.Path.{◌≡◌, refl, sym, ap, ◌∙◌, subst}
use Prim.Native.Nat.{◌≤◌, ◌<◌}
use native.Mathlib.Omega.{arith}
use mathlib.Core.List.{append_assoc}
use lib.Dec.{T}
use lib.ListN.{length-append}
use lib.Seq.{append_snoc}
use Rattle.std.specs.Prelude.{◌+◌, ◌∷◌, ◌++◌}
use Rattle.rules.specs.Words.{ℕ, suc, Bool, true, false, cond, List, [], length, eqb}
use Rattle.text.specs.declared.Sort.TheVariants.{Digit}
use Rattle.text.specs.Forms.{a, k, s, signs_of, letter_in, letter_of, Part, itself, name, number, part_of, x_at}
use Rattle.text.specs.Names.{name_at, digits_at}
use Rattle.text.specs.Grammar as grammar
use Rattle.text.specs.Grammar.{All, Form, done, sign, numbered}
use Rattle.grammar.proofs.Runs.{run_exact}
use Rattle.grammar.proofs.Accepts.{Stops, stops-digit, x_in}
use Rattle.grammar.proofs.Apart.{upto}
use Rattle.grammar.proofs.Spelt.{literal, is_number, x_literal, Spelt, plain, action, figure, label, labels}
use Rattle.written.proofs.Formed.{Only, numbers_in}

-- ## Where a reading looks for a number

abbrev pub is_empty : List ℕ → Bool
is_empty [] = true
is_empty (p ∷ ps) = false

-- A number comes last.
abbrev pub figured_by : Part → Bool → Bool → Bool
figured_by itself r e = r
figured_by name r e = false
figured_by number r e = e

abbrev pub figured : List ℕ → Bool
figured [] = false
figured (p ∷ ps) = figured_by (part_of p) (figured ps) (is_empty ps)

figures_tested : (i : ℕ) → i < 17 → T (cond (eqb (letter_of (suc i)) k) (figured (signs_of (suc i))) true)
unfolding letter_in part_of
figures_tested i h = upto 17 (λ j. cond (eqb (letter_of (suc j)) k) (figured (signs_of (suc j))) true) i tt h

pub all_figured : (i : ℕ) → i < 17 → letter_of (suc i) ≡ k → T (figured (signs_of (suc i)))
all_figured i h e = let r = figures_tested i h in rw e at r

pub record Figure (w d : List ℕ) (x : ℕ) : Type 0 where
  pub place : ℕ
  pub x_is : x ≡ suc place
  pub stands : digits_at w place ≡ d

ends : {ps u : List ℕ} (f : Form ps u) → T (is_empty ps) → (u ≡ []) × ((at x : ℕ) → x_in f at x ≡ x)
ends done h = (refl, λ at x. refl)
ends (sign e f) h = absurd h
ends (grammar.named n e al lo hi f) h = absurd h
ends (numbered n e al lo hi f) h = absurd h

x-number : (at : ℕ) → x_at k at 0 ≡ suc at
unfolding x_at
x-number at = omega arith

last_figure : (d pre n u z : List ℕ) (x : ℕ) → All Digit n → length n ≤ 4 → u ≡ [] → Stops z → n ≡ d → x ≡ suc (length pre) → Figure (pre ++ ((n ++ u) ++ z)) d x
last_figure d pre n u z x al hi e st q h =
    let g : Stops (u ++ z) = rw e st in
    record {
      place = length pre;
      x_is = h;
      stands = ap (λ (l : List ℕ). digits_at (pre ++ l) (length pre)) (append_assoc n u z) ∙ run_exact Digit pre n (u ++ z) 4 al hi (stops-digit _ g) ∙ q;
    }

pub figure_there : (d : List ℕ) {ps u : List ℕ} (pre z : List ℕ) (f : Form ps u) → T (figured ps) → Stops z → Only d (numbers_in f) → Figure (pre ++ (u ++ z)) d (x_in f (length pre) 0)
figure_there d pre z done ok st o = absurd ok
figure_there d pre z (sign {p} {ps} {u} e f) ok st o =
    let n : length (pre ++ (p ∷ [])) ≡ length pre + 1 = length-append pre (p ∷ []) in
    let g = figure_there d (pre ++ (p ∷ [])) z f (subst (λ (q : Part). T (figured_by q (figured ps) (is_empty ps))) e ok) st o in
    let h : x_in f (length (pre ++ (p ∷ []))) 0 ≡ x_in f (length pre + 1) (x_at p (length pre) 0) = ap (λ (j : ℕ). x_in f j 0) n ∙ ap (x_in f (length pre + 1)) (sym (x_literal p (length pre) 0 (literal p e))) in
    subst (Figure (pre ++ (p ∷ (u ++ z))) d) h (subst (λ (w : List ℕ). Figure w d (x_in f (length (pre ++ (p ∷ []))) 0)) (append_snoc pre p (u ++ z)) g)
figure_there d pre z (grammar.named {p} {ps} n e al lo hi f) ok st o = absurd (subst (λ (q : Part). T (figured_by q (figured ps) (is_empty ps))) e ok)
figure_there d pre z (numbered {p} {ps} n {u} e al lo hi f) ok st o =
    let r = ends f (subst (λ (q : Part). T (figured_by q (figured ps) (is_empty ps))) e ok) in
    last_figure d pre n u z _ al hi r.0 st o.0 (r.1 _ _ ∙ ap (λ (q : ℕ). x_at q (length pre) 0) (is_number p e) ∙ x-number (length pre))

-- ## Where it looks for names

pub record Stands (w n : List ℕ) (x : ℕ) : Type 0 where
  pub place : ℕ
  pub x_is : x ≡ suc place
  pub stands : name_at w place ≡ n

module _ {w : List ℕ} {letter x y : ℕ} {ac ls : List (List ℕ)} where
  pub an_action : (n : List ℕ) → Spelt w letter ac ls x y → letter ≡ a → Only n ac → Stands w n x
  an_action n (plain l e f) h o = absurd (let z : 0 ≡ a = sym l ∙ h in omega arith)
  an_action n (action m q l e f g nm) h o = let p : Only n (m ∷ []) = rw e at o in record { place = q; x_is = g; stands = nm ∙ p.0 }
  an_action n (figure m q l e f g nm) h o = absurd (let z : k ≡ a = sym l ∙ h in omega arith)
  an_action n (label m q l e f g nm yz) h o = absurd (let z : s ≡ a = sym l ∙ h in omega arith)
  an_action n (labels m m' q r l e f g nm yz nm') h o = absurd (let z : s ≡ a = sym l ∙ h in omega arith)

  pub one_label : (n : List ℕ) → Spelt w letter ac ls x y → letter ≡ s → ls ≡ n ∷ [] → Stands w n x × (y ≡ 0)
  one_label n (plain l e f) h o = absurd (let z : 0 ≡ s = sym l ∙ h in omega arith)
  one_label n (action m q l e f g nm) h o = absurd (let z : a ≡ s = sym l ∙ h in omega arith)
  one_label n (figure m q l e f g nm) h o = absurd (let z : k ≡ s = sym l ∙ h in omega arith)
  one_label n (label m q l e f g nm yz) h o =
      let p : m ∷ [] ≡ n ∷ [] = sym f ∙ o in
      let r : m ≡ n = cc in
      (record { place = q; x_is = g; stands = nm ∙ r }, yz)
  one_label n (labels m m' q r l e f g nm yz nm') h o = absurd (let z : 2 ≡ 1 = ap length (sym f ∙ o) in omega arith)

  pub two_labels : (n n' : List ℕ) → Spelt w letter ac ls x y → letter ≡ s → ls ≡ n ∷ n' ∷ [] → Stands w n x × Stands w n' y
  two_labels n n' (plain l e f) h o = absurd (let z : 0 ≡ s = sym l ∙ h in omega arith)
  two_labels n n' (action m q l e f g nm) h o = absurd (let z : a ≡ s = sym l ∙ h in omega arith)
  two_labels n n' (figure m q l e f g nm) h o = absurd (let z : k ≡ s = sym l ∙ h in omega arith)
  two_labels n n' (label m q l e f g nm yz) h o = absurd (let z : 1 ≡ 2 = ap length (sym f ∙ o) in omega arith)
  two_labels n n' (labels m m' q r l e f g nm yz nm') h o =
      let p : m ∷ m' ∷ [] ≡ n ∷ n' ∷ [] = sym f ∙ o in
      let d : m ≡ n = cc in
      let d' : m' ≡ n' = cc in
      (record { place = q; x_is = g; stands = nm ∙ d }, record { place = r; x_is = yz; stands = nm' ∙ d' })

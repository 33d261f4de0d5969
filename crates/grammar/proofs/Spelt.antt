-- The names in a form's bytes, and where a reading looks for them: no letter, one action, one number, one label, or two labels.
use mathlib.Core.Path.{◌≡◌, refl, sym, ap, ◌∙◌, subst}
use Prim.Native.Nat.{◌≤◌, ◌<◌}
use native.Mathlib.Omega.{arith}
use mathlib.Core.List.{append_assoc}
use lib.Dec.{T}
use lib.ListN.{length-append}
use lib.Seq.{append_snoc}
use borrow.Author.Tests.{eqb-true}
use Rattle.std.specs.Prelude.{◌+◌, ◌&&◌, ◌||◌, ◌∷◌, ◌++◌}
use Rattle.rules.specs.Words.{ℕ, suc, Bool, true, false, cond, List, [], length, eqb}
use Rattle.text.specs.declared.Sort.TheVariants.{Digit, Named}
use Rattle.text.specs.Forms.{a, k, s, t, signs_of, letter_in, Part, itself, name, number, part_of, x_at, y_at}
use Rattle.text.specs.Names.{name_at, digits_at}
use Rattle.text.specs.Grammar.{All, Form, done, sign, named, numbered}
use Rattle.text.proofs.Tests.{by_test, never}
use Rattle.grammar.specs.Promises.{actions_in, labels_in}
use Rattle.grammar.proofs.Runs.{run_exact}
use Rattle.grammar.proofs.Follows.{left, right}
use Rattle.grammar.proofs.Accepts.{Stops, stops-digit, spaced, head_stops, head_ok, rest_ok, x_in, y_in}
use Rattle.grammar.proofs.Apart.{upto}

-- ## What a sign is

-- A sign that stands for itself is no letter.
pub record Literal (p : ℕ) : Type 0 where
  pub not_a : eqb p a ≡ false
  pub not_k : eqb p k ≡ false
  pub not_s : eqb p s ≡ false
  pub not_t : eqb p t ≡ false

or_left : (b c : Bool) → (b || c) ≡ false → b ≡ false
or_left true c h = never h
or_left false c h = refl

pub or_right : (b c : Bool) → (b || c) ≡ false → c ≡ false
or_right true c h = never h
or_right false c h = h

pub literal : (p : ℕ) → part_of p ≡ itself → Literal p
unfolding part_of
literal p h =
    by_test (eqb p k)
    (λ e. let q : number ≡ itself = rw e at h in cc)
    (λ e. by_test (eqb p a || eqb p s || eqb p t)
    (λ f. let q : name ≡ itself = rw (e, f) at h in cc)
    (λ f. by e f))
  where
    by : eqb p k ≡ false → (eqb p a || eqb p s || eqb p t) ≡ false → Literal p
    by e f = record { not_a = three.0; not_k = e; not_s = three.1; not_t = three.2 }
      where
        three : (eqb p a ≡ false) × (eqb p s ≡ false) × (eqb p t ≡ false)
        three = each (eqb p a) (eqb p s) (eqb p t) f
          where
            each : (b c d : Bool) → (b || c || d) ≡ false → (b ≡ false) × (c ≡ false) × (d ≡ false)
            each true true true h = never h
            each true true false h = never h
            each true false true h = never h
            each true false false h = never h
            each false true true h = never h
            each false true false h = never h
            each false false true h = never h
            each false false false h = (refl, refl, refl)

pub is_number : (p : ℕ) → part_of p ≡ number → p ≡ k
unfolding part_of
is_number p h =
    by_test (eqb p k) (eqb-true p k)
    (λ e. by_test (eqb p a || eqb p s || eqb p t)
    (λ f. let q : name ≡ number = rw (e, f) at h in cc)
    (λ f. let q : itself ≡ number = rw (e, f) at h in cc))

-- ## The shapes of forms

-- No letter; at most a t; at most an a, a k, or an s with at most a t behind it.
abbrev free_by : Part → Bool → Bool
free_by itself r = r
free_by name r = false
free_by number r = false

abbrev free : List ℕ → Bool
free [] = true
free (p ∷ ps) = free_by (part_of p) (free ps)

abbrev after_by : Part → ℕ → Bool → Bool → Bool
after_by itself p r f = r
after_by name p r f = eqb p t && f
after_by number p r f = false

abbrev after : List ℕ → Bool
after [] = true
after (p ∷ ps) = after_by (part_of p) p (after ps) (free ps)

abbrev shape_by : Part → ℕ → Bool → Bool → Bool → Bool
shape_by itself p r f q = r
shape_by name p r f q = cond (eqb p a) f (eqb p s && q)
shape_by number p r f q = f

abbrev shape : List ℕ → Bool
shape [] = true
shape (p ∷ ps) = shape_by (part_of p) p (shape ps) (free ps) (after ps)

pub all_shaped : (i : ℕ) → i < 17 → T (shape (signs_of (suc i)))
unfolding part_of
all_shaped i h = upto 17 (λ j. shape (signs_of (suc j))) i tt h

-- ## Nothing more

record Free {ps u : List ℕ} (f : Form ps u) : Type 0 where
  no-actions : actions_in f ≡ []
  no-labels : labels_in f ≡ []
  x-stays : (at x : ℕ) → x_in f at x ≡ x
  y-stays : (at y : ℕ) → y_in f at y ≡ y

pub x_literal : (p at x : ℕ) → Literal p → x_at p at x ≡ x
unfolding x_at
x_literal p at x l = rw (l.not_a, l.not_k, l.not_s)

y_literal : (p at y : ℕ) → Literal p → y_at p at y ≡ y
unfolding y_at
y_literal p at y l = rw l.not_t

letter_literal : (p : ℕ) (ps : List ℕ) → Literal p → letter_in (p ∷ ps) ≡ letter_in ps
unfolding letter_in
letter_literal p ps l = rw (l.not_a, l.not_k, l.not_s)

is_free : {ps u : List ℕ} (f : Form ps u) → T (free ps) → Free f
is_free done ok = record { no-actions = refl; no-labels = refl; x-stays = λ at x. refl; y-stays = λ at y. refl }
is_free (sign {p} {ps} e f) ok =
    let r = is_free f (subst (λ (q : Part). T (free_by q (free ps))) e ok) in
    let l = literal p e in
    record {
      no-actions = r.no-actions;
      no-labels = r.no-labels;
      x-stays = λ at x. r.x-stays (at + 1) (x_at p at x) ∙ x_literal p at x l;
      y-stays = λ at y. r.y-stays (at + 1) (y_at p at y) ∙ y_literal p at y l;
    }
is_free (named {p} {ps} n e al lo hi f) ok = absurd (subst (λ (q : Part). T (free_by q (free ps))) e ok)
is_free (numbered {p} {ps} n e al lo hi f) ok = absurd (subst (λ (q : Part). T (free_by q (free ps))) e ok)

-- ## One sign further

-- The bytes n behind pre, and more behind them.
name_there : (pre n u z : List ℕ) → All Named n → length n ≤ 16 → Stops (u ++ z) → name_at (pre ++ ((n ++ u) ++ z)) (length pre) ≡ n
name_there pre n u z al hi st = ap (λ (l : List ℕ). name_at (pre ++ l) (length pre)) (append_assoc n u z) ∙ run_exact Named pre n (u ++ z) 16 al hi st

digits_there : (pre n u z : List ℕ) → All Digit n → length n ≤ 4 → Stops (u ++ z) → digits_at (pre ++ ((n ++ u) ++ z)) (length pre) ≡ n
digits_there pre n u z al hi st = ap (λ (l : List ℕ). digits_at (pre ++ l) (length pre)) (append_assoc n u z) ∙ run_exact Digit pre n (u ++ z) 4 al hi (stops-digit _ st)

moved : (pre n u z : List ℕ) → (pre ++ n) ++ (u ++ z) ≡ pre ++ ((n ++ u) ++ z)
moved pre n u z = append_assoc pre n (u ++ z) ∙ ap (λ (l : List ℕ). pre ++ l) (sym (append_assoc n u z))

-- ## Behind the first label

-- Nothing more, or a second label m at q.
data After (w : List ℕ) (at : ℕ) {ps u : List ℕ} (f : Form ps u) : Type 0 where
  one : Free f → After w at f
  two : (m : List ℕ) (q : ℕ) → name_at w q ≡ m → actions_in f ≡ [] → labels_in f ≡ m ∷ [] → ((x : ℕ) → x_in f at x ≡ x) → y_in f at 0 ≡ suc q → After w at f

after_label : (p : ℕ) (ps : List ℕ) → T (eqb p t && free ps) → p ≡ t
after_label p ps ok = by (eqb p t) refl (left (eqb p t) (free ps) ok)
  where
    by : (b : Bool) → eqb p t ≡ b → T b → p ≡ t
    by true e h = eqb-true p t e
    by false e h = absurd h

two_labels : {ps u : List ℕ} (p : ℕ) (n : List ℕ) (pre z : List ℕ) (e : part_of p ≡ name) (al : All Named n) (lo : 1 ≤ length n) (hi : length n ≤ 16) (f : Form ps u)
    → p ≡ t → Free f → Stops (u ++ z) → After (pre ++ ((n ++ u) ++ z)) (length pre) (named {p = p} n e al lo hi f)
unfolding x_at y_at
two_labels {ps} {u} p n pre z e al lo hi f pt r st =
    two n (length pre) (name_there pre n u z al hi st) (rw pt r.no-actions) (rw pt (ap (λ (l : List (List ℕ)). n ∷ l) r.no-labels))
    (λ x. r.x-stays _ _ ∙ rw pt) (r.y-stays _ _ ∙ rw pt (omega arith))

is_after : {ps u : List ℕ} (pre z : List ℕ) (f : Form ps u) → T (after ps) → T (spaced ps) → Stops z → After (pre ++ (u ++ z)) (length pre) f
is_after pre z done ok sp st = one (is_free done tt)
is_after pre z (sign {p} {ps} {u} e f) ok sp st =
    sign_after (is_after (pre ++ (p ∷ [])) z f (subst (λ (q : Part). T (after_by q p (after ps) (free ps))) e ok) (rest_ok p ps sp) st)
  where
    l : Literal p
    l = literal p e

    n : length (pre ++ (p ∷ [])) ≡ length pre + 1
    n = length-append pre (p ∷ [])

    sign_after : After ((pre ++ (p ∷ [])) ++ (u ++ z)) (length (pre ++ (p ∷ []))) f → After (pre ++ (p ∷ (u ++ z))) (length pre) (sign e f)
    sign_after (one r) = one (record {
      no-actions = r.no-actions;
      no-labels = r.no-labels;
      x-stays = λ at x. r.x-stays (at + 1) (x_at p at x) ∙ x_literal p at x l;
      y-stays = λ at y. r.y-stays (at + 1) (y_at p at y) ∙ y_literal p at y l;
    })
    sign_after (two m q nm ac ls xs y) =
        two m q (ap (λ (w : List ℕ). name_at w q) (sym (append_snoc pre p (u ++ z))) ∙ nm) ac ls
        (λ x. ap (λ (j : ℕ). x_in f j (x_at p (length pre) x)) (sym n) ∙ xs _ ∙ x_literal p (length pre) x l)
        (ap (λ (j : ℕ). y_in f j (y_at p (length pre) 0)) (sym n) ∙ ap (y_in f (length (pre ++ (p ∷ [])))) (y_literal p (length pre) 0 l) ∙ y)
is_after pre z (named {p} {ps} n {u} e al lo hi f) ok sp st =
    let o = subst (λ (q : Part). T (after_by q p (after ps) (free ps))) e ok in
    two_labels p n pre z e al lo hi f (after_label p ps o) (is_free f (right (eqb p t) (free ps) o)) (head_stops z f (head_ok name p ps e sp) st)
is_after pre z (numbered {p} {ps} n e al lo hi f) ok sp st = absurd (subst (λ (q : Part). T (after_by q p (after ps) (free ps))) e ok)

-- ## The whole form

-- The letter of a form, its actions and labels, and the places x and y, of the name or number from 1, where a reading looks for them.
pub data Spelt (w : List ℕ) (letter : ℕ) (ac ls : List (List ℕ)) (x y : ℕ) : Type 0 where
  plain : letter ≡ 0 → ac ≡ [] → ls ≡ [] → Spelt w letter ac ls x y
  action : (n : List ℕ) (q : ℕ) → letter ≡ a → ac ≡ n ∷ [] → ls ≡ [] → x ≡ suc q → name_at w q ≡ n → Spelt w letter ac ls x y
  figure : (n : List ℕ) (q : ℕ) → letter ≡ k → ac ≡ [] → ls ≡ [] → x ≡ suc q → digits_at w q ≡ n → Spelt w letter ac ls x y
  label : (n : List ℕ) (q : ℕ) → letter ≡ s → ac ≡ [] → ls ≡ n ∷ [] → x ≡ suc q → name_at w q ≡ n → y ≡ 0 → Spelt w letter ac ls x y
  labels : (n m : List ℕ) (q r : ℕ) → letter ≡ s → ac ≡ [] → ls ≡ n ∷ m ∷ [] → x ≡ suc q → name_at w q ≡ n → y ≡ suc r → name_at w r ≡ m → Spelt w letter ac ls x y

respelt : {w v : List ℕ} {l m : ℕ} {ac ls : List (List ℕ)} {x x' y y' : ℕ} → w ≡ v → l ≡ m → x ≡ x' → y ≡ y' → Spelt w l ac ls x y → Spelt v m ac ls x' y'
respelt {w} {v} {l} {m} {ac} {ls} {x} {x'} {y} {y'} e f g h r =
    subst (λ (b : List ℕ). Spelt b m ac ls x' y') e (subst (λ (b : ℕ). Spelt w b ac ls x' y') f (subst (λ (b : ℕ). Spelt w l ac ls b y') g (subst (λ (b : ℕ). Spelt w l ac ls x b) h r)))

-- The letter, x and y of a form that begins with a letter.
module _ (p : ℕ) (ps : List ℕ) (at : ℕ) where
  letter_a : p ≡ a → (letter_in (p ∷ ps) ≡ a) × (x_at p at 0 ≡ suc at) × (y_at p at 0 ≡ 0)
  unfolding letter_in x_at y_at
  letter_a e = rw e (refl, omega arith, refl)

  letter_k : p ≡ k → (letter_in (p ∷ ps) ≡ k) × (x_at p at 0 ≡ suc at) × (y_at p at 0 ≡ 0)
  unfolding letter_in x_at y_at
  letter_k e = rw e (refl, omega arith, refl)

  letter_s : p ≡ s → (letter_in (p ∷ ps) ≡ s) × (x_at p at 0 ≡ suc at) × (y_at p at 0 ≡ 0)
  unfolding letter_in x_at y_at
  letter_s e = rw e (refl, omega arith, refl)

-- A name: an action, or a label and perhaps another.
module _ {ps u : List ℕ} (p : ℕ) (n : List ℕ) (pre z : List ℕ) (e : part_of p ≡ name) (al : All Named n) (lo : 1 ≤ length n) (hi : length n ≤ 16) (f : Form ps u) (st : Stops (u ++ z)) where
  abbrev whole : Form (p ∷ ps) (n ++ u)
  whole = named {p = p} n e al lo hi f

  abbrev Spells : Type 0
  Spells = Spelt (pre ++ ((n ++ u) ++ z)) (letter_in (p ∷ ps)) (actions_in whole) (labels_in whole) (x_in whole (length pre) 0) (y_in whole (length pre) 0)

  as_action : p ≡ a → Free f → Spells
  as_action q r =
      let h = letter_a p ps (length pre) q in
      action n (length pre) h.0 (rw q (ap (λ (l : List (List ℕ)). n ∷ l) r.no-actions)) (rw q r.no-labels)
      (r.x-stays _ _ ∙ h.1) (name_there pre n u z al hi st)

  as_label : p ≡ s → After ((pre ++ n) ++ (u ++ z)) (length (pre ++ n)) f → Spells
  as_label q (one r) =
      let h = letter_s p ps (length pre) q in
      label n (length pre) h.0 (rw q r.no-actions) (rw q (ap (λ (l : List (List ℕ)). n ∷ l) r.no-labels))
      (r.x-stays _ _ ∙ h.1) (name_there pre n u z al hi st) (r.y-stays _ _ ∙ h.2)
  as_label q (two m j nm ac ls xs y) =
      let h = letter_s p ps (length pre) q in
      let g : length (pre ++ n) ≡ length pre + length n = length-append pre n in
      labels n m (length pre) j h.0 (rw q ac) (rw q (ap (λ (l : List (List ℕ)). n ∷ l) ls))
      (ap (λ (i : ℕ). x_in f i (x_at p (length pre) 0)) (sym g) ∙ xs _ ∙ h.1) (name_there pre n u z al hi st)
      (ap (λ (i : ℕ). y_in f i (y_at p (length pre) 0)) (sym g) ∙ ap (y_in f (length (pre ++ n))) h.2 ∙ y)
      (ap (λ (w : List ℕ). name_at w j) (sym (moved pre n u z)) ∙ nm)

a_or_s : {P : Type 0} (p : ℕ) (b c : Bool) → T (cond (eqb p a) b (eqb p s && c)) → (p ≡ a → T b → P) → (p ≡ s → T c → P) → P
a_or_s p b c ok f g =
    by_test (eqb p a) (λ e. f (eqb-true p a e) (rw e at ok))
    (λ e. let o : T (eqb p s && c) = rw e at ok in by_test (eqb p s) (λ h. g (eqb-true p s h) (right (eqb p s) c o)) (λ h. absurd (rw h at o)))

pub spelt : {ps u : List ℕ} (pre z : List ℕ) (f : Form ps u) → T (shape ps) → T (spaced ps) → Stops z
    → Spelt (pre ++ (u ++ z)) (letter_in ps) (actions_in f) (labels_in f) (x_in f (length pre) 0) (y_in f (length pre) 0)
unfolding letter_in
spelt pre z done ok sp st = plain refl refl refl
spelt pre z (sign {p} {ps} {u} e f) ok sp st =
    let l = literal p e in
    let n : length (pre ++ (p ∷ [])) ≡ length pre + 1 = length-append pre (p ∷ []) in
    respelt (append_snoc pre p (u ++ z)) (sym (letter_literal p ps l))
    (ap (λ (j : ℕ). x_in f j 0) n ∙ ap (x_in f (length pre + 1)) (sym (x_literal p (length pre) 0 l)))
    (ap (λ (j : ℕ). y_in f j 0) n ∙ ap (y_in f (length pre + 1)) (sym (y_literal p (length pre) 0 l)))
    (spelt (pre ++ (p ∷ [])) z f (subst (λ (q : Part). T (shape_by q p (shape ps) (free ps) (after ps))) e ok) (rest_ok p ps sp) st)
spelt pre z (named {p} {ps} n {u} e al lo hi f) ok sp st =
    let h = head_stops z f (head_ok name p ps e sp) st in
    a_or_s p (free ps) (after ps) (subst (λ (q : Part). T (shape_by q p (shape ps) (free ps) (after ps))) e ok)
    (λ q o. as_action p n pre z e al lo hi f h q (is_free f o))
    (λ q o. as_label p n pre z e al lo hi f h q (is_after (pre ++ n) z f o (rest_ok p ps sp) st))
spelt pre z (numbered {p} {ps} n {u} e al lo hi f) ok sp st =
    let h = head_stops z f (head_ok number p ps e sp) st in
    let r = is_free f (subst (λ (q : Part). T (shape_by q p (shape ps) (free ps) (after ps))) e ok) in
    let g = letter_k p ps (length pre) (is_number p e) in
    figure n (length pre) g.0 r.no-actions r.no-labels (r.x-stays _ _ ∙ g.1) (digits_there pre n u z al hi h)

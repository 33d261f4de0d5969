-- What is written for a record is an instruction of its form, with the record's own names and number in it.
use mathlib.Core.Path.{◌≡◌, refl, sym, ap, ◌∙◌, subst}
use Prim.Native.Nat.{◌≤◌, ◌<◌}
use native.Mathlib.Omega.{arith}
use lib.Dec.{T}
use borrow.Author.Tests.{eqb-true}
use Rattle.std.specs.Prelude.{◌||◌, ◌∷◌, ◌++◌}
use Rattle.rules.specs.Words.{ℕ, suc, Bool, true, false, not, List, [], map, eqb}
use Rattle.rules.specs.Record.{Rec}
use Rattle.text.specs.declared.Sort.TheVariants.{Named}
use Rattle.text.specs.Forms.{a, k, s, t, signs_of, letter_in, letter_of, itself, part_of}
use Rattle.text.specs.Names.{entry, name_of, proper}
use Rattle.text.specs.Writing.{decimal, label_name, written_sign, written_signs, form_of}
use Rattle.text.specs.Grammar.{Form, done, sign, named, numbered}
use Rattle.text.proofs.Tests.{by_test, never}
use Rattle.grammar.specs.Promises.{actions_in, labels_in}
use Rattle.grammar.proofs.Runs.{run_all, span_most}
use Rattle.grammar.proofs.Accepts.{T_not}
use Rattle.grammar.proofs.Apart.{upto}
use Rattle.written.specs.Promises.{tags, tagged}
use Rattle.written.proofs.Decimal.{decimal-digits, decimal-some, decimal_most, label_all, label_most}
use Rattle.written.proofs.Truth.{T_true, is_T, or_left, or_right}
use Rattle.written.proofs.Numbered.{proper-some}

-- Every one of these is u.
abbrev pub Only : List ℕ → List (List ℕ) → Type 0
Only u [] = Unit {0}
Only u (v ∷ vs) = (v ≡ u) × Only u vs

-- The numbers that are written in a form.
abbrev pub numbers_in : {ps u : List ℕ} → Form ps u → List (List ℕ)
numbers_in done = []
numbers_in (sign e f) = numbers_in f
numbers_in (named n e al lo hi f) = numbers_in f
numbers_in (numbered n e al lo hi f) = n ∷ numbers_in f

pub record FormedAs (es : List (List ℕ)) (r : Rec) (ps u : List ℕ) : Type 0 where
  pub form : Form ps u
  pub actions : Only (name_of es r.x) (actions_in form)
  pub numbers : Only (decimal r.x) (numbers_in form)
  pub labels : labels_in form ≡ map (λ (p : ℕ). label_name (tagged r p)) (tags ps)

abbrev pub Formed : List (List ℕ) → Rec → List ℕ → Type 0
Formed es r ps = FormedAs es r ps (written_signs es r ps)

-- ## One sign

module _ (es : List (List ℕ)) (r : Rec) (ps : List ℕ) (f : Formed es r ps) where
  sign_a : proper es r.x ≡ true → Formed es r (a ∷ ps)
  unfolding written_signs written_sign part_of tags
  sign_a h = record {
    form = named (name_of es r.x) refl (run_all Named (entry es r.x) 0 16) (proper-some es r.x h) (span_most Named (entry es r.x) 0 16) f.form;
    actions = (refl, f.actions);
    numbers = f.numbers;
    labels = f.labels;
  }

  sign_k : r.x ≤ 9999 → Formed es r (k ∷ ps)
  unfolding written_signs written_sign part_of tags
  sign_k h = record {
    form = numbered (decimal r.x) refl (decimal-digits r.x) (decimal-some r.x) (decimal_most r.x h) f.form;
    actions = f.actions;
    numbers = (refl, f.numbers);
    labels = f.labels;
  }

  sign_s : r.x ≤ 9999 → Formed es r (s ∷ ps)
  unfolding written_signs written_sign part_of tags
  sign_s h = record {
    form = named (label_name r.x) refl (label_all r.x) (omega arith) (label_most r.x h) f.form;
    actions = f.actions;
    numbers = f.numbers;
    labels = ap (λ (l : List (List ℕ)). label_name r.x ∷ l) f.labels;
  }

  sign_t : r.y ≤ 9999 → Formed es r (t ∷ ps)
  unfolding written_signs written_sign part_of tags
  sign_t h = record {
    form = named (label_name r.y) refl (label_all r.y) (omega arith) (label_most r.y h) f.form;
    actions = f.actions;
    numbers = f.numbers;
    labels = ap (λ (l : List (List ℕ)). label_name r.y ∷ l) f.labels;
  }

  -- A sign that is none of the letters stands for itself.
  sign-itself : (p : ℕ) → eqb p a ≡ false → eqb p k ≡ false → eqb p s ≡ false → eqb p t ≡ false → Formed es r (p ∷ ps)
  unfolding written_signs written_sign part_of tags
  sign-itself p na nk ns nt =
      let e : p ∷ [] ≡ written_sign es r p = rw (na, nk, ns, nt) in
      let q : part_of p ≡ itself = rw (nk, na, ns, nt) in
      let l : tags ps ≡ tags (p ∷ ps) = rw (ns, nt) in
      subst (λ (u : List ℕ). FormedAs es r (p ∷ ps) (u ++ written_signs es r ps)) e
      (record { form = sign q f.form; actions = f.actions; numbers = f.numbers; labels = f.labels ∙ ap (map (λ (p : ℕ). label_name (tagged r p))) l })

-- ## All signs

-- The sign q is among these; one by which x is written in digits is.
abbrev uses : ℕ → List ℕ → Bool
uses q [] = false
uses q (p ∷ ps) = eqb p q || uses q ps

abbrev counts : List ℕ → Bool
counts ps = uses k ps || uses s ps

module _ (es : List (List ℕ)) (r : Rec) (hy : r.y ≤ 9999) where
  nothing : Formed es r []
  unfolding written_signs tags
  nothing = record { form = done; actions = tt; numbers = tt; labels = refl }

  formed_sign : (p : ℕ) (ps : List ℕ) → (eqb p a ≡ true → proper es r.x ≡ true) → (eqb p k ≡ true → r.x ≤ 9999) → (eqb p s ≡ true → r.x ≤ 9999) → Formed es r ps → Formed es r (p ∷ ps)
  formed_sign p ps ha hk hs f =
      by_test (eqb p a) (λ e. is p a e (sign_a es r ps f (ha e)))
      (λ na. by_test (eqb p k) (λ e. is p k e (sign_k es r ps f (hk e)))
      (λ nk. by_test (eqb p s) (λ e. is p s e (sign_s es r ps f (hs e)))
      (λ ns. by_test (eqb p t) (λ e. is p t e (sign_t es r ps f hy))
      (λ nt. sign-itself es r ps f p na nk ns nt))))
    where
      is : (p q : ℕ) → eqb p q ≡ true → Formed es r (q ∷ ps) → Formed es r (p ∷ ps)
      is p q e g = subst (λ (n : ℕ). Formed es r (n ∷ ps)) (sym (eqb-true p q e)) g

  formed : (ps : List ℕ) → (T (uses a ps) → proper es r.x ≡ true) → (T (uses k ps) → r.x ≤ 9999) → (T (uses s ps) → r.x ≤ 9999) → Formed es r ps
  formed [] ha hk hs = nothing
  formed (p ∷ ps) ha hk hs =
      formed_sign p ps (λ e. ha (or_left (eqb p a) (uses a ps) (is_T _ e))) (λ e. hk (or_left (eqb p k) (uses k ps) (is_T _ e))) (λ e. hs (or_left (eqb p s) (uses s ps) (is_T _ e)))
      (formed ps (λ u. ha (or_right (eqb p a) (uses a ps) u)) (λ u. hk (or_right (eqb p k) (uses k ps) u)) (λ u. hs (or_right (eqb p s) (uses s ps) u)))

-- ## The signs of form i + 1

-- A form with an action's name has it as its letter, and one with such a letter has no number and no label.
abbrev only_if : Bool → Bool → Bool
only_if b c = not b || c

only_then : (b c : Bool) → T (only_if b c) → T b → T c
only_then true c h g = h
only_then false c h g = absurd g

action_if : (i : ℕ) → i < 17 → T (uses a (signs_of (suc i))) → T (eqb (letter_of (suc i)) a)
unfolding letter_in
action_if i h u = only_then (uses a (signs_of (suc i))) (eqb (letter_of (suc i)) a) (upto 17 (λ j. only_if (uses a (signs_of (suc j))) (eqb (letter_of (suc j)) a)) i tt h) u

no-action_if : (i : ℕ) → i < 17 → T (counts (signs_of (suc i))) → T (not (eqb (letter_of (suc i)) a))
unfolding letter_in
no-action_if i h u = only_then (counts (signs_of (suc i))) (not (eqb (letter_of (suc i)) a)) (upto 17 (λ j. only_if (counts (signs_of (suc j))) (not (eqb (letter_of (suc j)) a))) i tt h) u

pub form_signs : (es : List (List ℕ)) (r : Rec) (i : ℕ) → i < 17
    → (eqb (letter_of (suc i)) a ≡ true → proper es r.x ≡ true) → (eqb (letter_of (suc i)) a ≡ false → r.x ≤ 9999) → r.y ≤ 9999 → Formed es r (signs_of (suc i))
form_signs es r i h p hx hy =
    formed es r hy (signs_of (suc i)) (λ u. p (T_true _ (action_if i h u)))
    (λ u. hx (T_not _ (no-action_if i h (or_left (uses k (signs_of (suc i))) _ u)))) (λ u. hx (T_not _ (no-action_if i h (or_right (uses k (signs_of (suc i))) _ u))))

-- ## A record's own form

pub record Instruction (es : List (List ℕ)) (r : Rec) : Type 0 where
  pub number : ℕ
  pub listed : number < 17
  pub is_form : form_of r ≡ suc number
  pub parts : Formed es r (signs_of (suc number))

pub instruction : (es : List (List ℕ)) (r : Rec) (j : ℕ) → j < 16 → r.kind ≡ suc j
    → (eqb (letter_of (suc j)) a ≡ true → proper es r.x ≡ true) → (eqb (letter_of (suc j)) a ≡ false → r.x ≤ 9999) → r.y ≤ 9999 → Instruction es r
unfolding form_of letter_in
instruction es r j h e p hx hy =
    by_test (eqb r.kind 4)
    (λ f. by_test (eqb r.x 0)
    (λ z. let c = eqb-true r.x 0 z in of_form 16 (omega arith) (rw (f, z)) (λ q. never (sym q)) (λ _. omega arith))
    (λ z. of_form 3 (omega arith) (rw (f, z)) (λ q. never (sym q)) (λ q. hx (four (eqb-true r.kind 4 f)))))
    (λ f. of_form j (omega arith) (rw f e) p hx)
  where
    four : r.kind ≡ 4 → eqb (letter_of (suc j)) a ≡ false
    four c = let d : suc j ≡ 4 = sym e ∙ c in let q : j ≡ 3 = omega arith in rw q

    of_form : (i : ℕ) → i < 17 → form_of r ≡ suc i → (eqb (letter_of (suc i)) a ≡ true → proper es r.x ≡ true) → (eqb (letter_of (suc i)) a ≡ false → r.x ≤ 9999) → Instruction es r
    of_form i h e p hx = record { number = i; listed = h; is_form = e; parts = form_signs es r i h p hx hy }

-- What a reading makes of an instruction: a record whose action is the first place of a proper name, whose number has four digits at
-- most, and whose labels are each at most one more than the greatest so far.
use mathlib.Core.Path.{◌≡◌, refl, sym, ap, ◌∙◌, subst}
use Prim.Native.Nat.{◌≤◌, ◌<◌}
use native.Mathlib.Omega.{arith}
use mathlib.Core.List.{append_assoc}
use lib.Seq.{length-take-le}
use borrow.Author.Tests.{eqb-true, eqb-false, ltb-false}
use Rattle.std.specs.Prelude.{◌+◌, ◌||◌, ◌∷◌, ◌++◌}
use Rattle.rules.specs.Words.{ℕ, zero, suc, true, false, cond, List, [], length, take, eqb, ltb}
use Rattle.rules.specs.Record.{Rec, rec}
use Rattle.text.specs.declared.Sort.TheVariants.{Blank, Named}
use Rattle.text.specs.Bytes.{run, span}
use Rattle.text.specs.Forms.{a, k, s, t, signs_of, letter_in, letter_of, itself, name, number, part_of, fit, best_of}
use Rattle.text.specs.Names.{name_at, number_at, action_of, name_of, proper, label_of, with_label}
use Rattle.text.specs.Reading.{Next, made, bad, form_record, named, next_of, reads, onwards, read_from, read_text}
use Rattle.text.specs.Grammar as grammar
use Rattle.text.specs.Grammar.{All, Form, done, sign, numbered}
use Rattle.text.proofs.Tests.{by_test, cond_has}
use Rattle.grammar.specs.Promises.{actions_in, labels_in}
use Rattle.grammar.proofs.Runs.{run_all, span_most}
use Rattle.grammar.proofs.Follows.{blanked}
use Rattle.grammar.proofs.Accepts.{Tail}
use Rattle.grammar.proofs.Stuck.{Fair, next_fair}
use Rattle.grammar.proofs.Spelt.{literal, is_number, Spelt, plain, action, figure, label, labels}
use Rattle.grammar.proofs.Known.{known_was, on_action, on_label, on_first, on_second, by_none, by_action, by_figure, by_label, by_labels, spells, next_is, here}
use Rattle.grammar.proofs.Known as text
use Rattle.written.specs.Promises.{tags}
use Rattle.written.proofs.Decimal.{number_most}
use Rattle.written.proofs.Numbered.{entered, action_most, Given, given}
use Rattle.written.proofs.Fields.{with_tags}

-- A record that is read with m labels before it, where there are then m'.
pub data Right (es : List (List ℕ)) (m : ℕ) : Rec → ℕ → Type 0 where
  of_none : (i : ℕ) → i < 16 → letter_of (suc i) ≡ 0 → Right es m (rec (suc i) 0 0) m
  of_action : (i x : ℕ) → i < 16 → letter_of (suc i) ≡ a → proper es x ≡ true → action_of es (name_of es x) ≡ x → 1 ≤ x → x ≤ length es → Right es m (rec (suc i) x 0) m
  of_number : (i x : ℕ) → i < 16 → letter_of (suc i) ≡ k → x ≤ 9999 → Right es m (rec (suc i) x 0) m
  of_label : (i x m' : ℕ) → i < 16 → letter_of (suc i) ≡ s → tags (signs_of (suc i)) ≡ s ∷ [] → Given m x m' → Right es m (rec (suc i) x 0) m'
  of_labels : (i x y m' m'' : ℕ) → i < 16 → letter_of (suc i) ≡ s → tags (signs_of (suc i)) ≡ s ∷ t ∷ [] → Given m x m' → Given m' y m'' → Right es m (rec (suc i) x y) m''

-- ## What is known of the names in a form

-- None is empty, and there are as many labels as letters for them.
abbrev Filled : List (List ℕ) → Type 0
Filled [] = Unit {0}
Filled (n ∷ ns) = (1 ≤ length n) × Filled ns

filled : {ps u : List ℕ} (f : Form ps u) → Filled (actions_in f)
filled done = tt
filled (sign e f) = filled f
filled (grammar.named {p} n e al lo hi f) = cond_has Filled (eqb p a) (n ∷ actions_in f) (actions_in f) (λ _. (lo, filled f)) (λ _. filled f)
filled (numbered n e al lo hi f) = filled f

label-letter : (p : ℕ) → part_of p ≡ name → eqb p a ≡ false → (eqb p s || eqb p t) ≡ true
unfolding part_of
label-letter p h na =
    by_test (eqb p s || eqb p t) (λ e. e)
    (λ e. absurd (by_test (eqb p k)
    (λ f. let q : number ≡ name = rw f at h in let y : ◌≡◌ {A = ℕ} 0 1 = cc in omega arith)
    (λ f. let q : itself ≡ name = rw (f, na, e) at h in let y : ◌≡◌ {A = ℕ} 0 1 = cc in omega arith)))

counted_name : (p : ℕ) (ps n : List ℕ) (ls : List (List ℕ)) → part_of p ≡ name → length ls ≡ length (tags ps) → length (cond (eqb p a) ls (n ∷ ls)) ≡ length (tags (p ∷ ps))
unfolding tags
counted_name p ps n ls e r =
    by_test (eqb p a)
    (λ h. let q : p ≡ a = eqb-true p a h in rw q r)
    (λ h. rw (h, label-letter p e h) (ap suc r))

counted : {ps u : List ℕ} (f : Form ps u) → length (labels_in f) ≡ length (tags ps)
unfolding tags
counted done = refl
counted (sign {p} e f) = let l = literal p e in rw (l.not_s, l.not_t) (counted f)
counted (grammar.named {p} {ps} n e al lo hi f) = counted_name p ps n (labels_in f) e (counted f)
counted (numbered {p} n e al lo hi f) = rw (is_number p e) (counted f)

-- One letter for a label is s, two are s and t.
module _ (i : ℕ) (h : i < 16) (e : letter_of (suc i) ≡ s) where
  one_tag : 1 ≡ length (tags (signs_of (suc i))) → tags (signs_of (suc i)) ≡ s ∷ []
  one_tag c = with_tags i h e (λ tg. tg) (λ tg. absurd (let z : 1 ≡ 2 = c ∙ ap length tg in omega arith))

  two_tags : 2 ≡ length (tags (signs_of (suc i))) → tags (signs_of (suc i)) ≡ s ∷ t ∷ []
  two_tags c = with_tags i h e (λ tg. absurd (let z : 2 ≡ 1 = c ∙ ap length tg in omega arith)) (λ tg. tg)

-- ## The record that is made

-- A form with a letter has the kind of its number.
module _ (i : ℕ) (hi : i < 17) where
  no-letter : i ≡ 16 → letter_of (suc i) ≡ 0
  unfolding letter_in
  no-letter e = rw e

  own_kind : (x y : ℕ) → (letter_of (suc i) ≡ 0 → ⊥) → (i < 16) × (form_record (suc i) x y ≡ rec (suc i) x y)
  unfolding form_record
  own_kind x y h =
      by_test (eqb (suc i) 17)
      (λ e. let q = eqb-true (suc i) 17 e in absurd (h (no-letter (omega arith))))
      (λ e. let q = eqb-false (suc i) 17 e in (omega arith, rw e))

  plain_right : (es : List (List ℕ)) (m : ℕ) → letter_of (suc i) ≡ 0 → Right es m (form_record (suc i) 0 0) m
  unfolding form_record letter_in
  plain_right es m h =
      by_test (eqb (suc i) 17)
      (λ e. rw e (of_number 3 0 (omega arith) refl (omega arith)))
      (λ e. let q = eqb-false (suc i) 17 e in rw e (of_none i (omega arith) h))

as_made : (es : List (List ℕ)) (m : ℕ) {r r' : Rec} {us vs : List (List ℕ)} {e e' : ℕ} → made r' us e' ≡ made r vs e → Right es m r' (length us) → Right es m r (length vs)
as_made es m {r} {r'} {us} {vs} {e} {e'} q g =
    let x : r' ≡ r = cc in
    let y : us ≡ vs = cc in
    subst (λ (z : Rec). Right es m z (length vs)) x (subst (λ (z : List (List ℕ)). Right es m r' (length z)) y g)

module _ (w : List ℕ) (es us : List (List ℕ)) (i far : ℕ) (hi : i < 17) (l : length us ≤ 999) where
  action_right : (n : List ℕ) (q : ℕ) → letter_of (suc i) ≡ a → name_at w q ≡ n → 1 ≤ length n → (action_of es n ≡ 0 → ⊥)
      → Right es (length us) (form_record (suc i) (action_of es n) 0) (length us)
  action_right n q h nm lo kn =
      let o = own_kind i hi (action_of es n) 0 (λ z. let y : a ≡ 0 = sym h ∙ z in omega arith) in
      let al : All Named n = subst (λ (v : List ℕ). All Named v) nm (run_all Named w q 16) in
      let mo : length n ≤ 16 = subst (λ (v : List ℕ). length v ≤ 16) nm (span_most Named w q 16) in
      let r = entered es n al lo mo kn in
      let b = action_most es n kn in
      rw o.1 (of_action i (action_of es n) o.0 h r.is_proper (ap (action_of es) r.name_is) b.0 b.1)

  number_right : (q : ℕ) → letter_of (suc i) ≡ k → Right es (length us) (form_record (suc i) (number_at w q) 0) (length us)
  number_right q h =
      let o = own_kind i hi (number_at w q) 0 (λ z. let y : k ≡ 0 = sym h ∙ z in omega arith) in
      rw o.1 (of_number i (number_at w q) o.0 h (number_most w q))

  label_right : (n : List ℕ) → letter_of (suc i) ≡ s → 1 ≡ length (tags (signs_of (suc i))) → (label_of us n ≡ 0 → ⊥)
      → Right es (length us) (form_record (suc i) (label_of us n) 0) (length (with_label us n))
  label_right n h c kn =
      let o = own_kind i hi (label_of us n) 0 (λ z. let y : s ≡ 0 = sym h ∙ z in omega arith) in
      rw o.1 (of_label i (label_of us n) (length (with_label us n)) o.0 h (one_tag i o.0 h c) (given us n l kn))

  labels_right : (n m : List ℕ) → letter_of (suc i) ≡ s → 2 ≡ length (tags (signs_of (suc i))) → (label_of us n ≡ 0 → ⊥) → (label_of (with_label us n) m ≡ 0 → ⊥)
      → Right es (length us) (form_record (suc i) (label_of us n) (label_of (with_label us n) m)) (length (with_label (with_label us n) m))
  labels_right n m h c kn km =
      let o = own_kind i hi (label_of us n) (label_of (with_label us n) m) (λ z. let y : s ≡ 0 = sym h ∙ z in omega arith) in
      let g = given us n l kn in
      rw o.1 (of_labels i (label_of us n) (label_of (with_label us n) m) (length (with_label us n)) (length (with_label (with_label us n) m)) o.0 h
      (two_tags i o.0 h c) g (given (with_label us n) m g.few km))

  was_right : {x y e : ℕ} {ac ls vs : List (List ℕ)} {r : Rec} → Spelt w (letter_of (suc i)) ac ls x y → Filled ac → length ls ≡ length (tags (signs_of (suc i)))
      → named (letter_of (suc i)) w es us (fit (suc i) true far x y) ≡ made r vs e → Right es (length us) r (length vs)
  was_right {x = x} {y = y} (plain h ae f) fi c m = as_made es (length us) (sym (by_none w es us (suc i) far x y) ∙ (rw h at m)) (plain_right i hi es (length us) h)
  was_right {y = y} (action n q h ae f g nm) fi c m =
      let z = known_was (suc q) (action_of es n) (on_action w es us (suc i) far) (sym (by_action w es us (suc i) far q y n nm) ∙ (rw (h, g) at m)) in
      as_made es (length us) z.1 (action_right n q h nm (rw ae at fi).0 z.0)
  was_right {y = y} (figure n q h ae f g nm) fi c m =
      as_made es (length us) (sym (by_figure w es us (suc i) far q y) ∙ (rw (h, g) at m)) (number_right q h)
  was_right (label n q h ae f g nm yz) fi c m =
      let z = known_was (suc q) (label_of us n) (on_label w es us (suc i) far n) (sym (by_label w es us (suc i) far q n nm) ∙ (rw (h, g, yz) at m)) in
      as_made es (length us) z.1 (label_right n h (rw f at c) z.0)
  was_right (labels n o q j h ae f g nm yz nm') fi c m =
      let z = known_was (suc q) (label_of us n) (on_first w es us (suc i) far j n o) (sym (by_labels w es us (suc i) far q j n o nm nm') ∙ (rw (h, g, yz) at m)) in
      let z' = known_was (suc j) (label_of (with_label us n) o) (on_second w es us (suc i) far n o (label_of us n)) z.1 in
      as_made es (length us) z'.1 (labels_right n o h (rw f at c) z.0 z'.0)

-- ## In its text

there_right : (es us : List (List ℕ)) (i : ℕ) (pre b u c z : List ℕ) (hi : i < 17) (bs : All Blank b) (f : Form (signs_of (suc i)) u) (cs : All Blank c) (t : Tail z)
    {r : Rec} {vs : List (List ℕ)} {e : ℕ} → length us ≤ 999 → next_of (pre ++ (b ++ (u ++ (c ++ z)))) es us (length pre) ≡ made r vs e → Right es (length us) r (length vs)
there_right es us i pre b u c z hi bs f cs t l m =
    was_right (text.whole es us i pre b u c z hi bs f cs t) es us i (text.end es us i pre b u c z hi bs f cs t) hi l
    (spells es us i pre b u c z hi bs f cs t) (filled f) (counted f) (sym (next_is es us i pre b u c z hi bs f cs t) ∙ m)

next_right : (w : List ℕ) (es us : List (List ℕ)) (at : ℕ) {r : Rec} {vs : List (List ℕ)} {e : ℕ} → at ≤ length w → length us ≤ 999
    → (best_of w (blanked w at)).whole ≡ true → next_of w es us at ≡ made r vs e → Right es (length us) r (length vs)
next_right w es us at {r} {vs} {e} h l wh m =
    let o = here w es at h wh in
    let n : length (take at w) ≡ at = length-take-le at w h in
    there_right es us o.number (take at w) (run Blank w at (length w)) o.shows.u o.shows.c o.shows.z o.hi (run_all Blank w at (length w)) o.shows.form o.shows.blanks o.shows.tail
    {r = r} {vs = vs} {e = e} l (rw (o.before, n) m)

-- ## A whole text

-- Records that are read one after the other, with m labels before them.
pub data Rights (es : List (List ℕ)) : ℕ → List Rec → Type 0 where
  no_more : (m : ℕ) → Rights es m []
  one_more : (m m' : ℕ) (r : Rec) (rs : List Rec) → Right es m r m' → Rights es m' rs → Rights es m (r ∷ rs)

-- The records qs behind those that were read before.
pub record Behind (es : List (List ℕ)) (m : ℕ) (rs rs' : List Rec) : Type 0 where
  pub qs : List Rec
  pub joined : rs' ≡ rs ++ qs
  pub right : Rights es m qs

pub right_few : {es : List (List ℕ)} {m m' : ℕ} {r : Rec} → m ≤ 999 → Right es m r m' → m' ≤ 999
right_few l (of_none i h e) = l
right_few l (of_action i x h e p q lo hi) = l
right_few l (of_number i x h e q) = l
right_few l (of_label i x m' h e q g) = g.few
right_few l (of_labels i x y m' m'' h e q g g') = g'.few

module _ (w : List ℕ) (es : List (List ℕ)) where
  last_behind : {m m' : ℕ} {r : Rec} {rs rs' : List Rec} → Right es m r m' → reads (rs ++ (r ∷ [])) ≡ reads rs' → Behind es m rs rs'
  last_behind {m} {m'} {r} {rs} {rs'} g q =
      record { qs = r ∷ []; joined = let z : rs ++ (r ∷ []) ≡ rs' = cc in sym z; right = one_more m m' r [] g (no_more m') }

  more_behind : {m m' : ℕ} {r : Rec} {rs rs' : List Rec} → Right es m r m' → Behind es m' (rs ++ (r ∷ [])) rs' → Behind es m rs rs'
  more_behind {m} {m'} {r} {rs} {rs'} g b =
      record { qs = r ∷ b.qs; joined = b.joined ∙ append_assoc rs (r ∷ []) b.qs; right = one_more m m' r b.qs g b.right }

  pub reads_right : (m at : ℕ) (us : List (List ℕ)) (rs rs' : List Rec) → at ≤ length w → length us ≤ 999 → read_from m w es at us rs ≡ reads rs' → Behind es (length us) rs rs'
  unfolding read_from
  reads_right zero at us rs rs' h l e = absurd (let y : ◌≡◌ {A = ℕ} 0 1 = cc in omega arith)
  reads_right (suc m) at us rs rs' h l e = by (next_of w es us at) refl (next_fair w es us at) (λ d vs qs hi k q. reads_right m d vs qs rs' hi k q) e
    where
      by : (x : Next) → next_of w es us at ≡ x → Fair (best_of w (blanked w at)) x
          → ((d : ℕ) (vs : List (List ℕ)) (qs : List Rec) → d ≤ length w → length vs ≤ 999 → read_from m w es d vs qs ≡ reads rs' → Behind es (length vs) qs rs')
          → onwards x (λ r vs d. cond (ltb (length w) d) (reads (rs ++ (r ∷ []))) (read_from m w es d vs (rs ++ (r ∷ [])))) ≡ reads rs' → Behind es (length us) rs rs'
      by (made r vs d) n g go q =
          let p = next_right w es us at h l g.0 n in
          by_test (ltb (length w) d)
          (λ t. last_behind p (rw t at q))
          (λ t. more_behind p (go d vs (rs ++ (r ∷ [])) (ltb-false (length w) d t) (right_few l p) (rw t at q)))
      by (bad x) n g go q = absurd (let y : ◌≡◌ {A = ℕ} 0 1 = cc in omega arith)

  pub text_right : (rs : List Rec) → read_text w es ≡ reads rs → Rights es 0 rs
  unfolding read_text
  text_right rs e =
      by_test (eqb (span Blank w 0 (length w)) (length w))
      (λ t. let q : reads [] ≡ reads rs = rw t at e in let z : [] ≡ rs = cc in subst (Rights es 0) z (no_more 0))
      (λ t. let b = reads_right (length w + 1) 0 [] [] rs (omega arith) (omega arith) (rw t at e) in subst (Rights es 0) (sym b.joined) b.right)

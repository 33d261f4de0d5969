-- What is written for records that were read is read again, one instruction after the other.
use mathlib.Core.Path.{◌≡◌, refl, sym, ap, ◌∙◌, subst}
use Prim.Native.Nat.{◌≤◌, ◌<◌}
use Prim.Native.Char.{code}
use native.Mathlib.Omega.{arith}
use mathlib.Core.List.{append_assoc}
use lib.ListN.{length-append}
use borrow.Author.Tests.{eqb-true, eqb-false, ne_eqb, lt-ltb, le-ltb}
use Rattle.std.specs.Prelude.{◌+◌, ◌∷◌, ◌++◌}
use Rattle.rules.specs.Words.{ℕ, zero, suc, true, false, List, [], map, length, eqb}
use Rattle.rules.specs.Record.{Rec, rec}
use Rattle.text.specs.declared.Sort.TheVariants.{Blank}
use Rattle.text.specs.Bytes.{run, span}
use Rattle.text.specs.Forms.{a, k, s, t, signs_of, letter_in, letter_of, fit}
use Rattle.text.specs.Names.{value_of, action_of, name_of, proper, label_of, with_label}
use Rattle.text.specs.Reading.{made, form_record, known, named, next_of, reads, read_from, read_text}
use Rattle.text.specs.Writing.{decimal, label_name, written_signs, form_of, written, further_ones, text_of, nameless_from}
use Rattle.text.specs.Grammar.{All}
use Rattle.text.proofs.Tests.{by_test, never}
use Rattle.grammar.specs.Promises.{actions_in, labels_in}
use Rattle.grammar.proofs.Accepts.{Tail, semi, stop, tail-stops, x_in, y_in}
use Rattle.grammar.proofs.Instructions.{passed, some_bytes, forms_start}
use Rattle.grammar.proofs.Place.{up_to, behind, up_to_length}
use Rattle.grammar.proofs.Spelt.{Spelt}
use Rattle.grammar.proofs.Known.{known_on, on_action, on_label, on_first, by_none, by_action, by_figure, by_label, by_labels, spells, next_is}
use Rattle.written.specs.Promises.{tags, tagged}
use Rattle.written.proofs.Decimal.{decimal_value}
use Rattle.written.proofs.Numbered.{Given, given_most, label_names, label_back}
use Rattle.written.proofs.Formed.{Formed, form_signs, Instruction, instruction}
use Rattle.written.proofs.Texts.{space, space_blank, form_of_lem}
use Rattle.written.proofs.Made.{Right, of_none, of_action, of_number, of_label, of_labels, Rights, no_more, one_more}
use Rattle.written.proofs.Sought.{Figure, all_figured, figure_there, an_action, one_label, two_labels}

-- ## One instruction, of form i + 1

module _ (es us : List (List ℕ)) (r : Rec) (i : ℕ) (pre b z : List ℕ) (hi : i < 17) (bs : All Blank b) (f : Formed es r (signs_of (suc i))) (tl : Tail z) where
  abbrev bytes : List ℕ
  bytes = written_signs es r (signs_of (suc i))

  abbrev w : List ℕ
  w = pre ++ (b ++ (bytes ++ z))

  abbrev after : ℕ
  after = length pre + length b + length bytes + 0 + 1

  abbrev x_at_lem : ℕ
  x_at_lem = x_in f.form (length pre + length b) 0

  abbrev y_at_lem : ℕ
  y_at_lem = y_in f.form (length pre + length b) 0

  abbrev Reads : ℕ → ℕ → List (List ℕ) → Type 0
  Reads x y vs = next_of w es us (length pre) ≡ made (form_record (suc i) x y) vs after

  spelt_here : Spelt w (letter_of (suc i)) (actions_in f.form) (labels_in f.form) x_at_lem y_at_lem
  spelt_here = spells es us i pre b bytes [] z hi bs f.form tt tl

  at-letter : (l x y : ℕ) → letter_of (suc i) ≡ l → x_at_lem ≡ x → y_at_lem ≡ y → next_of w es us (length pre) ≡ named l w es us (fit (suc i) true after x y)
  at-letter l x y e h g =
      next_is es us i pre b bytes [] z hi bs f.form tt tl ∙ ap (λ (n : ℕ). named n w es us (fit (suc i) true after x_at_lem y_at_lem)) e
      ∙ ap (λ (n : ℕ). named l w es us (fit (suc i) true after n y_at_lem)) h ∙ ap (λ (n : ℕ). named l w es us (fit (suc i) true after x n)) g

  back_none : letter_of (suc i) ≡ 0 → Reads 0 0 us
  back_none h = at-letter 0 x_at_lem y_at_lem h refl refl ∙ by_none w es us (suc i) after x_at_lem y_at_lem

  back_action : letter_of (suc i) ≡ a → action_of es (name_of es r.x) ≡ r.x → 1 ≤ r.x → Reads r.x 0 us
  back_action h e lo =
      let n = an_action (name_of es r.x) spelt_here h f.actions in
      at-letter a (suc n.place) y_at_lem h n.x_is refl
      ∙ by_action w es us (suc i) after n.place y_at_lem (name_of es r.x) n.stands
      ∙ ap (λ (v : ℕ). known (suc n.place) v (on_action w es us (suc i) after)) e
      ∙ known_on (suc n.place) r.x (on_action w es us (suc i) after) (λ z. omega arith)

  figure_here : letter_of (suc i) ≡ k → Figure w (decimal r.x) x_at_lem
  figure_here h =
      let l : length (pre ++ b) ≡ length pre + length b = length-append pre b in
      let g = figure_there (decimal r.x) (pre ++ b) z f.form (all_figured i hi h) (tail-stops tl) f.numbers in
      rw (append_assoc pre b (bytes ++ z), l) at g

  back_number : letter_of (suc i) ≡ k → Reads r.x 0 us
  back_number h =
      let g = figure_here h in
      at-letter k (suc g.place) y_at_lem h g.x_is refl
      ∙ by_figure w es us (suc i) after g.place y_at_lem
      ∙ ap (λ (v : ℕ). made (form_record (suc i) v 0) us after) (ap (λ (d : List ℕ). value_of d 0) g.stands ∙ decimal_value r.x)

  back_label : (vs : List (List ℕ)) → letter_of (suc i) ≡ s → tags (signs_of (suc i)) ≡ s ∷ [] → 1 ≤ r.x → label_of us (label_name r.x) ≡ r.x → with_label us (label_name r.x) ≡ vs
      → Reads r.x 0 vs
  back_label vs h tg lo e g =
      let q = one_label (label_name r.x) spelt_here h (f.labels ∙ ap (map (λ (p : ℕ). label_name (tagged r p))) tg) in
      let n = q.0 in
      at-letter s (suc n.place) 0 h n.x_is q.1
      ∙ by_label w es us (suc i) after n.place (label_name r.x) n.stands
      ∙ ap (λ (v : ℕ). known (suc n.place) v (on_label w es us (suc i) after (label_name r.x))) e
      ∙ known_on (suc n.place) r.x (on_label w es us (suc i) after (label_name r.x)) (λ z. omega arith)
      ∙ ap (λ (l : List (List ℕ)). made (form_record (suc i) r.x 0) l after) g

  back_labels : (vs vs' : List (List ℕ)) → letter_of (suc i) ≡ s → tags (signs_of (suc i)) ≡ s ∷ t ∷ []
      → 1 ≤ r.x → label_of us (label_name r.x) ≡ r.x → with_label us (label_name r.x) ≡ vs
      → 1 ≤ r.y → label_of vs (label_name r.y) ≡ r.y → with_label vs (label_name r.y) ≡ vs'
      → Reads r.x r.y vs'
  back_labels vs vs' h tg lo e g lo' e' g' =
      let q = two_labels (label_name r.x) (label_name r.y) spelt_here h (f.labels ∙ ap (map (λ (p : ℕ). label_name (tagged r p))) tg) in
      let n = q.0 in
      let m = q.1 in
      let u = label_name r.x in
      let v = label_name r.y in
      at-letter s (suc n.place) (suc m.place) h n.x_is m.x_is
      ∙ by_labels w es us (suc i) after n.place m.place u v n.stands m.stands
      ∙ ap (λ (j : ℕ). known (suc n.place) j (on_first w es us (suc i) after m.place u v)) e
      ∙ known_on (suc n.place) r.x (on_first w es us (suc i) after m.place u v) (λ z. omega arith)
      ∙ ap (λ (l : List (List ℕ)). known (suc m.place) (label_of l v) (λ j. made (form_record (suc i) r.x j) (with_label l v) after)) g
      ∙ ap (λ (j : ℕ). known (suc m.place) j (λ j. made (form_record (suc i) r.x j) (with_label vs v) after)) e'
      ∙ known_on (suc m.place) r.y (λ j. made (form_record (suc i) r.x j) (with_label vs v) after) (λ z. omega arith)
      ∙ ap (λ (l : List (List ℕ)). made (form_record (suc i) r.x r.y) l after) g'

-- ## One record

-- Written anywhere, with the labels us before it, the record is read again, and then there are the labels vs.
abbrev ReadsBack : List (List ℕ) → List (List ℕ) → Rec → List (List ℕ) → Type 0
ReadsBack es us r vs =
    (pre b z : List ℕ) → All Blank b → Tail z
    → next_of (pre ++ (b ++ (written es r ++ z))) es us (length pre) ≡ made r vs (length pre + length b + length (written es r) + 0 + 1)

module _ (es us vs : List (List ℕ)) (r : Rec) (i x y : ℕ) where
  as_own : form_of r ≡ suc i → form_record (suc i) x y ≡ r
      → ((pre b z : List ℕ) → All Blank b → Tail z
      → next_of (pre ++ (b ++ (written_signs es r (signs_of (suc i)) ++ z))) es us (length pre) ≡ made (form_record (suc i) x y) vs (length pre + length b + length (written_signs es r (signs_of (suc i))) + 0 + 1))
      → ReadsBack es us r vs
  as_own e g h pre b z bs tl =
      subst (λ (j : ℕ). next_of (pre ++ (b ++ (written_signs es r (signs_of j) ++ z))) es us (length pre) ≡ made r vs (length pre + length b + length (written_signs es r (signs_of j)) + 0 + 1)) (sym e)
      (h pre b z bs tl ∙ ap (λ (q : Rec). made q vs (length pre + length b + length (written_signs es r (signs_of (suc i))) + 0 + 1)) g)

module _ (i x y : ℕ) (h : i < 16) where
  own_record : form_record (suc i) x y ≡ rec (suc i) x y
  unfolding form_record
  own_record = rw (ne_eqb (suc i) 17 (λ z. omega arith))

  own_form : (letter_of (suc i) ≡ k → ⊥) → form_of (rec (suc i) x y) ≡ suc i
  unfolding form_of letter_in
  own_form n = by_test (eqb (suc i) 4) (λ e. let q = eqb-true (suc i) 4 e in let z : i ≡ 3 = omega arith in absurd (n (rw z))) (λ e. rw e)

  number_form : (x ≡ 0 → ⊥) → form_of (rec (suc i) x y) ≡ suc i
  unfolding form_of
  number_form n = by_test (eqb (suc i) 4) (λ e. rw (e, ne_eqb x 0 n) (sym (eqb-true (suc i) 4 e))) (λ e. rw e)

  call_form : (i ≡ 3 → ⊥) → form_of (rec (suc i) x y) ≡ suc i
  unfolding form_of
  call_form n = rw (ne_eqb (suc i) 4 (λ z. n (omega arith)))

-- A letter other than a.
not_a : {X : Type 0} (i l : ℕ) → letter_of (suc i) ≡ l → (l ≡ a → ⊥) → eqb (letter_of (suc i)) a ≡ true → X
not_a i l e n q = absurd (n (sym e ∙ eqb-true (letter_of (suc i)) a q))

module _ (es us : List (List ℕ)) where
  none_back : (i : ℕ) → i < 16 → letter_of (suc i) ≡ 0 → ReadsBack es us (rec (suc i) 0 0) us
  none_back i h e =
      let f = form_signs es (rec (suc i) 0 0) i (omega arith) (not_a i 0 e (λ z. omega arith)) (λ _. omega arith) (omega arith) in
      as_own es us us (rec (suc i) 0 0) i 0 0 (own_form i 0 0 h (λ z. let q : 0 ≡ k = sym e ∙ z in omega arith)) (own_record i 0 0 h)
      (λ pre b z bs tl. back_none es us (rec (suc i) 0 0) i pre b z (omega arith) bs f tl e)

  action_back : (i x : ℕ) → i < 16 → letter_of (suc i) ≡ a → proper es x ≡ true → action_of es (name_of es x) ≡ x → 1 ≤ x → ReadsBack es us (rec (suc i) x 0) us
  action_back i x h e p q lo =
      let f = form_signs es (rec (suc i) x 0) i (omega arith) (λ _. p) (λ n. never (rw e at n)) (omega arith) in
      as_own es us us (rec (suc i) x 0) i x 0 (own_form i x 0 h (λ z. let q : a ≡ k = sym e ∙ z in omega arith)) (own_record i x 0 h)
      (λ pre b z bs tl. back_action es us (rec (suc i) x 0) i pre b z (omega arith) bs f tl e q lo)

  number_back : (i x : ℕ) → i < 16 → letter_of (suc i) ≡ k → x ≤ 9999 → form_of (rec (suc i) x 0) ≡ suc i → ReadsBack es us (rec (suc i) x 0) us
  number_back i x h e hi g =
      let f = form_signs es (rec (suc i) x 0) i (omega arith) (not_a i k e (λ z. omega arith)) (λ _. hi) (omega arith) in
      as_own es us us (rec (suc i) x 0) i x 0 g (own_record i x 0 h)
      (λ pre b z bs tl. back_number es us (rec (suc i) x 0) i pre b z (omega arith) bs f tl e)

  -- ##0 is written as `!`.
  stop_back : ReadsBack es us (rec 4 0 0) us
  unfolding form_of form_record letter_in
  stop_back =
      let f = form_signs es (rec 4 0 0) 16 (omega arith) (λ q. never (sym q)) (λ _. omega arith) (omega arith) in
      as_own es us us (rec 4 0 0) 16 0 0 refl refl (λ pre b z bs tl. back_none es us (rec 4 0 0) 16 pre b z (omega arith) bs f tl refl)

  any_number_back : (i x : ℕ) → i < 16 → letter_of (suc i) ≡ k → x ≤ 9999 → ReadsBack es us (rec (suc i) x 0) us
  any_number_back i x h e hi =
      by_test (eqb i 3)
      (λ c. by_test (eqb x 0)
      (λ z. subst (λ (j : ℕ). ReadsBack es us (rec (suc j) x 0) us) (sym (eqb-true i 3 c)) (subst (λ (j : ℕ). ReadsBack es us (rec 4 j 0) us) (sym (eqb-true x 0 z)) stop_back))
      (λ z. number_back i x h e hi (number_form i x 0 h (eqb-false x 0 z))))
      (λ c. number_back i x h e hi (call_form i x 0 h (eqb-false i 3 c)))

label_again : (es : List (List ℕ)) (i x m m' : ℕ) → i < 16 → letter_of (suc i) ≡ s → tags (signs_of (suc i)) ≡ s ∷ [] → Given m x m' → ReadsBack es (label_names m) (rec (suc i) x 0) (label_names m')
label_again es i x m m' h e tg g =
    let hi = given_most g in
    let r = label_back g in
    let f = form_signs es (rec (suc i) x 0) i (omega arith) (not_a i s e (λ z. omega arith)) (λ _. omega arith) (omega arith) in
    as_own es (label_names m) (label_names m') (rec (suc i) x 0) i x 0 (own_form i x 0 h (λ z. let q : s ≡ k = sym e ∙ z in omega arith)) (own_record i x 0 h)
    (λ pre b z bs tl. back_label es (label_names m) (rec (suc i) x 0) i pre b z (omega arith) bs f tl (label_names m') e tg g.one r.0 r.1)

labels_again : (es : List (List ℕ)) (i x y m m' m'' : ℕ) → i < 16 → letter_of (suc i) ≡ s → tags (signs_of (suc i)) ≡ s ∷ t ∷ [] → Given m x m' → Given m' y m''
    → ReadsBack es (label_names m) (rec (suc i) x y) (label_names m'')
labels_again es i x y m m' m'' h e tg g g' =
    let hi = given_most g in
    let hi' = given_most g' in
    let r = label_back g in
    let r' = label_back g' in
    let f = form_signs es (rec (suc i) x y) i (omega arith) (not_a i s e (λ z. omega arith)) (λ _. omega arith) (omega arith) in
    as_own es (label_names m) (label_names m'') (rec (suc i) x y) i x y (own_form i x y h (λ z. let q : s ≡ k = sym e ∙ z in omega arith)) (own_record i x y h)
    (λ pre b z bs tl. back_labels es (label_names m) (rec (suc i) x y) i pre b z (omega arith) bs f tl (label_names m') (label_names m'') e tg g.one r.0 r.1 g'.one r'.0 r'.1)

back : {es : List (List ℕ)} {m m' : ℕ} {r : Rec} → Right es m r m' → ReadsBack es (label_names m) r (label_names m')
back {es} {m} (of_none i h e) = none_back es (label_names m) i h e
back {es} {m} (of_action i x h e p q lo hi) = action_back es (label_names m) i x h e p q lo
back {es} {m} (of_number i x h e q) = any_number_back es (label_names m) i x h e q
back {es} {m} (of_label i x m' h e tg g) = label_again es i x m m' h e tg g
back {es} {m} (of_labels i x y m' m'' h e tg g g') = labels_again es i x y m m' m'' h e tg g g'

-- ## All of them

module _ (es : List (List ℕ)) where
  abbrev text_from : List ℕ → Rec → List Rec → List ℕ
  text_from b r rs = b ++ (written es r ++ further_ones es rs)

  last_again : (n : ℕ) (pre b : List ℕ) (us vs : List (List ℕ)) (before : List Rec) (r : Rec) → All Blank b → ReadsBack es us r vs
      → read_from (suc n) (pre ++ (b ++ (written es r ++ []))) es (length pre) us before ≡ reads (before ++ (r ∷ []))
  unfolding read_from
  last_again n pre b us vs before r bs k =
      let n₁ = length-append pre (b ++ (written es r ++ [])) in
      let n₂ = length-append b (written es r ++ []) in
      let n₃ = length-append (written es r) [] in
      rw (k pre b [] bs stop, lt-ltb (length (pre ++ (b ++ (written es r ++ [])))) (length pre + length b + length (written es r) + 0 + 1) (omega arith))

  more_again : (n : ℕ) (pre b v : List ℕ) (us vs : List (List ℕ)) (before after : List Rec) (r : Rec) → All Blank b → ReadsBack es us r vs
      → read_from n ((pre ++ up_to b (written es r) []) ++ v) es (length (pre ++ up_to b (written es r) [])) vs (before ++ (r ∷ [])) ≡ reads after
      → read_from (suc n) (pre ++ (b ++ (written es r ++ (code ";" ∷ v)))) es (length pre) us before ≡ reads after
  unfolding read_from
  more_again n pre b v us vs before after r bs k q =
      let n₁ = length-append pre (b ++ (written es r ++ (code ";" ∷ v))) in
      let n₂ = length-append b (written es r ++ (code ";" ∷ v)) in
      let n₃ = length-append (written es r) (code ";" ∷ v) in
      let e = behind pre b (written es r) [] v in
      let m = up_to_length pre b (written es r) [] in
      rw (k pre b (code ";" ∷ v) bs (semi v), le-ltb (length (pre ++ (b ++ (written es r ++ (code ";" ∷ v))))) (length pre + length b + length (written es r) + 0 + 1) (omega arith))
      (rw (e, m) at q)

  all_again : (n : ℕ) (pre b : List ℕ) (m m' : ℕ) (before : List Rec) (r : Rec) (rs : List Rec) → All Blank b → Right es m r m' → Rights es m' rs
      → length (pre ++ text_from b r rs) < length pre + n
      → read_from n (pre ++ text_from b r rs) es (length pre) (label_names m) before ≡ reads (before ++ (r ∷ rs))
  unfolding further_ones
  all_again zero pre b m m' before r rs bs g gs h = absurd (omega (arith, length-append pre (text_from b r rs)))
  all_again (suc n) pre b m m' before r [] bs g gs h = last_again n pre b (label_names m) (label_names m') before r bs (back g)
  all_again (suc n) pre b m m' before r (r' ∷ rs) bs g (one_more m₁ m'' r₁ rs₁ g' gs) h =
      let v = text_from space r' rs in
      let e : length ((pre ++ up_to b (written es r) []) ++ v) ≡ length (pre ++ text_from b r (r' ∷ rs)) = ap length (behind pre b (written es r) [] v) in
      more_again n pre b v (label_names m) (label_names m') before (before ++ (r ∷ r' ∷ rs)) r bs (back g)
      (all_again n (pre ++ up_to b (written es r) []) space m' m'' (before ++ (r ∷ [])) r' rs space_blank g' gs (omega (arith, up_to_length pre b (written es r) []))
      ∙ ap reads (append_assoc before (r ∷ []) (r' ∷ rs)))

-- ## A whole text

instruction_of : {es : List (List ℕ)} {m m' : ℕ} {r : Rec} → Right es m r m' → Instruction es r
instruction_of {es} (of_none i h e) = instruction es (rec (suc i) 0 0) i h refl (not_a i 0 e (λ z. omega arith)) (λ _. omega arith) (omega arith)
instruction_of {es} (of_action i x h e p q lo hi) = instruction es (rec (suc i) x 0) i h refl (λ _. p) (λ n. never (rw e at n)) (omega arith)
instruction_of {es} (of_number i x h e q) = instruction es (rec (suc i) x 0) i h refl (not_a i k e (λ z. omega arith)) (λ _. q) (omega arith)
instruction_of {es} (of_label i x m' h e tg g) = let u = given_most g in instruction es (rec (suc i) x 0) i h refl (not_a i s e (λ z. omega arith)) (λ _. omega arith) (omega arith)
instruction_of {es} (of_labels i x y m' m'' h e tg g g') =
    let u = given_most g in
    let v = given_most g' in
    instruction es (rec (suc i) x y) i h refl (not_a i s e (λ z. omega arith)) (λ _. omega arith) (omega arith)

tail_of : (es : List (List ℕ)) (rs : List Rec) → Tail (further_ones es rs)
unfolding further_ones
tail_of es [] = stop
tail_of es (r ∷ rs) = semi _

-- It has something other than blanks.
begins : (es : List (List ℕ)) (r : Rec) (z : List ℕ) → Instruction es r → Tail z → eqb (span Blank (written es r ++ z) 0 (length (written es r ++ z))) (length (written es r ++ z)) ≡ false
begins es r z q tl =
    let f = q.parts.form in
    let u = written_signs es r (signs_of (suc q.number)) in
    let p = passed q.number [] [] u [] z q.listed tt f tt tl in
    let n = some_bytes f (forms_start q.number q.listed) in
    let m = length-append u z in
    rw (form_of_lem es r q) (ne_eqb (span Blank (u ++ z) 0 (length (u ++ z))) (length (u ++ z)) (λ e. omega arith))

nothing_read : (es : List (List ℕ)) → read_text (text_of es []) es ≡ reads []
unfolding read_text text_of run
nothing_read es = refl

pub text_again : {es : List (List ℕ)} {rs : List Rec} → Rights es 0 rs → read_text (text_of es rs) es ≡ reads rs
unfolding read_text text_of
text_again {es} (no_more m) = nothing_read es
text_again {es} (one_more m m' r rs g gs) =
    rw (begins es r (further_ones es rs) (instruction_of g) (tail_of es rs))
    (all_again es (length (written es r ++ further_ones es rs) + 1) [] [] 0 m' [] r rs tt g gs (omega arith))

-- ## Every action has its name

named_one : {es : List (List ℕ)} {m m' : ℕ} {r : Rec} (i : ℕ) (rs : List Rec) → Right es m r m' → nameless_from (suc i) es rs ≡ 0 → nameless_from i es (r ∷ rs) ≡ 0
unfolding nameless_from
named_one i rs (of_none j h e) n = rw e n
named_one i rs (of_action j x h e p q lo hi) n = rw (e, p) n
named_one i rs (of_number j x h e q) n = rw e n
named_one i rs (of_label j x m' h e tg g) n = rw e n
named_one i rs (of_labels j x y m' m'' h e tg g g') n = rw e n

pub named_again : {es : List (List ℕ)} {m : ℕ} {rs : List Rec} (i : ℕ) → Rights es m rs → nameless_from i es rs ≡ 0
unfolding nameless_from
named_again i (no_more m) = refl
named_again i (one_more m m' r rs g gs) = named_one i rs g (named_again (suc i) gs)

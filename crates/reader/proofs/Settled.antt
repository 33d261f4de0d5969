-- One instruction, by its form and the numbers of its names.
--     after-err                                       a refusal passed on by a `?`
--     by_action, by_number, by_label, second, by_none     the numbers of a form, by its letter
--     form_bounds, step-bad, step_made                the form that is followed furthest
use mathlib.Core.Path.{◌≡◌, refl, ap, ◌∙◌}
use mathlib.Core.List.{List}
use Prim.Native.Nat.{ℕ, ◌+◌, ◌≤◌, ◌<◌}
use native.Mathlib.Omega.{arith}
use lib.ListN.{length}
use borrow.Author.Tests.{ne_eqb}
use Rattle.std.specs.Prelude.{Result, Err}
use Rattle.std.specs.Result.{IsErrAnd}
use Rattle.std.proofs.lemmas.Result.{err_from_is_err_and}
use Rattle.rules.specs.Record.{Rec}
use Rattle.text.specs.declared.Sort.TheVariants.{Blank}
use Rattle.text.specs.declared.Fit.{Fit}
use Rattle.text.specs.declared.TextRefusal.{TextRefusal}
use Rattle.text.specs.Bytes.{span}
use Rattle.text.specs.Forms.{best_of, letter_of}
use Rattle.text.specs.Reading.{Next, made, bad, settled, with_action, with_number, with_label_at, with_second, named, next_of}
use Rattle.text.proofs.Tests.{by_test}
use Rattle.text.proofs.Reach.{span-within}
use Rattle.forms.proofs.Inside.{Inside, best_inside}
use Rattle.label_numbers.specs.Labels.{labels_of}
use Rattle.reader.specs.Steps.{after, settled_step, Stepped}

pub after-err : {A : Type 0} (y : Result A TextRefusal) (r : TextRefusal) (on : A → Next) → IsErrAnd y (λ t. t ≡ r) → after y on ≡ bad r
after-err y r on h = let p = err_from_is_err_and y h in ap (λ z. after z on) p.1 ∙ ap bad p.2

module _ (w : List ℕ) (es us : List (List ℕ)) (f : Fit) (k : ℕ) where
  pub by_action : k ≡ 97 → with_action w es f.x (λ x. settled f x 0 us) ≡ named k w es us f
  unfolding named
  by_action h = rw h

  pub by_number : k ≡ 107 → with_number w f.x (λ x. settled f x 0 us) ≡ named k w es us f
  unfolding named
  by_number h = rw h

  pub by_label : k ≡ 115 → with_label_at w us f.x (λ x us'. with_second w f x us') ≡ named k w es us f
  unfolding named
  by_label h = rw h

  pub by_none : (k ≡ 97 → ⊥) → (k ≡ 107 → ⊥) → (k ≡ 115 → ⊥) → settled f 0 0 us ≡ named k w es us f
  unfolding named
  by_none a b c = rw (ne_eqb k 97 a, ne_eqb k 107 b, ne_eqb k 115 c)

pub second : (w : List ℕ) (us : List (List ℕ)) (f : Fit) (x : ℕ) → with_label_at w us f.y (λ y us'. settled f x y us') ≡ with_second w f x us
unfolding with_second
second w us f x = refl

settled_after : (f : Fit) (x y : ℕ) (us : List (List ℕ)) → after (settled_step f x y) (λ m. made m.0 us m.1) ≡ settled f x y us
unfolding settled_step settled
settled_after f x y us = by_test f.whole (λ h. rw h) (λ h. rw h)

module _ (w : List ℕ) (es : List (List ℕ)) (p : List ℕ) (at : ℕ) (le : at ≤ length w) (f : Fit) (e : f ≡ best_of w (at + span Blank w at (length w))) where
  inside : Inside w (at + span Blank w at (length w)) 17 f
  inside = rw e (best_inside w (at + span Blank w at (length w)) 17 (span-within Blank w at (length w) le))

  pub form_bounds : (f.form ≤ 17) × (f.far ≤ length w + 1)
  form_bounds = (inside.number, inside.upto)

  next_is : named (letter_of f.form) w es (labels_of w p) f ≡ next_of w es (labels_of w p) at
  unfolding next_of
  next_is = rw e

  module _ (p' : List ℕ) where
    pub step-bad : (y : Result (Rec × ℕ) TextRefusal) (r : TextRefusal) → IsErrAnd y (λ t. t ≡ r) → bad r ≡ named (letter_of f.form) w es (labels_of w p) f → Stepped w es p at y p'
    step-bad y r h n =
        let q = err_from_is_err_and y h in
        let i : y ≡ Err r = q.1 ∙ ap Err q.2 in
        rw i (record { next = n ∙ next_is; ahead = tt })

    pub step_made : (x y : ℕ) (r : Result (Rec × ℕ) TextRefusal) → r ≡ settled_step f x y → settled f x y (labels_of w p') ≡ named (letter_of f.form) w es (labels_of w p) f → Stepped w es p at r p'
    unfolding settled_step
    step_made x y r i n = rw i (record {
      next = settled_after f x y (labels_of w p') ∙ n ∙ next_is;
      ahead = by_test f.whole
          (λ h. let a : at + span Blank w at (length w) < f.far = inside.ahead h in rw h (omega arith, inside.upto))
          (λ h. rw h tt);
    })

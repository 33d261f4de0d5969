-- A reading that is refused 12 is stuck: instruction after instruction is whole, and then one is not.
use mathlib.Core.Path.{◌≡◌, refl, sym, ap, ◌∙◌, subst}
use Prim.Native.Nat.{◌≤◌, ◌<◌}
use native.Mathlib.Omega.{arith}
use lib.ListN.{length-append, length-drop}
use borrow.Author.Tests.{ltb-false}
use Rattle.std.specs.Prelude.{◌+◌, ◌-◌, ◌∷◌, ◌++◌}
use Rattle.rules.specs.Words.{ℕ, zero, suc, true, false, cond, List, [], length, drop, eqb, ltb}
use Rattle.rules.specs.Record.{Rec}
use Rattle.text.specs.declared.Sort.TheVariants.{Blank}
use Rattle.text.specs.declared.Fit.{Fit}
use Rattle.text.specs.declared.TextRefusal.TheVariants.{Text, Name, Earlier}
use Rattle.text.specs.Forms.{a, k, s, letter_of, best_of}
use Rattle.text.specs.Reading.{Next, made, bad, settled, known, with_action, with_number, with_label_at, with_second, named, next_of, reads, refused, onwards, read_from}
use Rattle.text.specs.Names.{name_at, number_at, action_of, label_of, with_label}
use Rattle.text.proofs.Tests.{by_test, cond_has}
use Rattle.text.proofs.Reach.{span-within}
use Rattle.grammar.proofs.Follows.{blanked}
use Rattle.grammar.proofs.Parts.{Piece}
use Rattle.grammar.proofs.Instructions.{seen, broken}

-- ## What a reading knows of the form it found

-- A record is made of a whole form, and reading goes on behind it; 12 is one past where a form is stuck.
abbrev pub Fair : Fit → Next → Type 0
Fair f (made r us e) = (f.whole ≡ true) × (e ≡ f.far)
Fair f (bad (Text p)) = (f.whole ≡ false) × (p ≡ f.far + 1)
Fair f (bad (Name p)) = Unit {0}
Fair f (bad (Earlier r)) = ⊥

module _ (w : List ℕ) (es : List (List ℕ)) (f : Fit) where
  settled_fair : (x y : ℕ) (us : List (List ℕ)) → Fair f (settled f x y us)
  unfolding settled
  settled_fair x y us = cond_has (Fair f) f.whole _ _ (λ t. (t, refl)) (λ t. (t, refl))

  known_fair : (p v : ℕ) (on : ℕ → Next) → ((v : ℕ) → Fair f (on v)) → Fair f (known p v on)
  known_fair p v on h = cond_has (Fair f) (eqb v 0) (bad (Name p)) (on v) (λ _. tt) (λ _. h v)

  label_fair : (us : List (List ℕ)) (p : ℕ) (on : ℕ → List (List ℕ) → Next) → ((v : ℕ) (us : List (List ℕ)) → Fair f (on v us)) → Fair f (with_label_at w us p on)
  unfolding with_label_at
  label_fair us p on h = cond_has (Fair f) (eqb p 0) _ _ (λ _. h 0 us) (λ _. known_fair p (label_of us (name_at w (p - 1))) (λ v. on v (with_label us (name_at w (p - 1)))) (λ v. h v _))

  pub fair : (letter : ℕ) (us : List (List ℕ)) → Fair f (named letter w es us f)
  unfolding named with_action with_number with_second
  fair letter us =
      cond_has (Fair f) (eqb letter a) _ _
      (λ _. cond_has (Fair f) (eqb f.x 0) _ _ (λ _. settled_fair 0 0 us) (λ _. known_fair f.x (action_of es (name_at w (f.x - 1))) (λ x. settled f x 0 us) (λ v. settled_fair v 0 us)))
      (λ _. cond_has (Fair f) (eqb letter k) _ _
      (λ _. cond_has (Fair f) (eqb f.x 0) _ _ (λ _. settled_fair 0 0 us) (λ _. settled_fair (number_at w (f.x - 1)) 0 us))
      (λ _. cond_has (Fair f) (eqb letter s) _ _
      (λ _. label_fair us f.x (λ x us'. with_label_at w us' f.y (λ y us''. settled f x y us'')) (λ x us'. label_fair us' f.y (λ y us''. settled f x y us'') (λ y us''. settled_fair x y us'')))
      (λ _. settled_fair 0 0 us)))

pub next_fair : (w : List ℕ) (es us : List (List ℕ)) (at : ℕ) → Fair (best_of w (blanked w at)) (next_of w es us at)
unfolding next_of
next_fair w es us at = fair w es (best_of w (blanked w at)) (letter_of (best_of w (blanked w at)).form) us

-- ## Stuck

-- From `at` on the text w is stuck at p.
pub data Stuck (w : List ℕ) : ℕ → ℕ → Type 0 where
  here : {at p : ℕ} → (best_of w (blanked w at)).whole ≡ false → p ≡ (best_of w (blanked w at)).far + 1 → Stuck w at p
  later : {at p : ℕ} → (best_of w (blanked w at)).whole ≡ true → (best_of w (blanked w at)).far ≤ length w → Stuck w (best_of w (blanked w at)).far p → Stuck w at p

module _ (w : List ℕ) where
  pub blanked_in : (at : ℕ) → at ≤ length w → blanked w at ≤ length w
  blanked_in at h = span-within Blank w at (length w) h

  -- Every instruction has a byte.
  pub ahead : (at : ℕ) → at ≤ length w → (best_of w (blanked w at)).whole ≡ true → at < (best_of w (blanked w at)).far
  ahead at h t = let r = seen w (blanked w at) (blanked_in at h) t in omega (arith, r.shows.size)

  pub not_back : (at : ℕ) → at ≤ length w → (best_of w (blanked w at)).whole ≡ false → blanked w at ≤ (best_of w (blanked w at)).far
  not_back at h t = let r = broken w (blanked w at) (blanked_in at h) t in omega (arith, r.begins.piece.sized)

  pub stuck_behind : {at p : ℕ} → at ≤ length w → Stuck w at p → at < p
  stuck_behind {at} h (here t e) = omega (arith, not_back at h t)
  stuck_behind {at} h (later t l q) = omega (arith, ahead at h t, stuck_behind l q)

  pub piece_in : {e f : ℕ} → e ≤ length w → Piece w e f → f ≤ length w
  piece_in {e} {f} h q =
      let n : length w - e ≡ length q.bytes + (length w - f) = sym (length-drop e w) ∙ ap length q.stands ∙ length-append q.bytes (drop f w) ∙ ap (λ (m : ℕ). length q.bytes + m) (length-drop f w) in
      let k = q.sized in
      omega arith

  pub stuck-within : {at p : ℕ} → at ≤ length w → Stuck w at p → p ≤ length w + 1
  stuck-within {at} h (here t e) =
      let r = broken w (blanked w at) (blanked_in at h) t in
      omega (arith, piece_in (blanked_in at h) r.begins.piece)
  stuck-within {at} h (later t l q) = stuck-within l q

  -- ## A reading that is refused 12 is stuck

  pub refused-stuck : (m : ℕ) (es : List (List ℕ)) (at p : ℕ) (us : List (List ℕ)) (rs : List Rec) → at ≤ length w → length w < at + m
      → read_from m w es at us rs ≡ refused (Text p) → Stuck w at p
  unfolding read_from next_of
  refused-stuck zero es at p us rs h l e = absurd (omega arith)
  refused-stuck (suc m) es at p us rs h l e =
      let f = best_of w (blanked w at) in
      by (named (letter_of f.form) w es us f) (fair w es f (letter_of f.form) us) (λ e us' rs' lo hi q. refused-stuck m es e p us' rs' hi (omega arith) q) e
    where
      by : (x : Next) → Fair (best_of w (blanked w at)) x
          → ((e : ℕ) (us' : List (List ℕ)) (rs' : List Rec) → at < e → e ≤ length w → read_from m w es e us' rs' ≡ refused (Text p) → Stuck w e p)
          → onwards x (λ r us' e. cond (ltb (length w) e) (reads (rs ++ (r ∷ []))) (read_from m w es e us' (rs ++ (r ∷ [])))) ≡ refused (Text p) → Stuck w at p
      by (made r us' e) g go q =
          by_test (ltb (length w) e)
          (λ t. let z : reads (rs ++ (r ∷ [])) ≡ refused (Text p) = rw t at q in cc)
          (λ t. let le : e ≤ length w = ltb-false (length w) e t in
          let n : at < e = omega (arith, ahead at h g.0, g.1) in
          later g.0 (omega (arith, g.1)) (subst (λ (j : ℕ). Stuck w j p) g.1 (go e us' (rs ++ (r ∷ [])) n le (rw t at q))))
      by (bad (Text x)) g go q = let z : x ≡ p = cc in here g.0 (sym z ∙ g.1)
      by (bad (Name x)) g go q = cc
      by (bad (Earlier x)) g go q = absurd g

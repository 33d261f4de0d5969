-- What a caller goes by.
--     enough     a text of 73,744 bytes has room for every listing: only refusals 1 to 7 are left
--     within     the bytes printed lie within the text
use mathlib.Core.Path.{◌≡◌, refl, sym, ap, ◌∙◌}
use Prim.Native.Nat.{ℕ, ◌≤◌}
use native.Mathlib.Omega.{arith}
use Rattle.std.specs.Prelude.{Option, None, Some, Ok, Err}
use mathlib.Core.List.{List, [], ◌∷◌, ◌++◌}
use lib.ListN.{length, drop, length-append}
use borrow.Author.Tests.{le-ltb, ltb-false}
use Rattle.rules.specs.declared.Refusal.{Refusal}
use Rattle.rules.specs.Refusals.{Verdict, when, or_else, first, verdict_of, verdict}
use Rattle.rules.specs.Answers.{routine_checks}
use Rattle.laws.proofs.Refusals.{refused_then, accepted_then, accepted-count, accepted-none, none_first, when-none}
use Rattle.listing.specs.Text.{text_of}
use Rattle.lines.proofs.Refused.{Within, lies}
use Rattle.listing.specs.Answers.{room_for, listing_of, printed, Listed}
use Rattle.listing.proofs.Converting.{text_length}

pub enough : (s text : List ℕ) → 73744 ≤ length text → listing_of s text ≡ verdict (routine_checks s) (length (text_of s))
unfolding listing_of room_for verdict verdict_of first or_else when
enough s text h = by (verdict (routine_checks s) (length (text_of s))) refl
  where
    by : (v : Verdict) → verdict (routine_checks s) (length (text_of s)) ≡ v → listing_of s text ≡ v
    by (Ok n) e =
        let l = text_length s (accepted-none (routine_checks s) _ e) in
        accepted_then (routine_checks s) _ _ _ e
        ∙ rw (le-ltb (length text) (length (text_of s)) (omega arith)) (ap Ok (sym (accepted-count (routine_checks s) _ e)))
    by (Err r) e = refused_then (routine_checks s) _ _ _ e

-- where no check finds anything, the last ones do not
none_last : (cs ds : List (Option Refusal)) → first (cs ++ ds) ≡ None → first ds ≡ None
unfolding first or_else
none_last [] ds e = e
none_last (None ∷ cs) ds e = none_last cs ds e
none_last (Some r ∷ cs) ds e = absurd (let z : ◌≡◌ {A = ℕ} 0 1 = cc in omega arith)

pub within : (s : List ℕ) {text text' : List ℕ} {n : ℕ} → Listed (listing_of s text) (text_of s) text (Ok n) text' → Within n text'
unfolding listing_of room_for printed when
within s {text} {text'} {n} p =
    let e = sym p.answers in
    let h : length (text_of s) ≤ length text = ltb-false _ _ (when-none _ _ (none_first _ [] (none_last (routine_checks s) _ (accepted-none _ _ e)))) in
    let c : n ≡ length (text_of s) = accepted-count _ _ e in
    let o : text' ≡ text_of s ++ drop n text = p.output ∙ rw e in
    lies (omega (arith, ap length o, length-append (text_of s) (drop n text)))

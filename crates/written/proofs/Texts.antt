-- What is written is in the grammar: instruction by instruction, with a blank behind each `;`.
use mathlib.Core.Path.{◌≡◌, refl, sym, ap, ◌∙◌}
use Prim.Native.Nat.{◌≤◌}
use Prim.Native.Char.{code}
use native.Mathlib.Omega.{arith}
use borrow.Author.Tests.{eqb-true}
use Rattle.std.specs.Prelude.{◌∷◌, ◌++◌, Ok, Err}
use Rattle.rules.specs.Words.{ℕ, suc, true, Option, None, Some, List, [], eqb}
use Rattle.rules.specs.declared.Refusal.{Refusal}
use Rattle.rules.specs.declared.Notation.TheVariants.{Routine}
use Rattle.rules.specs.Record.{Rec, count, records}
use Rattle.rules.specs.Refusals.{first}
use Rattle.rules.specs.Checks.{record_checks}
use Rattle.laws.proofs.Records as paper
use Rattle.laws.proofs.Refusals.{fine}
use Rattle.text.specs.declared.Sort.TheVariants.{Blank}
use Rattle.text.specs.declared.TextRefusal.TheVariants.{Name}
use Rattle.text.specs.Answers.{TextVerdict, writes, unless_refused, writing, text_written}
use Rattle.text.specs.Bytes.{blank, in_sort}
use Rattle.text.specs.Forms.{a, signs_of, letter_of}
use Rattle.text.specs.Names.{entries, list_fault, proper}
use Rattle.text.specs.Writing.{written, written_signs, further_ones, text_of, nameless_from, nameless}
use Rattle.text.specs.Grammar as grammar
use Rattle.text.specs.Grammar.{All, Instructions, last, more, blanks, some}
use Rattle.text.proofs.Tests.{by_test, never}
use Rattle.written.specs.Promises.{WritesTexts}
use Rattle.written.proofs.Formed.{Instruction, instruction}
use Rattle.written.proofs.Fields.{Ranged, faultless}

-- ## Records that have their names

pub named_first : (i : ℕ) (es : List (List ℕ)) (r : Rec) (rs : List Rec) → 1 ≤ i → nameless_from i es (r ∷ rs) ≡ 0
    → (eqb (letter_of r.kind) a ≡ true → proper es r.x ≡ true) × (nameless_from (suc i) es rs ≡ 0)
unfolding nameless_from
named_first i es r rs h e =
    by_test (eqb (letter_of r.kind) a)
    (λ t. by_test (proper es r.x) (λ p. (λ _. p, rw (t, p) at e)) (λ p. absurd (let z : i ≡ 0 = rw (t, p) at e in omega arith)))
    (λ t. (λ u. never (sym u ∙ t), rw t at e))

instructions : (i : ℕ) (es : List (List ℕ)) (rs : List Rec) → 1 ≤ i → paper.All Ranged rs → nameless_from i es rs ≡ 0 → paper.All (Instruction es) rs
instructions i es [] h p e = tt
instructions i es (r ∷ rs) h p e =
    let n = named_first i es r rs h e in
    let q = p.0 in
    (instruction es r q.number q.listed q.is_kind (λ c. n.0 (rw q.is_kind c)) (λ _. q.x_most) q.y_most, instructions (suc i) es rs (omega arith) p.1 n.1)

-- ## Texts

abbrev pub space : List ℕ
space = code " " ∷ []

pub space_blank : All Blank space
unfolding in_sort blank
space_blank = (refl, tt)

pub form_of_lem : (es : List (List ℕ)) (r : Rec) (q : Instruction es r) → written es r ≡ written_signs es r (signs_of (suc q.number))
form_of_lem es r q = ap (λ (i : ℕ). written_signs es r (signs_of i)) q.is_form

module _ (es : List (List ℕ)) where
  one_more : (b : List ℕ) (r : Rec) (v : List ℕ) → All Blank b → Instruction es r → Instructions v → Instructions (b ++ (written es r ++ (code ";" ∷ v)))
  one_more b r v bs q m = rw (form_of_lem es r q) (more q.number b _ [] q.listed bs q.parts.form tt m)

  only_one : (b : List ℕ) (r : Rec) → All Blank b → Instruction es r → Instructions (b ++ (written es r ++ []))
  only_one b r bs q = rw (form_of_lem es r q) (last q.number b _ [] q.listed bs q.parts.form tt)

  some_of : (b : List ℕ) (r : Rec) (rs : List Rec) → All Blank b → Instruction es r → paper.All (Instruction es) rs → Instructions (b ++ (written es r ++ further_ones es rs))
  unfolding further_ones
  some_of b r [] bs q p = only_one b r bs q
  some_of b r (r' ∷ rs) bs q p = one_more b r _ bs q (some_of space r' rs space_blank p.0 p.1)

  text_of_lem : (rs : List Rec) → paper.All (Instruction es) rs → grammar.Text (text_of es rs)
  unfolding text_of
  text_of_lem [] p = blanks [] tt
  text_of_lem (r ∷ rs) p = some (some_of [] r rs tt p.0 p.1)

-- ## Over the call's answer

pub record Writable (f l : List ℕ) : Type 0 where
  pub checked : first (record_checks Routine f) ≡ None
  pub all_named : nameless (entries l) (records f) ≡ 0

no-earlier : (c : Option Refusal) (v : TextVerdict) (n : ℕ) → unless_refused c v ≡ Ok n → (c ≡ None) × (v ≡ Ok n)
unfolding unless_refused
no-earlier None v n e = (refl, e)
no-earlier (Some r) v n e = absurd (let z : ◌≡◌ {A = ℕ} 0 1 = cc in omega arith)

pub writable : (f l text : List ℕ) (n : ℕ) → writing f l text ≡ Ok n → Writable f l
unfolding writing writes
writable f l text n e =
    let h = no-earlier (first (record_checks Routine f)) _ n e in
    by_test (list_fault l)
    (λ t. absurd (let y : Err (Name 0) ≡ Ok n = (rw t at h).1 in let z : ◌≡◌ {A = ℕ} 0 1 = cc in omega arith))
    (λ t. let p = nameless (entries l) (records f) in
    by_test (eqb p 0)
    (λ u. record { checked = h.0; all_named = eqb-true p 0 u })
    (λ u. absurd (let y : Err (Name p) ≡ Ok n = (rw (t, u) at h).1 in let z : ◌≡◌ {A = ℕ} 0 1 = cc in omega arith)))

pub written_texts : WritesTexts
unfolding text_written
written_texts f l text n e =
    let w = writable f l text n e in
    let g = fine Routine f w.checked in
    text_of_lem (entries l) (records f) (instructions 1 (entries l) (records f) (omega arith) (faultless 1 (count f) f g.faultless) w.all_named)

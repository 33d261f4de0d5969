-- The kinds and fields of a routine's records: what refusals 3 and 4 leave, and, by the letters of each kind's form, what its row has.
use mathlib.Core.Path.{◌≡◌, refl, sym}
use Prim.Native.Nat.{◌≤◌, ◌<◌}
use native.Mathlib.Omega.{arith}
use lib.Dec.{T}
use borrow.Author.Tests.{eqb-true, le-leb, leb-true, not-false, ltb-true, ltb-false}
use Rattle.std.specs.Prelude.{◌&&◌, ◌||◌, ◌∷◌}
use Rattle.rules.specs.Words.{ℕ, zero, suc, Bool, true, false, cond, Option, None, Some, List, [], drop, eqb, leb, ltb}
use Rattle.rules.specs.declared.Row.{Row}
use Rattle.rules.specs.declared.Refusal.{Refusal}
use Rattle.rules.specs.declared.Refusal.TheVariants.{Kind, Field}
use Rattle.rules.specs.declared.Notation.TheVariants.{Routine}
use Rattle.rules.specs.Record.{Rec, record_of, records_of}
use Rattle.rules.specs.Numbers.{at}
use Rattle.rules.specs.Table.{rows, row_of}
use Rattle.rules.specs.Refusals.{when, or_else}
use Rattle.rules.specs.Checks.{kind_fault, listed, in_row, has_stack, field_fault, fault, fault_from}
use Rattle.laws.proofs.Records.{All, at_none}
use Rattle.laws.proofs.Refusals.{when-none}
use Rattle.text.specs.Forms.{a, k, s, t, signs_of, letter_in, letter_of}
use Rattle.text.specs.Names.{same}
use Rattle.text.proofs.Tests.{by_test, never}
use Rattle.grammar.proofs.Follows.{left, right}
use Rattle.grammar.proofs.Apart.{upto}
use Rattle.written.specs.Promises.{tags}
use Rattle.written.proofs.Truth.{T_true, T_le, T_eq, and_left, and_right}
use Rattle.written.proofs.Numbered.{same_is}

-- A record of kind 1 to 16 with its fields in range, so none above 9,999.
pub record Ranged (r : Rec) : Type 0 where
  pub number : ℕ
  pub listed : number < 16
  pub is_kind : r.kind ≡ suc number
  pub in_row_lem : in_row (row_of Routine (suc number)) r ≡ true
  pub x_most : r.x ≤ 9999
  pub y_most : r.y ≤ 9999

abbrev bounded : Option Row → Bool
bounded None = true
bounded (Some row) = leb row.xmax 9999 && leb row.ymax 9999

all_bounded : (j : ℕ) → j < 16 → T (bounded (row_of Routine (suc j)))
unfolding row_of at rows
all_bounded j h = upto 16 (λ i. bounded (row_of Routine (suc i))) j tt h

-- The four bounds of a row, and the fields within them.
in_row_is : (row : Row) (r : Rec) → in_row (Some row) r ≡ true → (row.xmin ≤ r.x) × (r.x ≤ row.xmax) × (row.ymin ≤ r.y) × (r.y ≤ row.ymax)
unfolding in_row
in_row_is row r h =
    let h₃ = and_left (leb row.xmin r.x && leb r.x row.xmax && leb row.ymin r.y) _ h in
    let h₂ = and_left (leb row.xmin r.x && leb r.x row.xmax) _ h₃ in (
      leb-true row.xmin r.x (and_left (leb row.xmin r.x) _ h₂),
      leb-true r.x row.xmax (and_right (leb row.xmin r.x) _ h₂),
      leb-true row.ymin r.y (and_right (leb row.xmin r.x && leb r.x row.xmax) _ h₃),
      leb-true r.y row.ymax (and_right (leb row.xmin r.x && leb r.x row.xmax && leb row.ymin r.y) _ h),
    )

in_row_if : (row : Row) (r : Rec) → row.xmin ≤ r.x → r.x ≤ row.xmax → row.ymin ≤ r.y → r.y ≤ row.ymax → in_row (Some row) r ≡ true
unfolding in_row
in_row_if row r h₁ h₂ h₃ h₄ = rw (le-leb row.xmin r.x h₁, le-leb r.x row.xmax h₂, le-leb row.ymin r.y h₃, le-leb r.y row.ymax h₄)

no-row_is : (r : Rec) → in_row None r ≡ true → ⊥
unfolding in_row
no-row_is r h = never (sym h)

in_bounds : (o : Option Row) (r : Rec) → T (bounded o) → in_row o r ≡ true → (r.x ≤ 9999) × (r.y ≤ 9999)
in_bounds None r b h = absurd (no-row_is r h)
in_bounds (Some row) r b h =
    let g = in_row_is row r h in
    let u = T_le row.xmax 9999 (left (leb row.xmax 9999) (leb row.ymax 9999) b) in
    let v = T_le row.ymax 9999 (right (leb row.xmax 9999) (leb row.ymax 9999) b) in
    (omega (arith, g.1), omega (arith, g.3))

no_row : (k : ℕ) (r : Rec) → row_of Routine k ≡ None → in_row (row_of Routine k) r ≡ true → ⊥
no_row k r e h = no-row_is r (rw e at h)

unlisted : (k : ℕ) → 16 < k → row_of Routine k ≡ None
unfolding row_of rows
unlisted k h = at_none rows k h

in_table : (k : ℕ) (r : Rec) → r.kind ≡ k → in_row (row_of Routine k) r ≡ true → Ranged r
unfolding row_of at
in_table zero r e h = absurd (no_row 0 r refl h)
in_table (suc j) r e h =
    by_test (ltb j 16)
    (λ t. let l = ltb-true j 16 t in
    let b = in_bounds (row_of Routine (suc j)) r (all_bounded j l) h in
    record { number = j; listed = l; is_kind = e; in_row_lem = h; x_most = b.0; y_most = b.1 })
    (λ t. absurd (no_row (suc j) r (unlisted (suc j) (omega (arith, ltb-false j 16 t))) h))

or-false : (b : Bool) → (b || false) ≡ true → b ≡ true
or-false true h = refl
or-false false h = h

fields_in : (r : Rec) → field_fault Routine r ≡ false → Ranged r
unfolding field_fault has_stack
fields_in r h = in_table r.kind r refl (or-false (in_row (row_of Routine r.kind) r) (not-false _ h))

-- ## No refusal 3 or 4

none_before : (c d : Option Refusal) → or_else c d ≡ None → c ≡ None
unfolding or_else
none_before None d e = refl
none_before (Some r) d e = e

none_behind : (c d : Option Refusal) → or_else c d ≡ None → d ≡ None
unfolding or_else
none_behind None d e = e
none_behind (Some r) d e = absurd (let z : ◌≡◌ {A = ℕ} 0 1 = cc in omega arith)

pub faultless : (i n : ℕ) (f : List ℕ) → fault_from Routine i n f ≡ None → All Ranged (records_of n f)
unfolding fault_from fault
faultless i zero f e = tt
faultless i (suc n) f e = (
  fields_in (record_of f) (when-none _ (Field i) (none_behind (when (kind_fault Routine f) (Kind i)) _ (none_before _ (fault_from Routine (suc i) n (drop 8 f)) e))),
  faultless (suc i) n (drop 8 f) (none_behind (fault Routine i f) _ e),
)

-- ## What each kind's row has

-- A row with x from u to v and y from p to q.
abbrev ranges : ℕ → ℕ → ℕ → ℕ → Option Row → Bool
ranges u v p q None = false
ranges u v p q (Some row) = eqb row.xmin u && (eqb row.xmax v && (eqb row.ymin p && eqb row.ymax q))

module _ (u v p q : ℕ) where
  bounds : (row : Row) → T (ranges u v p q (Some row)) → (row.xmin ≡ u) × (row.xmax ≡ v) × (row.ymin ≡ p) × (row.ymax ≡ q)
  bounds row h =
      let k₁ = right (eqb row.xmin u) _ h in
      let k₂ = right (eqb row.xmax v) _ k₁ in (
        T_eq row.xmin u (left (eqb row.xmin u) _ h),
        T_eq row.xmax v (left (eqb row.xmax v) _ k₁),
        T_eq row.ymin p (left (eqb row.ymin p) _ k₂),
        T_eq row.ymax q (right (eqb row.ymin p) _ k₂),
      )

  pub inside : (o : Option Row) (r : Rec) → T (ranges u v p q o) → in_row o r ≡ true → (u ≤ r.x) × (r.x ≤ v) × (p ≤ r.y) × (r.y ≤ q)
  inside None r h e = absurd h
  inside (Some row) r h e =
      let b = bounds row h in
      let g = in_row_is row r e in
      (omega (arith, b.0, g.0), omega (arith, b.1, g.1), omega (arith, b.2, g.2), omega (arith, b.3, g.3))

  pub covered : (o : Option Row) (r : Rec) → T (ranges u v p q o) → u ≤ r.x → r.x ≤ v → p ≤ r.y → r.y ≤ q → (listed o ≡ true) × (in_row o r ≡ true)
  unfolding listed
  covered None r h x₁ x₂ y₁ y₂ = absurd h
  covered (Some row) r h x₁ x₂ y₁ y₂ =
      let b = bounds row h in
      (refl, in_row_if row r (omega (arith, b.0)) (omega (arith, b.1)) (omega (arith, b.2)) (omega (arith, b.3)))

-- By the letter of its form, and whether there are two labels.
abbrev suited : ℕ → Bool → Option Row → Bool
suited letter two o =
    cond (eqb letter 0) (ranges 0 0 0 0 o)
    (cond (eqb letter a) (ranges 1 999 0 0 o)
    (cond (eqb letter k) (ranges 0 9999 0 0 o)
    (cond two (ranges 1 999 1 999 o) (ranges 1 999 0 0 o))))

pub all_suited : (i : ℕ) → i < 16 → T (suited (letter_of (suc i)) (same (tags (signs_of (suc i))) (s ∷ t ∷ [])) (row_of Routine (suc i)))
unfolding letter_in tags same row_of at rows
all_suited i h = upto 16 (λ j. suited (letter_of (suc j)) (same (tags (signs_of (suc j))) (s ∷ t ∷ [])) (row_of Routine (suc j))) i tt h

-- ## The labels of each kind's form

-- A form has labels exactly if its letter is s, and then one or two.
abbrev tidy : ℕ → List ℕ → Bool
tidy letter l = cond (eqb letter s) (same l (s ∷ []) || same l (s ∷ t ∷ [])) (same l [] && (eqb letter 0 || eqb letter a || eqb letter k))

all_tidy : (i : ℕ) → i < 16 → T (tidy (letter_of (suc i)) (tags (signs_of (suc i))))
unfolding letter_in tags same
all_tidy i h = upto 16 (λ j. tidy (letter_of (suc j)) (tags (signs_of (suc j)))) i tt h

module _ (i : ℕ) (h : i < 16) where
  not_labelled : eqb (letter_of (suc i)) s ≡ false → T (same (tags (signs_of (suc i))) [] && (eqb (letter_of (suc i)) 0 || eqb (letter_of (suc i)) a || eqb (letter_of (suc i)) k))
  not_labelled n = let c = all_tidy i h in rw n at c

  pub no-tags : eqb (letter_of (suc i)) s ≡ false → tags (signs_of (suc i)) ≡ []
  no-tags n = same_is (tags (signs_of (suc i))) [] (T_true _ (left (same (tags (signs_of (suc i))) []) _ (not_labelled n)))

  pub with_tags : {P : Type 0} → letter_of (suc i) ≡ s → (tags (signs_of (suc i)) ≡ s ∷ [] → P) → (tags (signs_of (suc i)) ≡ s ∷ t ∷ [] → P) → P
  with_tags e one two =
      let c = all_tidy i h in
      let d : T (same (tags (signs_of (suc i))) (s ∷ []) || same (tags (signs_of (suc i))) (s ∷ t ∷ [])) = rw e at c in
      by_test (same (tags (signs_of (suc i))) (s ∷ []))
      (λ u. one (same_is (tags (signs_of (suc i))) (s ∷ []) u))
      (λ u. two (same_is (tags (signs_of (suc i))) (s ∷ t ∷ []) (T_true _ (rw u at d))))

  pub by_letter : {P : Type 0} → (letter_of (suc i) ≡ s → P) → (letter_of (suc i) ≡ 0 → P) → (letter_of (suc i) ≡ a → P) → (letter_of (suc i) ≡ k → P) → P
  by_letter f₁ f₂ f₃ f₄ =
      by_test (eqb (letter_of (suc i)) s) (λ e. f₁ (eqb-true (letter_of (suc i)) s e))
      (λ n. by_test (eqb (letter_of (suc i)) 0) (λ e. f₂ (eqb-true (letter_of (suc i)) 0 e))
      (λ n₀. by_test (eqb (letter_of (suc i)) a) (λ e. f₃ (eqb-true (letter_of (suc i)) a e))
      (λ n₁. by_test (eqb (letter_of (suc i)) k) (λ e. f₄ (eqb-true (letter_of (suc i)) k e))
      (λ n₂. let c = right (same (tags (signs_of (suc i))) []) _ (not_labelled n) in absurd (rw (n₀, n₁, n₂) at c)))))

-- Instructions and their records.
--     Holds, FitAct, Fit     every number fits: an outside action is 1 to 999, any other number at most 9,999
--     Named, fit-named, fit_small     outside actions are at most 1,000; what fits is named, and its record's x and y fit two bytes
--     decode-encode, decode_encodes     what was encoded is decoded
--     tabulate, tabulated, kind_of, kind_of_in, kind_of_out, decode-kind     the kind of what was decoded, for every kind: a table by its entries
--     Absolute, accepted_back, accepted-fit     an accepted record of a routine or a base is the record of its instruction, which fits
--     Faultless, no-fault-at, no_faults, Spare, spare_zero_lem     a file without refusals 3 and 4, record by record
--     records_of_bytes, accepted_bytes, accepted-ops, accepted-records, accepted-file     its bytes are those of its records and of its
--         instructions, which fit
use mathlib.Core.Path.{◌≡◌, refl, sym, ap, ◌∙◌, subst}
use Prim.Native.Nat.{ℕ, zero, suc, ◌+◌, ◌*◌, ◌/◌, ◌%◌, ◌≤◌, ◌<◌}
use native.Mathlib.Nat.{add-zero, suc-add, add-suc, zero-add}
use native.Mathlib.Numerals.{add-one}
use native.Mathlib.Omega.{arith}
use mathlib.Core.Bool.{Bool, true, false, cond, ◌&&◌, ◌||◌}
use Rattle.std.specs.Prelude.{None, Some, slice_get}
use mathlib.Core.List.{List, [], ◌∷◌, ◌++◌, map}
use lib.ListN.{length, take, drop, get_or, length-drop, get_or-map}
use lib.Seq.{drop-cons, drop-drop}
use lib.Dec.{eqb, leb}
use borrow.Author.Tests.{leb-true, eqb-true, not-false, le-leb, lt-leb, ne_eqb}
use Rattle.rules.specs.declared.Row.{Row}
use Rattle.rules.specs.Record.{Rec, rec, record_bytes, bytes_of, count, record_of, spare_zero, records_of, records}
use Rattle.rules.specs.declared.Notation.{Notation}
use Rattle.rules.specs.declared.Notation.TheVariants.{Routine, Base, Relative}
use Rattle.rules.specs.Table.{rows, row_of}
use Rattle.rules.specs.Numbers.{at, names}
use Rattle.rules.specs.Instruction.{Act, outside, push, pop, compare, conditional, loop, Op, act, test, jump, label, goto, goto2, header, separator, end, call, return, act_of, written, decode, x_of, y_of, act_rec, encode, ops, file}
use Rattle.rules.specs.Checks.{listed, kind_fault, in_row, stack_action, has_stack, field_fault, fault, fault_from}
use Rattle.laws.proofs.Records.{All, Bytes, bytes_drop, Small}
use Rattle.laws.proofs.Refusals.{neither, when-none}

-- ## Numbers that fit

-- A is true of the action, N of every other number.
abbrev pub Holds : (Act → Type 0) → (ℕ → Type 0) → Op → Type 0
Holds A N (act a) = A a
Holds A N (test v a) = A a
Holds A N (jump k) = N k
Holds A N (label s) = N s
Holds A N (goto s) = N s
Holds A N (goto2 s t) = N s × N t
Holds A N (header b v a) = A a
Holds A N separator = Unit {0}
Holds A N (end b) = Unit {0}
Holds A N (call k) = N k
Holds A N return = Unit {0}

abbrev pub FitAct : Act → Type 0
FitAct (outside n) = (1 ≤ n) × (n ≤ 999)
FitAct (push y) = y ≤ 9999
FitAct pop = Unit {0}
FitAct (compare y) = y ≤ 9999

abbrev pub Fit : Op → Type 0
Fit o = Holds FitAct (λ k. k ≤ 9999) o

abbrev pub NamedAct : Act → Type 0
NamedAct (outside n) = n ≤ 1000
NamedAct (push y) = Unit {0}
NamedAct pop = Unit {0}
NamedAct (compare y) = Unit {0}

abbrev pub Named : Op → Type 0
Named o = Holds NamedAct (λ k. Unit {0}) o

act-named : (a : Act) → FitAct a → NamedAct a
act-named (outside n) h = omega arith
act-named (push y) h = tt
act-named pop h = tt
act-named (compare y) h = tt

pub fit-named : (o : Op) → Fit o → Named o
fit-named (act a) h = act-named a h
fit-named (test v a) h = act-named a h
fit-named (jump k) h = tt
fit-named (label s) h = tt
fit-named (goto s) h = tt
fit-named (goto2 s t) h = (tt, tt)
fit-named (header b v a) h = act-named a h
fit-named separator h = tt
fit-named (end b) h = tt
fit-named (call k) h = tt
fit-named return h = tt

act-small : (k : ℕ) (a : Act) → FitAct a → Small (act_rec k a)
unfolding x_of y_of
act-small k (outside n) h = omega arith
act-small k (push y) h = omega arith
act-small k pop h = omega arith
act-small k (compare y) h = omega arith

pub fit_small : (o : Op) → Fit o → Small (encode o)
unfolding encode
fit_small (act a) h = act-small 1 a h
fit_small (test v a) h = act-small (cond v 2 3) a h
fit_small (jump k) h = omega arith
fit_small (label s) h = omega arith
fit_small (goto s) h = omega arith
fit_small (goto2 s t) h = omega arith
fit_small (header conditional v a) h = act-small (cond v 8 9) a h
fit_small (header loop v a) h = act-small (cond v 12 13) a h
fit_small separator h = omega arith
fit_small (end conditional) h = omega arith
fit_small (end loop) h = omega arith
fit_small (call k) h = omega arith
fit_small return h = omega arith

-- ## What was encoded is decoded

act-outside : (x y : ℕ) → x ≤ 1000 → act_of x y ≡ outside x
unfolding act_of
act-outside x y h = rw (ne_eqb x 1001 (λ q. omega arith), ne_eqb x 1002 (λ q. omega arith), ne_eqb x 1003 (λ q. omega arith))

act_back : (a : Act) → NamedAct a → act_of (x_of a) (y_of a) ≡ a
unfolding act_of x_of y_of
act_back (outside n) h = act-outside n 0 h
act_back (push y) h = refl
act_back pop h = refl
act_back (compare y) h = refl

pub decode-encode : (o : Op) → Named o → decode (encode o) ≡ o
unfolding decode encode written
decode-encode (act a) h = rw (act_back a h)
decode-encode (test true a) h = rw (act_back a h)
decode-encode (test false a) h = rw (act_back a h)
decode-encode (jump k) h = refl
decode-encode (label s) h = refl
decode-encode (goto s) h = refl
decode-encode (goto2 s t) h = refl
decode-encode (header conditional true a) h = rw (act_back a h)
decode-encode (header conditional false a) h = rw (act_back a h)
decode-encode (header loop true a) h = rw (act_back a h)
decode-encode (header loop false a) h = rw (act_back a h)
decode-encode separator h = refl
decode-encode (end conditional) h = refl
decode-encode (end loop) h = refl
decode-encode (call k) h = refl
decode-encode return h = refl

pub decode_encodes : (L : List Op) → All Named L → map decode (map encode L) ≡ L
decode_encodes [] h = refl
decode_encodes (o ∷ os) h = rw (decode-encode o h.0, decode_encodes os h.1)

-- ## The kind of what was decoded

-- f of the n numbers from p on, where beyond them f is always z.
abbrev pub tabulate : {A : Type 0} → (ℕ → A) → ℕ → ℕ → List A
tabulate f p zero = []
tabulate f p (suc n) = f p ∷ tabulate f (suc p) n

pub tabulated : {A : Type 0} (f : ℕ → A) (z : A) (p n k : ℕ) → ((j : ℕ) → p + n ≤ j → f j ≡ z) → get_or (tabulate f p n) k z ≡ f (k + p)
tabulated f z p zero k h = sym (h (k + p) (omega arith))
tabulated f z p (suc n) zero h = rw zero-add
tabulated f z p (suc n) (suc k) h = rw (suc-add k p, ← add-suc k p) (tabulated f z (suc p) n k (λ j l. h j (omega arith)))

-- A number that is no kind of an instruction decodes to a jump.
unfoldable pub kind_of : ℕ → ℕ
kind_of k = cond (names 16 k) k 4

pub kind_of_in : (k : ℕ) → 1 ≤ k → k ≤ 16 → kind_of k ≡ k
unfolding kind_of names
kind_of_in zero l h = absurd (omega arith)
kind_of_in (suc k) l h = rw (le-leb (suc k) 16 h)

pub kind_of_out : (k : ℕ) → 17 ≤ k → kind_of k ≡ 4
unfolding kind_of names
kind_of_out zero h = absurd (omega arith)
kind_of_out (suc k) h = rw (lt-leb (suc k) 16 h)

kind_table : (k : ℕ) → get_or (tabulate kind_of 0 17) k 4 ≡ kind_of k
kind_table k = tabulated kind_of 4 0 17 k kind_of_out ∙ ap kind_of (add-zero k)

pub decode-kind : (r : Rec) → (encode (decode r)).kind ≡ kind_of r.kind
unfolding decode written encode kind_of names
decode-kind r =
    sym (get_or-map (λ o. (encode o).kind) (jump 0 ∷ written (act_of r.x r.y) r.x r.y) r.kind (jump 0)) ∙ kind_table r.kind

-- ## Accepted records

four : (a b c d : Bool) → a && b && c && d ≡ true → (a ≡ true) × (b ≡ true) × (c ≡ true) × (d ≡ true)
four true true true d e = (refl, refl, refl, e)
four true true false d e = cc
four true false c d e = cc
four false b c d e = cc

or_last : (a : Bool) → a || false ≡ true → a ≡ true
or_last true e = refl
or_last false e = e

record In (w : Row) (x y : ℕ) : Type 0 where
  xlow : w.xmin ≤ x
  xhigh : x ≤ w.xmax
  yhigh : y ≤ w.ymax

in_row_lem : (w : Row) (r : Rec) → in_row (Some w) r ≡ true → In w r.x r.y
unfolding in_row
in_row_lem w r e =
    let p = four (leb w.xmin r.x) (leb r.x w.xmax) (leb w.ymin r.y) (leb r.y w.ymax) e in
    record { xlow = leb-true _ _ p.0; xhigh = leb-true _ _ p.1; yhigh = leb-true _ _ p.3 }

-- x and y are those of the action they say, which fits.
abbrev Acts : ℕ → ℕ → Type 0
Acts x y = (x_of (act_of x y) ≡ x) × (y_of (act_of x y) ≡ y) × FitAct (act_of x y)

acts_outside : (x y : ℕ) → 1 ≤ x → x ≤ 999 → y ≤ 0 → Acts x y
unfolding x_of y_of
acts_outside x y l h g = rw (act-outside x y (omega arith)) (refl, omega arith, (l, h))

abbrev on_stack : ℕ → ℕ → Bool
on_stack x y = (eqb x 1001 || eqb x 1003) && leb y 9999 || eqb x 1002 && eqb y 0

acts_push : (y : ℕ) → on_stack 1001 y ≡ true → Acts 1001 y
unfolding act_of x_of y_of
acts_push y e = (refl, refl, leb-true _ _ (or_last (leb y 9999) e))

acts_pop : (y : ℕ) → on_stack 1002 y ≡ true → Acts 1002 y
unfolding act_of x_of y_of
acts_pop y e = (refl, sym (eqb-true y 0 e), tt)

acts_compare : (y : ℕ) → on_stack 1003 y ≡ true → Acts 1003 y
unfolding act_of x_of y_of
acts_compare y e = (refl, refl, leb-true _ _ (or_last (leb y 9999) e))

acts_stack : (x y : ℕ) → on_stack x y ≡ true → Acts x y
acts_stack x y e = by (eqb x 1001) (eqb x 1003) (eqb x 1002) refl refl refl e
  where
    is : (n : ℕ) → eqb x n ≡ true → (on_stack n y ≡ true → Acts n y) → Acts x y
    is n q f = subst (λ (k : ℕ). on_stack k y ≡ true → Acts k y) (sym (eqb-true x n q)) f e

    by : (a b c : Bool) → eqb x 1001 ≡ a → eqb x 1003 ≡ b → eqb x 1002 ≡ c → ((a || b) && leb y 9999 || c && eqb y 0) ≡ true → Acts x y
    by true b c p q r f = is 1001 p (acts_push y)
    by false true c p q r f = is 1003 q (acts_compare y)
    by false false true p q r f = is 1002 r (acts_pop y)
    by false false false p q r f = cc

-- The record of o is (k, x, y), and o fits.
abbrev Of : ℕ → ℕ → ℕ → Op → Type 0
Of k x y o = (encode o ≡ rec k x y) × Fit o

same : (k : ℕ) {x y a b : ℕ} → a ≡ x → b ≡ y → rec k a b ≡ rec k x y
same k p q = rw (p, q)

infixr 4 ◌⊗◌
abbrev ◌⊗◌ : {A B : Type 0} → A → B → A × B
a ⊗ b = (a, b)

module _ (x y : ℕ) where
  -- Each row and each instruction of a table whose first kind is p.
  abbrev Each : ℕ → List Row → List Op → Type 0
  Each p [] os = Unit {0}
  Each p (w ∷ ws) [] = ⊥
  Each p (w ∷ ws) (o ∷ os) = (In w x y → Of p x y o) × Each (suc p) ws os

  lookup : (p k q : ℕ) (ws : List Row) (os : List Op) (z : Op) → Each p ws os → in_row (slice_get ws k) (rec q x y) ≡ true → Of (k + p) x y (get_or os k z)
  unfolding in_row
  lookup p k q [] os z g e = cc
  lookup p k q (w ∷ ws) [] z g e = absurd g
  lookup p zero q (w ∷ ws) (o ∷ os) z g e = rw zero-add (g.0 (in_row_lem w (rec q x y) e))
  lookup p (suc k) q (w ∷ ws) (o ∷ os) z g e = rw (suc-add k p, ← add-suc k p) (lookup (suc p) k q ws os z g.1 e)

  acting : (k : ℕ) → Acts x y → (act_rec k (act_of x y) ≡ rec k x y) × FitAct (act_of x y)
  acting k a = (same k a.0 a.1, a.2)

  each_row : Each 1 rows (written (act_of x y) x y)
  unfolding rows written encode
  each_row =
      let a : (k : ℕ) → 1 ≤ x → x ≤ 999 → y ≤ 0 → (act_rec k (act_of x y) ≡ rec k x y) × FitAct (act_of x y) = λ k l g h. acting k (acts_outside x y l g h) in
      let f : (k : ℕ) → y ≤ 0 → rec k x 0 ≡ rec k x y = λ k h. same k refl (omega arith) in
      let b : (k : ℕ) → x ≤ 0 → y ≤ 0 → rec k 0 0 ≡ rec k x y = λ k g h. same k (omega arith) (omega arith) in
      (λ i. a 1 i.xlow i.xhigh i.yhigh)
      ⊗ (λ i. a 2 i.xlow i.xhigh i.yhigh)
      ⊗ (λ i. a 3 i.xlow i.xhigh i.yhigh)
      ⊗ (λ i. (f 4 i.yhigh, i.xhigh))
      ⊗ (λ i. (f 5 i.yhigh, omega (arith, i.xhigh)))
      ⊗ (λ i. (f 6 i.yhigh, omega (arith, i.xhigh)))
      ⊗ (λ i. (refl, (omega (arith, i.xhigh), omega (arith, i.yhigh))))
      ⊗ (λ i. a 8 i.xlow i.xhigh i.yhigh)
      ⊗ (λ i. a 9 i.xlow i.xhigh i.yhigh)
      ⊗ (λ i. (b 10 i.xhigh i.yhigh, tt))
      ⊗ (λ i. (b 11 i.xhigh i.yhigh, tt))
      ⊗ (λ i. a 12 i.xlow i.xhigh i.yhigh)
      ⊗ (λ i. a 13 i.xlow i.xhigh i.yhigh)
      ⊗ (λ i. (b 14 i.xhigh i.yhigh, tt))
      ⊗ (λ i. (f 15 i.yhigh, i.xhigh))
      ⊗ (λ i. (b 16 i.xhigh i.yhigh, tt))
      ⊗ tt

  each_four : Each 1 (take 4 rows) (written (act_of x y) x y)
  unfolding rows written
  each_four = let e = each_row in e.0 ⊗ e.1.0 ⊗ e.1.1.0 ⊗ e.1.1.1.0 ⊗ tt

  abbrev meant : ℕ → Op
  meant k = get_or (jump 0 ∷ written (act_of x y) x y) k (jump 0)

  by_row : (ws : List Row) → Each 1 ws (written (act_of x y) x y) → (k q : ℕ) → in_row (at ws k) (rec q x y) ≡ true → Of k x y (meant k)
  unfolding at in_row
  by_row ws g zero q e = cc
  by_row ws g (suc j) q e = subst (λ (i : ℕ). Of i x y (meant (suc j))) (add-one j) (lookup 1 j q ws (written (act_of x y) x y) (jump 0) g e)

  by_stack : (k : ℕ) → stack_action (rec k x y) ≡ true → Of k x y (meant k)
  unfolding stack_action names written encode
  by_stack zero e = cc
  by_stack (suc zero) e = acting 1 (acts_stack x y e)
  by_stack (suc (suc zero)) e = acting 2 (acts_stack x y e)
  by_stack (suc (suc (suc zero))) e = acting 3 (acts_stack x y e)
  by_stack (suc (suc (suc (suc k)))) e = cc (lt-leb (suc (suc (suc (suc k)))) 3 (omega arith))

-- Routines and bases hold instructions; a relative base does not.
abbrev pub Absolute : Notation → Type 0
Absolute Routine = Unit {0}
Absolute Base = Unit {0}
Absolute Relative = ⊥

or_either : (a b : Bool) {P : Type 0} → a || b ≡ true → (a ≡ true → P) → (b ≡ true → P) → P
or_either true b e f g = f refl
or_either false b e f g = g e

accepted : (nt : Notation) → Absolute nt → (r : Rec) → field_fault nt r ≡ false → Of r.kind r.x r.y (decode r)
unfolding field_fault row_of has_stack decode
accepted Routine h r e =
    by_row r.x r.y rows (each_row r.x r.y) r.kind r.kind (or_last (in_row (at rows r.kind) r) (not-false _ e))
accepted Base h r e =
    or_either (in_row (at (take 4 rows) r.kind) r) (stack_action r) (not-false _ e) (by_row r.x r.y (take 4 rows) (each_four r.x r.y) r.kind r.kind) (by_stack r.x r.y r.kind)
accepted Relative h r e = absurd h

pub accepted_back : (nt : Notation) → Absolute nt → (r : Rec) → field_fault nt r ≡ false → encode (decode r) ≡ r
accepted_back nt h r e = (accepted nt h r e).0

pub accepted-fit : (nt : Notation) → Absolute nt → (r : Rec) → field_fault nt r ≡ false → Fit (decode r)
accepted-fit nt h r e = (accepted nt h r e).1

-- ## A file without refusals 3 and 4

-- The record that the next eight bytes are has neither fault.
pub record Faultless (nt : Notation) (s : List ℕ) : Type 0 where
  pub kinds : kind_fault nt s ≡ false
  pub fields : field_fault nt (record_of s) ≡ false

faultless : (nt : Notation) (i : ℕ) (s : List ℕ) → fault nt i s ≡ None → Faultless nt s
unfolding fault
faultless nt i s e = let p = neither _ _ e in record { kinds = when-none _ _ p.0; fields = when-none _ _ p.1 }

pub no-fault-at : (nt : Notation) (i n : ℕ) (s : List ℕ) → fault_from nt i n s ≡ None → (k : ℕ) → k < n → Faultless nt (drop (8 * k) s)
unfolding fault_from
no-fault-at nt i zero s e k h = absurd (omega arith)
no-fault-at nt i (suc n) s e zero h = faultless nt i s (neither _ _ e).0
no-fault-at nt i (suc n) s e (suc k) h =
    let q : 8 + 8 * k ≡ 8 * suc k = omega arith in
    subst (λ (t : List ℕ). Faultless nt t) (drop-drop (8 * k) 8 s ∙ ap (λ (j : ℕ). drop j s) q) (no-fault-at nt (suc i) n (drop 8 s) (neither _ _ e).1 k (omega arith))

pub no_faults : (nt : Notation) (i n : ℕ) (s : List ℕ) → fault_from nt i n s ≡ None → All (λ r. field_fault nt r ≡ false) (records_of n s)
unfolding fault_from
no_faults nt i zero s e = tt
no_faults nt i (suc n) s e = ((faultless nt i s (neither _ _ e).0).fields, no_faults nt (suc i) n (drop 8 s) (neither _ _ e).1)

pub record Spare (s : List ℕ) : Type 0 where
  pub one : get_or s 1 0 ≡ 0
  pub six : get_or s 6 0 ≡ 0
  pub seven : get_or s 7 0 ≡ 0

and_last : (a b : Bool) → a && b ≡ true → b ≡ true
and_last true b e = e
and_last false b e = cc

pub spare_zero_lem : (nt : Notation) (s : List ℕ) → kind_fault nt s ≡ false → Spare s
unfolding kind_fault
spare_zero_lem nt s e =
    let p = four true (eqb (get_or s 1 0) 0) (eqb (get_or s 6 0) 0) (eqb (get_or s 7 0) 0) (and_last (listed (row_of nt (record_of s).kind)) (spare_zero s) (not-false _ e)) in
    record { one = eqb-true _ 0 p.1; six = eqb-true _ 0 p.2; seven = eqb-true _ 0 p.3 }

low_back : (a b : ℕ) → a < 256 → (a + 256 * b) % 256 ≡ a
low_back a b h = omega arith

high_back : (a b : ℕ) → a < 256 → b < 256 → (a + 256 * b) / 256 % 256 ≡ b
high_back a b h g = omega arith

eight : (s : List ℕ) → 8 ≤ length s
    → get_or s 0 0 ∷ get_or s 1 0 ∷ get_or s 2 0 ∷ get_or s 3 0 ∷ get_or s 4 0 ∷ get_or s 5 0 ∷ get_or s 6 0 ∷ get_or s 7 0 ∷ drop 8 s ≡ s
eight s h =
    let d : (k : ℕ) → k < 8 → get_or s k 0 ∷ drop (suc k) s ≡ drop k s = λ k l. sym (drop-cons s k 0 (omega arith)) in
    rw (d 7 (omega arith), d 6 (omega arith), d 5 (omega arith), d 4 (omega arith), d 3 (omega arith), d 2 (omega arith), d 1 (omega arith), d 0 (omega arith))

record_bytes_lem : (s : List ℕ) → Bytes s → 8 ≤ length s → Spare s → record_bytes (record_of s) ++ drop 8 s ≡ s
record_bytes_lem s b l z =
    rw (low_back (get_or s 2 0) (get_or s 3 0) (b 2), high_back (get_or s 2 0) (get_or s 3 0) (b 2) (b 3), low_back (get_or s 4 0) (get_or s 5 0) (b 4), high_back (get_or s 4 0) (get_or s 5 0) (b 4) (b 5))
    (ap (λ (n : ℕ). get_or s 0 0 ∷ n ∷ get_or s 2 0 ∷ get_or s 3 0 ∷ get_or s 4 0 ∷ get_or s 5 0 ∷ 0 ∷ 0 ∷ drop 8 s) (sym z.one)
    ∙ ap (λ (n : ℕ). get_or s 0 0 ∷ get_or s 1 0 ∷ get_or s 2 0 ∷ get_or s 3 0 ∷ get_or s 4 0 ∷ get_or s 5 0 ∷ n ∷ 0 ∷ drop 8 s) (sym z.six)
    ∙ ap (λ (n : ℕ). get_or s 0 0 ∷ get_or s 1 0 ∷ get_or s 2 0 ∷ get_or s 3 0 ∷ get_or s 4 0 ∷ get_or s 5 0 ∷ get_or s 6 0 ∷ n ∷ drop 8 s) (sym z.seven)
    ∙ eight s l)

pub records_of_bytes : (nt : Notation) (i n : ℕ) (s : List ℕ) → Bytes s → length s ≡ 8 * n → fault_from nt i n s ≡ None → bytes_of (records_of n s) ≡ s
unfolding fault_from
records_of_bytes nt i zero [] b l e = refl
records_of_bytes nt i zero (x ∷ s) b l e = absurd (omega arith)
records_of_bytes nt i (suc n) s b l e =
    let p = neither _ _ e in
    ap (λ (t : List ℕ). record_bytes (record_of s) ++ t) (records_of_bytes nt (suc i) n (drop 8 s) (bytes_drop 8 s b) (omega (arith, length-drop 8 s)) p.1)
    ∙ record_bytes_lem s b (omega arith) (spare_zero_lem nt s (faultless nt i s p.0).kinds)

-- What is accepted: no bytes left over, and no record with a fault.
module _ (nt : Notation) (s : List ℕ) (e : fault_from nt 1 (count s) s ≡ None) where
  pub accepted_bytes : Bytes s → length s % 8 ≡ 0 → bytes_of (records s) ≡ s
  accepted_bytes b l = records_of_bytes nt 1 (count s) s b (omega arith) e

  module _ (a : Absolute nt) where
    pub accepted-ops : All Fit (ops s)
    unfolding ops
    accepted-ops = by (records s) (no_faults nt 1 (count s) s e)
      where
        by : (rs : List Rec) → All (λ r. field_fault nt r ≡ false) rs → All Fit (map decode rs)
        by [] h = tt
        by (r ∷ rs) h = (accepted-fit nt a r h.0, by rs h.1)

    pub accepted-records : map encode (ops s) ≡ records s
    unfolding ops
    accepted-records = by (records s) (no_faults nt 1 (count s) s e)
      where
        by : (rs : List Rec) → All (λ r. field_fault nt r ≡ false) rs → map encode (map decode rs) ≡ rs
        by [] h = refl
        by (r ∷ rs) h = rw (accepted_back nt a r h.0, by rs h.1)

    pub accepted-file : Bytes s → length s % 8 ≡ 0 → file (ops s) ≡ s
    unfolding file
    accepted-file b l = ap bytes_of accepted-records ∙ accepted_bytes b l

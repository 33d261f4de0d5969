-- Lengths.
--     places, added_is     the places that an instruction adds: a header or a call 1, a return 6n, any other 0
--     once_of, return_of, added-kind     the same by the kind, for every kind
--     ones, returns, added_counts, converted_counts     the converted length by the paper's three counts
--     ones_here, returns_here, added_here     these counts over bytes, from record k + 1 on
--     converted_length_lem     the converted length is the length of the base
--     laid_grows, labels_length, labels-room, calls-room, loops-room     no stage is longer than the base
use mathlib.Core.Path.{◌≡◌, refl, sym, ap, ◌∙◌}
use Prim.Native.Nat.{ℕ, zero, suc, ◌+◌, ◌*◌, ◌≤◌, ◌<◌}
use native.Mathlib.Nat.{add-zero}
use native.Mathlib.Numerals.{add-one}
use native.Mathlib.Omega.{arith}
use mathlib.Core.Bool.{true, false, cond}
use Rattle.std.specs.Prelude.{Option, None, Some, slice_get}
use mathlib.Core.List.{List, [], ◌∷◌, ◌++◌, map}
use lib.ListN.{length, drop, get_or, length-append}
use lib.Dec.{eqb}
use borrow.Author.Tests.{ne_eqb}
use Rattle.rules.specs.declared.Row.{Row}
use Rattle.rules.specs.Record.{count}
use Rattle.rules.specs.Instruction.{conditional, loop, Op, act, test, jump, label, goto, goto2, header, separator, end, call, return, encode, ops}
use Rattle.rules.specs.declared.Notation.TheVariants.{Routine}
use Rattle.rules.specs.Table.{rows, row_of}
use Rattle.rules.specs.Numbers.{at, each, names}
use Rattle.rules.specs.Skip.{added_by, added, added_all, converted_length}
use Rattle.rules.specs.SecondLevel.{Group, ◌▹◌, members, renumber, sent, laid, removed}
use Rattle.rules.specs.Labels.{unlabel, labels}
use Rattle.rules.specs.Calls.{chain, uncall, calls}
use Rattle.rules.specs.Loops.{unloop, loops}
use Rattle.rules.specs.Conditionals.{uncond, conditionals}
use Rattle.rules.specs.Convert.{convert}
use Rattle.laws.proofs.Records.{record_at, ops-drop}
use Rattle.laws.proofs.Instructions.{tabulated, kind_of, kind_of_out, decode-kind}
use Rattle.laws.proofs.SecondLevel.{each-length}

-- ## The places that an instruction adds

abbrev pub places : ℕ → Op → ℕ
places n (act a) = 0
places n (test v a) = 0
places n (jump k) = 0
places n (label s) = 0
places n (goto s) = 0
places n (goto2 s t) = 0
places n (header b v a) = 1
places n separator = 0
places n (end b) = 0
places n (call k) = 1
places n return = 6 * n

pub added_is : (n : ℕ) (o : Op) → added n o ≡ places n o
unfolding added added_by row_of rows at encode
added_is n (act a) = omega arith
added_is n (test true a) = omega arith
added_is n (test false a) = omega arith
added_is n (jump k) = omega arith
added_is n (label s) = omega arith
added_is n (goto s) = omega arith
added_is n (goto2 s t) = omega arith
added_is n (header conditional true a) = omega arith
added_is n (header conditional false a) = omega arith
added_is n (header loop true a) = omega arith
added_is n (header loop false a) = omega arith
added_is n separator = omega arith
added_is n (end conditional) = omega arith
added_is n (end loop) = omega arith
added_is n (call k) = omega arith
added_is n return = omega arith

-- ## By the paper's three counts: n, one for each of some kinds, and 6n for each return

unfoldable pub once_of : ℕ → ℕ
once_of k = cond (eqb k 8) 1 (cond (eqb k 9) 1 (cond (eqb k 12) 1 (cond (eqb k 13) 1 (cond (eqb k 15) 1 0))))

unfoldable pub return_of : ℕ → ℕ
return_of k = cond (eqb k 16) 1 0

once_beyond : (k : ℕ) → 17 ≤ k → once_of k ≡ 0
unfolding once_of
once_beyond k h = rw (ne_eqb k 8 (λ e. omega arith), ne_eqb k 9 (λ e. omega arith), ne_eqb k 12 (λ e. omega arith), ne_eqb k 13 (λ e. omega arith), ne_eqb k 15 (λ e. omega arith))

return_beyond : (k : ℕ) → 17 ≤ k → return_of k ≡ 0
unfolding return_of
return_beyond k h = rw (ne_eqb k 16 (λ e. omega arith))

unfoldable once_in : Option Row → ℕ
once_in None = 0
once_in (Some w) = w.once

unfoldable each_in : Option Row → ℕ
each_in None = 0
each_in (Some w) = w.each

at_table : (f : Option Row → ℕ) (ws : List Row) (k : ℕ) → f (at ws k) ≡ get_or (f None ∷ map (λ w. f (Some w)) ws) k (f None)
unfolding at
at_table f ws zero = refl
at_table f ws (suc k) = by ws k
  where
    by : (ws : List Row) (k : ℕ) → f (slice_get ws k) ≡ get_or (map (λ w. f (Some w)) ws) k (f None)
    by [] k = refl
    by (w ∷ ws) zero = refl
    by (w ∷ ws) (suc k) = by ws k

once_row : (k : ℕ) → once_in (at rows k) ≡ once_of k
unfolding once_in once_of rows
once_row k = at_table once_in rows k ∙ tabulated once_of 0 0 17 k once_beyond ∙ ap once_of (add-zero k)

each_row : (k : ℕ) → each_in (at rows k) ≡ 6 * return_of k
unfolding each_in return_of rows
each_row k = at_table each_in rows k ∙ tabulated (λ j. 6 * return_of j) 0 0 17 k (λ j h. omega (arith, return_beyond j h)) ∙ ap (λ (j : ℕ). 6 * return_of j) (add-zero k)

pub added-kind : (n k : ℕ) → added_by n (row_of Routine k) ≡ once_of k + 6 * n * return_of k
unfolding row_of added_by once_in each_in
added-kind n k = by (at rows k) ∙ omega (arith, once_row k, ap (λ (e : ℕ). e * n) (each_row k))
  where
    by : (w : Option Row) → added_by n w ≡ once_in w + each_in w * n
    by None = omega arith
    by (Some w) = refl

-- What a kind decodes to adds what the kind adds.
once_kind : (k : ℕ) → once_of (kind_of k) ≡ once_of k
unfolding once_of kind_of names
once_kind k =
    ap (λ (j : ℕ). once_of (kind_of j)) (sym (add-zero k))
    ∙ sym (tabulated (λ j. once_of (kind_of j)) 0 0 17 k (λ j h. ap once_of (kind_of_out j h)))
    ∙ tabulated once_of 0 0 17 k once_beyond
    ∙ ap once_of (add-zero k)

return-kind : (k : ℕ) → return_of (kind_of k) ≡ return_of k
unfolding return_of kind_of names
return-kind k =
    ap (λ (j : ℕ). return_of (kind_of j)) (sym (add-zero k))
    ∙ sym (tabulated (λ j. return_of (kind_of j)) 0 0 17 k (λ j h. ap return_of (kind_of_out j h)))
    ∙ tabulated return_of 0 0 17 k return_beyond
    ∙ ap return_of (add-zero k)

unfoldable pub ones : List Op → ℕ
ones [] = 0
ones (o ∷ os) = once_of (encode o).kind + ones os

unfoldable pub returns : List Op → ℕ
returns [] = 0
returns (o ∷ os) = return_of (encode o).kind + returns os

pub added_counts : (n : ℕ) (L : List Op) → added_all n L ≡ ones L + 6 * n * returns L
unfolding added_all added ones returns
added_counts n [] = omega arith
added_counts n (o ∷ os) = omega (arith, added-kind n (encode o).kind, added_counts n os)

pub converted_counts : (L : List Op) → converted_length L ≡ length L + ones L + 6 * length L * returns L
unfolding converted_length
converted_counts L = omega (arith, added_counts (length L) L)

-- Over bytes, from record k + 1 on.
module _ (s : List ℕ) (k : ℕ) (h : k < count s) where
  pub ones_here : ones (drop k (ops s)) ≡ once_of (get_or s (8 * k) 0) + ones (drop (suc k) (ops s))
  unfolding ones
  ones_here = ap ones (ops-drop s k h) ∙ rw (decode-kind (record_at s k), once_kind (get_or s (8 * k) 0))

  pub returns_here : returns (drop k (ops s)) ≡ return_of (get_or s (8 * k) 0) + returns (drop (suc k) (ops s))
  unfolding returns
  returns_here = ap returns (ops-drop s k h) ∙ rw (decode-kind (record_at s k), return-kind (get_or s (8 * k) 0))

  pub added_here : (n : ℕ) → added_all n (drop k (ops s)) ≡ once_of (get_or s (8 * k) 0) + 6 * n * return_of (get_or s (8 * k) 0) + added_all n (drop (suc k) (ops s))
  added_here n =
      added_counts n (drop k (ops s))
      ∙ omega (arith, ones_here, ap (λ (x : ℕ). n * x) returns_here, added_counts n (drop (suc k) (ops s)))

-- ## The length of the base

-- What each record counts for: the headers, calls and returns as said, any other 1.
unfoldable wt : ℕ → ℕ → ℕ → ℕ → Op → ℕ
wt hc hl k r (act a) = 1
wt hc hl k r (test v a) = 1
wt hc hl k r (jump x) = 1
wt hc hl k r (label s) = 1
wt hc hl k r (goto s) = 1
wt hc hl k r (goto2 s u) = 1
wt hc hl k r (header conditional v a) = hc
wt hc hl k r (header loop v a) = hl
wt hc hl k r separator = 1
wt hc hl k r (end conditional) = 1
wt hc hl k r (end loop) = 1
wt hc hl k r (call x) = k
wt hc hl k r return = r

unfoldable weigh : (Op → ℕ) → List Op → ℕ
weigh g [] = 0
weigh g (o ∷ os) = g o + weigh g os

weigh_append : (g : Op → ℕ) (xs ys : List Op) → weigh g (xs ++ ys) ≡ weigh g xs + weigh g ys
unfolding weigh
weigh_append g [] ys = omega arith
weigh_append g (x ∷ xs) ys = omega (arith, weigh_append g xs ys)

weigh_laid : (f : ℕ → Op → Group) (g g' : Op → ℕ) → ((Q : ℕ → ℕ) (p : ℕ) (o : Op) → weigh g (map (sent Q) (members (f p o))) ≡ g' o)
    → (Q : ℕ → ℕ) (p : ℕ) (os : List Op) → weigh g (laid Q (each f p os)) ≡ weigh g' os
unfolding weigh each laid
weigh_laid f g g' h Q p [] = refl
weigh_laid f g g' h Q p (o ∷ os) = omega (arith, weigh_append g (map (sent Q) (members (f p o))) (laid Q (each f (suc p) os)), h Q p o, weigh_laid f g g' h Q (suc p) os)

w₄ : (L : List Op) (Q : ℕ → ℕ) (p : ℕ) (o : Op) → weigh (wt 1 1 1 1) (map (sent Q) (members (uncond L p o))) ≡ wt 2 1 1 1 o
unfolding weigh wt sent members uncond
w₄ L Q p (act a) = refl
w₄ L Q p (test v a) = refl
w₄ L Q p (jump x) = refl
w₄ L Q p (label s) = refl
w₄ L Q p (goto s) = refl
w₄ L Q p (goto2 s u) = refl
w₄ L Q p (header conditional v a) = refl
w₄ L Q p (header loop v a) = refl
w₄ L Q p separator = refl
w₄ L Q p (end conditional) = refl
w₄ L Q p (end loop) = refl
w₄ L Q p (call x) = refl
w₄ L Q p return = refl

w₃ : (L : List Op) (Q : ℕ → ℕ) (p : ℕ) (o : Op) → weigh (wt 2 1 1 1) (map (sent Q) (members (unloop L p o))) ≡ wt 2 2 1 1 o
unfolding weigh wt sent members unloop
w₃ L Q p (act a) = refl
w₃ L Q p (test v a) = refl
w₃ L Q p (jump x) = refl
w₃ L Q p (label s) = refl
w₃ L Q p (goto s) = refl
w₃ L Q p (goto2 s u) = refl
w₃ L Q p (header conditional v a) = refl
w₃ L Q p (header loop v a) = refl
w₃ L Q p separator = refl
w₃ L Q p (end conditional) = refl
w₃ L Q p (end loop) = refl
w₃ L Q p (call x) = refl
w₃ L Q p return = refl

links_weigh : (Q : ℕ → ℕ) (j : ℕ) → weigh (wt 2 2 1 1) (map (sent Q) (members (chain j))) ≡ 6 * j + 1
unfolding weigh wt sent members chain
links_weigh Q zero = refl
links_weigh Q (suc j) = omega (arith, snoc (members (chain j)), links_weigh Q j)
  where
    snoc : (xs : List Op) → weigh (wt 2 2 1 1) (map (sent Q) (xs ++ (end conditional ∷ []))) ≡ weigh (wt 2 2 1 1) (map (sent Q) xs) + 1
    snoc [] = refl
    snoc (x ∷ xs) = omega (arith, snoc xs)

w₂ : (n : ℕ) (Q : ℕ → ℕ) (p : ℕ) (o : Op) → weigh (wt 2 2 1 1) (map (sent Q) (members (uncall n p o))) ≡ wt 2 2 2 (6 * n + 1) o
unfolding weigh wt sent members uncall
w₂ n Q p (act a) = refl
w₂ n Q p (test v a) = refl
w₂ n Q p (jump x) = refl
w₂ n Q p (label s) = refl
w₂ n Q p (goto s) = refl
w₂ n Q p (goto2 s u) = refl
w₂ n Q p (header conditional v a) = refl
w₂ n Q p (header loop v a) = refl
w₂ n Q p separator = refl
w₂ n Q p (end conditional) = refl
w₂ n Q p (end loop) = refl
w₂ n Q p (call x) = refl
w₂ n Q p return = links_weigh Q n

w₁ : (n : ℕ) (L : List Op) (p : ℕ) (o : Op) → wt 2 2 2 (6 * n + 1) (unlabel L p o) ≡ suc (places n o)
unfolding wt unlabel
w₁ n L p (act a) = refl
w₁ n L p (test v a) = refl
w₁ n L p (jump x) = refl
w₁ n L p (label s) = refl
w₁ n L p (goto s) = refl
w₁ n L p (goto2 s u) = refl
w₁ n L p (header conditional v a) = refl
w₁ n L p (header loop v a) = refl
w₁ n L p separator = refl
w₁ n L p (end conditional) = refl
w₁ n L p (end loop) = refl
w₁ n L p (call x) = refl
w₁ n L p return = add-one (6 * n)

weigh_unlabel : (n : ℕ) (L : List Op) (p : ℕ) (os : List Op) → weigh (wt 2 2 2 (6 * n + 1)) (each (unlabel L) p os) ≡ length os + added_all n os
unfolding weigh each added_all
weigh_unlabel n L p [] = refl
weigh_unlabel n L p (o ∷ os) = omega (arith, w₁ n L p o, added_is n o, weigh_unlabel n L (suc p) os)

w₀ : (o : Op) → wt 1 1 1 1 o ≡ 1
unfolding wt
w₀ (act a) = refl
w₀ (test v a) = refl
w₀ (jump x) = refl
w₀ (label s) = refl
w₀ (goto s) = refl
w₀ (goto2 s u) = refl
w₀ (header conditional v a) = refl
w₀ (header loop v a) = refl
w₀ separator = refl
w₀ (end conditional) = refl
w₀ (end loop) = refl
w₀ (call x) = refl
w₀ return = refl

weigh_one : (L : List Op) → weigh (wt 1 1 1 1) L ≡ length L
unfolding weigh
weigh_one [] = refl
weigh_one (o ∷ os) = omega (arith, w₀ o, weigh_one os)

pub converted_length_lem : (L : List Op) → length (convert L) ≡ converted_length L
unfolding convert conditionals loops calls labels removed converted_length
converted_length_lem L =
    let A = labels L in
    let B = calls A in
    let C = loops B in
    sym (weigh_one (convert L))
    ∙ weigh_laid (uncond C) (wt 1 1 1 1) (wt 2 1 1 1) (w₄ C) (renumber (each (uncond C) 1 C)) 1 C
    ∙ weigh_laid (unloop B) (wt 2 1 1 1) (wt 2 2 1 1) (w₃ B) (renumber (each (unloop B) 1 B)) 1 B
    ∙ weigh_laid (uncall (length A)) (wt 2 2 1 1) (wt 2 2 2 (6 * length A + 1)) (w₂ (length A)) (renumber (each (uncall (length A)) 1 A)) 1 A
    ∙ ap (λ (n : ℕ). weigh (wt 2 2 2 (6 * n + 1)) A) (each-length (unlabel L) 1 L)
    ∙ weigh_unlabel (length L) L 1 L

-- ## No stage shortens what it is given, so where the base has room every stage has

pub laid_grows : (f : ℕ → Op → Group) (to : ℕ → ℕ) (p : ℕ) (L : List Op) → length L ≤ length (laid to (each f p L))
unfolding each laid members
laid_grows f to p [] = omega arith
laid_grows f to p (o ∷ os) =
    omega (arith, length-append (map (sent to) (members (f p o))) (laid to (each f (suc p) os)), one (f p o), laid_grows f to (suc p) os)
  where
    one : (g : Group) → 1 ≤ length (map (sent to) (members g))
    one (x ▹ xs) = omega arith

pub labels_length : (L : List Op) → length (labels L) ≡ length L
unfolding labels
labels_length L = each-length (unlabel L) 1 L

module _ (L : List Op) where
  pub loops-room : length (loops (calls (labels L))) ≤ converted_length L
  unfolding convert conditionals removed
  loops-room = let M = loops (calls (labels L)) in omega (arith, laid_grows (uncond M) (renumber (each (uncond M) 1 M)) 1 M, converted_length_lem L)

  pub calls-room : length (calls (labels L)) ≤ converted_length L
  unfolding loops removed
  calls-room = let M = calls (labels L) in omega (arith, laid_grows (unloop M) (renumber (each (unloop M) 1 M)) 1 M, loops-room)

  pub labels-room : length (labels L) ≤ converted_length L
  unfolding converted_length
  labels-room = omega (arith, labels_length L)

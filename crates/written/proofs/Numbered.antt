-- The number of a name: an action's number is the place of an entry with a proper name, and the labels L1 to Lm have the numbers 1 to m.
use mathlib.Core.Path.{◌≡◌, refl, sym, ap, ◌∙◌, subst}
use Prim.Native.Nat.{◌≤◌, ◌<◌}
use native.Mathlib.Omega.{arith}
use lib.ListN.{length-append}
use borrow.Author.Tests.{eq-eqb, ne_eqb, eqb-true, eqb-false, le-leb, leb-true, lt-ltb, ltb-true, ltb-false}
use Rattle.std.specs.Prelude.{◌+◌, ◌-◌, ◌∷◌, ◌++◌}
use Rattle.rules.specs.Words.{ℕ, zero, suc, true, false, cond, List, [], length, get_or, replicate, eqb, leb, ltb}
use Rattle.text.specs.declared.Sort.TheVariants.{Named}
use Rattle.text.specs.Bytes.{byte_at, digit, letter, in_sort, run}
use Rattle.text.specs.Names.{same, place_from, place_of, padded, action_of, entry, name_of, proper, label_of, with_label}
use Rattle.text.specs.Writing.{label_name}
use Rattle.text.specs.Grammar.{All}
use Rattle.text.proofs.Tests.{by_test, never}
use Rattle.grammar.proofs.Runs.{run_exact}
use Rattle.written.specs.Promises.{greater}
use Rattle.written.proofs.Truth.{and_left, and_right}
use Rattle.written.proofs.Decimal.{label_differs}

-- ## The same bytes

pub same_self : (u : List ℕ) → same u u ≡ true
unfolding same
same_self [] = refl
same_self (b ∷ u) = rw (eq-eqb b b refl) (same_self u)

pub same_is : (u v : List ℕ) → same u v ≡ true → u ≡ v
unfolding same
same_is [] [] h = refl
same_is [] (c ∷ v) h = never (sym h)
same_is (b ∷ u) [] h = never (sym h)
same_is (b ∷ u) (c ∷ v) h =
    by_test (eqb b c)
    (λ t. let e : b ≡ c = eqb-true b c t in let r : u ≡ v = same_is u v (rw t at h) in cc)
    (λ t. never (sym (rw t at h)))

pub not_same : (u v : List ℕ) → (u ≡ v → ⊥) → same u v ≡ false
not_same u v h = by_test (same u v) (λ t. absurd (h (same_is u v t))) (λ t. t)

-- ## The place of a name

-- Where there is one, it is among them, and the name stands there.
pub record There (i : ℕ) (u : List ℕ) (vs : List (List ℕ)) (v : ℕ) : Type 0 where
  pub from : i ≤ v
  pub upto : v < i + length vs
  pub stands : get_or vs (v - i) [] ≡ u

pub there : (i : ℕ) (u : List ℕ) (vs : List (List ℕ)) → (place_from i u vs ≡ 0 → ⊥) → There i u vs (place_from i u vs)
unfolding place_from
there i u [] h = absurd (h refl)
there i u (w ∷ vs) h =
    by_test (same u w)
    (λ t. let z : 0 ≡ i - i = omega arith in
    rw t (record { from = omega arith; upto = omega arith; stands = ap (λ (j : ℕ). get_or (w ∷ vs) j []) (sym z) ∙ sym (same_is u w t) }))
    (λ t. let r = there (suc i) u vs (rw t at h) in
    let f = r.from in
    let g = r.upto in
    let z : place_from (suc i) u vs - i ≡ suc (place_from (suc i) u vs - suc i) = omega arith in
    rw t (record { from = omega arith; upto = omega arith; stands = ap (λ (j : ℕ). get_or (w ∷ vs) j []) z ∙ r.stands }))

-- ## Actions

pads_stop : (n : ℕ) → in_sort Named (byte_at (replicate n 0) 0) ≡ false
unfolding in_sort digit letter
pads_stop zero = refl
pads_stop (suc n) = refl

-- The name that was looked up is that of the entry found, which is proper.
pub record Entered (es : List (List ℕ)) (n : List ℕ) (x : ℕ) : Type 0 where
  pub name_is : name_of es x ≡ n
  pub is_proper : proper es x ≡ true

pub entered : (es : List (List ℕ)) (n : List ℕ) → All Named n → 1 ≤ length n → length n ≤ 16 → (action_of es n ≡ 0 → ⊥) → Entered es n (action_of es n)
unfolding proper
entered es n al lo hi h =
    let r = there 1 (padded 16 n) es h in
    let e : entry es (action_of es n) ≡ padded 16 n = r.stands in
    let m : name_of es (action_of es n) ≡ n = ap (λ (u : List ℕ). run Named u 0 16) e ∙ run_exact Named [] n (replicate (16 - length n) 0) 16 al hi (pads_stop (16 - length n)) in
    record { name_is = m; is_proper = rw (m, e, le-leb 1 (length n) lo, same_self (padded 16 n)) }

pub action_most : (es : List (List ℕ)) (n : List ℕ) → (action_of es n ≡ 0 → ⊥) → (1 ≤ action_of es n) × (action_of es n ≤ length es)
action_most es n h = let r = there 1 (padded 16 n) es h in let f = r.from in let g = r.upto in (f, omega arith)

-- What is proper has a name, and is that name padded.
pub proper-some : (es : List (List ℕ)) (x : ℕ) → proper es x ≡ true → 1 ≤ length (name_of es x)
unfolding proper
proper-some es x h = leb-true 1 _ (and_left (leb 1 (length (name_of es x))) _ h)

pub proper-same : (es : List (List ℕ)) (x : ℕ) → proper es x ≡ true → padded 16 (name_of es x) ≡ entry es x
unfolding proper
proper-same es x h = same_is (padded 16 (name_of es x)) (entry es x) (and_right (leb 1 (length (name_of es x))) _ h)

-- ## Labels

pub greater_new : (m : ℕ) → greater m (suc m) ≡ suc m
unfolding greater
greater_new m = rw (lt-ltb m (suc m) (omega arith))

pub greater_old : (m v : ℕ) → v ≤ m → greater m v ≡ m
unfolding greater
greater_old m v h = by_test (ltb m v) (λ t. absurd (omega (arith, ltb-true m v t))) (λ t. rw t)

-- The number that a label was given is at most one more than there are labels, and then there are as many as the greatest number.
pub record Given (m v m' : ℕ) : Type 0 where
  pub one : 1 ≤ v
  pub next : v ≤ suc m
  pub few : m' ≤ 999
  pub grown : m' ≡ greater m v

pub given : (us : List (List ℕ)) (u : List ℕ) → length us ≤ 999 → (label_of us u ≡ 0 → ⊥) → Given (length us) (label_of us u) (length (with_label us u))
unfolding label_of with_label
given us u l h =
    by_test (eqb (place_of u us) 0)
    (λ t. by_test (ltb (length us) 999)
    (λ q. let n : length (us ++ (u ∷ [])) ≡ suc (length us) = length-append us (u ∷ []) ∙ omega arith in
    let k = ltb-true (length us) 999 q in
    rw (t, q) (record { one = omega arith; next = omega arith; few = omega arith; grown = n ∙ sym (greater_new (length us)) }))
    (λ q. absurd (h (rw (t, q)))))
    (λ t. let r = there 1 u us (eqb-false (place_of u us) 0 t) in
    let f = r.from in
    let g = r.upto in
    rw t (record { one = f; next = omega arith; few = l; grown = sym (greater_old (length us) (place_of u us) (omega arith)) }))

pub given_most : {m v m' : ℕ} → Given m v m' → v ≤ 999
unfolding greater
given_most {m} {v} {m'} g =
    let f = g.few in
    by_test (ltb m v)
    (λ c. let e : m' ≡ v = g.grown ∙ rw c in omega arith)
    (λ c. let e : m' ≡ m = g.grown ∙ rw c in omega (arith, ltb-false m v c))

-- L1 to Lm.
abbrev pub label_names : ℕ → List (List ℕ)
label_names zero = []
label_names (suc m) = label_names m ++ (label_name (suc m) ∷ [])

names-length : (m : ℕ) → length (label_names m) ≡ m
names-length zero = refl
names-length (suc m) = length-append (label_names m) (label_name (suc m) ∷ []) ∙ omega (arith, names-length m)

-- One more name behind the others.
place_append : (i : ℕ) (u : List ℕ) (vs : List (List ℕ)) (v : List ℕ) → 1 ≤ i
    → place_from i u (vs ++ (v ∷ [])) ≡ cond (eqb (place_from i u vs) 0) (cond (same u v) (i + length vs) 0) (place_from i u vs)
unfolding place_from
place_append i u [] v h = let e : i ≡ i + 0 = omega arith in ap (λ (j : ℕ). cond (same u v) j 0) e
place_append i u (w ∷ vs) v h =
    by_test (same u w)
    (λ t. rw (t, ne_eqb i 0 (λ z. omega arith)))
    (λ t. let e : suc i + length vs ≡ i + suc (length vs) = omega arith in
    rw t (place_append (suc i) u vs v (omega arith) ∙ ap (λ (j : ℕ). cond (eqb (place_from (suc i) u vs) 0) (cond (same u v) j 0) (place_from (suc i) u vs)) e))

place_absent : (m v : ℕ) → m < v → place_of (label_name v) (label_names m) ≡ 0
unfolding place_from
place_absent zero v h = refl
place_absent (suc m) v h =
    place_append 1 (label_name v) (label_names m) (label_name (suc m)) (omega arith)
    ∙ rw (place_absent m v (omega arith), not_same (label_name v) (label_name (suc m)) (λ e. omega (arith, label_differs v (suc m) e)))

place_present : (m v : ℕ) → 1 ≤ v → v ≤ m → place_of (label_name v) (label_names m) ≡ v
place_present zero v lo hi = absurd (omega arith)
place_present (suc m) v lo hi =
    place_append 1 (label_name v) (label_names m) (label_name (suc m)) (omega arith)
    ∙ by_test (ltb m v)
    (λ t. let k = ltb-true m v t in
    let e : v ≡ suc m = omega arith in
    let n = names-length m in
    rw (place_absent m v k, e, same_self (label_name (suc m))) (omega arith))
    (λ t. rw (place_present m v lo (ltb-false m v t), ne_eqb v 0 (λ z. omega arith)))

-- With L1 to Lm before, Lv has the number v, and then they are L1 to the greater of m and v.
labelled : (m v : ℕ) → 1 ≤ v → v ≤ suc m → greater m v ≤ 999 → label_of (label_names m) (label_name v) ≡ v
unfolding label_of
labelled m v lo hi few =
    by_test (ltb m v)
    (λ t. let k = ltb-true m v t in
    let e : v ≡ suc m = omega arith in
    let n = names-length m in
    let f : suc m ≤ 999 = subst (λ (j : ℕ). j ≤ 999) (ap (greater m) e ∙ greater_new m) few in
    rw (place_absent m v k, n, lt-ltb m 999 f) (sym e))
    (λ t. let k = ltb-false m v t in rw (place_present m v lo k, ne_eqb v 0 (λ z. omega arith)))

with_labelled : (m v : ℕ) → 1 ≤ v → v ≤ suc m → with_label (label_names m) (label_name v) ≡ label_names (greater m v)
unfolding with_label
with_labelled m v lo hi =
    by_test (ltb m v)
    (λ t. let k = ltb-true m v t in
    let e : v ≡ suc m = omega arith in
    rw (place_absent m v k, e, greater_new m))
    (λ t. let k = ltb-false m v t in rw (place_present m v lo k, ne_eqb v 0 (λ z. omega arith), greater_old m v k))

-- So a label that was given its number is read again from its name.
pub label_back : {m v m' : ℕ} → Given m v m' → (label_of (label_names m) (label_name v) ≡ v) × (with_label (label_names m) (label_name v) ≡ label_names m')
label_back {m} {v} {m'} g = (labelled m v g.one g.next (rw (← g.grown) g.few), with_labelled m v g.one g.next ∙ ap label_names (sym g.grown))

-- A table that is filled entry by entry.
--     Entries     of the table of f on n records, those above lo up to hi are there; entry 0 is 0, and what lies beyond n is as it was
--     begun, entered, all_entered     at the start; one entry more; at the end
--     last_entered     the last entry of a pass from the left
--     looked_zero, looked_in, looked     a table that was zero before, looked into: at 0, at a record, and at any number
use mathlib.Core.Path.{◌≡◌, refl, sym, ap, ◌∙◌}
use Prim.Native.Nat.{ℕ, zero, suc, ◌+◌, ◌-◌, ◌≤◌, ◌<◌}
use native.Mathlib.Nat.{zero-add, suc-add, add-suc}
use native.Mathlib.Numerals.{add-one}
use native.Mathlib.Omega.{arith}
use mathlib.Core.Bool.{Bool, true, false, ◌&&◌}
use mathlib.Core.List.{List, ◌++◌}
use lib.ListN.{length, get_or, set, drop, replicate, length-set, length-append, length-drop, length-replicate, get_or-replicate, get_or-append, get_or-eq_default}
use lib.Seq.{get_or-set_same, get_or-set_other, get_or-append-add, get_or-drop, ext_get_or}
use lib.Dec.{eqb, leb, ltb}
use borrow.Author.Tests.{eqb-true, eqb-false, leb-true, leb-false, ltb-true, le-leb, lt-ltb}
use Rattle.laws.proofs.Instructions.{tabulate}
use Rattle.tables.specs.Tables.{table_of, room, filled}

-- ## The entries of a table

pub tabulate_length : (f : ℕ → ℕ) (p n : ℕ) → length (tabulate f p n) ≡ n
tabulate_length f p zero = refl
tabulate_length f p (suc n) = ap suc (tabulate_length f (suc p) n)

pub tabulate_at : (f : ℕ → ℕ) (p n k : ℕ) → k < n → get_or (tabulate f p n) k 0 ≡ f (k + p)
tabulate_at f p zero k h = absurd (omega arith)
tabulate_at f p (suc n) zero h = rw zero-add
tabulate_at f p (suc n) (suc k) h = rw (suc-add k p, ← add-suc k p) (tabulate_at f (suc p) n k (omega arith))

module _ (f : ℕ → ℕ) (n : ℕ) where
  table_length : length (table_of f n) ≡ suc n
  unfolding table_of
  table_length = ap suc (tabulate_length f 1 n)

  table_at : (k : ℕ) → 1 ≤ k → k ≤ n → get_or (table_of f n) k 0 ≡ f k
  unfolding table_of
  table_at zero l h = absurd (omega arith)
  table_at (suc k) l h = tabulate_at f 1 n k h ∙ ap f (add-one k)

  module _ (t : List ℕ) where
    whole : List ℕ
    whole = table_of f n ++ drop (suc n) t

    whole_zero : get_or whole 0 0 ≡ 0
    unfolding whole table_of
    whole_zero = refl

    whole_at : (k : ℕ) → 1 ≤ k → k ≤ n → get_or whole k 0 ≡ f k
    unfolding whole
    whole_at k l h = get_or-append (table_of f n) (drop (suc n) t) 0 k (omega (arith, table_length)) ∙ table_at k l h

    whole_beyond : (k : ℕ) → n < k → get_or whole k 0 ≡ get_or t k 0
    unfolding whole
    whole_beyond k h =
        let e : k ≡ length (table_of f n) + (k - suc n) = omega (arith, table_length) in
        let g : suc n + (k - suc n) ≡ k = omega arith in
        ap (λ (j : ℕ). get_or (table_of f n ++ drop (suc n) t) j 0) e
        ∙ get_or-append-add (table_of f n) (drop (suc n) t) (k - suc n) 0
        ∙ get_or-drop (suc n) t (k - suc n) 0
        ∙ ap (λ (j : ℕ). get_or t j 0) g

    whole_length : n < length t → length whole ≡ length t
    unfolding whole
    whole_length h = length-append (table_of f n) (drop (suc n) t) ∙ omega (arith, table_length, length-drop (suc n) t)

    is_filled : n ≤ 4096 → n < length t → filled f n t ≡ whole
    unfolding filled room whole
    is_filled l h = rw (le-leb n 4096 l, lt-ltb n (length t) h)

roomy : (n : ℕ) (t : List ℕ) {r : Bool} → r ≡ room n t → r ≡ true → (n ≤ 4096) × (n < length t)
unfolding room
roomy n t e q = by (leb n 4096) (ltb n (length t)) refl refl (sym e ∙ q)
  where
    by : (a b : Bool) → leb n 4096 ≡ a → ltb n (length t) ≡ b → a && b ≡ true → (n ≤ 4096) × (n < length t)
    by true true f g z = (leb-true n 4096 f, ltb-true n (length t) g)
    by true false f g z = absurd cc
    by false b f g z = absurd cc

-- ## Filling it

pub record Entries (f : ℕ → ℕ) (lo hi n : ℕ) (t₀ t : List ℕ) : Type 0 where
  pub short : n ≤ 4096
  pub within : n < length t₀
  pub long : length t ≡ length t₀
  pub none : get_or t 0 0 ≡ 0
  pub some : (k : ℕ) → lo < k → k ≤ hi → get_or t k 0 ≡ f k
  pub rest : (k : ℕ) → n < k → get_or t k 0 ≡ get_or t₀ k 0

module _ (f : ℕ → ℕ) where
  -- A table begins with its entry 0.
  pub begun : (i n : ℕ) (t : List ℕ) {r : Bool} → r ≡ room n t → r ≡ true → Entries f i i n (set t 0 0) (set t 0 0)
  begun i n t e q = let l = roomy n t e q in record { short = l.0; within = omega (arith, l.1, length-set t 0 0); long = refl; none = get_or-set_same t 0 0 0 (omega (arith, l.1)); some = λ k a b. absurd (omega arith); rest = λ k h. refl }

  -- Entry i is written; what is then there is that one and what was there before.
  pub entered : {lo hi n : ℕ} (lo' hi' : ℕ) {t₀ t : List ℕ} (i v : ℕ) → 1 ≤ i → i ≤ n → v ≡ f i
      → ((k : ℕ) → lo' < k → k ≤ hi' → ¬ (k ≡ i) → (lo < k) × (k ≤ hi)) → Entries f lo hi n t₀ t → Entries f lo' hi' n t₀ (set t i v)
  entered {lo} {hi} {n} lo' hi' {t₀} {t} i v l h e was u = record {
    short = u.short;
    within = u.within;
    long = length-set t i v ∙ u.long;
    none = get_or-set_other t i 0 v 0 (λ z. omega arith) ∙ u.none;
    some = λ k a b. by k a b (eqb k i) refl;
    rest = λ k a. get_or-set_other t i k v 0 (λ z. omega arith) ∙ u.rest k a;
  }
    where
      by : (k : ℕ) → lo' < k → k ≤ hi' → (b : Bool) → eqb k i ≡ b → get_or (set t i v) k 0 ≡ f k
      by k a b true q = let z = eqb-true k i q in rw z (get_or-set_same t i v 0 (omega (arith, u.long, u.within)) ∙ e)
      by k a b false q =
          let z = eqb-false k i q in
          let w = was k a b z in
          get_or-set_other t i k v 0 z ∙ u.some k w.0 w.1

  pub all_entered : {lo hi n : ℕ} (t₀ : List ℕ) {t : List ℕ} → lo ≡ 0 → n ≤ hi → Entries f lo hi n (set t₀ 0 0) t → t ≡ filled f n t₀
  all_entered {n = n} t₀ {t} a b u =
      let l : n ≤ 4096 = u.short in
      let h : n < length t₀ = omega (arith, u.within, length-set t₀ 0 0) in
      ext_get_or 0 t (whole f n t₀) (u.long ∙ length-set t₀ 0 0 ∙ sym (whole_length f n t₀ h)) (λ k c. by k (leb k n) refl) ∙ sym (is_filled f n t₀ l h)
    where
      by : (k : ℕ) (b : Bool) → leb k n ≡ b → get_or t k 0 ≡ get_or (whole f n t₀) k 0
      by zero b q = u.none ∙ sym (whole_zero f n t₀)
      by (suc k) true q = let g = leb-true (suc k) n q in u.some (suc k) (omega arith) (omega arith) ∙ sym (whole_at f n t₀ (suc k) (omega arith) g)
      by (suc k) false q = let g = leb-false (suc k) n q in u.rest (suc k) g ∙ get_or-set_other t₀ 0 (suc k) 0 0 (λ e. omega arith) ∙ sym (whole_beyond f n t₀ (suc k) g)

  -- From the left, the last entry.
  pub last_entered : (n i v : ℕ) (t₀ t : List ℕ) → Entries f 0 (i - 1) n (set t₀ 0 0) t → 1 ≤ i → i ≤ n → n ≤ i → v ≡ f i → set t i v ≡ filled f n t₀
  last_entered n i v t₀ t u l h m e = all_entered t₀ refl m (entered 0 i i v l h e (λ k a b z. (a, omega arith)) u)

  -- ## A table that was zero before

  module _ (n m : ℕ) (l : n ≤ 4096) (h : n < m) where
    abbrev zeros : List ℕ
    zeros = replicate m 0

    zeros_at : (k : ℕ) → get_or zeros k 0 ≡ 0
    zeros_at k = by (leb (suc k) m) refl
      where
        by : (b : Bool) → leb (suc k) m ≡ b → get_or zeros k 0 ≡ 0
        by true q = get_or-replicate m k 0 0 (leb-true (suc k) m q)
        by false q = get_or-eq_default zeros 0 {n = k} (omega (arith, leb-false (suc k) m q, length-replicate {A = ℕ} m 0))

    made : filled f n zeros ≡ whole f n zeros
    made = is_filled f n zeros l (omega (arith, length-replicate {A = ℕ} m 0))

    pub looked_zero : get_or (filled f n zeros) 0 0 ≡ 0
    looked_zero = rw made (whole_zero f n zeros)

    pub looked_in : (k : ℕ) → 1 ≤ k → k ≤ n → get_or (filled f n zeros) k 0 ≡ f k
    looked_in k a q = rw made (whole_at f n zeros k a q)

    -- Where f has nothing beyond the records either.
    pub looked : ((k : ℕ) → n < k → f k ≡ 0) → (k : ℕ) → 1 ≤ k → get_or (filled f n zeros) k 0 ≡ f k
    looked z k a = by (leb k n) refl
      where
        by : (b : Bool) → leb k n ≡ b → get_or (filled f n zeros) k 0 ≡ f k
        by true q = looked_in k a (leb-true k n q)
        by false q = let g = leb-false k n q in rw made (whole_beyond f n zeros k g ∙ zeros_at k ∙ sym (z k g))

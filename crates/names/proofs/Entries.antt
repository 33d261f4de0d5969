-- The entries of the list.
--     entry_get             a byte of an entry is one of the list
--     entry_of              an entry by its number
--     name_out, name_at_lem     the name of an entry, by its number
--     proper_out, proper-none, proper-some     whether an entry is a proper name
use mathlib.Core.Path.{◌≡◌, refl, sym, ap, ◌∙◌}
use mathlib.Core.Bool.{false, ◌&&◌}
use mathlib.Core.List.{List, [], ◌∷◌, ◌++◌}
use Prim.Native.Nat.{ℕ, zero, suc, ◌+◌, ◌*◌, ◌-◌, ◌/◌, ◌≤◌, ◌<◌}
use native.Mathlib.Omega.{arith}
use lib.ListN.{length, get_or, take, drop, replicate, length-drop}
use lib.Seq.{get_or-take, get_or-drop, drop-drop, length-take-le}
use lib.Dec.{eqb, leb}
use borrow.Author.Tests.{eq-eqb, ne_eqb, le-leb}
use Rattle.std.specs.List.{list_all}
use Rattle.std.proofs.lemmas.List.{drop-take}
use Rattle.text.specs.declared.Sort.TheVariants.{Named}
use Rattle.text.specs.Bytes.{byte_at, span}
use Rattle.text.specs.Names.{name_at, same, entries_of, entries, padded, name_of, proper}
use Rattle.text.proofs.Reach.{past_end}
use Rattle.runs.proofs.Runs.{run_off, span_off}
use Rattle.names.proofs.Same.{run_most, run_take, run-same}

module _ (l : List ℕ) (from : ℕ) (room : from + 16 ≤ length l) where
  pub entry_length : length (take 16 (drop from l)) ≡ 16
  entry_length = length-take-le 16 (drop from l) (omega (arith, length-drop from l))

  pub entry_get : (m : ℕ) → m < 16 → get_or (take 16 (drop from l)) m 0 ≡ byte_at l (from + m)
  entry_get m h = get_or-take 16 (drop from l) m 0 h ∙ get_or-drop from l m 0

  pub entry_name : name_at (take 16 (drop from l)) 0 ≡ name_at l from
  entry_name = run-same Named l (take 16 (drop from l)) 0 from 16 (λ m h. let z : 0 + m ≡ m = omega arith in rw z (entry_get m h))

-- a name padded is the same as what starts with it, if what follows there is zeros
zeros_behind : (n j : ℕ) (v : List ℕ) → length v ≡ n + j → same (take n v ++ replicate j 0) v ≡ list_all (λ b. eqb b 0) (drop n v)
unfolding same
zeros_behind zero zero [] h = refl
zeros_behind zero zero (b ∷ v) h = absurd (omega arith)
zeros_behind zero (suc j) [] h = absurd (omega arith)
zeros_behind zero (suc j) (zero ∷ v) h = zeros_behind zero j v (omega arith)
zeros_behind zero (suc j) (suc b ∷ v) h = rw (ne_eqb 0 (suc b) (omega arith), ne_eqb (suc b) 0 (omega arith))
zeros_behind (suc n) j [] h = absurd (omega arith)
zeros_behind (suc n) j (b ∷ v) h = rw (eq-eqb b b refl) (zeros_behind n j v (omega arith))

module _ (l : List ℕ) (from : ℕ) (room : from + 16 ≤ length l) (n : ℕ) (m : n ≡ span Named l from 16) where
  pub entry_zeros : same (padded 16 (name_at l from)) (take 16 (drop from l)) ≡ list_all (λ b. eqb b 0) (take (from + 16 - (from + n)) (drop (from + n) l))
  entry_zeros =
      let v = take 16 (drop from l) in
      let le : n ≤ 16 = omega (arith, m, run_most Named l from 16) in
      let u : name_at l from ≡ take n v = sym (entry_name l from room) ∙ run_take Named v 0 16 ∙ ap (λ j. take j v) (ap length (entry_name l from room) ∙ sym m) in
      let e : n + (16 - n) ≡ 16 = omega arith in
      let d : from + 16 - (from + n) ≡ 16 - n = omega arith in
      let w : drop n v ≡ take (from + 16 - (from + n)) (drop (from + n) l) =
      ap (λ j. drop n (take j (drop from l))) (sym e) ∙ drop-take n (16 - n) (drop from l) ∙ rw (d, drop-drop n from l) in
      ap (λ j. same (name_at l from ++ replicate (16 - j) 0) v) (sym m) ∙ ap (λ p. same (p ++ replicate (16 - n) 0) v) u
      ∙ zeros_behind n (16 - n) v (omega (arith, entry_length l from room))
      ∙ ap (list_all (λ b. eqb b 0)) w

pub entry_of : (n : ℕ) (l : List ℕ) (k : ℕ) → k < n → get_or (entries_of n l) k [] ≡ take 16 (drop (16 * k) l)
entry_of zero l k h = absurd (omega arith)
entry_of (suc n) l zero h = refl
entry_of (suc n) l (suc k) h =
    let d : 16 + 16 * k ≡ 16 * suc k = omega arith in
    entry_of n (drop 16 l) k (omega arith) ∙ ap (take 16) (drop-drop (16 * k) 16 l ∙ ap (λ j. drop j l) d)

entry_past : (n : ℕ) (l : List ℕ) (k : ℕ) → n ≤ k → get_or (entries_of n l) k [] ≡ []
entry_past zero l k h = refl
entry_past (suc n) l zero h = absurd (omega arith)
entry_past (suc n) l (suc k) h = entry_past n (drop 16 l) k (omega arith)

module _ (l : List ℕ) (e k : ℕ) (ek : k ≡ e - 1) where
  pub name_out : length l / 16 ≤ k → name_of (entries l) e ≡ []
  name_out h = rw (← ek, entry_past (length l / 16) l k h) (run_off Named [] 0 16 (past_end Named [] 0 (omega arith)))

  pub name_at_lem : k < length l / 16 → name_of (entries l) e ≡ name_at l (16 * k)
  name_at_lem h = rw (← ek, entry_of (length l / 16) l k h) (entry_name l (16 * k) (omega arith))

  pub proper_out : length l / 16 ≤ k → proper (entries l) e ≡ false
  unfolding proper
  proper_out h = rw (← ek, entry_past (length l / 16) l k h, span_off Named [] 0 16 (past_end Named [] 0 (omega arith)))

  module _ (h : k < length l / 16) where
    proper-at : proper (entries l) e ≡ (leb 1 (span Named l (16 * k) 16) && same (padded 16 (name_at l (16 * k))) (take 16 (drop (16 * k) l)))
    unfolding proper
    proper-at = rw (← ek, entry_of (length l / 16) l k h, entry_name l (16 * k) (omega arith))

    pub proper-none : span Named l (16 * k) 16 ≡ 0 → proper (entries l) e ≡ false
    proper-none z = proper-at ∙ rw z

    pub proper-some : (n : ℕ) → n ≡ span Named l (16 * k) 16 → (n ≡ 0 → ⊥)
        → proper (entries l) e ≡ list_all (λ b. eqb b 0) (take (16 * k + 16 - (16 * k + n)) (drop (16 * k + n) l))
    proper-some n m z = proper-at ∙ rw (le-leb 1 (span Named l (16 * k) 16) (omega (arith, z))) (entry_zeros l (16 * k) (omega arith) n m)

-- Partners to the right, in one pass from the last record to the first.
--     out     there is nothing behind the last record
--     reading     what holds of every search, by the role of the record that it reads
--     found     what is found is a record further on; an end, where separators do not count
--     settled     the end that is found, by what is found where separators count
--     deeper     a search one item deeper goes on behind the end that is found
--     entry_known, top-next     one record passed: what the table then has, and what is behind the record before it
use mathlib.Core.Path.{◌≡◌, refl, sym, ap, ◌∙◌}
use Prim.Native.Nat.{ℕ, zero, suc, ◌-◌, ◌≤◌, ◌<◌}
use native.Mathlib.Omega.{arith}
use mathlib.Core.Bool.{Bool, true, false, cond}
use mathlib.Core.List.{List}
use lib.ListN.{length, drop, get_or}
use Rattle.rules.specs.Record.{count}
use Rattle.rules.specs.Instruction.{Sort, Op, jump, ops}
use Rattle.rules.specs.Numbers.{at, given}
use Rattle.rules.specs.Partners.{Role, opens, parts, ends, other, stop_at, stop_from, end_of}
use Rattle.laws.proofs.Records.{at-get_or, ops-length}
use Rattle.laws.proofs.Partners.{stop_here, stop_out, role_of_kind, role_at}
use Rattle.records.specs.Reading.{rec_at}
use Rattle.partners.proofs.Roles.{role-at}
use Rattle.tables.specs.Passing.{parting, stop_of, end_by, entry_of, top_of}
use Rattle.tables.proofs.Filling.{Entries}

module _ (b : Sort) (L : List Op) where
  -- What is found behind record i, with d items opened since; w says whether separators count.
  abbrev pub from : Bool → ℕ → ℕ → ℕ
  from w d i = stop_from w b d (suc i) (drop i L)

  abbrev here : ℕ → Role
  here i = role_at b (at L i)

  turn : (w : Bool) (d i : ℕ) (r : Role) → i < length L → here (suc i) ≡ r → from w d i ≡ stop_at w r d (suc i) (λ e. from w e (suc i))
  unfolding role_at
  turn w d i r h q =
      stop_here L w b d i (jump 0) h
      ∙ ap (λ (x : Role). stop_at w x d (suc i) (λ e. from w e (suc i))) (sym (ap (role_at b) (at-get_or L i (jump 0) h)) ∙ q)

  pub out : (w : Bool) (d i : ℕ) → length L ≤ i → from w d i ≡ 0
  out w d i h = stop_out L w b d i h

  module _ (P : ℕ → ℕ → Type 0) (last : (d i : ℕ) → length L ≤ i → P d i)
      (step : (r : Role) (d i : ℕ) → i < length L → here (suc i) ≡ r → ((e : ℕ) → P e (suc i)) → P d i) where
    reading_on : (m d i : ℕ) → length L - i ≡ m → P d i
    reading_on zero d i h = last d i (omega arith)
    reading_on (suc m) d i h = step (here (suc i)) d i (omega arith) refl (λ e. reading_on m e (suc i) (omega arith))

    reading : (d i : ℕ) → P d i
    reading d i = reading_on (length L - i) d i refl

  -- ## What is found

  record Found (w : Bool) (d i : ℕ) : Type 0 where
    behind : (k : ℕ) → from w d i ≡ suc k → (i ≤ k) × (k < length L)
    ending : (k : ℕ) → w ≡ false → from w d i ≡ suc k → parting (here (suc k)) ≡ false

  -- The search goes on behind record i + 1, or stops there.
  on : {w : Bool} {d i : ℕ} (e : ℕ) → from w d i ≡ from w e (suc i) → Found w e (suc i) → Found w d i
  on e t f = record { behind = λ k q. let g = f.behind k (sym t ∙ q) in (omega (arith, g.0), g.1); ending = λ k z q. f.ending k z (sym t ∙ q) }

  it : {w : Bool} {d i : ℕ} → i < length L → from w d i ≡ suc i → (w ≡ false → parting (here (suc i)) ≡ false) → Found w d i
  it h t p = record { behind = λ k q. (omega (arith, t), omega (arith, t)); ending = λ k z q. ap (λ (j : ℕ). parting (here j)) (sym q ∙ t) ∙ p z }

  found_none : (w : Bool) (d i : ℕ) → length L ≤ i → Found w d i
  found_none w d i h = record { behind = λ k e. absurd (omega (arith, out w d i h)); ending = λ k z e. absurd (omega (arith, out w d i h)) }

  found-step : (w : Bool) (r : Role) (d i : ℕ) → i < length L → here (suc i) ≡ r → ((e : ℕ) → Found w e (suc i)) → Found w d i
  unfolding stop_at parting
  found-step w opens d i h q f = on (suc d) (turn w d i opens h q) (f (suc d))
  found-step false parts d i h q f = on d (turn false d i parts h q) (f d)
  found-step true parts zero i h q f = it h (turn true zero i parts h q) (λ z. absurd cc)
  found-step true parts (suc d) i h q f = on (suc d) (turn true (suc d) i parts h q) (f (suc d))
  found-step w ends zero i h q f = it h (turn w zero i ends h q) (λ z. rw q)
  found-step w ends (suc d) i h q f = on d (turn w (suc d) i ends h q) (f d)
  found-step w other d i h q f = on d (turn w d i other h q) (f d)

  found : (w : Bool) (d i : ℕ) → Found w d i
  found w = reading (Found w) (found_none w) (found-step w)

  -- ## The end of the item, and what is behind it

  -- k itself, or the end behind k where it is a separator.
  unfoldable pub settle : ℕ → ℕ
  settle k = cond (parting (here k)) (from false 0 k) k

  pub settled : (d i : ℕ) → from false d i ≡ settle (from true d i)
  unfolding settle stop_at parting role_at at
  settled = reading (λ d i. from false d i ≡ settle (from true d i)) none step
    where
      none : (d i : ℕ) → length L ≤ i → from false d i ≡ settle (from true d i)
      none d i h = out false d i h ∙ ap settle (sym (out true d i h))

      step : (r : Role) (d i : ℕ) → i < length L → here (suc i) ≡ r → ((e : ℕ) → from false e (suc i) ≡ settle (from true e (suc i))) → from false d i ≡ settle (from true d i)
      step opens d i h q f = turn false d i opens h q ∙ f (suc d) ∙ ap settle (sym (turn true d i opens h q))
      step parts zero i h q f = turn false zero i parts h q ∙ sym (ap settle (turn true zero i parts h q) ∙ rw q)
      step parts (suc d) i h q f = turn false (suc d) i parts h q ∙ f (suc d) ∙ ap settle (sym (turn true (suc d) i parts h q))
      step ends zero i h q f = turn false zero i ends h q ∙ sym (ap settle (turn true zero i ends h q) ∙ rw q)
      step ends (suc d) i h q f = turn false (suc d) i ends h q ∙ f d ∙ ap settle (sym (turn true (suc d) i ends h q))
      step other d i h q f = turn false d i other h q ∙ f d ∙ ap settle (sym (turn true d i other h q))

  unfoldable beyond : ℕ → ℕ
  beyond k = given k (from true 0 k)

  deeper : (d i : ℕ) → from true (suc d) i ≡ beyond (from false d i)
  unfolding beyond given stop_at
  deeper = reading (λ d i. from true (suc d) i ≡ beyond (from false d i)) none step
    where
      none : (d i : ℕ) → length L ≤ i → from true (suc d) i ≡ beyond (from false d i)
      none d i h = out true (suc d) i h ∙ ap beyond (sym (out false d i h))

      step : (r : Role) (d i : ℕ) → i < length L → here (suc i) ≡ r → ((e : ℕ) → from true (suc e) (suc i) ≡ beyond (from false e (suc i))) → from true (suc d) i ≡ beyond (from false d i)
      step opens d i h q f = turn true (suc d) i opens h q ∙ f (suc d) ∙ ap beyond (sym (turn false d i opens h q))
      step parts d i h q f = turn true (suc d) i parts h q ∙ f d ∙ ap beyond (sym (turn false d i parts h q))
      step ends zero i h q f = turn true 1 i ends h q ∙ ap beyond (sym (turn false zero i ends h q))
      step ends (suc d) i h q f = turn true (suc (suc d)) i ends h q ∙ f d ∙ ap beyond (sym (turn false (suc d) i ends h q))
      step other d i h q f = turn true (suc d) i other h q ∙ f d ∙ ap beyond (sym (turn false d i other h q))

-- ## Those behind i are in the table, and `top` is where the arm behind i ends

same_choice : (p : Bool) (x y z : ℕ) → cond p (cond p x y) z ≡ cond p x z
same_choice true x y z = refl
same_choice false x y z = refl

module _ (b : Sort) (s : List ℕ) {i top : ℕ} {t₀ t : List ℕ} (e : top ≡ from b (ops s) true 0 i) (u : Entries (stop_of b (ops s)) i (count s) (count s) t₀ t) where
  -- What the table has for a record that is found.
  entry : (w : Bool) (k : ℕ) → from b (ops s) w 0 i ≡ suc k → get_or t (suc k) 0 ≡ stop_of b (ops s) (suc k)
  entry w k q = let g = (found b (ops s) w 0 i).behind k q in u.some (suc k) (omega (arith, g.0)) (omega (arith, g.1, ops-length s))

  end_known : end_by b s t top ≡ from b (ops s) false 0 i
  unfolding end_by settle parting role_at at stop_of end_of
  end_known = rw (← role-at b s top) (by top (sym e)) ∙ ap (settle b (ops s)) e ∙ sym (settled b (ops s) 0 i)
    where
      by : (k : ℕ) → from b (ops s) true 0 i ≡ k → cond (parting (here b (ops s) k)) (get_or t k 0) k ≡ settle b (ops s) k
      by zero q = refl
      by (suc k) q = rw (entry true k q) (same_choice (parting (here b (ops s) (suc k))) _ _ (suc k))

  pub entry_known : entry_of (role_of_kind b (rec_at s i).kind) top (end_by b s t top) ≡ stop_of b (ops s) i
  unfolding entry_of stop_of end_of
  entry_known = rw (← role-at b s i, end_known, e)

  out_known : get_or t (end_by b s t top) 0 ≡ from b (ops s) true 1 i
  unfolding beyond given stop_of
  out_known = rw end_known (by (from b (ops s) false 0 i) refl) ∙ sym (deeper b (ops s) 0 i)
    where
      by : (k : ℕ) → from b (ops s) false 0 i ≡ k → get_or t k 0 ≡ beyond b (ops s) k
      by zero q = u.none
      by (suc k) q = entry false k q ∙ rw ((found b (ops s) false 0 i).ending k refl q)

  pub top-next : 1 ≤ i → i ≤ count s → top_of (role_of_kind b (rec_at s i).kind) i top (get_or t (end_by b s t top) 0) ≡ from b (ops s) true 0 (i - 1)
  unfolding top_of stop_at
  top-next l h = rw (out_known, ← role-at b s i) (by i e refl l h)
    where
      turned : (r : Role) (j k out : ℕ) → k ≡ from b (ops s) true 0 (suc j) → out ≡ from b (ops s) true 1 (suc j)
          → top_of r (suc j) k out ≡ stop_at true r 0 (suc j) (λ e. from b (ops s) true e (suc j))
      turned opens j k out f g = g
      turned parts j k out f g = refl
      turned ends j k out f g = refl
      turned other j k out f g = f

      by : (j : ℕ) → top ≡ from b (ops s) true 0 j → i ≡ j → 1 ≤ j → j ≤ count s → top_of (here b (ops s) j) j top (from b (ops s) true 1 i) ≡ from b (ops s) true 0 (j - 1)
      by zero f q l h = absurd (omega arith)
      by (suc j) f q l h =
          let z : suc j - 1 ≡ j = omega arith in
          rw (z, q) (turned (here b (ops s) (suc j)) j top _ f refl ∙ sym (turn b (ops s) true 0 j (here b (ops s) (suc j)) (omega (arith, ops-length s)) refl))

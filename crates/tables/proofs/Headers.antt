-- Headers, in one pass from the first record to the last.
--     further     a search to the left that is one item deeper goes on before the header that is found
--     head_next     one record passed: what is open behind it, by what is open before it
--     end-header     the header of a loop's end is the one that is open before it
use mathlib.Core.Path.{◌≡◌, refl, sym, ap, ◌∙◌}
use Prim.Native.Nat.{ℕ, zero, suc, ◌+◌, ◌-◌, ◌≤◌, ◌<◌}
use native.Mathlib.Omega.{arith}
use mathlib.Core.List.{List}
use lib.ListN.{length, get_or, set}
use Rattle.rules.specs.Record.{count}
use Rattle.rules.specs.Instruction.{Sort, Op, jump, ops}
use Rattle.rules.specs.Numbers.{at, given}
use Rattle.rules.specs.Partners.{Role, opens, parts, ends, other, header_of}
use Rattle.laws.proofs.Records.{at-get_or, ops-length}
use Rattle.laws.proofs.Partners.{role_of_kind, role_at, back_at, back, header_back}
use Rattle.records.specs.Reading.{rec_at}
use Rattle.partners.proofs.Roles.{role-at}
use Rattle.tables.specs.Passing.{open_at, head_of}
use Rattle.tables.proofs.Filling.{Entries, entered}

module _ (b : Sort) (L : List Op) where
  outer : ℕ → ℕ
  outer k = given k (back b L (k - 1) 0)

  further : (k d : ℕ) → back b L k (suc d) ≡ outer (back b L k d)
  unfolding back back_at outer given
  further zero d = refl
  further (suc k) d = by (role_at b (at L (suc k))) d (further k)
    where
      by : (r : Role) (d : ℕ) → ((e : ℕ) → back b L k (suc e) ≡ outer (back b L k e))
          → back_at r (suc d) (suc k) (λ e. back b L k e) ≡ outer (back_at r d (suc k) (λ e. back b L k e))
      by opens zero on = let z : k ≡ suc k - 1 = omega arith in ap (λ (j : ℕ). back b L j 0) z
      by opens (suc d) on = on d
      by parts d on = on d
      by ends d on = on (suc d)
      by other d on = on d

  -- What is found stands before.
  back_in : (k d : ℕ) → back b L k d ≤ k
  unfolding back back_at
  back_in zero d = omega arith
  back_in (suc k) d = by (role_at b (at L (suc k))) d (back_in k)
    where
      by : (r : Role) (d : ℕ) → ((e : ℕ) → back b L k e ≤ k) → back_at r d (suc k) (λ e. back b L k e) ≤ suc k
      by opens zero on = omega arith
      by opens (suc d) on = omega (arith, on d)
      by parts d on = omega (arith, on d)
      by ends d on = omega (arith, on (suc d))
      by other d on = omega (arith, on d)

module _ (b : Sort) (s : List ℕ) (i : ℕ) {top : ℕ} {t₀ t : List ℕ} (e : top ≡ back b (ops s) i 0) (u : Entries (open_at b (ops s)) 0 (suc i) (count s) t₀ t) where
  out_known : get_or t top 0 ≡ back b (ops s) i 1
  unfolding outer given open_at
  out_known = by top e ∙ ap (outer b (ops s)) e ∙ sym (further b (ops s) i 0)
    where
      by : (k : ℕ) → k ≡ back b (ops s) i 0 → get_or t k 0 ≡ outer b (ops s) k
      by zero q = u.none
      by (suc k) q = u.some (suc k) (omega arith) (omega (arith, q, back_in b (ops s) i 0))

  head_from : head_of (role_of_kind b (rec_at s (suc i)).kind) (suc i) top (get_or t top 0) ≡ back b (ops s) (suc i) 0
  unfolding head_of back back_at
  head_from = rw (out_known, ← role-at b s (suc i)) (by (role_at b (at (ops s) (suc i))))
    where
      by : (r : Role) → head_of r (suc i) top (back b (ops s) i 1) ≡ back_at r 0 (suc i) (λ d. back b (ops s) i d)
      by opens = refl
      by parts = e
      by ends = refl
      by other = e

module _ (b : Sort) (s : List ℕ) {t₀ t : List ℕ} where
  pub head_next : (i top : ℕ) → 1 ≤ i → i ≤ count s → top ≡ open_at b (ops s) i → Entries (open_at b (ops s)) 0 (i - 1) (count s) t₀ t
      → head_of (role_of_kind b (rec_at s i).kind) i top (get_or (set t i top) top 0) ≡ open_at b (ops s) (i + 1)
  unfolding open_at
  head_next zero top l m e u = absurd (omega arith)
  head_next (suc k) top l m e u =
      let z : suc k - 1 ≡ k = omega arith in
      let w : suc k ≡ suc k + 1 - 1 = omega arith in
      head_from b s k (e ∙ ap (λ (j : ℕ). back b (ops s) j 0) z) (entered _ 0 (suc k) (suc k) top l m e (λ j a c y. (a, omega arith)) u) ∙ ap (λ (j : ℕ). back b (ops s) j 0) w

pub end-header : (b : Sort) (s : List ℕ) (i : ℕ) → 1 ≤ i → i ≤ count s → role_of_kind b (rec_at s i).kind ≡ ends → open_at b (ops s) i ≡ header_of b (ops s) i
unfolding open_at role_at
end-header b s zero l h r = absurd (omega arith)
end-header b s (suc k) l h r =
    let z : suc k - 1 ≡ k = omega arith in
    let m : k < length (ops s) = omega (arith, ops-length s) in
    ap (λ (j : ℕ). back b (ops s) j 0) z
    ∙ sym (header_back (ops s) k (jump 0) m b (sym (ap (role_at b) (at-get_or (ops s) k (jump 0) m)) ∙ role-at b s (suc k) ∙ r))

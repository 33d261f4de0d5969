-- What the tables have for a record, by the definitions.
--     stops-made, headers_made     the tables that were zero before they were filled
--     past-none, past-some     the number after a partner's
--     arm_found, end-found, loop_found, header-found     a conditional header, a separator, a loop's header, a loop's end, by its kind
use mathlib.Core.Path.{◌≡◌, refl, sym, ◌∙◌}
use Prim.Native.Nat.{ℕ, zero, suc, ◌+◌, ◌≤◌, ◌<◌}
use mathlib.Core.Bool.{Bool, true, false, cond}
use Rattle.std.specs.Prelude.{Option, None, Some}
use mathlib.Core.List.{List}
use lib.ListN.{get_or, replicate}
use native.Mathlib.Omega.{arith}
use lib.Dec.{eqb}
use borrow.Author.Tests.{eqb-false}
use Rattle.rules.specs.Record.{count}
use Rattle.rules.specs.Instruction.{Sort, conditional, loop, Op, ops}
use Rattle.rules.specs.Numbers.{at, given, past}
use Rattle.rules.specs.Nesting.{Bracket, opener, middle, closer, alone, bracket}
use Rattle.rules.specs.Partners.{role_of, role, end_of, arm_of, header_of}
use Rattle.laws.proofs.Partners.{role_of_kind, role_at}
use Rattle.records.specs.Reading.{rec_at}
use Rattle.partners.proofs.Roles.{role-at}
use Rattle.tables.specs.Tables.{filled}
use Rattle.tables.specs.Passing.{parting, stop_of, open_at, Stopping, Opening}
use Rattle.tables.proofs.Filling.{looked_in}
use Rattle.tables.proofs.Stops.{from, settle, settled}
use Rattle.tables.proofs.Headers.{end-header}

pub past-none : (k : ℕ) → k ≡ 0 → past k ≡ 0
unfolding past given
past-none k e = rw e

pub past-some : (k : ℕ) → ¬ (k ≡ 0) → past k ≡ k + 1
unfolding past given
past-some zero h = absurd (h refl)
past-some (suc k) h = omega arith

-- A loop has no separators, so that its end is where its arm ends.
no_parts : (o : Option Op) → parting (role_at loop o) ≡ false
unfolding parting role_at role role_of
no_parts None = refl
no_parts (Some o) = by (bracket o)
  where
    by : (x : Bracket) → parting (role_of loop x) ≡ false
    by (opener conditional) = refl
    by (opener loop) = refl
    by middle = refl
    by (closer conditional) = refl
    by (closer loop) = refl
    by alone = refl

loop_stop : (L : List Op) (i : ℕ) → stop_of loop L i ≡ end_of loop L i
unfolding stop_of end_of settle
loop_stop L i = rw (no_parts (at L i)) (sym (settled loop L 0 i ∙ rw (no_parts (at L (from loop L true 0 i)))))

module _ (s : List ℕ) {t : List ℕ} where
  module _ (m : ℕ) (f : count s ≤ 4096) (r : count s < m) where
    pub stops-made : (b : Sort) → t ≡ filled (stop_of b (ops s)) (count s) (replicate m 0) → Stopping b s t
    stops-made b e = record { stops = λ k l h. rw e (looked_in _ (count s) m f r k l h) }

    pub headers_made : t ≡ filled (open_at loop (ops s)) (count s) (replicate m 0) → Opening s t
    headers_made e = record { opened = λ k l h. rw e (looked_in _ (count s) m f r k l h) }

  module _ (i : ℕ) (l : 1 ≤ i) (h : i ≤ count s) where
    pub loop_found : Stopping loop s t → get_or t i 0 ≡ end_of loop (ops s) i
    loop_found u = u.stops i l h ∙ loop_stop (ops s) i

    module _ {kind : ℕ} (e : kind ≡ (rec_at s i).kind) where
      chosen : Stopping conditional s t → {p : Bool} → parting (role_of_kind conditional kind) ≡ p → get_or t i 0 ≡ cond p (end_of conditional (ops s) i) (arm_of (ops s) i)
      unfolding stop_of arm_of
      chosen u q = u.stops i l h ∙ rw (role-at conditional s i, ← e, q)

      pub arm_found : Stopping conditional s t → 8 ≤ kind → kind ≤ 9 → get_or t i 0 ≡ arm_of (ops s) i
      unfolding parting role_of_kind
      arm_found u a b = chosen u {p = false} (by (eqb kind 8) refl)
        where
          by : (p : Bool) → eqb kind 8 ≡ p → parting (role_of_kind conditional kind) ≡ false
          by true q = rw q
          by false q = let z : kind ≡ 9 = omega (arith, eqb-false kind 8 q) in rw z

      pub end-found : Stopping conditional s t → kind ≡ 10 → get_or t i 0 ≡ end_of conditional (ops s) i
      unfolding parting role_of_kind
      end-found u q = chosen u {p = true} (rw q)

      pub header-found : Opening s t → kind ≡ 14 → get_or t i 0 ≡ header_of loop (ops s) i
      unfolding role_of_kind
      header-found u q = u.opened i l h ∙ end-header loop s i l h (rw (← e, q))

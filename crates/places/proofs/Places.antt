-- Second level as the code counts it: record by record, by the record's kind.
--     op-get_or     the instructions of a file, by their numbers
--     there     a record whose kind is not 0 is one of the file's
--     chain_length, group-length     how long a group is
--     seconds_most, seconds_on, leads_in     what stands before a group, and so where a jump leads
--     leads_zero, leads_out     a number that names no record leads nowhere
--     places-made, kept_led     a table of where jumps lead, and a record that stays by it
--     Counted, counted_none, counted_one, counted_all     the loop that fills it: at the start, a turn, at the end
use mathlib.Core.Path.{◌≡◌, refl, sym, ap, ◌∙◌}
use Prim.Native.Nat.{ℕ, zero, suc, ◌+◌, ◌-◌, ◌*◌, ◌≤◌, ◌<◌}
use native.Mathlib.Numerals.{add-one}
use native.Mathlib.Omega.{arith}
use mathlib.Core.Bool.{Bool, true, false, cond}
use mathlib.Core.List.{List, [], ◌∷◌, map}
use lib.ListN.{length, get_or, set, replicate, length-append, length-map, get_or-map}
use lib.Dec.{eqb, leb}
use borrow.Author.Tests.{leb-true, leb-false, ne_eqb, le-leb}
use Rattle.rules.specs.Record.{Rec, rec, count, records}
use Rattle.rules.specs.Numbers.{names}
use Rattle.rules.specs.Instruction.{conditional, Op, jump, end, written, decode, ops}
use Rattle.rules.specs.SecondLevel.{Group, members, seconds, renumber, sent}
use Rattle.rules.specs.Labels.{unlabel}
use Rattle.rules.specs.Calls.{chain, uncall}
use Rattle.rules.specs.Loops.{unloop}
use Rattle.rules.specs.Conditionals.{uncond}
use Rattle.laws.proofs.Records.{ops-length}
use Rattle.laws.proofs.Instructions.{tabulate}
use Rattle.laws.proofs.SecondLevel.{groups, each-length, groups_next, lowered, seconds_groups, renumber_zero, renumber_out}
use Rattle.records.specs.Reading.{rec_at}
use Rattle.records.proofs.Reading.{rec_zero, rec-none}
use Rattle.records.proofs.Writing.{rec-get_or}
use Rattle.tables.specs.Tables.{room, filled}
use Rattle.tables.proofs.Filling.{Entries, begun, entered, last_entered, all_entered, looked_zero, looked}
use Rattle.places.specs.declared.Stage.{Stage}
use Rattle.places.specs.declared.Stage.TheVariants.{Labels, Calls, Loops, Conditionals}
use Rattle.places.specs.Stages.{becomes, expanded, seconds_of, within, leads, kept, kept_by, Leading}
use Rattle.places.proofs.Forms.{forms, by_kind}

pub op-get_or : (s : List ℕ) (k : ℕ) → k < count s → (z : Rec) → get_or (ops s) k (decode z) ≡ decode (rec_at s (suc k))
unfolding ops
op-get_or s k h z = get_or-map decode (records s) k z ∙ ap decode (rec-get_or s k h z)

pub there : (s : List ℕ) (i : ℕ) {r : Rec} → r ≡ rec_at s i → ¬ (r.kind ≡ 0) → (1 ≤ i) × (i ≤ count s)
there s i {r} e z = by i e z (leb i (count s)) refl
  where
    by : (i : ℕ) → r ≡ rec_at s i → ¬ (r.kind ≡ 0) → (b : Bool) → leb i (count s) ≡ b → (1 ≤ i) × (i ≤ count s)
    by zero e z b q = absurd (z (ap (λ (r : Rec). r.kind) (e ∙ rec_zero s 0 refl)))
    by (suc k) e z true q = (omega arith, leb-true (suc k) (count s) q)
    by (suc k) e z false q = absurd (z (ap (λ (r : Rec). r.kind) (e ∙ rec-none s (suc k) (leb-false (suc k) (count s) q))))

-- ## How long a group is

pub chain_length : (j : ℕ) → length (members (chain j)) ≡ suc (5 * j)
unfolding chain members
chain_length zero = refl
chain_length (suc j) = omega (arith, chain_length j, length-append (members (chain j)) (end conditional ∷ []))

-- By the record's kind: the lengths of the groups of all sixteen forms, and of what no other kind stands for.
pub group-length : (stage : Stage) (L : List Op) (i : ℕ) (r : Rec) → length (members (becomes stage L i (decode r))) ≡ suc (seconds_of stage (length L) r.kind)
unfolding becomes members seconds_of unlabel uncall unloop uncond written
group-length stage L i r = by_kind (λ o. length (members (becomes stage L i o))) (λ k. suc (seconds_of stage (length L) k)) r (rows stage) (beyond stage)
  where
    rows : (stage : Stage) → map (λ o. length (members (becomes stage L i o))) (forms r) ≡ tabulate (λ k. suc (seconds_of stage (length L) k)) 0 17
    rows Labels = refl
    rows Calls = rw (chain_length (length L))
    rows Loops = refl
    rows Conditionals = refl

    beyond : (stage : Stage) (k : ℕ) → 17 ≤ k → suc (seconds_of stage (length L) k) ≡ length (members (becomes stage L i (jump 0)))
    beyond Labels k h = refl
    beyond Calls k h = rw (ne_eqb k 15 (λ e. omega arith), ne_eqb k 16 (λ e. omega arith))
    beyond Loops k h = rw (ne_eqb k 12 (λ e. omega arith), ne_eqb k 13 (λ e. omega arith))
    beyond Conditionals k h = rw (ne_eqb k 8 (λ e. omega arith), ne_eqb k 9 (λ e. omega arith))

-- ## What stands before a group

one : {n : ℕ} (a b : Bool) → cond a 1 (cond b 1 0) ≤ suc n
one true b = omega arith
one false true = omega arith
one false false = omega arith

pub seconds_most : (stage : Stage) (n kind : ℕ) → seconds_of stage n kind ≤ suc (5 * n)
unfolding seconds_of
seconds_most Labels n kind = omega arith
seconds_most Calls n kind = by (eqb kind 15) (eqb kind 16)
  where
    by : (a b : Bool) → cond a 1 (cond b (5 * n) 0) ≤ suc (5 * n)
    by true b = omega arith
    by false true = omega arith
    by false false = omega arith
seconds_most Loops n kind = one (eqb kind 12) (eqb kind 13)
seconds_most Conditionals n kind = one (eqb kind 8) (eqb kind 9)

module _ (stage : Stage) (s : List ℕ) where
  abbrev E : List Group
  E = expanded stage (ops s)

  abbrev low : ℕ → List Op
  low = lowered (becomes stage (ops s)) (λ k. k) (ops s) (decode (rec 0 0 0))

  before : (k : ℕ) → k ≤ count s → k + seconds k E ≡ length (groups low k)
  unfolding expanded
  before k h = seconds_groups (becomes stage (ops s)) (λ k. k) (ops s) (decode (rec 0 0 0)) k (omega (arith, ops-length s))

  low-length : (k : ℕ) → k < count s → length (low (suc k)) ≡ suc (seconds_of stage (count s) (rec_at s (suc k)).kind)
  low-length k h =
      length-map (members (becomes stage (ops s) (suc k) (get_or (ops s) k (decode (rec 0 0 0))))) (sent (λ k. k))
      ∙ rw (op-get_or s k h (rec 0 0 0), ← ops-length s) (group-length stage (ops s) (suc k) (rec_at s (suc k)))

  -- As the code goes on from k, having read a kind and counted q for it.
  pub seconds_on : (k : ℕ) → k < count s → {l q kind : ℕ} → l ≡ seconds k E → kind ≡ (rec_at s (k + 1)).kind → q ≡ seconds_of stage (count s) kind
      → l + q ≡ seconds (k + 1) E
  seconds_on k h e f g =
      rw (e, g, f, add-one k) (omega (arith, before k (omega arith), before (suc k) h, groups_next low k, low-length k h))

  -- ## Where a jump leads

  pub leads_in : (k : ℕ) → k < count s → {l : ℕ} → l ≡ seconds k E → within (k + 1 + l) ≡ leads stage s (k + 1)
  unfolding leads expanded renumber names
  leads_in k h e = rw (e, add-one k, each-length (becomes stage (ops s)) 1 (ops s), ops-length s, le-leb (suc k) (count s) h)

  pub leads_zero : leads stage s 0 ≡ 0
  unfolding leads within
  leads_zero = rw (renumber_zero E)

  pub leads_out : (k : ℕ) → count s < k → leads stage s k ≡ 0
  unfolding leads within expanded
  leads_out k h = rw (renumber_out (becomes stage (ops s)) (ops s) k (omega (arith, ops-length s)))

  -- The table that was zero before it was filled.
  pub places-made : {t : List ℕ} (m : ℕ) → count s ≤ 4096 → count s < m → t ≡ filled (leads stage s) (count s) (replicate m 0) → Leading stage s t
  places-made {t} m f r e = record { led = by }
    where
      by : (k : ℕ) → get_or t k 0 ≡ leads stage s k
      by zero = rw e (looked_zero _ (count s) m f r) ∙ sym leads_zero
      by (suc k) = rw e (looked _ (count s) m f r leads_out (suc k) (omega arith))

  pub kept_led : {t : List ℕ} → Leading stage s t → (r : Rec) → kept stage s r ≡ kept_by t r
  unfolding kept kept_by
  kept_led u r = rw (u.led r.x)

-- ## The table, record by record

-- The table t is made from t₀. Before record i is reached it has where the records before it lead, which bring l of second level.
pub record Counted (stage : Stage) (s t₀ : List ℕ) (i l : ℕ) (t : List ℕ) : Type 0 where
  pub counted : l ≡ seconds (i - 1) (expanded stage (ops s))
  pub small : l ≤ 20481 * (i - 1)
  pub entries : Entries (leads stage s) 0 (i - 1) (count s) (set t₀ 0 0) t

module _ (stage : Stage) (s t₀ : List ℕ) where
  pub counted_none : {r : Bool} → r ≡ room (count s) t₀ → r ≡ true → Counted stage s t₀ 1 0 (set t₀ 0 0)
  unfolding seconds
  counted_none e q = record { counted = refl; small = omega arith; entries = begun _ 0 _ t₀ e q }

  module _ {i l : ℕ} (a : 1 ≤ i) (b : i ≤ count s) {t : List ℕ} (u : Counted stage s t₀ i l t) where
    leads_here : {v : ℕ} → v ≡ within (i + l) → v ≡ leads stage s i
    leads_here g = let this : i ≡ (i - 1) + 1 = omega arith in g ∙ rw this (leads_in stage s (i - 1) (omega arith) u.counted)

    module _ {q kind : ℕ} (k : kind ≡ (rec_at s i).kind) (e : q ≡ seconds_of stage (count s) kind) where
      pub counted_sum : l + q ≤ 20481 * i
      counted_sum = omega (arith, seconds_most stage (count s) kind, u.entries.short, u.small)

      pub counted_one : {v : ℕ} → v ≡ within (i + l) → Counted stage s t₀ (i + 1) (l + q) (set t i v)
      counted_one {v} g =
          let this : i ≡ (i - 1) + 1 = omega arith in
          let next : i + 1 - 1 ≡ i = omega arith in
          record {
            counted = rw (next, this) (seconds_on stage s (i - 1) (omega arith) u.counted (rw this at k) e);
            small = rw next counted_sum;
            entries = rw next (entered _ 0 i i v a b (leads_here g) (λ k a b z. (a, omega arith)) u.entries);
          }

    pub counted_last : {v : ℕ} → count s ≤ i → v ≡ within (i + l) → set t i v ≡ filled (leads stage s) (count s) t₀
    counted_last {v} h g = last_entered _ (count s) i v t₀ t u.entries a b h (leads_here g)

  pub counted_all : {i l : ℕ} {t : List ℕ} → count s < i → Counted stage s t₀ i l t → t ≡ filled (leads stage s) (count s) t₀
  counted_all h u = all_entered _ t₀ refl (omega arith) u.entries

-- The records of a routine, looked at one after the other.
--     named_on, named_off     a record whose action has its name, and one whose action has none
use mathlib.Core.Path.{◌≡◌, refl}
use mathlib.Core.Bool.{Bool, true, false, cond}
use mathlib.Core.List.{List}
use Prim.Native.Nat.{ℕ, suc, ◌+◌, ◌<◌}
use native.Mathlib.Numerals.{add-one}
use native.Mathlib.Omega.{arith}
use lib.Dec.{eqb}
use lib.ListN.{drop}
use Rattle.rules.specs.Record.{Rec, count, records}
use Rattle.text.specs.Forms.{a, letter_of}
use Rattle.text.specs.Names.{proper}
use Rattle.text.specs.Writing.{nameless_from}
use Rattle.records.specs.Reading.{rec_at}
use Rattle.phrases.proofs.Texts.{behind}
use Rattle.writer.specs.Named.{has_name}

module _ (s : List ℕ) (i : ℕ) (lt : i < count s) where
  module _ (es : List (List ℕ)) (r : Rec) (e : r ≡ rec_at s (i + 1)) where
    pub named_on : has_name es r ≡ true → nameless_from (i + 1) es (drop i (records s)) ≡ nameless_from (i + 1 + 1) es (drop (i + 1) (records s))
    unfolding nameless_from has_name
    named_on h = rw (behind s i lt, ← e, add-one (i + 1)) (by (eqb (letter_of r.kind) a) (proper es r.x) h)
      where
        by : (b c : Bool) → cond b c true ≡ true
            → cond b (cond c (nameless_from (suc (i + 1)) es (drop (i + 1) (records s))) (i + 1)) (nameless_from (suc (i + 1)) es (drop (i + 1) (records s)))
            ≡ nameless_from (suc (i + 1)) es (drop (i + 1) (records s))
        by true true h = refl
        by true false h = absurd (let z : ◌≡◌ {A = ℕ} 0 1 = cc in omega arith)
        by false c h = refl

    pub named_off : has_name es r ≡ false → nameless_from (i + 1) es (drop i (records s)) ≡ i + 1
    unfolding nameless_from has_name
    named_off h = rw (behind s i lt, ← e) (by (eqb (letter_of r.kind) a) (proper es r.x) h)
      where
        by : (b c : Bool) → cond b c true ≡ false
            → cond b (cond c (nameless_from (suc (i + 1)) es (drop (i + 1) (records s))) (i + 1)) (nameless_from (suc (i + 1)) es (drop (i + 1) (records s))) ≡ i + 1
        by true true h = absurd (let z : ◌≡◌ {A = ℕ} 0 1 = cc in omega arith)
        by true false h = refl
        by false c h = absurd (let z : ◌≡◌ {A = ℕ} 0 1 = cc in omega arith)

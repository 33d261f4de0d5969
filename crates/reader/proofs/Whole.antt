-- The reader's answer by its tests.
use mathlib.Core.Path.{◌≡◌, refl, sym, ap, ◌∙◌}
use mathlib.Core.Bool.{Bool, true, false, not, ◌||◌}
use mathlib.Core.List.{List, ◌++◌}
use Prim.Native.Nat.{ℕ, ◌*◌, ◌/◌, ◌%◌, ◌≤◌, ◌<◌}
use native.Mathlib.Omega.{arith}
use lib.ListN.{length, take, drop}
use lib.Seq.{take_at}
use lib.Dec.{eqb, ltb}
use borrow.Author.Tests.{ltb-false, lt-ltb, le-ltb}
use Rattle.rules.specs.declared.Refusal.TheVariants.{Long, Room}
use Rattle.rules.specs.Checks.{most}
use Rattle.rules.specs.Record.{Rec, bytes_of}
use Rattle.rules.specs.Answers.{short}
use Rattle.laws.proofs.Records.{bytes_length}
use Rattle.text.specs.declared.TextRefusal.{TextRefusal}
use Rattle.text.specs.declared.TextRefusal.TheVariants.{Name, Earlier}
use Rattle.text.specs.Answers.{TextVerdict, fits, reading, records_read, filled, Answered}
use Rattle.std.specs.Prelude.{Ok, Err}
use Rattle.std.specs.Result.{IsErrAnd}
use Rattle.std.proofs.lemmas.Result.{err_from_is_err_and}
use Rattle.text.specs.Names.{entries, list_fault}
use Rattle.text.specs.Reading.{Reading, reads, refused, read_text}
use Rattle.reader.specs.Pages.{Kept, ReadTo}

-- an answer that is the definition's, and writes nothing where it is a refusal
pub refuses : {v : TextVerdict} {u o : List ℕ} (r : TextRefusal) → v ≡ Err r → Answered v u o (Err r) o
unfolding filled
refuses {u = u} {o = o} r e = record { answers = sym e; output = sym (ap (λ v. filled v u o) e) }

-- a refusal passed on by a `?`
pub passes_on : {v : TextVerdict} {u o : List ℕ} (r : TextRefusal) (y : TextVerdict) → IsErrAnd y (λ t. t ≡ r) → v ≡ Err r → Answered v u o y o
passes_on r y h e =
    let p = err_from_is_err_and y h in
    let i : y ≡ Err r = p.1 ∙ ap Err p.2 in
    rw i (refuses r e)

module _ (w l o : List ℕ) where
  pub bad_list : list_fault l ≡ true → reading w l o ≡ Err (Name 0)
  unfolding reading
  bad_list h = rw h

  pub good_list : list_fault l ≡ false → reading w l o ≡ fits (read_text w (entries l)) o
  unfolding reading
  good_list h = rw h

pub few : (l : List ℕ) → list_fault l ≡ false → length l < 16000
unfolding list_fault
few l h = by (not (eqb (length l % 16) 0)) (ltb 999 (length l / 16)) refl h
  where
    by : (a b : Bool) → ltb 999 (length l / 16) ≡ b → a || b ≡ false → length l < 16000
    by true b e z = absurd (let y : ◌≡◌ {A = ℕ} 0 1 = cc in omega arith)
    by false true e z = absurd (let y : ◌≡◌ {A = ℕ} 0 1 = cc in omega arith)
    by false false e z = let y = ltb-false 999 (length l / 16) e in omega arith

-- what the pass over the text tells of its reading
pub record ReadAs (q : Reading) (n : ℕ) (p w : List ℕ) : Type 0 where
  pub records : List Rec
  pub whole : q ≡ reads records
  pub many : n ≡ length records
  pub kept : Kept records p w

module _ {p w : List ℕ} where
  pub read_as : (q : Reading) (n : ℕ) → ReadTo q p (Ok n) w → ReadAs q n p w
  read_as (reads rs) n h = record { records = rs; whole = refl; many = let e = h.answers in cc; kept = h.holds }
  read_as (refused r) n h = absurd (let e = h.answers in let z : ◌≡◌ {A = ℕ} 0 1 = cc in omega arith)

  pub bad : (q : Reading) (o : List ℕ) (r : TextRefusal) → ReadTo q p (Err r) w → fits q o ≡ Err r
  unfolding fits
  bad (reads rs) o r h = absurd (let e = h.answers in let z : ◌≡◌ {A = ℕ} 0 1 = cc in omega arith)
  bad (refused a) o r h = sym h.answers

module _ {q : Reading} {n : ℕ} {p w : List ℕ} (h : ReadAs q n p w) (o : List ℕ) where
  pub long : 512 < n → fits q o ≡ Err (Earlier Long)
  unfolding fits most
  long lt = rw (h.whole, lt-ltb 512 (length h.records) (omega (arith, h.many)))

  module _ (le : n ≤ 512) where
    pub no_room : length o < 8 * n → fits q o ≡ Err (Earlier Room)
    unfolding fits most short
    no_room lt = rw (h.whole, le-ltb 512 (length h.records) (omega (arith, h.many)), lt-ltb (length o) (8 * length h.records) (omega (arith, h.many)))

    pub fits_in : 8 * n ≤ length o → fits q o ≡ Ok n
    unfolding fits most short
    fits_in ge = rw (h.whole, h.many, le-ltb 512 (length h.records) (omega (arith, h.many)), le-ltb (length o) (8 * length h.records) (omega (arith, h.many)))

    pub page : take (8 * n) w ≡ bytes_of (records_read q)
    unfolding records_read
    page = rw (h.whole, h.kept (omega (arith, h.many)), h.many) (take_at (bytes_of h.records) (drop (8 * length h.records) p) (8 * length h.records) (bytes_length h.records))

pub done : {v : TextVerdict} {u o t : List ℕ} (n k : ℕ) → v ≡ Ok n → t ≡ u → k ≡ length t → Answered v u o (Ok n) (t ++ drop k o)
unfolding filled
done {u = u} {o = o} n k e d h = record { answers = sym e; output = rw h (ap (λ t. t ++ drop (length t) o) d) ∙ sym (ap (λ v. filled v u o) e) }

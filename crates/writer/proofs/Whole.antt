-- The writer's answer by its tests.
--     too_short, shown     by the room for the text
--     refuses              a refusal writes nothing
--     passes_on            so does a refusal of the paper's, passed on by a `?`
--     equally              the same verdict by another name
--     unchecked, fits      by the routine's own checks; a text that is not refused has at most 10,752 bytes
--     bad_list, nameless-at, all_named     by the list and the names
use mathlib.Core.Path.{◌≡◌, refl, sym, ap, ◌∙◌, subst}
use mathlib.Core.Bool.{true, false, cond}
use Rattle.std.specs.Prelude.{Option, None, Some, Ok, Err}
use mathlib.Core.List.{List, ◌++◌}
use Prim.Native.Nat.{ℕ, zero, suc, ◌≤◌, ◌<◌}
use native.Mathlib.Omega.{arith}
use lib.ListN.{length, take, drop}
use borrow.Author.Tests.{ne_eqb, lt-ltb, le-ltb}
use Rattle.rules.specs.declared.Refusal.{Refusal}
use Rattle.rules.specs.declared.Refusal.TheVariants.{Room}
use Rattle.rules.specs.declared.Notation.TheVariants.{Routine}
use Rattle.rules.specs.Numbers.{found}
use Rattle.rules.specs.Record.{count, records}
use Rattle.rules.specs.Instruction.{ops}
use Rattle.rules.specs.Refusals.{first, verdict_of}
use Rattle.rules.specs.Refusals as paper
use Rattle.rules.specs.Checks.{most, record_checks}
use Rattle.rules.specs.Answers.{check_records}
use Rattle.laws.proofs.Records.{All, Small, records-length}
use Rattle.laws.proofs.Instructions.{accepted-ops, accepted-records}
use Rattle.laws.proofs.Fits.{all_fit-small}
use Rattle.laws.proofs.Refusals.{accepted-none, held}
use Rattle.std.specs.Result.{IsErrAnd}
use Rattle.std.proofs.lemmas.Result.{err_from_is_err_and}
use Rattle.text.specs.declared.TextRefusal.{TextRefusal}
use Rattle.text.specs.declared.TextRefusal.TheVariants.{Name, Earlier}
use Rattle.text.specs.Answers.{TextVerdict, writes, unless_refused, writing, filled, Answered, text_written}
use Rattle.text.specs.Names.{entries, list_fault}
use Rattle.text.specs.Writing.{text_of, nameless}
use Rattle.print.proofs.Printing.{Whole, page}
use Rattle.writer.proofs.Lengths.{text_length}

-- The page w holds the text u, which has k bytes, at its start.
module _ {u o w : List ℕ} {k : ℕ} (p : Whole u o w k) (text : List ℕ) where
  pub too_short : (r : TextRefusal) → r ≡ Earlier Room → length text < k → Answered (writes 0 u text) u text (Err r) text
  unfolding writes filled
  too_short r e h = let l = rw p.count at h in record { answers = rw (e, lt-ltb _ _ l); output = rw (lt-ltb _ _ l) }

  pub shown : {v : List ℕ} → k ≤ length text → v ≡ take k w → Answered (writes 0 u text) u text (Ok k) (v ++ drop k text)
  unfolding writes filled
  shown h e = let l = rw p.count at h in record { answers = rw (le-ltb _ _ l, p.count); output = rw (le-ltb _ _ l, e, page p, p.count) }

pub refuses : {v : TextVerdict} {u o : List ℕ} (r : TextRefusal) → v ≡ Err r → Answered v u o (Err r) o
unfolding filled
refuses {u = u} {o = o} r e = record { answers = sym e; output = sym (ap (λ v. filled v u o) e) }

-- a refusal of the paper's, passed on by a `?`
pub passes_on : {v : TextVerdict} {u o : List ℕ} {r : Refusal} (y : TextVerdict) → IsErrAnd y (λ t. t ≡ Earlier r) → v ≡ Err (Earlier r) → Answered v u o y o
passes_on {v} {u} {o} {r} y h e =
    let p = err_from_is_err_and y h in
    let i : y ≡ Err (Earlier r) = p.1 ∙ ap Err p.2 in
    rw i (refuses (Earlier r) e)

pub equally : {v v' : TextVerdict} {u o w : List ℕ} {r : TextVerdict} → v ≡ v' → Answered v u o r w → Answered v' u o r w
equally {u = u} {o = o} e a = record { answers = a.answers ∙ e; output = a.output ∙ ap (λ v. filled v u o) e }

module _ (s l text : List ℕ) where
  -- the verdict once the routine's own checks are passed
  abbrev Later : TextVerdict
  Later = cond (list_fault l) (Err (Name 0)) (writes (nameless (entries l) (records s)) (text_of (entries l) (records s)) text)

  pub unchecked : (r : Refusal) → Err r ≡ check_records Routine s → writing s l text ≡ Err (Earlier r)
  unfolding writing unless_refused check_records paper.verdict verdict_of
  unchecked r h = by (first (record_checks Routine s)) h
    where
      by : (o : Option Refusal) → Err r ≡ verdict_of o (count s) → unless_refused o Later ≡ Err (Earlier r)
      by None e = absurd (let z : ◌≡◌ {A = ℕ} 0 1 = cc in omega arith)
      by (Some q) e = let d : r ≡ q = cc in ap (λ (x : Refusal). Err (Earlier x)) (sym d)

  module _ {n : ℕ} (h : Ok n ≡ check_records Routine s) where
    pub fits : length (text_written s l) ≤ 10752
    unfolding most text_written
    fits =
        let f = (held Routine s n (sym h)).fines in
        let small = subst (All Small) (accepted-records Routine s f.faultless tt) (all_fit-small (ops s) (accepted-ops Routine s f.faultless tt)) in
        omega (arith, text_length (entries l) (records s) small, records-length s, f.few)

    checked : writing s l text ≡ Later
    unfolding writing unless_refused check_records
    checked = rw (accepted-none (record_checks Routine s) (count s) (sym h))

    pub bad_list : list_fault l ≡ true → writing s l text ≡ Err (Name 0)
    bad_list z = checked ∙ rw z

    module _ (good : list_fault l ≡ false) where
      pub nameless-at : (p : ℕ) → Some p ≡ found (nameless (entries l) (records s)) → writing s l text ≡ Err (Name p)
      unfolding writes
      nameless-at p e = checked ∙ rw good (by (nameless (entries l) (records s)) e)
        where
          by : (m : ℕ) → Some p ≡ found m → writes m (text_of (entries l) (records s)) text ≡ Err (Name p)
          by zero e = absurd (let z : ◌≡◌ {A = ℕ} 0 1 = cc in omega arith)
          by (suc m) e = let d : p ≡ suc m = cc in rw (ne_eqb (suc m) 0 (omega arith), d)

      pub all_named : None ≡ found (nameless (entries l) (records s)) → writes 0 (text_written s l) text ≡ writing s l text
      unfolding text_written
      all_named e = sym (checked ∙ rw good (by (nameless (entries l) (records s)) e))
        where
          by : (m : ℕ) → None ≡ found m → writes m (text_of (entries l) (records s)) text ≡ writes 0 (text_of (entries l) (records s)) text
          by zero e = refl
          by (suc m) e = absurd (let z : ◌≡◌ {A = ℕ} 0 1 = cc in omega arith)

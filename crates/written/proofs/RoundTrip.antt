-- Writing what was read and reading it again gives the same records: over records, and over the calls' answers.
use mathlib.Core.Path.{◌≡◌, refl, sym, ap, ◌∙◌}
use Prim.Native.Nat.{◌≤◌}
use native.Mathlib.Omega.{arith}
use borrow.Author.Tests.{le-ltb, ltb-false}
use Rattle.std.specs.Prelude.{◌*◌, ◌/◌, ◌%◌, Ok, Err}
use Rattle.rules.specs.Words.{ℕ, zero, suc, false, not, None, List, length, drop, eqb, ltb}
use Rattle.rules.specs.declared.Notation.TheVariants.{Routine}
use Rattle.rules.specs.declared.Refusal.TheVariants.{Long, Room}
use Rattle.rules.specs.Record.{Rec, bytes_of, records}
use Rattle.rules.specs.Refusals.{first}
use Rattle.rules.specs.Checks.{most, record_checks}
use Rattle.rules.specs.Answers.{short}
use Rattle.laws.proofs.Records.{records_back}
use Rattle.text.specs.declared.TextRefusal.TheVariants.{Name, Earlier}
use Rattle.text.specs.Names.{entries_of, entries, list_fault}
use Rattle.text.specs.Reading.{Reading, reads, refused, read_text}
use Rattle.text.specs.Writing.{text_of, nameless}
use Rattle.text.specs.Answers.{fits, reading, records_read, writes, unless_refused, writing, bytes_read, text_written}
use Rattle.text.proofs.Tests.{by_test}
use Rattle.grammar.proofs.Spelt.{or_right}
use Rattle.written.specs.Promises.{RecordsBack, again, RoundTrip}
use Rattle.written.proofs.Made.{Rights, text_right}
use Rattle.written.proofs.Again.{text_again, named_again}
use Rattle.written.proofs.Checked.{all_small, no-refusal}

pub records_again : RecordsBack
records_again w es rs e = let g = text_right w es rs e in (named_again 1 g, text_again g)

-- ## The list of names

-- A list that is not refused has at most 999 entries.
entries-length : (n : ℕ) (l : List ℕ) → length (entries_of n l) ≡ n
entries-length zero l = refl
entries-length (suc n) l = ap suc (entries-length n (drop 16 l))

entries_most : (l : List ℕ) → list_fault l ≡ false → length (entries l) ≤ 999
unfolding list_fault
entries_most l h =
    let q = ltb-false 999 (length l / 16) (or_right (not (eqb (length l % 16) 0)) (ltb 999 (length l / 16)) h) in
    omega (arith, entries-length (length l / 16) l)

-- ## What a reading that is done has read

record Read (w l : List ℕ) (n : ℕ) : Type 0 where
  rs : List Rec
  is_read : read_text w (entries l) ≡ reads rs
  no-fault : list_fault l ≡ false
  few : length rs ≤ 512
  counted : n ≡ length rs

was_fit : (w l out : List ℕ) (n : ℕ) (r : Reading) → read_text w (entries l) ≡ r → list_fault l ≡ false → fits r out ≡ Ok n → Read w l n
unfolding fits most
was_fit w l out n (refused r) e h d = absurd (let z : ◌≡◌ {A = ℕ} 0 1 = cc in omega arith)
was_fit w l out n (reads rs) e h d =
    by_test (ltb 512 (length rs))
    (λ t. absurd (let y : Err (Earlier Long) ≡ Ok n = rw t at d in let z : ◌≡◌ {A = ℕ} 0 1 = cc in omega arith))
    (λ t. by_test (short (length rs) out)
    (λ u. absurd (let y : Err (Earlier Room) ≡ Ok n = rw (t, u) at d in let z : ◌≡◌ {A = ℕ} 0 1 = cc in omega arith))
    (λ u. let y : Ok (length rs) ≡ Ok n = rw (t, u) at d in
    let z : length rs ≡ n = cc in
    record { rs = rs; is_read = e; no-fault = h; few = ltb-false 512 (length rs) t; counted = sym z }))

was_read : (w l out : List ℕ) (n : ℕ) → reading w l out ≡ Ok n → Read w l n
unfolding reading
was_read w l out n d =
    by_test (list_fault l)
    (λ t. absurd (let y : Err (Name 0) ≡ Ok n = rw t at d in let z : ◌≡◌ {A = ℕ} 0 1 = cc in omega arith))
    (λ t. was_fit w l out n (read_text w (entries l)) refl t (rw t at d))

-- ## And what is then written, and read again

module _ (w l : List ℕ) (n : ℕ) (g : Read w l n) where
  most_entries : length (entries l) ≤ 999
  most_entries = entries_most l g.no-fault

  right : Rights (entries l) 0 g.rs
  right = text_right w (entries l) g.rs g.is_read

  bytes_are : bytes_read w l ≡ bytes_of g.rs
  unfolding bytes_read records_read
  bytes_are = rw g.is_read

  records_are : records (bytes_read w l) ≡ g.rs
  records_are = ap records bytes_are ∙ records_back g.rs (all_small most_entries right)

  again_is : again w l ≡ text_of (entries l) g.rs
  unfolding text_written
  again_is = ap (text_of (entries l)) records_are

  reads_again : read_text (again w l) (entries l) ≡ reads g.rs
  reads_again = ap (λ (v : List ℕ). read_text v (entries l)) again_is ∙ (records_again w (entries l) g.rs g.is_read).1

  unrefused : first (record_checks Routine (bytes_read w l)) ≡ None
  unrefused = ap (λ (v : List ℕ). first (record_checks Routine v)) bytes_are ∙ no-refusal most_entries g.few right

  all_named : nameless (entries l) (records (bytes_read w l)) ≡ 0
  all_named = ap (nameless (entries l)) records_are ∙ (records_again w (entries l) g.rs g.is_read).0

  written_again : (text : List ℕ) → length (again w l) ≤ length text → writing (bytes_read w l) l text ≡ Ok (length (again w l))
  unfolding writing writes unless_refused text_written
  written_again text h = rw (unrefused, g.no-fault, all_named, le-ltb (length text) (length (again w l)) h)

  read_again : (out : List ℕ) → 8 * n ≤ length out → reading (again w l) l out ≡ Ok n
  unfolding reading fits short most
  read_again out h =
      let c = g.counted in
      let r : 8 * length g.rs ≤ length out = omega arith in
      rw (g.no-fault, reads_again, le-ltb 512 (length g.rs) g.few, le-ltb (length out) (8 * length g.rs) r) (ap Ok (sym c))

  same_again : bytes_read (again w l) l ≡ bytes_read w l
  unfolding bytes_read records_read
  same_again = ap (λ (r : Reading). bytes_of (records_read r)) (reads_again ∙ sym g.is_read)

pub round_trip : RoundTrip
round_trip w l out n d =
    let g = was_read w l out n d in
    record {
      is_written = λ text h. written_again w l n g text (omega (arith, h));
      is_read = λ out h. read_again w l n g out (omega (arith, h));
      same = same_again w l n g;
    }

-- The lines of a base, as code goes on from one to the next.
--     listing_is     the listing with its first line
--     turn     after k lines, one line more
use mathlib.Core.Path.{◌≡◌, sym, ap, ◌∙◌}
use Prim.Native.Nat.{ℕ, zero, suc, ◌+◌, ◌-◌, ◌<◌}
use native.Mathlib.Nat.{zero-add, suc-add, add-suc}
use native.Mathlib.Numerals.{add-one}
use native.Mathlib.Omega.{arith}
use mathlib.Core.List.{List, [], ◌∷◌, ◌++◌, append_assoc, append-nil}
use lib.ListN.{length, take, get_or}
use borrow.Rule.Slice.PartMut.{put_mid}
use Rattle.rules.specs.Record.{Rec, rec, count, records}
use Rattle.laws.proofs.Records.{records-length}
use Rattle.records.specs.Reading.{rec_at}
use Rattle.records.proofs.Writing.{rest, rec-get_or}
use Rattle.print.specs.Text.{ascii, filled_sign, filled}
use Rattle.print.specs.Printing.{Printed}
use Rattle.print.proofs.Printing.{print_more, print_as}
use Rattle.words.specs.Text.{named}
use Rattle.lines.specs.Text.{line, lines, listing}

-- one record more
lines_on : (p k : ℕ) (rs : List Rec) (z : Rec) → k < length rs → lines p (take (suc k) rs) ≡ lines p (take k rs) ++ line (k + p) (get_or rs k z)
unfolding lines
lines_on p k [] z h = absurd (omega arith)
lines_on p zero (r ∷ rs) z h = rw (zero-add p) (append-nil (line p r))
lines_on p (suc k) (r ∷ rs) z h =
    rw (suc-add k p, ← add-suc k p) (ap (λ (t : List ℕ). line p r ++ t) (lines_on (suc p) k rs z (omega arith)) ∙ sym (append_assoc (line p r) _ _))

first_line : (n m : ℕ) → named "length " n ++ named " " m ++ ascii "\n" ≡ filled (ascii "length x y\n") n m
unfolding filled filled_sign
first_line n m = simp append_assoc

module _ (s : List ℕ) where
  pub listing_is : (n : ℕ) → listing n (records s) ≡ filled (ascii "length x y\n") n (count s) ++ lines 1 (records s)
  unfolding listing
  listing_is n = rw records-length (ap (λ (t : List ℕ). t ++ lines 1 (records s)) (first_line n (count s)))

  pub turn : (k : ℕ) {o w ys : List ℕ} {at j : ℕ} → k < count s → Printed (lines 1 (take k (records s))) o w at → Printed (line (k + 1) (rec_at s (k + 1))) (rest w at) ys j
      → Printed (lines 1 (take (k + 1) (records s))) o (put_mid at (length w - at) w ys) (at + j)
  turn k h v p =
      let z = rec 0 0 0 in
      let e : rec_at s (k + 1) ≡ get_or (records s) k z = rw add-one (sym (rec-get_or s k h z)) in
      let m : lines 1 (take (k + 1) (records s)) ≡ lines 1 (take k (records s)) ++ line (k + 1) (rec_at s (k + 1)) =
      rw e (ap (λ (i : ℕ). lines 1 (take i (records s))) (add-one k) ∙ lines_on 1 k (records s) z (omega (arith, records-length s)))
      in
      print_as m (print_more v p)

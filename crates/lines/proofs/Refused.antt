-- The line of a refusal.
--     its_text     by its number and place, it has room in 50 bytes
--     no_line, its_line     what the call answers, by room
--     Within, lies, line-within     the bytes printed lie within the text
use mathlib.Core.Path.{◌≡◌, refl, sym, ap}
use Prim.Native.Nat.{ℕ, ◌≤◌, ◌<◌}
use native.Mathlib.Omega.{arith}
use mathlib.Core.Bool.{Bool, true, false, cond}
use mathlib.Core.List.{List, ◌++◌, append_assoc}
use lib.ListN.{length, take, drop, length-append}
use lib.Seq.{length-take-le}
use lib.Dec.{leb}
use borrow.Author.Tests.{le-leb, lt-leb}
use Rattle.rules.specs.declared.Refusal.{Refusal}
use Rattle.rules.specs.Refusals.{told}
use Rattle.print.specs.Text.{ascii, filled_sign, filled}
use Rattle.print.specs.Printing.{Printed}
use Rattle.print.proofs.Decimal.{decimal-length}
use Rattle.print.proofs.Printing.{Whole, print_all, page}
use Rattle.lines.specs.Text.{refused_at, refused, Line}

refused_is : (r : Refusal) {n p : ℕ} → n ≡ (told r).number → p ≡ (told r).place → refused r ≡ filled (ascii "refused x y\n") n p
unfolding refused refused_at filled filled_sign
refused_is r n p = rw (n, p) (simp append_assoc)

refused-length : (n p : ℕ) → n < 18446744073709551616 → p < 18446744073709551616 → length (filled (ascii "refused x y\n") n p) ≤ 50
unfolding filled filled_sign
refused-length n p h l = simp length-append (omega (arith, decimal-length 19 n (omega arith), decimal-length 19 p (omega arith)))

pub its_text : (r : Refusal) {n p : ℕ} {o w : List ℕ} {k : ℕ} → n ≡ (told r).number → p ≡ (told r).place → n < 18446744073709551616 → p < 18446744073709551616
    → 50 ≤ length o → Printed (filled (ascii "refused x y\n") n p) o w k → Whole (refused r) o w k
its_text r {n} {p} a b h l m v = rw (refused_is r a b) (print_all v (omega (arith, refused-length n p h l)))

-- The line t stands in the first k bytes of an array of our own.
module _ {t o w : List ℕ} {k : ℕ} (p : Whole t o w k) (text : List ℕ) where
  pub no_line : length text < k → Line t text 0 text
  no_line h = let l = rw p.count at h in record { answers = rw (lt-leb _ _ l); output = rw (lt-leb _ _ l) }

  pub its_line : {v : List ℕ} → k ≤ length text → v ≡ take k w → Line t text k (v ++ drop k text)
  its_line h e = let l = rw p.count at h in record { answers = rw (le-leb _ _ l) p.count; output = rw (le-leb _ _ l, e, page p, p.count) }

-- The first n bytes of w are n bytes.
pub record Within (n : ℕ) (w : List ℕ) : Type 0 where
  pub bounded : n ≤ length w
  pub counted : n ≡ length (take n w)

pub lies : {n : ℕ} {w : List ℕ} → n ≤ length w → Within n w
lies {n} {w} h = record { bounded = h; counted = sym (length-take-le n w h) }

pub line-within : {t text text' : List ℕ} {n : ℕ} → Line t text n text' → Within n text'
line-within {t} {text} {text'} {n} p = by (leb (length t) (length text)) refl p.answers p.output
  where
    by : (b : Bool) → leb (length t) (length text) ≡ b → n ≡ cond b (length t) 0 → text' ≡ cond b (t ++ drop (length t) text) text → Within n text'
    by true e a o =
        let a : n ≡ length t = a in
        let o : text' ≡ t ++ drop (length t) text = o in
        lies (omega (arith, ap length o, length-append t (drop (length t) text)))
    by false e a o = lies (omega (arith, ap length o))

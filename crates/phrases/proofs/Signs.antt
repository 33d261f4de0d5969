-- The signs of a record's form, written one after the other.
--     same_decimal, same_label, five_digits     a number in decimal and a label are what is printed; a number below 65,536 has five digits at most
--     signs_none, signs_turn, signs_end     of a form the first j signs are written: none; one more; all of them
use mathlib.Core.Path.{◌≡◌, refl, sym, ap, ◌∙◌}
use mathlib.Core.Bool.{cond}
use mathlib.Core.List.{List, [], ◌∷◌, ◌++◌, append-nil, append_assoc}
use Prim.Native.Nat.{ℕ, zero, suc, ◌+◌, ◌-◌, ◌/◌, ◌%◌, ◌≤◌, ◌<◌}
use native.Mathlib.Numerals.{add-one}
use native.Mathlib.Omega.{arith}
use lib.Dec.{ltb}
use lib.ListN.{length, take, get_or}
use lib.Seq.{take_all, take-suc}
use borrow.Rule.Slice.PartMut.{put_mid}
use Rattle.rules.specs.Record.{Rec}
use Rattle.text.specs.Forms.{signs_of}
use Rattle.text.specs.Writing.{digits, decimal, label_name, written_sign, written_signs, form_of, written}
use Rattle.records.proofs.Writing.{rest}
use Rattle.print.specs.Text as print
use Rattle.print.specs.Printing.{Printed}
use Rattle.print.proofs.Decimal.{decimal-length}
use Rattle.print.proofs.Printing.{print-none, print_more, print_as}

same_digits : (most n : ℕ) → digits most n ≡ print.digits most n
unfolding digits print.digits
same_digits zero n = refl
same_digits (suc most) n = ap (λ (ds : List ℕ). cond (ltb n 10) ((48 + n) ∷ []) (ds ++ ((48 + n % 10) ∷ []))) (same_digits most (n / 10))

pub same_decimal : (n : ℕ) → decimal n ≡ print.decimal n
unfolding print.decimal
same_decimal n = same_digits (suc n) n

pub five_digits : (n : ℕ) → n < 65536 → length (decimal n) ≤ 5
five_digits n h = rw (same_decimal n) (decimal-length 4 n (omega arith))

-- a label is the form Lx
pub same_label : (n : ℕ) → label_name n ≡ print.filled (print.ascii "Lx") n 0
unfolding print.filled print.filled_sign
same_label n = rw (same_decimal n, append-nil (print.decimal n))

module _ (es : List (List ℕ)) (r : Rec) where
  signs_append : (f g : List ℕ) → written_signs es r (f ++ g) ≡ written_signs es r f ++ written_signs es r g
  unfolding written_signs
  signs_append [] g = refl
  signs_append (p ∷ f) g =
      ap (λ (t : List ℕ). written_sign es r p ++ t) (signs_append f g) ∙ sym (append_assoc (written_sign es r p) (written_signs es r f) (written_signs es r g))

  pub signs_none : (o : List ℕ) → Printed (written_signs es r []) o o 0
  unfolding written_signs
  signs_none o = print-none o

  module _ (f : List ℕ) (j : ℕ) {o w : List ℕ} {at : ℕ} (v : Printed (written_signs es r (take j f)) o w at) where
    one_more : j < length f → written_signs es r (take (suc j) f) ≡ written_signs es r (take j f) ++ written_sign es r (get_or f j 0)
    unfolding written_signs
    one_more h =
        rw (take-suc f j 0 h, signs_append (take j f)) (ap (λ (t : List ℕ). written_signs es r (take j f) ++ t) (append-nil (written_sign es r (get_or f j 0))))

    pub signs_turn : j < length f → {ys : List ℕ} {k : ℕ} → Printed (written_sign es r (get_or f j 0)) (rest w at) ys k
        → Printed (written_signs es r (take (j + 1) f)) o (put_mid at (length w - at) w ys) (at + k)
    signs_turn h p = rw add-one (print_as (one_more h) (print_more v p))

    pub signs_end : f ≡ signs_of (form_of r) → length f ≤ j → Printed (written es r) o w at
    signs_end e h = print_as (ap (written_signs es r) (sym e ∙ sym (take_all j f h))) v

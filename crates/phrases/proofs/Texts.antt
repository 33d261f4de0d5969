-- The instructions of a routine, written one after the other.
--     behind, none_behind     the record after the first i, and where there is none
--     joint     what stands in front of an instruction
--     Texting     what is written of the text before record number i + 1
--     texting, text_turn, text_end     none; one record more; the end
use mathlib.Core.Path.{◌≡◌, refl, sym, ap, ◌∙◌}
use mathlib.Core.Bool.{cond}
use mathlib.Core.List.{List, [], ◌∷◌, ◌++◌, append-nil, append_assoc}
use Prim.Native.Nat.{ℕ, zero, suc, ◌+◌, ◌≤◌, ◌<◌}
use native.Mathlib.Numerals.{add-one}
use native.Mathlib.Omega.{arith}
use lib.Dec.{leb}
use borrow.Author.Tests.{lt-leb}
use lib.ListN.{drop, drop_of_length-le}
use Rattle.rules.specs.Record.{Rec, count, records}
use Rattle.laws.proofs.Records.{records-length}
use Rattle.text.specs.Bytes.{ascii}
use Rattle.text.specs.Writing.{written, further_ones, text_of}
use Rattle.records.specs.Reading.{rec_at}
use Rattle.records.proofs.Writing.{rec-drop}
use Rattle.print.specs.Printing.{Printed}
use Rattle.print.proofs.Printing.{print-none, print_as}

pub behind : (s : List ℕ) (i : ℕ) → i < count s → drop i (records s) ≡ rec_at s (i + 1) ∷ drop (i + 1) (records s)
behind s i lt = rw (add-one i) (rec-drop s i lt)

pub none_behind : (s : List ℕ) (i : ℕ) → count s ≤ i → drop i (records s) ≡ []
none_behind s i h = drop_of_length-le (records s) {i = i} (omega (arith, records-length s))

-- What stands in front of instruction i.
abbrev pub joint : ℕ → List ℕ
joint i = cond (leb i 1) [] (ascii "; ")

-- What is left of a text behind i instructions.
abbrev pub later : List (List ℕ) → ℕ → List Rec → List ℕ
later es zero rs = text_of es rs
later es (suc i) rs = further_ones es rs

later_on : (es : List (List ℕ)) (i : ℕ) (r : Rec) (rs : List Rec) → later es i (r ∷ rs) ≡ (joint (suc i) ++ written es r) ++ later es (suc i) rs
unfolding text_of further_ones
later_on es zero r rs = refl
later_on es (suc i) r rs = rw (lt-leb (suc (suc i)) 1 (omega arith))

later_none : (es : List (List ℕ)) (i : ℕ) → later es i [] ≡ []
unfolding text_of further_ones
later_none es zero = refl
later_none es (suc i) = refl

pub record Texting (es : List (List ℕ)) (s o w : List ℕ) (at i : ℕ) : Type 0 where
  pub done : i ≤ count s
  pub before : List ℕ
  pub wrote : Printed before o w at
  pub whole : text_of es (records s) ≡ before ++ later es i (drop i (records s))

module _ (es : List (List ℕ)) (s o : List ℕ) where
  pub texting : Texting es s o o 0 0
  texting = record { done = omega arith; before = []; wrote = print-none o; whole = refl }

  module _ {w : List ℕ} {at i : ℕ} (g : Texting es s o w at i) where
    pub text_turn : (r : Rec) → i < count s → r ≡ rec_at s (i + 1) → {w' : List ℕ} {at' : ℕ} → Printed ((g.before ++ joint (i + 1)) ++ written es r) o w' at' → Texting es s o w' at' (i + 1)
    text_turn r lt e p = let behind-it = drop (suc i) (records s) in record {
      done = omega arith;
      before = (g.before ++ joint (i + 1)) ++ written es r;
      wrote = p;
      whole = rw (add-one i)
          (g.whole
          ∙ ap (λ (rs : List Rec). g.before ++ later es i rs) (rec-drop s i lt)
          ∙ ap (λ (q : Rec). g.before ++ later es i (q ∷ behind-it)) (sym (rw (add-one i) at e))
          ∙ ap (λ (u : List ℕ). g.before ++ u) (later_on es i r behind-it)
          ∙ sym (append_assoc g.before (joint (suc i) ++ written es r) (later es (suc i) behind-it))
          ∙ ap (λ (u : List ℕ). u ++ later es (suc i) behind-it) (sym (append_assoc g.before (joint (suc i)) (written es r))));
    }

    pub text_end : count s ≤ i → Printed (text_of es (records s)) o w at
    text_end h =
        print_as (g.whole ∙ ap (λ rs. g.before ++ later es i rs) (none_behind s i h) ∙ ap (λ (u : List ℕ). g.before ++ u) (later_none es i) ∙ append-nil g.before) g.wrote

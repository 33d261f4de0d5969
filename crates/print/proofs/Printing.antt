-- Printing what fits at the start of a part that is lent, and into its unwritten rest, lent on as `&mut text[at..]`.
--     print-none, no_byte, byte     nothing yet; one byte, by room
--     Copied, copy-none, copy_on, all_copied     a word of which i bytes are copied: none; one more; as many as fit
--     print_sizes     how much is printed, and how long the part then is
--     print_more, print_as     a text behind what is printed; the same text by another name
--     Whole, print_all     where there is room, all of it
--     in_array, page     what an array of our own holds that was printed into
use mathlib.Core.Path.{◌≡◌, refl, sym, ap, ◌∙◌}
use Prim.Native.Nat.{ℕ, suc, ◌+◌, ◌-◌, ◌≤◌, ◌<◌, min}
use native.Mathlib.Numerals.{add-one}
use native.Mathlib.Omega.{arith}
use mathlib.Core.Bool.{Bool, true, false}
use mathlib.Core.List.{List, [], ◌∷◌, ◌++◌, append-nil}
use lib.ListN.{length, take, drop, get_or, set, length-set, length-append, length-take, length-drop}
use lib.Seq.{take_all, take-nil, take-suc, drop-cons, set_at, take_at, append_snoc, take-append-le, take-append-add, length-take-le}
use lib.Dec.{leb}
use borrow.Author.Tests.{leb-true, leb-false}
use borrow.Rule.Slice.PartMut.{put_mid}
use Rattle.records.proofs.Writing.{rest, put_rest}
use Rattle.print.specs.Printing.{Printed}

abbrev fitting : List ℕ → List ℕ → List ℕ
fitting t o = take (length o) t

pub print-none : (o : List ℕ) → Printed [] o o 0
print-none o = let e : fitting [] o ≡ [] = take-nil (length o) in record { answers = rw e; holds = rw e }

pub no_byte : (d : ℕ) (o : List ℕ) → length o ≡ 0 → Printed (d ∷ []) o o 0
no_byte d o h = record { answers = rw h; holds = rw h }

pub byte : (d : ℕ) (o : List ℕ) → ¬ (length o ≡ 0) → Printed (d ∷ []) o (set o 0 d) 1
byte d [] h = absurd (h refl)
byte d (x ∷ o) h = record { answers = rw (take-nil (length o)); holds = rw (take-nil (length o)) }

-- The first i bytes of the word t at the start of the part o, which is then w.
pub record Copied (t o w : List ℕ) (i : ℕ) : Type 0 where
  pub done : i ≤ min (length o) (length t)
  pub same : length w ≡ length o
  pub holds : w ≡ take i t ++ drop i o

pub copy-none : (t o : List ℕ) → Copied t o o 0
copy-none t o = record { done = omega arith; same = refl; holds = refl }

-- as much of the word as fits
fitting_min : (t o : List ℕ) → take (min (length o) (length t)) t ≡ fitting t o
fitting_min t o = by (leb (length t) (length o)) refl
  where
    by : (b : Bool) → leb (length t) (length o) ≡ b → take (min (length o) (length t)) t ≡ fitting t o
    by true e =
        let h : length t ≤ length o = leb-true _ _ e in
        take_all (min (length o) (length t)) t (omega arith) ∙ sym (take_all (length o) t h)
    by false e =
        let h : length o < length t = leb-false _ _ e in
        let m : min (length o) (length t) ≡ length o = omega arith in
        ap (λ (n : ℕ). take n t) m

module _ {t o w : List ℕ} {i : ℕ} (v : Copied t o w i) where
  pub copy_on : i < min (length o) (length t) → Copied t o (set w i (get_or t i 0)) (i + 1)
  copy_on n =
      let d = get_or t i 0 in
      let l : i < length t = omega arith in
      rw add-one
      (record {
        done = n;
        same = simp length-set v.same;
        holds = ap (λ (l : List ℕ). set l i d) (v.holds ∙ ap (λ (l : List ℕ). take i t ++ l) (drop-cons o i 0 (omega arith)))
            ∙ set_at (take i t) _ (drop (suc i) o) d i (length-take-le i t (omega arith))
            ∙ sym (append_snoc (take i t) d (drop (suc i) o))
            ∙ ap (λ (l : List ℕ). l ++ drop (suc i) o) (sym (take-suc t i 0 l));
      })

  pub all_copied : (n : ℕ) → n ≡ min (length o) (length t) → n ≤ i → Printed t o w n
  all_copied n m l =
      let z : i ≡ n = omega (arith, v.done) in
      record {
        answers = m ∙ sym (length-take (length o) t);
        holds = v.holds ∙ rw z (ap (λ (u : List ℕ). u ++ drop n o) (ap (λ (k : ℕ). take k t) m ∙ fitting_min t o));
      }

pub print_as : {t u o w : List ℕ} {k : ℕ} → t ≡ u → Printed u o w k → Printed t o w k
print_as e v = rw e v

pub record Whole (t o w : List ℕ) (k : ℕ) : Type 0 where
  pub count : k ≡ length t
  pub holds : w ≡ t ++ drop k o

module _ {t o w : List ℕ} {at : ℕ} (v : Printed t o w at) where
  pub print_sizes : (at ≤ length o) × (length w ≡ length o) × (at ≡ length (fitting t o))
  print_sizes =
      let l : at ≤ length o = omega (arith, v.answers, length-take (length o) t) in
      (l, ap length v.holds ∙ length-append (fitting t o) (drop at o) ∙ omega (arith, l, v.answers, length-drop at o), v.answers)

  pub print_all : length t ≤ length o → Whole t o w at
  print_all h = let e : fitting t o ≡ t = take_all (length o) t h in record { count = v.answers ∙ ap length e; holds = v.holds ∙ rw e }

  left : length (rest w at) ≡ length o - length (fitting t o)
  left = rw (length-take (length w - at) (drop at w), length-drop at w) (omega (arith, print_sizes))

  both : (u : List ℕ) → fitting (t ++ u) o ≡ fitting t o ++ fitting u (rest w at)
  both u = by (leb (length t) (length o)) refl
    where
      by : (b : Bool) → leb (length t) (length o) ≡ b → fitting (t ++ u) o ≡ fitting t o ++ fitting u (rest w at)
      by true e =
          let h : length t ≤ length o = leb-true _ _ e in
          let a : fitting t o ≡ t = take_all (length o) t h in
          let c : length o ≡ length t + (length o - length t) = omega arith in
          ap (λ (n : ℕ). take n (t ++ u)) c
          ∙ take-append-add t u (length o - length t)
          ∙ rw (left, a)
      by false e =
          let h : length o < length t = leb-false _ _ e in
          let z : length o - length (fitting t o) ≡ 0 = simp length-take (omega arith) in
          take-append-le (length o) t u (omega arith) ∙ sym (rw (left, z) (append-nil (fitting t o)))

  pub print_more : {u ys : List ℕ} {k : ℕ} → Printed u (rest w at) ys k → Printed (t ++ u) o (put_mid at (length w - at) w ys) (at + k)
  print_more {u} {ys} {k} p = record {
    answers = ap (λ (n : ℕ). n + k) v.answers ∙ ap (λ (n : ℕ). length (fitting t o) + n) p.answers ∙ sym (ap length (both u) ∙ length-append (fitting t o) (fitting u (rest w at)));
    holds = put_rest (fitting t o) (fitting u (rest w at)) w o ys at k v.answers v.holds p.holds ∙ ap (λ (l : List ℕ). l ++ drop (at + k) o) (sym (both u));
  }

-- An array of n bytes that has room for the text: by its length alone, since a long array is not to be counted out.
pub in_array : (n : ℕ) {t o w : List ℕ} {k : ℕ} → length o ≡ n → length t ≤ n → Printed t o w k → Whole t o w k
in_array n e h v = print_all v (omega arith)

pub page : {t o w : List ℕ} {k : ℕ} → Whole t o w k → take k w ≡ t
page {t} {o} {w} {k} v = rw v.holds (take_at t (drop k o) k (sym v.count))

-- The loop over the instructions.
--     Going                    n instructions were read, to the records rs; the next is looked for at `at`
--     none, start              a text without instructions, and the first instruction
--     go_on, go-end, go-bad    an instruction that is not the last, the last, a refusal
use mathlib.Core.Path.{◌≡◌, refl, ap, ◌∙◌}
use mathlib.Core.Bool.{cond}
use mathlib.Core.List.{List, [], ◌∷◌, ◌++◌}
use Prim.Native.Nat.{ℕ, suc, ◌+◌, ◌-◌, ◌≤◌, ◌<◌}
use native.Mathlib.Omega.{arith}
use lib.Dec.{ltb}
use lib.ListN.{length, length-append}
use borrow.Author.Tests.{ne_eqb, eq-eqb, lt-ltb, le-ltb}
use Rattle.std.specs.Prelude.{Ok, Err}
use Rattle.rules.specs.Record.{Rec}
use Rattle.text.specs.declared.Sort.TheVariants.{Blank}
use Rattle.text.specs.declared.TextRefusal.{TextRefusal}
use Rattle.text.specs.Bytes.{span}
use Rattle.text.specs.Reading.{Next, made, bad, next_of, reads, refused, onwards, read_from, read_text}
use Rattle.label_numbers.specs.Labels.{labels_of}
use Rattle.reader.specs.Steps.{Stepped}

-- p are the places of the labels so far
pub record Going (w : List ℕ) (es : List (List ℕ)) (at n : ℕ) (p : List ℕ) (rs : List Rec) : Type 0 where
  pub here : at ≤ length w
  pub few : n ≤ at
  pub many : length rs ≡ n
  pub whole : read_text w es ≡ read_from (length w + 1 - n) w es at (labels_of w p) rs

pub one_more : (rs : List Rec) (r : Rec) (n : ℕ) → length rs ≡ n → length (rs ++ (r ∷ [])) ≡ n + 1
one_more rs r n e = length-append rs (r ∷ []) ∙ ap (λ m. m + 1) e

module _ (w : List ℕ) (es : List (List ℕ)) where
  pub none : span Blank w 0 (length w) ≡ length w → read_text w es ≡ reads []
  unfolding read_text
  none e = rw (eq-eqb (span Blank w 0 (length w)) (length w) e)

  pub start : (span Blank w 0 (length w) ≡ length w → ⊥) → Going w es 0 0 [] []
  unfolding read_text
  start h = record {
    here = omega arith;
    few = omega arith;
    many = refl;
    whole = let e : length w + 1 - 0 ≡ length w + 1 = omega arith in rw (ne_eqb (span Blank w 0 (length w)) (length w) h, e);
  }

  module _ {at n : ℕ} {p : List ℕ} {rs : List Rec} (g : Going w es at n p rs) (p' : List ℕ) where
    -- the whole, one instruction taken out
    turn : (q : Next) → q ≡ next_of w es (labels_of w p) at → read_text w es
        ≡ onwards q (λ r us e. cond (ltb (length w) e) (reads (rs ++ (r ∷ []))) (read_from (length w + 1 - (n + 1)) w es e us (rs ++ (r ∷ []))))
    unfolding read_from
    turn q e =
        let h = g.here in let f = g.few in
        let m : length w + 1 - n ≡ suc (length w + 1 - (n + 1)) = omega arith in
        g.whole ∙ rw (m, e)

    pub go-bad : (r : TextRefusal) → Stepped w es p at (Err r) p' → read_text w es ≡ refused r
    go-bad r s = turn (bad r) s.next

    module _ {r : Rec} {e : ℕ} (s : Stepped w es p at (Ok (r, e)) p') where
      pub go-end : length w < e → read_text w es ≡ reads (rs ++ (r ∷ []))
      go-end lt = turn (made r (labels_of w p') e) s.next ∙ rw (lt-ltb (length w) e lt)

      pub go_on : e ≤ length w → Going w es e (n + 1) p' (rs ++ (r ∷ []))
      go_on le = record {
        here = le;
        few = omega (arith, s.ahead.0, g.few);
        many = one_more rs r n g.many;
        whole = turn (made r (labels_of w p') e) s.next ∙ rw (le-ltb (length w) e le);
      }

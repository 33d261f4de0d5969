-- In an accepted routine every goto has a target, and the target is a label record.
use mathlib.Core.Path.{◌≡◌, refl, ap, subst, ◌∙◌}
use Prim.Native.Nat.{ℕ, zero, suc}
use native.Mathlib.Omega.{arith}
use mathlib.Core.Bool.{Bool, true, false, cond, ◌||◌}
use Rattle.std.specs.Prelude.{Option, None, Some, slice_get}
use mathlib.Core.List.{List, [], ◌∷◌}
use lib.ListN.{drop}
use borrow.Author.Tests.{eqb-true}
use Rattle.rules.specs.Numbers.{at}
use Rattle.rules.specs.Instruction.{conditional, loop, Op, act, test, jump, label, goto, goto2, header, separator, end, call, return, encode, ops}
use Rattle.rules.specs.Labels.{is_label, label_from, label_after, target, label_behind, target2, missing, lost, lost_from, lost_goto}
use Rattle.laws.proofs.Refusals.{admitted}
use Rattle.faithful.specs.Promises.{Aimed, Gotos}
use Rattle.faithful.proofs.Inner.Places.{clash}

-- ## What a lookup finds is the label

is_label_lem : (s : ℕ) (o : Op) → is_label s o ≡ true → o ≡ label s
unfolding is_label encode
is_label_lem s (label t) e = ap label (eqb-true t s e)
is_label_lem s (act a) e = clash cc
is_label_lem s (test true a) e = clash cc
is_label_lem s (test false a) e = clash cc
is_label_lem s (jump k) e = clash cc
is_label_lem s (goto t) e = clash cc
is_label_lem s (goto2 t u) e = clash cc
is_label_lem s (header conditional true a) e = clash cc
is_label_lem s (header conditional false a) e = clash cc
is_label_lem s (header loop true a) e = clash cc
is_label_lem s (header loop false a) e = clash cc
is_label_lem s separator e = clash cc
is_label_lem s (end conditional) e = clash cc
is_label_lem s (end loop) e = clash cc
is_label_lem s (call k) e = clash cc
is_label_lem s return e = clash cc

-- the records behind record i, one by one
next : (L : List Op) (i : ℕ) (o : Op) (os : List Op) → drop i L ≡ o ∷ os → (slice_get L i ≡ Some o) × (drop (suc i) L ≡ os)
next [] zero o os e = clash cc
next [] (suc i) o os e = clash cc
next (x ∷ L) zero o os e = (cc, cc)
next (x ∷ L) (suc i) o os e = next L i o os e

found_from : (L : List Op) (s i m : ℕ) (os : List Op) → drop i L ≡ os → label_from s (suc i) os ≡ Some m → at L m ≡ Some (label s)
unfolding label_from at
found_from L s i m [] d e = clash cc
found_from L s i m (o ∷ os) d e = by (is_label s o) refl e (λ f. found_from L s (suc i) m os (next L i o os d).1 f)
  where
    by : (t : Bool) → is_label s o ≡ t → cond t (Some (suc i)) (label_from s (suc (suc i)) os) ≡ Some m
        → (label_from s (suc (suc i)) os ≡ Some m → at L m ≡ Some (label s)) → at L m ≡ Some (label s)
    by true q f later =
        let h : suc i ≡ m = cc in
        subst (λ (k : ℕ). at L k ≡ Some (label s)) h ((next L i o os d).0 ∙ ap Some (is_label_lem s o q))
    by false q f later = later f

found_after : (L : List Op) (s i m : ℕ) → label_after L i s ≡ Some m → at L m ≡ Some (label s)
unfolding label_after
found_after L s i m e = found_from L s i m (drop i L) refl e

-- ## No goto is lost

kept : (L : List Op) (i : ℕ) (os : List Op) (j : ℕ) (o : Op) → lost_from L (suc i) os ≡ 0 → slice_get os j ≡ Some o → lost L o ≡ false
unfolding lost_from
kept L i [] j o e f = clash cc
kept L i (x ∷ os) j o e f = by (lost L x) refl j e f (λ k d g. kept L (suc i) os k o d g)
  where
    by : (t : Bool) → lost L x ≡ t → (j : ℕ) → cond t (suc i) (lost_from L (suc (suc i)) os) ≡ 0 → slice_get (x ∷ os) j ≡ Some o
        → ((k : ℕ) → lost_from L (suc (suc i)) os ≡ 0 → slice_get os k ≡ Some o → lost L o ≡ false) → lost L o ≡ false
    by true q j e f later = absurd (omega arith)
    by false q zero e f later = let h : x ≡ o = cc in subst (λ (y : Op). lost L y ≡ false) h q
    by false q (suc j) e f later = later j e f

aim : (L : List Op) (s i : ℕ) (r : Option ℕ) → label_after L i s ≡ r → missing r ≡ false → Aimed L s r
unfolding missing
aim L s i None e h = clash cc
aim L s i (Some m) e h = record { place = m; there = refl; labelled = found_after L s i m e }

module _ (L : List Op) (z : lost_goto L ≡ 0) where
  aimed : (i : ℕ) (o : Op) → at L i ≡ Some o → lost L o ≡ false
  unfolding lost_goto at
  aimed zero o e = clash cc
  aimed (suc i) o e = kept L 0 L i o z e

  single : (i s : ℕ) → at L i ≡ Some (goto s) → Aimed L s (target L s)
  unfolding target lost encode
  single i s e = aim L s 0 (target L s) refl (by (missing (target L s)) (aimed i (goto s) e))
    where
      by : (t : Bool) → (t || false) ≡ false → t ≡ false
      by true h = clash cc
      by false h = refl

  chained : (i s t : ℕ) → at L i ≡ Some (goto2 s t) → Aimed L t (target2 L s t)
  unfolding target2 label_behind lost encode missing
  chained i s t e = by (target L s) (aimed i (goto2 s t) e)
    where
      by : (r : Option ℕ) → missing (label_behind L r t) ≡ false → Aimed L t (label_behind L r t)
      by None h = clash cc
      by (Some k) h = aim L t k (label_after L k t) refl h

pub gotos : Gotos
gotos f n e i = let z = (admitted f n e).aimed in (single (ops f) z i, chained (ops f) z i)

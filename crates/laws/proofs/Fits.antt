-- Every stage keeps its numbers within their fields, so that what it writes is read back.
--     all_fit-named, all_fit-small, fit-read, fit-ops     a list that fits is read back from its bytes, whatever follows them
--     labels-fit, calls-fit, loops-fit, conditionals-fit     each stage fits where what it is given fits and what it gives is short
--     stages_fit     all of them, where the converted length is at most 4,096
use mathlib.Core.Path.{◌≡◌, sym, ap, ◌∙◌}
use Prim.Native.Nat.{ℕ, zero, suc, ◌+◌, ◌≤◌}
use native.Mathlib.Omega.{arith}
use mathlib.Core.Bool.{Bool, true, false, cond}
use Rattle.std.specs.Prelude.{Option, None, Some}
use mathlib.Core.List.{List, [], ◌∷◌, ◌++◌, map, map-append}
use lib.ListN.{length, drop, length-drop, length-map}
use Rattle.rules.specs.Record.{bytes_of, records_of}
use Rattle.rules.specs.Instruction.{conditional, loop, Op, act, test, jump, label, goto, goto2, header, separator, end, call, return, encode, ops, file, decode}
use Rattle.rules.specs.Numbers.{each, or_zero}
use Rattle.rules.specs.SecondLevel.{Group, members, renumber, sent, laid, removed}
use Rattle.rules.specs.Skip.{converted_length}
use Rattle.rules.specs.Labels.{is_label, label_from, label_after, target, label_behind, target2, unlabel, labels}
use Rattle.rules.specs.Calls.{chain, uncall, calls}
use Rattle.rules.specs.Loops.{unloop, loops}
use Rattle.rules.specs.Conditionals.{uncond, conditionals}
use Rattle.rules.specs.Convert.{convert}
use Rattle.laws.proofs.Records.{All, all_append, Small, read_back, records_back}
use Rattle.laws.proofs.Instructions.{Fit, Named, fit-named, fit_small, decode_encodes}
use Rattle.laws.proofs.SecondLevel.{renumber_in}
use Rattle.laws.proofs.Length.{laid_grows, converted_length_lem, labels_length, labels-room, calls-room, loops-room}

pub all_fit-named : (L : List Op) → All Fit L → All Named L
all_fit-named [] h = tt
all_fit-named (o ∷ os) h = (fit-named o h.0, all_fit-named os h.1)

pub all_fit-small : (L : List Op) → All Fit L → All Small (map encode L)
all_fit-small [] h = tt
all_fit-small (o ∷ os) h = (fit_small o h.0, all_fit-small os h.1)

module _ (L : List Op) (h : All Fit L) where
  pub fit-read : (t : List ℕ) → map decode (records_of (length L) (file L ++ t)) ≡ L
  unfolding file
  fit-read t =
      ap (λ (n : ℕ). map decode (records_of n (bytes_of (map encode L) ++ t))) (sym (length-map L encode))
      ∙ ap (map decode) (read_back (map encode L) t (all_fit-small L h))
      ∙ decode_encodes L (all_fit-named L h)

  pub fit-ops : ops (file L) ≡ L
  unfolding ops file
  fit-ops = ap (map decode) (records_back (map encode L) (all_fit-small L h)) ∙ decode_encodes L (all_fit-named L h)

-- ## Stage 1

label_in : (s i : ℕ) (os : List Op) → or_zero (label_from s i os) ≤ i + length os
unfolding label_from or_zero
label_in s i [] = omega arith
label_in s i (o ∷ os) = by (is_label s o) (label_in s (suc i) os)
  where
    by : (t : Bool) → or_zero (label_from s (suc i) os) ≤ suc i + length os → or_zero (cond t (Some i) (label_from s (suc i) os)) ≤ i + length (o ∷ os)
    by true h = omega arith
    by false h = omega arith

module _ (L : List Op) (n : ℕ) (l : length L ≤ n) where
  pub target_in : (s : ℕ) → or_zero (target L s) ≤ n + 1
  unfolding target label_after
  target_in s = omega (arith, label_in s 1 L)

  pub target2_in : (s t : ℕ) → or_zero (target2 L s t) ≤ n + 2
  unfolding target2 label_behind label_after or_zero
  target2_in s t = by (target L s) (target_in s)
    where
      by : (o : Option ℕ) → or_zero o ≤ n + 1 → or_zero (label_behind L o t) ≤ n + 2
      by None h = omega arith
      by (Some i) h = omega (arith, label_in t (suc i) (drop i L), length-drop i L)

  unlabel-fit : n ≤ 9997 → (p : ℕ) (o : Op) → p ≤ n → Fit o → Fit (unlabel L p o)
  unfolding unlabel
  unlabel-fit b p (act a) q h = h
  unlabel-fit b p (test v a) q h = h
  unlabel-fit b p (jump k) q h = h
  unlabel-fit b p (label s) q h = omega arith
  unlabel-fit b p (goto s) q h = omega (arith, target_in s)
  unlabel-fit b p (goto2 s t) q h = omega (arith, target2_in s t)
  unlabel-fit b p (header c v a) q h = h
  unlabel-fit b p separator q h = h
  unlabel-fit b p (end c) q h = h
  unlabel-fit b p (call k) q h = h
  unlabel-fit b p return q h = h

pub labels-fit : (L : List Op) → length L ≤ 9997 → All Fit L → All Fit (labels L)
unfolding labels each
labels-fit L l h = by 1 L (omega arith) h
  where
    by : (p : ℕ) (os : List Op) → p + length os ≤ suc (length L) → All Fit os → All Fit (each (unlabel L) p os)
    by p [] q h = tt
    by p (o ∷ os) q h = (unlabel-fit L (length L) (omega arith) l p o (omega arith) h.0, by (suc p) os (omega arith) h.1)

-- ## The other stages: a jump is renumbered, and so fits whatever it was

module _ (to : ℕ → ℕ) (b : (k : ℕ) → to k ≤ 9999) where
  laid-fit : (f : ℕ → Op → Group) (n : ℕ) → ((p : ℕ) (o : Op) → p ≤ n → Fit o → All Fit (map (sent to) (members (f p o))))
      → (p : ℕ) (os : List Op) → p + length os ≤ suc n → All Fit os → All Fit (laid to (each f p os))
  unfolding laid each
  laid-fit f n g p [] l h = tt
  laid-fit f n g p (o ∷ os) l h = all_append Fit (map (sent to) (members (f p o))) (laid to (each f (suc p) os)) (g p o (omega arith) h.0) (laid-fit f n g (suc p) os (omega arith) h.1)

  chain-fit : (j : ℕ) → j ≤ 9999 → All Fit (map (sent to) (members (chain j)))
  unfolding chain members sent
  chain-fit zero l = (b 0, tt)
  chain-fit (suc j) l = (
    l,
    (tt, (b (suc j), (tt, rw (map-append (sent to) (members (chain j)) (end conditional ∷ [])) (all_append Fit (map (sent to) (members (chain j))) (end conditional ∷ []) (chain-fit j (omega arith)) (tt, tt))))),
  )

  uncall-fit : (n : ℕ) → n ≤ 9998 → (p : ℕ) (o : Op) → p ≤ n → Fit o → All Fit (map (sent to) (members (uncall n p o)))
  unfolding uncall members sent
  uncall-fit n l p (act a) q h = (h, tt)
  uncall-fit n l p (test v a) q h = (h, tt)
  uncall-fit n l p (jump k) q h = (b k, tt)
  uncall-fit n l p (label s) q h = (h, tt)
  uncall-fit n l p (goto s) q h = (h, tt)
  uncall-fit n l p (goto2 s t) q h = (h, tt)
  uncall-fit n l p (header c v a) q h = (h, tt)
  uncall-fit n l p separator q h = (h, tt)
  uncall-fit n l p (end c) q h = (h, tt)
  uncall-fit n l p (call k) q h = (omega arith, (b k, tt))
  uncall-fit n l p return q h = chain-fit n (omega arith)

  unloop-fit : (L : List Op) (p : ℕ) (o : Op) → Fit o → All Fit (map (sent to) (members (unloop L p o)))
  unfolding unloop members sent
  unloop-fit L p (act a) h = (h, tt)
  unloop-fit L p (test v a) h = (h, tt)
  unloop-fit L p (jump k) h = (b k, tt)
  unloop-fit L p (label s) h = (h, tt)
  unloop-fit L p (goto s) h = (h, tt)
  unloop-fit L p (goto2 s t) h = (h, tt)
  unloop-fit L p (header conditional v a) h = (h, tt)
  unloop-fit L p (header loop v a) h = (h, (b _, tt))
  unloop-fit L p separator h = (h, tt)
  unloop-fit L p (end conditional) h = (h, tt)
  unloop-fit L p (end loop) h = (b _, tt)
  unloop-fit L p (call k) h = (h, tt)
  unloop-fit L p return h = (h, tt)

  uncond-fit : (L : List Op) (p : ℕ) (o : Op) → Fit o → All Fit (map (sent to) (members (uncond L p o)))
  unfolding uncond members sent
  uncond-fit L p (act a) h = (h, tt)
  uncond-fit L p (test v a) h = (h, tt)
  uncond-fit L p (jump k) h = (b k, tt)
  uncond-fit L p (label s) h = (h, tt)
  uncond-fit L p (goto s) h = (h, tt)
  uncond-fit L p (goto2 s t) h = (h, tt)
  uncond-fit L p (header conditional v a) h = (h, (b _, tt))
  uncond-fit L p (header loop v a) h = (h, tt)
  uncond-fit L p separator h = (b _, tt)
  uncond-fit L p (end conditional) h = (b _, tt)
  uncond-fit L p (end loop) h = (h, tt)
  uncond-fit L p (call k) h = (h, tt)
  uncond-fit L p return h = (h, tt)

-- A stage whose groups fit, fits where it is short.
removed-fit : (f : ℕ → Op → Group) (L : List Op) → length (removed (each f 1 L)) ≤ 9998
    → ((to : ℕ → ℕ) → ((k : ℕ) → to k ≤ 9999) → (p : ℕ) (o : Op) → p ≤ length L → Fit o → All Fit (map (sent to) (members (f p o))))
    → All Fit L → All Fit (removed (each f 1 L))
unfolding removed
removed-fit f L l g h =
    let to = renumber (each f 1 L) in
    let b : (k : ℕ) → to k ≤ 9999 = λ k. omega (arith, renumber_in f to L (jump 0) k) in
    laid-fit to b f (length L) (g to b) 1 L (omega arith) h

module _ (L : List Op) where
  pub calls-fit : length (calls L) ≤ 9998 → All Fit L → All Fit (calls L)
  unfolding calls removed
  calls-fit l h =
      removed-fit (uncall (length L)) L l
      (λ to b. uncall-fit to b (length L) (omega (arith, laid_grows (uncall (length L)) (renumber (each (uncall (length L)) 1 L)) 1 L))) h

  pub loops-fit : length (loops L) ≤ 9998 → All Fit L → All Fit (loops L)
  unfolding loops
  loops-fit l h = removed-fit (unloop L) L l (λ to b p o q. unloop-fit to b L p o) h

  pub conditionals-fit : length (conditionals L) ≤ 9998 → All Fit L → All Fit (conditionals L)
  unfolding conditionals
  conditionals-fit l h = removed-fit (uncond L) L l (λ to b p o q. uncond-fit to b L p o) h

-- Every stage of a routine that is not refused 7.
pub record Stages (L : List Op) : Type 0 where
  pub first : All Fit (labels L)
  pub second : All Fit (calls (labels L))
  pub third : All Fit (loops (calls (labels L)))
  pub fourth : All Fit (convert L)

pub stages_fit : (L : List Op) → converted_length L ≤ 4096 → All Fit L → Stages L
unfolding convert
stages_fit L l h =
    let a = labels-fit L (omega (arith, labels_length L, labels-room L)) h in
    let b = calls-fit (labels L) (omega (arith, calls-room L)) a in
    let c = loops-fit (calls (labels L)) (omega (arith, loops-room L)) b in
    record { first = a; second = b; third = c; fourth = conditionals-fit (loops (calls (labels L))) (omega (arith, converted_length_lem L)) c }

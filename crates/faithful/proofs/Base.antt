-- An accepted file is that of its instructions. What conversion gives is accepted as a base, and read back from its bytes: its kinds are
-- 1 to 4, its numbers fit their fields.
-- From the stages, the length law and the laws of fields of `rules`.
use mathlib.Core.Path.{◌≡◌, refl, ap, ◌∙◌, subst}
use Prim.Native.Nat.{◌≤◌}
use native.Mathlib.Omega.{arith}
use lib.ListN.{length-map}
use lib.Dec.{leb-zero}
use borrow.Author.Tests.{le-leb}
use Rattle.std.specs.Prelude.{◌∷◌, Ok}
use Rattle.rules.specs.Words.{ℕ, zero, suc, true, false, Some, List, [], map, slice_get}
use Rattle.rules.specs.declared.Notation.{Notation}
use Rattle.rules.specs.declared.Notation.TheVariants.{Routine, Base}
use Rattle.rules.specs.Numbers.{at, names}
use Rattle.rules.specs.Table.{row_of}
use Rattle.rules.specs.Instruction.{Act, outside, push, pop, compare, conditional, loop, Op, act, test, jump, label, goto, goto2, header, separator, end, call, return, act_rec, encode, ops, file}
use Rattle.rules.specs.Checks.{most, listed}
use Rattle.rules.specs.Convert.{convert}
use Rattle.rules.proofs.Computes.{computes}
use Rattle.laws.proofs.Records.{All}
use Rattle.laws.proofs.Instructions.{FitAct, Fit, Absolute, accepted-ops, accepted-records, accepted-file}
use Rattle.laws.proofs.Length.{converted_length_lem}
use Rattle.laws.proofs.Fits.{stages_fit, fit-ops}
use Rattle.faithful.specs.Promises.{Encoded, Encodings, Length, BaseAccepted}
use Rattle.faithful.proofs.Inner.Turns.{rank, Good}
use Rattle.faithful.proofs.Demand.{converted}
use Rattle.laws.proofs.Refusals.{Fine, held, admitted}
use Rattle.faithful.proofs.Accepted.{Proper, accepted}
use Rattle.faithful.proofs.Inner.Places.{clash}

-- ## A record of a base

proper-act : (k : ℕ) (a : Act) → row_of Base k ≡ row_of Base 1 → names 3 k ≡ true → FitAct a → Proper Base (act_rec k a)
unfolding computes
proper-act k (outside n) r e f = record { kind-listed = ap listed r; fields_in = rw (r, le-leb 1 n f.0, le-leb n 999 f.1); small = omega arith }
proper-act k (push y) r e f = record { kind-listed = ap listed r; fields_in = rw (r, e, le-leb y 9999 f); small = omega arith }
proper-act k pop r e f = record { kind-listed = ap listed r; fields_in = rw (r, e); small = omega arith }
proper-act k (compare y) r e f = record { kind-listed = ap listed r; fields_in = rw (r, e, le-leb y 9999 f); small = omega arith }

proper : (o : Op) → rank o ≤ 0 → Fit o → Proper Base (encode o)
unfolding computes
proper (act a) r f = proper-act 1 a refl refl f
proper (test true a) r f = proper-act 2 a refl refl f
proper (test false a) r f = proper-act 3 a refl refl f
proper (jump k) r f = record { kind-listed = refl; fields_in = rw (leb-zero k, le-leb k 9999 f); small = omega arith }
proper (label s) r f = absurd (omega arith)
proper (goto s) r f = absurd (omega arith)
proper (goto2 s t) r f = absurd (omega arith)
proper (header conditional v a) r f = absurd (omega arith)
proper (header loop v a) r f = absurd (omega arith)
proper separator r f = absurd (omega arith)
proper (end conditional) r f = absurd (omega arith)
proper (end loop) r f = absurd (omega arith)
proper (call k) r f = absurd (omega arith)
proper return r f = absurd (omega arith)

all_proper : (os : List Op) → Good 0 os → All Fit os → All (Proper Base) (map encode os)
all_proper [] r f = tt
all_proper (o ∷ os) r f = (proper o r.0 f.0, all_proper os r.2 f.1)

-- ## The base

rank_at : (os : List Op) (k j : ℕ) (o : Op) → Good k os → slice_get os j ≡ Some o → rank o ≤ k
rank_at [] k j o g e = clash cc
rank_at (x ∷ os) k zero o g e = let h : x ≡ o = cc in subst (λ (y : Op). rank y ≤ k) h g.0
rank_at (x ∷ os) k (suc j) o g e = rank_at os k j o g.2 e

kind_of_lem : (o : Op) → rank o ≤ 0 → (1 ≤ (encode o).kind) × ((encode o).kind ≤ 4)
unfolding encode
kind_of_lem (act a) r = omega arith
kind_of_lem (test true a) r = omega arith
kind_of_lem (test false a) r = omega arith
kind_of_lem (jump k) r = omega arith
kind_of_lem (label s) r = absurd (omega arith)
kind_of_lem (goto s) r = absurd (omega arith)
kind_of_lem (goto2 s t) r = absurd (omega arith)
kind_of_lem (header conditional v a) r = absurd (omega arith)
kind_of_lem (header loop v a) r = absurd (omega arith)
kind_of_lem separator r = absurd (omega arith)
kind_of_lem (end conditional) r = absurd (omega arith)
kind_of_lem (end loop) r = absurd (omega arith)
kind_of_lem (call k) r = absurd (omega arith)
kind_of_lem return r = absurd (omega arith)

-- ## An accepted file is that of its instructions

encoded : (nt : Notation) → Absolute nt → (f : List ℕ) → Fine nt f → Encoded f
encoded nt a f h = record { its_records = accepted-records nt f h.faultless a; its_bytes = λ b. accepted-file nt f h.faultless a b h.even }

pub encodings : Encodings
encodings f n = (λ e. encoded Routine tt f (admitted f n e).fines, λ e. encoded Base tt f (held Base f n e).fines)

pub base_length_lem : Length
base_length_lem = converted_length_lem

pub base_accepted : BaseAccepted
unfolding ops file at most
base_accepted s n e =
    let a = admitted s n e in
    let L = ops s in
    let c = converted L a.allowed in
    let f = (stages_fit L a.room (accepted-ops Routine s a.fines.faultless tt)).fourth in
    let l = length-map (convert L) encode ∙ converted_length_lem L in
    let r = a.room in
    record {
      kinds = kinds (convert L) c.good;
      checked = accepted Base (map encode (convert L)) (omega arith) (all_proper (convert L) c.good f) ∙ ap Ok l;
      read_back = fit-ops (convert L) f;
    }
  where
    kinds : (os : List Op) → Good 0 os → (i : ℕ) (o : Op) → at os i ≡ Some o → (1 ≤ (encode o).kind) × ((encode o).kind ≤ 4)
    kinds os g zero o e = clash cc
    kinds os g (suc j) o e = kind_of_lem o (rank_at os 0 j o g e)

-- Absolute to relative and back: an accepted base becomes an accepted relative base, none of its numbers is far, and back it is the same
-- records and the same bytes. From the laws of fields of `rules`, record by record.
use mathlib.Core.Path.{◌≡◌, refl, sym, ap, ◌∙◌, subst}
use Prim.Native.Nat.{◌≤◌}
use native.Mathlib.Omega.{arith}
use lib.Dec.{leb-zero}
use borrow.Author.Tests.{le-leb, lt-leb, lt-ltb, le-ltb}
use Rattle.std.specs.Prelude.{◌+◌, ◌-◌, ◌∷◌, Ok}
use Rattle.rules.specs.Words.{ℕ, zero, suc, true, false, List, [], length}
use Rattle.rules.specs.declared.Notation.TheVariants.{Base, Relative}
use Rattle.rules.specs.Record.{Rec, rec, bytes_of, count, records}
use Rattle.rules.specs.Instruction.{Act, outside, push, pop, compare, conditional, loop, Op, act, test, jump, label, goto, goto2, header, separator, end, call, return, x_of, act_rec, encode, decode}
use Rattle.rules.specs.Numbers.{each}
use Rattle.rules.specs.Checks as Checks
use Rattle.rules.specs.Checks.{most, field_fault}
use Rattle.rules.specs.Table.{row_of}
use Rattle.rules.specs.Relative.{relative_at, to_relative, absolute_at, to_absolute, far_from, far}
use Rattle.rules.proofs.Computes.{computes}
use Rattle.laws.proofs.Records.{All, Small, records-length, records_back}
use Rattle.laws.proofs.SecondLevel.{each-length}
use Rattle.laws.proofs.Instructions.{FitAct, Fit, fit_small, accepted_back, accepted-fit, no_faults, accepted_bytes}
use Rattle.faithful.specs.Promises.{RelativeAndBack}
use Rattle.faithful.proofs.Inner.Places.{clash, in_or_out}
use Rattle.laws.proofs.Refusals.{held}
use Rattle.faithful.proofs.Accepted.{Proper, accepted}

-- ## A record at i

-- At i the record r becomes q.
record Turned (i : ℕ) (r q : Rec) : Type 0 where
  becomes : relative_at i r ≡ q
  listed : Proper Relative q
  back : absolute_at i q ≡ r
  near : r.x ≤ 9999

abbrev Translates : ℕ → Rec → Type 0
Translates i r = (q : Rec) × Turned i r q

number-proper : (k x : ℕ) → row_of Relative k ≡ row_of Base 4 → x ≤ 9999 → Proper Relative (rec k x 0)
unfolding computes
number-proper k x e h = record { kind-listed = ap Checks.listed e; fields_in = rw (e, leb-zero x, le-leb x 9999 h); small = omega arith }

jump_turns : (i k : ℕ) → 1 ≤ i → i ≤ 9999 → k ≤ 9999 → Translates i (rec 4 k 0)
unfolding computes
jump_turns i zero l h f =
    let stop : Proper Relative (rec 19 0 0) = record { kind-listed = refl; fields_in = refl; small = omega arith } in
    (rec 19 0 0, record { becomes = refl; listed = stop; back = refl; near = f })
jump_turns i (suc k) l h f = in_or_out (suc k) i
    (λ g. (
      rec 17 (suc k - i) 0,
      record {
        becomes = rw (le-leb i (suc k) g);
        listed = number-proper 17 (suc k - i) refl (omega arith);
        back = ap (λ (x : ℕ). rec 4 x 0) (omega arith);
        near = f;
      },
    ))
    (λ g. (
      rec 18 (i - suc k) 0,
      record {
        becomes = rw (lt-leb i (suc k) g);
        listed = number-proper 18 (i - suc k) refl (omega arith);
        back = rw (lt-ltb (i - suc k) i (omega arith)) (ap (λ (x : ℕ). rec 4 x 0) (omega arith));
        near = f;
      },
    ))

-- A record of kind 1 to 3 stays.
kept : (i k : ℕ) (a : Act) → relative_at i (act_rec k a) ≡ act_rec k a → absolute_at i (act_rec k a) ≡ act_rec k a → Proper Relative (act_rec k a)
    → FitAct a → Translates i (act_rec k a)
unfolding x_of
kept i k a e g f h = (act_rec k a, record { becomes = e; listed = f; back = g; near = low a h })
  where
    low : (a : Act) → FitAct a → x_of a ≤ 9999
    low (outside n) h = omega arith
    low (push y) h = omega arith
    low pop h = omega arith
    low (compare y) h = omega arith

not_there : {A : Type 0} → true ≡ false → A
not_there e = clash cc

op_turns : (i : ℕ) (o : Op) → 1 ≤ i → i ≤ 9999 → field_fault Base (encode o) ≡ false → Fit o → Translates i (encode o)
unfolding computes
op_turns i (act a) l h e f = kept i 1 a refl refl (record { kind-listed = refl; fields_in = e; small = fit_small (act a) f }) f
op_turns i (test true a) l h e f = kept i 2 a refl refl (record { kind-listed = refl; fields_in = e; small = fit_small (test true a) f }) f
op_turns i (test false a) l h e f = kept i 3 a refl refl (record { kind-listed = refl; fields_in = e; small = fit_small (test false a) f }) f
op_turns i (jump k) l h e f = jump_turns i k l h f
op_turns i (label s) l h e f = not_there e
op_turns i (goto s) l h e f = not_there e
op_turns i (goto2 s t) l h e f = not_there e
op_turns i (header conditional true a) l h e f = not_there e
op_turns i (header conditional false a) l h e f = not_there e
op_turns i (header loop true a) l h e f = not_there e
op_turns i (header loop false a) l h e f = not_there e
op_turns i separator l h e f = not_there e
op_turns i (end conditional) l h e f = not_there e
op_turns i (end loop) l h e f = not_there e
op_turns i (call k) l h e f = not_there e
op_turns i return l h e f = not_there e

record_turns : (i : ℕ) (r : Rec) → 1 ≤ i → i ≤ 9999 → field_fault Base r ≡ false → Translates i r
record_turns i r l h e =
    let b = accepted_back Base tt r e in
    subst (Translates i) b (op_turns i (decode r) l h (ap (field_fault Base) b ∙ e) (accepted-fit Base tt r e))

-- ## All of them

record All_turned (p : ℕ) (rs : List Rec) : Type 0 where
  fine : All (Proper Relative) (each relative_at p rs)
  near : far_from p (each relative_at p rs) ≡ 0
  same : each absolute_at p (each relative_at p rs) ≡ rs

all_turned : (p : ℕ) (rs : List Rec) → 1 ≤ p → p + length rs ≤ 9999 → All (λ r. field_fault Base r ≡ false) rs → All_turned p rs
unfolding each far_from
all_turned p [] l h a = record { fine = tt; near = refl; same = refl }
all_turned p (r ∷ rs) l h a =
    let u = (record_turns p r l (omega arith) a.0).1 in
    let s = all_turned (suc p) rs (omega arith) (omega arith) a.1 in
    record {
      fine = (subst (Proper Relative) (sym u.becomes) u.listed, s.fine);
      near = rw (u.becomes, u.back, le-ltb 9999 r.x u.near) s.near;
      same = rw (u.becomes, u.back, s.same);
    }

all_small : (rs : List Rec) → All (Proper Relative) rs → All Small rs
all_small [] h = tt
all_small (r ∷ rs) h = (h.0.small, all_small rs h.1)

pub relative_and_back : RelativeAndBack
unfolding to_relative to_absolute far most
relative_and_back s n e =
    let h = held Base s n e in
    let f = h.fines in
    let c = h.counted in
    let l = f.few in
    let t = all_turned 1 (records s) (omega arith) (omega (arith, records-length s)) (no_faults Base 1 (count s) s f.faultless) in
    let q = to_relative (records s) in
    let k = each-length relative_at 1 (records s) ∙ records-length s ∙ c in
    let b = records_back q (all_small q t.fine) in
    record {
      checked = accepted Relative q (omega arith) t.fine ∙ ap Ok k;
      read_back = b;
      near = t.near;
      same = t.same;
      same_bytes = λ x. ap (λ (rs : List Rec). bytes_of (to_absolute rs)) b ∙ ap bytes_of t.same ∙ accepted_bytes Base s f.faultless x f.even;
    }

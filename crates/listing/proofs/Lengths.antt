-- How long a text can get.
--     listing-length     a listing has at most 73,744: a first line of at most 16 and, for each of at most 4,096 records, one of at most 18
use Prim.Native.Nat.{ℕ, suc, ◌+◌, ◌*◌, ◌≤◌}
use native.Mathlib.Omega.{arith}
use mathlib.Core.Bool.{Bool, true, false, cond}
use mathlib.Core.List.{List, [], ◌∷◌, ◌++◌, map}
use lib.ListN.{length, length-append}
use lib.Dec.{eqb}
use Rattle.rules.specs.Record.{Rec}
use Rattle.rules.specs.Instruction.{Act, outside, push, pop, compare, conditional, loop, Op, act, test, jump, label, goto, goto2, header, separator, end, call, return, act_of, x_of, y_of, act_rec, encode}
use Rattle.laws.proofs.Records.{All}
use Rattle.laws.proofs.Instructions.{FitAct, Fit}
use Rattle.print.specs.Text.{ascii, decimal}
use Rattle.print.proofs.Decimal.{decimal-length}
use Rattle.words.specs.Text.{named, action, sign, instruction}
use Rattle.lines.specs.Text.{line, lines, listing}

-- Both fields are at most 9,999, as in every record of a base.
abbrev pub Narrow : Rec → Type 0
Narrow r = (r.x ≤ 9999) × (r.y ≤ 9999)

act_narrow : (k : ℕ) (a : Act) → FitAct a → Narrow (act_rec k a)
unfolding x_of y_of
act_narrow k (outside n) h = omega (arith, h.1)
act_narrow k (push y) h = omega arith
act_narrow k pop h = omega arith
act_narrow k (compare y) h = omega arith

fit_narrow : (o : Op) → Fit o → Narrow (encode o)
unfolding encode
fit_narrow (act a) h = act_narrow 1 a h
fit_narrow (test v a) h = act_narrow (cond v 2 3) a h
fit_narrow (jump k) h = omega arith
fit_narrow (label s) h = omega arith
fit_narrow (goto s) h = omega arith
fit_narrow (goto2 s t) h = omega arith
fit_narrow (header conditional v a) h = act_narrow (cond v 8 9) a h
fit_narrow (header loop v a) h = act_narrow (cond v 12 13) a h
fit_narrow separator h = omega arith
fit_narrow (end conditional) h = omega arith
fit_narrow (end loop) h = omega arith
fit_narrow (call k) h = omega arith
fit_narrow return h = omega arith

pub all_narrow : (L : List Op) → All Fit L → All Narrow (map encode L)
all_narrow [] h = tt
all_narrow (o ∷ L) h = (fit_narrow o h.0, all_narrow L h.1)

four : (n : ℕ) → n ≤ 9999 → length (decimal n) ≤ 4
four n h = decimal-length 3 n (omega arith)

action-length : (x y : ℕ) → x ≤ 9999 → y ≤ 9999 → length (action (act_of x y)) ≤ 11
unfolding action act_of
action-length x y h l = by (eqb x 1001) (eqb x 1002) (eqb x 1003)
  where
    by : (p q r : Bool) → length (action (cond p (push y) (cond q pop (cond r (compare y) (outside x))))) ≤ 11
    by true q r = simp length-append (omega (arith, four y l))
    by false true r = omega arith
    by false false true = simp length-append (omega (arith, four y l))
    by false false false = omega (arith, four x h)

sign-length : (k : ℕ) → length (sign k) ≤ 1
unfolding sign
sign-length k = by (eqb k 2) (eqb k 3)
  where
    by : (p q : Bool) → length (cond p (ascii "+") (cond q (ascii "-") [])) ≤ 1
    by true q = omega arith
    by false true = omega arith
    by false false = omega arith

instruction-length : (r : Rec) → Narrow r → length (instruction r) ≤ 12
unfolding instruction
instruction-length r h = by (eqb r.kind 4)
  where
    by : (p : Bool) → length (cond p (named "##" r.x) (sign r.kind ++ action (act_of r.x r.y))) ≤ 12
    by true = omega (arith, four r.x h.0)
    by false = simp length-append (omega (arith, sign-length r.kind, action-length r.x r.y h.0 h.1))

lines-length : (i : ℕ) (rs : List Rec) → All Narrow rs → i + length rs ≤ 10000 → length (lines i rs) ≤ 18 * length rs
unfolding lines line
lines-length i [] h l = omega arith
lines-length i (r ∷ rs) h l =
    simp length-append (omega (arith, four i (omega arith), instruction-length r h.0, lines-length (suc i) rs h.1 (omega arith)))

pub listing-length : (n : ℕ) (rs : List Rec) → n ≤ 999 → length rs ≤ 4096 → All Narrow rs → length (listing n rs) ≤ 73744
unfolding listing
listing-length n rs h l a =
    simp length-append (omega (arith, decimal-length 2 n (omega arith), four (length rs) (omega arith), lines-length 1 rs a (omega arith)))

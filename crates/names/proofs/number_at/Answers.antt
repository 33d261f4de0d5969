use mathlib.Core.Path.{◌≡◌, sym, ap, ◌∙◌}
use mathlib.Core.Bool.{true, false}
use Prim.Native.Nat.{◌+◌, ◌-◌}
use native.Mathlib.Omega.{arith}
use Rattle.text.specs.declared.Sort.TheVariants.{Digit}
use Rattle.text.specs.Bytes.{byte_at, in_sort, run}
use Rattle.text.specs.Names.{value_of}
use Rattle.text.proofs.Reach.{past_end, in_text}
use Rattle.runs.proofs.Runs.{run_off}
use Rattle.names.proofs.Digits.{tens_on, tens_small, ascii, number_on, number_off}
use Rattle.names.proofs.number_at.Goals as goal

pub returns-then-s-at : goal.returns-then-s-at
unfolding value_of
returns-then-s-at c = let a = c.args in sym (ap (λ u. value_of u 0) (run_off Digit a.s.now a.at 4 (past_end Digit a.s.now a.at (omega arith))))

pub returns-then-not-is_ascii_digit : goal.returns-then-not-is_ascii_digit
returns-then-not-is_ascii_digit c =
    let a = c.args in let l = c.loop-i in
    let e : in_sort Digit (byte_at a.s.now (a.at + l.i)) ≡ false = ap (in_sort Digit) (sym c.byte_at-b.ensures) ∙ sym (c.is_ascii_digit.ensures.value ∙ ascii _) ∙ c.if-not-is_ascii_digit.true in
    sym (l.invariant.2 ∙ number_off a.s.now a.at l.i l.v e)

pub loop-i-preserved : goal.loop-i-preserved
loop-i-preserved c =
    let a = c.args in let l = c.loop-i in
    let e : in_sort Digit (byte_at a.s.now (a.at + l.i)) ≡ true = ap (in_sort Digit) (sym c.byte_at-b.ensures) ∙ sym (c.is_ascii_digit.ensures.value ∙ ascii _) ∙ c.if-not-is_ascii_digit.false in (
      omega (arith, tens_on l.i, c.if-not-is_ascii_digit.ensures.cases),
      omega (arith, in_text Digit a.s.now (a.at + l.i) e),
      l.invariant.2 ∙ number_on a.s.now a.at l.i l.v c.loop-i-test.true e ∙ rw (c.from.ensures, c.byte_at-b.ensures),
    )

pub overflow_mul-v : goal.overflow_mul-v
overflow_mul-v c = omega (arith, tens_small c.loop-i.i c.loop-i-test.true)

pub overflow_add-v : goal.overflow_add-v
overflow_add-v c = omega (arith, tens_small c.loop-i.i c.loop-i-test.true)

pub returns : goal.returns
unfolding run value_of
returns c =
    let e : 4 - c.loop-i.i ≡ 0 = omega arith in
    sym (rw e at c.loop-i.invariant.2)

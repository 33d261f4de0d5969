use mathlib.Core.Path.{◌≡◌, sym, ap, ◌∙◌}
use Prim.Native.Nat.{◌-◌, ◌/◌, ◌+◌}
use native.Mathlib.Omega.{arith}
use lib.ListN.{length}
use Rattle.rules.specs.Numbers.{found}
use Rattle.text.specs.Names.{entries}
use Rattle.names.proofs.Found.{found_some}
use Rattle.name_index.specs.Index.{along}
use Rattle.name_index.proofs.Chain.{entries-length, along-none, along_out, along-end, along_here, along_on, entry_bytes}
use Rattle.name_index.proofs.go_along.Goals as goal
use Rattle.name_index.proofs.go_along.Goals.{then-e-eq0-via-then-e-eq0, then-e-eq0-via-else-e-eq0+then-count-e}

pub loop-init : goal.loop-init
loop-init c =
    let a = c.args in let n = entries-length (length a.l.now / 16) a.l.now in
    let z : length a.l.now / 16 - 0 ≡ length a.l.now / 16 = omega arith in
    record { many = n; left = ap (λ m. along m (entries a.l.now) a.next.now a.name.now a.from) (n ∙ sym z) }

pub returns-then-e-eq0 : goal.returns-then-e-eq0
returns-then-e-eq0 c =
    let v = c.loop in
    sym (ap found (v.invariant.left ∙ elim c.then-e-eq0.branch [
      | then-e-eq0-via-then-e-eq0 w ↦ along-none _ _ _ _ v.e w.if-e-eq0.true
      | then-e-eq0-via-else-e-eq0+then-count-e w ↦ along_out _ _ _ _ v.e (omega arith)
    ]))

pub returns-then-eq : goal.returns-then-eq
returns-then-eq c =
    let a = c.args in let v = c.loop in
    let s = sym (entry_bytes a.l.now a.name.now v.e c.if-e-eq0.false c.if-count-e.false) ∙ sym c.eq.ensures ∙ c.if-eq.true in
    sym (ap found (v.invariant.left ∙ along_here (entries a.l.now) a.next.now a.name.now _ v.e (omega arith) c.if-e-eq0.false (omega arith) s) ∙ found_some v.e c.if-e-eq0.false)

pub loop-preserved : goal.loop-preserved
loop-preserved c =
    let a = c.args in let u = c.loop in
    let s = sym (entry_bytes a.l.now a.name.now u.e c.if-e-eq0.false c.if-count-e.false) ∙ sym c.eq.ensures ∙ c.if-eq.false in
    let z : length a.l.now / 16 - u.counter - 1 ≡ length a.l.now / 16 - (u.counter + 1) = omega arith in
    let n = along_on (entries a.l.now) a.next.now a.name.now (length a.l.now / 16 - u.counter) u.e (omega arith) c.if-e-eq0.false (omega arith) s in
    record { many = u.invariant.many; left = u.invariant.left ∙ n ∙ rw (z, c.number_in-e.ensures) }

pub returns : goal.returns
returns c =
    let a = c.args in let l = c.loop in
    let z : length a.l.now / 16 - l.counter ≡ 0 = omega arith in
    sym (ap found (l.invariant.left ∙ ap (λ m. along m (entries a.l.now) a.next.now a.name.now l.e) z ∙ along-end (entries a.l.now) a.next.now a.name.now l.e))

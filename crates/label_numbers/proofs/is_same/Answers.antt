use mathlib.Core.Path.{sym, ◌∙◌}
use Prim.Native.Nat.{◌-◌}
use native.Mathlib.Omega.{arith}
use lib.ListN.{length}
use Rattle.label_numbers.proofs.Names.{none_there, same_full, same_short, same_not, same_past, same_differs}
use Rattle.label_numbers.proofs.is_same.Goals as goal

pub returns-then-s-q : goal.returns-then-s-q
returns-then-s-q c = let a = c.args in sym (none_there a.name.now a.s.now a.q c.if-s-q.true)

pub returns-then-rest-n : goal.returns-then-rest-n
returns-then-rest-n c =
    let a = c.args in let p = c.requires in
    sym (same_past a.name.now a.s.now a.q p.0 p.1 c.if-rest-n.true)

pub returns-then-name-n : goal.returns-then-name-n
returns-then-name-n c =
    let a = c.args in let p = c.requires in
    sym (same_differs a.name.now a.s.now a.q p.0 p.1 (length a.name.now - 1) (omega (arith, c.if-n-ne0.true)) c.if-name-n.true)

pub returns-then-n-eq16 : goal.returns-then-n-eq16
returns-then-n-eq16 c =
    let a = c.args in let p = c.requires in
    rw c.if-n-eq16.true (sym (same_full a.name.now a.s.now a.q p.0 p.1 (sym c.starts_with.ensures.value ∙ c.if-starts_with.true) c.if-n-eq16.true))

pub returns-else-n-eq16 : goal.returns-else-n-eq16
returns-else-n-eq16 c =
    let a = c.args in let p = c.requires in
    rw (c.in_sort.ensures, c.byte_at.ensures) (sym (same_short a.name.now a.s.now a.q p.0 p.1 (sym c.starts_with.ensures.value ∙ c.if-starts_with.true) c.if-n-eq16.false))

pub returns-else-starts_with : goal.returns-else-starts_with
returns-else-starts_with c =
    let a = c.args in let p = c.requires in
    c.if-starts_with.false ∙ sym (same_not a.name.now a.s.now a.q p.0 p.1 (sym c.starts_with.ensures.value ∙ c.if-starts_with.false))

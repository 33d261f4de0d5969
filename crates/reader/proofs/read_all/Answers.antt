use mathlib.Core.Path.{refl, sym, ◌∙◌}
use mathlib.Core.List.{[], ◌∷◌, ◌++◌}
use Prim.Native.Nat.{ℕ, ◌+◌}
use native.Mathlib.Omega.{arith}
use lib.ListN.{replicate, length-replicate}
use Rattle.text.specs.Names.{entries}
use Rattle.name_index.proofs.Chain.{index_finds}
use Rattle.name_index.proofs.Bytes.{zeros}
use Rattle.reader.proofs.Loop.{one_more, none, start, go_on, go-end, go-bad}
use Rattle.reader.proofs.Pages.{read_to, read-bad}
use Rattle.reader.proofs.read_all.Goals as goal

pub returns-then-span_of-s : goal.returns-then-span_of-s
returns-then-span_of-s c = let a = c.args in
    read_to refl [] 0 (none a.s.now (entries a.l.now) (sym c.span_of.ensures ∙ c.if-span_of-s.true)) refl (λ _. refl)

pub loop-record-init : goal.loop-record-init
loop-record-init c =
    let a = c.args in
    ([], start a.s.now (entries a.l.now) (λ e. c.if-span_of-s.false (c.span_of.ensures ∙ e)), (λ _. refl), refl, omega arith)

pub invariant_of-actions-clause-indexed : goal.invariant_of-actions-clause-indexed
invariant_of-actions-clause-indexed c =
    index_finds c.args.l.now (replicate 512 0) (replicate 1000 0) c.fill_index.ensures (omega arith) (omega (arith, length-replicate {A = ℕ} 512 0)) (zeros 512) (omega (arith, length-replicate {A = ℕ} 1000 0))

pub loop-record-preserved : goal.loop-record-preserved
loop-record-preserved c =
    let a = c.args in let v = c.loop-record.invariant in let h = c.keep.ensures in (
      v.0 ++ (c.in_ok-record.record ∷ []),
      go_on a.s.now (entries a.l.now) v.1 _ c.in_ok-record.ensures c.if-s-end.false,
      h.1 v.0 a.page.now v.1.many v.2,
      h.0 ∙ v.3,
      v.4,
    )

pub returns-then-s-end : goal.returns-then-s-end
returns-then-s-end c =
    let a = c.args in let v = c.loop-record.invariant in let h = c.keep.ensures in
    read_to (h.0 ∙ v.3) (v.0 ++ (c.in_ok-record.record ∷ [])) (c.loop-record.n + 1)
    (go-end a.s.now (entries a.l.now) v.1 _ c.in_ok-record.ensures c.if-s-end.true)
    (sym (one_more v.0 c.in_ok-record.record c.loop-record.n v.1.many)) (h.1 v.0 a.page.now v.1.many v.2)

pub returns-in_err-record : goal.returns-in_err-record
returns-in_err-record c =
    let a = c.args in let v = c.loop-record.invariant in
    read-bad v.3 _ c.from_residual.result (go-bad a.s.now (entries a.l.now) v.1 _ _ c.in_err-record.ensures) c.from_residual.ensures.1

use mathlib.Core.Path.{sym, ◌∙◌}
use native.Mathlib.Omega.{arith}
use lib.ListN.{replicate}
use Rattle.text.specs.declared.TextRefusal.TheVariants.{Name}
use Rattle.text.specs.Names.{entries}
use Rattle.text.specs.Reading.{read_text}
use Rattle.text.specs.Answers.{bytes_read}
use Rattle.reader.proofs.Whole.{refuses, passes_on, bad_list, good_list, few, bad}
use Rattle.reader.proofs.read_text.Goals as goal

pub returns-then-list_fault : goal.returns-then-list_fault
returns-then-list_fault c = let a = c.args in refuses (Name 0) (bad_list a.text.now a.names.now a.out.now (sym c.list_fault.ensures ∙ c.if-list_fault.true))

pub read_all-requires : goal.read_all-requires
read_all-requires c = (few c.args.names.now (sym c.list_fault.ensures ∙ c.if-list_fault.false), omega arith)

pub returns-in_err-n : goal.returns-in_err-n
returns-in_err-n c =
    let a = c.args in
    passes_on _ c.from_residual.result c.from_residual.ensures.1
    (good_list a.text.now a.names.now a.out.now (sym c.list_fault.ensures ∙ c.if-list_fault.false) ∙ bad (read_text a.text.now (entries a.names.now)) a.out.now _ c.in_err-n.ensures)

pub returns : goal.returns
unfolding bytes_read
returns c =
    let a = c.args in
    rw (good_list a.text.now a.names.now a.out.now (sym c.list_fault.ensures ∙ c.if-list_fault.false))
    (c.put_page.ensures (read_text a.text.now (entries a.names.now)) (replicate 4096 0) c.in_ok-n.ensures)

use mathlib.Core.Path.{sym, ap, ◌∙◌}
use Prim.Native.Nat.{◌*◌}
use native.Mathlib.Omega.{arith}
use lib.Seq.{length-take-le}
use Rattle.std.specs.Prelude.{Err}
use Rattle.reader.proofs.Whole.{refuses, read_as, long, no_room, fits_in, page, done}
use Rattle.reader.proofs.put_page.Goals as goal

pub returns-then-n-gt512 : goal.returns-then-n-gt512
returns-then-n-gt512 c q o h = let a = c.args in refuses c.into.result (long (read_as q a.n h) a.out.now c.if-n-gt512.true ∙ ap Err (sym c.into.ensures))

pub returns-then-out-n : goal.returns-then-out-n
returns-then-out-n c q o h =
    let a = c.args in
    refuses c.into-then-out-n.result (no_room (read_as q a.n h) a.out.now c.if-n-gt512.false c.if-out-n.true ∙ ap Err (sym c.into-then-out-n.ensures))

pub returns : goal.returns
returns c q o h =
    let a = c.args in let k = read_as q a.n h in
    done a.n (8 * a.n) (fits_in k a.out.now c.if-n-gt512.false c.if-out-n.false) (c.copy_from_slice.ensures.after ∙ page k a.out.now c.if-n-gt512.false)
    (omega (arith, c.copy_from_slice.ensures.len, length-take-le (8 * a.n) a.out.now c.if-out-n.false))

use mathlib.Core.Path.{◌≡◌, sym}
use Prim.Native.Nat.{ℕ}
use native.Mathlib.Omega.{arith}
use borrow.Author.Rules.{rules}
use lib.ListN.{length, replicate, length-replicate}
use lib.Seq.{length-take-le}
use Rattle.std.specs.Prelude.{Err}
use Rattle.listing.proofs.Converting.{refused_as, base_of, listed_as}
use Rattle.listing.proofs.list.Goals as goal

zeros : length (replicate {A = ℕ} 32768 0) ≡ 32768
zeros = length-replicate {A = ℕ} 32768 0

pub returns-in_err-n : goal.returns-in_err-n
returns-in_err-n c =
    let e : c.from_residual.result ≡ Err c.in_err-n.field-0.0 = search rules in
    rw e (refused_as c.convert.ensures zeros zeros c.in_err-n.was)

pub overflow_mul-base : goal.overflow_mul-base
overflow_mul-base c = omega (arith, base_of c.convert.ensures zeros zeros c.in_ok-n.was)

pub slice_bounds-base-end : goal.slice_bounds-base-end
slice_bounds-base-end c = (base_of c.convert.ensures zeros zeros c.in_ok-n.was).within

pub slice_bounds-show-end : goal.slice_bounds-show-end
slice_bounds-show-end c = sym (length-take-le _ _ (base_of c.convert.ensures zeros zeros c.in_ok-n.was).within)

pub show-requires : goal.show-requires
show-requires c = (base_of c.convert.ensures zeros zeros c.in_ok-n.was).fits

pub returns : goal.returns
returns c = listed_as c.convert.ensures zeros zeros c.in_ok-n.was c.show.ensures

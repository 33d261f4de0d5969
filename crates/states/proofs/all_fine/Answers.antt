use mathlib.Core.Path.{◌≡◌}
use Prim.Native.Nat.{max}
use native.Mathlib.Omega.{arith}
use borrow.Author.Rules.{rules}
use borrow.Author.Tests.{leb-true}
use Rattle.std.specs.List.{fold}
use Rattle.states.proofs.States.{fine}
use Rattle.states.proofs.all_fine.Goals as goal

pub returns : goal.returns
returns c e =
    let f : c.fold.result ≡ fold (λ m r. max m r) 0 c.args.replies.now = search rules in
    fine c.args.replies.now (omega (arith, f, leb-true _ 1 e))

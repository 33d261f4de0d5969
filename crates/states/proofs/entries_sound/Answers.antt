use mathlib.Core.Path.{◌≡◌, sym, ◌∙◌}
use Prim.Native.Nat.{◌-◌}
use native.Mathlib.Omega.{arith}
use lib.ListN.{take, drop}
use Rattle.std.proofs.lemmas.Grind.{common_steps}
use Rattle.states.proofs.States.{entries_split}
use Rattle.states.proofs.entries_sound.Goals as goal

pub returns-then-used_sound : goal.returns-then-used_sound
returns-then-used_sound c =
    let d = c.args.depth in
    let es = c.args.entries.now in
    let whole : take (96 - d) (drop d es) ≡ drop d es = grind (arith, common_steps) in
    rw whole at c.unused_sound.ensures ∙ sym (entries_split d es ∙ rw (sym c.used_sound.ensures ∙ c.if-used_sound.true))

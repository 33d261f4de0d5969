-- What an instruction is by its record's kind.
--     forms     the sixteen forms that the record's fields may be of
--     by_kind         a value that goes by the kind alone, by its table
use mathlib.Core.Path.{◌≡◌, sym, ap, ◌∙◌}
use Prim.Native.Nat.{ℕ, ◌≤◌}
use native.Mathlib.Nat.{add-zero}
use mathlib.Core.List.{List, ◌∷◌, map}
use lib.ListN.{get_or, get_or-map}
use Rattle.rules.specs.Record.{Rec}
use Rattle.rules.specs.Instruction.{Op, jump, act_of, written, decode}
use Rattle.laws.proofs.Instructions.{tabulate, tabulated}

abbrev pub forms : Rec → List Op
forms r = jump 0 ∷ written (act_of r.x r.y) r.x r.y

decode-map : {A : Type 0} (f : Op → A) (r : Rec) → f (decode r) ≡ get_or (map f (forms r)) r.kind (f (jump 0))
unfolding decode
decode-map f r = sym (get_or-map f (forms r) r.kind (jump 0))

pub by_kind : {A : Type 0} (f : Op → A) (g : ℕ → A) (r : Rec) → map f (forms r) ≡ tabulate g 0 17 → ((k : ℕ) → 17 ≤ k → g k ≡ f (jump 0)) → f (decode r) ≡ g r.kind
by_kind f g r e h =
    decode-map f r
    ∙ ap (λ xs. get_or xs r.kind (f (jump 0))) e
    ∙ tabulated g (f (jump 0)) 0 17 r.kind h
    ∙ ap g (add-zero r.kind)

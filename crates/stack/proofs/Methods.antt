-- The top by the depth.
use mathlib.Core.Path.{◌≡◌, refl, ap, sym, ◌∙◌}
use Prim.Native.Nat.{suc, ◌-◌, ◌≤◌, ◌<◌}
use native.Mathlib.Omega.{arith}
use mathlib.Core.Bool.{Bool, true, false}
use Rattle.std.specs.Prelude.{None, Some}
use Rattle.std.specs.Option.{is_some}
use lib.ListN.{length, get_or}
use lib.Dec.{leb}
use borrow.Author.Tests.{leb-true, leb-false}
use Rattle.rules.specs.declared.Stack.{Stack}
use Rattle.rules.specs.Numbers.{at}
use Rattle.rules.specs.Stack.{top}
use Rattle.laws.proofs.Records.{at_zero, at_none, at-get_or}

module _ (s : Stack) where
  pub top_none : s.depth < 1 → None ≡ top s
  unfolding top
  top_none h = let z : s.depth ≡ 0 = omega arith in sym (ap (at s.entries) z ∙ at_zero s.entries)

  pub top_past : length s.entries < s.depth → None ≡ top s
  unfolding top
  top_past h = sym (at_none s.entries s.depth h)

  pub top_some : 1 ≤ s.depth → s.depth ≤ length s.entries → Some (get_or s.entries (s.depth - 1) 0) ≡ top s
  unfolding top
  top_some l h =
      let z : s.depth ≡ suc (s.depth - 1) = omega arith in
      sym (ap (at s.entries) z ∙ at-get_or s.entries (s.depth - 1) 0 (omega arith))

  -- Where there is a top, it is one of the entries.
  pub top_in : is_some (top s) ≡ true → (1 ≤ s.depth) × (s.depth ≤ length s.entries)
  top_in e = by (leb 1 s.depth) (leb s.depth (length s.entries)) refl refl
    where
      by : (a b : Bool) → leb 1 s.depth ≡ a → leb s.depth (length s.entries) ≡ b → (1 ≤ s.depth) × (s.depth ≤ length s.entries)
      by true true p q = (leb-true _ _ p, leb-true _ _ q)
      by true false p q = let z = rw (← top_past (leb-false _ _ q)) at e in absurd cc
      by false b p q = let z = rw (← top_none (leb-false _ _ p)) at e in absurd cc

pub ruleset tops = (top_none, top_past, top_some)

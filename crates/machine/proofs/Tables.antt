-- A table of places is right for the records that it was filled with.
use mathlib.Core.Path.{◌≡◌, refl, sym, ap, ◌∙◌}
use Prim.Native.Nat.{ℕ, suc, ◌-◌, ◌≤◌, ◌<◌}
use native.Mathlib.Omega.{arith}
use mathlib.Core.Bool.{Bool, true, false, cond}
use mathlib.Core.List.{List}
use lib.ListN.{replicate, length-replicate}
use lib.Dec.{leb}
use borrow.Author.Tests.{leb-false, lt-leb}
use Rattle.rules.specs.Record.{count}
use Rattle.rules.specs.Numbers.{names, move_to}
use Rattle.stack.proofs.Moves.{named, names-leb, move_out}
use Rattle.ways.specs.Places.{place_at}
use Rattle.ways.specs.Ways.{near, way_of, ways}
use Rattle.ways.proofs.Ways.{way-found}
use Rattle.deeds.specs.Deeds.{place_in}
use Rattle.machine.specs.Running.{Right}

beyond : (n k : ℕ) → n < k → move_to n 0 ≡ move_to n k
unfolding move_to names
beyond n k h = sym (move_out n k (names-leb n k (λ z. omega arith) ∙ lt-leb k n h))

-- A move to a place in 16 bits is the move to the place.
way_moves : (s : List ℕ) (j : ℕ) → count s ≤ 512 → move_to (count s) (way_of s j) ≡ move_to (count s) (place_at s j)
unfolding near
way_moves s j h = by (leb (place_at s j) 512) refl
  where
    by : (b : Bool) → leb (place_at s j) 512 ≡ b → move_to (count s) (cond b (place_at s j) 0) ≡ move_to (count s) (place_at s j)
    by true e = refl
    by false e = beyond (count s) (place_at s j) (omega (arith, leb-false (place_at s j) 512 e))

pub ways_right : (s : List ℕ) {ps : List ℕ} (from to : ℕ) → count s ≤ 512 → ps ≡ ways s from to (replicate 512 0) → (j : ℕ) → names (count s) j ≡ true → from < j → j ≤ to → Right s ps j
unfolding place_in
ways_right s from to h e j n a b =
    let k = named (count s) j n in
    let z : suc (j - 1) ≡ j = omega (arith, k.0) in
    rw e (ap (move_to (count s)) (way-found s from to (replicate 512 0) h (j - 1) (omega arith) (omega (arith, k.0)) (omega (arith, k, length-replicate {A = ℕ} 512 0)) ∙ ap (way_of s) z) ∙ way_moves s j h)

-- The answer of the call by the room for the text.
--     too_short, shown     where there is too little, and where there is enough
use mathlib.Core.Path.{◌≡◌}
use Prim.Native.Nat.{ℕ, ◌≤◌, ◌<◌}
use mathlib.Core.List.{List, [], ◌∷◌, ◌++◌}
use lib.ListN.{length, take, drop}
use borrow.Author.Tests.{lt-ltb, le-ltb}
use Rattle.rules.specs.declared.Refusal.TheVariants.{Room}
use Rattle.std.specs.Prelude.{Ok, Err}
use Rattle.rules.specs.Refusals.{when, or_else, first, verdict_of, verdict}
use Rattle.print.proofs.Printing.{Whole, page}
use Rattle.listing.specs.Answers.{room_for, printed, Listed}

-- The text t stands in the first k bytes of an array of our own.
module _ {t o w : List ℕ} {k : ℕ} (p : Whole t o w k) (text : List ℕ) where
  pub too_short : length text < k → Listed (verdict (room_for t text ∷ []) (length t)) t text (Err Room) text
  unfolding verdict verdict_of first or_else room_for when printed
  too_short h = let l = rw p.count at h in record { answers = rw (lt-ltb _ _ l); output = rw (lt-ltb _ _ l) }

  pub shown : {v : List ℕ} → k ≤ length text → v ≡ take k w → Listed (verdict (room_for t text ∷ []) (length t)) t text (Ok k) (v ++ drop k text)
  unfolding verdict verdict_of first or_else room_for when printed
  shown h e = let l = rw p.count at h in record { answers = rw (le-ltb _ _ l, p.count); output = rw (le-ltb _ _ l, e, page p, p.count) }

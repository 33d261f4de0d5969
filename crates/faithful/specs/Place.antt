-- The place of refusal 5 in the paper's words: reading from the left, the first separator or end that does not fit the innermost open
-- item (a second separator doesn't fit); if none, the lowest opener never closed.
use Rattle.std.specs.Prelude.{◌≡◌, ◌⊎◌, ◌≤◌, ◌∷◌, ◌++◌}
use Rattle.rules.specs.Words.{ℕ, suc, Bool, true, false, List, [], length}
use Rattle.rules.specs.Instruction.{Act, Sort, conditional, loop, Op, header, separator, end}
use Rattle.rules.specs.Nesting.{Item, item, Body}

-- Reading xs leaves these items open, the innermost first: after a body, none; after a header and a body, its item; after a separator
-- and a body, the item that was open, now in its second arm.
pub data Leaves : List Op → List Item → Type 0 where
  none_open : {xs : List Op} → Body xs → Leaves xs []
  in_item : {xs ys : List Op} {b : Sort} {s : List Item} (v : Bool) (a : Act) → Leaves xs s → Body ys
      → Leaves (xs ++ (header b v a ∷ ys)) (item b false (suc (length xs)) ∷ s)
  in_second : {xs ys : List Op} {h : ℕ} {s : List Item} → Leaves xs (item conditional false h ∷ s) → Body ys
      → Leaves (xs ++ (separator ∷ ys)) (item conditional true h ∷ s)

-- The header with number h is open.
abbrev pub IsOpen : ℕ → List Item → Type 0
IsOpen h [] = ⊥
IsOpen h (item b w k ∷ s) = (h ≡ k) ⊎ IsOpen h s

-- A separator or an end that does not fit the innermost open item.
pub data Misfit : Op → List Item → Type 0 where
  stray_separator : Misfit separator []
  second_separator : {h : ℕ} {s : List Item} → Misfit separator (item conditional true h ∷ s)
  separator_in_loop : {w : Bool} {h : ℕ} {s : List Item} → Misfit separator (item loop w h ∷ s)
  stray_end : {b : Sort} → Misfit (end b) []
  loop_end_in_conditional : {w : Bool} {h : ℕ} {s : List Item} → Misfit (end loop) (item conditional w h ∷ s)
  end_in_loop : {w : Bool} {h : ℕ} {s : List Item} → Misfit (end conditional) (item loop w h ∷ s)

-- The first that does not fit: the records before it could be read. Or all could be read, and h is the lowest header left open.
pub data Place5 (L : List Op) : ℕ → Type 0 where
  misfit : {xs : List Op} {o : Op} {s : List Item} (rest : List Op) → L ≡ xs ++ (o ∷ rest) → Leaves xs s → Misfit o s
      → Place5 L (suc (length xs))
  unclosed : {s : List Item} {h : ℕ} → Leaves L s → IsOpen h s → ((k : ℕ) → IsOpen k s → h ≤ k) → Place5 L h

-- Items of the grammar that stand in a list of records, and the partners that they have.
use Rattle.std.specs.Prelude.{◌≡◌, ◌+◌, ◌∷◌, ◌++◌}
use Rattle.rules.specs.Words.{ℕ, zero, suc, Bool, List, length, drop}
use Rattle.rules.specs.Instruction.{Act, Sort, conditional, loop, Op, header, separator, end}
use Rattle.rules.specs.Nesting.{alone, bracket, Body}
use Rattle.rules.specs.Partners.{end_of, arm_of, header_of}

-- An item stands in L behind its first j records: its sort, the numbers of its header, of its separator (0 where it has none) and of
-- its end.
pub data Stands (L : List Op) : Sort → ℕ → ℕ → ℕ → Type 0 where
  loop_item : {j : ℕ} {v : Bool} {a : Act} {body : List Op} (rest : List Op)
      → drop j L ≡ header loop v a ∷ (body ++ (end loop ∷ rest)) → Body body
      → Stands L loop (suc j) 0 (suc (length body + suc j))
  one_arm : {j : ℕ} {v : Bool} {a : Act} {body : List Op} (rest : List Op)
      → drop j L ≡ header conditional v a ∷ (body ++ (end conditional ∷ rest)) → Body body
      → Stands L conditional (suc j) 0 (suc (length body + suc j))
  two_arms : {j : ℕ} {v : Bool} {a : Act} {one two : List Op} (rest : List Op)
      → drop j L ≡ header conditional v a ∷ (one ++ (separator ∷ (two ++ (end conditional ∷ rest)))) → Body one → Body two
      → Stands L conditional (suc j) (suc (length one + suc j)) (suc (length two + suc (length one + suc j)))

-- k, or e where there is no k.
unfoldable pub or_end : ℕ → ℕ → ℕ
or_end zero e = e
or_end (suc k) e = suc k

-- The numbers that stages and steps use are those. A header without separator takes its end as partner.
pub record Partnered (L : List Op) (b : Sort) (h k e : ℕ) : Type 0 where
  pub its_end : end_of b L h ≡ e
  pub its_header : header_of b L e ≡ h
  pub its_arm : b ≡ conditional → arm_of L h ≡ or_end k e
  pub separator-end : (i : ℕ) → k ≡ suc i → end_of conditional L k ≡ e

-- Record i is an item alone, or the header, the separator or the end of an item that stands in L.
pub data Belongs (L : List Op) (i : ℕ) : Op → Type 0 where
  by_itself : {o : Op} → bracket o ≡ alone → Belongs L i o
  as_header : {b : Sort} {v : Bool} {a : Act} (k e : ℕ) → Stands L b i k e → Belongs L i (header b v a)
  as_separator : (h e : ℕ) → Stands L conditional h i e → Belongs L i separator
  as_end : {b : Sort} (h k : ℕ) → Stands L b h k i → Belongs L i (end b)

-- The instructions, and the sixteen kinds that stand for them: the column "Written" of the table.
use Rattle.std.specs.Prelude.{◌∷◌}
use Rattle.rules.specs.Words.{ℕ, Bool, true, false, cond, List, [], map, get_or, eqb}
use Rattle.rules.specs.Record.{Rec, rec, bytes_of, records}

-- An action: an outside one by its number, or one of the counter stack's own.
pub data Act : Type 0 where
  outside : ℕ → Act
  push : ℕ → Act
  pop : Act
  compare : ℕ → Act

-- The two sorts of item that hold bodies.
pub data Sort : Type 0 where
  conditional loop : Sort

-- An instruction. A sign is a Bool: true for +, false for -.
pub data Op : Type 0 where
  act : Act → Op  -- a
  test : Bool → Act → Op  -- +a, -a
  jump : ℕ → Op  -- ##k
  label : ℕ → Op  -- [s]
  goto : ℕ → Op  -- ##[s]
  goto2 : ℕ → ℕ → Op  -- ##[s][t]
  header : Sort → Bool → Act → Op  -- +a{, -a{ and +a{*, -a{*
  separator : Op  -- }{
  end : Sort → Op  -- } and *}
  call : ℕ → Op  -- R##k
  return : Op  -- ##R

-- x of an action is its number; 1001 pushes y, 1002 pops, 1003 compares the top with y.
unfoldable pub act_of : ℕ → ℕ → Act
act_of x y = cond (eqb x 1001) (push y) (cond (eqb x 1002) pop (cond (eqb x 1003) (compare y) (outside x)))

-- The sixteen kinds, 1 to 16, by their fields. No other kind is an instruction.
unfoldable pub written : Act → ℕ → ℕ → List Op
written a x y =
    act a ∷ test true a ∷ test false a
    ∷ jump x
    ∷ label x ∷ goto x ∷ goto2 x y
    ∷ header conditional true a ∷ header conditional false a ∷ separator ∷ end conditional
    ∷ header loop true a ∷ header loop false a ∷ end loop
    ∷ call x ∷ return ∷ []

unfoldable pub decode : Rec → Op
decode r = get_or (jump 0 ∷ written (act_of r.x r.y) r.x r.y) r.kind (jump 0)

-- x and y of an action, and the record of an instruction.
unfoldable pub x_of : Act → ℕ
x_of (outside n) = n
x_of (push y) = 1001
x_of pop = 1002
x_of (compare y) = 1003

unfoldable pub y_of : Act → ℕ
y_of (outside n) = 0
y_of (push y) = y
y_of pop = 0
y_of (compare y) = y

abbrev pub act_rec : ℕ → Act → Rec
act_rec k a = rec k (x_of a) (y_of a)

unfoldable pub encode : Op → Rec
encode (act a) = act_rec 1 a
encode (test v a) = act_rec (cond v 2 3) a
encode (jump k) = rec 4 k 0
encode (label s) = rec 5 s 0
encode (goto s) = rec 6 s 0
encode (goto2 s t) = rec 7 s t
encode (header conditional v a) = act_rec (cond v 8 9) a
encode separator = rec 10 0 0
encode (end conditional) = rec 11 0 0
encode (header loop v a) = act_rec (cond v 12 13) a
encode (end loop) = rec 14 0 0
encode (call k) = rec 15 k 0
encode return = rec 16 0 0

-- The instructions that a file's bytes hold, and the file of a list of instructions.
unfoldable pub ops : List ℕ → List Op
ops s = map decode (records s)

unfoldable pub file : List Op → List ℕ
file L = bytes_of (map encode L)

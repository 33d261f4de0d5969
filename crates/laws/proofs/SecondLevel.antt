-- A stage, record by record: one law of second level for all stages.
--     each-length, each_on, each-get_or     f of each record: how many; one record more; its member k + 1
--     groups, groups_ext, groups_next, groups_grow, groups_room, groups_map     lists of records 1 to n end to end, the form in which a writer's loop goes on
--     lowered, stage_groups     what record i becomes, its jumps renumbered; a stage is the groups of these
--     seconds_groups, renumber_groups, renumber_zero, renumber_out, renumber_in     the place of a group is one more than what stands before it
--     each_groups     a stage without second level, as groups of one record
use mathlib.Core.Path.{◌≡◌, refl, sym, ap, ◌∙◌}
use Prim.Native.Nat.{ℕ, zero, suc, ◌+◌, ◌≤◌, ◌<◌}
use native.Mathlib.Nat.{zero-add, suc-add, add-suc, eq-or-lt_of_le, le_of_suc-le-suc}
use native.Mathlib.Numerals.{add-one}
use native.Mathlib.Omega.{arith}
use mathlib.Core.Logic.{⊎_elim}
use mathlib.Core.Bool.{Bool, true, false}
use mathlib.Core.List.{List, [], ◌∷◌, ◌++◌, map, append_assoc, append-nil, map-append}
use lib.ListN.{length, take, get_or, length-map, length-append}
use lib.Seq.{take-length}
use lib.Dec.{leb}
use borrow.Author.Tests.{leb-true, leb-false, le-leb, lt-leb}
use Rattle.rules.specs.Instruction.{Op}
use Rattle.rules.specs.Numbers.{each, names}
use Rattle.rules.specs.SecondLevel.{Group, ◌▹◌, members, seconds, renumber, sent, laid}

-- ## f of each record

module _ {A B : Type 0} (f : ℕ → A → B) where
  pub each-length : (p : ℕ) (L : List A) → length (each f p L) ≡ length L
  unfolding each
  each-length p [] = refl
  each-length p (o ∷ os) = ap suc (each-length (suc p) os)

  pub each_on : (p k : ℕ) (L : List A) (z : A) → k < length L → each f p (take (suc k) L) ≡ each f p (take k L) ++ (f (k + p) (get_or L k z) ∷ [])
  unfolding each
  each_on p k [] z h = absurd (omega arith)
  each_on p zero (o ∷ os) z h = rw (zero-add p)
  each_on p (suc k) (o ∷ os) z h = rw (suc-add k p, ← add-suc k p) (ap (λ (r : List B). f p o ∷ r) (each_on (suc p) k os z (omega arith)))

  pub each-get_or : (p k : ℕ) (L : List A) (y : B) (z : A) → k < length L → get_or (each f p L) k y ≡ f (k + p) (get_or L k z)
  unfolding each
  each-get_or p k [] y z h = absurd (omega arith)
  each-get_or p zero (o ∷ os) y z h = rw (zero-add p)
  each-get_or p (suc k) (o ∷ os) y z h = rw (suc-add k p, ← add-suc k p) (each-get_or (suc p) k os y z (omega arith))

-- ## Lists of records 1 to n, end to end

unfoldable pub groups : {X : Type 0} → (ℕ → List X) → ℕ → List X
groups f zero = []
groups f (suc n) = groups f n ++ f (suc n)

module _ {X : Type 0} where
  pub groups_ext : (f g : ℕ → List X) (n : ℕ) → ((k : ℕ) → k < n → f (suc k) ≡ g (suc k)) → groups f n ≡ groups g n
  unfolding groups
  groups_ext f g zero h = refl
  groups_ext f g (suc n) h = rw (groups_ext f g n (λ k l. h k (omega arith)), h n (omega arith))

  pub groups_next : (f : ℕ → List X) (n : ℕ) → length (groups f (suc n)) ≡ length (groups f n) + length (f (suc n))
  unfolding groups
  groups_next f n = length-append (groups f n) (f (suc n))

  pub groups_grow : (f : ℕ → List X) (i n : ℕ) → i ≤ n → length (groups f i) ≤ length (groups f n)
  groups_grow f i zero h = let e : i ≡ 0 = omega arith in rw e (omega arith)
  groups_grow f i (suc n) h =
      ⊎_elim (λ (e : i ≡ suc n). rw e (omega arith)) (λ (l : i < suc n). omega (arith, groups_grow f i n (le_of_suc-le-suc l), groups_next f n)) (eq-or-lt_of_le h)

  -- Where all groups fit, the next one does.
  pub groups_room : (f : ℕ → List X) (i n : ℕ) → i < n → length (groups f i) + length (f (suc i)) ≤ length (groups f n)
  groups_room f i n h = omega (arith, groups_next f i, groups_grow f (suc i) n h)

pub groups_map : {X Y : Type 0} (g : X → Y) (f : ℕ → List X) (n : ℕ) → map g (groups f n) ≡ groups (λ i. map g (f i)) n
unfolding groups
groups_map g f zero = refl
groups_map g f (suc n) = map-append g (groups f n) (f (suc n)) ∙ rw (groups_map g f n)

-- ## A stage

pub laid_on : (to : ℕ → ℕ) (gs : List Group) (g : Group) → laid to (gs ++ (g ∷ [])) ≡ laid to gs ++ map (sent to) (members g)
unfolding laid
laid_on to [] g = append-nil (map (sent to) (members g))
laid_on to (x ∷ gs) g =
    ap (λ (r : List Op). map (sent to) (members x) ++ r) (laid_on to gs g)
    ∙ sym (append_assoc (map (sent to) (members x)) (laid to gs) (map (sent to) (members g)))

pub renumber_zero : (gs : List Group) → renumber gs 0 ≡ 0
unfolding renumber
renumber_zero gs = refl

pub renumber_out : (f : ℕ → Op → Group) (L : List Op) (k : ℕ) → length L < k → renumber (each f 1 L) k ≡ 0
unfolding renumber names
renumber_out f L zero h = refl
renumber_out f L (suc k) h = rw (each-length f 1 L, lt-leb (suc k) (length L) h)

module _ (f : ℕ → Op → Group) (to : ℕ → ℕ) (L : List Op) (z : Op) where
  -- What record i becomes, jumps renumbered.
  abbrev pub lowered : ℕ → List Op
  lowered zero = []
  lowered (suc k) = map (sent to) (members (f (suc k) (get_or L k z)))

  laid_groups : (k : ℕ) → k ≤ length L → laid to (each f 1 (take k L)) ≡ groups lowered k
  unfolding laid each groups
  laid_groups zero h = refl
  laid_groups (suc k) h =
      ap (laid to) (each_on f 1 k L z h ∙ ap (λ (i : ℕ). each f 1 (take k L) ++ (f i (get_or L k z) ∷ [])) (add-one k))
      ∙ laid_on to (each f 1 (take k L)) (f (suc k) (get_or L k z))
      ∙ ap (λ (r : List Op). r ++ lowered (suc k)) (laid_groups k (omega arith))

  pub stage_groups : laid to (each f 1 L) ≡ groups lowered (length L)
  stage_groups = ap (λ (l : List Op). laid to (each f 1 l)) (sym (take-length L)) ∙ laid_groups (length L) (omega arith)

  pub seconds_groups : (k : ℕ) → k ≤ length L → k + seconds k (each f 1 L) ≡ length (groups lowered k)
  unfolding seconds members each laid
  seconds_groups k h = by 1 k L h ∙ ap length (laid_groups k h)
    where
      one : (g : Group) (k : ℕ) (gs : List Group) → suc k + seconds (suc k) (g ∷ gs) ≡ length (map (sent to) (members g)) + (k + seconds k gs)
      one (o ▹ os) k gs = omega (arith, length-map os (sent to))

      by : (p k : ℕ) (M : List Op) → k ≤ length M → k + seconds k (each f p M) ≡ length (laid to (each f p (take k M)))
      by p zero M h = refl
      by p (suc k) [] h = absurd (omega arith)
      by p (suc k) (o ∷ os) h =
          one (f p o) k (each f (suc p) os)
          ∙ ap (λ (n : ℕ). length (map (sent to) (members (f p o))) + n) (by (suc p) k os (omega arith))
          ∙ sym (length-append (map (sent to) (members (f p o))) _)

  -- The place of the group of record k + 1.
  pub renumber_groups : (k : ℕ) → k < length L → renumber (each f 1 L) (suc k) ≡ suc (length (groups lowered k))
  unfolding renumber names
  renumber_groups k h = rw (each-length f 1 L, le-leb (suc k) (length L) h) (suc-add k _ ∙ ap suc (seconds_groups k (omega arith)))

  -- A number that was renumbered names a record of the stage, or none.
  pub renumber_in : (k : ℕ) → renumber (each f 1 L) k ≤ length (laid to (each f 1 L))
  unfolding renumber members
  renumber_in zero = omega arith
  renumber_in (suc k) = by (leb (suc k) (length L)) refl
    where
      one : (g : Group) → 1 ≤ length (map (sent to) (members g))
      one (x ▹ xs) = omega arith

      by : (t : Bool) → leb (suc k) (length L) ≡ t → renumber (each f 1 L) (suc k) ≤ length (laid to (each f 1 L))
      by true e =
          let h : k < length L = leb-true _ _ e in
          omega (arith, renumber_groups k h, ap length stage_groups, groups_room lowered k (length L) h, one (f (suc k) (get_or L k z)))
      by false e = omega (arith, renumber_out f L (suc k) (leb-false _ _ e))

-- ## A stage without second level

module _ {A B : Type 0} (f : ℕ → A → B) (L : List A) (z : A) where
  abbrev pub single : ℕ → List B
  single zero = []
  single (suc k) = f (suc k) (get_or L k z) ∷ []

  pub each_groups : each f 1 L ≡ groups single (length L)
  unfolding groups each
  each_groups = ap (each f 1) (sym (take-length L)) ∙ by (length L) (omega arith)
    where
      by : (k : ℕ) → k ≤ length L → each f 1 (take k L) ≡ groups single k
      by zero h = refl
      by (suc k) h =
          each_on f 1 k L z h
          ∙ ap (λ (i : ℕ). each f 1 (take k L) ++ (f i (get_or L k z) ∷ [])) (add-one k)
          ∙ ap (λ (r : List B). r ++ single (suc k)) (by k (omega arith))

-- Bodies and items, and reading from the left with the items that are open.
--     run_end, run_here     reading by places
--     item-alone, item_shut, into_first     how an item starts
--     After, Parted, after_read     what stands behind a body of an item
--     body_end, body_shut, body_is, item_is     what a reader answered
--     first_.., second_.., parted_at     the item reader's answer, by what stands behind its first body and its second
--     whole_..     the whole routine
use mathlib.Core.Path.{◌≡◌, refl, sym, ap, ◌∙◌, subst}
use Prim.Native.Nat.{ℕ, zero, suc, ◌+◌, ◌*◌, ◌≤◌, ◌<◌}
use native.Mathlib.Numerals.{add-one}
use native.Mathlib.Omega.{arith}
use mathlib.Core.Bool.{Bool, true, false, cond}
use Rattle.std.specs.Prelude.{Option, None, Some}
use mathlib.Core.List.{List, [], ◌∷◌}
use lib.ListN.{get_or}
use lib.Dec.{ltb}
use borrow.Author.Tests.{ltb-true, ltb-false}
use Rattle.rules.specs.Record.{count}
use Rattle.rules.specs.Instruction.{Sort, conditional, loop, jump, ops}
use Rattle.rules.specs.Nesting.{Bracket, opener, middle, closer, alone, bracket, Item, item, parted, closed, read, lowest, go_on, scan, nesting}
use Rattle.rules.specs.Numbers.{found}
use Rattle.rules.specs.Partners.{Role, opens, parts, ends, other, role_of, role}
use Rattle.laws.proofs.Records.{ops-get_or, ops-drop, ops-end}
use Rattle.laws.proofs.Partners.{role_of_kind, ops-role}
use Rattle.partners.specs.declared.Sort as said
use Rattle.partners.specs.declared.Sort.TheVariants.{Conditional, Loop}
use Rattle.shape.specs.declared.nesting.Start.{Start}
use Rattle.shape.specs.declared.nesting.Start.TheVariants as start
use Rattle.shape.specs.declared.nesting.Read.{Read}
use Rattle.shape.specs.declared.nesting.Read.TheVariants.{To, Misfit, Open}
use Rattle.shape.specs.declared.nesting.Behind.{Behind}
use Rattle.shape.specs.declared.nesting.Behind.TheVariants.{Done, Second}
use Rattle.partners.specs.Roles.{sort_of}
use Rattle.shape.specs.Reading.{start_of, Passes, behind_by, behind_of, run, Shut, bracket_at, Fails, StaysOpen, BodyTo, ItemTo, BodyRead, ItemRead}

-- ## Reading by places

module _ (s : List ℕ) (at : ℕ) (st : List Item) where
  run_end : count s ≤ at → run s at st ≡ lowest st
  unfolding run scan
  run_end h = ap (scan (suc at) st) (ops-end s at h)

  run_here : at < count s → run s at st ≡ go_on (at + 1) (read (at + 1) (bracket_at s at) st) (λ t. run s (at + 1) t)
  unfolding run scan
  run_here h =
      ap (scan (suc at) st) (ops-drop s at h)
      ∙ ap (λ (x : Bracket). go_on (suc at) (read (suc at) x st) (λ t. run s (suc at) t)) (sym (ap bracket (ops-get_or s at (jump 0) h)))
      ∙ ap (λ (j : ℕ). go_on j (read j (bracket_at s at) st) (λ t. run s j t)) (sym (add-one at))

lowest_any : (b c : Sort) (w v : Bool) (k : ℕ) (st : List Item) → lowest (item b w k ∷ st) ≡ lowest (item c v k ∷ st)
unfolding lowest
lowest_any b c w v k [] = refl
lowest_any b c w v k (x ∷ st) = refl

-- ## A body

module _ (s : List ℕ) (at i : ℕ) (f : at ≤ i) (p : Passes s at i) where
  pub body_end : i ≤ count s → count s ≤ i → BodyRead s at (To i)
  body_end u e = record { from = f; upto = u; stops = λ l. absurd (omega arith); passes = p }

  pub body_shut : i < count s → Shut (bracket_at s i) → BodyRead s at (To i)
  body_shut u x = record { from = f; upto = omega arith; stops = λ l. x; passes = p }

module _ (s : List ℕ) (at : ℕ) (u : Read) where
  pub item_is : ItemRead s at u → (v : Read) → u ≡ v → ItemRead s at v
  item_is h v e = subst (λ (v : Read). ItemRead s at v) e h

  pub body_is : BodyRead s at u → (v : Read) → u ≡ v → BodyRead s at v
  body_is h v e = subst (λ (v : Read). BodyRead s at v) e h

-- ## How an item starts

start_in : Bracket → Start
start_in (opener conditional) = start.Header Conditional
start_in (opener loop) = start.Header Loop
start_in middle = start.Shut
start_in (closer b) = start.Shut
start_in alone = start.Alone

start_roles : (x : Bracket) → start_of (role_of conditional x) (role_of loop x) ≡ start_in x
unfolding start_of role_of start_in
start_roles (opener conditional) = refl
start_roles (opener loop) = refl
start_roles middle = refl
start_roles (closer conditional) = refl
start_roles (closer loop) = refl
start_roles alone = refl

abbrev Starts : Start → Bracket → Type 0
Starts (start.Header q) x = x ≡ opener (sort_of q)
Starts start.Alone x = x ≡ alone
Starts start.Shut x = Shut x

starts : (x : Bracket) → Starts (start_in x) x
unfolding start_in
starts (opener conditional) = refl
starts (opener loop) = refl
starts middle = tt
starts (closer b) = tt
starts alone = refl

abbrev kind_at : List ℕ → ℕ → ℕ
kind_at s at = get_or s (8 * at) 0

module _ (s : List ℕ) (at : ℕ) (h : at < count s) where
  starts_at : (q : Start) → start_of (role_of_kind conditional (kind_at s at)) (role_of_kind loop (kind_at s at)) ≡ q → Starts q (bracket_at s at)
  unfolding role
  starts_at q e =
      subst (λ (x : Start). Starts x (bracket_at s at))
      (sym (start_roles (bracket_at s at))
      ∙ ap (λ (r : Role). start_of r (role loop (get_or (ops s) at (jump 0)))) (ops-role conditional s at (jump 0) h)
      ∙ ap (start_of (role_of_kind conditional (kind_at s at))) (ops-role loop s at (jump 0) h)
      ∙ e)
      (starts (bracket_at s at))

  module _ (q : Start) (e : q ≡ start_of (role_of_kind conditional (kind_at s at)) (role_of_kind loop (kind_at s at))) where
    pub item-alone : q ≡ start.Alone → ItemTo s at (at + 1)
    unfolding read go_on
    item-alone z =
        let x : bracket_at s at ≡ alone = starts_at start.Alone (sym e ∙ z) in
        record { from = omega arith; upto = omega arith; empty = λ z. absurd (omega arith); passes = λ st. run_here s at st h ∙ rw x }

    pub item_shut : q ≡ start.Shut → ItemTo s at at
    item_shut z = record { from = omega arith; upto = omega arith; empty = λ y. starts_at start.Shut (sym e ∙ z); passes = λ st. refl }

-- Reading on from `at` opens an item there and comes to j.
abbrev pub Into : List ℕ → ℕ → Sort → Bool → ℕ → Type 0
Into s at b w j = (st : List Item) → run s at st ≡ run s j (item b w (at + 1) ∷ st)

into_first : (s : List ℕ) (at : ℕ) → at < count s → (q : said.Sort)
    → start_of (role_of_kind conditional (kind_at s at)) (role_of_kind loop (kind_at s at)) ≡ start.Header q → Into s at (sort_of q) false (at + 1)
unfolding read go_on
into_first s at h q e st =
    let x : bracket_at s at ≡ opener (sort_of q) = starts_at s at h (start.Header q) e in
    run_here s at st h ∙ rw x

-- ## Behind a body

-- The open items after a separator or an end, by its role to the innermost.
taken : Role → Sort → Bool → ℕ → List Item → Option (List Item)
taken opens b w h st = None
taken parts b false h st = Some (item b true h ∷ st)
taken parts b true h st = None
taken ends b w h st = Some st
taken other b w h st = None

take_shut : (b : Sort) (x : Bracket) → Shut x → (w : Bool) (i h : ℕ) (st : List Item) → read i x (item b w h ∷ st) ≡ taken (role_of b x) b w h st
unfolding read parted closed role_of taken
take_shut b (opener c) z w i h st = absurd z
take_shut b alone z w i h st = absurd z
take_shut conditional middle z false i h st = refl
take_shut conditional middle z true i h st = refl
take_shut conditional (closer conditional) z w i h st = refl
take_shut conditional (closer loop) z w i h st = refl
take_shut loop middle z w i h st = refl
take_shut loop (closer conditional) z w i h st = refl
take_shut loop (closer loop) z w i h st = refl

-- The first body's separator opens the way to the second; a second separator doesn't fit.
pub record Parted (s : List ℕ) (at : ℕ) (b : Sort) (m : ℕ) : Type 0 where
  pub above : at < m
  pub upto : m ≤ count s
  pub into : Into s at b true m

abbrev pub After : List ℕ → ℕ → Sort → Bool → Behind → Type 0
After s at b w (Done r) = ItemRead s at r
After s at b false (Second m) = Parted s at b m
After s at b true (Second m) = Fails s at m

module _ (s : List ℕ) (at : ℕ) (b : Sort) (w : Bool) (j : ℕ) (above : at < j) (into : Into s at b w j) where
  module _ (m : ℕ) (body : BodyTo s j m) where
    after_role : m < count s → (r : Role) → ((st : List Item) → run s at st ≡ go_on (m + 1) (taken r b w (at + 1) st) (λ t. run s (m + 1) t)) → After s at b w (behind_by r (m + 1))
    unfolding behind_by taken go_on
    after_role l opens f = record { numbered = omega arith; fails = f }
    after_role l other f = record { numbered = omega arith; fails = f }
    after_role l ends f = let g = body.from in record { from = omega arith; upto = omega arith; empty = λ z. absurd (omega arith); passes = f }
    after_role l parts f = let g = body.from in by w f
      where
        by : (v : Bool) → ((st : List Item) → run s at st ≡ go_on (m + 1) (taken parts b v (at + 1) st) (λ t. run s (m + 1) t)) → After s at b v (Second (m + 1))
        by false f = record { above = omega arith; upto = omega arith; into = f }
        by true f = record { numbered = omega arith; fails = f }

    after_here : m < count s → (st : List Item) → run s at st ≡ go_on (m + 1) (taken (role_of_kind b (kind_at s m)) b w (at + 1) st) (λ t. run s (m + 1) t)
    unfolding role
    after_here l st =
        into st
        ∙ body.passes (item b w (at + 1) ∷ st)
        ∙ run_here s m (item b w (at + 1) ∷ st) l
        ∙ ap (λ (o : Option (List Item)). go_on (m + 1) o (λ t. run s (m + 1) t))
        (take_shut b (bracket_at s m) (body.stops l) w (m + 1) (at + 1) st ∙ ap (λ (r : Role). taken r b w (at + 1) st) (ops-role b s m (jump 0) l))

    after_to : After s at b w (behind_of s at b (To m))
    unfolding behind_of
    after_to = by (ltb m (count s)) refl
      where
        by : (t : Bool) → ltb m (count s) ≡ t → After s at b w (cond t (behind_by (role_of_kind b (kind_at s m)) (m + 1)) (Done (Open (at + 1))))
        by true e = let l = ltb-true m (count s) e in after_role l (role_of_kind b (kind_at s m)) (after_here l)
        by false e = record {
          numbered = omega arith;
          stays = λ st. into st ∙ body.passes (item b w (at + 1) ∷ st) ∙ run_end s m (item b w (at + 1) ∷ st) (ltb-false m (count s) e) ∙ lowest_any b loop w false (at + 1) st;
        }

  after_read : (r : Read) {x : Behind} → BodyRead s j r → x ≡ behind_of s at b r → After s at b w x
  unfolding behind_of lowest
  after_read r h e = subst (λ (y : Behind). After s at b w y) (sym e) (by r h)
    where
      by : (r : Read) → BodyRead s j r → After s at b w (behind_of s at b r)
      by (To m) h = after_to m h
      by (Misfit k) h = record { numbered = h.numbered; fails = λ st. into st ∙ h.fails (item b w (at + 1) ∷ st) }
      by (Open k) h = record { numbered = omega arith; stays = λ st. into st ∙ h.stays (item b w (at + 1) ∷ st) ∙ lowest_any b loop w false (at + 1) st }

-- What stands behind the first body of the item that starts at `at`, and behind its second.
module _ (s : List ℕ) (at : ℕ) (q : said.Sort) (x : Start) (r : Read) (y : Behind) (h : at < count s)
    (e : x ≡ start_of (role_of_kind conditional (kind_at s at)) (role_of_kind loop (kind_at s at))) (z : x ≡ start.Header q) (body : BodyRead s (at + 1) r) (f : y ≡ behind_of s at (sort_of q) r) where
  first_is : (v : Behind) → y ≡ v → After s at (sort_of q) false v
  first_is v g = subst (λ (v : Behind). After s at (sort_of q) false v) g (after_read s at (sort_of q) false (at + 1) (omega arith) (into_first s at h q (sym e ∙ z)) r body f)

  pub first_done : (u : Read) → y ≡ Done u → ItemRead s at u
  first_done u g = first_is (Done u) g

  pub parted_at : (m : ℕ) → y ≡ Second m → Parted s at (sort_of q) m
  parted_at m g = first_is (Second m) g

  module _ (m : ℕ) (g : y ≡ Second m) (r' : Read) (y' : Behind) (body' : BodyRead s m r') (f' : y' ≡ behind_of s at (sort_of q) r') where
    second_is : (v : Behind) → y' ≡ v → After s at (sort_of q) true v
    second_is v g' =
        let p : Parted s at (sort_of q) m = parted_at m g in
        subst (λ (v : Behind). After s at (sort_of q) true v) g' (after_read s at (sort_of q) true m p.above p.into r' body' f')

    pub second_done : (u : Read) → y' ≡ Done u → ItemRead s at u
    second_done u g' = second_is (Done u) g'

    pub second_second : (k : ℕ) → y' ≡ Second k → Fails s at k
    second_second k g' = second_is (Second k) g'

-- ## The whole routine

pub whole : (s : List ℕ) → nesting (ops s) ≡ run s 0 []
unfolding run nesting
whole s = refl

read_none : (i : ℕ) (x : Bracket) → Shut x → read i x [] ≡ None
unfolding read parted closed
read_none i (opener b) z = absurd z
read_none i middle z = refl
read_none i (closer b) z = refl
read_none i alone z = absurd z

found_is : {n k : ℕ} → 1 ≤ k → n ≡ k → found n ≡ Some k
found_is {k = zero} l e = absurd (omega arith)
found_is {k = suc k} l e = ap found e

module _ (s : List ℕ) where
  pub whole_shut : (m : ℕ) → BodyTo s 0 m → m < count s → Some (m + 1) ≡ found (nesting (ops s))
  unfolding go_on
  whole_shut m body l = sym (found_is (omega arith) (whole s ∙ body.passes [] ∙ run_here s m [] l ∙ rw (read_none (m + 1) (bracket_at s m) (body.stops l))))

  pub whole_fine : (m : ℕ) → BodyTo s 0 m → count s ≤ m → None ≡ found (nesting (ops s))
  unfolding lowest
  whole_fine m body l = sym (ap found (whole s ∙ body.passes [] ∙ run_end s m [] l))

  module _ (u : Read) (k : ℕ) (h : BodyRead s 0 u) where
    pub whole_misfit : u ≡ Misfit k → Some k ≡ found (nesting (ops s))
    whole_misfit e = let f : Fails s 0 k = subst (λ (u : Read). BodyRead s 0 u) e h in sym (found_is f.numbered (whole s ∙ f.fails []))

    pub whole_open : u ≡ Open k → Some k ≡ found (nesting (ops s))
    unfolding lowest
    whole_open e = let f : StaysOpen s 0 k = subst (λ (u : Read). BodyRead s 0 u) e h in sym (found_is f.numbered (whole s ∙ f.stays []))

-- Following a form sign by sign, and the further of two.
--     nearer, farther, further-far     the further of two, by how far they are followed
--     least               a form is followed at least to where it starts
--     Plain               a sign that stands for itself, and neither ends an instruction nor is free around it
--     took_on, took_off   one sign that is there, or not
--     name_ends, number_ends, NameTo, name_to     a name or a number that is there takes a byte and stays in the text
--     name_least          a name is followed at least to where it starts, wherever that is
--     inside              a plain sign is in the text
--     there, missing      one that is there, or not
--     halted              a plain sign behind a form
--     two, three, level   the furthest of equal ones, and of those that are followed equally far the first
--     last_is             what is left of a form is one plain sign
--     longer, shorter     of a form and one that goes on with a plain sign, by whether the sign is there
use mathlib.Core.Path.{◌≡◌, refl, sym, ap, ◌∙◌, subst}
use mathlib.Core.Bool.{Bool, true, false, cond, ◌&&◌, ◌||◌}
use mathlib.Core.List.{List, [], ◌∷◌}
use Prim.Native.Nat.{ℕ, suc, ◌+◌, ◌≤◌, ◌<◌}
use native.Mathlib.Omega.{arith}
use lib.Dec.{T, eqb, ltb}
use lib.ListN.{length}
use borrow.Author.Tests.{eq-eqb, ne_eqb, eqb-true, eqb-false, ltb-true, ltb-false, lt-ltb, le-ltb}
use Rattle.text.specs.declared.Sort.{Sort}
use Rattle.text.specs.declared.Sort.TheVariants.{Blank, Digit, Named}
use Rattle.std.specs.Prelude.{Result, Ok, Err}
use Rattle.text.specs.declared.Fit.{Fit}
use Rattle.text.specs.Bytes.{byte_at, blank, in_sort, span}
use Rattle.text.specs.Forms.{itself, part_of, take_run, take_part, take_sign, x_at, y_at, ending, fit, going, follow, further}
use Rattle.text.proofs.Tests.{by_test, cond_has}
use Rattle.text.proofs.Reach.{past_end, byte_there, Reach, take_reach}
use Rattle.runs.proofs.Runs.{span_off}
use Rattle.signs.proofs.Signs.{positive, above}
use Rattle.parts.specs.LastSign.{last_sign}

module _ (f g : Fit) where
  pub nearer : g.far ≤ f.far → further f g ≡ f
  unfolding further
  nearer h = rw (le-ltb f.far g.far h)

  pub farther : f.far < g.far → further f g ≡ g
  unfolding further
  farther h = rw (lt-ltb f.far g.far h)

pub further-far : (at : ℕ) (f g : Fit) → at ≤ f.far → at ≤ (further f g).far
unfolding further
further-far at f g h =
    by_test (ltb f.far g.far)
    (λ e. rw e (let l = ltb-true f.far g.far e in omega arith))
    (λ e. rw e h)

pub record Plain (c : ℕ) : Type 0 where
  pub part : part_of c ≡ itself
  pub keeps_x : (at x : ℕ) → x_at c at x ≡ x
  pub keeps_y : (at y : ℕ) → y_at c at y ≡ y
  pub bound : in_sort Blank c ≡ false
  pub inner : eqb c 59 ≡ false
  pub some : eqb c 0 ≡ false

-- a name is there, and ends at e
pub record NameTo (w : List ℕ) (at e : ℕ) : Type 0 where
  pub taken : take_run Named 16 w at ≡ Ok e
  pub ahead : at < e
  pub within : e ≤ length w

module _ (w : List ℕ) where
  pub least : (i : ℕ) (ps : List ℕ) (e x y : ℕ) → T (positive ps) → e ≤ length w → e ≤ (follow i ps w e x y).far
  unfolding follow ending
  least i [] e x y ok h =
      let d = e + span Blank w e (length w) in
      cond_has (λ f. e ≤ f.far) (eqb d (length w) || eqb (byte_at w d) 59) (fit i true (d + 1) x y) (fit i false d x y) (λ _. omega arith) (λ _. omega arith)
  least i (p ∷ ps) e x y ok h = by (λ d x' y'. least i ps d x' y' (above p ps ok).1) (take_sign p w e) (take_reach w e p (above p ps ok).0 h)
    where
      by : ((d x' y' : ℕ) → d ≤ length w → d ≤ (follow i ps w d x' y').far)
          → (r : Result ℕ ℕ) → Reach w e r → e ≤ (going r (λ d. follow i ps w d (x_at p e x) (y_at p e y)) (λ d. fit i false d x y)).far
      by go (Ok d) r = omega (arith, r.0, go d (x_at p e x) (y_at p e y) r.1)
      by go (Err d) r = r.0

  module _ (p at e : ℕ) where
    pub took_on : (i : ℕ) (ps : List ℕ) (x y : ℕ) → take_sign p w at ≡ Ok e → follow i (p ∷ ps) w at x y ≡ follow i ps w e (x_at p at x) (y_at p at y)
    unfolding follow
    took_on i ps x y h = rw h

    pub took_off : (i : ℕ) (ps : List ℕ) (x y : ℕ) → take_sign p w at ≡ Err e → follow i (p ∷ ps) w at x y ≡ fit i false e x y
    unfolding follow
    took_off i ps x y h = rw h

  module _ (c : Sort) (most at : ℕ) where
    out : length w ≤ at → take_run c most w at ≡ Err at
    unfolding take_run
    out h = rw (span_off c w at (suc most) (past_end c w at h))

    reach_by : (e : ℕ) → take_run c most w at ≡ Ok e → (at ≤ length w → Reach w at (take_run c most w at)) → (at < e) × (e ≤ length w)
    reach_by e h r =
        by_test (ltb at (length w))
        (λ t. let lt = ltb-true at (length w) t in subst (Reach w at) h (r (omega arith)))
        (λ t. let o = out (ltb-false at (length w) t) in cc)

  pub name_ends : (at e : ℕ) (r : Result ℕ ℕ) → r ≡ take_run Named 16 w at → r ≡ Ok e → (at < e) × (e ≤ length w)
  unfolding take_part part_of
  name_ends at e r h k = reach_by Named 16 at e (sym h ∙ k) (take_reach w at 97 (omega arith))

  pub name_to : (at e : ℕ) → take_run Named 16 w at ≡ Ok e → NameTo w at e
  unfolding take_part part_of
  name_to at e h = let r = reach_by Named 16 at e h (take_reach w at 97 (omega arith)) in record { taken = h; ahead = r.0; within = r.1 }

  pub number_ends : (at e : ℕ) (r : Result ℕ ℕ) → r ≡ take_run Digit 4 w at → r ≡ Ok e → (at < e) × (e ≤ length w)
  unfolding take_part part_of
  number_ends at e r h k = reach_by Digit 4 at e (sym h ∙ k) (take_reach w at 107 (omega arith))

  -- a name is followed at least to where it starts, wherever that is
  pub name_least : (i : ℕ) (ps : List ℕ) (at : ℕ) → T (positive ps) → at ≤ (follow i (97 ∷ ps) w at 0 0).far
  unfolding take_part part_of
  name_least i ps at ok =
      by_test (ltb at (length w))
      (λ t. let lt = ltb-true at (length w) t in least i (97 ∷ ps) at 0 0 ok (omega arith))
      (λ t. rw (took_off 97 at at i ps 0 0 (out Named 16 at (ltb-false at (length w) t))) (omega arith))

  pub inside : {c : ℕ} → Plain c → (at : ℕ) → byte_at w at ≡ c → at + 1 ≤ length w
  inside {c} k at h = omega (arith, byte_there w at (λ z. eqb-false c 0 k.some (sym h ∙ z)))

  module _ {c : ℕ} (k : Plain c) (at i x y : ℕ) (ps : List ℕ) where
    pub there : byte_at w at ≡ c → follow i (c ∷ ps) w at x y ≡ follow i ps w (at + 1) x y
    unfolding take_part
    there h = took_on c at (at + 1) i ps x y (rw (k.part, eq-eqb (byte_at w at) c h)) ∙ rw (k.keeps_x at x, k.keeps_y at y)

    pub missing : (byte_at w at ≡ c → ⊥) → follow i (c ∷ ps) w at x y ≡ fit i false at x y
    unfolding take_part
    missing h = took_off c at at i ps x y (rw (k.part, ne_eqb (byte_at w at) c h))

  module _ {c : ℕ} (k : Plain c) (e i x y : ℕ) where
    pub halted : byte_at w e ≡ c → ending i w e x y ≡ fit i false e x y
    unfolding ending
    halted h =
        let lt = inside k e h in
        let z : e + 0 ≡ e = omega arith in
        rw (span_off Blank w e (length w) (ap (in_sort Blank) h ∙ k.bound), z, ne_eqb e (length w) (omega arith), h, k.inner)

    module _ (j : ℕ) (ps : List ℕ) (ok : T (positive ps)) (le : e ≤ length w) where
      pub longer : byte_at w e ≡ c → further (ending i w e x y) (follow j (c ∷ ps) w e x y) ≡ follow j ps w (e + 1) x y
      longer h =
          rw (halted h, there k e j x y ps h) (farther _ _ (omega (arith, least j ps (e + 1) x y ok (inside k e h))))

      pub shorter : (byte_at w e ≡ c → ⊥) → further (ending i w e x y) (follow j (c ∷ ps) w e x y) ≡ ending i w e x y
      unfolding follow
      shorter h = rw (missing k e j x y ps h) (nearer _ _ (least i [] e x y tt le))

pub two : {f f' g g' : Fit} → f ≡ f' → g ≡ g' → further f g ≡ further f' g'
two d e = cc

pub three : {f f' g g' h h' : Fit} → f ≡ f' → g ≡ g' → h ≡ h' → further (further f g) h ≡ further (further f' g') h'
three d e q = two (two d e) q

-- of forms that are followed equally far the first
pub level : (i j e x y x' y' : ℕ) → further (fit i false e x y) (fit j false e x' y') ≡ fit i false e x y
level i j e x y x' y' = nearer (fit i false e x y) (fit j false e x' y') (omega arith)

pub last_is : {p : ℕ} → Plain p → (i : ℕ) (w : List ℕ) (at x y : ℕ) → last_sign i p w at x y ≡ follow i (p ∷ []) w at x y
unfolding follow
last_is {p} k i w at x y =
    by_test (eqb (byte_at w at) p)
    (λ e. let h = eqb-true (byte_at w at) p e in rw (lt-ltb at (length w) (omega (arith, inside w k at h)), e) (sym (there w k at i x y [] h)))
    (λ e. none (ltb at (length w)) e ∙ sym (missing w k at i x y [] (eqb-false (byte_at w at) p e)))
  where
    none : (t : Bool) → eqb (byte_at w at) p ≡ false → cond (t && eqb (byte_at w at) p) (ending i w (at + 1) x y) (fit i false at x y) ≡ fit i false at x y
    none true e = rw e
    none false e = refl

-- the plain signs of the forms: { * [ ] # } ! + - R
pub brace : Plain 123
unfolding part_of x_at y_at in_sort blank
brace = record { part = refl; keeps_x = λ _ _. refl; keeps_y = λ _ _. refl; bound = refl; inner = refl; some = refl }

pub star : Plain 42
unfolding part_of x_at y_at in_sort blank
star = record { part = refl; keeps_x = λ _ _. refl; keeps_y = λ _ _. refl; bound = refl; inner = refl; some = refl }

pub square : Plain 91
unfolding part_of x_at y_at in_sort blank
square = record { part = refl; keeps_x = λ _ _. refl; keeps_y = λ _ _. refl; bound = refl; inner = refl; some = refl }

pub closing : Plain 93
unfolding part_of x_at y_at in_sort blank
closing = record { part = refl; keeps_x = λ _ _. refl; keeps_y = λ _ _. refl; bound = refl; inner = refl; some = refl }

pub hash : Plain 35
unfolding part_of x_at y_at in_sort blank
hash = record { part = refl; keeps_x = λ _ _. refl; keeps_y = λ _ _. refl; bound = refl; inner = refl; some = refl }

pub bend : Plain 125
unfolding part_of x_at y_at in_sort blank
bend = record { part = refl; keeps_x = λ _ _. refl; keeps_y = λ _ _. refl; bound = refl; inner = refl; some = refl }

pub bang : Plain 33
unfolding part_of x_at y_at in_sort blank
bang = record { part = refl; keeps_x = λ _ _. refl; keeps_y = λ _ _. refl; bound = refl; inner = refl; some = refl }

pub plus : Plain 43
unfolding part_of x_at y_at in_sort blank
plus = record { part = refl; keeps_x = λ _ _. refl; keeps_y = λ _ _. refl; bound = refl; inner = refl; some = refl }

pub minus : Plain 45
unfolding part_of x_at y_at in_sort blank
minus = record { part = refl; keeps_x = λ _ _. refl; keeps_y = λ _ _. refl; bound = refl; inner = refl; some = refl }

pub back : Plain 82
unfolding part_of x_at y_at in_sort blank
back = record { part = refl; keeps_x = λ _ _. refl; keeps_y = λ _ _. refl; bound = refl; inner = refl; some = refl }

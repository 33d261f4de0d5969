-- The number of a name that stands at p, from 1.
--     place-within                          a place is one of those that were looked at
--     action_small                          an action's number is at most the count of entries
--     action_zero, action_some, action_none             an action: not reached, known, unknown
--     label_zero, label_old, label_full, label_new      a label: not reached, one that stood before, the thousandth, a new one
use mathlib.Core.Path.{◌≡◌, refl, ap, ◌∙◌}
use mathlib.Core.List.{List, [], ◌∷◌, ◌++◌, map}
use Prim.Native.Nat.{ℕ, suc, ◌+◌, ◌-◌, ◌/◌, ◌≤◌, ◌<◌}
use native.Mathlib.Numerals.{add-one}
use native.Mathlib.Omega.{arith}
use lib.ListN.{length, take, set, length-map}
use lib.Seq.{length-take-le, take-suc-set}
use borrow.Author.Tests.{eq-eqb, ne_eqb, lt-ltb, le-ltb}
use Rattle.std.specs.Prelude.{None, Some}
use Rattle.rules.specs.Numbers.{found}
use Rattle.text.specs.declared.TextRefusal.TheVariants.{Name}
use Rattle.text.specs.Names.{name_at, same, place_from, place_of, action_of, label_of, with_label, entries, padded}
use Rattle.text.specs.Reading.{Next, bad, with_action, with_label_at}
use Rattle.text.proofs.Tests.{cond_has}
use Rattle.names.proofs.Found.{none_found, some_found}
use Rattle.name_index.proofs.Chain.{entries-length}
use Rattle.label_numbers.specs.Labels.{labels_of}

pub place-within : (u : List ℕ) (i : ℕ) (us : List (List ℕ)) → place_from (suc i) u us ≤ i + length us
unfolding place_from
place-within u i [] = omega arith
place-within u i (v ∷ us) =
    cond_has (λ n. n ≤ i + suc (length us)) (same u v) (suc i) (place_from (suc (suc i)) u us) (λ _. omega arith) (λ _. omega (arith, place-within u (suc i) us))

module _ (w : List ℕ) (es : List (List ℕ)) (p : ℕ) where
  abbrev action : ℕ
  action = action_of es (name_at w (p - 1))

  pub action_zero : p ≡ 0 → (on : ℕ → Next) → on 0 ≡ with_action w es p on
  unfolding with_action
  action_zero z on = rw (eq-eqb p 0 z)

  module _ (z : p ≡ 0 → ⊥) where
    pub action_some : (x : ℕ) → Some x ≡ found action → (on : ℕ → Next) → on x ≡ with_action w es p on
    unfolding with_action
    action_some x e on = let s = some_found action x e in rw (ne_eqb p 0 z, ne_eqb action 0 s.1, s.0)

    pub action_none : None ≡ found action → (on : ℕ → Next) → bad (Name p) ≡ with_action w es p on
    unfolding with_action
    action_none e on = rw (ne_eqb p 0 z, eq-eqb action 0 (none_found action e))

pub action_small : (l u : List ℕ) (x : ℕ) → length l < 16000 → Some x ≡ found (action_of (entries l) u) → x ≤ 1000
action_small l u x h e =
    let s = some_found (action_of (entries l) u) x e in
    omega (arith, s.0, place-within (padded 16 u) 0 (entries l), entries-length (length l / 16) l)

map_snoc : (g : ℕ → List ℕ) (xs : List ℕ) (y : ℕ) → map g (xs ++ (y ∷ [])) ≡ map g xs ++ (g y ∷ [])
map_snoc g [] y = refl
map_snoc g (x ∷ xs) y = ap (λ r. g x ∷ r) (map_snoc g xs y)

module _ (w f : List ℕ) (c p : ℕ) where
  abbrev us : List (List ℕ)
  us = labels_of w (take c f)

  abbrev place : ℕ
  place = place_of (name_at w (p - 1)) us

  pub label_zero : p ≡ 0 → (on : ℕ → List (List ℕ) → Next) → on 0 us ≡ with_label_at w us p on
  unfolding with_label_at
  label_zero z on = rw (eq-eqb p 0 z)

  module _ (z : p ≡ 0 → ⊥) where
    pub label_old : (x : ℕ) → Some x ≡ found place → (on : ℕ → List (List ℕ) → Next) → on x us ≡ with_label_at w us p on
    unfolding with_label_at label_of with_label
    label_old x e on = let s = some_found place x e in rw (ne_eqb p 0 z, ne_eqb place 0 s.1, ne_eqb place 0 s.1, s.0)

    module _ (le : c ≤ length f) where
      many : length us ≡ c
      many = length-map (take c f) (name_at w) ∙ length-take-le c f le

      pub label_small : (x : ℕ) → Some x ≡ found place → x ≤ c
      label_small x e = let s = some_found place x e in omega (arith, s.0, many, place-within (name_at w (p - 1)) 0 us)

      module _ (e : None ≡ found place) where
        pub label_full : c ≡ 999 → (on : ℕ → List (List ℕ) → Next) → bad (Name p) ≡ with_label_at w us p on
        unfolding with_label_at label_of
        label_full h on = rw (ne_eqb p 0 z, eq-eqb place 0 (none_found place e), many, le-ltb c 999 (omega arith))

        pub label_new : c < length f → c < 999 → (on : ℕ → List (List ℕ) → Next)
            → on (c + 1) (labels_of w (take (c + 1) (set f c (p - 1)))) ≡ with_label_at w us p on
        unfolding with_label_at label_of with_label
        label_new lt h on =
            let t : labels_of w (take (suc c) (set f c (p - 1))) ≡ us ++ (name_at w (p - 1) ∷ []) = ap (map (name_at w)) (take-suc-set f c (p - 1) lt) ∙ map_snoc (name_at w) (take c f) (p - 1) in
            rw (ne_eqb p 0 z, eq-eqb place 0 (none_found place e), many, lt-ltb c 999 h, ne_eqb (suc c) 0 (omega arith), add-one c, t)

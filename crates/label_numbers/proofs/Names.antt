-- A name compared with the one at a place of the text, and looked for among those at the places kept.
--     all_named     a name has letters and digits only
--     none_there     past the end of the text there is no name
--     same_full, same_short, same_not     sixteen bytes that are there; fewer; the text goes on otherwise
--     same_past, same_differs     the text ends within the name; a byte of the name is not the text's
--     label_on, label_off     the label looked for, or the search goes on behind it
use mathlib.Core.Path.{◌≡◌, refl, sym, ap, ◌∙◌}
use mathlib.Core.Bool.{Bool, true, false, not, cond, ◌&&◌}
use mathlib.Core.List.{List, [], ◌∷◌, map}
use Prim.Native.Nat.{ℕ, zero, suc, ◌+◌, ◌-◌, ◌≤◌, ◌<◌}
use native.Mathlib.Numerals.{add-one}
use native.Mathlib.Omega.{arith}
use lib.Dec.{eqb, ltb}
use lib.ListN.{length, get_or, take, drop, drop_of_length-le}
use lib.Seq.{drop-cons}
use borrow.Author.Tests.{ne_eqb, ltb-true, ltb-false}
use Rattle.std.specs.Str.{bytes_eq}
use Rattle.std.specs.List.{starts_with}
use Rattle.std.proofs.lemmas.List.{take_rest}
use Rattle.text.specs.declared.Sort.TheVariants.{Named}
use Rattle.text.specs.Bytes.{byte_at, in_sort, run}
use Rattle.text.specs.Grammar.{All}
use Rattle.text.specs.Names.{name_at, same, place_from}
use Rattle.text.proofs.Tests.{by_test}
use Rattle.text.proofs.Reach.{past_end, in_text}
use Rattle.runs.proofs.Runs.{run_on, run_off}

pub all_named : (s : List ℕ) (at n : ℕ) → All Named (run Named s at n)
unfolding run
all_named s at zero = tt
all_named s at (suc n) = by_test (in_sort Named (byte_at s at)) (λ t. rw t (t, all_named s (suc at) n)) (λ t. rw t tt)

pub none_there : (u s : List ℕ) (q : ℕ) → length s < q → same u (name_at s q) ≡ eqb (length u) 0
unfolding same
none_there u s q h = ap (same u) (run_off Named s q 16 (past_end Named s q (omega arith))) ∙ empty u
  where
    empty : (u : List ℕ) → same u [] ≡ eqb (length u) 0
    empty [] = refl
    empty (b ∷ u) = sym (ne_eqb (suc (length u)) 0 (omega arith))

-- whether a name ends where j more bytes of it may follow
abbrev ends : List ℕ → ℕ → ℕ → Bool
ends s q zero = true
ends s q (suc j) = not (in_sort Named (byte_at s q))

starts : (u s : List ℕ) (q j : ℕ) → All Named u → same u (run Named s q (length u + j)) ≡ (bytes_eq u (take (length u) (drop q s)) && ends s (q + length u) j)
unfolding same run
starts [] s q zero h = refl
starts [] s q (suc j) h =
    let z : 0 + suc j ≡ suc j = omega arith in
    let y : q + 0 ≡ q = omega arith in
    by_test (in_sort Named (byte_at s q)) (λ t. rw (z, y, run_on Named s q j t, t)) (λ t. rw (z, y, run_off Named s q (suc j) t, t))
starts (b ∷ u) s q j h =
    let z : suc (length u) + j ≡ suc (length u + j) = omega arith in
    let y : q + suc (length u) ≡ suc q + length u = omega arith in
    by_test (in_sort Named (byte_at s q))
    (λ t. let r = starts u s (suc q) j h.1 in
    rw (z, y, run_on Named s q (length u + j) t, drop-cons s q 0 (in_text Named s q t), r) (choice (eqb b (byte_at s q)) _ _))
    (λ t. rw (z, run_off Named s q (suc (length u + j)) t) (by_test (ltb q (length s))
    (λ i. rw (drop-cons s q 0 (ltb-true q (length s) i), ne_eqb b (byte_at s q) (λ e. other t (ap (in_sort Named) (sym e) ∙ h.0))))
    (λ i. rw (drop_of_length-le s {i = q} (ltb-false q (length s) i)))))
  where
    choice : (a x e : Bool) → cond a (x && e) false ≡ ((a && x) && e)
    choice true x e = refl
    choice false x e = refl

    other : {a : Bool} → a ≡ false → a ≡ true → ⊥
    other f t = let z : ◌≡◌ {A = ℕ} 0 1 = cc in omega arith

no : (a : Bool) → (a && false) ≡ false
no true = refl
no false = refl

ends_within : (u v : List ℕ) → length v < length u → bytes_eq u (take (length u) v) ≡ false
ends_within [] v lt = absurd (omega arith)
ends_within (b ∷ u) [] lt = refl
ends_within (b ∷ u) (c ∷ v) lt = rw (ends_within u v (omega arith)) (no (eqb b c))

differs : (u v : List ℕ) (k : ℕ) → k < length u → (get_or u k 0 ≡ get_or v k 0 → ⊥) → bytes_eq u (take (length u) v) ≡ false
differs [] v k lt n = absurd (omega arith)
differs (b ∷ u) [] k lt n = refl
differs (b ∷ u) (c ∷ v) zero lt n = rw (ne_eqb b c n)
differs (b ∷ u) (c ∷ v) (suc k) lt n = rw (differs u v k (omega arith) n) (no (eqb b c))

module _ (u s : List ℕ) (q : ℕ) (named : All Named u) (le : length u ≤ 16) where
  abbrev Rest : List ℕ
  Rest = take (length s - q) (drop q s)

  abbrev There : Bool
  There = starts_with eqb Rest u

  as_starts : same u (name_at s q) ≡ (There && ends s (q + length u) (16 - length u))
  as_starts =
      let z : length u + (16 - length u) ≡ 16 = omega arith in
      ap (λ n. same u (run Named s q n)) (sym z) ∙ starts u s q (16 - length u) named
      ∙ ap (λ v. bytes_eq u (take (length u) v) && ends s (q + length u) (16 - length u)) (sym (take_rest s q))

  pub same_full : There ≡ true → length u ≡ 16 → same u (name_at s q) ≡ true
  same_full t e = let z : 16 - length u ≡ 0 = omega arith in as_starts ∙ rw (t, z)

  pub same_short : There ≡ true → (length u ≡ 16 → ⊥) → same u (name_at s q) ≡ not (in_sort Named (byte_at s (q + length u)))
  same_short t n = let z : 16 - length u ≡ suc (15 - length u) = omega (arith, n) in as_starts ∙ rw (t, z)

  pub same_not : There ≡ false → same u (name_at s q) ≡ false
  same_not f = as_starts ∙ rw f

  pub same_past : length Rest < length u → same u (name_at s q) ≡ false
  same_past lt = same_not (ends_within u Rest lt)

  pub same_differs : (k : ℕ) → k < length u → (get_or u k 0 ≡ get_or Rest k 0 → ⊥) → same u (name_at s q) ≡ false
  same_differs k lt n = same_not (differs u Rest k lt n)

module _ (u s f : List ℕ) (i : ℕ) (lt : i < length f) where
  pub label_on : same u (name_at s (get_or f i 0)) ≡ true → place_from (i + 1) u (map (name_at s) (drop i f)) ≡ i + 1
  unfolding place_from
  label_on h = rw (drop-cons f i 0 lt, h)

  pub label_off : same u (name_at s (get_or f i 0)) ≡ false
      → place_from (i + 1) u (map (name_at s) (drop i f)) ≡ place_from (i + 1 + 1) u (map (name_at s) (drop (i + 1) f))
  unfolding place_from
  label_off h = rw (drop-cons f i 0 lt, h, add-one (i + 1), add-one i)

pub label_none : (u s f : List ℕ) (i : ℕ) → length f ≤ i → place_from (i + 1) u (map (name_at s) (drop i f)) ≡ 0
unfolding place_from
label_none u s f i h = rw (drop_of_length-le f {i = i} h)

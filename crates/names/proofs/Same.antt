-- Bytes compared, and the bytes of runs.
--     same_bytes            as slices are compared
--     same_is               the same bytes are equal
--     run_take              a run is a part of the text
--     run-same              runs over the same bytes are the same
--     name_within, name_is     the bytes of a name
use mathlib.Core.Path.{◌≡◌, refl, sym, ap, ◌∙◌}
use mathlib.Core.Bool.{true, false}
use mathlib.Core.List.{List, [], ◌∷◌}
use Prim.Native.Nat.{ℕ, zero, suc, ◌+◌, ◌-◌, ◌≤◌, ◌<◌, min}
use native.Mathlib.Omega.{arith}
use lib.ListN.{length, take, drop}
use lib.Seq.{drop-cons}
use borrow.Author.Tests.{eqb-true, ltb-true, ltb-false}
use lib.Dec.{eqb, ltb}
use Rattle.text.specs.declared.Sort.{Sort}
use Rattle.text.specs.declared.Sort.TheVariants.{Named}
use Rattle.text.specs.Bytes.{byte_at, in_sort, run, span}
use Rattle.std.specs.Prelude.{bytes_eq}
use Rattle.text.specs.Names.{name_at, same}
use Rattle.text.proofs.Tests.{by_test}
use Rattle.text.proofs.Reach.{in_text, past_end, span-within}
use Rattle.runs.proofs.Runs.{run_off}

pub same_is : (u v : List ℕ) → same u v ≡ true → u ≡ v
unfolding same
same_is [] [] e = refl
same_is [] (c ∷ v) e = absurd (let z : ◌≡◌ {A = ℕ} 0 1 = cc in omega arith)
same_is (b ∷ u) [] e = absurd (let z : ◌≡◌ {A = ℕ} 0 1 = cc in omega arith)
same_is (b ∷ u) (c ∷ v) e =
    by_test (eqb b c)
    (λ t. let h : same u v ≡ true = rw t at e in let p : b ≡ c = eqb-true b c t in rw (p, same_is u v h))
    (λ t. absurd (let h : false ≡ true = rw t at e in let z : ◌≡◌ {A = ℕ} 0 1 = cc in omega arith))

pub same_bytes : (u v : List ℕ) → bytes_eq u v ≡ same u v
unfolding same
same_bytes [] [] = refl
same_bytes [] (c ∷ v) = refl
same_bytes (b ∷ u) [] = refl
same_bytes (b ∷ u) (c ∷ v) = by_test (eqb b c) (λ t. rw t (same_bytes u v)) (λ t. rw t)

module _ (c : Sort) (w : List ℕ) where
  pub run_most : (at n : ℕ) → span c w at n ≤ n
  unfolding run
  run_most at zero = omega arith
  run_most at (suc n) =
      by_test (in_sort c (byte_at w at))
      (λ t. let r : span c w (suc at) n ≤ n = run_most (suc at) n in rw t (omega arith))
      (λ t. rw t (omega arith))

  pub run_take : (at n : ℕ) → run c w at n ≡ take (span c w at n) (drop at w)
  unfolding run
  run_take at zero = refl
  run_take at (suc n) =
      by_test (in_sort c (byte_at w at))
      (λ t. rw (t, drop-cons w at 0 (in_text c w at t)) (ap (λ r. byte_at w at ∷ r) (run_take (suc at) n)))
      (λ t. rw t)

  pub run-same : (u : List ℕ) (i at n : ℕ) → ((m : ℕ) → m < n → byte_at u (i + m) ≡ byte_at w (at + m)) → run c u i n ≡ run c w at n
  unfolding run
  run-same u i at zero h = refl
  run-same u i at (suc n) h =
      let z : i + 0 ≡ i = omega arith in
      let y : at + 0 ≡ at = omega arith in
      let e : byte_at u i ≡ byte_at w at = ap (byte_at u) (sym z) ∙ h 0 (omega arith) ∙ ap (byte_at w) y in
      let r : run c u (suc i) n ≡ run c w (suc at) n =
      run-same u (suc i) (suc at) n
      (λ m lt. let p : suc i + m ≡ i + suc m = omega arith in let q : at + suc m ≡ suc at + m = omega arith in
      ap (byte_at u) p ∙ h (suc m) (omega arith) ∙ ap (byte_at w) q) in
      rw (e, r)

-- the name at `at`, by the bytes from the lesser of `at` and the text's length
module _ (s : List ℕ) (at from n : ℕ) (f : from ≡ min at (length s)) (e : n ≡ span Named s from 16) where
  pub name_within : from + n ≤ length s
  name_within = omega (arith, f, e, span-within Named s from 16 (omega (arith, f)))

  pub name_is : take (from + n - from) (drop from s) ≡ name_at s at
  name_is =
      let z : from + n - from ≡ n = omega arith in
      rw (z, e) (sym (run_take Named s from 16)) ∙ by_test (ltb (length s) at)
      (λ t. let h = ltb-true (length s) at t in run_off Named s from 16 (past_end Named s from (omega (arith, f))) ∙ sym (run_off Named s at 16 (past_end Named s at (omega arith))))
      (λ t. let h = ltb-false (length s) at t in let y : from ≡ at = omega (arith, f) in rw y)

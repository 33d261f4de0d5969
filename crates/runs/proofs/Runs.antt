-- Runs of bytes of a sort.
--     run_on, run_off, span_on, span_off     one byte more, or the run's end
--     span_reach            a run that starts in the text reaches no further than its end
use mathlib.Core.Path.{◌≡◌, refl}
use mathlib.Core.Bool.{true, false}
use mathlib.Core.List.{List, [], ◌∷◌}
use Prim.Native.Nat.{ℕ, zero, suc, ◌+◌, ◌-◌, max, ◌≤◌, ◌<◌}
use native.Mathlib.Omega.{arith}
use lib.Dec.{ltb}
use lib.ListN.{length}
use borrow.Author.Tests.{ltb-true, ltb-false}
use Rattle.text.specs.declared.Sort.{Sort}
use Rattle.text.specs.Bytes.{byte_at, in_sort, run, span}
use Rattle.text.proofs.Tests.{by_test}
use Rattle.text.proofs.Reach.{past_end, span-within}

module _ (c : Sort) (w : List ℕ) where
  pub run_on : (at n : ℕ) → in_sort c (byte_at w at) ≡ true → run c w at (suc n) ≡ byte_at w at ∷ run c w (suc at) n
  unfolding run
  run_on at n h = rw h

  pub run_off : (at n : ℕ) → in_sort c (byte_at w at) ≡ false → run c w at n ≡ []
  unfolding run
  run_off at zero h = refl
  run_off at (suc n) h = rw h

  pub span_on : (at n i : ℕ) → i < n → in_sort c (byte_at w (at + i)) ≡ true
      → i + span c w (at + i) (n - i) ≡ (i + 1) + span c w (at + (i + 1)) (n - (i + 1))
  span_on at n i lt h =
      let e : n - i ≡ suc (n - (i + 1)) = omega arith in
      let d : at + (i + 1) ≡ suc (at + i) = omega arith in
      rw (e, run_on (at + i) (n - (i + 1)) h, d) (omega arith)

  pub span_off : (at n : ℕ) → in_sort c (byte_at w at) ≡ false → span c w at n ≡ 0
  span_off at n h = rw (run_off at n h)

  pub span_reach : (at n : ℕ) → at + span c w at n ≤ max at (length w)
  span_reach at n =
      by_test (ltb (length w) at)
      (λ e. omega (arith, span_off at n (past_end c w at (omega (arith, ltb-true (length w) at e)))))
      (λ e. omega (arith, span-within c w at n (ltb-false (length w) at e)))

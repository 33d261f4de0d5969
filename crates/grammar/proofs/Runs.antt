-- Runs of bytes of a sort.
--     span_most     a run has no more bytes than were looked at
--     span_exact     a run ends where the next byte is not of its sort
--     span_zero     there is none where the first byte is not of its sort
--     run_all     its bytes are of its sort
--     run_exact     the bytes that stand there are the run
use mathlib.Core.Path.{◌≡◌, refl, sym, ap, ◌∙◌}
use Prim.Native.Nat.{◌≤◌, ◌<◌}
use native.Mathlib.Nat.{not-suc-le-zero, le_of_suc-le-suc}
use native.Mathlib.Omega.{arith}
use lib.ListN.{length-append}
use lib.Seq.{get_or-append_seam, get_or-append-add, append_snoc}
use Rattle.std.specs.Prelude.{◌+◌, ◌∷◌, ◌++◌}
use Rattle.rules.specs.Words.{ℕ, zero, suc, false, List, [], length}
use Rattle.text.specs.declared.Sort.{Sort}
use Rattle.text.specs.Bytes.{byte_at, in_sort, run, span}
use Rattle.text.specs.Grammar.{All}
use Rattle.text.proofs.Tests.{by_test}

module _ (c : Sort) (w : List ℕ) where
  pub span_most : (at n : ℕ) → span c w at n ≤ n
  unfolding run
  span_most at zero = omega arith
  span_most at (suc n) = by_test (in_sort c (byte_at w at)) (λ t. let r : span c w (suc at) n ≤ n = span_most (suc at) n in rw t (omega arith)) (λ t. rw t (omega arith))

  pub span_zero : (at n : ℕ) → in_sort c (byte_at w at) ≡ false → span c w at n ≡ 0
  unfolding run
  span_zero at zero h = refl
  span_zero at (suc n) h = rw h

  pub run_all : (at n : ℕ) → All c (run c w at n)
  unfolding run
  run_all at zero = tt
  run_all at (suc n) = by_test (in_sort c (byte_at w at)) (λ t. rw t (t, run_all (suc at) n)) (λ t. rw t tt)

-- So many bytes of the sort behind pre, and then none.
pub span_exact : (c : Sort) (pre n z : List ℕ) (m : ℕ) → All c n → length n < m → in_sort c (byte_at z 0) ≡ false → span c (pre ++ (n ++ z)) (length pre) m ≡ length n
unfolding run
span_exact c pre n z zero p lt h = absurd (not-suc-le-zero lt)
span_exact c pre [] z (suc m) p lt h =
    let e : byte_at (pre ++ z) (length pre) ≡ byte_at z 0 = let d : length pre ≡ length pre + 0 = omega arith in ap (λ i. byte_at (pre ++ z) i) d ∙ get_or-append-add pre z 0 0 in
    rw (e, h)
span_exact c pre (b ∷ n) z (suc m) p lt h =
    let e : byte_at (pre ++ (b ∷ (n ++ z))) (length pre) ≡ b = get_or-append_seam pre b (n ++ z) 0 in
    let l : suc (length pre) ≡ length (pre ++ (b ∷ [])) = sym (length-append pre (b ∷ []) ∙ omega arith) in
    let r : span c ((pre ++ (b ∷ [])) ++ (n ++ z)) (length (pre ++ (b ∷ []))) m ≡ length n = span_exact c (pre ++ (b ∷ [])) n z m p.1 (le_of_suc-le-suc lt) h in
    let s : pre ++ ((b ∷ n) ++ z) ≡ (pre ++ (b ∷ [])) ++ (n ++ z) = sym (append_snoc pre b (n ++ z)) in
    rw (e, p.0, l) (ap (λ (w : List ℕ). suc (length (run c w (length (pre ++ (b ∷ []))) m))) s ∙ ap suc r)

-- Looking at no more than those.
pub span_all : (c : Sort) (pre n z : List ℕ) → All c n → span c (pre ++ (n ++ z)) (length pre) (length n) ≡ length n
unfolding run
span_all c pre [] z p = refl
span_all c pre (b ∷ n) z p =
    let e : byte_at (pre ++ (b ∷ (n ++ z))) (length pre) ≡ b = get_or-append_seam pre b (n ++ z) 0 in
    let l : suc (length pre) ≡ length (pre ++ (b ∷ [])) = sym (length-append pre (b ∷ []) ∙ omega arith) in
    let r : span c ((pre ++ (b ∷ [])) ++ (n ++ z)) (length (pre ++ (b ∷ []))) (length n) ≡ length n = span_all c (pre ++ (b ∷ [])) n z p.1 in
    let s : pre ++ ((b ∷ n) ++ z) ≡ (pre ++ (b ∷ [])) ++ (n ++ z) = sym (append_snoc pre b (n ++ z)) in
    rw (e, p.0, l) (ap (λ (w : List ℕ). suc (length (run c w (length (pre ++ (b ∷ []))) (length n)))) s ∙ ap suc r)

pub run_exact : (c : Sort) (pre n z : List ℕ) (m : ℕ) → All c n → length n ≤ m → in_sort c (byte_at z 0) ≡ false → run c (pre ++ (n ++ z)) (length pre) m ≡ n
unfolding run
run_exact c pre [] z zero p lt h = refl
run_exact c pre (b ∷ n) z zero p lt h = absurd (not-suc-le-zero lt)
run_exact c pre [] z (suc m) p lt h =
    let e : byte_at (pre ++ z) (length pre) ≡ byte_at z 0 = let d : length pre ≡ length pre + 0 = omega arith in ap (λ i. byte_at (pre ++ z) i) d ∙ get_or-append-add pre z 0 0 in
    rw (e, h)
run_exact c pre (b ∷ n) z (suc m) p lt h =
    let e : byte_at (pre ++ (b ∷ (n ++ z))) (length pre) ≡ b = get_or-append_seam pre b (n ++ z) 0 in
    let l : suc (length pre) ≡ length (pre ++ (b ∷ [])) = sym (length-append pre (b ∷ []) ∙ omega arith) in
    let r : run c ((pre ++ (b ∷ [])) ++ (n ++ z)) (length (pre ++ (b ∷ []))) m ≡ n = run_exact c (pre ++ (b ∷ [])) n z m p.1 (le_of_suc-le-suc lt) h in
    let s : pre ++ ((b ∷ n) ++ z) ≡ (pre ++ (b ∷ [])) ++ (n ++ z) = sym (append_snoc pre b (n ++ z)) in
    rw (e, p.0, l) (ap (λ (w : List ℕ). b ∷ run c w (length (pre ++ (b ∷ []))) m) s ∙ ap (λ (y : List ℕ). b ∷ y) r)

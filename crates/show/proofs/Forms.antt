-- How a record is written, where its kind is known.
--     base     of kind 1 to 4
--     other    of kind 5 to 19, by its form
--     none     of any other
use mathlib.Core.Path.{◌≡◌, refl, ap, ◌∙◌}
use Prim.Native.Nat.{ℕ, zero, suc, ◌-◌, ◌≤◌}
use native.Mathlib.Omega.{arith}
use mathlib.Core.List.{List, [], ◌∷◌}
use lib.ListN.{get_or, get_or-eq_default}
use Rattle.std.proofs.lemmas.List.{get_or-map}
use Rattle.rules.specs.Record.{Rec, rec}
use Rattle.print.specs.Text.{ascii, filled}
use Rattle.words.specs.Text.{instruction}
use Rattle.show.specs.Text.{forms, rows, written}

pub base : (r : Rec) → 1 ≤ r.kind → r.kind ≤ 4 → written r ≡ instruction r
unfolding written
base r = by r.kind
  where
    by : (k : ℕ) → 1 ≤ k → k ≤ 4 → written (rec k r.x r.y) ≡ instruction (rec k r.x r.y)
    by zero l m = absurd (omega arith)
    by (suc zero) l m = refl
    by (suc (suc zero)) l m = refl
    by (suc (suc (suc zero))) l m = refl
    by (suc (suc (suc (suc zero)))) l m = refl
    by (suc (suc (suc (suc (suc k))))) l m = absurd (omega arith)

pub other : (r : Rec) {f : List ℕ} {x y : ℕ} → 5 ≤ r.kind → r.kind ≤ 19 → f ≡ get_or forms (r.kind - 5) [] → x ≡ r.x → y ≡ r.y → written r ≡ filled f x y
unfolding written
other r l m f x y =
    let i = r.kind - 5 in
    let e : r.kind ≡ suc (suc (suc (suc (suc i)))) = omega arith in
    ap (λ (k : ℕ). written (rec k r.x r.y)) e ∙ get_or-map (λ (g : List ℕ). filled g r.x r.y) forms i [] (filled (ascii "kind x") (suc (suc (suc (suc (suc i))))) 0) (omega arith) ∙ rw (f, x, y)

pub none : (r : Rec) {k : ℕ} → k ≡ r.kind → (1 ≤ r.kind → 20 ≤ r.kind) → written r ≡ filled (ascii "kind x") k 0
unfolding written
none r e h = rw e (by r.kind h)
  where
    by : (k : ℕ) → (1 ≤ k → 20 ≤ k) → written (rec k r.x r.y) ≡ filled (ascii "kind x") k 0
    by zero h = refl
    by (suc k) h = let base = instruction (rec (suc k) r.x r.y) in
        get_or-eq_default (filled (ascii "kind x") (suc k) 0 ∷ base ∷ base ∷ base ∷ base ∷ rows r.x r.y) (filled (ascii "kind x") (suc k) 0) {n = suc k} (h (omega arith))

-- A form, as code fills it.
--     form_none, form_turn     of a form j signs are printed: none; one more
use mathlib.Core.Path.{◌≡◌, refl, sym, ap, ◌∙◌}
use Prim.Native.Nat.{ℕ, suc, ◌+◌, ◌-◌, ◌<◌}
use native.Mathlib.Numerals.{add-one}
use mathlib.Core.List.{List, [], ◌∷◌, ◌++◌, append-nil, append_assoc}
use lib.ListN.{length, take, get_or}
use lib.Seq.{take-suc}
use borrow.Rule.Slice.PartMut.{put_mid}
use Rattle.records.proofs.Writing.{rest}
use Rattle.print.specs.Text.{filled_sign, filled}
use Rattle.print.specs.Printing.{Printed}
use Rattle.print.proofs.Printing.{print-none, print_more, print_as}

filled_append : (f g : List ℕ) (x y : ℕ) → filled (f ++ g) x y ≡ filled f x y ++ filled g x y
unfolding filled
filled_append [] g x y = refl
filled_append (p ∷ f) g x y = ap (λ (t : List ℕ). filled_sign x y p ++ t) (filled_append f g x y) ∙ sym (append_assoc (filled_sign x y p) (filled f x y) (filled g x y))

pub form_none : (x y : ℕ) (o : List ℕ) → Printed (filled [] x y) o o 0
unfolding filled
form_none x y o = print-none o

module _ (f : List ℕ) (x y j : ℕ) {o w : List ℕ} {at : ℕ} (v : Printed (filled (take j f) x y) o w at) where
  one_more : j < length f → filled (take (suc j) f) x y ≡ filled (take j f) x y ++ filled_sign x y (get_or f j 0)
  unfolding filled
  one_more h = rw (take-suc f j 0 h, filled_append (take j f)) (ap (λ (t : List ℕ). filled (take j f) x y ++ t) (append-nil (filled_sign x y (get_or f j 0))))

  pub form_turn : j < length f → {ys : List ℕ} {k : ℕ} → Printed (filled_sign x y (get_or f j 0)) (rest w at) ys k
      → Printed (filled (take (j + 1) f) x y) o (put_mid at (length w - at) w ys) (at + k)
  form_turn h p = rw add-one (print_as (one_more h) (print_more v p))

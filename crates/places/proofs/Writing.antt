-- Writing what fits into a part that is lent, and into its unwritten rest.
--     fit_sizes     how much is written, and how long the part then is
--     fit_none, fit_one, fit_more     nothing yet; one record; a writer's records behind those written before
--     fit_as     the same records by another name
--     fit_all     where there is room, all of them
use mathlib.Core.Path.{◌≡◌, refl, sym, ap, ◌∙◌}
use Prim.Native.Nat.{ℕ, ◌+◌, ◌-◌, ◌*◌, ◌≤◌, ◌<◌}
use native.Mathlib.Omega.{arith}
use mathlib.Core.Bool.{Bool, true, false}
use mathlib.Core.List.{List, [], ◌∷◌, ◌++◌, append-nil}
use lib.ListN.{length, take, drop, length-append, length-take, length-drop}
use lib.Seq.{take_all, take-append-le, take-append-add}
use lib.Dec.{leb}
use borrow.Rule.Slice.PartMut.{put_mid}
use borrow.Author.Tests.{leb-true, leb-false}
use Rattle.rules.specs.Record.{Rec, bytes_of, count}
use Rattle.laws.proofs.Records.{bytes_length}
use Rattle.records.specs.Writing.{Put, Wrote}
use Rattle.records.proofs.Writing.{rest, put, more}
use Rattle.places.specs.Writing.{Fitted}

abbrev fitting : List Rec → List ℕ → List Rec
fitting g o = take (count o) g

fitting_length : (g : List Rec) (o : List ℕ) → 8 * length (fitting g o) ≤ length o
fitting_length g o = simp length-take (omega arith)

fits : (g f : List Rec) {o w : List ℕ} {k : ℕ} → fitting g o ≡ f → Wrote f o w k → Fitted g o w k
fits g f e v = record { answers = v.count ∙ rw e; holds = v.holds ∙ rw e }

pub fit_none : (o : List ℕ) → Fitted [] o o 0
fit_none o = fits [] [] (take_all (count o) [] (omega arith)) (record { count = refl; holds = refl })

pub fit_one : {q r : Rec} {o w : List ℕ} {k : ℕ} → q ≡ r → Put r o w k → Fitted (q ∷ []) o w k
fit_one {q} {r} {o} {w} {k} e p = by (leb 8 (length o)) refl
  where
    by : (b : Bool) → leb 8 (length o) ≡ b → Fitted (q ∷ []) o w k
    by true t = fits (q ∷ []) (q ∷ []) (take_all (count o) (q ∷ []) (omega (arith, leb-true 8 (length o) t))) (put e p (p.answers ∙ rw t))
    by false t =
        let z : count o ≡ 0 = omega (arith, leb-false 8 (length o) t) in
        let k0 : k ≡ 0 = p.answers ∙ rw t in
        fits (q ∷ []) [] (rw z) (record { count = k0; holds = p.holds ∙ rw (t, k0) })

pub fit_as : {f g : List Rec} {o w : List ℕ} {k : ℕ} → f ≡ g → Fitted g o w k → Fitted f o w k
fit_as e v = rw e v

module _ {rs : List Rec} {o w : List ℕ} {at : ℕ} (v : Fitted rs o w at) where
  pub fit_sizes : (at ≤ length o) × (length w ≡ length o) × (at ≡ 8 * length (fitting rs o))
  fit_sizes =
      let e : at ≡ 8 * length (fitting rs o) = v.answers ∙ bytes_length (fitting rs o) in
      let l : at ≤ length o = omega (arith, fitting_length rs o) in
      (l, ap length v.holds ∙ length-append (bytes_of (fitting rs o)) (drop at o) ∙ omega (arith, l, v.answers, length-drop at o), e)

  pub fit_all : 8 * length rs ≤ length o → Wrote rs o w at
  fit_all h = let e : fitting rs o ≡ rs = take_all (count o) rs (omega arith) in record { count = v.answers ∙ rw e; holds = v.holds ∙ rw e }

  left : count (rest w at) ≡ count o - length (fitting rs o)
  left = rw (length-take (length w - at) (drop at w), length-drop at w) (omega (arith, fit_sizes))

  both : (g : List Rec) → fitting (rs ++ g) o ≡ fitting rs o ++ fitting g (rest w at)
  both g = by (leb (length rs) (count o)) refl
    where
      by : (b : Bool) → leb (length rs) (count o) ≡ b → fitting (rs ++ g) o ≡ fitting rs o ++ fitting g (rest w at)
      by true t =
          let h : length rs ≤ count o = leb-true _ _ t in
          let a : fitting rs o ≡ rs = take_all (count o) rs h in
          let c : count o ≡ length rs + (count o - length rs) = omega arith in
          ap (λ (n : ℕ). take n (rs ++ g)) c
          ∙ take-append-add rs g (count o - length rs)
          ∙ rw (left, a)
      by false t =
          let h : count o < length rs = leb-false _ _ t in
          let z : count o - length (fitting rs o) ≡ 0 = simp length-take (omega arith) in
          take-append-le (count o) rs g (omega arith) ∙ sym (rw (left, z) (append-nil (fitting rs o)))

  pub fit_more : {g : List Rec} {ys : List ℕ} {k : ℕ} → Fitted g (rest w at) ys k → Fitted (rs ++ g) o (put_mid at (length w - at) w ys) (at + k)
  fit_more {g} u = fits (rs ++ g) (fitting rs o ++ fitting g (rest w at)) (both g) (more {rs = fitting rs o} {g = fitting g (rest w at)} (record { count = v.answers; holds = v.holds }) (record { count = u.answers; holds = u.holds }))

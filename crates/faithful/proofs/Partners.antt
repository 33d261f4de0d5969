-- Wherever an item of the grammar stands, its header, separator and end are partners; and in a body every record belongs to an item.
-- From the reading of bodies.
use mathlib.Core.Path.{◌≡◌, refl, sym, ap, ◌∙◌, subst}
use native.Mathlib.Nat.{zero-add}
use native.Mathlib.Numerals.{add-one}
use native.Mathlib.Omega.{arith}
use mathlib.Core.List.{append_assoc, append-nil}
use Rattle.std.specs.Prelude.{◌+◌, ◌∷◌, ◌++◌}
use Rattle.rules.specs.Words.{ℕ, zero, suc, Bool, true, false, Some, List, [], drop, slice_get}
use Rattle.rules.specs.Instruction.{Act, Sort, conditional, loop, Op, header, separator, end, ops}
use Rattle.rules.specs.Numbers.{at}
use Rattle.rules.specs.Nesting.{bracket, Body, nothing, single, looping, one_armed, two_armed}
use Rattle.rules.specs.Partners.{Role, opens, ends, role_of, role, stop_at, stop_from, end_of, header_of}
use Rattle.laws.proofs.Partners.{back_at, back}
use Rattle.faithful.specs.Items.{or_end, Stands, loop_item, one_arm, two_arms, Partnered, Belongs, by_itself, as_header, as_separator, as_end}
use Rattle.faithful.specs.Promises.{Partners, PartnersFile}
use Rattle.laws.proofs.Refusals.{admitted}
use Rattle.faithful.proofs.Grammar.{grammar}
use Rattle.faithful.proofs.Inner.Places.{clash, over, over_suc, over_length}
use Rattle.faithful.proofs.Inner.Reading.{From, whole, next, from_drop, drop_at, from_of, from_over, stop_body, end_of_lem, arm_of_lem, back_one, back_body, header_of_lem}

-- ## An item's partners

from : {L : List Op} {j : ℕ} {o : Op} {os : List Op} → drop j L ≡ o ∷ os → From L j (o ∷ os)
from {L} {j} {o} {os} e =
    let r = from_of L j o (drop_at j L o os e) in
    let q : r.0 ≡ os = let d = from_drop r.1 in cc in
    subst (λ (l : List Op). From L j (o ∷ l)) q r.1

own_end : (b : Sort) → role b (end b) ≡ ends
unfolding role role_of bracket
own_end conditional = refl
own_end loop = refl

own_header : (b : Sort) (v : Bool) (a : Act) → role b (header b v a) ≡ opens
unfolding role role_of bracket
own_header conditional v a = refl
own_header loop v a = refl

end_here : (w : Bool) (b : Sort) (k : ℕ) (os : List Op) → stop_from w b 0 k (end b ∷ os) ≡ k
unfolding stop_from stop_at
end_here w b k os = rw (own_end b)

header_here : {L : List Op} {j : ℕ} {b : Sort} {v : Bool} {a : Act} {os : List Op} → From L j (header b v a ∷ os) → back b L (suc j) 0 ≡ suc j
unfolding back_at
header_here {L} {j} {b} {v} {a} t = back_one b t 0 ∙ ap (λ (r : Role). back_at r 0 (suc j) (λ e. back b L j e)) (own_header b v a)

closed-item : {L : List Op} {j : ℕ} {b : Sort} {v : Bool} {a : Act} {body : List Op} (rest : List Op) → Body body
    → From L j (header b v a ∷ (body ++ (end b ∷ rest))) → (end_of b L (suc j) ≡ suc (over body (suc j))) × (header_of b L (suc (over body (suc j))) ≡ suc j)
closed-item {j} {b} {body} rest y t = (
  end_of_lem t b ∙ stop_body false b y 0 (suc (suc j)) (end b ∷ rest) ∙ end_here false b _ rest ∙ over_suc body (suc j),
  header_of_lem (from_over body (next t)) b (own_end b) ∙ back_body b (end b ∷ rest) y (next t) 0 ∙ header_here t,
)

parted-item : {L : List Op} {j : ℕ} {v : Bool} {a : Act} {one two : List Op} (rest : List Op) → Body one → Body two
    → From L j (header conditional v a ∷ (one ++ (separator ∷ (two ++ (end conditional ∷ rest)))))
    → Partnered L conditional (suc j) (suc (over one (suc j))) (suc (over two (suc (over one (suc j)))))
unfolding or_end stop_from stop_at back_at role role_of bracket
parted-item {L} {j} {one} {two} rest x y t =
    let t₁ = from_over one (next t) in
    let t₂ = from_over two (next t₁) in
    let k = over one (suc j) in
    let second = stop_body false conditional y 0 (suc (suc k)) (end conditional ∷ rest) ∙ end_here false conditional _ rest ∙ over_suc two (suc k) in
    record {
      its_end =
          end_of_lem t conditional ∙ stop_body false conditional x 0 (suc (suc j)) _
          ∙ ap (λ (q : ℕ). stop_from false conditional 0 (suc q) (two ++ (end conditional ∷ rest))) (over_suc one (suc j)) ∙ second;
      its_header =
          header_of_lem t₂ conditional refl ∙ back_body conditional (end conditional ∷ rest) y (next t₁) 0 ∙ back_one conditional t₁ 0
          ∙ back_body conditional (separator ∷ (two ++ (end conditional ∷ rest))) x (next t) 0 ∙ header_here t;
      its_arm = λ e. arm_of_lem t ∙ stop_body true conditional x 0 (suc (suc j)) _ ∙ over_suc one (suc j);
      separator-end = λ i e. end_of_lem t₁ conditional ∙ second;
    }

partnered : (L : List Op) (b : Sort) (h k e : ℕ) → Stands L b h k e → Partnered L b h k e
unfolding or_end role role_of bracket
partnered L b h k e (loop_item {j = j} {body = body} rest d y) =
    let p = closed-item rest y (from d) in
    rw (← over_length body (suc j))
    (record {
      its_end = p.0;
      its_header = p.1;
      its_arm = λ q. clash cc;
      separator-end = λ i q. absurd (omega arith);
    })
partnered L b h k e (one_arm {j = j} {body = body} rest d y) =
    let p = closed-item rest y (from d) in
    rw (← over_length body (suc j))
    (record {
      its_end = p.0;
      its_header = p.1;
      its_arm = λ q. arm_of_lem (from d) ∙ stop_body true conditional y 0 (suc (suc j)) (end conditional ∷ rest) ∙ end_here true conditional _ rest ∙ over_suc body (suc j);
      separator-end = λ i q. absurd (omega arith);
    })
partnered L b h k e (two_arms {j = j} {one = one} {two = two} rest d x y) =
    rw (← over_length one (suc j), ← over_length two (suc (over one (suc j)))) (parted-item rest x y (from d))

-- ## Every record belongs to an item

module _ (L : List Op) where
  abbrev Covered : ℕ → List Op → Type 0
  Covered i [] = Unit {0}
  Covered i (o ∷ os) = Belongs L i o × Covered (suc i) os

  covered_append : (xs ys : List Op) (i : ℕ) → Covered i xs → Covered (over xs i) ys → Covered i (xs ++ ys)
  covered_append [] ys i c d = d
  covered_append (x ∷ xs) ys i c d = (c.0, covered_append xs ys (suc i) c.1 d)

  covered_at : (os : List Op) (i j : ℕ) (o : Op) → Covered i os → slice_get os j ≡ Some o → Belongs L (j + i) o
  covered_at [] i j o c e = clash cc
  covered_at (x ∷ os) i zero o c e = let h : x ≡ o = cc in rw zero-add (subst (Belongs L i) h c.0)
  covered_at (x ∷ os) i (suc j) o c e = subst (λ (k : ℕ). Belongs L k o) (omega arith) (covered_at os (suc i) j o c.1 e)

  -- Records, behind them an end or a separator, and what follows.
  then : (xs : List Op) (j : ℕ) (o : Op) (os : List Op) → Covered (suc j) xs → Belongs L (suc (over xs j)) o → Covered (suc (suc (over xs j))) os
      → Covered (suc j) (xs ++ (o ∷ os))
  then xs j o os c b d = covered_append xs (o ∷ os) (suc j) c (rw (over_suc xs j) (b, d))

  -- A body behind the first j records of L, and more behind it.
  covered : {j : ℕ} {xs : List Op} (more : List Op) → Body xs → From L j (xs ++ more) → Covered (suc j) xs
  covered more nothing t = tt
  covered more (single e y) t = (by_itself e, covered more y (next t))
  covered {j} more (looping {body = xs} {rest = r} x y) t =
      let u = rw (append_assoc xs (end loop ∷ r) more) at t in
      let s : Stands L loop (suc j) 0 (suc (over xs (suc j))) = rw (over_length xs (suc j)) (loop_item (r ++ more) (from_drop u) x) in
      (as_header _ _ s, then xs (suc j) (end loop) r (covered _ x (next u)) (as_end _ _ s) (covered more y (next (from_over xs (next u)))))
  covered {j} more (one_armed {body = xs} {rest = r} x y) t =
      let u = rw (append_assoc xs (end conditional ∷ r) more) at t in
      let s : Stands L conditional (suc j) 0 (suc (over xs (suc j))) = rw (over_length xs (suc j)) (one_arm (r ++ more) (from_drop u) x) in
      (as_header _ _ s, then xs (suc j) (end conditional) r (covered _ x (next u)) (as_end _ _ s) (covered more y (next (from_over xs (next u)))))
  covered {j} more (two_armed {first = xs} {second = ys} {rest = r} x y z) t =
      let k = over xs (suc j) in
      let os = ys ++ (end conditional ∷ r) in
      let u = rw (append_assoc xs (separator ∷ os) more, append_assoc ys (end conditional ∷ r) more) at t in
      let u₁ = next (from_over xs (next u)) in
      let i = two_arms (r ++ more) (from_drop u) x y in
      let s : Stands L conditional (suc j) (suc k) (suc (over ys (suc k))) = rw (over_length ys (suc k), over_length xs (suc j)) i in
      let d = then ys (suc k) (end conditional) r (covered _ y u₁) (as_end _ _ s) (covered more z (next (from_over ys u₁))) in
      (as_header _ _ s, then xs (suc j) separator os (covered _ x (next u)) (as_separator _ _ s) d)

  belongs : Body L → (i : ℕ) (o : Op) → at L i ≡ Some o → Belongs L i o
  unfolding at
  belongs y zero o e = clash cc
  belongs y (suc j) o e = subst (λ (k : ℕ). Belongs L k o) (add-one j) (covered_at L 1 j o (covered [] y (subst (From L 0) (sym (append-nil L)) whole)) e)

pub partners : Partners
partners L = (partnered L, belongs L)

pub partners_file : PartnersFile
partners_file f n e = belongs (ops f) ((grammar (ops f)).0.0 (admitted f n e).nested)

-- The grammar and the scan agree: refusal 5 is absent exactly if the routine is one body, and its place is the one that the paper
-- words. Both ways by reading: what is read leaves items open, and between their headers and separators stand bodies.
use mathlib.Core.Path.{◌≡◌, refl, sym, ap, ◌∙◌, subst, subst₂}
use mathlib.Core.Logic.{◌⊎◌, inl, inr}
use Prim.Native.Nat.{◌≤◌}
use native.Mathlib.Omega.{arith}
use mathlib.Core.List.{append_assoc, append-nil}
use lib.ListN.{length-append}
use lib.Seq.{append_snoc}
use Rattle.std.specs.Prelude.{◌+◌, ◌∷◌, ◌++◌}
use Rattle.rules.specs.Words.{ℕ, suc, Bool, true, false, List, [], length}
use Rattle.rules.specs.Instruction.{Sort, conditional, loop, Op, act, test, jump, label, goto, goto2, header, separator, end, call, return}
use Rattle.rules.specs.Nesting.{Bracket, bracket, Item, item, parted, closed, read, lowest, go_on, scan, nesting, Body, nothing, single, looping, one_armed, two_armed}
use Rattle.faithful.specs.Place.{Leaves, none_open, in_item, in_second, IsOpen, Misfit, stray_separator, second_separator, separator_in_loop, stray_end, loop_end_in_conditional, end_in_loop, Place5, misfit, unclosed}
use Rattle.faithful.specs.Promises.{Grammar}
use Rattle.faithful.proofs.Inner.Places.{over, over_length}
use Rattle.faithful.proofs.Inner.Reading.{Reader, body_over}

-- ## Bodies and what is left open can be read on

body_append : {xs ys : List Op} → Body xs → Body ys → Body (xs ++ ys)
body_append nothing y = y
body_append (single e x) y = single e (body_append x y)
body_append {ys} (looping {body = b} {rest = r} x z) y = rw (append_assoc b (end loop ∷ r) ys) (looping x (body_append z y))
body_append {ys} (one_armed {body = b} {rest = r} x z) y = rw (append_assoc b (end conditional ∷ r) ys) (one_armed x (body_append z y))
body_append {ys} (two_armed {first = b} {second = c} {rest = r} x z w) y =
    rw (append_assoc b (separator ∷ (c ++ (end conditional ∷ r))) ys, append_assoc c (end conditional ∷ r) ys) (two_armed x z (body_append w y))

leaves_on : {xs ys : List Op} {s : List Item} → Leaves xs s → Body ys → Leaves (xs ++ ys) s
leaves_on (none_open x) y = none_open (body_append x y)
leaves_on {ys} (in_item {xs = x} {ys = z} {b = b} v a t w) y = rw (append_assoc x (header b v a ∷ z) ys) (in_item v a t (body_append w y))
leaves_on {ys} (in_second {xs = x} {ys = z} t w) y = rw (append_assoc x (separator ∷ z) ys) (in_second t (body_append w y))

leaves_end : {xs : List Op} {b : Sort} {w : Bool} {h : ℕ} {s : List Item} → Leaves xs (item b w h ∷ s) → Leaves (xs ++ (end b ∷ [])) s
leaves_end (in_item {xs = x} {ys = z} {b = b} v a t y) = rw (append_assoc x (header b v a ∷ z) (end b ∷ [])) (leaves_on t (whole b y))
  where
    whole : (b : Sort) → Body z → Body (header b v a ∷ (z ++ (end b ∷ [])))
    whole conditional y = one_armed y nothing
    whole loop y = looping y nothing
leaves_end (in_second {ys = z} (in_item {xs = x} {ys = u} v a t y) w) =
    let o = header conditional v a in
    rw (append_assoc (x ++ (o ∷ u)) (separator ∷ z) (end conditional ∷ []), append_assoc x (o ∷ u) (separator ∷ (z ++ (end conditional ∷ []))))
    (leaves_on t (two_armed y w nothing))

-- ## The lowest opener

-- What is open stands in what was read, later ones above.
open_in : {xs : List Op} {s : List Item} → Leaves xs s → (k : ℕ) → IsOpen k s → (1 ≤ k) × (k ≤ length xs)
open_in (none_open x) k o = absurd o
open_in (in_item {xs = x} {ys = z} {b = b} v a t y) k (inl e) = omega (arith, length-append x (header b v a ∷ z))
open_in (in_item {xs = x} {ys = z} {b = b} v a t y) k (inr o) = let h = open_in t k o in omega (arith, length-append x (header b v a ∷ z))
open_in (in_second {xs = x} {ys = z} t y) k o = let h = open_in t k o in omega (arith, length-append x (separator ∷ z))

-- `lowest` finds the one with the lowest number.
abbrev Least : ℕ → List Item → Type 0
Least h s = IsOpen h s × ((k : ℕ) → IsOpen k s → h ≤ k)

lowest-least : {xs : List Op} {x : Item} {s : List Item} → Leaves xs (x ∷ s) → Least (lowest (x ∷ s)) (x ∷ s)
unfolding lowest
lowest-least (in_item {xs = xs} {s = []} v a t y) = (inl refl, least)
  where
    least : (k : ℕ) → (k ≡ suc (length xs)) ⊎ ⊥ → suc (length xs) ≤ k
    least k (inl e) = omega arith
    least k (inr o) = absurd o
lowest-least (in_item {xs = xs} {s = z ∷ s} v a t y) =
    let h = lowest-least t in
    (inr h.0, least (lowest (z ∷ s)) (open_in t (lowest (z ∷ s)) h.0).1 h.1)
  where
    least : (n : ℕ) → n ≤ length xs → ((k : ℕ) → IsOpen k (z ∷ s) → n ≤ k) → (k : ℕ) → (k ≡ suc (length xs)) ⊎ IsOpen k (z ∷ s) → n ≤ k
    least n g f k (inl e) = omega arith
    least n g f k (inr o) = f k o
lowest-least (in_second {s = []} t y) = lowest-least t
lowest-least (in_second {s = z ∷ s} t y) = lowest-least t

-- ## What was read, the scan has read

scanner : Reader (List Item) ℕ
unfolding scan go_on read bracket parted closed
scanner = record {
  reads = λ s k os. scan k s os;
  into = λ b k s. item b false k ∷ s;
  second = λ k s. item conditional true k ∷ s;
  passes = λ s k o os e. ap (λ (p : Bracket). go_on k (read k p s) (λ t. scan (suc k) t os)) e;
  enters = λ s k b v a os. refl;
  leaves = λ s h k b os. close s h k b os;
  turns = λ s h k os. refl;
  closes = λ s h k os. refl;
}
  where
    close : (s : List Item) (h k : ℕ) (b : Sort) (os : List Op) → scan k (item b false h ∷ s) (end b ∷ os) ≡ scan (suc k) s os
    close s h k conditional os = refl
    close s h k loop os = refl

over_first : (xs : List Op) (k : ℕ) → over xs (suc k) ≡ suc (length xs + k)
over_first xs k = over_length xs (suc k) ∙ omega arith

scan_over : {xs : List Op} → Body xs → (s : List Item) (k : ℕ) (os : List Op) → scan (suc k) s (xs ++ os) ≡ scan (suc (length xs + k)) s os
unfolding scanner
scan_over {xs} x s k os = body_over scanner x s (suc k) os ∙ ap (λ (i : ℕ). scan i s os) (over_first xs k)

scan_on : {xs : List Op} {s : List Item} → Leaves xs s → (os : List Op) → nesting (xs ++ os) ≡ scan (suc (length xs)) s os
unfolding nesting scan go_on read bracket parted
scan_on (none_open {xs = x} y) os = scan_over y [] 0 os ∙ ap (λ (i : ℕ). scan (suc i) [] os) (omega arith)
scan_on (in_item {xs = x} {ys = z} {b = b} {s = s} v a t y) os =
    let s₁ = item b false (suc (length x)) ∷ s in
    ap nesting (append_assoc x (header b v a ∷ z) os) ∙ scan_on t (header b v a ∷ (z ++ os)) ∙ scan_over y s₁ (suc (length x)) os
    ∙ ap (λ (i : ℕ). scan (suc i) s₁ os) (omega (arith, length-append x (header b v a ∷ z)))
scan_on (in_second {xs = x} {ys = z} {h = h} {s = s} t y) os =
    let s₁ = item conditional true h ∷ s in
    ap nesting (append_assoc x (separator ∷ z) os) ∙ scan_on t (separator ∷ (z ++ os)) ∙ scan_over y s₁ (suc (length x)) os
    ∙ ap (λ (i : ℕ). scan (suc i) s₁ os) (omega (arith, length-append x (separator ∷ z)))

scan_all : {xs : List Op} {s : List Item} → Leaves xs s → nesting xs ≡ lowest s
unfolding scan
scan_all {xs} t = ap nesting (sym (append-nil xs)) ∙ scan_on t []

misfits : {o : Op} {s : List Item} → Misfit o s → (i : ℕ) (rest : List Op) → scan i s (o ∷ rest) ≡ i
unfolding scan go_on read bracket parted closed
misfits stray_separator i rest = refl
misfits second_separator i rest = refl
misfits separator_in_loop i rest = refl
misfits (stray_end {b = conditional}) i rest = refl
misfits (stray_end {b = loop}) i rest = refl
misfits loop_end_in_conditional i rest = refl
misfits end_in_loop i rest = refl

placed : {L : List Op} {p : ℕ} → Place5 L p → nesting L ≡ p
placed (misfit {xs = xs} {o = o} rest e t m) = ap nesting e ∙ scan_on t (o ∷ rest) ∙ misfits m (suc (length xs)) rest
placed (unclosed {s = []} t o l) = absurd o
placed (unclosed {s = x ∷ s} {h = h} t o l) = let g = lowest-least t in scan_all t ∙ omega (arith, l (lowest (x ∷ s)) g.0, g.1 h o)

-- ## What the scan has read, leaves items open as said

abbrev Judged : List Op → ℕ → Type 0
Judged L p = ((p ≡ 0) × Body L) ⊎ Place5 L p

-- One record more is read.
on : (xs : List Op) (o : Op) (os : List Op) (s : List Item) → Judged ((xs ++ (o ∷ [])) ++ os) (scan (suc (length (xs ++ (o ∷ [])))) s os)
    → Judged (xs ++ (o ∷ os)) (scan (suc (suc (length xs))) s os)
on xs o os s j =
    let e : length (xs ++ (o ∷ [])) ≡ suc (length xs) = length-append xs (o ∷ []) ∙ omega arith in
    subst₂ (λ (l : List Op) (n : ℕ). Judged l (scan (suc n) s os)) (append_snoc xs o os) e j

judge : (os xs : List Op) (s : List Item) → Leaves xs s → Judged (xs ++ os) (scan (suc (length xs)) s os)
unfolding scan go_on read bracket parted closed lowest
judge [] xs [] (none_open x) = inl (refl, rw (append-nil xs) x)
judge [] xs (x ∷ s) t = let g = lowest-least t in rw (append-nil xs) (inr (unclosed t g.0 g.1))
judge (act a ∷ os) xs s t = on xs (act a) os s (judge os (xs ++ (act a ∷ [])) s (leaves_on t (single refl nothing)))
judge (test v a ∷ os) xs s t = on xs (test v a) os s (judge os (xs ++ (test v a ∷ [])) s (leaves_on t (single refl nothing)))
judge (jump k ∷ os) xs s t = on xs (jump k) os s (judge os (xs ++ (jump k ∷ [])) s (leaves_on t (single refl nothing)))
judge (label k ∷ os) xs s t = on xs (label k) os s (judge os (xs ++ (label k ∷ [])) s (leaves_on t (single refl nothing)))
judge (goto k ∷ os) xs s t = on xs (goto k) os s (judge os (xs ++ (goto k ∷ [])) s (leaves_on t (single refl nothing)))
judge (goto2 k l ∷ os) xs s t = on xs (goto2 k l) os s (judge os (xs ++ (goto2 k l ∷ [])) s (leaves_on t (single refl nothing)))
judge (call k ∷ os) xs s t = on xs (call k) os s (judge os (xs ++ (call k ∷ [])) s (leaves_on t (single refl nothing)))
judge (return ∷ os) xs s t = on xs return os s (judge os (xs ++ (return ∷ [])) s (leaves_on t (single refl nothing)))
judge (header b v a ∷ os) xs s t = on xs (header b v a) os _ (judge os (xs ++ (header b v a ∷ [])) (item b false (suc (length xs)) ∷ s) (in_item v a t nothing))
judge (separator ∷ os) xs [] t = inr (misfit os refl t stray_separator)
judge (separator ∷ os) xs (item loop w h ∷ s) t = inr (misfit os refl t separator_in_loop)
judge (separator ∷ os) xs (item conditional true h ∷ s) t = inr (misfit os refl t second_separator)
judge (separator ∷ os) xs (item conditional false h ∷ s) t =
    on xs separator os _ (judge os (xs ++ (separator ∷ [])) (item conditional true h ∷ s) (in_second t nothing))
judge (end b ∷ os) xs [] t = inr (misfit os refl t stray_end)
judge (end conditional ∷ os) xs (item conditional w h ∷ s) t = on xs (end conditional) os s (judge os (xs ++ (end conditional ∷ [])) s (leaves_end t))
judge (end conditional ∷ os) xs (item loop w h ∷ s) t = inr (misfit os refl t end_in_loop)
judge (end loop ∷ os) xs (item conditional w h ∷ s) t = inr (misfit os refl t loop_end_in_conditional)
judge (end loop ∷ os) xs (item loop w h ∷ s) t = on xs (end loop) os s (judge os (xs ++ (end loop ∷ [])) s (leaves_end t))

-- ## Together

numbered : {L : List Op} {p : ℕ} → Place5 L p → 1 ≤ p
numbered (misfit rest e t m) = omega arith
numbered (unclosed {h = h} t o l) = (open_in t h o).0

pub grammar : Grammar
unfolding nesting lowest
grammar L = ((λ e. body e (judge L [] [] (none_open nothing)), λ x. scan_all (none_open x)), λ p. (λ e. place p e (judge L [] [] (none_open nothing)), placed))
  where
    body : nesting L ≡ 0 → Judged L (nesting L) → Body L
    body e (inl j) = j.1
    body e (inr j) = absurd (omega (arith, numbered j))

    place : (p : ℕ) → nesting L ≡ suc p → Judged L (nesting L) → Place5 L (suc p)
    place p e (inl j) = absurd (let z = j.0 in omega arith)
    place p e (inr j) = subst (Place5 L) e j

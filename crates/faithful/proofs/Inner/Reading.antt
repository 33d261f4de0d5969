-- Reading on from a record: what stands there, what the search for an end to the right and for a header to the left has
-- still to read, and that a body is read over by every such search.
use mathlib.Core.Path.{◌≡◌, refl, sym, ap, ◌∙◌, subst, fun_ext}
use Prim.Native.Nat.{◌<◌}
use native.Mathlib.Nat.{add-zero}
use native.Mathlib.Omega.{arith}
use mathlib.Core.List.{tail, append_assoc, append-nil}
use Rattle.std.specs.Prelude.{◌+◌, ◌&&◌, ◌∷◌, ◌++◌}
use Rattle.rules.specs.Words.{ℕ, zero, suc, Bool, true, false, cond, Option, None, Some, List, [], length, drop, get_or, slice_get}
use Rattle.rules.specs.Instruction.{Act, Sort, conditional, loop, Op, header, separator, end}
use Rattle.rules.specs.Numbers.{at, past}
use Rattle.rules.specs.Nesting.{alone, bracket, Body, nothing, single, looping, one_armed, two_armed}
use Rattle.rules.specs.Partners.{Role, opens, parts, ends, other, role_of, role, stop_at, stop_from, end_of, arm_of, opening, is_header, header_up_to, header_of}
use Rattle.laws.proofs.Records.{at-get_or}
use Rattle.laws.proofs.Partners.{back_at, role_at, back, header_back}
use Rattle.faithful.proofs.Inner.Places.{clash, over, over_append}

-- ## What stands behind the first k records

pub data From (L : List Op) : ℕ → List Op → Type 0 where
  whole : From L 0 L
  next : {k : ℕ} {o : Op} {os : List Op} → From L k (o ∷ os) → From L (suc k) os

drop-tail : (k : ℕ) (L : List Op) → drop (suc k) L ≡ tail (drop k L)
drop-tail zero [] = refl
drop-tail zero (x ∷ L) = refl
drop-tail (suc k) [] = refl
drop-tail (suc k) (x ∷ L) = drop-tail k L

drop_head : (k : ℕ) (L : List Op) → slice_get L k ≡ slice_get (drop k L) 0
drop_head zero [] = refl
drop_head zero (x ∷ L) = refl
drop_head (suc k) [] = refl
drop_head (suc k) (x ∷ L) = drop_head k L

pub from_drop : {L : List Op} {k : ℕ} {os : List Op} → From L k os → drop k L ≡ os
from_drop whole = refl
from_drop {L} (next {k} t) = drop-tail k L ∙ ap tail (from_drop t)

pub drop_at : (k : ℕ) (L : List Op) (o : Op) (os : List Op) → drop k L ≡ o ∷ os → at L (suc k) ≡ Some o
unfolding at
drop_at k L o os e = drop_head k L ∙ ap (λ (M : List Op). slice_get M 0) e

pub from_at : {L : List Op} {k : ℕ} {o : Op} {os : List Op} → From L k (o ∷ os) → at L (suc k) ≡ Some o
from_at {L} {k} t = drop_at k L _ _ (from_drop t)

pub from_length : {L : List Op} {k : ℕ} {os : List Op} → From L k os → k + length os ≡ length L
from_length whole = omega arith
from_length (next t) = omega (arith, from_length t)

-- Every record stands somewhere.
pub from_of : (L : List Op) (k : ℕ) (o : Op) → at L (suc k) ≡ Some o → (os : List Op) × From L k (o ∷ os)
unfolding at
from_of L k o e = let r = by L k 0 whole e in (r.0, subst (λ (j : ℕ). From L j (o ∷ r.0)) (add-zero k) r.1)
  where
    by : (M : List Op) (j q : ℕ) → From L q M → slice_get M j ≡ Some o → (os : List Op) × From L (j + q) (o ∷ os)
    by [] j q t e = clash cc
    by (x ∷ M) zero q t e = let h : x ≡ o = cc in (M, subst (λ (y : Op). From L (0 + q) (y ∷ M)) h (subst (λ (j : ℕ). From L j (x ∷ M)) (omega arith) t))
    by (x ∷ M) (suc j) q t e = let r = by M j (suc q) (next t) e in (r.0, subst (λ (i : ℕ). From L i (o ∷ r.0)) (omega arith) r.1)

pub from_over : {L : List Op} {k : ℕ} (xs : List Op) {os : List Op} → From L k (xs ++ os) → From L (over xs k) os
from_over [] t = t
from_over (x ∷ xs) t = from_over xs (next t)

-- ## A reader: what it makes of the records from number k on, with the state s

pub record Reader (S A : Type 0) : Type 0 where
  pub reads : S → ℕ → List Op → A
  pub into : Sort → ℕ → S → S  -- inside an item of the sort whose header has this number ..
  pub second : ℕ → S → S  -- .. and in its second arm
  pub passes : (s : S) (k : ℕ) (o : Op) (os : List Op) → bracket o ≡ alone → reads s k (o ∷ os) ≡ reads s (suc k) os
  pub enters : (s : S) (k : ℕ) (b : Sort) (v : Bool) (a : Act) (os : List Op) → reads s k (header b v a ∷ os) ≡ reads (into b k s) (suc k) os
  pub leaves : (s : S) (h k : ℕ) (b : Sort) (os : List Op) → reads (into b h s) k (end b ∷ os) ≡ reads s (suc k) os
  pub turns : (s : S) (h k : ℕ) (os : List Op) → reads (into conditional h s) k (separator ∷ os) ≡ reads (second h s) (suc k) os
  pub closes : (s : S) (h k : ℕ) (os : List Op) → reads (second h s) k (end conditional ∷ os) ≡ reads s (suc k) os

-- A body is read over.
pub body_over : {S A : Type 0} (R : Reader S A) {xs : List Op} → Body xs → (s : S) (k : ℕ) (os : List Op) → R.reads s k (xs ++ os) ≡ R.reads s (over xs k) os
body_over R nothing s k os = refl
body_over R (single {o = o} {rest = r} e y) s k os = R.passes s k o (r ++ os) e ∙ body_over R y s (suc k) os
body_over R (looping {v = v} {a = a} {body = xs} {rest = r} x y) s k os =
    rw (append_assoc xs (end loop ∷ r) os, over_append xs (end loop ∷ r))
    (R.enters s k loop v a _ ∙ body_over R x _ (suc k) _ ∙ R.leaves s k _ loop _ ∙ body_over R y s _ os)
body_over R (one_armed {v = v} {a = a} {body = xs} {rest = r} x y) s k os =
    rw (append_assoc xs (end conditional ∷ r) os, over_append xs (end conditional ∷ r))
    (R.enters s k conditional v a _ ∙ body_over R x _ (suc k) _ ∙ R.leaves s k _ conditional _ ∙ body_over R y s _ os)
body_over R (two_armed {v = v} {a = a} {first = xs} {second = ys} {rest = r} x y z) s k os =
    let zs = end conditional ∷ r in
    rw (append_assoc xs (separator ∷ (ys ++ zs)) os, append_assoc ys zs os, over_append xs (separator ∷ (ys ++ zs)), over_append ys zs)
    (R.enters s k conditional v a _ ∙ body_over R x _ (suc k) _ ∙ R.turns s k _ _ ∙ body_over R y _ _ _ ∙ R.closes s k _ _ ∙ body_over R z s _ os)

-- ## A reader of one sort's items, by the role that a record has for them

pub record ByRole (b : Sort) (S A : Type 0) : Type 0 where
  pub reading : S → ℕ → List Op → A
  pub inside : ℕ → S → S
  pub passing : (s : S) (k : ℕ) (o : Op) (os : List Op) → role b o ≡ other → reading s k (o ∷ os) ≡ reading s (suc k) os
  pub entering : (s : S) (k : ℕ) (o : Op) (os : List Op) → role b o ≡ opens → reading s k (o ∷ os) ≡ reading (inside k s) (suc k) os
  pub turning : (s : S) (h k : ℕ) (o : Op) (os : List Op) → role b o ≡ parts → reading (inside h s) k (o ∷ os) ≡ reading (inside h s) (suc k) os
  pub leaving : (s : S) (h k : ℕ) (o : Op) (os : List Op) → role b o ≡ ends → reading (inside h s) k (o ∷ os) ≡ reading s (suc k) os

-- x within an item of the reader's own sort, y within one of the other.
abbrev own : {S : Type 0} → Sort → Sort → S → S → S
own conditional conditional x y = x
own conditional loop x y = y
own loop conditional x y = y
own loop loop x y = x

by_role : {b : Sort} {S A : Type 0} → ByRole b S A → Reader S A
unfolding role role_of bracket
by_role {b} {S} {A} R = record {
  reads = R.reading;
  into = λ c k s. own b c (R.inside k s) s;
  second = λ k s. own b conditional (R.inside k s) s;
  passes = λ s k o os e. R.passing s k o os (ap (role_of b) e);
  enters = enter b R;
  leaves = λ s h k c os. leave b c R s h k os;
  turns = turn b R;
  closes = leave b conditional R;
}
  where
    enter : (b : Sort) (R : ByRole b S A) (s : S) (k : ℕ) (c : Sort) (v : Bool) (a : Act) (os : List Op)
        → R.reading s k (header c v a ∷ os) ≡ R.reading (own b c (R.inside k s) s) (suc k) os
    enter conditional R s k conditional v a os = R.entering s k _ os refl
    enter conditional R s k loop v a os = R.passing s k _ os refl
    enter loop R s k conditional v a os = R.passing s k _ os refl
    enter loop R s k loop v a os = R.entering s k _ os refl

    leave : (b c : Sort) (R : ByRole b S A) (s : S) (h k : ℕ) (os : List Op) → R.reading (own b c (R.inside h s) s) k (end c ∷ os) ≡ R.reading s (suc k) os
    leave conditional conditional R s h k os = R.leaving s h k _ os refl
    leave conditional loop R s h k os = R.passing s k _ os refl
    leave loop conditional R s h k os = R.passing s k _ os refl
    leave loop loop R s h k os = R.leaving s h k _ os refl

    turn : (b : Sort) (R : ByRole b S A) (s : S) (h k : ℕ) (os : List Op)
        → R.reading (own b conditional (R.inside h s) s) k (separator ∷ os) ≡ R.reading (own b conditional (R.inside h s) s) (suc k) os
    turn conditional R s h k os = R.turning s h k _ os refl
    turn loop R s h k os = R.passing s k _ os refl

-- ## To the right: reading on to an end, or to the end of a first arm

-- Where every number is sent on by P, so is the number after the one found.
pub sent_on : (w : Bool) (P : ℕ → ℕ) → P 0 ≡ 0 → (r : Role) (d k k' : ℕ) (on on' : ℕ → ℕ) → past k' ≡ P (past k) → ((e : ℕ) → past (on' e) ≡ P (past (on e)))
    → past (stop_at w r d k' on') ≡ P (past (stop_at w r d k on))
unfolding stop_at
sent_on w P z opens d k k' on on' e h = h (suc d)
sent_on false P z parts d k k' on on' e h = h d
sent_on true P z parts zero k k' on on' e h = e
sent_on true P z parts (suc d) k k' on on' e h = h (suc d)
sent_on w P z ends zero k k' on on' e h = e
sent_on w P z ends (suc d) k k' on on' e h = h d
sent_on w P z other d k k' on on' e h = h d

pub end_of_lem : {L : List Op} {k : ℕ} {o : Op} {os : List Op} → From L k (o ∷ os) → (b : Sort) → end_of b L (suc k) ≡ stop_from false b 0 (suc (suc k)) os
unfolding end_of
end_of_lem {k} t b = ap (stop_from false b 0 (suc (suc k))) (from_drop (next t))

pub arm_of_lem : {L : List Op} {k : ℕ} {o : Op} {os : List Op} → From L k (o ∷ os) → arm_of L (suc k) ≡ stop_from true conditional 0 (suc (suc k)) os
unfolding arm_of
arm_of_lem {k} t = ap (stop_from true conditional 0 (suc (suc k))) (from_drop (next t))

-- Inside an item the items in it are passed over: d of the sort are open.
seeker : (w : Bool) (b : Sort) → ByRole b ℕ ℕ
unfolding stop_from stop_at
seeker w b = record {
  reading = stop_from w b;
  inside = λ h d. suc d;
  passing = λ d k o os e. one d k os e;
  entering = λ d k o os e. one d k os e;
  turning = λ d h k o os e. one (suc d) k os e ∙ parted w d k os;
  leaving = λ d h k o os e. one (suc d) k os e;
}
  where
    one : {r q : Role} (d k : ℕ) (os : List Op) → r ≡ q → stop_at w r d k (λ x. stop_from w b x (suc k) os) ≡ stop_at w q d k (λ x. stop_from w b x (suc k) os)
    one d k os e = ap (λ (r : Role). stop_at w r d k (λ x. stop_from w b x (suc k) os)) e

    parted : (v : Bool) (d k : ℕ) (os : List Op) → stop_at v parts (suc d) k (λ x. stop_from w b x (suc k) os) ≡ stop_from w b (suc d) (suc k) os
    parted false d k os = refl
    parted true d k os = refl

pub stop_body : (w : Bool) (b : Sort) {xs : List Op} → Body xs → (d k : ℕ) (os : List Op) → stop_from w b d k (xs ++ os) ≡ stop_from w b d (over xs k) os
unfolding seeker by_role
stop_body w b y d k os = body_over (by_role (seeker w b)) y d k os

-- ## To the left: s d is the header of the item that is open d items out

pub back_one : {L : List Op} {k : ℕ} (b : Sort) {o : Op} {os : List Op} → From L k (o ∷ os) → (d : ℕ)
    → back b L (suc k) d ≡ back_at (role b o) d (suc k) (λ e. back b L k e)
unfolding back role_at
back_one {L} {k} b t d = ap (λ (y : Option Op). back_at (role_at b y) d (suc k) (λ e. back b L k e)) (from_at t)

heads : Sort → (ℕ → ℕ) → ℕ → List Op → ℕ → ℕ
heads b s k [] = s
heads b s k (o ∷ os) = heads b (λ d. back_at (role b o) d k s) (suc k) os

back_over : {L : List Op} {k : ℕ} (b : Sort) (xs os : List Op) → From L k (xs ++ os) → (λ d. back b L (over xs k) d) ≡ heads b (λ d. back b L k d) (suc k) xs
unfolding heads
back_over b [] os t = refl
back_over {L} {k} b (x ∷ xs) os t = back_over b xs os (next t) ∙ ap (λ (s : ℕ → ℕ). heads b s (suc (suc k)) xs) (fun_ext (λ d. back_one b t d))

pub header_of_lem : {L : List Op} {k : ℕ} {o : Op} {os : List Op} → From L k (o ∷ os) → (b : Sort) → role b o ≡ ends → header_of b L (suc k) ≡ back b L k 0
header_of_lem {L} {k} {o} t b e =
    let h : k < length L = omega (arith, from_length t) in
    let g : get_or L k o ≡ o = let q = at-get_or L k o h in let p = from_at t in cc in
    header_back L k o h b (ap (role b) g ∙ e)

-- A header that is found is one.
pub header-found : (b : Sort) (L : List Op) (i j : ℕ) → header_of b L i ≡ suc j → (o : Op) × (at L (suc j) ≡ Some o) × (role b o ≡ opens)
unfolding header_of header_up_to is_header opening
header-found b L i j e = up i e
  where
    Found : Type 0
    Found = (o : Op) × (at L (suc j) ≡ Some o) × (role b o ≡ opens)

    by : (n : ℕ) (x : Option Op) → at L (suc n) ≡ x → (y : Bool) → cond (is_header b x && y) (suc n) (header_up_to b L i n) ≡ suc j
        → (header_up_to b L i n ≡ suc j → Found) → Found
    by n None a y e f = f e
    by n (Some o) a y e f = is (role b o) refl y e
      where
        is : (r : Role) → role b o ≡ r → (y : Bool) → cond (opening r && y) (suc n) (header_up_to b L i n) ≡ suc j → Found
        is opens q true e = (o, ap (at L) (sym e) ∙ a, q)
        is opens q false e = f e
        is parts q y e = f e
        is ends q y e = f e
        is other q y e = f e

    up : (n : ℕ) → header_up_to b L i n ≡ suc j → Found
    up zero e = absurd (omega arith)
    up (suc n) e = by n (at L (suc n)) refl _ e (up n)

opened : (b : Sort) → ByRole b (ℕ → ℕ) (ℕ → ℕ)
unfolding heads back_at
opened b = record {
  reading = heads b;
  inside = λ h s d. back_at opens d h s;
  passing = λ s k o os e. one s k os e;
  entering = λ s k o os e. one s k os e;
  turning = λ s h k o os e. one (λ d. back_at opens d h s) k os e;
  leaving = λ s h k o os e. one (λ d. back_at opens d h s) k os e;
}
  where
    one : {r q : Role} (s : ℕ → ℕ) (k : ℕ) (os : List Op) → r ≡ q → heads b (λ d. back_at r d k s) (suc k) os ≡ heads b (λ d. back_at q d k s) (suc k) os
    one s k os e = ap (λ (r : Role). heads b (λ d. back_at r d k s) (suc k) os) e

heads_body : (b : Sort) {xs : List Op} → Body xs → (s : ℕ → ℕ) (k : ℕ) → heads b s k xs ≡ s
unfolding opened by_role heads
heads_body b {xs} y s k = ap (heads b s k) (sym (append-nil xs)) ∙ body_over (by_role (opened b)) y s k []

pub back_body : {L : List Op} {k : ℕ} (b : Sort) {xs : List Op} (os : List Op) → Body xs → From L k (xs ++ os) → (d : ℕ) → back b L (over xs k) d ≡ back b L k d
back_body {L} {k} b {xs} os y t d = ap (λ (s : ℕ → ℕ). s d) (back_over b xs os t ∙ heads_body b y (λ e. back b L k e) (suc k))

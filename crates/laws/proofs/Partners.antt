-- Partners by counting depth, one record at a time.
--     role_of_kind, role-kind, ops-role     what a record is to the items of a sort, by its kind
--     stop_here, stop_out     to the right: the answer from record k + 1 on, by that record's role
--     end_of_is, arm_of_is     where the search for an end, or for the end of a first arm, starts
--     back_at, back, back_here, header_back     to the left: the header of an end
-- All of them hold of every list.
use mathlib.Core.Path.{◌≡◌, refl, sym, ap, ◌∙◌}
use Prim.Native.Nat.{ℕ, zero, suc, ◌*◌, ◌≤◌, ◌<◌}
use native.Mathlib.Nat.{add-zero}
use native.Mathlib.Omega.{arith}
use mathlib.Core.Bool.{Bool, true, false, cond, ◌&&◌}
use Rattle.std.specs.Prelude.{Option, None, Some}
use mathlib.Core.List.{List, [], ◌∷◌, map}
use lib.ListN.{length, drop, get_or, drop_of_length-le, get_or-map}
use lib.Seq.{drop-cons}
use lib.Dec.{eqb}
use borrow.Author.Tests.{eq-eqb, ne_eqb}
use Rattle.rules.specs.Record.{Rec, count}
use Rattle.rules.specs.Instruction.{Sort, conditional, loop, Op, jump, act_of, written, decode, ops}
use Rattle.rules.specs.Numbers.{at}
use Rattle.rules.specs.Nesting.{bracket}
use Rattle.rules.specs.Partners.{Role, opens, parts, ends, other, role_of, role, stop_at, stop_from, end_of, arm_of, opening, is_header, header_up_to, header_of}
use Rattle.laws.proofs.Records.{at-get_or, record_at, ops-get_or}
use Rattle.laws.proofs.Instructions.{tabulate, tabulated}

-- ## The role of a record, by its kind

unfoldable pub role_of_kind : Sort → ℕ → Role
role_of_kind loop k = cond (eqb k 12) opens (cond (eqb k 13) opens (cond (eqb k 14) ends other))
role_of_kind conditional k = cond (eqb k 8) opens (cond (eqb k 9) opens (cond (eqb k 10) parts (cond (eqb k 11) ends other)))

role_beyond : (b : Sort) (k : ℕ) → 17 ≤ k → role_of_kind b k ≡ other
unfolding role_of_kind
role_beyond loop k h = rw (ne_eqb k 12 (λ e. omega arith), ne_eqb k 13 (λ e. omega arith), ne_eqb k 14 (λ e. omega arith))
role_beyond conditional k h = rw (ne_eqb k 8 (λ e. omega arith), ne_eqb k 9 (λ e. omega arith), ne_eqb k 10 (λ e. omega arith), ne_eqb k 11 (λ e. omega arith))

role_table : (b : Sort) (k : ℕ) → get_or (tabulate (role_of_kind b) 0 17) k other ≡ role_of_kind b k
role_table b k = tabulated (role_of_kind b) other 0 17 k (λ j h. role_beyond b j h) ∙ ap (role_of_kind b) (add-zero k)

pub role-kind : (b : Sort) (r : Rec) → role b (decode r) ≡ role_of_kind b r.kind
unfolding decode written role role_of bracket role_of_kind
role-kind b r = sym (get_or-map (role b) (jump 0 ∷ written (act_of r.x r.y) r.x r.y) r.kind (jump 0)) ∙ by b
  where
    by : (b : Sort) → get_or (map (role b) (jump 0 ∷ written (act_of r.x r.y) r.x r.y)) r.kind (role b (jump 0)) ≡ role_of_kind b r.kind
    by loop = role_table loop r.kind
    by conditional = role_table conditional r.kind

pub ops-role : (b : Sort) (s : List ℕ) (k : ℕ) (z : Op) → k < count s → role b (get_or (ops s) k z) ≡ role_of_kind b (get_or s (8 * k) 0)
ops-role b s k z h = ap (role b) (ops-get_or s k z h) ∙ role-kind b (record_at s k)

-- ## To the right

module _ (L : List Op) (w : Bool) (b : Sort) (d k : ℕ) where
  pub stop_here : (z : Op) → k < length L
      → stop_from w b d (suc k) (drop k L) ≡ stop_at w (role b (get_or L k z)) d (suc k) (λ e. stop_from w b e (suc (suc k)) (drop (suc k) L))
  unfolding stop_from
  stop_here z h = ap (stop_from w b d (suc k)) (drop-cons L k z h)

  pub stop_out : length L ≤ k → stop_from w b d (suc k) (drop k L) ≡ 0
  unfolding stop_from
  stop_out h = ap (stop_from w b d (suc k)) (drop_of_length-le L {i = k} h)

pub end_of_is : (b : Sort) (L : List Op) (i : ℕ) → end_of b L i ≡ stop_from false b 0 (suc i) (drop i L)
unfolding end_of
end_of_is b L i = refl

pub arm_of_is : (L : List Op) (i : ℕ) → arm_of L i ≡ stop_from true conditional 0 (suc i) (drop i L)
unfolding arm_of
arm_of_is L i = refl

-- An end is found from k on, and at different depths it is another one.
end_from : (b : Sort) (d k : ℕ) (os : List Op) (i : ℕ) → stop_from false b d k os ≡ suc i → k ≤ suc i
unfolding stop_from stop_at
end_from b d k [] i e = absurd (omega arith)
end_from b d k (o ∷ os) i e = by (role b o) d (λ x. end_from b x (suc k) os i) e
  where
    by : (r : Role) (d : ℕ) → ((x : ℕ) → stop_from false b x (suc k) os ≡ suc i → suc k ≤ suc i) → stop_at false r d k (λ x. stop_from false b x (suc k) os) ≡ suc i → k ≤ suc i
    by opens d h e = let g = h (suc d) e in omega arith
    by parts d h e = let g = h d e in omega arith
    by ends zero h e = omega arith
    by ends (suc d) h e = let g = h d e in omega arith
    by other d h e = let g = h d e in omega arith

pub end_once : (b : Sort) (d c k : ℕ) (os : List Op) (i : ℕ) → d < c → stop_from false b d k os ≡ suc i → stop_from false b c k os ≡ suc i → ⊥
unfolding stop_from stop_at
end_once b d c k [] i l e g = omega arith
end_once b d c k (o ∷ os) i l e g = by (role b o) d c l (λ x y z. end_once b x y (suc k) os i z) e g
  where
    by : (r : Role) (d c : ℕ) → d < c → ((x y : ℕ) → x < y → stop_from false b x (suc k) os ≡ suc i → stop_from false b y (suc k) os ≡ suc i → ⊥)
        → stop_at false r d k (λ x. stop_from false b x (suc k) os) ≡ suc i → stop_at false r c k (λ x. stop_from false b x (suc k) os) ≡ suc i → ⊥
    by opens d c l h e g = h (suc d) (suc c) (omega arith) e g
    by parts d c l h e g = h d c l e g
    by ends d zero l h e g = omega arith
    by ends zero (suc c) l h e g = let q = end_from b c (suc k) os i g in omega arith
    by ends (suc d) (suc c) l h e g = h d c (omega arith) e g
    by other d c l h e g = h d c l e g

-- ## To the left: d counts the ends met since, k is the number of the record read, and `on e` the answer of the records before it

unfoldable pub back_at : Role → ℕ → ℕ → (ℕ → ℕ) → ℕ
back_at opens zero k on = k
back_at opens (suc d) k on = on d
back_at parts d k on = on d
back_at ends d k on = on (suc d)
back_at other d k on = on d

unfoldable pub role_at : Sort → Option Op → Role
role_at b None = other
role_at b (Some o) = role b o

unfoldable pub back : Sort → List Op → ℕ → ℕ → ℕ
back b L zero d = 0
back b L (suc k) d = back_at (role_at b (at L (suc k))) d (suc k) (λ e. back b L k e)

module _ (L : List Op) (k : ℕ) (z : Op) (h : k < length L) where
  pub back_here : (b : Sort) (d : ℕ) → back b L (suc k) d ≡ back_at (role b (get_or L k z)) d (suc k) (λ e. back b L k e)
  unfolding back role_at
  back_here b d = rw (at-get_or L k z h)

  header_here : (b : Sort) (i : ℕ)
      → header_up_to b L i (suc k) ≡ cond (opening (role b (get_or L k z)) && eqb (stop_from false b 0 (suc (suc k)) (drop (suc k) L)) i) (suc k) (header_up_to b L i k)
  unfolding header_up_to is_header end_of
  header_here b i = rw (at-get_or L k z h)

back_on : (r : Role) (p : ℕ) (E H B : ℕ → ℕ) → ((d i : ℕ) → E 0 ≡ suc i → E (suc d) ≡ suc i → ⊥) → ((d i : ℕ) → stop_at false r d (suc p) E ≡ suc i → H (suc i) ≡ B d)
    → (d i : ℕ) → E d ≡ suc i → cond (opening r && eqb (E 0) (suc i)) (suc p) (H (suc i)) ≡ back_at r d (suc p) B
unfolding stop_at opening back_at
back_on other p E H B once h d i e = h d i e
back_on parts p E H B once h d i e = h d i e
back_on ends p E H B once h d i e = h (suc d) i e
back_on opens p E H B once h zero i e = rw (eq-eqb (E 0) (suc i) e)
back_on opens p E H B once h (suc d) i e = rw (ne_eqb (E 0) (suc i) (λ g. once d i g e)) (h d i e)

found_in : (L : List Op) (b : Sort) (d p k i : ℕ) → stop_from false b d p (drop k L) ≡ suc i → k < length L
unfolding stop_from
found_in [] b d p zero i e = absurd (omega arith)
found_in [] b d p (suc k) i e = absurd (omega arith)
found_in (o ∷ L) b d p zero i e = omega arith
found_in (o ∷ L) b d p (suc k) i e = omega (arith, found_in L b d p k i e)

module _ (L : List Op) where
  -- Where an end is found from here on at depth d, the search to the left at depth d finds its header.
  back_finds : (b : Sort) (z : Op) (k d i : ℕ) → stop_from false b d (suc k) (drop k L) ≡ suc i → header_up_to b L (suc i) k ≡ back b L k d
  unfolding header_up_to back
  back_finds b z zero d i e = refl
  back_finds b z (suc k) d i e =
      let h : k < length L = omega (arith, found_in L b d (suc (suc k)) (suc k) i e) in
      let os = drop (suc k) L in
      header_here L k z h b (suc i)
      ∙ back_on (role b (get_or L k z)) k (λ x. stop_from false b x (suc (suc k)) os) (λ x. header_up_to b L x k) (λ x. back b L k x)
      (λ x y u v. end_once b 0 (suc x) (suc (suc k)) os y (omega arith) u v) (λ x j u. back_finds b z k x j (stop_here L false b x k z h ∙ u)) d i e
      ∙ sym (back_here L k z h b d)

  module _ (k : ℕ) (z : Op) (h : k < length L) where
    -- From the record before an end.
    pub header_back : (b : Sort) → role b (get_or L k z) ≡ ends → header_of b L (suc k) ≡ back b L k 0
    unfolding header_of stop_at opening
    header_back b r = header_here L k z h b (suc k) ∙ rw r (back_finds b z k 0 k (stop_here L false b 0 k z h ∙ rw r))

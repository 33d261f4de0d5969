-- Bytes, records and instructions.
--     All, all_append, all_get_d     what holds of every member of a list
--     at-get_or, at_none, at-zero     number i of a list
--     Bytes, bytes_drop     every byte is below 256
--     bytes_append, bytes_length, bytes_count     the bytes of joined lists; eight a record
--     records_of-length, records-length     how many records are read
--     Small, two_bytes, read-back, records_back     what was written as records is read back, whatever follows, where x and y fit two bytes
--     record_at, record-drop, records_of-drop, records_of-get_or, records-get_or, records-at, records-none     record k + 1, by byte position
--     record_at_small, records_of-small, records-small     fields read from bytes fit two bytes
--     ops-length, ops-get_or, ops-at, ops-none, ops-drop, ops-end     the same of the instructions
use mathlib.Core.Path.{◌≡◌, refl, sym, ap, ◌∙◌}
use Prim.Native.Nat.{ℕ, zero, suc, ◌+◌, ◌-◌, ◌*◌, ◌/◌, ◌%◌, ◌≤◌, ◌<◌}
use native.Mathlib.Nat.{add-zero, sub-zero, zero-sub, suc-sub-suc}
use native.Mathlib.Omega.{arith}
use Rattle.std.specs.Prelude.{None, Some}
use mathlib.Core.List.{List, [], ◌∷◌, ◌++◌, append-nil}
use lib.ListN.{length, drop, get_or, length-map, drop_of_length-le}
use lib.Seq.{drop-cons, drop-drop, get_or-drop}
use Rattle.std.proofs.lemmas.List.{get_or-map}
use Rattle.std.proofs.lemmas.List.Elements.{All-from_recursion}
pub use Rattle.std.specs.List.{AllByRecursion as All}
use Rattle.rules.specs.Record.{Rec, rec, bytes_of, count, record_of, records_of, records}
use Rattle.rules.specs.Numbers.{at}
use Rattle.rules.specs.Instruction.{Op, jump, decode, ops}

-- ## Every member of a list

module _ {A : Type 0} (P : A → Type 0) where
  pub all_append : (xs ys : List A) → All P xs → All P ys → All P (xs ++ ys)
  all_append [] ys p q = q
  all_append (x ∷ xs) ys p q = (p.0, all_append xs ys p.1 q)

  pub all_get_d : (xs : List A) (k : ℕ) (z : A) → All P xs → k < length xs → P (get_or xs k z)
  all_get_d xs k z p h = All-from_recursion P xs p k z h

module _ {A : Type 0} where
  pub at-get_or : (L : List A) (k : ℕ) (z : A) → k < length L → at L (suc k) ≡ Some (get_or L k z)
  unfolding at
  at-get_or [] k z h = absurd (omega arith)
  at-get_or (x ∷ L) zero z h = refl
  at-get_or (x ∷ L) (suc k) z h = at-get_or L k z (omega arith)

  pub at_none : (L : List A) (i : ℕ) → length L < i → at L i ≡ None
  unfolding at
  at_none L zero h = refl
  at_none [] (suc k) h = refl
  at_none (x ∷ L) (suc zero) h = absurd (omega arith)
  at_none (x ∷ L) (suc (suc k)) h = at_none L (suc k) (omega arith)

  pub at_zero : (L : List A) → at L 0 ≡ None
  unfolding at
  at_zero L = refl

-- Every byte is below 256.
abbrev pub Bytes : List ℕ → Type 0
Bytes s = (k : ℕ) → get_or s k 0 < 256

pub bytes_drop : (n : ℕ) (s : List ℕ) → Bytes s → Bytes (drop n s)
bytes_drop n s h k = rw get_or-drop (h (n + k))

-- ## The bytes of records

pub bytes_append : (a b : List Rec) → bytes_of (a ++ b) ≡ bytes_of a ++ bytes_of b
bytes_append [] b = refl
bytes_append (r ∷ a) b = rw (bytes_append a b)

pub bytes_length : (rs : List Rec) → length (bytes_of rs) ≡ 8 * length rs
bytes_length [] = refl
bytes_length (r ∷ rs) = omega (arith, bytes_length rs)

pub bytes_count : (rs : List Rec) → count (bytes_of rs) ≡ length rs
bytes_count rs = omega (arith, bytes_length rs)

pub records_of-length : (n : ℕ) (s : List ℕ) → length (records_of n s) ≡ n
records_of-length zero s = refl
records_of-length (suc n) s = ap suc (records_of-length n (drop 8 s))

pub records-length : (s : List ℕ) → length (records s) ≡ count s
records-length s = records_of-length (count s) s

-- ## What was written is read back

-- x and y fit two bytes.
abbrev pub Small : Rec → Type 0
Small r = (r.x < 65536) × (r.y < 65536)

pub two_bytes : (x : ℕ) → x < 65536 → x % 256 + 256 * (x / 256 % 256) ≡ x
two_bytes x h = omega arith

pub read_back : (rs : List Rec) (t : List ℕ) → All Small rs → records_of (length rs) (bytes_of rs ++ t) ≡ rs
read_back [] t p = refl
read_back (r ∷ rs) t p = rw (two_bytes r.x p.0.0, two_bytes r.y p.0.1, read_back rs t p.1)

pub records_back : (rs : List Rec) → All Small rs → records (bytes_of rs) ≡ rs
records_back rs p =
    ap (λ (n : ℕ). records_of n (bytes_of rs)) (bytes_count rs)
    ∙ ap (records_of (length rs)) (sym (append-nil (bytes_of rs)))
    ∙ read_back rs [] p

-- ## Record k + 1 of the bytes

abbrev pub record_at : List ℕ → ℕ → Rec
record_at s k = rec (get_or s (8 * k) 0) (get_or s (8 * k + 2) 0 + 256 * get_or s (8 * k + 3) 0) (get_or s (8 * k + 4) 0 + 256 * get_or s (8 * k + 5) 0)

pub record-drop : (s : List ℕ) (k : ℕ) → record_of (drop (8 * k) s) ≡ record_at s k
record-drop s k = simp (get_or-drop, add-zero)

-- The records behind the first k.
pub records_of-drop : (n k : ℕ) (s : List ℕ) → drop k (records_of n s) ≡ records_of (n - k) (drop (8 * k) s)
records_of-drop n zero s = rw sub-zero
records_of-drop zero (suc k) s = rw zero-sub
records_of-drop (suc n) (suc k) s =
    let e : 8 + 8 * k ≡ 8 * suc k = omega arith in
    records_of-drop n k (drop 8 s) ∙ rw (suc-sub-suc, drop-drop, e)

pub records_of-get_or : (n k : ℕ) (s : List ℕ) (z : Rec) → k < n → get_or (records_of n s) k z ≡ record_at s k
records_of-get_or zero k s z h = absurd (omega arith)
records_of-get_or (suc n) zero s z h = record-drop s 0
records_of-get_or (suc n) (suc k) s z h =
    let e : 8 + 8 * k ≡ 8 * suc k = omega arith in
    records_of-get_or n k (drop 8 s) z (omega arith)
    ∙ sym (record-drop (drop 8 s) k)
    ∙ ap record_of (drop-drop (8 * k) 8 s ∙ ap (λ (j : ℕ). drop j s) e)
    ∙ record-drop s (suc k)

module _ (s : List ℕ) where
  pub records-get_or : (k : ℕ) (z : Rec) → k < count s → get_or (records s) k z ≡ record_at s k
  records-get_or k z h = records_of-get_or (count s) k s z h

  pub records-at : (k : ℕ) → k < count s → at (records s) (suc k) ≡ Some (record_at s k)
  records-at k h = at-get_or (records s) k (record_at s k) (omega (arith, records-length s)) ∙ ap Some (records-get_or k (record_at s k) h)

  pub records-none : (i : ℕ) → count s < i → at (records s) i ≡ None
  records-none i h = at_none (records s) i (omega (arith, records-length s))

  -- Fields read from bytes fit two bytes.
  pub record_at_small : Bytes s → (k : ℕ) → Small (record_at s k)
  record_at_small h k = omega (arith, h (8 * k + 2), h (8 * k + 3), h (8 * k + 4), h (8 * k + 5))

pub records_of-small : (n : ℕ) (s : List ℕ) → Bytes s → All Small (records_of n s)
records_of-small zero s h = tt
records_of-small (suc n) s h = (omega (arith, h 2, h 3, h 4, h 5), records_of-small n (drop 8 s) (bytes_drop 8 s h))

pub records-small : (s : List ℕ) → Bytes s → All Small (records s)
records-small s h = records_of-small (count s) s h

-- ## The instructions

pub ops-length : (s : List ℕ) → length (ops s) ≡ count s
unfolding ops
ops-length s = length-map (records s) decode ∙ records-length s

module _ (s : List ℕ) (k : ℕ) where
  pub ops-get_or : (z : Op) → k < count s → get_or (ops s) k z ≡ decode (record_at s k)
  unfolding ops
  ops-get_or z h =
      get_or-map decode (records s) k (rec 0 0 0) z (omega (arith, records-length s)) ∙ ap decode (records-get_or s k (rec 0 0 0) h)

  pub ops-at : k < count s → at (ops s) (suc k) ≡ Some (decode (record_at s k))
  ops-at h = at-get_or (ops s) k (jump 0) (omega (arith, ops-length s)) ∙ ap Some (ops-get_or (jump 0) h)

  pub ops-none : count s < k → at (ops s) k ≡ None
  ops-none h = at_none (ops s) k (omega (arith, ops-length s))

  pub ops-drop : k < count s → drop k (ops s) ≡ decode (record_at s k) ∷ drop (suc k) (ops s)
  ops-drop h =
      drop-cons (ops s) k (jump 0) (omega (arith, ops-length s))
      ∙ ap (λ (o : Op). o ∷ drop (suc k) (ops s)) (ops-get_or (jump 0) h)

  pub ops-end : count s ≤ k → drop k (ops s) ≡ []
  ops-end h = drop_of_length-le (ops s) {i = k} (omega (arith, ops-length s))

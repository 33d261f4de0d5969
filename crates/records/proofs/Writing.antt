-- Writing into the unwritten rest of an output, lent on as `&mut w[at..]`: the same few laws for every writer of records.
--     put_rest     what the whole holds when the rest comes back
--     eight, put, one, wrote_length, more     one record, where it has its room; a writer's records behind those written before
--     filled_by    what a call that succeeds leaves in its output
--     rec-get_or, rec-drop, each-records     the records that a loop reads by their numbers
use mathlib.Core.Path.{◌≡◌, refl, sym, ap, ◌∙◌}
use Prim.Native.Nat.{ℕ, suc, ◌+◌, ◌-◌, ◌*◌, ◌≤◌, ◌<◌}
use native.Mathlib.Omega.{arith}
use mathlib.Core.Bool.{Bool, true, false, cond}
use mathlib.Core.List.{List, [], ◌∷◌, ◌++◌, append-nil, append_assoc}
use lib.ListN.{length, take, drop, get_or, length-append, length-drop, drop_of_length-le}
use lib.Seq.{take_at, drop_at, take_all, drop-drop, drop-cons}
use lib.Dec.{leb}
use borrow.Rule.Slice.PartMut.{put_mid}
use borrow.Author.Tests.{le-leb}
use Rattle.rules.specs.Refusals.{Verdict}
use Rattle.std.specs.Prelude.{Ok}
use Rattle.rules.specs.Answers.{filled}
use Rattle.rules.specs.Record.{Rec, rec, record_bytes, bytes_of, count, records}
use Rattle.rules.specs.Numbers.{each}
use Rattle.laws.proofs.Records.{bytes_append, bytes_length, records-length, records-get_or, records-at}
use Rattle.laws.proofs.SecondLevel.{groups, groups_ext, each_groups}
use Rattle.records.specs.Reading.{or_nothing, rec_at}
use Rattle.records.specs.Writing.{Put, Wrote}

-- The part that a callee is lent.
abbrev pub rest : List ℕ → ℕ → List ℕ
rest w at = take (length w - at) (drop at w)

pub put_rest : (p g w o ys : List ℕ) (at k : ℕ) → at ≡ length p → w ≡ p ++ drop at o → ys ≡ g ++ drop k (rest w at)
    → put_mid at (length w - at) w ys ≡ p ++ g ++ drop (at + k) o
put_rest p g w o ys at k ea ew ey =
    let t : take at w ≡ p = rw ew (take_at p (drop at o) at (sym ea)) in
    let d : drop at w ≡ drop at o = ap (drop at) ew ∙ drop_at p (drop at o) at (sym ea) in
    let l : length (drop at w) ≤ length w - at = simp length-drop (omega arith) in
    let m : rest w at ≡ drop at w = take_all (length w - at) (drop at w) l in
    let e : drop (length w - at) (drop at w) ≡ [] = drop_of_length-le (drop at w) l in
    rw (ey, t, e, m, d) (simp (append-nil, append_assoc, drop-drop))

pub eight : {r : Rec} {o w : List ℕ} {k : ℕ} → Put r o w k → 8 ≤ length o → k ≡ 8
eight {o = o} p room = p.answers ∙ rw (le-leb 8 (length o) room)

-- q is the record that `put_record` was given, and it was written: it had its room.
pub put : {q r : Rec} {o w : List ℕ} {k : ℕ} → q ≡ r → Put r o w k → k ≡ 8 → Wrote (q ∷ []) o w k
put {q} {r} {o} {w} {k} e p h = record { count = h; holds = rw (h, e) (p.holds ∙ by (leb 8 (length o)) (sym p.answers ∙ h)) }
  where
    by : (b : Bool) → ◌≡◌ {A = ℕ} (cond b 8 0) 8 → cond b (record_bytes r ++ drop 8 o) o ≡ record_bytes r ++ drop 8 o
    by true z = refl
    by false z = absurd (omega arith)

pub one : {q r : Rec} {o w : List ℕ} {k : ℕ} → q ≡ r → Put r o w k → 8 ≤ length o → Wrote (q ∷ []) o w k
one e p room = put e p (eight p room)

pub wrote_length : {g : List Rec} {o w : List ℕ} {k : ℕ} → Wrote g o w k → k ≡ 8 * length g
wrote_length {g} w = w.count ∙ bytes_length g

pub more : {rs g : List Rec} {o w ys : List ℕ} {at k : ℕ} → Wrote rs o w at → Wrote g (rest w at) ys k
    → Wrote (rs ++ g) o (put_mid at (length w - at) w ys) (at + k)
more {rs} {g} {o} {w} {ys} {at} {k} v u = record {
  count = omega (arith, ap length (bytes_append rs g) ∙ length-append (bytes_of rs) (bytes_of g), v.count, u.count);
  holds = put_rest (bytes_of rs) (bytes_of g) w o ys at k v.count v.holds u.holds
      ∙ ap (λ (l : List ℕ). l ++ drop (at + k) o) (sym (bytes_append rs g));
}

pub filled_by : {v : Verdict} {n : ℕ} {rs : List Rec} {o w : List ℕ} {k : ℕ} → v ≡ Ok n → n ≡ length rs → Wrote rs o w k → w ≡ filled v rs o
unfolding filled
filled_by {v} {n} {rs} {o} {w} {k} e l u =
    let h : k ≡ 8 * n = omega (arith, u.count, bytes_length rs) in
    rw e (rw h at u.holds)

-- ## The records that a loop reads by their numbers

module _ (s : List ℕ) where
  module _ (k : ℕ) (h : k < count s) where
    pub rec-get_or : (z : Rec) → get_or (records s) k z ≡ rec_at s (suc k)
    unfolding rec_at or_nothing
    rec-get_or z = records-get_or s k z h ∙ sym (ap or_nothing (records-at s k h))

    pub rec-drop : drop k (records s) ≡ rec_at s (suc k) ∷ drop (suc k) (records s)
    rec-drop =
        drop-cons (records s) k (rec 0 0 0) (omega (arith, records-length s))
        ∙ ap (λ (r : Rec). r ∷ drop (suc k) (records s)) (rec-get_or (rec 0 0 0))

  pub each-records : (f : ℕ → Rec → Rec) → each f 1 (records s) ≡ groups (λ i. f i (rec_at s i) ∷ []) (count s)
  each-records f =
      each_groups f (records s) (rec 0 0 0)
      ∙ ap (groups _) (records-length s)
      ∙ groups_ext _ _ (count s) (λ k h. ap (λ (r : Rec). f (suc k) r ∷ []) (rec-get_or k h (rec 0 0 0)))

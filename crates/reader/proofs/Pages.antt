-- The page with one record more, and the answers of the pass that fills it.
use mathlib.Core.Path.{◌≡◌, refl, sym, ap, ◌∙◌, subst}
use mathlib.Core.List.{List, [], ◌∷◌, ◌++◌}
use Prim.Native.Nat.{ℕ, ◌+◌, ◌*◌, ◌-◌, ◌≤◌, ◌<◌}
use native.Mathlib.Omega.{arith}
use lib.ListN.{length, length-take, length-drop}
use borrow.Rule.Slice.PartMut.{put_mid}
use Rattle.rules.specs.Record.{Rec}
use Rattle.laws.proofs.Records.{bytes_length}
use Rattle.records.specs.Writing.{Put, Wrote}
use Rattle.records.proofs.Writing.{rest, one, more}
use Rattle.std.specs.Prelude.{Ok, Err}
use Rattle.std.specs.Result.{IsErrAnd}
use Rattle.std.proofs.lemmas.Result.{err_from_is_err_and}
use Rattle.text.specs.Answers.{TextVerdict}
use Rattle.text.specs.declared.TextRefusal.{TextRefusal}
use Rattle.text.specs.Reading.{Reading, reads, refused}
use Rattle.reader.specs.Pages.{Kept, Keeps, ReadTo}
use Rattle.reader.proofs.Loop.{one_more}

-- the record in its place
module _ (n : ℕ) (r : Rec) (w : List ℕ) where
  pub keeps : {ys : List ℕ} {k : ℕ} → n < 512 → 4096 ≤ length w → Put r (rest w (8 * n)) ys k
      → length (put_mid (8 * n) (length w - 8 * n) w ys) ≡ length w → Keeps n r w (put_mid (8 * n) (length w - 8 * n) w ys)
  keeps {ys} {k} lt room put same = (
    same,
    λ rs o e h le.
        let a : Wrote rs o w (8 * n) = record {
          count = rw (bytes_length rs, e);
          holds = rw (← e) (h (omega arith));
        } in
        let b : Wrote (r ∷ []) (rest w (8 * n)) ys k = one refl put (rw (length-take, length-drop) (omega arith)) in
        let d = more a b in
        let z : 8 * length (rs ++ (r ∷ [])) ≡ 8 * n + k = sym (bytes_length (rs ++ (r ∷ []))) ∙ sym d.count in
        rw z d.holds,
  )

  pub passes : 512 ≤ n → Keeps n r w w
  passes h = (refl, λ rs o e k le. absurd (omega (arith, one_more rs r n e)))

module _ {q : Reading} {o w : List ℕ} (same : length w ≡ length o) where
  pub read_to : (rs : List Rec) (n : ℕ) → q ≡ reads rs → n ≡ length rs → Kept rs o w → ReadTo q o (Ok n) w
  read_to rs n e m h =
      subst (λ (q : Reading). ReadTo q o (Ok n) w) (sym e) (record { answers = ap Ok m; holds = h; same = same })

  pub read-bad : (r : TextRefusal) (y : TextVerdict) → q ≡ refused r → IsErrAnd y (λ t. t ≡ r) → ReadTo q o y w
  read-bad r y e h =
      let p = err_from_is_err_and y h in
      let i : y ≡ Err r = p.1 ∙ ap Err p.2 in
      rw i (subst (λ (q : Reading). ReadTo q o (Err r) w) (sym e) (record { answers = refl; holds = tt; same = same }))

-- The 16 bytes of an entry or of a padded name.
--     at_most_16, padded_is     a name of a text, and padded with zeros
--     zeros     what is filled with zeros holds 0
--     part_on, part_end     the number of bytes, one after the other
use mathlib.Core.Path.{◌≡◌, refl}
use mathlib.Core.List.{List, ◌++◌}
use Prim.Native.Nat.{ℕ, zero, suc, ◌+◌, ◌*◌, ◌%◌, ◌≤◌, ◌<◌}
use native.Mathlib.Numerals.{add-one}
use lib.ListN.{length, get_or, drop, replicate, drop_of_length-le}
use lib.Seq.{drop-cons}
use Rattle.std.proofs.lemmas.List.{drop-replicate}
use Rattle.text.specs.declared.Sort.TheVariants.{Named}
use Rattle.text.specs.Names.{name_at, padded}
use Rattle.names.proofs.Same.{run_most}
use Rattle.name_index.specs.Index.{part_from}

module _ (s : List ℕ) (at : ℕ) {w : List ℕ} (e : w ≡ name_at s at) where
  pub at_most_16 : length w ≤ 16
  at_most_16 = rw e (run_most Named s at 16)

  -- copied to the start of 16 zeros
  pub padded_is : {o : List ℕ} → o ≡ w → o ++ drop (length w) (replicate 16 0) ≡ padded 16 (name_at s at)
  padded_is h = rw (h, drop-replicate {X = ℕ} (length w) 16 0, e)

module _ (p : List ℕ) where
  pub part_on : (m h : ℕ) → m < length p → part_from (drop m p) h ≡ part_from (drop (m + 1) p) ((13 * h + get_or p m 0) % 512)
  unfolding part_from
  part_on m h lt = rw (drop-cons p m 0 lt, add-one)

  pub part_end : (m h : ℕ) → length p ≤ m → part_from (drop m p) h ≡ h
  unfolding part_from
  part_end m h le = rw (drop_of_length-le p {i = m} le)

-- what is filled with zeros holds 0
pub zeros : (n i : ℕ) → get_or {A = ℕ} (replicate n 0) i 0 ≡ 0
zeros zero zero = refl
zeros zero (suc i) = refl
zeros (suc n) zero = refl
zeros (suc n) (suc i) = zeros n i

-- The index of a list of names: two tables, and what is looked up in them.
use Rattle.std.specs.Prelude.{◌≡◌, ◌+◌, ◌*◌, ◌/◌, ◌%◌, ◌&&◌, ◌||◌, ◌∷◌}
use Rattle.rules.specs.Words.{ℕ, zero, suc, Bool, cond, List, [], length, get_or, set, eqb, leb, ltb}
use Rattle.text.specs.Names.{same, place_of, entry, entries}

-- The number, below 512, that parts the names: the same for the same bytes.
unfoldable pub part_from : List ℕ → ℕ → ℕ
part_from [] h = h
part_from (b ∷ v) h = part_from v ((13 * h + b) % 512)

abbrev pub part_of : List ℕ → ℕ
part_of v = part_from v 0

-- For each number its first entry, and for each entry the next one with its number; 0 where there is none.
pub record Tables : Type 0 where
  pub first : List ℕ
  pub next : List ℕ

-- Entry number e stands in front of those with its number.
unfoldable pub enter : List (List ℕ) → ℕ → Tables → Tables
enter es e t = record {
  first = set t.first (part_of (entry es e)) e;
  next = set t.next e (get_or t.first (part_of (entry es e)) 0);
}

-- The entries from number k down to the first.
unfoldable pub entered : List (List ℕ) → ℕ → Tables → Tables
entered es zero t = t
entered es (suc k) t = entered es k (enter es (suc k) t)

-- The tables have room for a list that is not too long.
unfoldable pub room : List ℕ → Tables → Bool
room l t = leb (length l / 16) 999 && leb 512 (length t.first) && ltb (length l / 16) (length t.next)

-- Where they have none they are left as they are.
unfoldable pub filled : Bool → List ℕ → Tables → Tables
filled r l t = cond r (entered (entries l) (length l / 16) t) t

abbrev pub both : List ℕ → List ℕ → Tables
both f u = record { first = f; next = u }

pub record Fills (l f u : List ℕ) (r : Bool) (f' u' : List ℕ) : Type 0 where
  pub answer : r ≡ room l (both f u)
  pub first : f' ≡ (filled r l (both f u)).first
  pub next : u' ≡ (filled r l (both f u)).next

-- From entry number e on, m of them at most: the first that is p; 0 where none is.
unfoldable pub along : ℕ → List (List ℕ) → List ℕ → List ℕ → ℕ → ℕ
along zero es u p e = 0
along (suc m) es u p e =
    let later = along m es u p (get_or u e 0) in
    cond (eqb e 0 || ltb (length es) e) 0 (cond (same p (entry es e)) e later)

abbrev pub looked : List (List ℕ) → List ℕ → List ℕ → List ℕ → ℕ
looked es f u p = along (length es) es u p (get_or f (part_of p) 0)

-- The tables are the index of the list: what is looked up in them is the first place.
abbrev pub Indexed : List (List ℕ) → List ℕ → List ℕ → Type 0
Indexed es f u = (p : List ℕ) → looked es f u p ≡ place_of p es

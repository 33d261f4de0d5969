-- The words that every file here uses: numbers, truth values, lists. They are the toolchain's own.
pub use Rattle.std.specs.Prelude.{ℕ, zero, suc, ◌+◌, ◌-◌, ◌*◌, ◌/◌, ◌%◌, Bool, true, false, not, cond, ◌&&◌, ◌||◌, List, [], ◌∷◌, ◌++◌, map, length, take, drop, get_or, set, replicate, eqb, leb, ltb, Option, None, Some, slice_get}

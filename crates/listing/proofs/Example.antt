-- The paper's example of a listing, and a line of each other sort, by computation.
use mathlib.Core.Path.{◌≡◌, refl}
use mathlib.Core.List.{[], ◌∷◌}
use Rattle.rules.specs.declared.Refusal.TheVariants.{Growth, Nesting}
use Rattle.rules.specs.Record.{rec}
use Rattle.rules.specs.Instruction.{file}
use Rattle.rules.proofs.Cases.{listed}
use Rattle.rules.proofs.Computes.{computes}
use Rattle.print.specs.Text.{ascii, digits, decimal}
use Rattle.words.specs.Text.{action, sign, instruction}
use Rattle.lines.specs.Text.{line, lines, listing, refused_at, refused}
use Rattle.listing.specs.Text.{text_of}

-- `-a5{*; a6; +a7{; a8; }{; a9; }; *}; a10`
pub example : text_of (file listed) ≡ ascii "length 9 11\n1 +a5\n2 ##11\n3 a6\n4 -a7\n5 ##8\n6 a8\n7 ##10\n8 a9\n9 ##10\n10 ##1\n11 a10\n"
unfolding computes digits decimal action sign instruction line lines listing text_of
example = refl

pub beside : listing 3 (rec 1 1001 4096 ∷ rec 2 1003 9 ∷ rec 3 1002 0 ∷ rec 4 0 0 ∷ rec 3 999 0 ∷ []) ≡ ascii "length 3 5\n1 push(4096)\n2 +topeq(9)\n3 -pop\n4 ##0\n5 -a999\n"
unfolding computes digits decimal action sign instruction line lines listing
beside = refl

pub turned_away_lem : (refused (Nesting 512) ≡ ascii "refused 5 512\n") × (refused Growth ≡ ascii "refused 7 0\n")
unfolding computes digits decimal refused_at refused
turned_away_lem = (refl, refl)

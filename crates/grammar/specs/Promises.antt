-- What is proved of the definitions of `text`, against the grammar, which says nothing of how a text is read.
use Rattle.std.specs.Prelude.{◌≡◌, ◌↔◌, ◌≤◌, ◌+◌, ◌-◌, ◌∷◌, ◌++◌}
use Rattle.rules.specs.Words.{ℕ, cond, List, [], length, take, eqb}
use Rattle.rules.specs.Record.{Rec}
use Rattle.text.specs.declared.TextRefusal.TheVariants.{Text}
use Rattle.text.specs.Forms.{a}
use Rattle.text.specs.Names.{action_of, with_label}
use Rattle.text.specs.Reading.{reads, refused, read_text}
use Rattle.text.specs.Grammar as grammar
use Rattle.text.specs.Grammar.{Form, done, sign, named, numbered, Instructions, last, more, blanks, some, Start}

-- ## The place of refusal 12 (proofs/Place)

-- The first byte that no text could have there, one past the end if it stops short: w is no text, and where p is a byte of it no text
-- has the same bytes up to and with p; but some text has the same bytes up to p.
pub record Place12 (w : List ℕ) (p : ℕ) : Type 0 where
  pub from_one : 1 ≤ p
  pub at_most : p ≤ length w + 1
  pub no_text : grammar.Text w → ⊥
  pub no_such : p ≤ length w → (v : List ℕ) → grammar.Text (take p w ++ v) → ⊥
  pub some_such : Start (take (p - 1) w)

abbrev pub Placed : Type 0
Placed = (w : List ℕ) (es : List (List ℕ)) (p : ℕ) → read_text w es ≡ refused (Text p) → Place12 w p

-- ## What is read (proofs/Known)

-- The names of actions and the labels that are written in a form, in instructions and in a text, from the left.
abbrev pub actions_in : {ps u : List ℕ} → Form ps u → List (List ℕ)
actions_in done = []
actions_in (sign e f) = actions_in f
actions_in (named {p} n e al lo hi f) = cond (eqb p a) (n ∷ actions_in f) (actions_in f)
actions_in (numbered n e al lo hi f) = actions_in f

abbrev pub labels_in : {ps u : List ℕ} → Form ps u → List (List ℕ)
labels_in done = []
labels_in (sign e f) = labels_in f
labels_in (named {p} n e al lo hi f) = cond (eqb p a) (labels_in f) (n ∷ labels_in f)
labels_in (numbered n e al lo hi f) = labels_in f

abbrev pub actions_of : {v : List ℕ} → Instructions v → List (List ℕ)
actions_of (last i b u c h bs f cs) = actions_in f
actions_of (more i b u c h bs f cs m) = actions_in f ++ actions_of m

abbrev pub labels_of : {v : List ℕ} → Instructions v → List (List ℕ)
labels_of (last i b u c h bs f cs) = labels_in f
labels_of (more i b u c h bs f cs m) = labels_in f ++ labels_of m

-- Every one of these names has a number in the list.
abbrev pub AllListed : List (List ℕ) → List (List ℕ) → Type 0
AllListed es [] = Unit {0}
AllListed es (n ∷ ns) = (action_of es n ≡ 0 → ⊥) × AllListed es ns

-- The labels us, and behind them those of ns that are new, each once.
abbrev pub with_labels : List (List ℕ) → List (List ℕ) → List (List ℕ)
with_labels us [] = us
with_labels us (n ∷ ns) = with_labels (with_label us n) ns

-- Every name of an action is known, and there are at most 999 labels.
abbrev pub Known : List (List ℕ) → {w : List ℕ} → grammar.Text w → Type 0
Known es (blanks b bs) = Unit {0}
Known es (some m) = AllListed es (actions_of m) × (length (with_labels [] (labels_of m)) ≤ 999)

-- A text is read, with no refusal 12 or 13, exactly if it is in the grammar with every name known and at most 999 labels.
abbrev pub ReadsTexts : Type 0
ReadsTexts = (w : List ℕ) (es : List (List ℕ)) → ((rs : List Rec) × (read_text w es ≡ reads rs)) ↔ ((t : grammar.Text w) × Known es t)

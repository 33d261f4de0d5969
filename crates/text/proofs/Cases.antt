-- Texts read and routines written by the definitions, row by row.
use mathlib.Core.Path.{◌≡◌}
use Prim.Native.String.{String}
use Rattle.std.specs.Prelude.{◌∷◌, ◌++◌, Ok, Err}
use Rattle.rules.specs.Words.{ℕ, List, [], map, replicate}
use Rattle.rules.specs.declared.Refusal.TheVariants.{Ragged, Long, Kind, Field, Room}
use Rattle.rules.specs.Record.{Rec, rec, bytes_of}
use Rattle.rules.specs.Instruction.{encode}
use Rattle.rules.proofs.Cases.{listed, there_and_back}
use Rattle.text.specs.declared.TextRefusal.TheVariants.{Text, Name, Earlier}
use Rattle.text.specs.Bytes.{ascii}
use Rattle.text.specs.Names.{padded, entries}
use Rattle.text.specs.Reading.{Reading, reads, refused, read_text}
use Rattle.text.specs.Writing.{text_of}
use Rattle.text.specs.Answers.{told, fits, reading, writing, bytes_read, filled}

-- A list of names, and the lists that the rows use.
abbrev pub list_of : List String → List ℕ
list_of [] = []
list_of (u ∷ us) = padded 16 (ascii u) ++ list_of us

abbrev pub names : List ℕ
names = list_of ("take" ∷ "x" ∷ "R" ∷ [])

abbrev pub ten : List ℕ
ten = list_of ("a1" ∷ "a2" ∷ "a3" ∷ "a4" ∷ "a5" ∷ "a6" ∷ "a7" ∷ "a8" ∷ "a9" ∷ "a10" ∷ [])

abbrev pub read : List ℕ → String → Reading
read l u = read_text (ascii u) (entries l)

-- The text is read to these records; it has refusal 12 or 13 at this place.
abbrev pub Gives : String → List Rec → Type 0
Gives u rs = read names u ≡ reads rs

abbrev pub Stops : String → ℕ → Type 0
Stops u p = read names u ≡ refused (Text p)

abbrev pub Unknown : String → ℕ → Type 0
Unknown u p = read names u ≡ refused (Name p)

-- A record of each kind, with numbers of one to four digits.
abbrev pub sample : List Rec
sample =
    rec 1 1 0 ∷ rec 2 2 0 ∷ rec 3 3 0 ∷ rec 4 0 0 ∷ rec 4 12 0 ∷ rec 4 345 0 ∷ rec 4 9999 0 ∷ rec 5 1 0 ∷ rec 6 2 0 ∷ rec 7 3 1 ∷ rec 8 1 0 ∷ rec 9 3 0
    ∷ rec 10 0 0 ∷ rec 11 0 0 ∷ rec 12 2 0 ∷ rec 13 1 0 ∷ rec 14 0 0 ∷ rec 15 0 0 ∷ rec 15 8 0 ∷ rec 16 0 0 ∷ []

unfoldable pub Cases : Type 0
Cases =
    -- Text without instructions is the empty routine; blanks are free around instructions, and a `;` stands only between two.
    (Gives "" [])
    × (Gives " \t\r\n" [])
    × (Gives "take" (rec 1 1 0 ∷ []))
    × (Gives "  take\n;\t+x{ ;}" (rec 1 1 0 ∷ rec 8 2 0 ∷ rec 11 0 0 ∷ []))
    × (Stops ";take" 1)
    × (Stops " ; " 2)
    × (Stops "take;" 6)
    × (Stops "take; " 7)
    × (Stops "take;;x" 6)
    × (Stops "+ x" 2)
    × (Stops "+x {" 4)
    × (Stops "} {" 3)
    × (Stops "take x" 6)
    -- The forms, `!` for ##0.
    × (Gives "take;+take;-x;##12;[s];##[s];##[s][t];+x{;-x{;}{;}" (rec 1 1 0 ∷ rec 2 1 0 ∷ rec 3 2 0 ∷ rec 4 12 0 ∷ rec 5 1 0 ∷ rec 6 1 0 ∷ rec 7 1 2 ∷ rec 8 2 0 ∷ rec 9 2 0 ∷ rec 10 0 0 ∷ rec 11 0 0 ∷ []))
    × (Gives "+x{*;-x{*;*};R##7;##R;!;##0" (rec 12 2 0 ∷ rec 13 2 0 ∷ rec 14 0 0 ∷ rec 15 7 0 ∷ rec 16 0 0 ∷ rec 4 0 0 ∷ rec 4 0 0 ∷ []))
    × (Stops "*{" 2)
    × (Stops "}{}" 3)
    × (Stops "{" 1)
    × (Stops "take{" 5)
    × (Stops "+x{**" 5)
    × (Stops "!!" 2)
    × (Stops "!0" 2)
    × (Stops "take\0" 5)
    -- A number has 1 to 4 digits.
    × (Gives "##0007" (rec 4 7 0 ∷ []))
    × (Stops "##00007" 7)
    × (Stops "##1x" 4)
    × (Stops "##r" 3)
    × (Stops "###" 3)
    × (Stops "##" 3)
    × (Stops "#" 2)
    × (Stops "+" 2)
    × (Stops "*" 2)
    -- A name has 1 to 16 letters or digits. A longer one is 12 only; an unknown one is 13, whatever follows it.
    × (Unknown "abcdefghijklmnop" 1)
    × (Stops "abcdefghijklmnopq" 17)
    × (Stops "[abcdefghijklmnopq]" 18)
    × (Gives "[abcdefghijklmnop]" (rec 5 1 0 ∷ []))
    × (Unknown "tak$" 1)
    × (Stops "take$" 5)
    × (Unknown "+tak{" 2)
    × (Stops "take$;tak" 5)
    × (Unknown "tak;$" 1)
    × (Unknown "12" 1)
    -- `R` is a name unless `##` follows it.
    × (Gives "R" (rec 1 3 0 ∷ []))
    × (Gives "+R{" (rec 8 3 0 ∷ []))
    × (Gives "R;R##1" (rec 1 3 0 ∷ rec 15 1 0 ∷ []))
    × (Stops "R#" 3)
    × (Stops "R#x" 3)
    × (Stops "R ##1" 3)
    × (Stops "R##R" 4)
    × (Unknown "Rx" 1)
    × (Unknown "Rx##1" 1)
    × (Stops "take##1" 5)
    × (Stops "+R##1" 3)
    × (Stops "##Rx" 4)
    × (Stops "##R1" 4)
    × (Stops "R$" 2)
    × (read ten "R$" ≡ refused (Name 1))
    × (read ten "R#" ≡ refused (Text 3))
    × (read ten "R##1" ≡ reads (rec 15 1 0 ∷ []))
    -- Labels are numbered by first appearance, in a goto or otherwise; they and the names of actions are apart.
    × (Gives "##[b][a];[a];[b];##[c]" (rec 7 1 2 ∷ rec 5 2 0 ∷ rec 5 1 0 ∷ rec 6 3 0 ∷ []))
    × (Gives "[a];[ab];[a]" (rec 5 1 0 ∷ rec 5 2 0 ∷ rec 5 1 0 ∷ []))
    × (Gives "take;[take]" (rec 1 1 0 ∷ rec 5 1 0 ∷ []))
    × (Gives "[a];[A]" (rec 5 1 0 ∷ rec 5 2 0 ∷ []))
    × (Gives "##[5][5];[5]" (rec 7 1 1 ∷ rec 5 1 0 ∷ []))
    × (Stops "[]" 2)
    × (Stops "[s" 3)
    × (Stops "##[s" 5)
    × (Stops "##[s][" 7)
    × (Stops "##[s][]" 7)
    × (Stops "##[s][t][u]" 9)
    -- The number of an action is its first place in the list; an entry that is not a name and then zeros is no name.
    × (read (list_of ("x" ∷ "take" ∷ "take" ∷ [])) "take" ≡ reads (rec 1 2 0 ∷ []))
    × (read (list_of ("tak" ∷ "take1" ∷ "ta\0e" ∷ "take" ∷ [])) "take" ≡ reads (rec 1 4 0 ∷ []))
    × (read (list_of ("+take" ∷ "" ∷ "abcdefghijklmnop" ∷ [])) "abcdefghijklmnop" ≡ reads (rec 1 3 0 ∷ []))
    × (read [] "take" ≡ refused (Name 1))
    -- The paper's examples as the desk would type them, and the request's.
    × (read ten "-a5{*; a6; +a7{; a8; }{; a9; }; *}; a10" ≡ reads (map encode listed))
    × (read ten "R##4; a1; !; a2; ##R" ≡ reads (map encode there_and_back))
    × (read ten "[5]; a1; ##[5]" ≡ reads (rec 5 1 0 ∷ rec 1 1 0 ∷ rec 6 1 0 ∷ []))
    × (read (list_of ("take" ∷ "log" ∷ "three" ∷ [])) "+three{; take; }; log" ≡ reads (rec 8 3 0 ∷ rec 1 1 0 ∷ rec 11 0 0 ∷ rec 1 2 0 ∷ []))
    -- What read_text answers: 13 at 0 for a list that is ragged; 12 and 13 before 2, and 2 before 8; the numbers of 12 and 13.
    × (reading (ascii "$") (0 ∷ names) [] ≡ Err (Name 0))
    × (reading (ascii "take") names (replicate 7 9) ≡ Err (Earlier Room))
    × (reading (ascii "take;!") names (replicate 17 9) ≡ Ok 2)
    × (fits (reads (replicate 513 (rec 11 0 0))) [] ≡ Err (Earlier Long))
    × (filled (Ok 1) (bytes_read (ascii "##258") names) (replicate 9 7) ≡ 4 ∷ 0 ∷ 2 ∷ 1 ∷ 0 ∷ 0 ∷ 0 ∷ 0 ∷ 7 ∷ [])
    × (filled (Err (Name 0)) (ascii "x") (replicate 2 7) ≡ 7 ∷ 7 ∷ [])
    × (map told (Text 5 ∷ Name 0 ∷ Earlier Long ∷ Earlier Room ∷ []) ≡ record { number = 12; place = 5 } ∷ record { number = 13; place = 0 } ∷ record { number = 2; place = 0 } ∷ record { number = 8; place = 0 } ∷ [])
    -- A routine written: instructions joined by `; `, labels as L1, L2, no leading zeros; and read again.
    × (text_of (entries names) [] ≡ [])
    × (text_of (entries names) (rec 1 1 0 ∷ rec 4 0 0 ∷ rec 7 3 999 ∷ rec 4 1020 0 ∷ rec 15 0 0 ∷ []) ≡ ascii "take; !; ##[L3][L999]; ##1020; R##0")
    × (text_of (entries ten) (map encode listed) ≡ ascii "-a5{*; a6; +a7{; a8; }{; a9; }; *}; a10")
    × (text_of (entries ten) (map encode there_and_back) ≡ ascii "R##4; a1; !; a2; ##R")
    × (read_text (text_of (entries names) (rec 5 1 0 ∷ sample)) (entries names) ≡ reads (rec 5 1 0 ∷ sample))
    -- What write_text answers: 1 to 4 of the routine; 13 at 0 for the list, then at the record whose action has no proper name; 8.
    × (writing (0 ∷ []) (0 ∷ []) [] ≡ Err (Earlier Ragged))
    × (writing (bytes_of (rec 1 9 0 ∷ rec 1 1000 0 ∷ [])) (0 ∷ []) [] ≡ Err (Earlier (Field 2)))
    × (writing (bytes_of (rec 17 0 0 ∷ [])) (0 ∷ []) [] ≡ Err (Earlier (Kind 1)))
    × (writing (bytes_of (rec 1 9 0 ∷ [])) (0 ∷ []) [] ≡ Err (Name 0))
    × (writing (bytes_of (rec 4 9 0 ∷ rec 2 3 0 ∷ rec 12 4 0 ∷ [])) names [] ≡ Err (Name 3))
    × (writing (bytes_of (rec 1 1 0 ∷ rec 1 2 0 ∷ [])) (list_of ("a" ∷ "" ∷ [])) [] ≡ Err (Name 2))
    × (writing (bytes_of (rec 1 1 0 ∷ rec 1 2 0 ∷ [])) (list_of ("a" ∷ "a\0b" ∷ [])) [] ≡ Err (Name 2))
    × (writing (bytes_of (rec 1 1 0 ∷ rec 1 2 0 ∷ [])) (list_of ("a" ∷ "a" ∷ [])) (replicate 4 9) ≡ Ok 4)
    × (writing (bytes_of (rec 1 1 0 ∷ rec 10 0 0 ∷ [])) names (replicate 7 9) ≡ Err (Earlier Room))
    × (writing (bytes_of (rec 1 1 0 ∷ rec 10 0 0 ∷ [])) names (replicate 8 9) ≡ Ok 8)

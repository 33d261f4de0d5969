-- What is proved of the definitions of `rules`, and where. Start here.
use Rattle.std.specs.Prelude.{◌≡◌, ◌↔◌, ◌≤◌, ◌<◌, ◌+◌, ◌*◌, Ok}
use Rattle.rules.specs.Words.{ℕ, zero, suc, Option, None, Some, List, map, length, get_or}
use Rattle.rules.specs.declared.Notation.TheVariants.{Base, Relative}
use Rattle.rules.specs.declared.Status.{Status}
use Rattle.rules.specs.Numbers.{at}
use Rattle.rules.specs.Record.{bytes_of, records}
use Rattle.rules.specs.Instruction.{Sort, Op, label, goto, goto2, encode, ops, file}
use Rattle.rules.specs.Nesting.{nesting, Body}
use Rattle.rules.specs.Labels.{target, target2}
use Rattle.rules.specs.Skip.{skip, converted_length}
use Rattle.rules.specs.Convert.{convert}
use Rattle.rules.specs.Relative.{to_relative, to_absolute, far}
use Rattle.rules.specs.Step.{Mem, Out, go, halt, step}
use Rattle.rules.specs.Run.{start_of, fresh_mem, Run, runs}
use Rattle.rules.specs.Answers.{check_records, check_routine}
use Rattle.faithful.specs.Place.{Place5}
use Rattle.faithful.specs.Items.{Stands, Partnered, Belongs}

-- ## Demand 3 (proofs/Demand)

-- So many steps, every one of them taken.
unfoldable pub and_then : (ℕ → Mem → Out) → Out → Out
and_then rest (go i m) = rest i m
and_then rest (halt w) = halt w

unfoldable pub after : List Op → ℕ → ℕ → Mem → Out
after L zero i m = go i m
after L (suc c) i m = and_then (λ j m'. after L c j m') (step L i m)

-- Why a step is not taken: none where it is.
unfoldable pub why : Out → Option Status
why (go i m) = None
why (halt w) = Some w

-- The routine L of n records has taken s steps from its start and stands at i with m: counter stack, replies used, log, actions logged.
-- Then its base, after a count of steps from s to (2n+1)·s, has the same m, and there takes its next step, or is stopped by the same
-- status: ended, no reply left, log full, stack full.
pub record Follows (n : ℕ) (L : List Op) (replies log : List ℕ) (s i : ℕ) (m : Mem) : Type 0 where
  pub count : ℕ
  pub place : ℕ
  pub at_least : s ≤ count
  pub at_most : count ≤ (2 * n + 1) * s
  pub same : after (convert L) count (start_of (convert L)) (fresh_mem replies log) ≡ go place m
  pub alike : why (step (convert L) place m) ≡ why (step L i m)

-- For every routine without refusal 6, all replies, every log and every number of steps.
abbrev pub Demand3 : Type 0
Demand3 =
    (L : List Op) → skip L ≡ 0 → (replies log : List ℕ) (s i : ℕ) (m : Mem)
    → after L s (start_of L) (fresh_mem replies log) ≡ go i m → Follows (length L) L replies log s i m

-- A run of the routine with budget left over, and the run of its base with any budget above the count: same m, same status.
pub record RunFollows (n : ℕ) (L : List Op) (replies log : List ℕ) (ran : Run) : Type 0 where
  pub count : ℕ
  pub place : ℕ
  pub at_least : ran.steps ≤ count
  pub at_most : count ≤ (2 * n + 1) * ran.steps
  pub same : (budget : ℕ) → count < budget
      → runs (convert L) replies log budget ≡ record { position = place; mem = ran.mem; steps = count; status = ran.status }

abbrev pub Demand3Run : Type 0
Demand3Run =
    (L : List Op) → skip L ≡ 0 → (replies log : List ℕ) (budget : ℕ)
    → (runs L replies log budget).steps < budget → RunFollows (length L) L replies log (runs L replies log budget)

-- Both, of a file that is accepted with n records.
abbrev pub Demand3File : Type 0
Demand3File =
    (f : List ℕ) (n : ℕ) → check_routine f ≡ Ok n → (replies log : List ℕ)
    → ((s i : ℕ) (m : Mem) → after (ops f) s (start_of (ops f)) (fresh_mem replies log) ≡ go i m → Follows n (ops f) replies log s i m)
    × ((budget : ℕ) → (runs (ops f) replies log budget).steps < budget → RunFollows n (ops f) replies log (runs (ops f) replies log budget))

-- ## Records and instructions (proofs/Base)

-- The records of the file f are the records of its instructions; hence, where f is bytes, it is the file of its instructions.
pub record Encoded (f : List ℕ) : Type 0 where
  pub its_records : map encode (ops f) ≡ records f
  pub its_bytes : ((k : ℕ) → get_or f k 0 < 256) → file (ops f) ≡ f

-- So of every file that is accepted, as a routine or as a base: reading its records loses nothing, and only `encode` has to be held beside the table of kinds.
abbrev pub Encodings : Type 0
Encodings = (f : List ℕ) (n : ℕ) → (check_routine f ≡ Ok n → Encoded f) × (check_records Base f ≡ Ok n → Encoded f)

-- ## Nesting (proofs/Grammar)

-- Refusal 5 is absent exactly if the whole routine is one body, and its place is p exactly if p is the place that the paper words.
abbrev pub Grammar : Type 0
Grammar = (L : List Op) → (nesting L ≡ 0 ↔ Body L) × ((p : ℕ) → nesting L ≡ suc p ↔ Place5 L (suc p))

-- ## Partners (proofs/Partners)

-- Wherever an item of the grammar stands, the partners that stages and steps use are the grammar's; and in a routine that is one body
-- every record belongs to an item.
abbrev pub Partners : Type 0
Partners =
    (L : List Op)
    → ((b : Sort) (h k e : ℕ) → Stands L b h k e → Partnered L b h k e)
    × (Body L → (i : ℕ) (o : Op) → at L i ≡ Some o → Belongs L i o)

-- So in a file that is accepted.
abbrev pub PartnersFile : Type 0
PartnersFile = (f : List ℕ) (n : ℕ) → check_routine f ≡ Ok n → (i : ℕ) (o : Op) → at (ops f) i ≡ Some o → Belongs (ops f) i o

-- ## Gotos (proofs/Gotos)

-- The lookup of the label s found the place of a record, and that record is [s].
pub record Aimed (L : List Op) (s : ℕ) (found : Option ℕ) : Type 0 where
  pub place : ℕ
  pub there : found ≡ Some place
  pub labelled : at L place ≡ Some (label s)

-- In a file that is accepted every goto has a target, and it is a label record: so the step of a goto never ends there for want of one.
abbrev pub Gotos : Type 0
Gotos =
    (f : List ℕ) (n : ℕ) → check_routine f ≡ Ok n → (i : ℕ)
    → ((s : ℕ) → at (ops f) i ≡ Some (goto s) → Aimed (ops f) s (target (ops f) s))
    × ((s t : ℕ) → at (ops f) i ≡ Some (goto2 s t) → Aimed (ops f) t (target2 (ops f) s t))

-- ## The base (proofs/Base)

-- The paper's formula is the length of the base.
abbrev pub Length : Type 0
Length = (L : List Op) → length (convert L) ≡ converted_length L

-- The base of the file f holds kinds 1 to 4 only, passes the base's own checks, and is read back from its bytes.
pub record Based (f : List ℕ) : Type 0 where
  pub kinds : (i : ℕ) (o : Op) → at (convert (ops f)) i ≡ Some o → (1 ≤ (encode o).kind) × ((encode o).kind ≤ 4)
  pub checked : check_records Base (file (convert (ops f))) ≡ Ok (converted_length (ops f))
  pub read_back : ops (file (convert (ops f))) ≡ convert (ops f)

-- So a converted routine is never refused by them.
abbrev pub BaseAccepted : Type 0
BaseAccepted = (f : List ℕ) (n : ℕ) → check_routine f ≡ Ok n → Based f

-- ## Relative jumps (proofs/Relative)

-- The base f of n records becomes a relative base that is accepted, with no number too far, and back it is the same records; hence,
-- where f is bytes, the same bytes.
pub record RoundTrip (f : List ℕ) (n : ℕ) : Type 0 where
  pub checked : check_records Relative (bytes_of (to_relative (records f))) ≡ Ok n
  pub read_back : records (bytes_of (to_relative (records f))) ≡ to_relative (records f)
  pub near : far (to_relative (records f)) ≡ 0
  pub same : to_absolute (to_relative (records f)) ≡ records f
  pub same_bytes : ((k : ℕ) → get_or f k 0 < 256) → bytes_of (to_absolute (records (bytes_of (to_relative (records f))))) ≡ f

abbrev pub RelativeAndBack : Type 0
RelativeAndBack = (f : List ℕ) (n : ℕ) → check_records Base f ≡ Ok n → RoundTrip f n

-- What a text is followed by is in the grammar: where a form is whole, its bytes stand there, with blanks and `;` or the end behind
-- them; and where it is stuck, the bytes up to there begin some instruction of the form.
use mathlib.Core.Path.{◌≡◌, refl, sym, ap, ◌∙◌, subst}
use Prim.Native.Nat.{◌≤◌, ◌<◌}
use Prim.Native.Char.{code}
use native.Mathlib.Omega.{arith}
use mathlib.Core.List.{append_assoc, append-nil}
use lib.Dec.{T}
use lib.ListN.{length-append, drop_of_length-le}
use lib.Seq.{drop-cons}
use borrow.Author.Tests.{eqb-true, eqb-false, leb-true, leb-false}
use Rattle.std.specs.Prelude.{◌+◌, ◌||◌, ◌∷◌, ◌++◌, Result, Ok, Err}
use Rattle.rules.specs.Words.{ℕ, zero, suc, Bool, true, false, List, [], length, drop, eqb, leb}
use Rattle.text.specs.declared.Sort.{Sort}
use Rattle.text.specs.declared.Sort.TheVariants.{Blank, Digit, Named}
use Rattle.text.specs.declared.Fit.{Fit}
use Rattle.text.specs.Bytes.{byte_at, digit, letter, in_sort, run, span}
use Rattle.text.specs.Forms.{Part, itself, name, number, part_of, take_run, take_part, take_sign, x_at, y_at, ending, fit, going, follow}
use Rattle.text.specs.Grammar.{All, Form, done, sign, named, numbered}
use Rattle.text.proofs.Tests.{by_test, never}
use Rattle.text.proofs.Reach.{in_text, Reach, take_reach, byte_there}
use Rattle.grammar.proofs.Runs.{run_all}
use Rattle.grammar.proofs.Follows.{positive, above, rest, blanked, ended, ending_has}
use Rattle.grammar.proofs.Accepts.{Tail, semi, stop}

module _ (w : List ℕ) where
  -- The bytes from `at` to e.
  pub record Piece (at e : ℕ) : Type 0 where
    pub bytes : List ℕ
    pub stands : drop at w ≡ bytes ++ drop e w
    pub sized : e ≡ at + length bytes

  abbrev nothing_read : (at : ℕ) → Piece at at
  nothing_read at = record { bytes = []; stands = refl; sized = omega arith }

  abbrev pub joined : {at e f : ℕ} → Piece at e → Piece e f → Piece at f
  joined {at} {e} {f} a b = record {
    bytes = a.bytes ++ b.bytes;
    stands = a.stands ∙ ap (λ (l : List ℕ). a.bytes ++ l) b.stands ∙ sym (append_assoc a.bytes b.bytes (drop f w));
    sized = let n = length-append a.bytes b.bytes in let x = a.sized in let y = b.sized in omega arith;
  }

  pub run_stands : (c : Sort) (at n : ℕ) → drop at w ≡ run c w at n ++ drop (at + span c w at n) w
  unfolding run
  run_stands c at zero = let e : at ≡ at + 0 = omega arith in ap (λ (k : ℕ). drop k w) e
  run_stands c at (suc n) =
      by_test (in_sort c (byte_at w at))
      (λ t. let r = run_stands c (suc at) n in
      let k : suc at + span c w (suc at) n ≡ at + suc (span c w (suc at) n) = omega arith in
      rw t (drop-cons w at 0 (in_text c w at t) ∙ ap (λ (l : List ℕ). byte_at w at ∷ l) (r ∙ ap (λ (j : ℕ). run c w (suc at) n ++ drop j w) k)))
      (λ t. let e : at ≡ at + 0 = omega arith in rw t (ap (λ (k : ℕ). drop k w) e))

  abbrev pub run_piece : (c : Sort) (at n : ℕ) → Piece at (at + span c w at n)
  run_piece c at n = record { bytes = run c w at n; stands = run_stands c at n; sized = refl }

  abbrev byte_piece : (p at : ℕ) → 0 < p → byte_at w at ≡ p → Piece at (at + 1)
  byte_piece p at pos e =
      let k : suc at ≡ at + 1 = omega arith in
      record { bytes = p ∷ []; stands = drop-cons w at 0 (byte_there w at (λ z. omega arith)) ∙ ap (λ (b : ℕ). b ∷ drop (suc at) w) e ∙ ap (λ (j : ℕ). p ∷ drop j w) k; sized = omega arith }

  -- ## One sign

  -- A run that is there, and one that is not.
  record Ran (c : Sort) (most at e : ℕ) : Type 0 where
    some : 1 ≤ span c w at (suc most)
    few : span c w at (suc most) ≤ most
    upto : at + span c w at (suc most) ≡ e

  run_on : (c : Sort) (most at e : ℕ) → take_run c most w at ≡ Ok e → Ran c most at e
  unfolding take_run
  run_on c most at e h =
      let n = span c w at (suc most) in
      by_test (eqb n 0)
      (λ t. let q : Err at ≡ Ok e = rw t at h in cc)
      (λ t. by_test (leb n most)
      (λ l. let q : Ok (at + n) ≡ Ok e = rw (t, l) at h in record { some = omega (arith, eqb-false n 0 t); few = leb-true n most l; upto = cc })
      (λ l. let q : Err (at + most) ≡ Ok e = rw (t, l) at h in cc))

  -- A sign that is there: its bytes may stand for it before any that stand for the rest.
  record Stood (p at e : ℕ) : Type 0 where
    piece : Piece at e
    before : {ps u : List ℕ} → Form ps u → Form (p ∷ ps) (piece.bytes ++ u)

  part_on : (q : Part) (p at e : ℕ) → part_of p ≡ q → 0 < p → take_part q p w at ≡ Ok e → Stood p at e
  unfolding take_part
  part_on itself p at e s pos h =
      by_test (eqb (byte_at w at) p)
      (λ t. let q : Ok (at + 1) ≡ Ok e = rw t at h in
      let k : at + 1 ≡ e = cc in
      subst (Stood p at) k (record { piece = byte_piece p at pos (eqb-true (byte_at w at) p t); before = λ f. sign s f }))
      (λ t. let q : Err at ≡ Ok e = rw t at h in cc)
  part_on name p at e s pos h =
      let r = run_on Named 16 at e h in
      subst (Stood p at) r.upto (record { piece = run_piece Named at 17; before = λ f. named (run Named w at 17) s (run_all Named w at 17) r.some r.few f })
  part_on number p at e s pos h =
      let r = run_on Digit 4 at e h in
      subst (Stood p at) r.upto (record { piece = run_piece Digit at 5; before = λ f. numbered (run Digit w at 5) s (run_all Digit w at 5) r.some r.few f })

  -- ## A form that is whole

  pub record Shown (ps : List ℕ) (at far : ℕ) : Type 0 where
    pub u : List ℕ
    pub c : List ℕ
    pub z : List ℕ
    pub stands : drop at w ≡ u ++ (c ++ z)
    pub form : Form ps u
    pub blanks : All Blank c
    pub tail : Tail z
    pub size : far ≡ at + length u + length c + 1

  or_else : (a b : Bool) → (a || b) ≡ true → a ≡ false → b ≡ true
  or_else a b h e = rw e at h

  ended_tail : (e : ℕ) → ended w e ≡ true → Tail (drop e w)
  ended_tail e h =
      by_test (eqb e (length w))
      (λ t. subst Tail (sym (drop_of_length-le w {i = e} (omega (arith, eqb-true e (length w) t)))) stop)
      (λ t. let b : byte_at w e ≡ code ";" = eqb-true (byte_at w e) (code ";") (or_else _ _ h t) in
      subst Tail (sym (drop-cons w e 0 (byte_there w e (λ z. omega arith)) ∙ ap (λ (x : ℕ). x ∷ drop (suc e) w) b)) (semi (drop (suc e) w)))

  pub ending_shown : (i at x y : ℕ) → (ending i w at x y).whole ≡ true → Shown [] at (ending i w at x y).far
  ending_shown i at x y = ending_has (λ (f : Fit). f.whole ≡ true → Shown [] at f.far) i w at x y
      (λ t _. record {
        u = [];
        c = run Blank w at (length w);
        z = drop (blanked w at) w;
        stands = run_stands Blank at (length w);
        form = done;
        blanks = run_all Blank w at (length w);
        tail = ended_tail (blanked w at) t;
        size = omega arith;
      })
      (λ _ h. never (sym h))

  sign_shown : {p : ℕ} {ps : List ℕ} {at e far : ℕ} → Stood p at e → Shown ps e far → Shown (p ∷ ps) at far
  sign_shown {at = at} {e = e} s r =
      let n = length-append s.piece.bytes r.u in
      let k = s.piece.sized in
      let z = r.size in
      record {
        u = s.piece.bytes ++ r.u;
        c = r.c;
        z = r.z;
        stands = s.piece.stands ∙ ap (λ (l : List ℕ). s.piece.bytes ++ l) r.stands ∙ sym (append_assoc s.piece.bytes r.u (r.c ++ r.z));
        form = s.before r.form;
        blanks = r.blanks;
        tail = r.tail;
        size = omega arith;
      }

  pub shown : (i : ℕ) (ps : List ℕ) (at x y : ℕ) → T (positive ps) → at ≤ length w → (follow i ps w at x y).whole ≡ true → Shown ps at (follow i ps w at x y).far
  unfolding follow
  shown i [] at x y ok le h = ending_shown i at x y h
  shown i (p ∷ ps) at x y ok le h =
      by (λ e x' y'. shown i ps e x' y' (rest p ps ok)) (take_sign p w at) (take_reach w at p (above p ps ok) le) (λ e q. part_on (part_of p) p at e refl (above p ps ok) q) refl h
    where
      by : ((e x' y' : ℕ) → e ≤ length w → (follow i ps w e x' y').whole ≡ true → Shown ps e (follow i ps w e x' y').far)
          → (r : Result ℕ ℕ) → Reach w at r → ((e : ℕ) → take_sign p w at ≡ Ok e → Stood p at e) → take_sign p w at ≡ r
          → (going r (λ e. follow i ps w e (x_at p at x) (y_at p at y)) (λ e. fit i false e x y)).whole ≡ true
          → Shown (p ∷ ps) at (going r (λ e. follow i ps w e (x_at p at x) (y_at p at y)) (λ e. fit i false e x y)).far
      by go (Ok e) q s t h = sign_shown (s e t) (go e (x_at p at x) (y_at p at y) q.1 h)
      by go (Err e) q s t h = never (sym h)

  -- ## A form that is stuck

  -- The bytes from `at` to far, and what makes them an instruction of the form, perhaps with blanks behind it.
  pub record Begun (ps : List ℕ) (at far : ℕ) : Type 0 where
    pub piece : Piece at far
    pub v : List ℕ
    pub u : List ℕ
    pub c : List ℕ
    pub form : Form ps u
    pub blanks : All Blank c
    pub made : piece.bytes ++ v ≡ u ++ c

  -- Every form has some instruction.
  some-part : (q : Part) (p : ℕ) → part_of p ≡ q → {ps u : List ℕ} → Form ps u → (n : List ℕ) × Form (p ∷ ps) (n ++ u)
  unfolding in_sort digit letter
  some-part itself p e f = (p ∷ [], sign e f)
  some-part name p e f = (97 ∷ [], named (97 ∷ []) e (refl, tt) (omega arith) (omega arith) f)
  some-part number p e f = (48 ∷ [], numbered (48 ∷ []) e (refl, tt) (omega arith) (omega arith) f)

  pub some_form : (ps : List ℕ) → (u : List ℕ) × Form ps u
  some_form [] = ([], done)
  some_form (p ∷ ps) = let r = some_form ps in let s = some-part (part_of p) p refl r.1 in (s.0 ++ r.0, s.1)

  pub begun_here : (ps : List ℕ) (at : ℕ) → Begun ps at at
  begun_here ps at = let r = some_form ps in record { piece = nothing_read at; v = r.0; u = r.0; c = []; form = r.1; blanks = tt; made = sym (append-nil r.0) }

  -- A run of which the byte after `most` is one too many.
  span-full : (c : Sort) (at m : ℕ) → m < span c w at (suc m) → span c w at m ≡ m
  unfolding run
  span-full c at zero h = refl
  span-full c at (suc m) h =
      by_test (in_sort c (byte_at w at))
      (λ t. let g : suc m < suc (span c w (suc at) (suc m)) = rw t at h in rw t (ap suc (span-full c (suc at) m (omega arith))))
      (λ t. absurd (let g : suc m < 0 = rw t at h in omega arith))

  record Full (c : Sort) (most at e : ℕ) : Type 0 where
    exact : span c w at most ≡ most
    upto : at + span c w at most ≡ e

  -- It is stuck at once, or behind as many bytes as it may have.
  run_off : (P : ℕ → Type 0) (c : Sort) (most at e : ℕ) → take_run c most w at ≡ Err e → P at → (Full c most at e → P e) → P e
  unfolding take_run
  run_off P c most at e h here full =
      let n = span c w at (suc most) in
      by_test (eqb n 0)
      (λ t. let q : Err at ≡ Err e = rw t at h in let k : at ≡ e = cc in subst P k here)
      (λ t. by_test (leb n most)
      (λ l. let q : Ok (at + n) ≡ Err e = rw (t, l) at h in cc)
      (λ l. let q : Err (at + most) ≡ Err e = rw (t, l) at h in
      let k : at + most ≡ e = cc in
      let f : span c w at most ≡ most = span-full c at most (leb-false n most l) in
      full (record { exact = f; upto = omega arith })))

  begun_run : (p : ℕ) (ps : List ℕ) (c : Sort) (most at e : ℕ) → Full c most at e
      → ((us : List ℕ) → Form ps us → Form (p ∷ ps) (run c w at most ++ us)) → Begun (p ∷ ps) at e
  begun_run p ps c most at e f form =
      let r = some_form ps in
      subst (Begun (p ∷ ps) at) f.upto
      (record { piece = run_piece c at most; v = r.0; u = run c w at most ++ r.0; c = []; form = form r.0 r.1; blanks = tt; made = sym (append-nil (run c w at most ++ r.0)) })

  part_off : (q : Part) (p : ℕ) (ps : List ℕ) (at e : ℕ) → part_of p ≡ q → take_part q p w at ≡ Err e → Begun (p ∷ ps) at e
  unfolding take_part
  part_off itself p ps at e s h =
      by_test (eqb (byte_at w at) p)
      (λ t. let q : Ok (at + 1) ≡ Err e = rw t at h in cc)
      (λ t. let q : Err at ≡ Err e = rw t at h in let k : at ≡ e = cc in subst (Begun (p ∷ ps) at) k (begun_here (p ∷ ps) at))
  part_off name p ps at e s h = run_off (Begun (p ∷ ps) at) Named 16 at e h (begun_here (p ∷ ps) at)
      (λ f. let x = f.exact in begun_run p ps Named 16 at e f (λ us g. named (run Named w at 16) s (run_all Named w at 16) (omega arith) (omega arith) g))
  part_off number p ps at e s h = run_off (Begun (p ∷ ps) at) Digit 4 at e h (begun_here (p ∷ ps) at)
      (λ f. let x = f.exact in begun_run p ps Digit 4 at e f (λ us g. numbered (run Digit w at 4) s (run_all Digit w at 4) (omega arith) (omega arith) g))

  ending_begun : (i at x y : ℕ) → (ending i w at x y).whole ≡ false → Begun [] at (ending i w at x y).far
  ending_begun i at x y = ending_has (λ (f : Fit). f.whole ≡ false → Begun [] at f.far) i w at x y
      (λ _ h. never h)
      (λ _ _. record { piece = run_piece Blank at (length w); v = []; u = []; c = run Blank w at (length w); form = done; blanks = run_all Blank w at (length w); made = append-nil _ })

  sign_begun : {p : ℕ} {ps : List ℕ} {at e far : ℕ} → Stood p at e → Begun ps e far → Begun (p ∷ ps) at far
  sign_begun s r = record {
    piece = joined s.piece r.piece;
    v = r.v;
    u = s.piece.bytes ++ r.u;
    c = r.c;
    form = s.before r.form;
    blanks = r.blanks;
    made =
        append_assoc s.piece.bytes r.piece.bytes r.v ∙ ap (λ (l : List ℕ). s.piece.bytes ++ l) r.made
        ∙ sym (append_assoc s.piece.bytes r.u r.c);
  }

  pub begun : (i : ℕ) (ps : List ℕ) (at x y : ℕ) → T (positive ps) → at ≤ length w → (follow i ps w at x y).whole ≡ false → Begun ps at (follow i ps w at x y).far
  unfolding follow
  begun i [] at x y ok le h = ending_begun i at x y h
  begun i (p ∷ ps) at x y ok le h =
      by (λ e x' y'. begun i ps e x' y' (rest p ps ok)) (take_sign p w at) (take_reach w at p (above p ps ok) le)
      (λ e q. part_on (part_of p) p at e refl (above p ps ok) q) (λ e q. part_off (part_of p) p ps at e refl q) refl h
    where
      by : ((e x' y' : ℕ) → e ≤ length w → (follow i ps w e x' y').whole ≡ false → Begun ps e (follow i ps w e x' y').far)
          → (r : Result ℕ ℕ) → Reach w at r → ((e : ℕ) → take_sign p w at ≡ Ok e → Stood p at e) → ((e : ℕ) → take_sign p w at ≡ Err e → Begun (p ∷ ps) at e) → take_sign p w at ≡ r
          → (going r (λ e. follow i ps w e (x_at p at x) (y_at p at y)) (λ e. fit i false e x y)).whole ≡ false
          → Begun (p ∷ ps) at (going r (λ e. follow i ps w e (x_at p at x) (y_at p at y)) (λ e. fit i false e x y)).far
      by go (Ok e) q s o t h = sign_begun (s e t) (go e (x_at p at x) (y_at p at y) q.1 h)
      by go (Err e) q s o t h = o e t

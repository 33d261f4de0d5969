-- The place of refusal 12: another text with the same bytes up to where one is stuck is stuck there too, no text of the grammar is
-- stuck, and what is read before begins some text.
use mathlib.Core.Path.{◌≡◌, refl, sym, ap, ◌∙◌, subst}
use Prim.Native.Nat.{◌≤◌, ◌<◌}
use Prim.Native.Char.{code}
use native.Mathlib.Omega.{arith}
use mathlib.Core.List.{append_assoc, append-nil}
use lib.ListN.{length-append, length-drop, take-append-drop, get_or-append}
use lib.Seq.{take-append_seam, drop-append_seam, drop-drop, length-take-le, get_or-take}
use borrow.Author.Tests.{eqb-false}
use Rattle.std.specs.Prelude.{◌+◌, ◌-◌, ◌∷◌, ◌++◌}
use Rattle.rules.specs.Words.{ℕ, suc, true, List, [], length, take, drop, eqb}
use Rattle.text.specs.declared.Sort.TheVariants.{Blank}
use Rattle.text.specs.declared.Fit.{Fit}
use Rattle.text.specs.declared.TextRefusal.TheVariants.{Text}
use Rattle.text.specs.Bytes.{run, span}
use Rattle.text.specs.Forms.{signs_of, best_of}
use Rattle.text.specs.Reading.{reads, refused, read_text}
use Rattle.text.specs.Grammar as grammar
use Rattle.text.specs.Grammar.{All, Form, Instructions, last, more, blanks, some, Start}
use Rattle.text.proofs.Tests.{by_test, never}
use Rattle.grammar.specs.Promises.{Placed}
use Rattle.grammar.proofs.Runs.{span_all, run_all}
use Rattle.grammar.proofs.Follows.{blanked}
use Rattle.grammar.proofs.Accepts.{Tail, semi, stop}
use Rattle.grammar.proofs.Local.{Agree, blanks_local, best_local}
use Rattle.grammar.proofs.Parts.{Piece, joined, run_piece, Shown}
use Rattle.grammar.proofs.Instructions.{text_length, passed, found, seen, broken}
use Rattle.grammar.proofs.Stuck.{Stuck, here, later, blanked_in, not_back, stuck_behind, stuck-within, refused-stuck}

-- ## Stuck alike

module _ (w v : List ℕ) (p : ℕ) (ag : Agree w v p) (lw : p ≤ length w) (lv : p ≤ length v) where
  -- The next instruction starts at the same place, and the best form there is the same.
  blanked_alike : (at : ℕ) → blanked w at < p → blanked v at ≡ blanked w at
  blanked_alike at h = ap (λ (m : ℕ). at + m) (blanks_local w v p ag Blank at (length w) (length v) h (omega arith) (omega arith))

  best-alike : (at : ℕ) → at ≤ length w → blanked w at < p → (best_of w (blanked w at)).far < p → best_of v (blanked v at) ≡ best_of w (blanked w at)
  best-alike at h l lt = ap (best_of v) (blanked_alike at l) ∙ best_local w v p ag lw lv (blanked w at) 17 (blanked_in w at h) lt

  stuck-alike : {at : ℕ} → at ≤ length w → Stuck w at p → Stuck v at p
  stuck-alike {at} h (here t e) =
      let b = best-alike at h (omega (arith, not_back w at h t)) (omega arith) in
      here (ap (λ (f : Fit). f.whole) b ∙ t) (e ∙ ap (λ (f : Fit). f.far + 1) (sym b))
  stuck-alike {at} h (later t l q) =
      let k = stuck_behind w l q in
      let r = seen w (blanked w at) (blanked_in w at h) t in
      let z = r.shows.size in
      let b = best-alike at h (omega arith) k in
      let d : (best_of v (blanked v at)).far ≡ (best_of w (blanked w at)).far = ap (λ (f : Fit). f.far) b in
      later (ap (λ (f : Fit). f.whole) b ∙ t) (omega arith) (subst (λ (j : ℕ). Stuck v j p) (sym d) (stuck-alike l q))

-- ## No text is stuck

-- Where the best form is whole and ends at e, only what follows can be stuck, and only if there is something.
not_here : {w : List ℕ} {at p e : ℕ} → (best_of w (blanked w at)).whole ≡ true → (best_of w (blanked w at)).far ≡ e → Stuck w at p → (e ≤ length w) × Stuck w e p
not_here t q (here f x) = never (sym t ∙ f)
not_here {w} {at} {p} t q (later f l r) = (subst (λ (j : ℕ). j ≤ length w) q l, subst (λ (j : ℕ). Stuck w j p) q r)

module _ (i : ℕ) (pre b u c z : List ℕ) (hi : i < 17) (bs : All Blank b) (f : Form (signs_of (suc i)) u) (cs : All Blank c) (t : Tail z) where
  abbrev w : List ℕ
  w = pre ++ (b ++ (u ++ (c ++ z)))

  found_at : (best_of w (blanked w (length pre))).whole ≡ true
  found_at = ap (λ (j : ℕ). (best_of w j).whole) (passed i pre b u c z hi bs f cs t) ∙ ap (λ (g : Fit). g.whole) (found i pre b u c z hi bs f cs t)

  found_to : (best_of w (blanked w (length pre))).far ≡ length pre + length b + length u + length c + 1
  found_to = ap (λ (j : ℕ). (best_of w j).far) (passed i pre b u c z hi bs f cs t) ∙ ap (λ (g : Fit). g.far) (found i pre b u c z hi bs f cs t)

  goes_on : {p : ℕ} → Stuck w (length pre) p → (length pre + length b + length u + length c + 1 ≤ length w) × Stuck w (length pre + length b + length u + length c + 1) p
  goes_on q = not_here found_at found_to q

last_not : (i : ℕ) (pre b u c : List ℕ) (p : ℕ) → i < 17 → All Blank b → Form (signs_of (suc i)) u → All Blank c → Stuck (pre ++ (b ++ (u ++ c))) (length pre) p → ⊥
last_not i pre b u c p hi bs f cs q =
    let e : c ++ [] ≡ c = append-nil c in
    let g = goes_on i pre b u c [] hi bs f cs stop (subst (λ (x : List ℕ). Stuck (pre ++ (b ++ (u ++ x))) (length pre) p) (sym e) q) in
    let n = text_length i pre b u c [] hi bs f cs stop in
    omega (arith, g.0)

-- What stands before the next instruction.
abbrev pub up_to : List ℕ → List ℕ → List ℕ → List ℕ
up_to b u c = b ++ (u ++ (c ++ (code ";" ∷ [])))

pub behind : (pre b u c v : List ℕ) → (pre ++ up_to b u c) ++ v ≡ pre ++ (b ++ (u ++ (c ++ (code ";" ∷ v))))
behind pre b u c v =
    append_assoc pre (up_to b u c) v ∙ ap (λ (l : List ℕ). pre ++ l)
    (append_assoc b (u ++ (c ++ (code ";" ∷ []))) v ∙ ap (λ (l : List ℕ). b ++ l)
    (append_assoc u (c ++ (code ";" ∷ [])) v ∙ ap (λ (l : List ℕ). u ++ l) (append_assoc c (code ";" ∷ []) v)))

pub up_to_length : (pre b u c : List ℕ) → length (pre ++ up_to b u c) ≡ length pre + length b + length u + length c + 1
up_to_length pre b u c =
    let n₁ = length-append pre (up_to b u c) in
    let n₂ = length-append b (u ++ (c ++ (code ";" ∷ []))) in
    let n₃ = length-append u (c ++ (code ";" ∷ [])) in
    let n₄ = length-append c (code ";" ∷ []) in
    omega arith

more_next : (i : ℕ) (pre b u c v : List ℕ) (p : ℕ) → i < 17 → All Blank b → Form (signs_of (suc i)) u → All Blank c
    → Stuck (pre ++ (b ++ (u ++ (c ++ (code ";" ∷ v))))) (length pre) p → Stuck ((pre ++ up_to b u c) ++ v) (length (pre ++ up_to b u c)) p
more_next i pre b u c v p hi bs f cs q =
    let g = goes_on i pre b u c (code ";" ∷ v) hi bs f cs (semi v) q in
    rw (behind pre b u c v, up_to_length pre b u c) g.1

some_not : {v : List ℕ} (pre : List ℕ) (p : ℕ) → Instructions v → Stuck (pre ++ v) (length pre) p → ⊥
some_not pre p (last i b u c hi bs f cs) q = last_not i pre b u c p hi bs f cs q
some_not pre p (more i b u c {v} hi bs f cs m) q = some_not (pre ++ up_to b u c) p m (more_next i pre b u c v p hi bs f cs q)

-- A text of blanks alone is stuck at its end only.
pub all_blank : (b : List ℕ) → All Blank b → span Blank b 0 (length b) ≡ length b
all_blank b bs = subst (λ (l : List ℕ). span Blank l 0 (length b) ≡ length b) (append-nil b) (span_all Blank [] b [] bs)

blank-end : (b : List ℕ) (p : ℕ) → All Blank b → Stuck b 0 p → length b < p
blank-end b p bs (here t e) = omega (arith, not_back b 0 (omega arith) t, all_blank b bs)
blank-end b p bs (later t l q) = let r = seen b (blanked b 0) (blanked_in b 0 (omega arith)) t in absurd (omega (arith, r.shows.size, all_blank b bs))

-- ## What is read before begins some text

module _ (w : List ℕ) where
  -- The bytes before `at` may stand before any instructions.
  abbrev Before : ℕ → Type 0
  Before at = (v : List ℕ) → Instructions v → Instructions (take at w ++ v)

  take_piece : {at e : ℕ} → at ≤ length w → (q : Piece w at e) → take e w ≡ take at w ++ q.bytes
  take_piece {at} {e} h q =
      let x = take at w ++ q.bytes in
      let l : length x ≡ e = length-append (take at w) q.bytes ∙ ap (λ (m : ℕ). m + length q.bytes) (length-take-le at w h) ∙ sym q.sized in
      let d : x ++ drop e w ≡ w = append_assoc (take at w) q.bytes (drop e w) ∙ ap (λ (y : List ℕ). take at w ++ y) (sym q.stands) ∙ take-append-drop at w in
      ap (λ (y : List ℕ). take e y) (sym d) ∙ ap (λ (m : ℕ). take m (x ++ drop e w)) (sym l) ∙ take-append_seam x (drop e w)

  -- An instruction that is whole and has another behind it.
  pub shown_piece : {ps : List ℕ} {at far : ℕ} → far ≤ length w → at ≤ length w → (r : Shown w ps at far) → (q : Piece w at far) × (q.bytes ≡ r.u ++ (r.c ++ (code ";" ∷ [])))
  shown_piece {at = at} {far = far} lf h r = by r.z r.tail r.stands
    where
      by : (z : List ℕ) → Tail z → drop at w ≡ r.u ++ (r.c ++ z) → (q : Piece w at far) × (q.bytes ≡ r.u ++ (r.c ++ (code ";" ∷ [])))
      by z (semi v) e =
          let x = r.u ++ (r.c ++ (code ";" ∷ [])) in
          let n₁ = length-append r.u (r.c ++ (code ";" ∷ [])) in
          let n₂ = length-append r.c (code ";" ∷ []) in
          let k = r.size in
          let l : far ≡ at + length x = omega arith in
          let s : drop at w ≡ x ++ v = e ∙ sym (append_assoc r.u (r.c ++ (code ";" ∷ [])) v ∙ ap (λ (y : List ℕ). r.u ++ y) (append_assoc r.c (code ";" ∷ []) v)) in
          let d : drop far w ≡ v = ap (λ (m : ℕ). drop m w) l ∙ sym (drop-drop (length x) at w) ∙ ap (drop (length x)) s ∙ drop-append_seam x v in
          (record { bytes = x; stands = s ∙ ap (λ (y : List ℕ). x ++ y) (sym d); sized = l }, refl)
      by z stop e =
          let n : length w - at ≡ length r.u + (length r.c + 0) = sym (length-drop at w) ∙ ap length e ∙ length-append r.u (r.c ++ []) ∙ ap (λ (m : ℕ). length r.u + m) (length-append r.c []) in
          let k = r.size in
          absurd (omega arith)

  before-next : {at : ℕ} → at ≤ length w → Before at → (i : ℕ) → i < 17 → {far : ℕ} → far ≤ length w → Shown w (signs_of (suc i)) (blanked w at) far → Before far
  before-next {at} h bf i hi {far} lf r v m =
      let q = shown_piece lf (blanked_in w at h) r in
      let b = run Blank w at (length w) in
      let j = joined w (run_piece w Blank at (length w)) q.0 in
      let e : take far w ++ v ≡ take at w ++ (b ++ (r.u ++ (r.c ++ (code ";" ∷ v)))) =
      ap (λ (y : List ℕ). y ++ v) (take_piece h j ∙ ap (λ (y : List ℕ). take at w ++ (b ++ y)) q.1) ∙ behind (take at w) b r.u r.c v in
      subst Instructions (sym e) (bf (b ++ (r.u ++ (r.c ++ (code ";" ∷ v)))) (more i b r.u r.c hi (run_all Blank w at (length w)) r.form r.blanks m))

  starts_some : {at p : ℕ} → at ≤ length w → Before at → Stuck w at p → Start (take (p - 1) w)
  starts_some {at} {p} h bf (here t e) =
      let r = broken w (blanked w at) (blanked_in w at h) t in
      let g = r.begins in
      let b = run Blank w at (length w) in
      let j = joined w (run_piece w Blank at (length w)) g.piece in
      let k : p - 1 ≡ (best_of w (blanked w at)).far = omega arith in
      let x : take (p - 1) w ++ g.v ≡ take at w ++ (b ++ (g.u ++ g.c)) =
      ap (λ (m : ℕ). take m w ++ g.v) k ∙ ap (λ (y : List ℕ). y ++ g.v) (take_piece h j) ∙ append_assoc (take at w) (b ++ g.piece.bytes) g.v
      ∙ ap (λ (y : List ℕ). take at w ++ y) (append_assoc b g.piece.bytes g.v ∙ ap (λ (y : List ℕ). b ++ y) g.made) in
      (g.v, some (subst Instructions (sym x) (bf (b ++ (g.u ++ g.c)) (last r.number b g.u g.c r.listed (run_all Blank w at (length w)) g.form g.blanks))))
  starts_some {at} {p} h bf (later t l q) =
      let r = seen w (blanked w at) (blanked_in w at h) t in
      starts_some l (before-next h bf r.number r.listed l r.shows) q

-- ## The theorem

module _ (w : List ℕ) (p : ℕ) (q : Stuck w 0 p) (nb : span Blank w 0 (length w) ≡ length w → ⊥) where
  no_text : grammar.Text w → ⊥
  no_text (blanks b bs) = nb (all_blank b bs)
  no_text (some m) = some_not [] p m q

  no_such : p ≤ length w → (v : List ℕ) → grammar.Text (take p w ++ v) → ⊥
  no_such l v t = by (take p w ++ v) refl t
    where
      tp : length (take p w) ≡ p
      tp = length-take-le p w l

      lv : p ≤ length (take p w ++ v)
      lv = omega (arith, length-append (take p w) v, tp)

      ag : Agree w (take p w ++ v) p
      ag i lt = sym (get_or-append (take p w) v 0 i (omega (arith, tp)) ∙ get_or-take p w i 0 lt)

      also : Stuck (take p w ++ v) 0 p
      also = stuck-alike w (take p w ++ v) p ag l lv (omega arith) q

      by : (x : List ℕ) → take p w ++ v ≡ x → grammar.Text x → ⊥
      by x e (blanks b bs) = omega (arith, blank-end b p bs (subst (λ (y : List ℕ). Stuck y 0 p) e also), ap length e, lv)
      by x e (some m) = some_not [] p m (subst (λ (y : List ℕ). Stuck y 0 p) e also)

pub placed : Placed
unfolding read_text
placed w es p e =
    by_test (eqb (span Blank w 0 (length w)) (length w))
    (λ t. let z : reads [] ≡ refused (Text p) = rw t at e in cc)
    (λ t. let q : Stuck w 0 p = refused-stuck w (length w + 1) es 0 p [] [] (omega arith) (omega arith) (rw t at e) in
    record {
      from_one = stuck_behind w (omega arith) q;
      at_most = stuck-within w (omega arith) q;
      no_text = no_text w p q (eqb-false _ _ t);
      no_such = no_such w p q (eqb-false _ _ t);
      some_such = starts_some w (omega arith) (λ v m. m) q;
    })

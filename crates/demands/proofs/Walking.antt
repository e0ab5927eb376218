-- A cursor without fault stands on a place and steps to the next; one that is started steps along its ring, mark by mark, and round its end.
use mathlib.Core.Path.{◌≡◌, refl, sym, ◌∙◌, ap, ap₂, subst}
use mathlib.Core.Bool.{Bool, true, false, ◌&&◌, not}
use mathlib.Core.List.{List, ◌∷◌}
use mathlib.Core.Logic.{◌≢◌, ◌↔◌}
use Prim.Native.Nat.{ℕ, zero, suc, ◌+◌, ◌-◌, ◌≤◌, ◌<◌}
use native.Mathlib.Omega.{arith}
use native.Mathlib.Nat.{add-zero}
use native.Mathlib.Decide.{ℕ_discrete}
use lib.Dec.{eqb, ltb}
use lib.Seq.{length-take-le}
use lib.ListN.{length, take, replicate}
use borrow.Author.Tests.{ne_eqb, eq-eqb, eqb-true}
use Rattle.theory.specs.Words.{first_of, when, marks_ok, is_lyndon}
use Rattle.theory.specs.Rings.{divides, ring_words, ring, Stepped, good_in, position_in, cursor_on, step_in, back_in, modulo, passed_to, beside, path_end, path_letters}
use Rattle.theory.specs.Strips.{admitted, strip_fault}
use Rattle.shape.specs.declared.Lengths.{Lengths}
use Rattle.shape.specs.declared.Lengths.TheVariants.{Divisors, Whole}
use Rattle.shape.specs.Rings.{ok_of, size_of, letter_of, letters_of}
use Rattle.shape.proofs.Rings.{cursors_of}
use Rattle.theory.proofs.Shorts.{whole_allowed}
use Rattle.theory.proofs.Base.{and_in, and_l, and_r}
use Rattle.theory.specs.Theorems.{Leads}
use Rattle.theory.proofs.Cursors.{at_kept, step_kept, back_kept}
use Rattle.theory.proofs.Reading.{modulo_small, modulo_lt, modulo-modulo, modulo-plus, modulo_suc, letters-modulo}
use Rattle.shape.proofs.Limits.{Limits, admitted_limits, limits_admit}
use Rattle.calls.specs.Refusals.{ring_fault}
use Rattle.calls.proofs.Answers.{value_parts}
use Rattle.cursors.proofs.Told.{faultless_says, MoveTold, start_told, move_told}
use Rattle.cursors.proofs.Held.{same_bytes, tidy_out}
use Rattle.cursors.specs.declared.Cursor as DC
use Rattle.cursors.specs.declared.Stepped as DT
use Rattle.cursors.specs.Cursors.{mark_of, passed_of, after, cursor_of, cursor_in, tidy, empty, Is, fault_on, cursor_fault, short_fault, StartOn, WhereOn}
use Rattle.demands.specs.Walked.{Says, passed_going, StepsOn, Walked, stays, steps, Followed, rests, goes as on-path, fields, held_at, passed_from, path_passed}
use Rattle.demands.proofs.Faults.{strip_faultless, strip_admits, place_faultless}
use Rattle.calls.specs.declared.refusal.Refusal.{Refusal}
use Rattle.calls.specs.Codes.{number_of, value_of}
use Rattle.std.specs.Prelude.{Result}

-- what a cursor without fault is, and back
record Sound (lengths : Lengths) (c : DC.Cursor) : Type 0 where
  limits : Limits c.k c.n
  tidied : tidy c ≡ true
  good : good_in (ok_of lengths) (cursor_in c) ≡ true

sound : (lengths : Lengths) (c : DC.Cursor) → fault_on lengths c ≡ 0 → Sound lengths c
sound lengths c h =
    let (strip, both) = faultless_says lengths c h in
    record { limits = admitted_limits c.k c.n (strip_admits c.k c.n strip); tidied = and_l (tidy c) _ both; good = and_r (tidy c) _ both }

faultless : (lengths : Lengths) (k n : ℕ) (c : DC.Cursor) → admitted k n ≡ true → c.k ≡ k → c.n ≡ n → tidy c ≡ true → good_in (ok_of lengths) (cursor_in c) ≡ true
    → fault_on lengths c ≡ 0
faultless lengths k n c a letters marks tidied good =
    let none : strip_fault c.k c.n ≡ 0 = ap₂ strip_fault letters marks ∙ strip_faultless k n a in
    ap₂ (λ x b. first_of x (when (not b) 10)) none (and_in tidied good)

-- a start
pub started : (lengths : Lengths) (k n p : ℕ) (r : Result DC.Cursor Refusal) → admitted k n ≡ true → p < size_of lengths k n → StartOn lengths k n p r
    → (number_of r ≡ 0) × ((cursor_of r).k ≡ k) × ((cursor_of r).n ≡ n) × (fault_on lengths (cursor_of r) ≡ 0) × (position_in (ok_of lengths) (cursor_in (cursor_of r)) ≡ p)
started lengths k n p r a h e =
    let l = admitted_limits k n a in
    let (number, (is, tidied)) : (number_of r ≡ 0) × Is (cursor_on (ok_of lengths n) k n p) (cursor_of r) = rw (place_faultless lengths k n p a h) at (start_told (ring_fault lengths k n p) (cursor_on (ok_of lengths n) k n p) r e) in
    let kept = at_kept k n (ring_words (ok_of lengths n) k n) p in
    let (good, place) = (cursors_of lengths).there k n p l.two l.some h in
    let letters = ap (λ c. c.k) is ∙ kept.0 in
    let marks = ap (λ c. c.n) is ∙ kept.1 in
    (number, letters, marks, faultless lengths k n (cursor_of r) a letters marks tidied (ap (good_in (ok_of lengths)) is ∙ good), ap (position_in (ok_of lengths)) is ∙ place)

pub not_started : (lengths : Lengths) (k n p : ℕ) (r : Result DC.Cursor Refusal) → StartOn lengths k n p r → number_of r ≢ 0 → empty (cursor_of r) ≡ true
not_started lengths k n p r e h =
    let t = start_told (ring_fault lengths k n p) (cursor_on (ok_of lengths n) k n p) r e in
    let other : eqb (ring_fault lengths k n p) 0 ≡ false = ne_eqb (ring_fault lengths k n p) 0 (λ z. h (t.0 ∙ z)) in
    rw other at t.1

-- a place
pub stands : (lengths : Lengths) (c : DC.Cursor) (v : Result ℕ Refusal) → fault_on lengths c ≡ 0 → WhereOn lengths c v
    → (number_of v ≡ 0) × (value_of v ≡ position_in (ok_of lengths) (cursor_in c)) × (value_of v < size_of lengths c.k c.n)
stands lengths c v h e =
    let s = sound lengths c h in
    let (number, value) : (number_of v ≡ 0) × (value_of v ≡ position_in (ok_of lengths) (cursor_in c)) = rw h at (value_parts (fault_on lengths c) (position_in (ok_of lengths) (cursor_in c)) v e) in
    (number, value, omega (arith, value, (cursors_of lengths).within (cursor_in c) s.limits.two s.limits.some s.good))

-- a step: what its promise says where there is no fault, and where there is one
abbrev moved : Lengths → Bool → DC.Cursor → Stepped
moved lengths true c = step_in (ok_of lengths) (cursor_in c)
moved lengths false c = back_in (ok_of lengths) (cursor_in c)

says : (lengths : Lengths) (way : Bool) (c : DC.Cursor) (q : Result DT.Stepped Refusal) → Says lengths way c q → MoveTold (fault_on lengths c) (moved lengths way c) c q
says lengths true c q e = move_told (fault_on lengths c) (moved lengths true c) c q e
says lengths false c q e = move_told (fault_on lengths c) (moved lengths false c) c q e

answers : (lengths : Lengths) (way : Bool) (c : DC.Cursor) (q : Result DT.Stepped Refusal) → fault_on lengths c ≡ 0 → Says lengths way c q → (number_of q ≡ 0) × (mark_of q ≡ (moved lengths way c).mark) × (passed_of q ≡ (moved lengths way c).passed) × Is (moved lengths way c).cursor_is (after c q)
answers lengths way c q h e = rw h at (says lengths way c q e)

-- where it leads
leads : (lengths : Lengths) (way : Bool) {c : DC.Cursor} → Sound lengths c
    → let p = position_in (ok_of lengths) (cursor_in c) in
    Leads (good_in (ok_of lengths)) (position_in (ok_of lengths)) (moved lengths way c) (letter_of lengths c.k c.n p) (beside (size_of lengths c.k c.n) way p) (passed_going way c.k c.n (cursor_in c).word) c.n
leads lengths true {c} s = (cursors_of lengths).onward (cursor_in c) s.limits.two s.limits.some s.good
leads lengths false {c} s = (cursors_of lengths).backward (cursor_in c) s.limits.two s.limits.some s.good

kept : (lengths : Lengths) (way : Bool) (c : DC.Cursor) → ((moved lengths way c).cursor_is.k ≡ c.k) × ((moved lengths way c).cursor_is.n ≡ c.n)
kept lengths true c = step_kept (ok_of lengths c.n) (cursor_in c)
kept lengths false c = back_kept (ok_of lengths c.n) (cursor_in c)

pub step : (lengths : Lengths) (way : Bool) (c : DC.Cursor) (q : Result DT.Stepped Refusal) → fault_on lengths c ≡ 0 → Says lengths way c q → StepsOn lengths way c q
step lengths way c q h e =
    let s = sound lengths c h in
    let (number, mark, passed, (is, tidied)) = answers lengths way c q h e in
    let (reads, good, place, told, few) = leads lengths way s in
    let letters : (after c q).k ≡ c.k = ap (λ y. y.k) is ∙ (kept lengths way c).0 in
    let marks : (after c q).n ≡ c.n = ap (λ y. y.n) is ∙ (kept lengths way c).1 in
    record {
      number = number;
      mark = mark ∙ reads;
      passed = passed ∙ told ∙ ap (λ y. passed_going way c.k c.n (cursor_in c).word y.word) (sym is);
      few = omega (arith, passed, few);
      strip = (letters, marks);
      faultless = faultless lengths c.k c.n (after c q) (limits_admit c.k c.n s.limits) letters marks tidied (ap (good_in (ok_of lengths)) is ∙ good);
      place = ap (position_in (ok_of lengths)) is ∙ place;
    }

pub not_stepped : (lengths : Lengths) (way : Bool) (c : DC.Cursor) (q : Result DT.Stepped Refusal) → Says lengths way c q → number_of q ≢ 0 → (mark_of q ≡ 0) × (passed_of q ≡ 0) × (after c q ≡ c)
not_stepped lengths way c q e h =
    let said = says lengths way c q e in
    let other : eqb (fault_on lengths c) 0 ≡ false = ne_eqb (fault_on lengths c) 0 (λ z. h (said.0 ∙ z)) in
    (rw other at said.1, rw other at said.2, rw other at said.3)

-- a step and the step back
there_back : (lengths : Lengths) (way : Bool) (c : DC.Cursor) (q b : Result DT.Stepped Refusal) → fault_on lengths c ≡ 0 → Says lengths way c q → Says lengths (not way) (after c q) b
    → (number_of b ≡ number_of q) × (passed_of b ≡ passed_of q) × (after (after c q) b ≡ c)
there_back lengths way c q b h e f =
    let s = sound lengths c h in
    let g = step lengths way c q h e in
    let (number, _, passed, (is, _)) = answers lengths way c q h e in
    let (number', _, passed', (is', tidied)) = answers lengths (not way) (after c q) b g.faultless f in
    let (again, many) = undoes way s is in
    (number' ∙ sym number, passed' ∙ many ∙ sym passed, same_bytes (after (after c q) b) c tidied s.tidied (is' ∙ again))
  where
    undoes : (way : Bool) → Sound lengths c → cursor_in (after c q) ≡ (moved lengths way c).cursor_is
        → ((moved lengths (not way) (after c q)).cursor_is ≡ cursor_in c) × ((moved lengths (not way) (after c q)).passed ≡ (moved lengths way c).passed)
    undoes true s is =
        let x = (step_in (ok_of lengths) (cursor_in c)).cursor_is in
        let (_, good, _, _, _) = leads lengths true s in
        let (letters, marks) = kept lengths true c in
        let two = subst (λ k. 2 ≤ k) (sym letters) s.limits.two in
        let some = subst (λ n. 1 ≤ n) (sym marks) s.limits.some in
        let back : (back_in (ok_of lengths) x).cursor_is ≡ cursor_in c = (cursors_of lengths).back_step (cursor_in c) s.limits.two s.limits.some s.good in
        (ap (λ y. (back_in (ok_of lengths) y).cursor_is) is ∙ back, ap (λ y. (back_in (ok_of lengths) y).passed) is ∙ sym ((cursors_of lengths).as_many x two some good) ∙ ap (λ y. (step_in (ok_of lengths) y).passed) back)
    undoes false s is =
        let at = cursor_in c in
        (ap (λ y. (step_in (ok_of lengths) y).cursor_is) is ∙ (cursors_of lengths).step_back at s.limits.two s.limits.some s.good, ap (λ y. (step_in (ok_of lengths) y).passed) is ∙ (cursors_of lengths).as_many at s.limits.two s.limits.some s.good)

pub undone : (lengths : Lengths) (way : Bool) (c : DC.Cursor) (q b : Result DT.Stepped Refusal) → Says lengths way c q → Says lengths (not way) (after c q) b
    → (number_of b ≡ number_of q) × (passed_of b ≡ passed_of q) × (after (after c q) b ≡ c)
undone lengths way c q b e f = elim (ℕ_discrete (fault_on lengths c) 0) [ yes h ↦ there_back lengths way c q b h e f | no h ↦ refused h ]
  where
    refused : ¬ (fault_on lengths c ≡ 0) → (number_of b ≡ number_of q) × (passed_of b ≡ passed_of q) × (after (after c q) b ≡ c)
    refused h =
        let (_, passed, is) = not_stepped lengths way c q e (λ z. h (sym (says lengths way c q e).0 ∙ z)) in
        let again : number_of b ≡ fault_on lengths c = (says lengths (not way) (after c q) b f).0 ∙ ap (fault_on lengths) is in
        let (_, passed', is') = not_stepped lengths (not way) (after c q) b f (λ z. h (sym again ∙ z)) in
        (again ∙ sym (says lengths way c q e).0, passed' ∙ sym passed, is' ∙ is)

-- steps in a row
module _ (lengths : Lengths) (k n : ℕ) (a : admitted k n ≡ true) where
  l : Limits k n
  l = admitted_limits k n a

  -- a cursor without fault that stands on a place
  record At (p : ℕ) (c : DC.Cursor) : Type 0 where
    letters : c.k ≡ k
    marks : c.n ≡ n
    sane : fault_on lengths c ≡ 0
    place : position_in (ok_of lengths) (cursor_in c) ≡ p

  -- the place beside one is on the ring
  beside_small : (way : Bool) (p : ℕ) → p < size_of lengths k n → beside (size_of lengths k n) way p < size_of lengths k n
  beside_small true p h = modulo_lt (suc p) (size_of lengths k n) (omega arith)
  beside_small false p h = modulo_lt (p + (size_of lengths k n - 1)) (size_of lengths k n) (omega arith)

  -- it holds the word that holds the place
  held : {p : ℕ} {c : DC.Cursor} → p < size_of lengths k n → At p c → (cursor_in c).word ≡ held_at lengths k n p
  held {p} {c} h at =
      let s = sound lengths c at.sane in
      let one : cursor_on (ok_of lengths c.n) c.k c.n (position_in (ok_of lengths) (cursor_in c)) ≡ cursor_in c = (cursors_of lengths).one (cursor_in c) s.limits.two s.limits.some s.good in
      let there : cursor_on (ok_of lengths n) k n (modulo p (size_of lengths k n)) ≡ cursor_in c = ap (cursor_on (ok_of lengths n) k n) (modulo_small p (size_of lengths k n) h ∙ sym at.place) ∙ ap₂ (λ x y. cursor_on (ok_of lengths y) x y (position_in (ok_of lengths) (cursor_in c))) (sym at.letters) (sym at.marks) ∙ one in
      ap (λ x. x.word) (sym there)

  goes : (way : Bool) (p : ℕ) (c : DC.Cursor) (q : Result DT.Stepped Refusal) → At p c → Says lengths way c q → At (beside (size_of lengths k n) way p) (after c q)
  goes way p c q at e =
      let g = step lengths way c q at.sane e in
      record {
        letters = g.strip.0 ∙ at.letters;
        marks = g.strip.1 ∙ at.marks;
        sane = g.faultless;
        place = g.place ∙ ap₂ (λ y z. beside (size_of lengths y z) way (position_in (ok_of lengths) (cursor_in c))) at.letters at.marks ∙ ap (beside (size_of lengths k n) way) at.place;
      }

  reads : (way : Bool) (p : ℕ) (c : DC.Cursor) (q : Result DT.Stepped Refusal) → At p c → Says lengths way c q → mark_of q ≡ letter_of lengths k n p
  reads way p c q at e =
      (step lengths way c q at.sane e).mark ∙ ap₂ (λ y z. letter_of lengths y z (position_in (ok_of lengths) (cursor_in c))) at.letters at.marks ∙ ap (letter_of lengths k n) at.place

  passes : (way : Bool) (p : ℕ) (c : DC.Cursor) (q : Result DT.Stepped Refusal) → p < size_of lengths k n → At p c → Says lengths way c q
      → passed_of q ≡ passed_going way k n (held_at lengths k n p) (held_at lengths k n (beside (size_of lengths k n) way p))
  passes way p c q h at e =
      (step lengths way c q at.sane e).passed ∙ ap₂ (λ x y. passed_going way x y (cursor_in c).word (cursor_in (after c q)).word) at.letters at.marks
      ∙ ap₂ (passed_going way k n) (held h at) (held (beside_small way p h) (goes way p c q at e))

  -- the words passed from a place are those from the same place a round earlier
  passed_same : (p q c : ℕ) → modulo p (size_of lengths k n) ≡ modulo q (size_of lengths k n) → passed_from lengths k n p c ≡ passed_from lengths k n q c
  passed_same p q zero e = refl
  passed_same p q (suc c) e =
      let next : modulo (suc p) (size_of lengths k n) ≡ modulo (suc q) (size_of lengths k n) = modulo_suc p (size_of lengths k n) ∙ ap (λ i. modulo (suc i) (size_of lengths k n)) e ∙ sym (modulo_suc q (size_of lengths k n)) in
      ap₂ (λ x y. x ∷ y) (ap₂ (λ i j. passed_to k n (cursor_on (ok_of lengths n) k n i).word (cursor_on (ok_of lengths n) k n j).word) e next) (passed_same (suc p) (suc q) c next)

  walks : (p : ℕ) {c d : DC.Cursor} {qs : List (Result DT.Stepped Refusal)} → p < size_of lengths k n → At p c → Walked lengths c qs d
      → (fields number_of qs ≡ replicate (length qs) 0) × (fields mark_of qs ≡ letters_of lengths k n p (length qs))
      × (fields passed_of qs ≡ passed_from lengths k n p (length qs)) × At (modulo (p + length qs) (size_of lengths k n)) d
  walks p {c} h at stays = (refl, refl, refl, subst (λ i. At i c) (sym (ap (λ i. modulo i (size_of lengths k n)) (add-zero p) ∙ modulo_small p (size_of lengths k n) h)) at)
  walks p {c} {d} h at (steps q {qs} e w) =
      let next = modulo (suc p) (size_of lengths k n) in
      let (numbers, marks, passed, stood) = walks next (beside_small true p h) (goes true p c q at e) w in
      let again : modulo next (size_of lengths k n) ≡ next = modulo-modulo (suc p) (size_of lengths k n) in
      let further : modulo (next + length qs) (size_of lengths k n) ≡ modulo (p + suc (length qs)) (size_of lengths k n) = sym (modulo-plus (suc p) (length qs) (size_of lengths k n)) ∙ ap (λ i. modulo i (size_of lengths k n)) (omega arith) in (
        ap₂ (λ y ys. y ∷ ys) (step lengths true c q at.sane e).number numbers,
        ap₂ (λ y ys. y ∷ ys) (reads true p c q at e) (marks ∙ letters-modulo (size_of lengths k n) (ring (ok_of lengths n) k n) (suc p) (length qs)),
        ap₂ (λ y ys. y ∷ ys) (passes true p c q h at e ∙ ap (λ i. passed_to k n (held_at lengths k n p) (cursor_on (ok_of lengths n) k n i).word) again) (passed ∙ passed_same next (suc p) (length qs) again),
        subst (λ i. At i d) further stood,
      )

  follows : (p : ℕ) {c d : DC.Cursor} {ways : List Bool} {qs : List (Result DT.Stepped Refusal)} → p < size_of lengths k n → At p c → Followed (Says lengths) c ways qs d
      → (fields number_of qs ≡ replicate (length qs) 0) × (fields mark_of qs ≡ path_letters (size_of lengths k n) (ring (ok_of lengths n) k n) ways p)
      × (fields passed_of qs ≡ path_passed lengths k n ways p) × At (path_end (size_of lengths k n) ways p) d
  follows p h at rests = (refl, refl, refl, at)
  follows p {c} h at (on-path way q e w) =
      let (numbers, marks, passed, stood) = follows (beside (size_of lengths k n) way p) (beside_small way p h) (goes way p c q at e) w in (
        ap₂ (λ y ys. y ∷ ys) (step lengths way c q at.sane e).number numbers,
        ap₂ (λ y ys. y ∷ ys) (reads way p c q at e) marks,
        ap₂ (λ y ys. y ∷ ys) (passes way p c q h at e) passed,
        stood,
      )

pub walk : (lengths : Lengths) (k n p : ℕ) (r : Result DC.Cursor Refusal) (qs : List (Result DT.Stepped Refusal)) (d : DC.Cursor) (v : Result ℕ Refusal) → admitted k n ≡ true → p < size_of lengths k n
    → StartOn lengths k n p r → Walked lengths (cursor_of r) qs d → WhereOn lengths d v
    → (number_of r ≡ 0) × (fields number_of qs ≡ replicate (length qs) 0) × (fields mark_of qs ≡ letters_of lengths k n p (length qs))
    × (fields passed_of qs ≡ passed_from lengths k n p (length qs)) × (number_of v ≡ 0) × (value_of v ≡ modulo (p + length qs) (size_of lengths k n))
walk lengths k n p r qs d v a h s w e =
    let (number, letters, marks, sane, place) = started lengths k n p r a h s in
    let (numbers, read, passed, stood) = walks lengths k n a p h (record { letters = letters; marks = marks; sane = sane; place = place }) w in
    let (told, value, _) = stands lengths d v stood.sane e in
    (number, numbers, read, passed, told, value ∙ stood.place)

pub both_ways : (lengths : Lengths) (k n p : ℕ) (r : Result DC.Cursor Refusal) (ways : List Bool) (qs : List (Result DT.Stepped Refusal)) (d : DC.Cursor) (v : Result ℕ Refusal) → admitted k n ≡ true → p < size_of lengths k n
    → StartOn lengths k n p r → Followed (Says lengths) (cursor_of r) ways qs d → WhereOn lengths d v
    → (number_of r ≡ 0) × (fields number_of qs ≡ replicate (length qs) 0) × (fields mark_of qs ≡ path_letters (size_of lengths k n) (ring (ok_of lengths n) k n) ways p)
    × (fields passed_of qs ≡ path_passed lengths k n ways p) × (number_of v ≡ 0) × (value_of v ≡ path_end (size_of lengths k n) ways p)
both_ways lengths k n p r ways qs d v a h s w e =
    let (number, letters, marks, sane, place) = started lengths k n p r a h s in
    let (numbers, read, passed, stood) = follows lengths k n a p h (record { letters = letters; marks = marks; sane = sane; place = place }) w in
    let (told, value, _) = stands lengths d v stood.sane e in
    (number, numbers, read, passed, told, value ∙ stood.place)

-- a cursor without fault on the short ring is one of the strip's that holds a word of length n
pub short_good : (c : DC.Cursor) → (short_fault c ≡ 0) ↔ ((cursor_fault c ≡ 0) × (c.long ≡ c.n))
short_good c = (into, out)
  where
    u : List ℕ
    u = take c.long c.word

    -- what is asked of the word besides its length
    rest : Bool
    rest = marks_ok c.k u && (is_lyndon u && ltb c.place (length u))

    long : tidy c ≡ true → length u ≡ c.long
    long t = let (sixty, fits, _) = tidy_out c t in length-take-le c.long c.word (omega arith)

    into : short_fault c ≡ 0 → (cursor_fault c ≡ 0) × (c.long ≡ c.n)
    into z =
        let s = sound Whole c z in
        let is : length u ≡ c.n = eqb-true (length u) c.n (and_l (eqb (length u) c.n) rest s.good) in
        let divisor : divides (length u) c.n ≡ true = (whole_allowed c.n s.limits.some).divisor (length u) (eq-eqb (length u) c.n is) in
        (faultless Divisors c.k c.n c (limits_admit c.k c.n s.limits) refl refl s.tidied (and_in divisor (and_r (eqb (length u) c.n) rest s.good)), sym (long s.tidied) ∙ is)

    out : (cursor_fault c ≡ 0) × (c.long ≡ c.n) → short_fault c ≡ 0
    out (z, e) =
        let s = sound Divisors c z in
        faultless Whole c.k c.n c (limits_admit c.k c.n s.limits) refl refl s.tidied (and_in (eq-eqb (length u) c.n (long s.tidied ∙ e)) (and_r (divides (length u) c.n) rest s.good))

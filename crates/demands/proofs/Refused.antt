-- Each call's number is the first of `order` that applies: the record Refusals.
use mathlib.Core.Path.{◌≡◌, sym, ◌∙◌, ap}
use mathlib.Core.Bool.{Bool, true, false, ◌&&◌, ◌||◌, not, false≢true}
use mathlib.Core.List.{List, [], ◌∷◌, ◌++◌}
use mathlib.Core.Logic.{inl, inr, ◌↔◌, ◌≢◌}
use Prim.Native.Nat.{ℕ, suc, ◌-◌, ◌^◌, ◌<◌}
use native.Mathlib.Omega.{arith}
use native.Mathlib.Decide.{ℕ_discrete}
use lib.Dec.{eqb, ltb, leb}
use lib.ListN.{length}
use borrow.Author.Tests.{ne_eqb}
use Rattle.theory.specs.Words.{first_of, when, root, keep, marks_ok, how_many}
use Rattle.theory.specs.Rings.{cursor_on, good_in, step_in, back_in}
use Rattle.theory.specs.Strips.{admitted, window, place_of}
use Rattle.shape.specs.declared.Lengths.{Lengths}
use Rattle.shape.specs.Rings.{ok_of, size_of}
use Rattle.theory.specs.Plans.{shades, marks, sections, plan_fault, word_fault, torn, straight_from, laid_at, laying_of, lookup_fault}
use Rattle.theory.specs.Theorems.{Lies}
use Rattle.theory.specs.Erasures.{unread, read, agrees, fitting, smudged_fault}
use Rattle.theory.specs.Prices.{short_rolls}
use Rattle.theory.proofs.Base.{test}
use Rattle.theory.proofs.Lists.{in_some, no_members}
use Rattle.theory.proofs.Rings.{one_place, admitted_range}
use Rattle.theory.proofs.Faults.{first_assoc, first_either, word_fine}
use Rattle.theory.proofs.Laying as theory
use Rattle.theory.proofs.Erasures.{fitting_in, in_fitting}
use Rattle.theory.proofs.Prices.{short_sections}
use Rattle.calls.specs.Order.{rule, given}
use Rattle.calls.specs.Answers.{or_short}
use Rattle.calls.specs.Refusals.{the_word_fault, short_window_fault, index_fault, ring_fault, framed, picture_fault, bill_fault}
use Rattle.calls.proofs.Answers.{value_parts}
use Rattle.cursors.proofs.Told.{start_told, move_told}
use Rattle.calls.proofs.Order.{given-none, given_first}
use Rattle.pbm.specs.Pictures.{file_size}
use Rattle.lookups.specs.Says.{answer_size}
use Rattle.misreadings.specs.Says.{list_size}
use Rattle.cursors.specs.declared.Cursor as DC
use Rattle.cursors.specs.Cursors.{cursor_in, tidy, fault_on}
use Rattle.demands.specs.Refused.{mark_rules, word_rules, short_window_rules, place_rules, index_rules, cursor_rules, plan_rules, laying_rules, smudged_rules, picture_rules, bill_rules, tray_rules, Refusals}
use Rattle.demands.proofs.Trays.{answer_number, rotation_answers, turn_answers, rank_answers, word_answers, mark_answers, place_answers, short_place_answers, print_answers, picture_answers, picture_of_answers, look_up_answers, smudged_answers, misreadings_answers, misreadings_of_answers, bill_answers}
use Rattle.calls.proofs.Numbers.{strip_number, marks_number, word_number, place_number, cursor_number, plan_number, bill_number, word_tray_number, short_window_tray_number, place_tray_number, index_tray_number, laying_tray_number, smudged_tray_number, picture_tray_number, bill_tray_number}

-- the faults of each kind of argument, alone and with a tray of m bytes
word-given : (k n : ℕ) (w : List ℕ) → the_word_fault k n w ≡ given (word_rules k n w)
word-given k n w = word_number (not (admitted k n)) (not (eqb (length w) n)) (not (marks_ok k w))

word_tray : (k n : ℕ) (w t : List ℕ) (m : ℕ) → first_of (the_word_fault k n w) (when (ltb (length t) m) 6) ≡ given (word_rules k n w ++ tray_rules t m)
word_tray k n w t m = word_tray_number (not (admitted k n)) (not (eqb (length w) n)) (not (marks_ok k w)) (ltb (length t) m)

window_tray : (k n : ℕ) (w t : List ℕ) (m : ℕ) → first_of (short_window_fault k n w) (when (ltb (length t) m) 6) ≡ given (short_window_rules k n w ++ tray_rules t m)
window_tray k n w t m = short_window_tray_number (not (admitted k n)) (not (eqb (length w) n)) (not (marks_ok k w)) (ltb (root w) n) (ltb (length t) m)

place_given : (lengths : Lengths) (k n p : ℕ) → ring_fault lengths k n p ≡ given (place_rules lengths k n p)
place_given lengths k n p = place_number (not (admitted k n)) (leb (size_of lengths k n) p)

place_tray : (lengths : Lengths) (k n p : ℕ) (t : List ℕ) (m : ℕ) → first_of (ring_fault lengths k n p) (when (ltb (length t) m) 6) ≡ given (place_rules lengths k n p ++ tray_rules t m)
place_tray lengths k n p t m = place_tray_number (not (admitted k n)) (leb (size_of lengths k n) p) (ltb (length t) m)

index_tray : (k n i : ℕ) (t : List ℕ) (m : ℕ) → first_of (index_fault k n i) (when (ltb (length t) m) 6) ≡ given (index_rules k n i ++ tray_rules t m)
index_tray k n i t m = index_tray_number (not (admitted k n)) (eqb i 0 || ltb (how_many k n) i) (ltb (length t) m)

picture_tray : (k n p c h : ℕ) (small : Bool) → first_of (picture_fault k n p c h) (when small 6) ≡ given (picture_rules k n p c h ++ (rule 6 small ∷ []))
picture_tray k n p c h = picture_tray_number (not (admitted k n)) (not (eqb k 2)) (leb (k ^ n) p) (not (framed c h))

-- with two trays
two_trays : (f : ℕ) (s t : List ℕ) (m : ℕ) → first_of (or_short f s) (when (ltb (length t) m) 6) ≡ first_of f (when (ltb (length s) 8 || ltb (length t) m) 6)
two_trays f s t m = first_assoc f (when (ltb (length s) 8) 6) (when (ltb (length t) m) 6) ∙ ap (first_of f) (first_either (ltb (length s) 8) (ltb (length t) m) 5)

cursor-given : (lengths : Lengths) (c : DC.Cursor) → fault_on lengths c ≡ given (cursor_rules lengths c)
cursor-given lengths c = cursor_number (not (admitted c.k c.n)) (not (tidy c && good_in (ok_of lengths) (cursor_in c)))

plan_given : (s : List ℕ) → plan_fault s ≡ given (plan_rules s)
plan_given s = plan_number (torn s) (not (admitted (shades s) (marks s))) (not (straight_from (marks s) (shades s ^ marks s) 0 (sections s)))

marks-given : (k n : ℕ) (w : List ℕ) → word_fault k n w ≡ given (mark_rules k n w)
marks-given k n w = marks_number (not (eqb (length w) n)) (not (marks_ok k w))

laying_tray : (s w : List ℕ) (small : Bool) → first_of (lookup_fault s w) (when small 6) ≡ given (laying_rules s w ++ (rule 6 small ∷ []))
laying_tray s w =
    laying_tray_number (torn s) (not (admitted (shades s) (marks s))) (not (straight_from (marks s) (shades s ^ marks s) 0 (sections s)))
    (not (eqb (length w) (marks s))) (not (marks_ok (shades s) w)) (eqb (laying_of s w) 0)

smudged_tray : (s w t : List ℕ) (m : ℕ) → first_of (smudged_fault s w) (when (ltb (length t) m) 6) ≡ given (smudged_rules s w ++ tray_rules t m)
smudged_tray s w t m =
    smudged_tray_number (torn s) (not (admitted (shades s) (marks s))) (not (straight_from (marks s) (shades s ^ marks s) 0 (sections s)))
    (not (eqb (length w) (marks s))) (ltb 2 (length (keep unread w))) (not (marks_ok (shades s) (keep read w))) (eqb (length (fitting s w)) 0) (ltb (length t) m)

bill_given : (s : List ℕ) (p c : ℕ) → bill_fault s p c ≡ given (bill_rules s p c)
bill_given s p c =
    bill_number (torn s) (not (admitted (shades s) (marks s))) (not (straight_from (marks s) (shades s ^ marks s) 0 (sections s)))
    (not (short_rolls (sections s))) (ltb 10000000 p || ltb 4294967295 c)

bill_tray : (s : List ℕ) (p c : ℕ) (t : List ℕ) → first_of (bill_fault s p c) (when (ltb (length t) 8) 6) ≡ given (bill_rules s p c ++ tray_rules t 8)
bill_tray s p c t =
    bill_tray_number (torn s) (not (admitted (shades s) (marks s))) (not (straight_from (marks s) (shades s ^ marks s) 0 (sections s)))
    (not (short_rolls (sections s))) (ltb 10000000 p || ltb 4294967295 c) (ltb (length t) 8)

-- a smudged window with which no laid one agrees
none-agrees : (s w : List ℕ) → (length (fitting s w) ≡ 0) ↔ ((p : ℕ) → p < shades s ^ marks s → laid_at s p ≡ true → agrees w (window (shades s) (marks s) p) ≡ false)
none-agrees s w = (into, out)
  where
    into : length (fitting s w) ≡ 0 → (p : ℕ) → p < shades s ^ marks s → laid_at s p ≡ true → agrees w (window (shades s) (marks s) p) ≡ false
    into z p h laid = elim (test (agrees w (window (shades s) (marks s) p))) [ inl t ↦ absurd (in_some (in_fitting s w h laid t) z) | inr t ↦ t ]

    out : ((p : ℕ) → p < shades s ^ marks s → laid_at s p ≡ true → agrees w (window (shades s) (marks s) p) ≡ false) → length (fitting s w) ≡ 0
    out none = ap length (no_members (fitting s w) (λ p i. let (h, laid, agree) = fitting_in s w i in false≢true (sym (none p h laid) ∙ agree)))

-- a window that is read nowhere where it lies in a section
not_laid : (s w : List ℕ) → given (plan_rules s) ≡ 0 → given (mark_rules (shades s) (marks s) w) ≡ 0
    → (laying_of s w ≡ 0) ↔ ((i p : ℕ) → Lies (marks s) (sections s) i p → window (shades s) (marks s) p ≢ w)
not_laid s w plan word = (into, out)
  where
    good : plan_fault s ≡ 0
    good = plan_given s ∙ plan

    fine : word_fault (shades s) (marks s) w ≡ 0
    fine = marks-given (shades s) (marks s) w ∙ word

    into : laying_of s w ≡ 0 → (i p : ℕ) → Lies (marks s) (sections s) i p → window (shades s) (marks s) p ≢ w
    into z i p lies e =
        let laying : laying_of s w ≡ suc i = ap (laying_of s) (sym e) ∙ theory.lies_looked s good lies in
        omega (arith, z, laying)

    out : ((i p : ℕ) → Lies (marks s) (sections s) i p → window (shades s) (marks s) p ≢ w) → laying_of s w ≡ 0
    out none = elim (ℕ_discrete (laying_of s w) 0) [ yes z ↦ z | no z ↦ absurd (somewhere z) ]
      where
        somewhere : ¬ (laying_of s w ≡ 0) → ⊥
        somewhere z =
            let looked : lookup_fault s w ≡ 0 = rw (good, fine, ne_eqb (laying_of s w) 0 z) in
            let (_, _, lies) = theory.laid_only s w looked in
            let (two, one) = admitted_range (shades s) (marks s) (theory.plan_good s good).1 in
            let (long, letters) = word_fine (shades s) (marks s) w fine in
            none (laying_of s w - 1) (place_of (shades s) (marks s) w) lies (one_place.found (shades s) (marks s) w two one long letters).1

pub refusals : Refusals
refusals = record {
  none = given-none;
  first = given_first;
  is_lyndon_lem = λ k n w r e. (value_parts _ _ r e).0 ∙ word-given k n w;
  smallest_rotation = λ k n w t t' r e. answer_number (rotation_answers k n w t t' r e) ∙ word_tray k n w t n;
  turn_of = λ k n w t t' r e. answer_number (turn_answers k n w t t' r e) ∙ word_tray k n w t 8;
  shortest_root = λ k n w r e. (value_parts _ _ r e).0 ∙ word-given k n w;
  lyndon_count = λ k n r e. (value_parts _ _ r e).0 ∙ strip_number (not (admitted k n));
  rank_of = λ k n w t t' r e. answer_number (rank_answers k n w t t' r e) ∙ word_tray k n w t 8;
  word_of_lem = λ k n i t t' r e. answer_number (word_answers k n i t t' r e) ∙ index_tray k n i t n;
  mark_at_lem = λ lengths k n p t t' r e. answer_number (mark_answers lengths k n p t t' r e) ∙ place_tray lengths k n p t 8;
  place_of_lem = λ k n w t t' r e. answer_number (place_answers k n w t t' r e) ∙ word_tray k n w t 8;
  short_place_of_lem = λ k n w t t' r e. answer_number (short_place_answers k n w t t' r e) ∙ window_tray k n w t 8;
  print_marks = λ lengths k n p c t t' r e. answer_number (print_answers lengths k n p c t t' r e) ∙ place_tray lengths k n p t c;
  print_picture = λ k n p c h t t' r e. answer_number (picture_answers k n p c h t t' r e) ∙ picture_tray k n p c h (ltb (length t) (file_size c h));
  picture_of = λ k n p c h s s' t t' r e. answer_number (picture_of_answers k n p c h s s' t t' r e) ∙ two_trays (picture_fault k n p c h) s t (file_size c h) ∙ picture_tray k n p c h (ltb (length s) 8 || ltb (length t) (file_size c h));
  check_plan = λ s r e. e ∙ plan_given s;
  look_up = λ s w t t' r e. answer_number (look_up_answers s w t t' r e) ∙ laying_tray s w (ltb (length t) answer_size);
  look_up_smudged = λ s w t t' r e. answer_number (smudged_answers s w t t' r e) ∙ smudged_tray s w t answer_size;
  misreadings = λ s w t t' r e. answer_number (misreadings_answers s w t t' r e) ∙ laying_tray s w (ltb (length t) (list_size s w));
  misreadings_of = λ s w c c' t t' r e. answer_number (misreadings_of_answers s w c c' t t' r e) ∙ two_trays (lookup_fault s w) c t (list_size s w) ∙ laying_tray s w (ltb (length c) 8 || ltb (length t) (list_size s w));
  bill = λ s p c r e. (value_parts _ _ r e).0 ∙ bill_given s p c;
  bill_of = λ s p c t t' r e. answer_number (bill_answers s p c t t' r e) ∙ bill_tray s p c t;
  start_cursor = λ lengths k n p r e. (start_told _ (cursor_on (ok_of lengths n) k n p) r e).0 ∙ place_given lengths k n p;
  cursor_place = λ lengths c r e. (value_parts _ _ r e).0 ∙ cursor-given lengths c;
  step = λ lengths c r e. (move_told _ (step_in (ok_of lengths) (cursor_in c)) c r e).0 ∙ cursor-given lengths c;
  step_back = λ lengths c r e. (move_told _ (back_in (ok_of lengths) (cursor_in c)) c r e).0 ∙ cursor-given lengths c;
  not_laid = not_laid;
  none-agrees = none-agrees;
  no_long_roll = short_sections;
}

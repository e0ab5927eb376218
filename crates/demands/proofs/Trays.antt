-- What a call leaves in a tray: its answer over the start, or the tray as it was; numbers read back from it; the record Trays.
use mathlib.Core.Path.{◌≡◌, refl, sym, ◌∙◌, ap, ap₂, subst}
use mathlib.Core.Bool.{true, false}
use mathlib.Core.List.{List, []}
use mathlib.Core.Logic.{◌≢◌, inl, inr}
use Prim.Native.Nat.{ℕ, zero, suc, ◌^◌, ◌≤◌, ◌<◌}
use native.Mathlib.Omega.{arith}
use native.Mathlib.Decide.{ℕ_discrete}
use lib.Dec.{eqb, ltb}
use lib.ListN.{length, drop}
use lib.Seq.{drop-append_seam}
use borrow.Author.Tests.{le-ltb, ltb-false, ne_eqb}
use Rattle.theory.specs.Words.{pick, first_of, when, smallest, least_turn, word_of, rank}
use Rattle.theory.specs.Rings.{ring}
use Rattle.theory.specs.Strips.{admitted, strip_fault, place_of}
use Rattle.theory.specs.Shorts.{short_place_of}
use Rattle.shape.specs.declared.Lengths.{Lengths}
use Rattle.shape.specs.Rings.{ok_of, size_of, letter_of, letters_of}
use Rattle.theory.specs.Plans.{be, shades, marks, sections, lookup_fault}
use Rattle.theory.specs.Erasures.{lowest, smudged_fault}
use Rattle.theory.specs.Substitutions.{misread}
use Rattle.theory.specs.Prices.{cost_of}
use Rattle.theory.proofs.Base.{test}
use Rattle.theory.proofs.Necklaces.{smallest-length}
use Rattle.theory.proofs.Reading.{letters-length}
use Rattle.theory.proofs.Faults.{first_none, when-none, word_fine}
use Rattle.shape.proofs.Limits.{admitted_limits}
use Rattle.buffers.specs.Buffers.{over}
use Rattle.numbers.specs.Numbers.{put_be}
use Rattle.buffers.proofs.Bytes.{over-length}
use Rattle.numbers.proofs.Numbers.{put-read}
use Rattle.calls.specs.Answers.{Into, IntoValue, or_short, IntoBoth, Number, ValueIs}
use Rattle.calls.specs.Refusals.{the_word_fault, short_window_fault, index_fault, ring_fault, picture_fault, bill_fault}
use Rattle.calls.proofs.Answers.{number_answer, value_parts}
use Rattle.theory.proofs.Ranks.{undone}
use Rattle.demands.proofs.Faults.{index_range}
use Rattle.words.specs.Says.{RotationSays, TurnSays}
use Rattle.ranking.specs.Says.{RankSays, WordSays}
use Rattle.marks.specs.Says.{MarkOn, PlaceSays, ShortPlaceSays, PrintOn}
use Rattle.pbm.specs.Pictures.{picture, file_size}
use Rattle.pictures.specs.Says.{PictureSays, BothSay}
use Rattle.pictures.proofs.Framing.{file-long}
use Rattle.lookups.specs.Says.{answer_at, answer_size, LookupSays, SmudgedSays}
use Rattle.substitutions.proofs.Writing.{entries_long}
use Rattle.misreadings.specs.Says.{entries_of, list_size, MisreadingsSays, MisreadingListSays}
use Rattle.bills.specs.Says.{BillOfSays}
use Rattle.demands.specs.Trays.{Keeps, Trays}
use Rattle.calls.specs.declared.refusal.Refusal.{Refusal}
use Rattle.calls.specs.Codes.{number_of, value_of}
use Rattle.std.specs.Prelude.{Result}

-- no fault, so the answer over the start of the tray
pub into_fine : (f : ℕ) (b t : List ℕ) {t' : List ℕ} {r : ℕ} → f ≡ 0 → length b ≤ length t → Into f (pick (eqb f 0) b []) t t' r → (r ≡ 0) × (t' ≡ over b t)
into_fine f b t {t'} {r} h l e = rw (le-ltb (length t) (length b) l) at (subst (λ x. Into x (pick (eqb x 0) b []) t t' r) h e)

pub number_fine : (f v : ℕ) (t : List ℕ) {t' : List ℕ} {r : ℕ} → f ≡ 0 → 8 ≤ length t → Number f v t t' r → (r ≡ 0) × (t' ≡ over (put_be 8 v) t)
number_fine f v t h l e = into_fine f (put_be 8 v) t h l e

pub number_back : (v : ℕ) → v < 2 ^ 64 → be 0 8 (put_be 8 v) ≡ v
number_back v h = put-read 8 v h

pub tray_back : (v : ℕ) (t : List ℕ) {t' : List ℕ} → v < 2 ^ 64 → t' ≡ over (put_be 8 v) t → be 0 8 t' ≡ v
tray_back v t h e = ap (be 0 8) e ∙ number_back v h

-- a number and a value, without fault and with one
pub value_fine : {f v : ℕ} (r : Result ℕ Refusal) → f ≡ 0 → ValueIs f v r → (number_of r ≡ 0) × (value_of r ≡ v)
value_fine {f} {v} r h e = let t = value_parts f v r e in (t.0 ∙ h, t.1 ∙ ap (λ x. pick (eqb x 0) v 0) h)

pub no_value : (f v : ℕ) (r : Result ℕ Refusal) → ValueIs f v r → number_of r ≢ 0 → value_of r ≡ 0
no_value f v r e h = let t = value_parts f v r e in t.1 ∙ ap (λ x. pick x v 0) (ne_eqb f 0 (λ z. h (t.0 ∙ z)))

-- bytes in a tray and a value beside them
pub beside_fine : (f v : ℕ) (b t : List ℕ) {t' : List ℕ} (r : Result ℕ Refusal) → f ≡ 0 → length b ≤ length t → IntoValue f v (pick (eqb f 0) b []) t t' r
    → (number_of r ≡ 0) × (value_of r ≡ v) × (t' ≡ over b t)
beside_fine f v b t r h l e =
    let (number, is) = into_fine f b t h l e.0 in
    let value = (rw number at e).1 in
    (number, value, is)

pub no_value_beside : (f v : ℕ) (b t t' : List ℕ) (r : Result ℕ Refusal) → IntoValue f v b t t' r → number_of r ≢ 0 → value_of r ≡ 0
no_value_beside f v b t t' r e h = rw (ne_eqb (number_of r) 0 h) at e.1

-- places, ranks and counts stay below 2^64
pub small : (k n : ℕ) {v : ℕ} → admitted k n ≡ true → v ≤ k ^ n → v < 2 ^ 64
small k n a h = omega (arith, (admitted_limits k n a).range)

-- no number, so no fault, and the answer over the start of the tray
pub answered : (f : ℕ) (b t : List ℕ) {t' : List ℕ} {r : ℕ} → Into f (pick (eqb f 0) b []) t t' r → r ≡ 0 → (f ≡ 0) × (t' ≡ over b t)
answered zero b t {t'} e z = elim (test (ltb (length t) (length b))) [ inl h ↦ absurd (small_tray h) | inr h ↦ (refl, fits h) ]
  where
    small_tray : ltb (length t) (length b) ≡ true → ⊥
    small_tray h = let x = (rw h at e).0 in omega (arith, x, z)

    fits : ltb (length t) (length b) ≡ false → t' ≡ over b t
    fits h = (rw h at e).1
answered (suc f) b t e z = absurd (omega (arith, e.0, z))

-- an answer of m bytes, unless there is the fault f
pub data Answers (m f : ℕ) (t t' : List ℕ) (r : ℕ) : Type 0 where
  answers : (b : List ℕ) → (f ≡ 0 → length b ≡ m) → Into f (pick (eqb f 0) b []) t t' r → Answers m f t t' r

-- what it leaves in the tray
keeps : {m f r : ℕ} {t t' : List ℕ} → Answers m f t t' r → Keeps m t t' r
keeps {m = m} {f = zero} {r = r} {t = t} {t' = t'} (answers b long e) = elim (test (ltb (length t) (length b))) [ inl h ↦ as_before (rw h at e).1 | inr h ↦ answer h ]
  where
    as_before : t' ≡ t → Keeps m t t' r
    as_before x = (λ _. x, ap length x, rw x)

    answer : ltb (length t) (length b) ≡ false → Keeps m t t' r
    answer h =
        let none : r ≡ 0 = (rw h at e).0 in
        let x : t' ≡ over b t = (rw h at e).1 in
        let size : length b ≡ m = long refl in
        (λ some. absurd (some none), ap length x ∙ over-length b t (ltb-false (length t) (length b) h), ap₂ drop (sym size) x ∙ drop-append_seam b (drop (length b) t) ∙ ap (λ i. drop i t) size)
keeps {m = m} {f = suc f} {r = r} {t = t} {t' = t'} (answers b long e) =
    let x : t' ≡ t = (rw (ne_eqb (suc f) 0 (λ z. omega arith)) at e).1 in
    (λ _. x, ap length x, rw x)

-- its number
pub answer_number : {m f r : ℕ} {t t' : List ℕ} → Answers m f t t' r → r ≡ first_of f (when (ltb (length t) m) 6)
answer_number {f = zero} {t = t} (answers b long e) = e.0 ∙ ap (λ i. when (ltb (length t) i) 6) (long refl)
answer_number {f = suc f} (answers b long e) = e.0

-- marks printed are an answer of c bytes
pub print_into : (f c : ℕ) (x t t' : List ℕ) (r : ℕ) → length x ≡ c
    → (r ≡ first_of f (when (ltb (length t) c) 6)) × (t' ≡ pick (eqb (first_of f (when (ltb (length t) c) 6)) 0) (over x t) t)
    → Into f (pick (eqb f 0) x []) t t' r
print_into zero c x t t' r long e =
    subst (λ m. (r ≡ when (ltb (length t) m) 6) × (t' ≡ pick (eqb (when (ltb (length t) m) 6) 0) (over x t) t)) (sym long) e
print_into (suc f) c x t t' r long e =
    let other : eqb (suc f) 0 ≡ false = ne_eqb (suc f) 0 (λ z. omega arith) in
    let same : t' ≡ t = (rw other at e).1 in
    (e.0, rw other same)

-- the lengths of a word, of its rotation and of a word with an index, where there is no fault
word-long : (k n : ℕ) (w : List ℕ) → the_word_fault k n w ≡ 0 → length w ≡ n
word-long k n w z = (word_fine k n w (first_none (strip_fault k n) _ z).1).0

rotation_long : (k n : ℕ) (w : List ℕ) → the_word_fault k n w ≡ 0 → length (smallest w) ≡ n
rotation_long k n w z = smallest-length w ∙ word-long k n w z

index_word_long : (k n i : ℕ) → index_fault k n i ≡ 0 → length (word_of k n i) ≡ n
index_word_long k n i z = let (some, few) = index_range k n i z in (undone.index_word k n i some few).0

-- each call with a tray
pub rotation_answers : (k n : ℕ) (w t t' : List ℕ) (r : Result ℕ Refusal) → RotationSays k n w t t' r → Answers n (the_word_fault k n w) t t' (number_of r)
rotation_answers k n w t t' r e = answers (smallest w) (rotation_long k n w) e.0

pub turn_answers : (k n : ℕ) (w t t' : List ℕ) (r : ℕ) → TurnSays k n w t t' r → Answers 8 (the_word_fault k n w) t t' r
turn_answers k n w t t' r e = answers (put_be 8 (least_turn w)) (λ _. refl) e

pub rank_answers : (k n : ℕ) (w t t' : List ℕ) (r : ℕ) → RankSays k n w t t' r → Answers 8 (the_word_fault k n w) t t' r
rank_answers k n w t t' r e = answers (put_be 8 (rank k w)) (λ _. refl) e

pub word_answers : (k n i : ℕ) (t t' : List ℕ) (r : ℕ) → WordSays k n i t t' r → Answers n (index_fault k n i) t t' r
word_answers k n i t t' r e = answers (word_of k n i) (index_word_long k n i) e

pub mark_answers : (lengths : Lengths) (k n p : ℕ) (t t' : List ℕ) (r : ℕ) → MarkOn lengths k n p t t' r → Answers 8 (ring_fault lengths k n p) t t' r
mark_answers lengths k n p t t' r e = answers (put_be 8 (letter_of lengths k n p)) (λ _. refl) e

pub place_answers : (k n : ℕ) (w t t' : List ℕ) (r : ℕ) → PlaceSays k n w t t' r → Answers 8 (the_word_fault k n w) t t' r
place_answers k n w t t' r e = answers (put_be 8 (place_of k n w)) (λ _. refl) e

pub short_place_answers : (k n : ℕ) (w t t' : List ℕ) (r : ℕ) → ShortPlaceSays k n w t t' r → Answers 8 (short_window_fault k n w) t t' r
short_place_answers k n w t t' r e = answers (put_be 8 (short_place_of k n w)) (λ _. refl) e

pub print_answers : (lengths : Lengths) (k n p c : ℕ) (t t' : List ℕ) (r : ℕ) → PrintOn lengths k n p c t t' r → Answers c (ring_fault lengths k n p) t t' r
print_answers lengths k n p c t t' r e =
    let long = letters-length (size_of lengths k n) (ring (ok_of lengths n) k n) p c in
    answers (letters_of lengths k n p c) (λ _. long) (print_into (ring_fault lengths k n p) c (letters_of lengths k n p c) t t' r long e)

-- a picture's file
pub picture_answers : (k n p c h : ℕ) (t t' : List ℕ) (r : Result ℕ Refusal) → PictureSays k n p c h t t' r → Answers (file_size c h) (picture_fault k n p c h) t t' (number_of r)
picture_answers k n p c h t t' r e = answers (picture k n p c h) (file-long k n p c h) e.0

-- an answer with its value in another tray, of which a value that does not fit counts as a fault: what stays in that tray
value_keeps : (f v : ℕ) (b s s' t t' : List ℕ) (r : ℕ) → IntoBoth f v b s s' t t' r → Keeps 8 s s' r
value_keeps f v b s s' t t' r e = elim (ℕ_discrete r 0) [
  | yes z ↦
      let (fine, _) = answered (or_short f s) b t e.0 z in
      let room : 8 ≤ length s = ltb-false (length s) 8 (when-none _ 6 (λ y. omega arith) (first_none f _ fine).1) in
      let is : s' ≡ over (put_be 8 v) s = (rw z at e).1 in
      keeps {f = 0} (answers (put_be 8 v) (λ _. refl) (number_answer v s refl room z is))
  | no z ↦ let same : s' ≡ s = (rw (ne_eqb r 0 z) at e).1 in (λ _. same, ap length same, ap (drop 8) same)
]

pub picture_of_answers : (k n p c h : ℕ) (s s' t t' : List ℕ) (r : ℕ) → BothSay k n p c h s s' t t' r → Answers (file_size c h) (or_short (picture_fault k n p c h) s) t t' r
picture_of_answers k n p c h s s' t t' r e = answers (picture k n p c h) (λ z. file-long k n p c h (first_none (picture_fault k n p c h) _ z).0) e.0

pub look_up_answers : (s w t t' : List ℕ) (r : ℕ) → LookupSays s w t t' r → Answers answer_size (lookup_fault s w) t t' r
look_up_answers s w t t' r e = answers (answer_at s (place_of (shades s) (marks s) w)) (λ _. refl) e

pub smudged_answers : (s w t t' : List ℕ) (r : ℕ) → SmudgedSays s w t t' r → Answers answer_size (smudged_fault s w) t t' r
smudged_answers s w t t' r e = answers (answer_at s (lowest s w)) (λ _. refl) e

-- a list of misreadings
pub misreadings_answers : (s w t t' : List ℕ) (r : Result ℕ Refusal) → MisreadingsSays s w t t' r → Answers (list_size s w) (lookup_fault s w) t t' (number_of r)
misreadings_answers s w t t' r e = answers (entries_of s w) (λ _. entries_long s w (misread s w)) e.0

pub misreadings_of_answers : (s w c c' t t' : List ℕ) (r : ℕ) → MisreadingListSays s w c c' t t' r → Answers (list_size s w) (or_short (lookup_fault s w) c) t t' r
misreadings_of_answers s w c c' t t' r e = answers (entries_of s w) (λ _. entries_long s w (misread s w)) e.0

pub bill_answers : (s : List ℕ) (p c : ℕ) (t t' : List ℕ) (r : ℕ) → BillOfSays s p c t t' r → Answers 8 (bill_fault s p c) t t' r
bill_answers s p c t t' r e = answers (put_be 8 (cost_of p c (sections s))) (λ _. refl) e

pub trays : Trays
trays = record {
  smallest_rotation = λ k n w t t' r e. keeps (rotation_answers k n w t t' r e);
  turn_of = λ k n w t t' r e. keeps (turn_answers k n w t t' r e);
  rank_of = λ k n w t t' r e. keeps (rank_answers k n w t t' r e);
  word_of_lem = λ k n i t t' r e. keeps (word_answers k n i t t' r e);
  mark_at_lem = λ lengths k n p t t' r e. keeps (mark_answers lengths k n p t t' r e);
  place_of_lem = λ k n w t t' r e. keeps (place_answers k n w t t' r e);
  short_place_of_lem = λ k n w t t' r e. keeps (short_place_answers k n w t t' r e);
  print_marks = λ lengths k n p c t t' r e. keeps (print_answers lengths k n p c t t' r e);
  print_picture = λ k n p c h t t' r e. keeps (picture_answers k n p c h t t' r e);
  picture_of = λ k n p c h s s' t t' r e. (value_keeps (picture_fault k n p c h) (length (picture k n p c h)) (picture k n p c h) s s' t t' r e, keeps (picture_of_answers k n p c h s s' t t' r e));
  look_up = λ s w t t' r e. keeps (look_up_answers s w t t' r e);
  look_up_smudged = λ s w t t' r e. keeps (smudged_answers s w t t' r e);
  misreadings = λ s w t t' r e. keeps (misreadings_answers s w t t' r e);
  misreadings_of = λ s w c c' t t' r e. (value_keeps (lookup_fault s w) (length (misread s w)) (entries_of s w) c c' t t' r e, keeps (misreadings_of_answers s w c c' t t' r e));
  bill_of = λ s p c t t' r e. keeps (bill_answers s p c t t' r e);
}

-- The lookups down to the bytes: a window inside a section or across a welded joint is answered so, and what is answered is so; the same of a smudged window.
use mathlib.Core.Path.{◌≡◌, refl, sym, ◌∙◌, ap, ap₂, subst, subst₂}
use mathlib.Core.Bool.{true, not}
use mathlib.Core.List.{List, []}
use Prim.Native.Nat.{ℕ, zero, suc, ◌+◌, ◌-◌, ◌*◌, ◌^◌, ◌≤◌, ◌<◌}
use native.Mathlib.Omega.{arith}
use lib.Dec.{eqb}
use lib.ListN.{length, take, drop}
use borrow.Author.Tests.{ne_eqb}
use Rattle.theory.specs.Words.{pick, keep, marks_ok}
use Rattle.theory.specs.Strips.{window, place_of}
use Rattle.theory.specs.Plans.{be, shades, marks, section_count, sections, welded, nth_s, plan_fault, rail_of, laying_at, laid_at, distance_at, lookup_fault, laying_of, distance_of}
use Rattle.theory.specs.Theorems.{Lies}
use Rattle.theory.specs.Erasures.{unread, agrees, lowest, smudged_fault}
use Rattle.theory.proofs.Rings.{one_place}
use Rattle.theory.proofs.Faults.{first_none, when-none, word_fine}
use Rattle.theory.proofs.Records.{old, new, size_of_lem, own_rail, written_rail}
use Rattle.theory.proofs.Laying as theory
use Rattle.theory.proofs.Erasures.{fitting_in, in_fitting, lowest_least, lowest_fits, fits_fine, fault_full, fitting_full}
use Rattle.buffers.specs.Buffers.{over}
use Rattle.numbers.proofs.Numbers.{put-read, be_small}
use Rattle.shape.proofs.Limits.{admitted_limits}
use Rattle.calls.specs.Answers.{Into}
use Rattle.lookups.specs.Says.{answer_at, answer_size, LookupSays, SmudgedSays}
use Rattle.demands.specs.Demands.{RailTold, SectionTold}
use Rattle.demands.proofs.Trays.{into_fine, answered}

-- a rail fits in its two bytes: one that was read, or a section's number
rail_small : (s : List ℕ) (i : ℕ) → plan_fault s ≡ 0 → i < section_count s → marks_ok 256 s ≡ true → rail_of s i < 256 ^ 2
rail_small s i good inside bytes =
    elim (size_of_lem s) [
      | old _ size ↦ omega (arith, own_rail s i size, (theory.accepted_whole s good).few)
      | new _ size ↦ omega (arith, written_rail s i size inside, be_small (4 + 18 * i + 16) 2 s bytes)
    ]

-- the answer for a laid window, read back: few sections, and no place above 2^60
module _ (s : List ℕ) (p : ℕ) (good : plan_fault s ≡ 0) (laid : laid_at s p ≡ true) (t : List ℕ) {t' : List ℕ} (tray : t' ≡ over (answer_at s p) t) where
  section_back : be 0 2 t' ≡ laying_at s p - 1
  section_back = ap (be 0 2) tray ∙ put-read 2 (laying_at s p - 1) (omega (arith, (theory.laid_at_lem s p good laid).0, (theory.accepted_whole s good).few))

  distance_back : be 2 8 t' ≡ distance_at s p
  distance_back =
      let (_, is, ends) = theory.laid_at_lem s p good laid in
      ap (be 2 8) tray ∙ put-read 8 (distance_at s p) (omega (arith, is, ends, (admitted_limits (shades s) (marks s) (theory.plan_good s good).1).range))

  rail_back : RailTold s (be 0 2 t') t'
  rail_back bytes =
      let i = laying_at s p - 1 in
      ap (be 10 2) tray ∙ put-read 2 (rail_of s i) (rail_small s i good (theory.laid_at_lem s p good laid).0 bytes) ∙ ap (rail_of s) (sym section_back)

  place_back : (nth_s (sections s) (be 0 2 t')).offset + be 2 8 t' ≡ p
  place_back = ap₂ (λ i d. (nth_s (sections s) i).offset + d) section_back distance_back ∙ (theory.laid_at_lem s p good laid).1

-- section and distance are told, as the theory has them
told : (s : List ℕ) (i d : ℕ) → plan_fault s ≡ 0
    → let w = window (shades s) (marks s) ((nth_s (sections s) i).offset + d) in
    (lookup_fault s w ≡ 0) × (laying_of s w ≡ suc i) × (distance_of s w ≡ d) → SectionTold s i d
told s i d good (fine, laying, distance) t t' r room e =
    let w = window (shades s) (marks s) ((nth_s (sections s) i).offset + d) in
    let p = place_of (shades s) (marks s) w in
    let (number, tray) = into_fine (lookup_fault s w) (answer_at s p) t fine room e in
    let there = theory.some_laid s p (λ z. omega (arith, laying)) in
    let section : be 0 2 t' ≡ i = section_back s p good there t tray ∙ omega (arith, laying) in
    (number, section, distance_back s p good there t tray ∙ distance, subst (λ j. RailTold s j t') section (rail_back s p good there t tray), ap (drop answer_size) tray)

pub laid : (s : List ℕ) (i d : ℕ) → plan_fault s ≡ 0 → i < section_count s → d + marks s ≤ (nth_s (sections s) i).long → SectionTold s i d
laid s i d good h fits = told s i d good (theory.laid s i d good h fits)

pub laid_across : (s : List ℕ) (i d : ℕ) → plan_fault s ≡ 0 → suc i < section_count s → welded (nth_s (sections s) i) (nth_s (sections s) (suc i)) ≡ true
    → d < (nth_s (sections s) i).long → SectionTold s i d
laid_across s i d good h weld begins = told s i d good (theory.laid_across s i d good h weld begins)

pub laid_only : (s w t t' : List ℕ) (r : ℕ) → LookupSays s w t t' r → r ≡ 0
    → let i = be 0 2 t' in
    let p = (nth_s (sections s) i).offset + be 2 8 t' in
    (i < section_count s) × Lies (marks s) (sections s) i p × (window (shades s) (marks s) p ≡ w) × RailTold s i t'
    × (drop answer_size t' ≡ drop answer_size t)
laid_only s w t t' r e z =
    let p = place_of (shades s) (marks s) w in
    let (fine, tray) = answered (lookup_fault s w) (answer_at s p) t e z in
    let (good, word, looked) = theory.lookup_good s w fine in
    let there : laid_at s p ≡ true = ap not (when-none (eqb (laying_of s w) 0) 9 (λ y. omega arith) looked) in
    let (inside, _, lies) = theory.laid_only s w fine in
    let number = section_back s p good there t tray in
    let place = place_back s p good there t tray in
    let lim = admitted_limits (shades s) (marks s) (theory.plan_good s good).1 in
    let (long, letters) = word_fine (shades s) (marks s) w word in
    let reads = (one_place.found (shades s) (marks s) w lim.two lim.some long letters).1 in (
      omega (arith, number, inside),
      subst₂ (Lies (marks s) (sections s)) (sym number) (sym place) lies,
      ap (window (shades s) (marks s)) place ∙ reads,
      rail_back s p good there t tray,
      ap (drop answer_size) tray,
    )

-- a smudged window: if a laid one agrees, one is answered
pub smudged : (s w : List ℕ) (p : ℕ) (t t' : List ℕ) (r : ℕ) → plan_fault s ≡ 0 → p < shades s ^ marks s → laid_at s p ≡ true
    → agrees w (window (shades s) (marks s) p) ≡ true → length (keep unread w) ≤ 2 → answer_size ≤ length t → SmudgedSays s w t t' r → r ≡ 0
smudged s w p t t' r good h laid agree few room e =
    (into_fine (smudged_fault s w) (answer_at s (lowest s w)) t (fits_fine s w good (in_fitting s w h laid agree) few) room e).0

-- what is answered is told of the lowest place
module _ (s w t t' : List ℕ) (r : ℕ) (e : SmudgedSays s w t t' r) (z : r ≡ 0) where
  fine : smudged_fault s w ≡ 0
  fine = (answered (smudged_fault s w) (answer_at s (lowest s w)) t e z).0

  tray : t' ≡ over (answer_at s (lowest s w)) t
  tray = (answered (smudged_fault s w) (answer_at s (lowest s w)) t e z).1

  good : plan_fault s ≡ 0
  good = (first_none (plan_fault s) _ fine).0

  there : laid_at s (lowest s w) ≡ true
  there = (fitting_in s w (lowest_fits s w fine)).1

  place : (nth_s (sections s) (be 0 2 t')).offset + be 2 8 t' ≡ lowest s w
  place = place_back s (lowest s w) good there t tray

  -- the window there agrees
  pub smudged_only : let i = be 0 2 t' in
      let p = (nth_s (sections s) i).offset + be 2 8 t' in
      (i < section_count s) × (laying_at s p ≡ suc i) × (agrees w (window (shades s) (marks s) p) ≡ true) × RailTold s i t'
      × (drop answer_size t' ≡ drop answer_size t)
  smudged_only =
      let p = lowest s w in
      let number = section_back s p good there t tray in
      let few = (theory.laid_at_lem s p good there).0 in
      let some = theory.laid_some s p there in (
        omega (arith, number, few),
        ap (laying_at s) place ∙ omega (arith, number, some),
        ap (λ q. agrees w (window (shades s) (marks s) q)) place ∙ (fitting_in s w (lowest_fits s w fine)).2,
        rail_back s p good there t tray,
        ap (drop answer_size) tray,
      )

  -- and none that does stands lower
  pub smudged_lowest : (q : ℕ) → q < shades s ^ marks s → laid_at s q ≡ true → agrees w (window (shades s) (marks s) q) ≡ true
      → (nth_s (sections s) (be 0 2 t')).offset + be 2 8 t' ≤ q
  smudged_lowest q h laid agree = omega (arith, place, lowest_least s w (in_fitting s w h laid agree))

  pub smudged_bytes : take answer_size t' ≡ answer_at s (lowest s w)
  smudged_bytes = ap (take answer_size) tray

-- an answer counts only where there is no fault
same_answer : (f : ℕ) {b c : List ℕ} → (f ≡ 0 → b ≡ c) → pick (eqb f 0) b [] ≡ pick (eqb f 0) c []
same_answer zero h = h refl
same_answer (suc f) h = rw (ne_eqb (suc f) 0 (λ z. omega arith))

-- read in full, a window is answered as by the plain lookup
pub smudged_plain : (s w t t' : List ℕ) (r : ℕ) → keep unread w ≡ [] → SmudgedSays s w t t' r → LookupSays s w t t' r
smudged_plain s w t t' r full e =
    let f = smudged_fault s w in
    let own : f ≡ 0 → lowest s w ≡ place_of (shades s) (marks s) w = λ fine. fitting_full s w full (first_none (plan_fault s) _ fine).0 (lowest_fits s w fine) in
    let answer : Into f (pick (eqb f 0) (answer_at s (place_of (shades s) (marks s) w)) []) t t' r = subst (λ b. Into f b t t' r) (same_answer f (λ fine. ap (answer_at s) (own fine))) e in
    subst (λ g. Into g (pick (eqb g 0) (answer_at s (place_of (shades s) (marks s) w)) []) t t' r) (fault_full s w full) answer

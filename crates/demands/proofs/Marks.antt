-- Calls on marks and places, down to the bytes: each mark printed is the ring's, and each window has one place; on the short ring each that is no shorter
-- word repeated.
use mathlib.Core.Path.{◌≡◌, refl, sym, ◌∙◌, ap}
use mathlib.Core.Bool.{true}
use mathlib.Core.List.{List}
use mathlib.Core.Logic.{◌≢◌}
use Prim.Native.Nat.{ℕ, ◌+◌, ◌^◌, ◌≤◌, ◌<◌}
use native.Mathlib.Omega.{arith}
use lib.ListN.{length, get_or, take, drop, get_or-append}
use lib.Seq.{take_at}
use borrow.Author.Tests.{ltb-true, lt-ltb}
use Rattle.theory.specs.Words.{root, marks_ok}
use Rattle.theory.specs.Rings.{ring}
use Rattle.theory.specs.Strips.{admitted, strip, window, place_of}
use Rattle.theory.specs.Shorts.{short_size, short_ring, short_window, short_place_of}
use Rattle.shape.specs.declared.Lengths.{Lengths}
use Rattle.shape.specs.declared.Lengths.TheVariants.{Divisors, Whole}
use Rattle.shape.specs.Rings.{ok_of, size_of, letter_of, letters_of}
use Rattle.shape.proofs.Rings.{marks_of}
use Rattle.theory.specs.Plans.{be}
use Rattle.theory.proofs.Reading.{letters-length, letters_at}
use Rattle.theory.proofs.Rings.{one_place, strip-marks}
use Rattle.theory.proofs.Shorts.{short_ring_lem}
use Rattle.theory.proofs.Base.{and_l}
use Rattle.shape.proofs.Limits.{admitted_limits}
use Rattle.buffers.specs.Buffers.{over}
use Rattle.calls.specs.Refusals.{the_word_fault, short_window_fault, ring_fault}
use Rattle.marks.specs.Says.{MarkOn, PlaceSays, PrintOn, PrintSays, ShortPlaceSays, ShortPrintSays}
use Rattle.demands.proofs.Faults.{word_faultless, window_faultless, place_faultless}
use Rattle.demands.proofs.Trays.{into_fine, number_fine, tray_back, small, print_into}

pub marked : (lengths : Lengths) (k n p : ℕ) (t t' : List ℕ) (r : ℕ) → admitted k n ≡ true → p < size_of lengths k n → 8 ≤ length t → MarkOn lengths k n p t t' r
    → (r ≡ 0) × (be 0 8 t' ≡ letter_of lengths k n p) × (be 0 8 t' < k)
marked lengths k n p t t' r a h x f =
    let l = admitted_limits k n a in
    let few : letter_of lengths k n p < k = ltb-true (letter_of lengths k n p) k (and_l _ _ (marks_of lengths k n p 1 l.two l.some)) in
    let (number, over-it) = number_fine (ring_fault lengths k n p) (letter_of lengths k n p) t (place_faultless lengths k n p a h) x f in
    let told : be 0 8 t' ≡ letter_of lengths k n p = tray_back (letter_of lengths k n p) t (omega (arith, few, l.most)) over-it in
    (number, told, omega (arith, told, few))

pub placed : (k n : ℕ) (w t t' : List ℕ) (r : ℕ) → admitted k n ≡ true → length w ≡ n → marks_ok k w ≡ true → 8 ≤ length t → PlaceSays k n w t t' r
    → (r ≡ 0) × (be 0 8 t' < k ^ n) × (window k n (be 0 8 t') ≡ w) × ((p : ℕ) → p < k ^ n → window k n p ≡ w → p ≡ be 0 8 t')
placed k n w t t' r a e m x f =
    let l = admitted_limits k n a in
    let found = number_fine (the_word_fault k n w) (place_of k n w) t (word_faultless k n w a e m) x f in
    let (inside, reads) = one_place.found k n w l.two l.some e m in
    let told : be 0 8 t' ≡ place_of k n w = tray_back (place_of k n w) t (small k n a (omega (arith, inside))) found.1 in
    (found.0, omega (arith, told, inside), ap (window k n) told ∙ reads, λ p h q. sym (told ∙ one_place.only k n p w l.two l.some h q))

pub place_back : (k n p : ℕ) (t t' : List ℕ) (r : ℕ) → admitted k n ≡ true → p < k ^ n → 8 ≤ length t
    → PlaceSays k n (window k n p) t t' r → (r ≡ 0) × (be 0 8 t' ≡ p) × (drop 8 t' ≡ drop 8 t)
place_back k n p t t' r a h x f =
    let l = admitted_limits k n a in
    let w = window k n p in
    let long : length w ≡ n = letters-length (k ^ n) (strip k n) p n in
    let letters = strip-marks k n p n l.two l.some in
    let (number, _, _, one) = placed k n w t t' r a long letters x f in
    (number, sym (one p h refl), ap (drop 8) (number_fine (the_word_fault k n w) (place_of k n w) t (word_faultless k n w a long letters) x f).1)

-- the same on the short ring, for a window that is no shorter word repeated
pub short_placed : (k n : ℕ) (w t t' : List ℕ) (r : ℕ) → admitted k n ≡ true → length w ≡ n → marks_ok k w ≡ true → root w ≡ n → 8 ≤ length t → ShortPlaceSays k n w t t' r
    → (r ≡ 0) × (be 0 8 t' < short_size k n) × (short_window k n (be 0 8 t') ≡ w) × ((p : ℕ) → p < short_size k n → short_window k n p ≡ w → p ≡ be 0 8 t')
short_placed k n w t t' r a e m whole x f =
    let l = admitted_limits k n a in
    let on = short_ring_lem k n l.two l.some in
    let found = number_fine (short_window_fault k n w) (short_place_of k n w) t (window_faultless k n w a e m whole) x f in
    let (inside, reads) = on.found w e m whole in
    let told : be 0 8 t' ≡ short_place_of k n w = tray_back (short_place_of k n w) t (small k n a (omega (arith, inside, on.most))) found.1 in
    (found.0, omega (arith, told, inside), ap (short_window k n) told ∙ reads, λ p h q. sym (told ∙ (on.only p w h q).0))

pub short_repeats : (k n : ℕ) (w t t' : List ℕ) (r : ℕ) → admitted k n ≡ true → length w ≡ n → marks_ok k w ≡ true → root w < n → ShortPlaceSays k n w t t' r
    → (r ≡ 16) × (t' ≡ t) × ((p : ℕ) → p < short_size k n → short_window k n p ≢ w)
short_repeats k n w t t' r a e m less f =
    let l = admitted_limits k n a in
    let fault : short_window_fault k n w ≡ 16 = rw (word_faultless k n w a e m, lt-ltb (root w) n less) refl in
    let (number, same) : (r ≡ 16) × (t' ≡ t) = rw fault at f in
    (number, same, λ p h q. omega (arith, ((short_ring_lem k n l.two l.some).only p w h q).1))

pub short_place_back : (k n p : ℕ) (t t' : List ℕ) (r : ℕ) → admitted k n ≡ true → p < short_size k n → 8 ≤ length t
    → ShortPlaceSays k n (short_window k n p) t t' r → (r ≡ 0) × (be 0 8 t' ≡ p) × (drop 8 t' ≡ drop 8 t)
short_place_back k n p t t' r a h x f =
    let l = admitted_limits k n a in
    let w = short_window k n p in
    let long : length w ≡ n = letters-length (short_size k n) (short_ring k n) p n in
    let letters = marks_of Whole k n p n l.two l.some in
    let whole = ((short_ring_lem k n l.two l.some).only p w h refl).1 in
    let (number, _, _, one) = short_placed k n w t t' r a long letters whole x f in
    (number, sym (one p h refl), ap (drop 8) (number_fine (short_window_fault k n w) (short_place_of k n w) t (window_faultless k n w a long letters whole) x f).1)

-- marks printed, over the start of the tray
print_fine : (lengths : Lengths) (k n p c : ℕ) (t t' : List ℕ) (r : ℕ) → admitted k n ≡ true → p < size_of lengths k n → c ≤ length t → PrintOn lengths k n p c t t' r
    → (r ≡ 0) × (t' ≡ over (letters_of lengths k n p c) t)
print_fine lengths k n p c t t' r a h x f =
    let long = letters-length (size_of lengths k n) (ring (ok_of lengths n) k n) p c in
    into_fine (ring_fault lengths k n p) (letters_of lengths k n p c) t (place_faultless lengths k n p a h) (omega (arith, long)) (print_into (ring_fault lengths k n p) c (letters_of lengths k n p c) t t' r long f)

pub window-back : (k n : ℕ) (w t t' u u' : List ℕ) (r q : ℕ) → admitted k n ≡ true → length w ≡ n → marks_ok k w ≡ true
    → 8 ≤ length t → n ≤ length u → PlaceSays k n w t t' r → PrintSays k n (be 0 8 t') n u u' q → (r ≡ 0) × (q ≡ 0) × (u' ≡ over w u)
window-back k n w t t' u u' r q a e m x y f g =
    let (number, inside, reads, _) = placed k n w t t' r a e m x f in
    let printed = print_fine Divisors k n (be 0 8 t') n u u' q a inside y g in
    (number, printed.0, printed.1 ∙ ap (λ z. over z u) reads)

pub short_window-back : (k n : ℕ) (w t t' u u' : List ℕ) (r q : ℕ) → admitted k n ≡ true → length w ≡ n → marks_ok k w ≡ true → root w ≡ n
    → 8 ≤ length t → n ≤ length u → ShortPlaceSays k n w t t' r → ShortPrintSays k n (be 0 8 t') n u u' q → (r ≡ 0) × (q ≡ 0) × (u' ≡ over w u)
short_window-back k n w t t' u u' r q a e m whole x y f g =
    let (number, inside, reads, _) = short_placed k n w t t' r a e m whole x f in
    let printed = print_fine Whole k n (be 0 8 t') n u u' q a inside y g in
    (number, printed.0, printed.1 ∙ ap (λ z. over z u) reads)

pub printed : (lengths : Lengths) (k n p c : ℕ) (t t' : List ℕ) (r : ℕ) → admitted k n ≡ true → p < size_of lengths k n → c ≤ length t → PrintOn lengths k n p c t t' r
    → (r ≡ 0) × (take c t' ≡ letters_of lengths k n p c) × ((j : ℕ) → j < c → get_or t' j 0 ≡ letter_of lengths k n (p + j))
printed lengths k n p c t t' r a h x f =
    let (number, over-it) = print_fine lengths k n p c t t' r a h x f in
    let text = letters_of lengths k n p c in
    let long : length text ≡ c = letters-length (size_of lengths k n) (ring (ok_of lengths n) k n) p c in
    (number, ap (take c) over-it ∙ take_at text _ c long, λ j g. ap (λ y. get_or y j 0) over-it ∙ get_or-append text _ 0 j (omega (arith, long)) ∙ letters_at (size_of lengths k n) (ring (ok_of lengths n) k n) p c j g)

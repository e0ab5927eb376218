-- Arguments without fault.
use mathlib.Core.Path.{◌≡◌, refl, ◌∙◌, ap}
use mathlib.Core.Bool.{true, not}
use mathlib.Core.List.{List}
use Prim.Native.Nat.{ℕ, ◌^◌, ◌≤◌, ◌<◌}
use native.Mathlib.Omega.{arith}
use lib.Dec.{eqb}
use lib.ListN.{length}
use borrow.Author.Tests.{eq-eqb, ne_eqb, le-ltb, lt-leb, eqb-false, ltb-false, not-false}
use Rattle.theory.specs.Words.{when, root, how_many, marks_ok}
use Rattle.theory.specs.Strips.{admitted, strip_fault}
use Rattle.theory.specs.Plans.{plan_fault}
use Rattle.theory.proofs.Base.{or_false}
use Rattle.theory.proofs.Faults.{first_none, when-none}
use Rattle.theory.proofs.Prices.{short_sections}
use Rattle.calls.specs.Refusals.{the_word_fault, short_window_fault, index_fault, ring_fault, picture_fault, bill_fault}
use Rattle.shape.specs.declared.Lengths.{Lengths}
use Rattle.shape.specs.Rings.{size_of}
use Rattle.pbm.specs.Parts.{Frame}
use Rattle.pictures.proofs.Framing.{frame_out, left}
use Rattle.demands.specs.Refused.{AllShort}

pub strip_faultless : (k n : ℕ) → admitted k n ≡ true → strip_fault k n ≡ 0
strip_faultless k n a = rw a refl

pub strip_admits : (k n : ℕ) → strip_fault k n ≡ 0 → admitted k n ≡ true
strip_admits k n z = not-false _ (when-none (not (admitted k n)) 1 (λ e. omega arith) z)

pub word_faultless : (k n : ℕ) (w : List ℕ) → admitted k n ≡ true → length w ≡ n → marks_ok k w ≡ true → the_word_fault k n w ≡ 0
word_faultless k n w a e m = rw (a, eq-eqb (length w) n e, m) refl

pub index_faultless : (k n i : ℕ) → admitted k n ≡ true → 1 ≤ i → i ≤ how_many k n → index_fault k n i ≡ 0
index_faultless k n i a b c = rw (a, ne_eqb i 0 (λ e. omega arith), le-ltb (how_many k n) i c)

pub index_range : (k n i : ℕ) → index_fault k n i ≡ 0 → (1 ≤ i) × (i ≤ how_many k n)
index_range k n i z =
    let (some, few) = or_false (eqb i 0) _ (when-none _ 5 (λ e. omega arith) (first_none (strip_fault k n) _ z).1) in
    let nonzero = eqb-false i 0 some in
    (omega arith, ltb-false (how_many k n) i few)

pub window_faultless : (k n : ℕ) (w : List ℕ) → admitted k n ≡ true → length w ≡ n → marks_ok k w ≡ true → root w ≡ n → short_window_fault k n w ≡ 0
window_faultless k n w a e m r = rw (word_faultless k n w a e m, le-ltb (root w) n (omega arith)) refl

pub place_faultless : (lengths : Lengths) (k n p : ℕ) → admitted k n ≡ true → p < size_of lengths k n → ring_fault lengths k n p ≡ 0
place_faultless lengths k n p a h = rw (a, lt-leb (size_of lengths k n) p h)

pub picture_faultless : (n p c h : ℕ) → admitted 2 n ≡ true → p < 2 ^ n → Frame c h → picture_fault 2 n p c h ≡ 0
picture_faultless n p c h a l f = rw (strip_faultless 2 n a) (left 2 n p c h refl l ∙ ap (λ t. when (not t) 13) (frame_out c h f))

pub bill_faultless : (s : List ℕ) (p c : ℕ) → plan_fault s ≡ 0 → AllShort s → p ≤ 10000000 → c ≤ 4294967295 → bill_fault s p c ≡ 0
bill_faultless s p c good short h g = rw (good, (short_sections s).1 short, le-ltb 10000000 p h, le-ltb 4294967295 c g)

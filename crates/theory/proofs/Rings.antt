-- The ring theorem in the specification's words, for every set of allowed lengths; the strip's, with its k^n places.
use mathlib.Core.Path.{◌≡◌, sym, ◌∙◌, ap, ap₂, subst}
use mathlib.Core.Bool.{Bool, true}
use mathlib.Core.List.{List, ◌∷◌, ◌++◌}
use mathlib.Core.Logic.{◌≢◌}
use Prim.Native.Nat.{ℕ, zero, suc, ◌+◌, ◌-◌, ◌^◌, ◌≤◌, ◌<◌}
use native.Mathlib.Omega.{arith}
use native.Mathlib.Nat.{suc-mul, one-le-pow}
use lib.Dec.{leb}
use lib.ListN.{length, take, drop, replicate, length-drop, take-append-drop}
use lib.Seq.{length-take-le, take-append_seam}
use borrow.Author.Tests.{leb-true}
use Rattle.theory.specs.Words.{below, turned, smallest, root, marks_ok, all_words, power_to}
use Rattle.theory.specs.Lists.{In, Ascending}
use Rattle.theory.specs.Rings.{Allowed, divides, ring_words, ring, modulo, find_on, letters_on, before_w, window_on, place_on}
use Rattle.theory.specs.Strips.{admitted, strip, marks_from, window, place_of, divisor_of}
use Rattle.theory.specs.Theorems.{Ring, OnePlace}
use Rattle.theory.proofs.Base.{and_l, and_r}
use Rattle.theory.proofs.Order.{lt_below, Prefix, prefix_take, take_prefix}
use Rattle.theory.proofs.Lists.{keep_all, in_append_left, in_split, found, ascend_before}
use Rattle.theory.proofs.Letters.{marks-joined}
use Rattle.theory.proofs.Listed.{all_words_lem, all_count, ring_words_lem, ring_ascend}
use Rattle.theory.proofs.Powers.{root_is, root-size, root-divides}
use Rattle.theory.proofs.Reading.{letters-marks}
use Rattle.theory.proofs.Tops.{one_less}
use Rattle.theory.proofs.Rotations.{ring_base, ring_base_of}
use Rattle.theory.proofs.Seams.{Setting}
use Rattle.theory.proofs.Seams as seams
use Rattle.theory.proofs.Windows as windows
use Rattle.theory.proofs.Places as places
use Rattle.theory.proofs.Divisors.{divisors_allowed}

module _ (R : Setting) where
  open R use {z, n, ok, letters, some, allowed}

  place_at_top : ok 1 ≡ true → place_on ok (suc z) n (replicate n z) + n ≡ length (ring ok (suc z) n)
  place_at_top h = let (p, s, e) = windows.top_spot R h in ap (λ x. x + n) (places.spot_place R s) ∙ e

  place_at_end : (w : List ℕ) (r : ℕ) → length w ≡ n → marks_ok (suc z) w ≡ true → ok (root w) ≡ true → turned r w ≡ smallest w → r < root w
      → take r w ≢ replicate r z
      → let u = take (root w) (smallest w) in place_on ok (suc z) n w + r ≡ before_w u (ring_words ok (suc z) n) + length u
  place_at_end w r h k a e l d = elim (ring_base_of ok (suc z) n some allowed w h k a) [ ring_base u i f g ↦ at u i (sym f) g ]
    where
      at : (u : List ℕ) → In u (ring_words ok (suc z) n) → power_to n u ≡ smallest w → root w ≡ length u
          → let u = take (root w) (smallest w) in place_on ok (suc z) n w + r ≡ before_w u (ring_words ok (suc z) n) + length u
      at u i f g =
          let m = seams.member R i in
          let long : length (take r w) ≡ r = length-take-le r w (omega (arith, m.fit.whole, suc-mul m.fit.times (length u))) in
          let (p, s, q) = windows.end_spot R u w (take r w) (drop r w) i h (sym (take-append-drop r w)) (f ∙ sym e) (omega arith) (λ x. d (x ∙ ap (λ y. replicate y z) long)) in
          let v : take (root w) (smallest w) ≡ u = base_word m in
          ap₂ ◌+◌ (places.spot_place R s) (sym long) ∙ q ∙ sym (ap (λ x. before_w x (ring_words ok (suc z) n) + length x) v)
        where
          base_word : seams.Member R u → take (root w) (smallest w) ≡ u
          base_word m = elim (seams.power_parts R m) [ seams.around_power s x y ↦ ap₂ take g (sym f ∙ x) ∙ take-append_seam u s ]

  place_at_start : (w m : List ℕ) (r : ℕ) → length w ≡ n → marks_ok (suc z) w ≡ true → ok (root w) ≡ true → turned r w ≡ smallest w → r < root w
      → take r w ≡ replicate r z → w ≢ replicate n z → In m (ring_words ok (suc z) n) → take (n - r) (power_to n m) ≡ drop r w
      → ((v : List ℕ) → In v (ring_words ok (suc z) n) → below v m ≡ true → take (n - r) (power_to n v) ≢ drop r w)
      → modulo (place_on ok (suc z) n w + r) (length (ring ok (suc z) n)) ≡ before_w m (ring_words ok (suc z) n)
  place_at_start w m r h k a e l c d i f none = elim (in_split i) [ found x b g ↦ at x b g ]
    where
      rest : length (drop r w) ≡ n - r
      rest = length-drop r w ∙ ap (λ y. y - r) h

      short : r < n
      short = omega (arith, h, root-size (omega (arith, h, some)) (root_is w (omega (arith, h, some))))

      at : (x b : List (List ℕ)) → ring_words ok (suc z) n ≡ x ++ (m ∷ b) → modulo (place_on ok (suc z) n w + r) (length (ring ok (suc z) n)) ≡ before_w m (ring_words ok (suc z) n)
      at x b g =
          let (p, s, q) = windows.start_spot R w (drop r w) r x m b h (sym (take-append-drop r w) ∙ ap (λ y. y ++ drop r w) c) (omega (arith, rest, short)) d g (take_prefix (drop r w) (power_to n m) (ap (λ y. take y (power_to n m)) rest ∙ f)) others in
          ap (λ y. modulo (y + r) (length (ring ok (suc z) n))) (places.spot_place R s) ∙ q
        where
          others : (v : List ℕ) → In v x → ¬ Prefix (drop r w) (power_to n v)
          others v j o =
              none v (subst (λ y. In v y) (sym g) (in_append_left (m ∷ b) j)) (lt_below (ascend_before x b (subst Ascending g (ring_ascend ok (suc z) n)) v j))
              (ap (λ y. take y (power_to n v)) (sym rest) ∙ prefix_take o)

pub rings : (ok : ℕ → Bool) (k n : ℕ) → 2 ≤ k → 1 ≤ n → Allowed n ok → Ring ok k n
rings ok zero n h s a = absurd (omega arith)
rings ok (suc z) n h s a = record {
  long = places.ring_long R;
  found = places.place_found R;
  only = places.place_only R;
  window_fits = λ p l. let r = places.window_in R (places.place_window R p l).1 in (r.0, r.1, r.2);
  at_top = λ t. ap (λ x. place_on ok (suc z) n (replicate n x) + n) last ∙ place_at_top R t;
  at_end = λ w r x y t e l d. place_at_end R w r x y t e l (λ q. d (q ∙ ap (replicate r) (sym last)));
  at_start = λ w m r x y t e l c d. place_at_start R w m r x y t e l (c ∙ ap (replicate r) last) (λ q. d (q ∙ ap (replicate n) (sym last)));
}
  where
    R : Setting
    R = record { z = z; n = n; ok = ok; letters = omega arith; some = s; allowed = a }

    last : suc z - 1 ≡ z
    last = one_less z

-- the strip
pub strip-long : (k n : ℕ) → 2 ≤ k → 1 ≤ n → length (strip k n) ≡ k ^ n
strip-long k n h s = (rings (divisor_of n) k n h s (divisors_allowed n s)).long ∙ ap length (keep_all (λ w. divisor_of n (root w)) (all_words k n) every) ∙ all_count k n
  where
    every : (w : List ℕ) → In w (all_words k n) → divides (root w) n ≡ true
    every w i = let e = ((all_words_lem k n w).0 i).0 in subst (λ x. divides (root w) x ≡ true) e (root-divides w (omega arith))

pub admitted_range : (k n : ℕ) → admitted k n ≡ true → (2 ≤ k) × (1 ≤ n)
admitted_range k n h =
    (leb-true 2 k (and_l _ _ h), leb-true 1 n (and_l _ _ (and_r (leb k 36) _ (and_r (leb 2 k) _ h))))

-- letters read from a ring of so many positions, as many as there may be
pub ring-marks : (ok : ℕ → Bool) (k n size p c : ℕ) → length (ring ok k n) ≡ size → 1 ≤ size → marks_ok k (letters_on size (ring ok k n) p c) ≡ true
ring-marks ok k n size p c long some =
    subst (λ x. marks_ok k (letters_on x (ring ok k n) p c) ≡ true) long
    (letters-marks k (ring ok k n) p c (omega (arith, long)) (marks-joined k (ring_words ok k n) (λ w i. ((ring_words_lem ok k n w).0 i).1)))

pub strip-marks : (k n p c : ℕ) → 2 ≤ k → 1 ≤ n → marks_ok k (marks_from k n p c) ≡ true
strip-marks k n p c h s = ring-marks (divisor_of n) k n (k ^ n) p c (strip-long k n h s) (one-le-pow n k (omega arith))

pub place_is : (k n : ℕ) (w : List ℕ) → 2 ≤ k → 1 ≤ n → place_on (divisor_of n) k n w ≡ place_of k n w
place_is k n w h s = ap (λ x. find_on x 0 x (strip k n) n w) (strip-long k n h s)

pub one_place : OnePlace
one_place = record { range = admitted_range; long = strip-long; found = found_at; only = only_at }
  where
    size : (k n : ℕ) → 2 ≤ k → 1 ≤ n → length (strip k n) ≡ k ^ n
    size = strip-long

    of_ring : (k n : ℕ) → 2 ≤ k → 1 ≤ n → Ring (divisor_of n) k n
    of_ring k n h s = rings (divisor_of n) k n h s (divisors_allowed n s)

    window_is : (k n p : ℕ) → 2 ≤ k → 1 ≤ n → window_on (divisor_of n) k n p ≡ window k n p
    window_is k n p h s = ap (λ x. letters_on x (strip k n) p n) (size k n h s)

    found_at : (k n : ℕ) (w : List ℕ) → 2 ≤ k → 1 ≤ n → length w ≡ n → marks_ok k w ≡ true → (place_of k n w < k ^ n) × (window k n (place_of k n w) ≡ w)
    found_at k n w h s e m =
        let r = (of_ring k n h s).found w e m (subst (λ x. divides (root w) x ≡ true) e (root-divides w (omega arith))) in
        let p = place_is k n w h s in (
          subst (λ x. x < k ^ n) p (subst (λ x. place_on (divisor_of n) k n w < x) (size k n h s) r.0),
          sym (window_is k n (place_of k n w) h s) ∙ ap (window_on (divisor_of n) k n) (sym p) ∙ r.1,
        )

    only_at : (k n p : ℕ) (w : List ℕ) → 2 ≤ k → 1 ≤ n → p < k ^ n → window k n p ≡ w → place_of k n w ≡ p
    only_at k n p w h s l e =
        sym (place_is k n w h s) ∙ (of_ring k n h s).only p w (subst (λ x. p < x) (sym (size k n h s)) l) (window_is k n p h s ∙ e)

-- Each window is read at exactly one position: as many windows as positions (Rotations), so none is read twice.
use mathlib.Core.Path.{◌≡◌, sym, ◌∙◌, ap, subst}
use mathlib.Core.Bool.{true}
use mathlib.Core.List.{List}
use Prim.Native.Nat.{ℕ, suc, ◌≤◌, ◌<◌}
use native.Mathlib.Omega.{arith}
use lib.ListN.{length}
use Rattle.theory.specs.Words.{root, marks_ok, all_words, keep}
use Rattle.theory.specs.Lists.{In, Once, each}
use Rattle.theory.specs.Rings.{ring, window_on, place_on}
use Rattle.theory.proofs.Lists.{keep_in, keep_once, ascend_once, each_in, each_length, each_once_lem, Image, image, span, in_span, span-length}
use Rattle.theory.proofs.Counts.{onto}
use Rattle.theory.proofs.Listed.{all_words_lem, all_ascend}
use Rattle.theory.proofs.Reading.{find_first, first_least}
use Rattle.theory.proofs.Seams.{Setting}
use Rattle.theory.proofs.Rotations as rotations
use Rattle.theory.proofs.Windows as windows

module _ (R : Setting) where
  open R use {z, n, ok, letters, some, allowed}

  abbrev Letters : List ℕ
  Letters = ring ok (suc z) n

  -- the windows: words of length n whose shortest root is allowed
  abbrev pub Windows : List (List ℕ)
  Windows = keep (λ w. ok (root w)) (all_words (suc z) n)

  pub window_in : {w : List ℕ} → In w Windows → (length w ≡ n) × (marks_ok (suc z) w ≡ true) × (ok (root w) ≡ true)
  window_in {w} i = let r = keep_in (λ w. ok (root w)) (all_words (suc z) n) i in let s = (all_words_lem (suc z) n w).0 r.0 in (s.0, s.1, r.1)

  windows_once : Once Windows
  windows_once = keep_once (λ w. ok (root w)) (all_words (suc z) n) (ascend_once (all_words (suc z) n) (all_ascend (suc z) n))

  pub ring_long : length Letters ≡ length Windows
  ring_long = rotations.ring_long ok (suc z) n some allowed

  -- the first position that reads a window
  pub place_found : (w : List ℕ) → length w ≡ n → marks_ok (suc z) w ≡ true → ok (root w) ≡ true
      → (place_on ok (suc z) n w < length Letters) × (window_on ok (suc z) n (place_on ok (suc z) n w) ≡ w)
  place_found w h k a =
      let (p, s) = windows.some_spot R w h k a in
      let f = find_first (length Letters) 0 (length Letters) Letters n w p (omega arith) (omega (arith, s.inside)) s.is_read in
      (omega (arith, s.inside, first_least (length Letters) Letters n w 0 p (place_on ok (suc z) n w) f (omega arith) s.is_read), f.reads)

  -- every position is some window's
  places : List ℕ
  places = each (place_on ok (suc z) n) Windows

  place_in_lem : (p : ℕ) → p < length Letters → Image (place_on ok (suc z) n) p Windows
  unfolding places
  place_in_lem p h = each_in (place_on ok (suc z) n) Windows (onto places (span (length Letters)) once below_length full p (in_span (length Letters) p h))
    where
      found : {w : List ℕ} → In w Windows → (place_on ok (suc z) n w < length Letters) × (window_on ok (suc z) n (place_on ok (suc z) n w) ≡ w)
      found {w} i = let r = window_in i in place_found w r.0 r.1 r.2

      once : Once places
      once = each_once_lem (place_on ok (suc z) n) Windows windows_once (λ v w i j e. sym (found i).1 ∙ ap (window_on ok (suc z) n) e ∙ (found j).1)

      below_length : (q : ℕ) → In q places → In q (span (length Letters))
      below_length q i = elim (each_in (place_on ok (suc z) n) Windows i) [ image w j e ↦ in_span (length Letters) q (subst (λ r. r < length Letters) (sym e) (found j).0) ]

      full : length (span (length Letters)) ≤ length places
      full = omega (arith, span-length (length Letters), each_length (place_on ok (suc z) n) Windows, ring_long)

  pub place_window : (p : ℕ) → p < length Letters → (place_on ok (suc z) n (window_on ok (suc z) n p) ≡ p) × In (window_on ok (suc z) n p) Windows
  place_window p h = elim (place_in_lem p h) [ image w i e ↦ at w i e ]
    where
      at : (w : List ℕ) → In w Windows → p ≡ place_on ok (suc z) n w → (place_on ok (suc z) n (window_on ok (suc z) n p) ≡ p) × In (window_on ok (suc z) n p) Windows
      at w i e =
          let r = window_in i in
          let f : window_on ok (suc z) n p ≡ w = ap (window_on ok (suc z) n) e ∙ (place_found w r.0 r.1 r.2).1 in
          (ap (place_on ok (suc z) n) f ∙ sym e, subst (λ x. In x Windows) (sym f) i)

  pub place_only : (p : ℕ) (w : List ℕ) → p < length Letters → window_on ok (suc z) n p ≡ w → place_on ok (suc z) n w ≡ p
  place_only p w h e = ap (place_on ok (suc z) n) (sym e) ∙ (place_window p h).0

  -- so wherever a window is read, that is its place
  pub spot_place : {w : List ℕ} {p : ℕ} → windows.Spot R w p → place_on ok (suc z) n w ≡ p
  spot_place {w} {p} s = place_only p w s.inside s.is_read

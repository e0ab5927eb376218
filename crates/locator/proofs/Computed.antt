-- The values that `place_of` computes one after another: that each fits where it is used, and that the last is the place.
use mathlib.Core.Path.{◌≡◌, sym, ◌∙◌, ap, ap₂, subst, subst₂}
use mathlib.Core.List.{List}
use Prim.Native.Nat.{ℕ, ◌+◌, ◌-◌, ◌≤◌, ◌<◌}
use native.Mathlib.Omega.{arith}
use lib.Dec.{eqb}
use lib.ListN.{length, take, drop, replicate, length-drop}
use lib.Seq.{take_all, length-take-le}
use Rattle.buffers.specs.Buffers.{over}
use Rattle.buffers.proofs.Bytes.{over-whole}
use Rattle.theory.proofs.Necklaces.{smallest-length}
use Rattle.theory.specs.Words.{pick, smallest, least_turn, root}
use Rattle.theory.specs.Rings.{cursor}
use Rattle.theory.specs.Strips.{marks_from, place_of, place_in}
use Rattle.theory.specs.Sums.{cs}
use Rattle.shape.specs.declared.Strip as DS
use Rattle.shape.specs.declared.Lengths.TheVariants.{Divisors}
use Rattle.shape.specs.Shapes.{WordOn}
use Rattle.shape.proofs.Limits.{limits}
use Rattle.rings.specs.Moves.{HeldOn}
use Rattle.locator.specs.Fits.{leading, first_fit, Based, base_of}
use Rattle.locator.proofs.Leading.{leading_length}
use Rattle.locator.proofs.Locates.{Located, wrap_inside, wrap_place, base_fits, located, base_root, root_inside, base_held, fit_place}

-- the letters counted: l letters k−1, then m zeros
module _ {s : DS.Strip} {w : List ℕ} {l m : ℕ} (on : WordOn s w) (lead : l ≡ leading (s.k - 1) w) (zeros : m ≡ leading 0 (take (length w - l) (drop l w))) where
  counted : m ≡ leading 0 (drop (leading (s.k - 1) w) w)
  counted =
      zeros ∙ ap (leading 0) (take_all (length w - l) (drop l w) (omega (arith, length-drop l w))) ∙ ap (λ x. leading 0 (drop x w)) lead

  pub counts_inside : l + m ≤ length w
  counts_inside =
      omega (arith, lead, counted, leading_length (s.k - 1) w, leading_length 0 (drop (leading (s.k - 1) w) w), length-drop (leading (s.k - 1) w) w)

  all : l + m ≡ length w → leading (s.k - 1) w + leading 0 (drop (leading (s.k - 1) w) w) ≡ s.n
  all h = omega (arith, lead, counted, on.long)

  pub wrapped_inside : l + m ≡ length w → l ≤ s.size
  wrapped_inside h = omega (arith, wrap_inside on (all h), lead)

  pub wrapped_place : l + m ≡ length w → pick (eqb l 0) 0 (s.size - l) ≡ place_of s.k s.n w
  wrapped_place h = ap (λ x. pick (eqb x 0) 0 (s.size - x)) lead ∙ wrap_place on (all h)

  -- not all of them: the turn and the base word
  module _ {t : ℕ} (more : ¬ (l + m ≡ length w)) (turn : t ≡ least_turn w) where
    not_all : ¬ (leading (s.k - 1) w + leading 0 (drop (leading (s.k - 1) w) w) ≡ s.n)
    not_all e = more (omega (arith, lead, counted, on.long))

    module _ {v : List ℕ} (rotation : v ≡ smallest w) where
      pub turn_based : Based s.k t l v
      turn_based = subst (Based s.k t l) (sym rotation) (subst₂ (λ x y. Based s.k x y (smallest w)) (sym turn) (sym lead) (base_fits on not_all))

      pub turn_located : {u : List ℕ} → u ≡ base_of s.k t l v → Located s.k s.n w t u
      turn_located e =
          let is = ap (base_of s.k t l) rotation ∙ ap₂ (λ x y. base_of s.k x y (smallest w)) turn lead in
          subst₂ (Located s.k s.n w) (sym turn) (sym (e ∙ is)) (located on not_all)

-- the smallest rotation, put over as much of a buffer as the window has letters
pub rotated : {s : DS.Strip} {w out : List ℕ} → WordOn s w → out ≡ over (smallest w) (take (length w) (replicate 60 0)) → out ≡ smallest w
rotated {s} {w} on e =
    e ∙ over-whole (smallest w) _ (smallest-length w ∙ sym (length-take-le _ (replicate 60 0) (omega (arith, on.long, (limits s).short))))

-- the word's length and its end
module _ {s : DS.Strip} {w : List ℕ} {t : ℕ} {v : List ℕ} {long : ℕ} (on : WordOn s w) (at : Located s.k s.n w t v) (size : long ≡ root v) where
  pub letters_short : long + length w ≤ 120
  letters_short = omega (arith, size, root_inside on at, on.long, (limits s).short)

  pub word_held : HeldOn Divisors s v long × (0 < long)
  word_held = subst (λ x. HeldOn Divisors s v x × (0 < x)) (sym size) (base_held on at)

  pub word_inside : {end : ℕ} → end ≡ cs s.k v → long ≤ end
  word_inside e = omega (arith, e, size, (base_root on at).ends)

  -- the letters from it on
  module _ {m : ℕ} {text : List ℕ} (read : text ≡ marks_from s.k s.n (place_in (cursor s.k s.n (take long v) 0)) m) (many : m ≡ long + length w) where
    is_text : text ≡ marks_from s.k s.n (place_in (cursor s.k s.n (take (root v) v) 0)) (root v + s.n)
    is_text =
        read ∙ ap (marks_from s.k s.n (place_in (cursor s.k s.n (take long v) 0))) (many ∙ ap₂ ◌+◌ size on.long)
        ∙ ap (λ x. marks_from s.k s.n (place_in (cursor s.k s.n (take x v) 0)) (root v + s.n)) size

    pub text_place : {end r : ℕ} → end ≡ cs s.k v → r ≡ first_fit text w → end - long + r ≡ place_of s.k s.n w
    text_place {end} {r} e f = omega (arith, e, f, size, fit_place on at text is_text)

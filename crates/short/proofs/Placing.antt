-- The place of a window by ranks, as the code computes it: the turn, the letters k−1 in front, the word whose rank tells, and where the words up to it end.
use mathlib.Core.Path.{◌≡◌, sym, ◌∙◌, ap, ap₂, subst}
use mathlib.Core.List.{List, ◌++◌}
use mathlib.Core.Logic.{◌≢◌}
use Prim.Native.Nat.{ℕ, ◌+◌, ◌-◌, ◌*◌, ◌≤◌, ◌<◌}
use native.Mathlib.Omega.{arith}
use lib.Dec.{eqb, ltb}
use lib.ListN.{length, take, drop, replicate, length-append, length-drop, length-replicate}
use lib.Seq.{take_at}
use borrow.Author.Tests.{lt-ltb, le-ltb, ne_eqb}
use Rattle.theory.specs.Words.{pick, turned, smallest, least_turn, root, rank}
use Rattle.theory.specs.Shorts.{short_size, short_place_of}
use Rattle.theory.proofs.Base.{upto, over, split}
use Rattle.theory.proofs.Letters.{marks-append, marks-drop, marks-replicate}
use Rattle.theory.proofs.Turns.{least_turn-smallest, least_turn-root}
use Rattle.theory.proofs.Necklaces.{smallest-length, smallest-marks}
use Rattle.theory.proofs.ShortPlaces.{short_place}
use Rattle.shape.specs.declared.Strip as DS
use Rattle.shape.specs.Shapes.{WordOn}
use Rattle.shape.proofs.Limits.{limits}
use Rattle.locator.specs.Fits.{leading, cleared}
use Rattle.locator.proofs.Leading.{leading_upto}

module _ {s : DS.Strip} {w : List ℕ} (on : WordOn s w) (primitive : root w ≡ s.n) {turn : ℕ} (least : turn ≡ least_turn w) where
  abbrev k : ℕ
  k = s.k

  abbrev n : ℕ
  n = s.n

  pub turn_short : turn < n
  turn_short = omega (arith, least_turn-root w (omega (arith, on.long, (limits s).some)))

  reaches : turned turn w ≡ smallest w
  reaches = ap (λ r. turned r w) least ∙ least_turn-smallest w

  -- γ 0 .. 0
  cleared_is : cleared turn (smallest w) ≡ drop turn w ++ replicate turn 0
  cleared_is =
      let rest : length (drop turn w) ≡ length (smallest w) - turn = omega (arith, length-drop turn w, smallest-length w) in
      let back : length (smallest w) - (length (smallest w) - turn) ≡ turn = omega (arith, turn_short, smallest-length w, on.long) in
      ap₂ (λ x y. x ++ replicate y 0) (ap (take (length (smallest w) - turn)) (sym reaches) ∙ take_at (drop turn w) (take turn w) (length (smallest w) - turn) rest) back

  module _ {lead : ℕ} {v : List ℕ} (count : lead ≡ leading (k - 1) w) (e : v ≡ pick (ltb lead turn) (smallest w) (cleared turn (smallest w))) where
    kept : lead < turn → v ≡ smallest w
    kept l = e ∙ ap (λ t. pick t (smallest w) (cleared turn (smallest w))) (lt-ltb lead turn l)

    lowered : turn ≤ lead → v ≡ drop turn w ++ replicate turn 0
    lowered l = e ∙ ap (λ t. pick t (smallest w) (cleared turn (smallest w))) (le-ltb lead turn l) ∙ cleared_is

    within : turn ≤ length w
    within = omega (arith, turn_short, on.long)

    not_top : take turn w ≢ replicate turn (k - 1) → v ≡ smallest w
    not_top d = elim (split turn lead) [ upto l ↦ absurd (d ((leading_upto (k - 1) turn w within).0 (omega arith))) | over l ↦ kept l ]

    top : take turn w ≡ replicate turn (k - 1) → v ≡ drop turn w ++ replicate turn 0
    top q = lowered (omega (arith, (leading_upto (k - 1) turn w within).1 q))

    pub base_on : WordOn s v
    base_on = elim (split turn lead) [
      | upto l ↦ subst (WordOn s) (sym (lowered l)) (record {
        long = omega (arith, length-append (drop turn w) (replicate turn 0), length-drop turn w, length-replicate {A = ℕ} turn 0, turn_short, on.long);
        marks = marks-append k (drop turn w) (replicate turn 0) (marks-drop k turn w on.marks) (marks-replicate k turn 0 (omega (arith, (limits s).two)));
      })
      | over l ↦ subst (WordOn s) (sym (kept l)) (record { long = smallest-length w ∙ on.long; marks = smallest-marks k w on.marks })
    ]

    -- the window's first letters, or all of them, end where the words up to v end
    ends : short_place_of k n w + pick (eqb turn 0) n turn ≡ pick (eqb (rank k v) 0) (short_size k n) (n * rank k v)
    ends = let r = limits s in short_place k n w turn v r.two r.some on.long on.marks primitive reaches turn_short not_top top

    module _ {words end : ℕ} (ranked : words ≡ rank k v) (at : end ≡ pick (eqb words 0) (short_size k n) (n * words)) where
      ended : short_place_of k n w + pick (eqb turn 0) n turn ≡ end
      ended = ends ∙ sym (at ∙ ap (λ c. pick (eqb c 0) (short_size k n) (n * c)) ranked)

      pub own_front : turn ≡ 0 → short_place_of k n w + n ≡ end
      own_front z = sym (ap (λ t. short_place_of k n w + pick (eqb t 0) n t) z) ∙ ended

      pub first_end : ¬ (turn ≡ 0) → short_place_of k n w + turn ≡ end
      first_end d = sym (ap (λ b. short_place_of k n w + pick b n turn) (ne_eqb turn 0 d)) ∙ ended

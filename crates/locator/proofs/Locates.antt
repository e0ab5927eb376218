-- The place of a window: at the wrap, or by the base word and the first fit in the letters from that word on.
use mathlib.Core.Path.{◌≡◌, sym, ◌∙◌, ap, ap₂, subst}
use mathlib.Core.Bool.{true}
use mathlib.Core.List.{List, ◌++◌}
use mathlib.Core.Logic.{◌≢◌}
use Prim.Native.Nat.{ℕ, ◌+◌, ◌-◌, ◌^◌, ◌≤◌, ◌<◌}
use native.Mathlib.Omega.{arith}
use native.Mathlib.Nat.{add-zero}
use lib.Dec.{eqb}
use lib.ListN.{length, get_or, take, drop, replicate, length-drop, get_or-replicate, take-append-drop}
use lib.Seq.{take_all, take_at, drop_at, get_or-take, get_or-drop}
use borrow.Author.Tests.{eq-eqb, ne_eqb}
use Rattle.theory.specs.Words.{pick, below, turned, least_turn, smallest, root, marks_ok}
use Rattle.theory.specs.Rings.{cursor, before_w, letters_on}
use Rattle.theory.specs.Strips.{strip, strip_words, marks_from, window, place_of, place_in}
use Rattle.theory.specs.Sums.{cs}
use Rattle.theory.specs.Floors.{necklace_below}
use Rattle.theory.proofs.Base.{split, upto, over}
use Rattle.theory.proofs.Letters.{marks-take}
use Rattle.theory.specs.Prenecklaces.{Prenecklace}
use Rattle.theory.proofs.Powers.{same-root, root_is, root-size}
use Rattle.theory.proofs.Necklaces.{smallest_rot, smallest-length, smallest-marks, smallest_necklace, smallest_pre}
use Rattle.theory.proofs.Floors.{smallest_own}
use Rattle.theory.proofs.Reading.{letters-length, letters_split}
use Rattle.theory.proofs.Rings.{one_place}
use Rattle.theory.proofs.Locating.{RootWord, root-word, end_place, StartPlace, start_place, top_place, zero_place}
use Rattle.shape.specs.declared.Strip as DS
use Rattle.shape.specs.declared.Lengths.TheVariants.{Divisors}
use Rattle.shape.specs.Shapes.{WordOn}
use Rattle.shape.proofs.Limits.{Limits, limits}
use Rattle.floors.specs.Lowering.{Lowerable}
use Rattle.theory.proofs.Turns.{least_turn-smallest, least_turn-root}
use Rattle.automaton.specs.Tables.{Counted}
use Rattle.rings.specs.Moves.{HeldOn}
use Rattle.locator.specs.Fits.{leading, first_fit, cleared, Based, base_of}
use Rattle.locator.proofs.Bases.{cleared-rest, base_kept, base_lowered}
use Rattle.locator.proofs.Leading.{leading_length, leading-take, leading-most, leading_upto, leading_all}
use Rattle.locator.proofs.Fits.{stands, first_fit-found}

-- letters read on: a part of them is read from further on
letters_part : (m : ℕ) (s : List ℕ) (p t q c : ℕ) → q + c ≤ t → take c (drop q (letters_on m s p t)) ≡ letters_on m s (p + q) c
letters_part m s p t q c h =
    let e : t ≡ q + (c + (t - q - c)) = omega arith in
    let f : letters_on m s p t ≡ letters_on m s p q ++ (letters_on m s (p + q) c ++ letters_on m s (p + q + c) (t - q - c)) =
    ap (letters_on m s p) e ∙ letters_split m s p q (c + (t - q - c)) ∙ ap (λ x. letters_on m s p q ++ x) (letters_split m s (p + q) c (t - q - c)) in
    ap (λ x. take c (drop q x)) f
    ∙ ap (take c) (drop_at (letters_on m s p q) (letters_on m s (p + q) c ++ letters_on m s (p + q + c) (t - q - c)) q (letters-length m s p q))
    ∙ take_at (letters_on m s (p + q) c) (letters_on m s (p + q + c) (t - q - c)) c (letters-length m s (p + q) c)

-- the necklace in whose root word a window begins: its letters, and where the window stands before the end of that word
pub record Located (k n : ℕ) (w : List ℕ) (turn : ℕ) (v : List ℕ) : Type 0 where
  pub long : length v ≡ n
  pub marks : marks_ok k v ≡ true
  pub necklace : smallest v ≡ v
  pub inside : turn < root v
  pub place : place_of k n w + turn ≡ cs k v

module _ {s : DS.Strip} {w : List ℕ} (on : WordOn s w) where
  lim : Limits s.k s.n
  lim = limits s

  abbrev lead : ℕ
  lead = leading (s.k - 1) w

  abbrev turn : ℕ
  turn = least_turn w

  lead_inside : lead ≤ s.n
  lead_inside = omega (arith, leading_length (s.k - 1) w, on.long)

  rest-long : (i : ℕ) → length (drop i w) ≡ s.n - i
  rest-long i = length-drop i w ∙ ap (λ x. x - i) on.long

  found_there : (place_of s.k s.n w < s.k ^ s.n) × (window s.k s.n (place_of s.k s.n w) ≡ w)
  found_there = one_place.found s.k s.n w lim.two lim.some on.long on.marks

  pub place_small : place_of s.k s.n w < 2 ^ 60
  place_small = omega (arith, found_there.0, lim.range)

  -- letters k−1, then zeros
  wrap_shape : lead + leading 0 (drop lead w) ≡ s.n → w ≡ replicate lead (s.k - 1) ++ replicate (s.n - lead) 0
  wrap_shape h =
      let zeros : drop lead w ≡ replicate (s.n - lead) 0 =
      leading_all 0 (drop lead w) (omega (arith, rest-long lead)) ∙ ap (λ x. replicate x 0) (rest-long lead) in
      sym (take-append-drop lead w) ∙ ap₂ (λ x y. x ++ y) (leading-take (s.k - 1) w) zeros

  wrap_top : 1 ≤ lead → lead + leading 0 (drop lead w) ≡ s.n → place_of s.k s.n w + lead ≡ s.k ^ s.n
  wrap_top l h = top_place s.k s.n w lead lim.two lim.some l lead_inside (wrap_shape h)

  pub wrap_inside : lead + leading 0 (drop lead w) ≡ s.n → lead ≤ s.size
  wrap_inside h = elim (split 1 lead) [
    | upto l ↦ omega (arith, wrap_top l h, s.whole)
    | over l ↦ omega arith
  ]

  pub wrap_place : lead + leading 0 (drop lead w) ≡ s.n → pick (eqb lead 0) 0 (s.size - lead) ≡ place_of s.k s.n w
  wrap_place h = elim (split 1 lead) [ upto l ↦ top l | over l ↦ none (omega arith) ]
    where
      top : 1 ≤ lead → pick (eqb lead 0) 0 (s.size - lead) ≡ place_of s.k s.n w
      top l = ap (λ t. pick t 0 (s.size - lead)) (ne_eqb lead 0 (λ e. omega arith)) ∙ omega (arith, wrap_top l h, s.whole)

      none : lead ≡ 0 → pick (eqb lead 0) 0 (s.size - lead) ≡ place_of s.k s.n w
      none e =
          let all : s.n - lead ≡ s.n = omega arith in
          ap (λ t. pick t 0 (s.size - lead)) (eq-eqb lead 0 e)
          ∙ sym (zero_place s.k s.n w lim.two lim.some (wrap_shape h ∙ ap₂ (λ x y. replicate x (s.k - 1) ++ replicate y 0) e all))

  -- any other window
  module _ (other : ¬ (lead + leading 0 (drop lead w) ≡ s.n)) where
    some_letters : 0 < length w
    some_letters = omega (arith, on.long, lim.some)

    turn-smallest : turned turn w ≡ smallest w
    turn-smallest = least_turn-smallest w

    turn-root : turn < root w
    turn-root = least_turn-root w some_letters

    turn_inside : turn < s.n
    turn_inside = omega (arith, turn-root, root-size some_letters (root_is w some_letters), on.long)

    not_all : w ≢ replicate s.n (s.k - 1)
    not_all e =
        let all : s.n ≤ lead =
        leading-most (s.k - 1) s.n w (omega (arith, on.long)) (take_all s.n w (omega (arith, on.long)) ∙ e) in
        other (omega (arith, leading_length 0 (drop lead w), rest-long lead, lead_inside))

    not_zeros : turn ≤ lead → drop turn w ≢ replicate (s.n - turn) 0
    not_zeros l e = elim (split lead turn) [ upto h ↦ same (omega arith) | over h ↦ differ h ]
      where
        same : lead ≡ turn → ⊥
        same h =
            let zeros : take (s.n - lead) (drop lead w) ≡ replicate (s.n - lead) 0 =
            take_all (s.n - lead) (drop lead w) (omega (arith, rest-long lead)) ∙ subst (λ x. drop x w ≡ replicate (s.n - x) 0) (sym h) e in
            other (omega (arith, leading-most 0 (s.n - lead) (drop lead w) (omega (arith, rest-long lead)) zeros, leading_length 0 (drop lead w), rest-long lead, lead_inside))

        differ : turn < lead → ⊥
        differ h =
            let high : get_or w turn 0 ≡ s.k - 1 =
            sym (get_or-take lead w turn 0 h) ∙ ap (λ x. get_or x turn 0) (leading-take (s.k - 1) w) ∙ get_or-replicate lead turn (s.k - 1) 0 h in
            let low : get_or w (turn + 0) 0 ≡ 0 =
            sym (get_or-drop turn w 0 0) ∙ ap (λ x. get_or x 0 0) e ∙ get_or-replicate (s.n - turn) 0 0 0 (omega (arith, turn_inside)) in
            omega (arith, high, low, ap (λ x. get_or w x 0) (add-zero turn), lim.two)

    start : turn ≤ lead → StartPlace s.k s.n w turn (drop turn w ++ replicate turn 0)
    start l =
        start_place s.k s.n w turn lim.two lim.some on.long on.marks turn-smallest turn-root
        ((leading_upto (s.k - 1) turn w (omega (arith, on.long, turn_inside))).0 l) (not_zeros l) not_all

    -- the smallest rotation, with zeros in place of what it begins with
    rest : cleared turn (smallest w) ≡ drop turn w ++ replicate turn 0
    rest = ap (cleared turn) (sym turn-smallest) ∙ cleared-rest w turn (omega (arith, on.long, turn_inside))

    pub base_fits : Based s.k turn lead (smallest w)
    base_fits = record { inside = omega (arith, smallest-length w, on.long, turn_inside); lowers = λ l. subst (Lowerable s.k) (sym rest) (lowers l) }
      where
        lowers : turn ≤ lead → Lowerable s.k (drop turn w ++ replicate turn 0)
        lowers l =
            let p = start l in
            record {
              lettered = record { some = omega (arith, lim.two); byte = omega (arith, lim.most); marks = p.marks };
              above = subst (λ x. below (replicate x 0) (drop turn w ++ replicate turn 0) ≡ true) (sym p.long) p.above_zeros;
            }

    pub located : Located s.k s.n w turn (base_of s.k turn lead (smallest w))
    located = elim (split turn lead) [ upto l ↦ lowered l | over l ↦ rotated l ]
      where
        lowered : turn ≤ lead → Located s.k s.n w turn (base_of s.k turn lead (smallest w))
        lowered l =
            let p = start l in
            let is : necklace_below s.k (drop turn w ++ replicate turn 0) ≡ base_of s.k turn lead (smallest w) =
            ap (necklace_below s.k) (sym rest) ∙ base_lowered s.k turn lead (smallest w) l in
            subst (Located s.k s.n w turn) is (record { long = p.below_long; marks = p.below_marks; necklace = p.below_necklace; inside = p.turn_inside; place = p.place })

        rotated : lead < turn → Located s.k s.n w turn (base_of s.k turn lead (smallest w))
        rotated l =
            subst (Located s.k s.n w turn) (base_kept s.k turn lead (smallest w) l) (record {
              long = smallest-length w ∙ on.long;
              marks = smallest-marks s.k w on.marks;
              necklace = smallest_own (smallest_necklace w);
              inside = subst (λ x. turn < x) (same-root (smallest_rot w) some_letters) turn-root;
              place = end_place s.k s.n w turn lim.two lim.some on.long on.marks turn-smallest turn-root (λ e. most (leading-most (s.k - 1) turn w (omega (arith, on.long, turn_inside)) e));
            })
          where
            most : turn ≤ lead → ⊥
            most h = omega arith

  -- the word read from its start, with n letters after it: the window first fits at its place
  module _ {turn : ℕ} {v : List ℕ} (at : Located s.k s.n w turn v) where
    pub base_root : RootWord s.k s.n v
    base_root = root-word s.k s.n v lim.some at.long at.necklace at.marks

    pub root_inside : root v ≤ s.n
    root_inside =
        let some : 0 < length v = omega (arith, at.long, lim.some) in
        omega (arith, root-size some (root_is v some), at.long)

    pub base_counted : Counted s.k v × Prenecklace v × (s.size ≡ s.k ^ length v)
    base_counted = (
      record {
        two = lim.two;
        marks = at.marks;
        some = omega (arith, at.long, lim.some);
        short = omega (arith, at.long, lim.short);
        range = subst (λ x. s.k ^ x ≤ 2 ^ 60) (sym at.long) lim.range;
      },
      smallest_pre v at.necklace,
      s.whole ∙ ap (λ x. s.k ^ x) (sym at.long),
    )

    pub base_held : HeldOn Divisors s v (root v) × (0 < root v)
    base_held = (
      record {
        size = at.long;
        allowed = base_root.divisor;
        marks = marks-take s.k (root v) v at.marks;
        lyndon = base_root.lyndon;
      },
      base_root.some,
    )

    abbrev front : ℕ
    front = before_w (take (root v) v) (strip_words s.k s.n)

    front_place : place_of s.k s.n w + turn ≡ front + root v
    front_place = at.place ∙ sym base_root.ends

    module _ (text : List ℕ) (is : text ≡ marks_from s.k s.n (place_in (cursor s.k s.n (take (root v) v) 0)) (root v + s.n)) where
      pub text_length : length text ≡ root v + s.n
      text_length = ap length is ∙ letters-length (s.k ^ s.n) (strip s.k s.n) (place_in (cursor s.k s.n (take (root v) v) 0)) (root v + s.n)

      reads : (o : ℕ) → o ≤ root v → stands text w o ≡ window s.k s.n (front + o)
      reads o h =
          ap₂ (λ x y. take x (drop o y)) on.long is
          ∙ letters_part (s.k ^ s.n) (strip s.k s.n) (front + 0) (root v + s.n) o s.n (omega arith)
          ∙ ap (λ x. window s.k s.n (x + o)) (add-zero front)

      there : place_of s.k s.n w ≡ front + (root v - turn)
      there = omega (arith, front_place, at.inside)

      fitted : (first_fit text w ≤ root v - turn) × (stands text w (first_fit text w) ≡ w)
      fitted =
          first_fit-found text w (root v - turn) (omega (arith, text_length, on.long))
          (reads (root v - turn) (omega arith) ∙ ap (window s.k s.n) (sym there) ∙ found_there.1)

      pub fit_place : cs s.k v - root v + first_fit text w ≡ place_of s.k s.n w
      fit_place =
          let only : place_of s.k s.n w ≡ front + first_fit text w =
          one_place.only s.k s.n (front + first_fit text w) w lim.two lim.some (omega (arith, fitted.0, there, found_there.0)) (sym (reads (first_fit text w) (omega (arith, fitted.0))) ∙ fitted.1) in
          omega (arith, only, base_root.ends)

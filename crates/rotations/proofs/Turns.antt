-- Rotations, letter by letter; the least turn, one turn after another.
use mathlib.Core.Path.{◌≡◌, sym, ◌∙◌, ap}
use mathlib.Core.Bool.{true, false}
use mathlib.Core.List.{List}
use mathlib.Core.Logic.{◌⊎◌, inl, inr}
use Prim.Native.Nat.{ℕ, suc, ◌+◌, ◌-◌, ◌<◌}
use native.Mathlib.Omega.{arith}
use native.Mathlib.Numerals.{add-one}
use lib.ListN.{length, get_or, take, drop, length-drop, get_or-append}
use lib.Seq.{get_or-take, get_or-drop, get_or-append-add}
use Rattle.theory.specs.Words.{pick, below, turned, turn_from}
use Rattle.theory.proofs.Turns.{turned-length, turn_fits, least_turn-smallest}
use Rattle.lyndon.proofs.Scans.{below_less, below_more, below_on}

-- the place x, in a word of n letters, of the letter j of its rotation by i
pub record Place (n i j x : ℕ) : Type 0 where
  pub inside : x < n
  pub counted : (x ≡ i + j) ⊎ (x + n ≡ i + j)

-- the next place: one on, or back at the start
pub place_on_lem : {n i j x y : ℕ} → ¬ (x + 1 ≡ n) → y ≡ x + 1 → Place n i j x → Place n i (j + 1) y
place_on_lem {n} {i} {j} {x} {y} h e p =
    record { inside = omega (arith, p.inside); counted = elim p.counted [ inl q ↦ inl (omega arith) | inr q ↦ inr (omega arith) ] }

pub place_wrap : {n i j x y : ℕ} → i < n → j < n → x + 1 ≡ n → y ≡ 0 → Place n i j x → Place n i (j + 1) y
place_wrap {n} {i} {j} {x} {y} h g e f p =
    record { inside = omega arith; counted = elim p.counted [ inl q ↦ inr (omega arith) | inr q ↦ absurd (omega arith) ] }

pub place_letter : (w : List ℕ) (i j x : ℕ) → i < length w → j < length w → Place (length w) i j x → get_or (turned i w) j 0 ≡ get_or w x 0
place_letter w i j x h l p = elim p.counted [ inl e ↦ first e | inr e ↦ round e ]
  where
    first : x ≡ i + j → get_or (turned i w) j 0 ≡ get_or w x 0
    first e =
        let within : j < length (drop i w) = omega (arith, length-drop i w, p.inside) in
        get_or-append (drop i w) (take i w) 0 j within ∙ get_or-drop i w j 0 ∙ ap (λ r. get_or w r 0) (sym e)

    round : x + length w ≡ i + j → get_or (turned i w) j 0 ≡ get_or w x 0
    round e =
        let beyond : j ≡ length (drop i w) + x = omega (arith, length-drop i w) in
        let within : x < i = omega (arith, length-drop i w) in
        ap (λ r. get_or (turned i w) r 0) beyond ∙ get_or-append-add (drop i w) (take i w) x 0 ∙ get_or-take i w x 0 within

-- the least turn, one turn after another
pub turn_step : (w : List ℕ) (i b : ℕ) → i < length w
    → turn_from (length w - i) i w b ≡ turn_from (length w - (i + 1)) (i + 1) w (pick (below (turned i w) (turned b w)) i b)
turn_step w i b h =
    let n : length w - i ≡ suc (length w - (i + 1)) = omega arith in
    rw (n, add-one i)

-- two rotations compared: their first j letters agree, and the next ones stand at x and y
pub record Turning (w : List ℕ) (i b j x y : ℕ) : Type 0 where
  pub left : Place (length w) i j x
  pub right : Place (length w) b j y
  pub so_far : below (turned i w) (turned b w) ≡ below (drop j (turned i w)) (drop j (turned b w))

module _ (w : List ℕ) (i b j x y : ℕ) (left-turn : i < length w) (right-turn : b < length w) (inside : j < length w) (at : Turning w i b j x y) where
  left_inside : j < length (turned i w)
  left_inside = omega (arith, turned-length i w (omega arith))

  right_inside : j < length (turned b w)
  right_inside = omega (arith, turned-length b w (omega arith))

  left_letter : get_or (turned i w) j 0 ≡ get_or w x 0
  left_letter = place_letter w i j x left-turn inside at.left

  right_letter : get_or (turned b w) j 0 ≡ get_or w y 0
  right_letter = place_letter w b j y right-turn inside at.right

  pub turning_less : get_or w x 0 < get_or w y 0 → below (turned i w) (turned b w) ≡ true
  turning_less l =
      at.so_far ∙ below_less (turned i w) (turned b w) j left_inside right_inside (omega (arith, left_letter, right_letter))

  pub turning_more : get_or w y 0 < get_or w x 0 → below (turned i w) (turned b w) ≡ false
  turning_more l =
      at.so_far ∙ below_more (turned i w) (turned b w) j left_inside right_inside (omega (arith, left_letter, right_letter))

  pub turning_on : {x' y' : ℕ} → get_or w x 0 ≡ get_or w y 0 → Place (length w) i (j + 1) x' → Place (length w) b (j + 1) y' → Turning w i b (j + 1) x' y'
  turning_on e p q = record {
    left = p;
    right = q;
    so_far = at.so_far ∙ below_on (turned i w) (turned b w) j left_inside right_inside (left_letter ∙ e ∙ sym right_letter);
  }

-- the word turned by the least turn
pub ruleset smallest_laws = (turn_fits, least_turn-smallest)

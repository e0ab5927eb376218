-- Both ways round a ring: a step and a step back undo each other and pass as many words, and a cursor that goes either way follows the ring.
use mathlib.Core.Path.{◌≡◌, refl, sym, ◌∙◌, ap, ap₂}
use mathlib.Core.Bool.{Bool, true, false}
use mathlib.Core.List.{List, [], ◌∷◌}
use Prim.Native.Nat.{ℕ, ◌≤◌, ◌<◌}
use lib.ListN.{length}
use Rattle.theory.specs.Rings.{Allowed, ring, letter_on, Cursor, good_on, position_on, cursor_on, passed_to, passed_down, step_on, back_on, beside, path_end, path_letters, move_on, walk_end, walk_letters}
use Rattle.theory.specs.Theorems.{CursorsOn, BothWays}
use Rattle.theory.proofs.Reading.{beside_back, beside_again}
use Rattle.theory.proofs.Steps.{steps}
use Rattle.theory.proofs.Cursors.{good_listed, step_kept, back_kept, ring_cursors, ring_backward}

module _ (ok : ℕ → Bool) (k n : ℕ) (two : 2 ≤ k) (one : 1 ≤ n) (allowed : Allowed n ok) where
  abbrev s : List ℕ
  s = ring ok k n

  -- a good cursor of the ring
  record On (c : Cursor) : Type 0 where
    letters : c.k ≡ k
    marks : c.n ≡ n
    good : good_on ok c ≡ true

  on : CursorsOn ok k n
  on = ring_cursors ok k n two one allowed

  within : {c : Cursor} → On c → position_on ok c < length s
  within {c} g = on.within c g.letters g.marks g.good

  -- there is one for each position
  same_place : {c d : Cursor} → On c → On d → position_on ok c ≡ position_on ok d → c ≡ d
  same_place {c} {d} g h e =
      sym (on.one c g.letters g.marks g.good) ∙ ap (cursor_on ok k n) e ∙ on.one d h.letters h.marks h.good

  -- a move: the letter, the cursor, its position
  record Goes (d : Bool) (c : Cursor) : Type 0 where
    reads : (move_on ok d c).mark ≡ letter_on (length s) s (position_on ok c)
    then : On (move_on ok d c).cursor_is
    stands : position_on ok (move_on ok d c).cursor_is ≡ beside (length s) d (position_on ok c)

  goes : (d : Bool) {c : Cursor} → On c → Goes d c
  goes true {c} g =
      let (reads, good, stands, _, _) = on.onward c g.letters g.marks g.good in
      let (letters, marks) = step_kept ok c in
      record { reads = reads; then = record { letters = letters ∙ g.letters; marks = marks ∙ g.marks; good = good }; stands = stands }
  goes false {c} g =
      let (reads, good, stands, _, _) = ring_backward ok k n two one allowed c g.letters g.marks g.good in
      let (letters, marks) = back_kept ok c in
      record { reads = reads; then = record { letters = letters ∙ g.letters; marks = marks ∙ g.marks; good = good }; stands = stands }

  back_step : {c : Cursor} → On c → (back_on ok (step_on ok c).cursor_is).cursor_is ≡ c
  back_step {c} g =
      let there = goes true g in
      let back = goes false there.then in
      same_place back.then g (back.stands ∙ ap (beside (length s) false) there.stands ∙ beside_back (position_on ok c) (length s) (within g))

  step_back : {c : Cursor} → On c → (step_on ok (back_on ok c).cursor_is).cursor_is ≡ c
  step_back {c} g =
      let back = goes false g in
      let there = goes true back.then in
      same_place there.then g (there.stands ∙ ap (beside (length s) true) back.stands ∙ beside_again (position_on ok c) (length s) (within g))

  as_many : {c : Cursor} → On c → (step_on ok (back_on ok c).cursor_is).passed ≡ (back_on ok c).passed
  as_many {c} g =
      let b = (back_on ok c).cursor_is in
      let then = (goes false g).then in
      let (_, _, _, onward, _) = on.onward b then.letters then.marks then.good in
      let (_, _, _, backward, _) = ring_backward ok k n two one allowed c g.letters g.marks g.good in
      let same : passed_down k n c.word b.word ≡ passed_to k n b.word c.word =
      (steps k n two one).passed_back_lem b.word c.word (good_listed ok k n two one allowed b then.letters then.marks then.good) (good_listed ok k n two one allowed c g.letters g.marks g.good) in
      onward ∙ ap (λ x. passed_to k n b.word x.word) (step_back g) ∙ sym same ∙ sym backward

  follows : (ds : List Bool) {c : Cursor} → On c
      → (walk_letters ok ds c ≡ path_letters (length s) s ds (position_on ok c)) × On (walk_end ok ds c) × (position_on ok (walk_end ok ds c) ≡ path_end (length s) ds (position_on ok c))
  follows [] g = (refl, g, refl)
  follows (d ∷ ds) g =
      let m = goes d g in
      let (letters, end, position) = follows ds m.then in
      (ap₂ (λ a r. a ∷ r) m.reads (letters ∙ ap (path_letters (length s) s ds) m.stands), end, position ∙ ap (path_end (length s) ds) m.stands)

  pub both_ways : BothWays ok k n
  both_ways = record {
    backward = ring_backward ok k n two one allowed;
    back_step = λ c a b g. back_step {c = c} (record { letters = a; marks = b; good = g });
    step_back = λ c a b g. step_back {c = c} (record { letters = a; marks = b; good = g });
    as_many = λ c a b g. as_many {c = c} (record { letters = a; marks = b; good = g });
    follows = λ c ds a b g. let (letters, end, position) = follows ds {c = c} (record { letters = a; marks = b; good = g }) in (letters, end.good, position);
  }

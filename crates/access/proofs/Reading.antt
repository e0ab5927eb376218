-- The letters read from the word that holds a position.
use mathlib.Core.Path.{◌≡◌, sym, ◌∙◌, ap, subst}
use mathlib.Core.List.{List, head-eq_of_cons-eq}
use Prim.Native.Nat.{ℕ, ◌<◌}
use native.Mathlib.Omega.{arith}
use lib.ListN.{length, get_or, take, drop, replicate}
use lib.Seq.{drop-cons, get_or-take, length-take-le}
use Rattle.shape.specs.declared.Strip as DS
use Rattle.shape.proofs.Limits.{limits}
use Rattle.theory.specs.Rings.{cursor, position_in}
use Rattle.shape.specs.declared.Lengths.{Lengths}
use Rattle.shape.specs.declared.ring.Place as DP
use Rattle.shape.specs.Rings.{ok_of, letter_of, letters_of}
use Rattle.shape.proofs.Rings.{size_in_lem, cursors_of}
use Rattle.rings.proofs.Moving.{held-length, held_in}
use Rattle.rings.proofs.Printing.{word_read}
use Rattle.access.specs.declared.Spot as DO
use Rattle.access.specs.Holders.{HoldsAt}

-- 60 bytes hold a word of the strip
abbrev pub room : List ℕ
room = replicate 60 0

pub in_room : (s : DS.Strip) → length (take s.n room) ≡ s.n
in_room s = length-take-le s.n room (omega (arith, (limits s).short))

module _ (x : DP.Place) {v : List ℕ} {r : DO.Spot} (a : HoldsAt x.ring.lengths x.ring.strip x.at v r) where
  abbrev lengths : Lengths
  lengths = x.ring.lengths

  abbrev s : DS.Strip
  s = x.ring.strip

  pub held_place : position_in (ok_of lengths) (cursor s.k s.n (take r.long v) r.at) ≡ x.at
  held_place =
      let t = limits s in
      ap (position_in (ok_of lengths)) a.is ∙ ((cursors_of lengths).there s.k s.n x.at t.two t.some (subst (λ m. x.at < m) (size_in_lem lengths s) x.on)).1

  pub held_letter : get_or v r.at 0 ≡ letter_of lengths s.k s.n x.at
  held_letter =
      let t = limits s in
      let u : List ℕ = take r.long v in
      let long : length u ≡ r.long = held-length a.held in
      let read : letters_of lengths s.k s.n (position_in (ok_of lengths) (cursor s.k s.n u r.at)) 1 ≡ take 1 (drop r.at u) = word_read lengths s.k s.n t.two t.some u r.at 1 (held_in a.held) (omega (arith, long, a.inside)) in
      sym (get_or-take r.long v r.at 0 a.inside)
      ∙ sym (head-eq_of_cons-eq (read ∙ ap (take 1) (drop-cons u r.at 0 (omega (arith, long, a.inside))))) ∙ ap (letter_of lengths s.k s.n) held_place

-- A word copied to a buffer and lowered to the largest necklace not above it, whose sum is n times the word's rank.
use mathlib.Core.Path.{◌≡◌, sym, ◌∙◌, ap, subst}
use mathlib.Core.List.{List, ◌++◌, append-nil}
use Prim.Native.Nat.{ℕ, ◌*◌, ◌≤◌}
use native.Mathlib.Omega.{arith}
use lib.IntN.{pos}
use lib.ListN.{length, take, drop_of_length-le}
use lib.Seq.{length-take-le}
use Rattle.shape.specs.declared.Strip as DS
use Rattle.shape.specs.Shapes.{WordOn}
use Rattle.shape.proofs.Limits.{limits}
use Rattle.buffers.specs.Buffers.{over}
use Rattle.lyndon.specs.Letters.{Lettered}
use Rattle.theory.specs.Words.{rank}
use Rattle.theory.specs.Floors.{necklace_up_to}
use Rattle.theory.specs.Prenecklaces.{Prenecklace}
use Rattle.theory.proofs.Necklaces.{smallest_pre}
use Rattle.theory.proofs.Floors.{floor_is, floor_rank}
use Rattle.automaton.specs.Tables.{Sized}
use Rattle.moebius.specs.Summands.{total}
use Rattle.ranks.proofs.Quotients.{rank-sum}

-- over a buffer of the same length
pub copied : (w room : List ℕ) {out : List ℕ} → length w ≤ length room → out ≡ over w (take (length w) room) → out ≡ w
copied w room h e =
    let short : length (take (length w) room) ≤ length w = omega (arith, length-take-le (length w) room h) in
    e ∙ ap (λ r. w ++ r) (drop_of_length-le (take (length w) room) short) ∙ append-nil w

pub lettered : {s : DS.Strip} {w u : List ℕ} → WordOn s w → u ≡ w → Lettered s.k u
lettered {s} h e =
    let l = limits s in
    subst (Lettered s.k) (sym e) (record { some = omega (arith, l.two); byte = omega (arith, l.most); marks = h.marks })

-- the largest necklace not above a word of the strip
pub floored : {s : DS.Strip} {w : List ℕ} → WordOn s w → let v = necklace_up_to s.k w in WordOn s v × Prenecklace v
floored {s} {w} h = let r = floor_is s.k w h.marks in (record { long = r.0 ∙ h.long; marks = r.1 }, smallest_pre _ r.2)

-- the sum of its sizes of CS is n times the word's rank
pub floored_sum : {s : DS.Strip} {w t : List ℕ} → WordOn s w → Sized s.k (necklace_up_to s.k w) t → total s.n t ≡ pos (s.n * rank s.k w)
floored_sum {s} {w} h t =
    let (on, pre) = floored h in
    rank-sum s.k s.n _ _ on.long (limits s).some pre t ∙ ap (λ r. pos (s.n * r)) (floor_rank s.k w h.marks)

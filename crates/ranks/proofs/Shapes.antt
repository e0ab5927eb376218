-- What is known of an admitted strip and of a word on it, as the path counts and the sums ask for it; and how far so many Lyndon words reach.
use mathlib.Core.Path.{sym, subst}
use mathlib.Core.List.{List}
use Prim.Native.Nat.{ℕ, ◌*◌, ◌^◌, ◌≤◌}
use native.Mathlib.Omega.{arith}
use native.Mathlib.Nat.{mul-le-mul_left}
use Rattle.theory.specs.Words.{how_many, rank}
use Rattle.theory.proofs.Levels.{rank_most}
use Rattle.shape.specs.declared.Strip as DS
use Rattle.automaton.specs.Tables.{Counted, Sized}
use Rattle.moebius.specs.Summands.{Summable, Powers}
use Rattle.shape.specs.declared.Lengths.TheVariants.{Whole}
use Rattle.shape.specs.Shapes.{WordOn}
use Rattle.shape.proofs.Limits.{Limits, limits}
use Rattle.shape.proofs.Rings.{size-most}

pub counted : {s : DS.Strip} {w : List ℕ} → WordOn s w → Counted s.k w
counted {s} {w} h =
    let l = limits s in
    record {
      two = l.two;
      marks = h.marks;
      some = omega (arith, h.long, l.some);
      short = omega (arith, h.long, l.short);
      range = subst (λ m. s.k ^ m ≤ 2 ^ 60) (sym h.long) l.range;
    }

pub sized_summable : {k n : ℕ} {w t : List ℕ} → Limits k n → Sized k w t → Summable k n t
sized_summable l t = record { two = l.two; some = l.some; short = l.short; range = l.range; small = t.small }

pub powers_summable : {k n : ℕ} {t : List ℕ} → Limits k n → Powers k n t → Summable k n t
powers_summable l t = record { two = l.two; some = l.some; short = l.short; range = l.range; small = t.small }

-- n letters for each of so many words are no more than the strip has, also up to any word's rank
pub words_fit : (s : DS.Strip) {words : ℕ} → words ≤ how_many s.k s.n → s.n * words ≤ 2 ^ 60
words_fit s l = let r = limits s in omega (arith, mul-le-mul_left s.n l, size-most Whole s.k s.n r.two r.some, r.range)

pub rank-counted : {s : DS.Strip} {v : List ℕ} → WordOn s v → rank s.k v ≤ how_many s.k s.n
rank-counted {s} {v} h = subst (λ m. rank s.k v ≤ how_many s.k m) h.long (rank_most s.k v)

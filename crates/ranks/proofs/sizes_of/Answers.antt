-- `ranks::sizes_of`: the word is copied and lowered to the largest necklace not above it, whose sizes of CS one table gives.
use mathlib.Core.Path.{◌≡◌, sym, ◌∙◌, ap, subst}
use native.Mathlib.Omega.{arith}
use mathlib.Core.List.{List}
use Prim.Native.Nat.{ℕ, ◌≤◌}
use lib.ListN.{length, replicate}
use Rattle.shape.specs.declared.Strip.{Strip}
use Rattle.shape.specs.Shapes.{WordOn}
use Rattle.theory.specs.Floors.{necklace_up_to}
use Rattle.theory.specs.Prenecklaces.{Prenecklace}
use Rattle.shape.proofs.Limits.{limits}
use Rattle.automaton.specs.Tables.{Counted}
use Rattle.ranks.proofs.Shapes.{counted}
use Rattle.ranks.proofs.Floored.{copied, floored}
use Rattle.ranks.proofs.sizes_of.Goals.{After-copy, After-floor}
use Rattle.ranks.proofs.sizes_of.Goals as goal

-- the word is no longer than the buffer
short : {s : Strip} {w : List ℕ} → WordOn s w → length w ≤ 60
short {s} h = omega (arith, h.long, (limits s).short)

-- after the copy: the buffer is the word
same : (c : After-copy) → c.copy.new.out ≡ c.args.word.letters.now
same c = copied _ (replicate 60 0) (short c.args.word.on) c.copy.ensures

-- after it is lowered
low : (c : After-floor) → let a = c.args in c.floor.new.w ≡ necklace_up_to a.word.strip.k a.word.letters.now
low c = c.floor.ensures ∙ ap (necklace_up_to c.args.word.strip.k) (copied _ (replicate 60 0) (short c.args.word.on) c.copy.ensures)

pub sizes-requires : goal.sizes-requires
sizes-requires c =
    subst (λ v. Counted c.args.word.strip.k v × Prenecklace v) (sym (low (goal.at.sizes-requires c).After-floor)) (let (on, pre) = floored c.args.word.on in (counted on, pre))

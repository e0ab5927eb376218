-- Text added to a buffer: nothing, text behind text, and text over a part; and where it ends.
use mathlib.Core.Path.{◌≡◌, ◌∙◌, ap}
use mathlib.Core.List.{List, [], ◌++◌, append_assoc}
use Prim.Native.Nat.{ℕ, ◌-◌, ◌≤◌}
use native.Mathlib.Omega.{arith}
use Rattle.std.proofs.Common.{rules}
use Rattle.std.proofs.lemmas.Slice.{overwrites}
use lib.ListN.{length, take, drop, length-append, length-take}
use lib.Seq.{length-take-le, drop-drop}
use borrow.Rule.Slice.PartMut.{put_mid}
use Rattle.texts.specs.Texts.{Adds}

pub adds_none : (b : List ℕ) (at : ℕ) → Adds b at [] b at
adds_none b at = search rules

-- it ends within the buffer
pub adds_within : {b c : List ℕ} {at e : ℕ} {x : List ℕ} → Adds b at x c e → at ≤ length b → e ≤ length c
adds_within {b} {c} {at} {e} {x} p h =
    omega (arith, p.ends, ap length p.stands, length-append (take at b) x, length-take-le at b h, length-take e c)

-- one text behind the other
pub adds_more : {b c d : List ℕ} {at e f : ℕ} {x y : List ℕ} → Adds b at x c e → Adds c e y d f → Adds b at (x ++ y) d f
adds_more {b} {c} {d} {at} {e} {f} {x} {y} p q =
    record {
      ends = omega (arith, p.ends, q.ends, length-append x y);
      stands = q.stands ∙ ap (λ r. r ++ y) p.stands ∙ append_assoc (take at b) x y;
      behind = q.behind ∙ rw (q.ends, ← drop-drop (length y) e c, ← drop-drop (length y) e b) (ap (drop (length y)) p.behind);
    }

-- a text written over a part of the buffer from e up to f, which the borrow rules put back in its place
pub adds_part : (c text : List ℕ) (e f : ℕ) → e ≤ f → f ≤ length c → length text ≡ f - e → Adds c e text (put_mid e (f - e) c text) f
adds_part c text e f h g l = record { ends = omega arith; stands = search (rules, overwrites); behind = search (rules, overwrites) }

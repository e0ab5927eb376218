-- Text added by a writer: nothing, text behind text, and room for the next.
use mathlib.Core.Path.{◌≡◌, refl, ◌∙◌}
use mathlib.Core.List.{List, [], ◌++◌}
use Prim.Native.Nat.{ℕ, ◌+◌}
use native.Mathlib.Omega.{arith}
use lib.ListN.{length}
use Rattle.texts.specs.declared.Text.{Text}
use Rattle.texts.specs.Writers.{HasRoom, Writes}
use Rattle.texts.proofs.Adding.{adds_none, adds_more}

pub writes_none : (t : Text) → Writes t [] t
writes_none t = record { adds = adds_none _ _; whole = refl; same_buffer = refl }

-- the same text said otherwise
pub writes_as : {a b : Text} {x text : List ℕ} → Writes a x b → x ≡ text → Writes a text b
writes_as w t = rw (← t) w

-- one text behind the other
pub writes_more : {a b c : Text} {x y : List ℕ} → Writes a x b → Writes b y c → Writes a (x ++ y) c
writes_more w v = record { adds = adds_more w.adds v.adds; whole = v.whole ∙ w.whole; same_buffer = v.same_buffer ∙ w.same_buffer }

-- room that a text leaves
pub room_left : {a b : Text} {x : List ℕ} (l : ℕ) → Writes a x b → HasRoom a (length x + l) → HasRoom b l
room_left l w h = omega (arith, w.whole, w.adds.ends)

-- the same writer before it
pub writes_from : {a b c : Text} {x : List ℕ} → a ≡ b → Writes a x c → Writes b x c
writes_from e w = rw (← e) w

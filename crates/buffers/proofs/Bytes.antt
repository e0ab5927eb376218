-- Bytes over the start of a buffer.
use mathlib.Core.Path.{◌≡◌}
use mathlib.Core.List.{List, ◌++◌}
use Prim.Native.Nat.{ℕ, ◌-◌, ◌≤◌}
use Rattle.std.proofs.Common.{rules}
use Rattle.std.proofs.lemmas.List.{places}
use Rattle.std.proofs.lemmas.Slice.{overwrites}
use lib.ListN.{length, take, drop}
use borrow.Rule.Slice.PartMut.{put_mid}
use Rattle.buffers.specs.Buffers.{over}

-- bytes written to what is left of a buffer behind its first bytes, which the borrow rules put back in its place
pub handed_on : (F G t T L : List ℕ) (f : ℕ) → length F ≡ f → T ≡ F ++ drop f t → L ≡ over G (take (length T - f) (drop f T)) → f ≤ length t
    → put_mid f (length T - f) T L ≡ over (F ++ G) t
handed_on F G t T L f e h g l = search (rules, overwrites)

pub over-length : (xs ys : List ℕ) → length xs ≤ length ys → length (over xs ys) ≡ length ys
over-length xs ys h = search (rules, places)

-- bytes over all of a buffer
pub over-whole : (xs ys : List ℕ) → length xs ≡ length ys → over xs ys ≡ xs
over-whole xs ys e = search (rules, overwrites)

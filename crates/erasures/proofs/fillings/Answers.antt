-- fillings: the first power of k, for one erasure.
use mathlib.Core.Path.{◌≡◌}
use native.Mathlib.Omega.{arith}
use native.Mathlib.Nat.{pow-zero, pow-suc}
use lib.ListN.{length}
use Rattle.theory.specs.Words.{keep}
use Rattle.theory.specs.Erasures.{unread}
use Rattle.erasures.proofs.fillings.Goals as goal

pub returns-in-1 : goal.returns-in-1
returns-in-1 c = let one : length (keep unread c.args.w.now) ≡ 1 = omega arith in rw (one, pow-suc c.args.k 0, pow-zero) (omega arith)

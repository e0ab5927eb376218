-- `ranks::quotient`: the sum is n times a number, so its n-th part is that number.
use mathlib.Core.Path.{◌≡◌, ◌∙◌, ap}
use native.Mathlib.Omega.{arith}
use lib.IntN.{pos}
use Rattle.theory.specs.Sums.{running}
use Rattle.theory.proofs.Downwards.{in_all}
use Rattle.moebius.specs.Summands.{summand, total}
use Rattle.ranks.proofs.Quotients.{cast_ok, part}
use Rattle.ranks.proofs.quotient.Goals.{After-divisor_sum-sum}
use Rattle.ranks.proofs.quotient.Goals as goal

-- the sum is over all divisors
sum_is : (c : After-divisor_sum-sum) → let a = c.args in c.divisor_sum-sum.result ≡ total a.s.n a.sizes.now
sum_is c = let a = c.args in c.divisor_sum-sum.ensures ∙ ap (running (summand a.s.n a.sizes.now) (pos 0)) (in_all a.s.n a.s.n (omega arith))

pub overflow_cast-result : goal.overflow_cast-result
overflow_cast-result c =
    cast_ok c.divisor_sum-sum.result c.args.s.n c.requires.1.0 (sum_is (goal.at.overflow_cast-result c).After-divisor_sum-sum ∙ c.requires.1.1) (record { sfits = c.divisor_sum-sum.type_inv })

pub returns : goal.returns
returns c =
    part c.divisor_sum-sum.result c.args.s.n c.requires.1.0 (sum_is (goal.at.returns c).After-divisor_sum-sum ∙ c.requires.1.1) (record { sfits = c.divisor_sum-sum.type_inv }) (omega (arith, c.requires.0.some)) ∙ sum_is (goal.at.returns c).After-divisor_sum-sum

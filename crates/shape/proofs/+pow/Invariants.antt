-- `shape::pow` is the power up to the limit, by the power with half the exponent.
use Rattle.shape.proofs.+pow.Given as goal

abbrev pub decreases-pow : goal.decreases-pow
decreases-pow l = l.n

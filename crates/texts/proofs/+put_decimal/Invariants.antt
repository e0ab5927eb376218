-- `texts::put_decimal` adds a number's digits: those of its tenth, then the last.
use Rattle.texts.proofs.+put_decimal.Given as goal

abbrev pub decreases-put_decimal : goal.decreases-put_decimal
decreases-put_decimal l = l.v

-- `theory::proved` meets its contract: the theorems are the record's value.
use Rattle.theory.proofs.Theorems.{theorems}
use Rattle.theory.proofs.proved.Goals as goal

pub returns : goal.returns
returns c = theorems

-- `search::find` finds the word searched for letter by letter.
use Rattle.search.proofs.Searches.{SearchedTo}
use Rattle.search.proofs.find.Given as goal

abbrev pub invariant-loop-j : goal.invariant-loop-j
invariant-loop-j l = SearchedTo l.s l.goal l.out l.j l.period

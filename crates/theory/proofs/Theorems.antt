-- Everything that the theory proves, in one value.
use Rattle.theory.specs.Theorems.{Theorems}
use Rattle.theory.proofs.Marked.{marked}
use Rattle.theory.proofs.Listed.{listed}
use Rattle.theory.proofs.Ranks.{undone}
use Rattle.theory.proofs.Turns.{word_laws}
use Rattle.theory.proofs.Laws.{lyndon_laws}
use Rattle.theory.proofs.Steps.{steps}
use Rattle.theory.proofs.Rings.{rings, one_place}
use Rattle.theory.proofs.Cursors.{ring_cursors}
use Rattle.theory.proofs.Back.{both_ways}
use Rattle.theory.proofs.Strips.{cursors}
use Rattle.theory.proofs.Shorts.{short_ring_lem, short_cursors}
use Rattle.theory.proofs.Records.{records}
use Rattle.theory.proofs.Laying.{laid, laid_across, laid_where, laid_each, laid_only, laid_at_lem}
use Rattle.theory.proofs.Erasures.{smudged}
use Rattle.theory.proofs.Substitutions.{misread_laws}
use Rattle.theory.proofs.Prices.{priced}
use Rattle.theory.proofs.Topological.{ordered}
use Rattle.theory.proofs.Downwards.{summed}
use Rattle.theory.proofs.Floors.{floors}
use Rattle.theory.proofs.Ends.{ends, strip_ends, short_ends}
use Rattle.theory.proofs.Sizes.{automaton}
use Rattle.theory.proofs.Positions.{searched}

pub theorems : Theorems
theorems =
    record {
      marked = marked;
      listed = listed;
      undone = undone;
      word_laws = word_laws;
      lyndon_laws = lyndon_laws;
      steps = steps;
      rings = rings;
      ring_cursors = ring_cursors;
      both_ways = both_ways;
      one_place = one_place;
      cursors = cursors;
      short_ring_lem = short_ring_lem;
      short_cursors = short_cursors;
      records = records;
      laid = laid;
      laid_across = laid_across;
      laid_where = laid_where;
      laid_each = laid_each;
      laid_only = laid_only;
      laid_at_lem = laid_at_lem;
      smudged = smudged;
      misread = misread_laws;
      priced = priced;
      ordered = ordered;
      summed = summed;
      floors = floors;
      ends = ends;
      strip_ends = strip_ends;
      short_ends = short_ends;
      automaton = automaton;
      searched = searched;
    }

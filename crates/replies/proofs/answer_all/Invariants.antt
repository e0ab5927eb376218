-- `replies::answer_all` ends: fewer bytes stand behind each ask.
use lib.ListN.{length}
use Rattle.replies.proofs.answer_all.Given as goal

abbrev pub decreases-loop-letter : goal.decreases-loop-letter
decreases-loop-letter l = length l.rest

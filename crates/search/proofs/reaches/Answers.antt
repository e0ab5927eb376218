-- `search::reaches` tells whether a word is at or past the one searched for.
use Rattle.search.proofs.Goals.{index_told, position_told}
use Rattle.search.proofs.reaches.Goals as goal

pub returns-in-Index : goal.returns-in-Index
returns-in-Index c =
    index_told c.in-Index.is c.args.word.on c.requires.1 c.of_prenecklace.ensures.0

pub returns-in-Position : goal.returns-in-Position
returns-in-Position c =
    position_told c.in-Position.is c.args.word.on c.requires.1 c.whole.ensures.0

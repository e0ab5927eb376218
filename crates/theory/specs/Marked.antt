-- The cases that document 01 marks with ●, as one sentence about the definitions.
use Rattle.std.specs.Prelude.{◌≡◌, [], ◌∷◌}
use Rattle.theory.specs.Words.{how_many, rank, word_of}
use Rattle.theory.specs.Sums.{cs}
use Rattle.theory.specs.Strips.{strip, place_of}

pub record Marked : Type 0 where
  pub count_6 : how_many 2 6 ≡ 9
  pub rank_6 : rank 2 (0 ∷ 1 ∷ 1 ∷ 0 ∷ 1 ∷ 0 ∷ []) ≡ 8
  pub word_6 : word_of 2 6 8 ≡ 0 ∷ 1 ∷ 0 ∷ 1 ∷ 1 ∷ 1 ∷ []
  pub cs_6 : cs 2 (0 ∷ 1 ∷ 0 ∷ 1 ∷ 1 ∷ 1 ∷ []) ≡ 54
  pub place_000000 : place_of 2 6 (0 ∷ 0 ∷ 0 ∷ 0 ∷ 0 ∷ 0 ∷ []) ≡ 0
  pub place_100100 : place_of 2 6 (1 ∷ 0 ∷ 0 ∷ 1 ∷ 0 ∷ 0 ∷ []) ≡ 24
  pub place_101010 : place_of 2 6 (1 ∷ 0 ∷ 1 ∷ 0 ∷ 1 ∷ 0 ∷ []) ≡ 45
  pub place_010111 : place_of 2 6 (0 ∷ 1 ∷ 0 ∷ 1 ∷ 1 ∷ 1 ∷ []) ≡ 48
  pub place_111111 : place_of 2 6 (1 ∷ 1 ∷ 1 ∷ 1 ∷ 1 ∷ 1 ∷ []) ≡ 58
  pub place_100000 : place_of 2 6 (1 ∷ 0 ∷ 0 ∷ 0 ∷ 0 ∷ 0 ∷ []) ≡ 63
  pub strip_4 : strip 2 4 ≡ 0 ∷ 0 ∷ 0 ∷ 0 ∷ 1 ∷ 0 ∷ 0 ∷ 1 ∷ 1 ∷ 0 ∷ 1 ∷ 0 ∷ 1 ∷ 1 ∷ 1 ∷ 1 ∷ []
  pub place_0110 : place_of 2 4 (0 ∷ 1 ∷ 1 ∷ 0 ∷ []) ≡ 6
  pub strip_3_2 : strip 3 2 ≡ 0 ∷ 0 ∷ 1 ∷ 0 ∷ 2 ∷ 1 ∷ 1 ∷ 2 ∷ 2 ∷ []
  pub place_20 : place_of 3 2 (2 ∷ 0 ∷ []) ≡ 8
  pub rank_10 : rank 3 (1 ∷ 0 ∷ []) ≡ 2

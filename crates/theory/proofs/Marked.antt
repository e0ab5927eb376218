-- The ● cases of document 01: each holds by computation.
use mathlib.Core.Path.{refl}
use Rattle.theory.specs.Marked.{Marked}

pub marked : Marked
marked =
    record {
      count_6 = refl;
      rank_6 = refl;
      word_6 = refl;
      cs_6 = refl;
      place_000000 = refl;
      place_100100 = refl;
      place_101010 = refl;
      place_010111 = refl;
      place_111111 = refl;
      place_100000 = refl;
      strip_4 = refl;
      place_0110 = refl;
      strip_3_2 = refl;
      place_20 = refl;
      rank_10 = refl;
    }

-- Prenecklaces: prefixes of powers of Lyndon words, as contracts ask for them.
use Rattle.std.specs.Prelude.{◌≡◌, List, ◌∷◌, ◌++◌, ℕ, ◌<◌}

-- a letter decides that u is smaller
pub data Cut : List ℕ → List ℕ → Type 0 where
  differ : {x y : ℕ} {u v : List ℕ} → x < y → Cut (x ∷ u) (y ∷ v)
  agree : {x : ℕ} {u v : List ℕ} → Cut u v → Cut (x ∷ u) (x ∷ v)

-- no suffix is cut below the word: equivalently, a prefix of a power of a Lyndon word
abbrev pub Prenecklace : List ℕ → Type 0
Prenecklace w = (u v : List ℕ) → w ≡ u ++ v → ¬ Cut v w

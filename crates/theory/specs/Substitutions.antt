-- Single substitutions, the paper's changes of one mark: those of a window that give a laid window, in their order. What may be misread so.
use Rattle.std.specs.Prelude.{List, [], ◌∷◌, ◌++◌, ℕ, ◌+◌, ◌-◌, ltb, leb, length, get_or, set}
use Rattle.theory.specs.Words.{pick, keep}
use Rattle.theory.specs.Lists.{gather, count_from}
use Rattle.theory.specs.Strips.{place_of}
use Rattle.theory.specs.Plans.{shades, marks, laid_at}

-- a change: which letter is replaced, and by which; the paper's mark and new shade
pub record Change : Type 0 where
  pub mark : ℕ
  pub shade : ℕ

abbrev pub change : ℕ → ℕ → Change
change j a = record { mark = j; shade = a }

-- a word so changed
abbrev pub changed : Change → List ℕ → List ℕ
changed c w = set w c.mark c.shade

-- letter j, which is a, changed by d: to the lower letter, if there is one, and to the higher, if there is one
abbrev pub changes_down : ℕ → ℕ → ℕ → List Change
changes_down d j a = pick (leb d a) (change j (a - d) ∷ []) []

abbrev pub changes_up : ℕ → ℕ → ℕ → ℕ → List Change
changes_up k d j a = pick (ltb (a + d) k) (change j (a + d) ∷ []) []

abbrev pub changes_by : ℕ → ℕ → ℕ → ℕ → List Change
changes_by k d j a = changes_down d j a ++ changes_up k d j a

-- letter j of a word changed by d; each of its letters by d; each by 1, by 2 and so on
abbrev pub changes_at : ℕ → List ℕ → ℕ → ℕ → List Change
changes_at k w d j = changes_by k d j (get_or w j 0)

abbrev pub changes_for : ℕ → List ℕ → ℕ → List Change
changes_for k w d = gather (changes_at k w d) (count_from (length w) 0)

abbrev pub changes : ℕ → List ℕ → List Change
changes k w = gather (changes_for k w) (count_from (k - 1) 1)

-- the place of a window so changed; of some changes those that give a laid window; all of these
abbrev pub new_place : List ℕ → List ℕ → Change → ℕ
new_place s w c = place_of (shades s) (marks s) (changed c w)

abbrev pub laid_of : List ℕ → List ℕ → List Change → List Change
laid_of s w cs = keep (λ c. laid_at s (new_place s w c)) cs

abbrev pub misread : List ℕ → List ℕ → List Change
misread s w = laid_of s w (changes (shades s) w)

-- what they are ordered by: the larger letter less the smaller, which letter it is, and the new letter
abbrev pub key_of : List ℕ → Change → List ℕ
key_of w c = let a = get_or w c.mark 0 in ((a - c.shade) + (c.shade - a)) ∷ c.mark ∷ c.shade ∷ []

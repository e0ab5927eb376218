-- Members of a list; lists without repeats; tests for both, of numbers; lists of words in dictionary order, each word once; images, and lists gathered from
-- several; numbers in a row; lists to work in.
use Rattle.std.specs.Prelude.{◌≡◌, Bool, true, false, ◌&&◌, ◌||◌, not, List, [], ◌∷◌, ◌++◌, ℕ, zero, suc, eqb, length}
use Rattle.theory.specs.Words.{below}

pub data In {A : Type 0} (x : A) : List A → Type 0 where
  here : {y : A} {ys : List A} → x ≡ y → In x (y ∷ ys)
  there : {y : A} {ys : List A} → In x ys → In x (y ∷ ys)

abbrev pub Ascending : List (List ℕ) → Type 0
Ascending [] = Unit {0}
Ascending (w ∷ ws) = ((v : List ℕ) → In v ws → below w v ≡ true) × Ascending ws

-- no member twice
abbrev pub Once : {A : Type 0} → List A → Type 0
Once [] = Unit {0}
Once (x ∷ xs) = (¬ In x xs) × Once xs

-- both as tests that compute, of numbers
abbrev pub holds : ℕ → List ℕ → Bool
holds a [] = false
holds a (x ∷ xs) = eqb a x || holds a xs

abbrev pub each_once : List ℕ → Bool
each_once [] = true
each_once (x ∷ xs) = not (holds x xs) && each_once xs

-- the images of the members; what each member has, one after the other
abbrev pub each : {A B : Type 0} → (A → B) → List A → List B
each f [] = []
each f (x ∷ xs) = f x ∷ each f xs

abbrev pub gather : {A B : Type 0} → (A → List B) → List A → List B
gather f [] = []
gather f (x ∷ xs) = f x ++ gather f xs

-- the l numbers from a on
abbrev pub count_from : ℕ → ℕ → List ℕ
count_from zero a = []
count_from (suc l) a = a ∷ count_from l (suc a)

-- scratch: a buffer that is lent to be worked in. Its length stays; any numbers may stand in it then
pub record Scratch (before after : List ℕ) : Type 0 where
  pub size : length after ≡ length before

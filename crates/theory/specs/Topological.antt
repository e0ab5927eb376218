-- Which section is laid first: pairs of sections, of which the first goes before the second, and the orders of all sections that keep every pair, the field's
-- topological orders. The sections of a plan are the numbers 0 to m−1.
use Rattle.std.specs.Prelude.{◌≡◌, Bool, true, false, ◌&&◌, ◌||◌, not, List, [], ◌∷◌, ◌↔◌, ℕ, zero, suc, ◌/◌, ◌<◌, ltb, eqb, length, get_or, drop}
use Rattle.theory.specs.Words.{pick, keep, all_words}
use Rattle.theory.specs.Lists.{In, Once, holds, each_once, count_from}
use Rattle.theory.specs.Plans.{be}

-- the first goes before the second
pub record Pair : Type 0 where
  pub first : ℕ
  pub second : ℕ

abbrev pub pair : ℕ → ℕ → Pair
pair a b = record { first = a; second = b }

-- a list's bytes: 2 for each number, so 4 for each pair
abbrev pub pairs_from : ℕ → List ℕ → List Pair
pairs_from zero l = []
pairs_from (suc c) l = pair (be 0 2 l) (be 2 2 l) ∷ pairs_from c (drop 4 l)

abbrev pub pairs_of : List ℕ → List Pair
pairs_of l = pairs_from (length l / 4) l

-- every number in the pairs is that of a section
abbrev pub known : ℕ → List Pair → Bool
known m [] = true
known m (p ∷ ps) = ltb p.first m && (ltb p.second m && known m ps)

-- a stands ahead of b
abbrev pub ahead : ℕ → ℕ → List ℕ → Bool
ahead a b [] = false
ahead a b (x ∷ xs) = pick (eqb a x) (holds b xs) (ahead a b xs)

abbrev pub keeps_all : List Pair → List ℕ → Bool
keeps_all [] xs = true
keeps_all (p ∷ ps) xs = ahead p.first p.second xs && keeps_all ps xs

-- all orders of 0 to m−1 that keep every pair, in dictionary order; the first. Both are shut, since the laws in proofs/Topological say all that a caller needs
unfoldable pub orders : ℕ → List Pair → List (List ℕ)
orders m ps = keep (λ xs. each_once xs && keeps_all ps xs) (all_words m m)

unfoldable pub first_order : ℕ → List Pair → List ℕ
first_order m ps = get_or (orders m ps) 0 []

-- the same as a statement
pub record Topological (m : ℕ) (ps : List Pair) (xs : List ℕ) : Type 0 where
  pub once : Once xs
  pub all : (i : ℕ) → In i xs ↔ (i < m)
  pub keeps : (p : Pair) → In p ps → ahead p.first p.second xs ≡ true

-- pairs in a row that lead from a to b, each from the number that the one before it leads to; a round leads from a number to itself
pub data Chain (ps : List Pair) : ℕ → ℕ → Type 0 where
  link : {a b : ℕ} → In (pair a b) ps → Chain ps a b
  chain : {a b : ℕ} (c : ℕ) → In (pair a c) ps → Chain ps c b → Chain ps a b

abbrev pub Round : List Pair → Type 0
Round ps = (a : ℕ) × Chain ps a a

-- How the first is found, section by section; f tells those that are placed. A section waits while a pair has one before it that is not placed, and is
-- ready if it is not placed and does not wait
abbrev pub waits : List Pair → (ℕ → Bool) → ℕ → Bool
waits [] f x = false
waits (p ∷ ps) f x = (eqb x p.second && not (f p.first)) || waits ps f x

abbrev pub ready : List Pair → (ℕ → Bool) → ℕ → Bool
ready ps f x = not (f x) && not (waits ps f x)

-- the lowest section that is ready, or m
abbrev pub next_ready : ℕ → List Pair → (ℕ → Bool) → ℕ
next_ready m ps f = get_or (keep (ready ps f) (count_from m 0)) 0 m

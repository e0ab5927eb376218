-- Words of letters, dictionary order, Lyndon words, ranks (document 004, sections 1 and 2).
-- A letter is the paper's `mark`; rotated is the paper's `turned`.
use Rattle.std.specs.Prelude.{◌≡◌, Bool, true, false, ◌&&◌, ◌||◌, List, [], ◌∷◌, ◌++◌, ℕ, zero, suc, ◌-◌, ◌/◌, ◌%◌, ◌≤◌, eqb, ltb, leb, length, get_or, take, drop}

-- choices by a test
abbrev pub pick : {A : Type 0} → Bool → A → A → A
pick true a b = a
pick false a b = b

abbrev pub PickT : Bool → Type 0 → Type 0 → Type 0
PickT true a b = a
PickT false a b = b

-- the first number that is not 0; a number, or 0 where the test fails
abbrev pub first_of : ℕ → ℕ → ℕ
first_of zero b = b
first_of (suc a) b = suc a

abbrev pub when : Bool → ℕ → ℕ
when true n = n
when false n = 0

-- dictionary order, a proper prefix first
abbrev pub same : List ℕ → List ℕ → Bool
same [] [] = true
same [] (y ∷ ys) = false
same (x ∷ xs) [] = false
same (x ∷ xs) (y ∷ ys) = eqb x y && same xs ys

abbrev pub below : List ℕ → List ℕ → Bool
below [] [] = false
below [] (y ∷ ys) = true
below (x ∷ xs) [] = false
below (x ∷ xs) (y ∷ ys) = ltb x y || (eqb x y && below xs ys)

abbrev pub up_to : List ℕ → List ℕ → Bool
up_to u v = same u v || below u v

-- the rotation by i
abbrev pub turned : ℕ → List ℕ → List ℕ
turned i w = drop i w ++ take i w

-- a Lyndon word: strictly smaller than each of its proper rotations
abbrev pub lyndon_from : ℕ → ℕ → List ℕ → Bool
lyndon_from zero i w = true
lyndon_from (suc l) i w = below w (turned i w) && lyndon_from l (suc i) w

abbrev pub is_lyndon : List ℕ → Bool
is_lyndon w = leb 1 (length w) && lyndon_from (length w - 1) 1 w

-- the smallest rotation
abbrev pub least_from : ℕ → ℕ → List ℕ → List ℕ → List ℕ
least_from zero i w best = best
least_from (suc l) i w best = let t = turned i w in least_from l (suc i) w (pick (below t best) t best)

abbrev pub smallest : List ℕ → List ℕ
smallest w = least_from (length w - 1) 1 w w

-- the least turn that gives it
abbrev pub turn_from : ℕ → ℕ → List ℕ → ℕ → ℕ
turn_from zero i w b = b
turn_from (suc l) i w b = turn_from l (suc i) w (pick (below (turned i w) (turned b w)) i b)

abbrev pub least_turn : List ℕ → ℕ
least_turn w = turn_from (length w - 1) 1 w 0

-- the length of the shortest word that, repeated, gives the word
abbrev pub repeated : ℕ → List ℕ → List ℕ
repeated zero u = []
repeated (suc n) u = u ++ repeated n u

-- the power of length n
abbrev pub power_to : ℕ → List ℕ → List ℕ
power_to n u = repeated (n / length u) u

abbrev pub is_root : ℕ → List ℕ → Bool
is_root d w = leb 1 d && (eqb (length w % d) 0 && same (repeated (length w / d) (take d w)) w)

abbrev pub root_from : ℕ → ℕ → List ℕ → ℕ
root_from zero d w = d
root_from (suc l) d w = elim (is_root d w) [ true ↦ d | false ↦ root_from l (suc d) w ]

abbrev pub root : List ℕ → ℕ
root w = root_from (length w) 1 w

-- the power of no other word (document 004, section 2)
abbrev pub Primitive : List ℕ → Type 0
Primitive w = (u : List ℕ) (e : ℕ) → 1 ≤ e → w ≡ repeated e u → u ≡ w

-- all words of a length, in order
abbrev pub with_first : ℕ → List (List ℕ) → List (List ℕ)
with_first a [] = []
with_first a (w ∷ ws) = (a ∷ w) ∷ with_first a ws

abbrev pub each_first : ℕ → ℕ → List (List ℕ) → List (List ℕ)
each_first zero a ws = []
each_first (suc l) a ws = with_first a ws ++ each_first l (suc a) ws

abbrev pub all_words : ℕ → ℕ → List (List ℕ)
all_words k zero = [] ∷ []
all_words k (suc n) = each_first k 0 (all_words k n)

-- the members of a list that pass a test, in order
abbrev pub keep : {A : Type 0} → (A → Bool) → List A → List A
keep f [] = []
keep f (x ∷ xs) = pick (f x) (x ∷ []) [] ++ keep f xs

-- the Lyndon words of a length, in order; how many; a word's rank; the word of an index
abbrev pub lyndons : ℕ → ℕ → List (List ℕ)
lyndons k n = keep is_lyndon (all_words k n)

abbrev pub how_many : ℕ → ℕ → ℕ
how_many k n = length (lyndons k n)

abbrev pub rank : ℕ → List ℕ → ℕ
rank k w = length (keep (λ u. up_to u w) (lyndons k (length w)))

abbrev pub word_of : ℕ → ℕ → ℕ → List ℕ
word_of k n i = get_or (lyndons k n) (i - 1) []

-- every letter is below k
abbrev pub marks_ok : ℕ → List ℕ → Bool
marks_ok k [] = true
marks_ok k (a ∷ w) = ltb a k && marks_ok k w

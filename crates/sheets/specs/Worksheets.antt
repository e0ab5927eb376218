-- The worksheet of a word: everything that the program `worksheet` prints for the bytes of an input.
use Rattle.std.specs.Prelude.{◌≡◌, true, List, [], ◌∷◌, ◌++◌, ℕ, ◌+◌, ◌-◌, ◌*◌, ◌%◌, ◌≤◌, ℤ, pos, negsuc, eqb, length, get_or, drop}
use Rattle.theory.specs.Words.{pick, rank, marks_ok}
use Rattle.theory.specs.Sums.{plus, running, divisors_in, divisors_down, rank_term}
use Rattle.theory.specs.Floors.{necklace_up_to}
use Rattle.texts.specs.Texts.{decimal, signed, fields}
use Rattle.lines.specs.Lines.{line, refused_line}
use Rattle.calls.specs.Refusals.{the_word_fault}

-- a divisor, its term, and the sum with it
abbrev pub sheet_line : ℕ → ℤ → ℤ → List ℕ
sheet_line d x sum = fields (decimal d) (signed x ∷ signed sum ∷ [])

-- the lines of divisors, from the sum a on; f gives the terms
abbrev pub sheet_from : (ℕ → ℤ) → ℤ → List ℕ → List ℕ
sheet_from f a [] = []
sheet_from f a (d ∷ ds) = let sum = plus a (f d) in sheet_line d (f d) sum ++ sheet_from f sum ds

-- of the largest necklace not above the word, the divisors of the length from the largest down
abbrev pub sheet : ℕ → List ℕ → List ℕ
sheet k w = sheet_from (rank_term k (necklace_up_to k w)) (pos 0) (divisors_down (length w))

-- an input: k and n, a byte each, 0 if it is missing, then the word
abbrev pub letters : List ℕ → ℕ
letters s = get_or s 0 0

abbrev pub long : List ℕ → ℕ
long s = get_or s 1 0

abbrev pub word_in : List ℕ → List ℕ
word_in s = drop 2 s

abbrev pub sheet_fault : List ℕ → ℕ
sheet_fault s = the_word_fault (letters s) (long s) (word_in s)

abbrev pub worksheet : List ℕ → List ℕ
worksheet s = pick (eqb (sheet_fault s) 0) (sheet (letters s) (word_in s)) (refused_line (sheet_fault s))

-- the line of the number n − i, if that divides n
abbrev pub line_at : (ℕ → ℤ) → ℕ → ℕ → List ℕ
line_at f n i = let d = n - i in pick (eqb (n % d) 0) (sheet_line d (f d) (running f (pos 0) (divisors_in n (i + 1)))) []

-- bytes that hold any worksheet: a word has at most 60 letters
abbrev pub most : ℕ
most = 60 * line

-- What is proved of it.
pub record Sheets : Type 0 where
  -- a word and the largest necklace not above it have one sheet
  pub lowered : (k : ℕ) (w : List ℕ) → marks_ok k w ≡ true → sheet k (necklace_up_to k w) ≡ sheet k w
  -- the last line is that of the divisor 1, and its sum is n times the word's rank
  pub last_line : (k : ℕ) (w : List ℕ) → marks_ok k w ≡ true → 1 ≤ length w
      → (x : List ℕ) × (sheet k w ≡ x ++ sheet_line 1 (rank_term k (necklace_up_to k w) 1) (pos (length w * rank k w)))
  -- 000000 over two letters, byte by byte: 6 1 1, 3 -1 0, 2 -1 -1, 1 1 0
  pub zeros : worksheet (2 ∷ 6 ∷ 0 ∷ 0 ∷ 0 ∷ 0 ∷ 0 ∷ 0 ∷ [])
      ≡ (54 ∷ 32 ∷ 49 ∷ 32 ∷ 49 ∷ 10 ∷ []) ++ ((51 ∷ 32 ∷ 45 ∷ 49 ∷ 32 ∷ 48 ∷ 10 ∷ []) ++ ((50 ∷ 32 ∷ 45 ∷ 49 ∷ 32 ∷ 45 ∷ 49 ∷ 10 ∷ []) ++ (49 ∷ 32 ∷ 49 ∷ 32 ∷ 48 ∷ 10 ∷ [])))
  -- document 004's Example 10, 010111, and 011010, which is lowered to it
  pub example_10 :
      let lines = sheet_line 6 (pos 54) (pos 54) ++ (sheet_line 3 (negsuc 3) (pos 50) ++ (sheet_line 2 (negsuc 2) (pos 47) ++ sheet_line 1 (pos 1) (pos 48))) in
      (worksheet (2 ∷ 6 ∷ 0 ∷ 1 ∷ 0 ∷ 1 ∷ 1 ∷ 1 ∷ []) ≡ lines) × (worksheet (2 ∷ 6 ∷ 0 ∷ 1 ∷ 1 ∷ 0 ∷ 1 ∷ 0 ∷ []) ≡ lines)
  -- 0111: a divisor whose term is 0 has its line
  pub no_term : worksheet (2 ∷ 4 ∷ 0 ∷ 1 ∷ 1 ∷ 1 ∷ []) ≡ sheet_line 4 (pos 15) (pos 15) ++ (sheet_line 2 (negsuc 2) (pos 12) ++ sheet_line 1 (pos 0) (pos 12))
  -- no k, no n, n = 0, a word of another length, a mark that is none
  pub refused : (worksheet [] ≡ refused_line 1) × (worksheet (2 ∷ []) ≡ refused_line 1) × (worksheet (2 ∷ 0 ∷ []) ≡ refused_line 1)
      × (worksheet (2 ∷ 1 ∷ []) ≡ refused_line 2) × (worksheet (2 ∷ 1 ∷ 2 ∷ []) ≡ refused_line 3)

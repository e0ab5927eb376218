-- A word of a ring held in a buffer of n bytes, and where a move leads.
use Rattle.std.specs.Prelude.{◌≡◌, true, List, [], ◌∷◌, ◌++◌, ℕ, ◌-◌, ltb, length, take, replicate}
use Rattle.shape.specs.declared.Strip as DS
use Rattle.shape.specs.declared.Lengths.{Lengths}
use Rattle.shape.specs.declared.Lengths.TheVariants.{Divisors, Whole}
use Rattle.shape.specs.Rings.{ok_of}
use Rattle.steps.specs.Steps.{padded}
use Rattle.buffers.specs.Buffers.{over}
use Rattle.theory.specs.Words.{pick, marks_ok, is_lyndon}
use Rattle.theory.specs.Rings.{cursor, next_on, previous_on, passed_to, passed_down}
use Rattle.rings.specs.declared.Moved as DM

-- the first `long` bytes of the buffer are a word of the ring
pub record HeldOn (lengths : Lengths) (s : DS.Strip) (w : List ℕ) (long : ℕ) : Type 0 where
  pub size : length w ≡ s.n
  pub allowed : ok_of lengths s.n long ≡ true
  pub marks : marks_ok s.k (take long w) ≡ true
  pub lyndon : is_lyndon (take long w) ≡ true

-- a word v with zeros after it, its length, and how many words are passed
pub record MovedTo (n : ℕ) (v : List ℕ) (passes : ℕ) (after : List ℕ) (r : DM.Moved) : Type 0 where
  pub word : after ≡ padded n v
  pub size : r.long ≡ length v
  pub passed : r.passed ≡ passes

-- to the next word, and to the word before, with the words passed as a cursor's step counts them
abbrev pub MovedIs : Lengths → DS.Strip → List ℕ → ℕ → List ℕ → DM.Moved → Type 0
MovedIs lengths s before long after r =
    let u = take long before in
    let v = next_on (ok_of lengths s.n) (cursor s.k s.n u 0) in
    MovedTo s.n v (passed_to s.k s.n u v) after r

abbrev pub BackIs : Lengths → DS.Strip → List ℕ → ℕ → List ℕ → DM.Moved → Type 0
BackIs lengths s before long after r =
    let u = take long before in
    let v = previous_on (ok_of lengths s.n) (cursor s.k s.n u 0) in
    MovedTo s.n v (passed_down s.k s.n u v) after r

-- the words with which a ring begins and ends: 0 and k−1; on the short ring 0 .. 0 1 and k−2 k−1 .. k−1, if they have more than one letter
abbrev pub first_word : Lengths → ℕ → List ℕ
first_word Divisors n = 0 ∷ []
first_word Whole n = pick (ltb 1 n) (replicate (n - 1) 0 ++ (1 ∷ [])) (0 ∷ [])

abbrev pub last_word : Lengths → ℕ → ℕ → List ℕ
last_word Divisors k n = (k - 1) ∷ []
last_word Whole k n = pick (ltb 1 n) ((k - 2) ∷ replicate (n - 1) (k - 1)) ((k - 1) ∷ [])

-- a word over the start of a buffer, cut where the buffer ends
abbrev pub clipped : List ℕ → List ℕ → List ℕ
clipped w out = over (take (length out) w) out

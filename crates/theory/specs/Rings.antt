-- Rings: the Lyndon words of allowed lengths, joined in dictionary order and read round and round; cursors on a ring.
-- The strip is the ring of all lengths that divide n (Strips). A ring's letters are the paper's marks, its positions the
-- paper's places.
use Rattle.std.specs.Prelude.{◌≡◌, Bool, true, false, ◌&&◌, List, [], ◌∷◌, ◌++◌, ℕ, zero, suc, ◌+◌, ◌-◌, ◌%◌, eqb, ltb, leb, length, get_or}
use Rattle.theory.specs.Words.{pick, same, below, up_to, is_lyndon, keep, marks_ok}

-- all words of length 1 to n, in dictionary order: a word, then those that it begins; a stack of words still to be gone through
abbrev pub heads : ℕ → ℕ → List ℕ → List (List ℕ)
heads zero a w = []
heads (suc l) a w = (w ++ (a ∷ [])) ∷ heads l (suc a) w

abbrev pub words_from : ℕ → ℕ → List (List ℕ) → List (List ℕ)
words_from zero k ws = []
words_from (suc n) k [] = []
words_from (suc n) k (w ∷ ws) = (w ∷ words_from n k (heads k 0 w)) ++ words_from (suc n) k ws

abbrev pub up_words : ℕ → ℕ → List (List ℕ)
up_words k n = words_from n k (heads k 0 [])

-- the Lyndon words of length at most n, in order
abbrev pub lyndons_up : ℕ → ℕ → List (List ℕ)
lyndons_up k n = keep is_lyndon (up_words k n)

abbrev pub divides : ℕ → ℕ → Bool
divides d n = leb 1 d && eqb (n % d) 0

-- a set of allowed lengths: all divide n, n is among them
pub record Allowed (n : ℕ) (ok : ℕ → Bool) : Type 0 where
  pub whole : ok n ≡ true
  pub divisor : (d : ℕ) → ok d ≡ true → divides d n ≡ true

-- the ring's words and the ring
abbrev pub ring_words : (ℕ → Bool) → ℕ → ℕ → List (List ℕ)
ring_words ok k n = keep (λ w. ok (length w)) (lyndons_up k n)

abbrev pub joined : List (List ℕ) → List ℕ
joined [] = []
joined (w ∷ ws) = w ++ joined ws

abbrev pub ring : (ℕ → Bool) → ℕ → ℕ → List ℕ
ring ok k n = joined (ring_words ok k n)

-- a word s of the given size read round and round: the letter at a position, c letters from there
abbrev pub modulo : ℕ → ℕ → ℕ
modulo a zero = 0
modulo a (suc b) = a % suc b

abbrev pub letter_on : ℕ → List ℕ → ℕ → ℕ
letter_on size s p = get_or s (modulo p size) 0

abbrev pub letters_on : ℕ → List ℕ → ℕ → ℕ → List ℕ
letters_on size s p zero = []
letters_on size s p (suc c) = letter_on size s p ∷ letters_on size s (suc p) c

-- the first position from p on, of the next l, at which n letters are w
abbrev pub find_on : ℕ → ℕ → ℕ → List ℕ → ℕ → List ℕ → ℕ
find_on zero p size s n w = p
find_on (suc l) p size s n w = elim (same (letters_on size s p n) w) [ true ↦ p | false ↦ find_on l (suc p) size s n w ]

-- a ring's windows: n letters from a position; the first position at which a word is read
abbrev pub window_on : (ℕ → Bool) → ℕ → ℕ → ℕ → List ℕ
window_on ok k n p = let s = ring ok k n in letters_on (length s) s p n

abbrev pub place_on : (ℕ → Bool) → ℕ → ℕ → List ℕ → ℕ
place_on ok k n w = let s = ring ok k n in find_on (length s) 0 (length s) s n w

-- a cursor: its ring's k and n, the word it holds, its position in that word
pub record Cursor : Type 0 where
  pub k : ℕ
  pub n : ℕ
  pub word : List ℕ
  pub place : ℕ

abbrev pub cursor : ℕ → ℕ → List ℕ → ℕ → Cursor
cursor k n w p = record { k = k; n = n; word = w; place = p }

-- the held word is a word of the ring, and the position is in it
abbrev pub good_on : (ℕ → Bool) → Cursor → Bool
good_on ok c = ok (length c.word) && (marks_ok c.k c.word && (is_lyndon c.word && ltb c.place (length c.word)))

-- letters before a word of a list
abbrev pub before_w : List ℕ → List (List ℕ) → ℕ
before_w w [] = 0
before_w w (u ∷ us) = elim (same u w) [ true ↦ 0 | false ↦ length u + before_w w us ]

abbrev pub position_on : (ℕ → Bool) → Cursor → ℕ
position_on ok c = before_w c.word (ring_words ok c.k c.n) + c.place

-- the cursor at a position: the word that holds it
abbrev pub at_from : ℕ → ℕ → List (List ℕ) → ℕ → Cursor
at_from k n [] p = cursor k n [] p
at_from k n (w ∷ ws) p = elim (ltb p (length w)) [ true ↦ cursor k n w p | false ↦ at_from k n ws (p - length w) ]

abbrev pub cursor_on : (ℕ → Bool) → ℕ → ℕ → ℕ → Cursor
cursor_on ok k n p = at_from k n (ring_words ok k n) p

-- the ring's next word; the first after the last
abbrev pub first_after : List ℕ → List (List ℕ) → List (List ℕ) → List ℕ
first_after w [] all = get_or all 0 []
first_after w (u ∷ us) all = elim (below w u) [ true ↦ u | false ↦ first_after w us all ]

abbrev pub next_on : (ℕ → Bool) → Cursor → List ℕ
next_on ok c = let ws = ring_words ok c.k c.n in first_after c.word ws ws

-- the ring's word before: the last of a list that is below w, else v; before the first comes the last
abbrev pub last_before : List ℕ → List (List ℕ) → List ℕ → List ℕ
last_before w [] v = v
last_before w (u ∷ us) v = last_before w us (pick (below u w) u v)

abbrev pub previous_on : (ℕ → Bool) → Cursor → List ℕ
previous_on ok c = let ws = ring_words ok c.k c.n in last_before c.word ws (get_or ws (length ws - 1) [])

-- how many words of a list are after u, up to and with v
abbrev pub passed_by : List ℕ → List ℕ → List (List ℕ) → ℕ
passed_by u v ws = length (keep (λ w. below u w && up_to w v) ws)

-- words passed by a step from the held word u to v, held then: the Lyndon words of length at most n after u, up to and with v; none where v is
-- not after u, which is inside a word and at the wrap
abbrev pub passed_to : ℕ → ℕ → List ℕ → List ℕ → ℕ
passed_to k n u v = pick (below u v) (passed_by u v (lyndons_up k n)) 0

-- the same backwards: those before u, down to and with v; none where v is not before u
abbrev pub passed_back : List ℕ → List ℕ → List (List ℕ) → ℕ
passed_back u v ws = length (keep (λ w. below w u && up_to v w) ws)

abbrev pub passed_down : ℕ → ℕ → List ℕ → List ℕ → ℕ
passed_down k n u v = pick (below v u) (passed_back u v (lyndons_up k n)) 0

-- a step: the letter that the cursor stood on, the words passed, the moved cursor
pub record Stepped : Type 0 where
  pub mark : ℕ
  pub passed : ℕ
  pub cursor_is : Cursor

abbrev pub step_on : (ℕ → Bool) → Cursor → Stepped
step_on ok c =
    let m = get_or c.word c.place 0 in
    pick
    (ltb (suc c.place) (length c.word))
    (record { mark = m; passed = 0; cursor_is = cursor c.k c.n c.word (suc c.place) })
    (let v = next_on ok c in
    record { mark = m; passed = passed_to c.k c.n c.word v; cursor_is = cursor c.k c.n v 0 })

-- a step back: also the letter that the cursor stood on, then the letter before it in the word, or the last of the word before
abbrev pub back_on : (ℕ → Bool) → Cursor → Stepped
back_on ok c =
    let m = get_or c.word c.place 0 in
    pick
    (ltb 0 c.place)
    (record { mark = m; passed = 0; cursor_is = cursor c.k c.n c.word (c.place - 1) })
    (let v = previous_on ok c in
    record { mark = m; passed = passed_down c.k c.n c.word v; cursor_is = cursor c.k c.n v (length v - 1) })

-- the same where the allowed lengths are given for each n, and a cursor's own n says which
abbrev pub good_in : (ℕ → ℕ → Bool) → Cursor → Bool
good_in ok c = good_on (ok c.n) c

abbrev pub position_in : (ℕ → ℕ → Bool) → Cursor → ℕ
position_in ok c = position_on (ok c.n) c

abbrev pub step_in : (ℕ → ℕ → Bool) → Cursor → Stepped
step_in ok c = step_on (ok c.n) c

abbrev pub back_in : (ℕ → ℕ → Bool) → Cursor → Stepped
back_in ok c = back_on (ok c.n) c

-- the letters that the next steps of a cursor give
abbrev pub read_on : (ℕ → Bool) → Cursor → ℕ → List ℕ
read_on ok c zero = []
read_on ok c (suc i) = (step_on ok c).mark ∷ read_on ok (step_on ok c).cursor_is i

-- both ways: true is a step on, false a step back. The position beside one, round the ring; where a path leads and the letters that it leaves
abbrev pub beside : ℕ → Bool → ℕ → ℕ
beside size true p = modulo (suc p) size
beside size false p = modulo (p + (size - 1)) size

abbrev pub path_end : ℕ → List Bool → ℕ → ℕ
path_end size [] p = p
path_end size (d ∷ ds) p = path_end size ds (beside size d p)

abbrev pub path_letters : ℕ → List ℕ → List Bool → ℕ → List ℕ
path_letters size s [] p = []
path_letters size s (d ∷ ds) p = letter_on size s p ∷ path_letters size s ds (beside size d p)

-- the same of a cursor that moves so
abbrev pub move_on : (ℕ → Bool) → Bool → Cursor → Stepped
move_on ok true c = step_on ok c
move_on ok false c = back_on ok c

abbrev pub walk_end : (ℕ → Bool) → List Bool → Cursor → Cursor
walk_end ok [] c = c
walk_end ok (d ∷ ds) c = walk_end ok ds (move_on ok d c).cursor_is

abbrev pub walk_letters : (ℕ → Bool) → List Bool → Cursor → List ℕ
walk_letters ok [] c = []
walk_letters ok (d ∷ ds) c = (move_on ok d c).mark ∷ walk_letters ok ds (move_on ok d c).cursor_is

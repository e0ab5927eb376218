-- What is proved of the definitions, for every k and n that the hypotheses name. `Theorems`, at the end, is the whole.
use Rattle.std.specs.Prelude.{◌≡◌, Bool, true, false, ◌&&◌, List, [], ◌∷◌, ◌++◌, reverse, ◌⊎◌, ◌↔◌, ◌≢◌, ℕ, suc, ◌+◌, ◌-◌, ◌*◌, ◌/◌, ◌%◌, ◌^◌, ◌≤◌, ◌<◌, ℤ, pos, nat_abs, eqb, ltb, leb, length, get_or, take, drop, replicate}
use Rattle.theory.specs.Words.{pick, first_of, when, same, below, up_to, turned, is_lyndon, smallest, least_turn, repeated, root, Primitive, all_words, keep, lyndons, how_many, rank, word_of, marks_ok, power_to}
use Rattle.theory.specs.Lists.{In, Ascending, Once, each}
use Rattle.theory.specs.Sums.{cs, mobius, divisors, divisors_down, running, rank_term, count_term, BySum}
use Rattle.theory.specs.Floors.{is_necklace, necklace_up_to, necklace_below, floor_from}
use Rattle.theory.specs.Automaton.{run, returning, paths_to}
use Rattle.theory.specs.Search.{least_word}
use Rattle.theory.specs.Rings.{up_words, lyndons_up, divides, Allowed, ring_words, ring, modulo, letter_on, letters_on, Cursor, cursor, Stepped, good_on, good_in, before_w, position_on, position_in, cursor_on, passed_by, passed_to, passed_down, step_on, step_in, back_on, back_in, read_on, beside, path_end, path_letters, walk_end, walk_letters, window_on, place_on}
use Rattle.theory.specs.Steps.{extension, next_lyndon, previous_lyndon, period}
use Rattle.theory.specs.Strips.{admitted, divisor_of, strip_words, strip, window, place_of, cursor_at}
use Rattle.theory.specs.Shorts.{whole, short_words, short_ring, short_size, short_window, short_place_of, short_cursor_at}
use Rattle.theory.specs.Plans.{Section, be, end_of, plan_fault, section_count, shades, marks, entry_size, sections, torn, torn_before, welded, nth_s, rail_of, laying_at, laid_at, distance_at, lookup_fault, laying_of, distance_of}
use Rattle.theory.specs.Erasures.{unread, read, agrees, fitting, lowest, filling, smudge_fault, smudged_fault}
use Rattle.theory.specs.Substitutions.{Change, changed, changes, new_place, misread, key_of}
use Rattle.theory.specs.Prices.{cents, cost_of, short_rolls}
use Rattle.theory.specs.Topological.{Pair, pair, known, orders, first_order, Topological, Round}
use Rattle.theory.specs.Marked.{Marked}

-- The lists hold just the words that they should, ascending, so each once.
pub record Listed : Type 0 where
  pub all_words_lem : (k n : ℕ) (w : List ℕ) → In w (all_words k n) ↔ ((length w ≡ n) × (marks_ok k w ≡ true))
  pub all_ascend : (k n : ℕ) → Ascending (all_words k n)
  pub lyndon_words : (k n : ℕ) (w : List ℕ) → In w (lyndons k n) ↔ ((length w ≡ n) × (marks_ok k w ≡ true) × (is_lyndon w ≡ true))
  pub lyndon_ascend : (k n : ℕ) → Ascending (lyndons k n)
  pub up_words_lem : (k n : ℕ) (w : List ℕ) → In w (up_words k n) ↔ ((1 ≤ length w) × (length w ≤ n) × (marks_ok k w ≡ true))
  pub up_ascend : (k n : ℕ) → Ascending (up_words k n)
  pub lyndon_up_words : (k n : ℕ) (w : List ℕ) → In w (lyndons_up k n) ↔ ((length w ≤ n) × (marks_ok k w ≡ true) × (is_lyndon w ≡ true))
  pub lyndon_up_ascend : (k n : ℕ) → Ascending (lyndons_up k n)
  pub ring_words_lem : (ok : ℕ → Bool) (k n : ℕ) (w : List ℕ)
      → In w (ring_words ok k n) ↔ ((length w ≤ n) × (marks_ok k w ≡ true) × (is_lyndon w ≡ true) × (ok (length w) ≡ true))
  pub ring_ascend : (ok : ℕ → Bool) (k n : ℕ) → Ascending (ring_words ok k n)
  pub strip_words_lem : (k n : ℕ) (w : List ℕ) → 1 ≤ n
      → In w (strip_words k n) ↔ ((divides (length w) n ≡ true) × (marks_ok k w ≡ true) × (is_lyndon w ≡ true))

-- Rank and word of an index undo each other.
pub record Undone : Type 0 where
  pub of_index : (k n i : ℕ) → 1 ≤ i → i ≤ how_many k n → rank k (word_of k n i) ≡ i
  pub index_word : (k n i : ℕ) → 1 ≤ i → i ≤ how_many k n
      → (length (word_of k n i) ≡ n) × (marks_ok k (word_of k n i) ≡ true) × (is_lyndon (word_of k n i) ≡ true)
  pub of_word : (k : ℕ) (w : List ℕ) → marks_ok k w ≡ true → is_lyndon w ≡ true → word_of k (length w) (rank k w) ≡ w
  pub rank_range : (k : ℕ) (w : List ℕ) → marks_ok k w ≡ true → is_lyndon w ≡ true → (1 ≤ rank k w) × (rank k w ≤ how_many k (length w))

-- The turn to the smallest rotation: the least one that reaches it, 1 of 101010 and 0 of 0000.
pub record Turns : Type 0 where
  pub reaches : (w : List ℕ) → turned (least_turn w) w ≡ smallest w
  pub least : (w : List ℕ) (r : ℕ) → turned r w ≡ smallest w → least_turn w ≤ r
  pub none : (w : List ℕ) → (least_turn w ≡ 0) ↔ (smallest w ≡ w)
  pub within_root : (w : List ℕ) → 1 ≤ length w → least_turn w < root w
  pub examples : (least_turn (1 ∷ 0 ∷ 1 ∷ 0 ∷ 1 ∷ 0 ∷ []) ≡ 1) × (least_turn (0 ∷ 0 ∷ 0 ∷ 0 ∷ []) ≡ 0)

-- What the definitions that search for a rotation or a root mean, for every word (document 004, section 2).
pub record WordLaws : Type 0 where
  -- the smallest rotation is one, by the least turn, and is not above any
  pub turns : Turns
  pub smallest_least : (w : List ℕ) (r : ℕ) → up_to (smallest w) (turned r w) ≡ true
  -- so many first letters, repeated, give the word, and no shorter word does
  pub root_some : (w : List ℕ) → 1 ≤ length w → (1 ≤ root w) × (root w ≤ length w)
  pub root_repeats : (w : List ℕ) → 1 ≤ length w → power_to (length w) (take (root w) w) ≡ w
  pub root_least : (w u : List ℕ) (e : ℕ) → 1 ≤ length w → w ≡ repeated e u → root w ≤ length u
  -- the two definitions of a Lyndon word: smaller than each of its proper rotations; primitive, and its own smallest rotation
  pub lyndon_turns : (w : List ℕ) → (is_lyndon w ≡ true) ↔ ((1 ≤ length w) × ((r : ℕ) → 1 ≤ r → r < length w → below w (turned r w) ≡ true))
  pub lyndon_primitive : (w : List ℕ) → (is_lyndon w ≡ true) ↔ ((1 ≤ length w) × Primitive w × (smallest w ≡ w))

-- w is u, repeated e times and rotated by r
pub record Rotated (w u : List ℕ) (e r : ℕ) : Type 0 where
  pub lyndon : is_lyndon u ≡ true
  pub inside : r < length u
  pub is : w ≡ turned r (repeated e u)

-- Lyndon words (document 003, section 1.4).
pub record LyndonLaws : Type 0 where
  -- Proposition 7
  pub by_suffixes : (w : List ℕ)
      → (is_lyndon w ≡ true) ↔ ((1 ≤ length w) × ((u v : List ℕ) → w ≡ u ++ v → 1 ≤ length u → 1 ≤ length v → below w v ≡ true))
  -- Proposition 8
  pub product : (l m : List ℕ) → is_lyndon l ≡ true → is_lyndon m ≡ true → below l m ≡ true → is_lyndon (l ++ m) ≡ true
  -- Proposition 9: what begins a Lyndon word is the extension of one; the extension of one that is not the last letter begins one
  pub prefix_extends : (p s : List ℕ) → 1 ≤ length p → is_lyndon (p ++ s) ≡ true
      → (is_lyndon (take (period p) p) ≡ true) × (p ≡ extension (length p) (take (period p) p))
  pub extension_begins : (k m : ℕ) (x : List ℕ) → marks_ok k x ≡ true → is_lyndon x ≡ true → x ≢ (k - 1) ∷ []
      → (s : List ℕ) × (marks_ok k s ≡ true) × (is_lyndon (extension m x ++ s) ≡ true)
  -- Lemma 2
  pub raise : (p s : List ℕ) (a b : ℕ) → a < b → smallest (p ++ (a ∷ s)) ≡ p ++ (a ∷ s) → is_lyndon (p ++ (b ∷ [])) ≡ true
  -- every word is a rotation of a power of exactly one Lyndon word, by exactly one turn
  pub rotated : (w : List ℕ) → 1 ≤ length w → (u : List ℕ) × (e : ℕ) × (r : ℕ) × Rotated w u e r × (length u ≡ root w) × (smallest w ≡ repeated e u)
  pub once : (w u v : List ℕ) (e f r s : ℕ) → 1 ≤ length w → Rotated w u e r → Rotated w v f s → (u ≡ v) × (e ≡ f) × (r ≡ s)

-- The step to the next Lyndon word of length at most n, and back (document 003, section 1.4.2).
pub record Steps (k n : ℕ) : Type 0 where
  pub next_in : (x : List ℕ) → In x (lyndons_up k n) → x ≢ (k - 1) ∷ [] → In (next_lyndon k n x) (lyndons_up k n)
  pub next_larger : (x : List ℕ) → In x (lyndons_up k n) → x ≢ (k - 1) ∷ [] → below x (next_lyndon k n x) ≡ true
  pub next_least : (x y : List ℕ) → In x (lyndons_up k n) → In y (lyndons_up k n) → below x y ≡ true → up_to (next_lyndon k n x) y ≡ true
  pub next_longer : (x : List ℕ) → In x (lyndons_up k n) → x ≢ (k - 1) ∷ [] → length x < n → length x < length (next_lyndon k n x)
  pub next_none : next_lyndon k n ((k - 1) ∷ []) ≡ []
  pub previous_in : (y : List ℕ) → In y (lyndons_up k n) → y ≢ 0 ∷ [] → In (previous_lyndon k n y) (lyndons_up k n)
  pub previous_next : (x : List ℕ) → In x (lyndons_up k n) → x ≢ (k - 1) ∷ [] → previous_lyndon k n (next_lyndon k n x) ≡ x
  pub previous_smaller : (y : List ℕ) → In y (lyndons_up k n) → y ≢ 0 ∷ [] → below (previous_lyndon k n y) y ≡ true
  pub previous_most : (x y : List ℕ) → In x (lyndons_up k n) → In y (lyndons_up k n) → below x y ≡ true → up_to x (previous_lyndon k n y) ≡ true
  pub next_previous : (y : List ℕ) → In y (lyndons_up k n) → y ≢ 0 ∷ [] → next_lyndon k n (previous_lyndon k n y) ≡ y
  -- words passed: none from a word to itself, and a step passes the word that it leads to
  pub passed_none : (v : List ℕ) → passed_by v v (lyndons_up k n) ≡ 0
  pub passed_step : (u v : List ℕ) → In u (lyndons_up k n) → u ≢ (k - 1) ∷ [] → up_to (next_lyndon k n u) v ≡ true
      → passed_by u v (lyndons_up k n) ≡ suc (passed_by (next_lyndon k n u) v (lyndons_up k n))
  -- as many words are passed back
  pub passed_back_lem : (u v : List ℕ) → In u (lyndons_up k n) → In v (lyndons_up k n) → passed_down k n v u ≡ passed_to k n u v

-- Fredricksen and Maiorana's theorem for a ring (document 003, Theorem 1.5.6; document 004, Theorem 23).
pub record Ring (ok : ℕ → Bool) (k n : ℕ) : Type 0 where
  -- as many positions as words of length n whose shortest root has an allowed length
  pub long : length (ring ok k n) ≡ length (keep (λ w. ok (root w)) (all_words k n))
  pub found : (w : List ℕ) → length w ≡ n → marks_ok k w ≡ true → ok (root w) ≡ true
      → (place_on ok k n w < length (ring ok k n)) × (window_on ok k n (place_on ok k n w) ≡ w)
  pub only : (p : ℕ) (w : List ℕ) → p < length (ring ok k n) → window_on ok k n p ≡ w → place_on ok k n w ≡ p
  pub window_fits : (p : ℕ) → p < length (ring ok k n)
      → (length (window_on ok k n p) ≡ n) × (marks_ok k (window_on ok k n p) ≡ true) × (ok (root (window_on ok k n p)) ≡ true)
  -- where: the last letter alone, then w = α γ with γ α its smallest rotation, α not all k−1, or α all k−1
  pub at_top : ok 1 ≡ true → place_on ok k n (replicate n (k - 1)) + n ≡ length (ring ok k n)
  pub at_end : (w : List ℕ) (r : ℕ) → length w ≡ n → marks_ok k w ≡ true → ok (root w) ≡ true
      → turned r w ≡ smallest w → r < root w → take r w ≢ replicate r (k - 1)
      → let u = take (root w) (smallest w) in place_on ok k n w + r ≡ before_w u (ring_words ok k n) + length u
  pub at_start : (w m : List ℕ) (r : ℕ) → length w ≡ n → marks_ok k w ≡ true → ok (root w) ≡ true
      → turned r w ≡ smallest w → r < root w → take r w ≡ replicate r (k - 1) → w ≢ replicate n (k - 1)
      → In m (ring_words ok k n) → take (n - r) (power_to n m) ≡ drop r w
      → ((v : List ℕ) → In v (ring_words ok k n) → below v m ≡ true → take (n - r) (power_to n v) ≢ drop r w)
      → modulo (place_on ok k n w + r) (length (ring ok k n)) ≡ before_w m (ring_words ok k n)

-- What a move x of a cursor does: it reads a letter, leads to a cursor that is good, at a position, and passes so many words to the one held then,
-- which are not more than `most`.
abbrev pub Leads : (Cursor → Bool) → (Cursor → ℕ) → Stepped → ℕ → ℕ → (List ℕ → ℕ) → ℕ → Type 0
Leads good position x letter to passes most =
    (x.mark ≡ letter)
    × (good x.cursor_is ≡ true)
    × (position x.cursor_is ≡ to)
    × (x.passed ≡ passes x.cursor_is.word)
    × (x.passed ≤ most)

-- Cursors on a ring: one for each position; a step reads the ring's letter and goes on to the next position.
pub record CursorsOn (ok : ℕ → Bool) (k n : ℕ) : Type 0 where
  pub there : (p : ℕ) → p < length (ring ok k n) → (good_on ok (cursor_on ok k n p) ≡ true) × (position_on ok (cursor_on ok k n p) ≡ p)
  pub within : (c : Cursor) → c.k ≡ k → c.n ≡ n → good_on ok c ≡ true → position_on ok c < length (ring ok k n)
  pub one : (c : Cursor) → c.k ≡ k → c.n ≡ n → good_on ok c ≡ true → cursor_on ok k n (position_on ok c) ≡ c
  pub onward : (c : Cursor) → c.k ≡ k → c.n ≡ n → good_on ok c ≡ true
      → let p = position_on ok c in
      let s = ring ok k n in
      Leads (good_on ok) (position_on ok) (step_on ok c) (letter_on (length s) s p) (modulo (suc p) (length s)) (passed_to k n c.word) n
  pub reads : (p c : ℕ) → p < length (ring ok k n) → read_on ok (cursor_on ok k n p) c ≡ letters_on (length (ring ok k n)) (ring ok k n) p c

-- Both ways round a ring: a step back reads the letter that it leaves and goes to the position before; step and step back undo each other and pass as
-- many words; and whichever way a cursor goes, it reads the ring's letters on its path and stands where the path ends.
pub record BothWays (ok : ℕ → Bool) (k n : ℕ) : Type 0 where
  pub backward : (c : Cursor) → c.k ≡ k → c.n ≡ n → good_on ok c ≡ true
      → let p = position_on ok c in
      let s = ring ok k n in
      Leads (good_on ok) (position_on ok) (back_on ok c) (letter_on (length s) s p) (beside (length s) false p) (passed_down k n c.word) n
  pub back_step : (c : Cursor) → c.k ≡ k → c.n ≡ n → good_on ok c ≡ true → (back_on ok (step_on ok c).cursor_is).cursor_is ≡ c
  pub step_back : (c : Cursor) → c.k ≡ k → c.n ≡ n → good_on ok c ≡ true → (step_on ok (back_on ok c).cursor_is).cursor_is ≡ c
  pub as_many : (c : Cursor) → c.k ≡ k → c.n ≡ n → good_on ok c ≡ true → (step_on ok (back_on ok c).cursor_is).passed ≡ (back_on ok c).passed
  pub follows : (c : Cursor) (ds : List Bool) → c.k ≡ k → c.n ≡ n → good_on ok c ≡ true
      → (walk_letters ok ds c ≡ path_letters (length (ring ok k n)) (ring ok k n) ds (position_on ok c))
      × (good_on ok (walk_end ok ds c) ≡ true)
      × (position_on ok (walk_end ok ds c) ≡ path_end (length (ring ok k n)) ds (position_on ok c))

-- The strip: every window is read at exactly one place.
pub record OnePlace : Type 0 where
  pub range : (k n : ℕ) → admitted k n ≡ true → (2 ≤ k) × (1 ≤ n)
  pub long : (k n : ℕ) → 2 ≤ k → 1 ≤ n → length (strip k n) ≡ k ^ n
  pub found : (k n : ℕ) (w : List ℕ) → 2 ≤ k → 1 ≤ n → length w ≡ n → marks_ok k w ≡ true
      → (place_of k n w < k ^ n) × (window k n (place_of k n w) ≡ w)
  pub only : (k n p : ℕ) (w : List ℕ) → 2 ≤ k → 1 ≤ n → p < k ^ n → window k n p ≡ w → place_of k n w ≡ p

-- The cursors of rings of so many positions, where ok has the allowed lengths for each n: the strip's, and the short ring's.
pub record Cursors (ok : ℕ → ℕ → Bool) (size : ℕ → ℕ → ℕ) : Type 0 where
  pub there : (k n p : ℕ) → 2 ≤ k → 1 ≤ n → p < size k n
      → let c = cursor_on (ok n) k n p in (good_in ok c ≡ true) × (position_in ok c ≡ p)
  pub within : (c : Cursor) → 2 ≤ c.k → 1 ≤ c.n → good_in ok c ≡ true → position_in ok c < size c.k c.n
  pub one : (c : Cursor) → 2 ≤ c.k → 1 ≤ c.n → good_in ok c ≡ true → cursor_on (ok c.n) c.k c.n (position_in ok c) ≡ c
  pub onward : (c : Cursor) → 2 ≤ c.k → 1 ≤ c.n → good_in ok c ≡ true
      → let p = position_in ok c in
      let t = size c.k c.n in
      Leads (good_in ok) (position_in ok) (step_in ok c) (letter_on t (ring (ok c.n) c.k c.n) p) (modulo (suc p) t) (passed_to c.k c.n c.word) c.n
  pub backward : (c : Cursor) → 2 ≤ c.k → 1 ≤ c.n → good_in ok c ≡ true
      → let p = position_in ok c in
      let t = size c.k c.n in
      Leads (good_in ok) (position_in ok) (back_in ok c) (letter_on t (ring (ok c.n) c.k c.n) p) (beside t false p) (passed_down c.k c.n c.word) c.n
  -- there and back
  pub back_step : (c : Cursor) → 2 ≤ c.k → 1 ≤ c.n → good_in ok c ≡ true → (back_in ok (step_in ok c).cursor_is).cursor_is ≡ c
  pub step_back : (c : Cursor) → 2 ≤ c.k → 1 ≤ c.n → good_in ok c ≡ true → (step_in ok (back_in ok c).cursor_is).cursor_is ≡ c
  pub as_many : (c : Cursor) → 2 ≤ c.k → 1 ≤ c.n → good_in ok c ≡ true → (step_in ok (back_in ok c).cursor_is).passed ≡ (back_in ok c).passed
  pub reads : (k n p c : ℕ) → 2 ≤ k → 1 ≤ n → p < size k n → read_on (ok n) (cursor_on (ok n) k n p) c ≡ letters_on (size k n) (ring (ok n) k n) p c

-- The short ring: how many places it has; every window that is not a shorter word repeated is read at exactly one of them, and no other window is read.
pub record ShortRing (k n : ℕ) : Type 0 where
  pub long : length (short_ring k n) ≡ short_size k n
  pub least : n ≤ short_size k n
  pub most : short_size k n ≤ k ^ n
  pub found : (w : List ℕ) → length w ≡ n → marks_ok k w ≡ true → root w ≡ n → (short_place_of k n w < short_size k n) × (short_window k n (short_place_of k n w) ≡ w)
  pub only : (p : ℕ) (w : List ℕ) → p < short_size k n → short_window k n p ≡ w → (short_place_of k n w ≡ p) × (root w ≡ n)
  -- the word that holds a place, by its index
  pub at_place : (p : ℕ) → p < short_size k n → short_cursor_at k n p ≡ cursor k n (word_of k n (suc (p / n))) (p % n)

-- Two plans with the same strip and the same sections, whatever their rails; one may be an old record and the other a new one.
pub record Alike (s r : List ℕ) : Type 0 where
  pub whole : (torn s ≡ false) × (torn r ≡ false)
  pub strip_same : (shades s ≡ shades r) × (marks s ≡ marks r)
  pub count_same : section_count s ≡ section_count r
  pub each_same : (i : ℕ) → i < section_count s
      → ((nth_s (sections s) i).offset ≡ (nth_s (sections r) i).offset) × ((nth_s (sections s) i).long ≡ (nth_s (sections r) i).long)

-- Old records of a plan, with entries of 16 bytes, and new ones, with 18.
pub record Records : Type 0 where
  -- the records that are taken: up to 500 sections, and the total is that of old entries or that of new ones
  pub taken : (s : List ℕ)
      → (torn s ≡ false) ↔ ((section_count s ≤ 500) × ((length s ≡ 4 + 16 * section_count s) ⊎ (length s ≡ 4 + 18 * section_count s)))
  -- a reader delivered before, by its rule for 7: it refuses a new record that has a section, whatever it looks at after that; what it takes is old records
  pub old_reader : (s : List ℕ) (rest : ℕ) → length s ≡ 4 + 18 * section_count s → 1 ≤ section_count s → first_of (when (torn_before s) 7) rest ≡ 7
  pub old_record : (s : List ℕ) → torn_before s ≡ false → (torn s ≡ false) × (entry_size s ≡ 16)
  -- what is taken beside those is new records that have a section; without sections both are the same
  pub new_record : (s : List ℕ) → torn s ≡ false → torn_before s ≡ true
      → (length s ≡ 4 + 18 * section_count s) × (1 ≤ section_count s) × (entry_size s ≡ 18)
  pub no_sections : (s : List ℕ) → section_count s ≡ 0 → torn s ≡ torn_before s
  -- where the numbers of section i stand, by the entry's size
  pub entry : (s : List ℕ) (i : ℕ) → i < section_count s
      → let x = nth_s (sections s) i in
      let at = 4 + entry_size s * i in
      (x.offset ≡ be at 8 s) × (x.long ≡ be (at + 8) 8 s) × (x.rail ≡ be (at + 16) (entry_size s - 16) s)
  -- the rail that is answered for a section: its own number in an old record, in a new one the 2 bytes behind its offset and length
  pub own_rail : (s : List ℕ) (i : ℕ) → entry_size s ≡ 16 → rail_of s i ≡ i
  pub written_rail : (s : List ℕ) (i : ℕ) → entry_size s ≡ 18 → i < section_count s → rail_of s i ≡ be (4 + 18 * i + 16) 2 s
  -- in an old record rails part no sections
  pub old_welds : (s : List ℕ) (i j : ℕ) → entry_size s ≡ 16 → i < section_count s → j < section_count s
      → welded (nth_s (sections s) i) (nth_s (sections s) j) ≡ eqb (end_of (nth_s (sections s) i)) (nth_s (sections s) j).offset
  -- a plan's fault is that of its strip and sections, in either record
  pub alike_fault : (s r : List ℕ) → Alike s r → plan_fault s ≡ plan_fault r

-- From whichever place n letters are read wholly inside a section, the lookup answers it and the distance.
abbrev pub Laid : Type 0
Laid =
    (s : List ℕ) (i d : ℕ) → plan_fault s ≡ 0 → i < section_count s → d + marks s ≤ (nth_s (sections s) i).long
    → let w = window (shades s) (marks s) ((nth_s (sections s) i).offset + d) in
    (lookup_fault s w ≡ 0) × (laying_of s w ≡ suc i) × (distance_of s w ≡ d)

-- The same over a welded joint, from each place of the section ahead of it. Where the window ends is not asked: never behind the next section, which has n letters at least.
abbrev pub LaidAcross : Type 0
LaidAcross =
    (s : List ℕ) (i d : ℕ) → plan_fault s ≡ 0 → suc i < section_count s → welded (nth_s (sections s) i) (nth_s (sections s) (suc i)) ≡ true
    → d < (nth_s (sections s) i).long
    → let w = window (shades s) (marks s) ((nth_s (sections s) i).offset + d) in
    (lookup_fault s w ≡ 0) × (laying_of s w ≡ suc i) × (distance_of s w ≡ d)

-- Over the joint of section i, which is welded, up to the place q, which the next section still holds.
abbrev pub Across : List Section → ℕ → ℕ → Type 0
Across xs i q = (suc i < length xs) × (welded (nth_s xs i) (nth_s xs (suc i)) ≡ true) × (q ≤ end_of (nth_s xs (suc i)))

-- The n letters from p on lie in section i: the first of them does, and the last too or, over a welded joint, in the next section.
pub record Lies (n : ℕ) (xs : List Section) (i p : ℕ) : Type 0 where
  pub listed : i < length xs
  pub starts : (nth_s xs i).offset ≤ p
  pub begins : p < end_of (nth_s xs i)
  pub ends : (p + n ≤ end_of (nth_s xs i)) ⊎ Across xs i (p + n)

-- The section that the window at a place is laid in is the one where it lies, and there is no other; so it is laid in none just where it lies in none.
abbrev pub LaidWhere : Type 0
LaidWhere = (s : List ℕ) (i p : ℕ) → plan_fault s ≡ 0 → (laying_at s p ≡ suc i) ↔ Lies (marks s) (sections s) i p

-- Letter by letter, whatever joints there are: a window is laid just when each of its letters stands in a section, all on one rail. So none is read over a gap
-- or from one rail to another.
abbrev pub LaidEach : Type 0
LaidEach =
    (s : List ℕ) (p : ℕ) → plan_fault s ≡ 0
    → (laid_at s p ≡ true)
    ↔ ((rail : ℕ)
    × ((q : ℕ) → p ≤ q → q < p + marks s
    → (i : ℕ) × (i < section_count s) × ((nth_s (sections s) i).offset ≤ q) × (q < end_of (nth_s (sections s) i)) × ((nth_s (sections s) i).rail ≡ rail)))

-- What the lookup answers is true: the window lies in that section, at that distance from its start.
abbrev pub LaidOnly : Type 0
LaidOnly =
    (s w : List ℕ) → lookup_fault s w ≡ 0
    → let i = laying_of s w - 1 in
    let p = place_of (shades s) (marks s) w in
    (i < section_count s) × ((nth_s (sections s) i).offset + distance_of s w ≡ p) × Lies (marks s) (sections s) i p

-- The window at a place that is laid, in an accepted plan: its section, its distance there, and that it does not run over the strip's end.
abbrev pub LaidAt : Type 0
LaidAt =
    (s : List ℕ) (p : ℕ) → plan_fault s ≡ 0 → laid_at s p ≡ true
    → let i = laying_at s p - 1 in
    (i < section_count s) × ((nth_s (sections s) i).offset + distance_at s p ≡ p) × (p + marks s ≤ shades s ^ marks s)

-- Windows with erasures.
pub record Smudged : Type 0 where
  -- agreeing: as long, and with the same letter wherever one was read
  pub agrees_is : (w v : List ℕ)
      → (agrees w v ≡ true) ↔ ((length w ≡ length v) × ((j : ℕ) → j < length w → get_or w j 0 ≢ 255 → get_or w j 0 ≡ get_or v j 0))
  -- the words that agree are the fillings; there are no more than the k^e of e erasures
  pub filling-agrees : (k c : ℕ) (w : List ℕ) → 1 ≤ k → marks_ok k (keep read w) ≡ true
      → (marks_ok k (filling k c w) ≡ true) × (agrees w (filling k c w) ≡ true)
  pub agrees_filling : (k : ℕ) (w v : List ℕ) → marks_ok k v ≡ true → agrees w v ≡ true
      → (c : ℕ) × (c < k ^ length (keep unread w)) × (filling k c w ≡ v)
  -- the places that fit
  pub fitting_is : (s w : List ℕ) (p : ℕ)
      → In p (fitting s w) ↔ ((p < shades s ^ marks s) × (laid_at s p ≡ true) × (agrees w (window (shades s) (marks s) p) ≡ true))
  -- the lowest of them, where nothing is refused
  pub lowest_fits : (s w : List ℕ) → smudged_fault s w ≡ 0 → In (lowest s w) (fitting s w)
  pub lowest_least : (s w : List ℕ) (p : ℕ) → In p (fitting s w) → lowest s w ≤ p
  -- 9 just when no window that agrees is laid
  pub nowhere : (s w : List ℕ) → plan_fault s ≡ 0 → smudge_fault (shades s) (marks s) w ≡ 0
      → (smudged_fault s w ≡ 9)
      ↔ ((v : List ℕ) → length v ≡ marks s → marks_ok (shades s) v ≡ true → agrees w v ≡ true → laid_at s (place_of (shades s) (marks s) v) ≡ false)
  -- a window that was read in full: the plain lookup's refusals, and its place
  pub in_full : (s w : List ℕ) → keep unread w ≡ []
      → (smudged_fault s w ≡ lookup_fault s w) × (lookup_fault s w ≡ 0 → (p : ℕ) → In p (fitting s w) → p ≡ place_of (shades s) (marks s) w)

-- Single substitutions of a window.
pub record Misread : Type 0 where
  -- a word so changed differs from the word in that letter alone
  pub changed_is : (w v : List ℕ) (c : Change) → c.mark < length w
      → (changed c w ≡ v) ↔ ((length v ≡ length w) × (get_or v c.mark 0 ≡ c.shade) × ((j : ℕ) → j ≢ c.mark → get_or v j 0 ≡ get_or w j 0))
  -- the changes that are tried: each letter of the word to each other one; two of them give two words
  pub changes_are : (k : ℕ) (w : List ℕ) (c : Change) → marks_ok k w ≡ true
      → In c (changes k w) ↔ ((c.mark < length w) × (c.shade < k) × (c.shade ≢ get_or w c.mark 0))
  pub changes_many : (k : ℕ) (w : List ℕ) → marks_ok k w ≡ true → length (changes k w) ≡ length w * (k - 1)
  pub apart : (w : List ℕ) (c d : Change) → c.mark < length w → d.mark < length w → c.shade ≢ get_or w c.mark 0 → changed c w ≡ changed d w → c ≡ d
  -- those that are listed: the window so changed is laid
  pub misread_are : (s w : List ℕ) (c : Change) → marks_ok (shades s) w ≡ true
      → In c (misread s w) ↔ ((c.mark < length w) × (c.shade < shades s) × (c.shade ≢ get_or w c.mark 0) × (laid_at s (new_place s w c) ≡ true))
  -- in their order, each once: the smallest change first, then the earlier letter, then the lower new one
  pub ordered : (s w : List ℕ) → Ascending (each (key_of w) (misread s w))
  -- how many there are, at most
  pub few : (s w : List ℕ) → marks_ok (shades s) w ≡ true → length (misread s w) ≤ length w * (shades s - 1)
  pub most : (k n : ℕ) → admitted k n ≡ true → n * (k - 1) ≤ 385
  -- on the strip of 3 shades and windows of 2, laid whole: the window 1 2, with each change the new window's place
  pub example : let s : List ℕ = 3 ∷ 2 ∷ 0 ∷ 1 ∷ (replicate 15 0 ++ (9 ∷ [])) in
      let w : List ℕ = 1 ∷ 2 ∷ [] in
      each (λ c. c.mark ∷ c.shade ∷ new_place s w c ∷ []) (misread s w)
      ≡ (0 ∷ 0 ∷ 3 ∷ []) ∷ (0 ∷ 2 ∷ 7 ∷ []) ∷ (1 ∷ 1 ∷ 5 ∷ []) ∷ (1 ∷ 0 ∷ 2 ∷ []) ∷ []

-- The bill of sections, for any price and charge.
pub record Priced : Type 0 where
  -- cents is the least number of cents that pays v thousandths; so a whole number of cents is not raised
  pub enough : (v : ℕ) → v ≤ 1000 * cents v
  pub least : (v c : ℕ) → v ≤ 1000 * c → cents v ≤ c
  pub whole : (c : ℕ) → cents (1000 * c) ≡ c
  -- each section is billed by itself
  pub apart : (p c : ℕ) (xs ys : List Section) → cost_of p c (xs ++ ys) ≡ cost_of p c xs + cost_of p c ys
  -- for nothing a letter, the charges alone
  pub charges : (c : ℕ) (xs : List Section) → cost_of 0 c xs ≡ length xs * c
  -- what the test for long sections says; with it the limits of price and charge keep every bill small
  pub short_are : (xs : List Section) → (short_rolls xs ≡ true) ↔ ((i : ℕ) → i < length xs → (nth_s xs i).long ≤ 4294967295)
  pub small : (p c : ℕ) (xs : List Section) → p ≤ 10000000 → c ≤ 4294967295 → short_rolls xs ≡ true → cost_of p c xs ≤ length xs * 42953967917295
  -- neither the record of a plan matters nor its rails
  pub alike : (p c : ℕ) (s r : List ℕ) → Alike s r → (short_rolls (sections s) ≡ short_rolls (sections r)) × (cost_of p c (sections s) ≡ cost_of p c (sections r))
  -- a section of 1,001 letters at price 1, and two of them
  pub one_roll : cost_of 1 0 (record { offset = 0; long = 1001; rail = 0 } ∷ []) ≡ 2
  pub two_rolls : cost_of 1 0 (record { offset = 0; long = 1001; rail = 0 } ∷ record { offset = 2000; long = 1001; rail = 0 } ∷ []) ≡ 4

-- The topological orders of the numbers below m, for any pairs.
pub record Ordered : Type 0 where
  -- the list holds just these; its first comes before every other, and it is empty just when there are none
  pub members : (m : ℕ) (ps : List Pair) (xs : List ℕ) → In xs (orders m ps) ↔ Topological m ps xs
  pub first : (m : ℕ) (ps : List Pair) (xs : List ℕ) → Topological m ps xs → Topological m ps (first_order m ps) × (up_to (first_order m ps) xs ≡ true)
  pub none : (m : ℕ) (ps : List Pair) → (length (orders m ps) ≡ 0) ↔ ((xs : List ℕ) → ¬ Topological m ps xs)
  -- a pair that comes twice is one pair, and the list's own order does not matter
  pub same-orders : (m : ℕ) (ps qs : List Pair) → ((p : Pair) → In p ps → In p qs) → ((p : Pair) → In p qs → In p ps) → orders m ps ≡ orders m qs
  -- there is none just when some pairs lead from a number round to itself
  pub rounds : (m : ℕ) (ps : List Pair) → known m ps ≡ true → (length (orders m ps) ≡ 0) ↔ Round ps
  -- three sections, the last before the first; and a section before itself
  pub example : first_order 3 (pair 2 0 ∷ []) ≡ 1 ∷ 2 ∷ 0 ∷ []
  pub own_round : orders 3 (pair 1 1 ∷ []) ≡ []

-- The sums of document 004, section 3: Möbius values over the divisors, the rank (Lemma 9) and the number of Lyndon words; the order
-- of summation does not matter, so that from n downwards (Example 10) the sum is the same; and no running sum is large.
pub record Summed : Type 0 where
  pub mobius-sum : (n : ℕ) → 1 ≤ n → running mobius (pos 0) (divisors n) ≡ pick (eqb n 1) (pos 1) (pos 0)
  pub any_order : (f : ℕ → ℤ) (a : ℤ) (ds es : List ℕ) → Once ds → Once es → ((d : ℕ) → In d ds ↔ In d es) → running f a ds ≡ running f a es
  pub down_is : (n : ℕ) → divisors_down n ≡ reverse (divisors n)
  pub downwards : (f : ℕ → ℤ) (a : ℤ) (n : ℕ) → running f a (divisors_down n) ≡ running f a (divisors n)
  pub by_sum : BySum
  pub by_divisors : (k : ℕ) (w : List ℕ) → 1 ≤ length w → smallest w ≡ w
      → pos (length w * rank k w) ≡ running (rank_term k w) (pos 0) (divisors (length w))
  pub worksheet-total : (k : ℕ) (w : List ℕ) → marks_ok k w ≡ true → 1 ≤ length w
      → running (rank_term k (necklace_up_to k w)) (pos 0) (divisors_down (length w)) ≡ pos (length w * rank k w)
  pub count_sum : (k n : ℕ) → 1 ≤ n → pos (n * how_many k n) ≡ running (count_term k n) (pos 0) (divisors n)
  pub rank_small : (k : ℕ) (w : List ℕ) (ds : List ℕ) → 2 ≤ k → 1 ≤ length w → Once ds → ((d : ℕ) → In d ds → In d (divisors (length w)))
      → nat_abs (running (rank_term k w) (pos 0) ds) ≤ 2 * k ^ length w
  pub count_small : (k n : ℕ) (ds : List ℕ) → 2 ≤ k → 1 ≤ n → Once ds → ((d : ℕ) → In d ds → In d (divisors n))
      → nat_abs (running (count_term k n) (pos 0) ds) ≤ 2 * k ^ n

-- The largest necklace not above a word (document 004, Lemma 5), and below it; what it is for; the rule that computes it.
pub record Floors : Type 0 where
  pub floor_is : (k : ℕ) (w : List ℕ) → marks_ok k w ≡ true
      → let v = necklace_up_to k w in (length v ≡ length w) × (marks_ok k v ≡ true) × (smallest v ≡ v) × (up_to v w ≡ true)
  pub floor_largest : (k : ℕ) (w u : List ℕ) → length u ≡ length w → marks_ok k u ≡ true → smallest u ≡ u → up_to u w ≡ true
      → up_to u (necklace_up_to k w) ≡ true
  pub floor_cs : (k : ℕ) (w : List ℕ) → marks_ok k w ≡ true → cs k (necklace_up_to k w) ≡ cs k w
  pub floor_rank : (k : ℕ) (w : List ℕ) → marks_ok k w ≡ true → rank k (necklace_up_to k w) ≡ rank k w
  pub floor_rule : (k : ℕ) (w : List ℕ) → marks_ok k w ≡ true → necklace_up_to k w ≡ pick (is_necklace w) w (floor_from k w (length w))
  pub below-rule : (k : ℕ) (w : List ℕ) → marks_ok k w ≡ true → necklace_below k w ≡ floor_from k w (length w)

-- Where a ring's word ends (document 004, Lemma 22): as many letters as there are words not above its power.
pub record Ends (ok : ℕ → Bool) (k n : ℕ) : Type 0 where
  pub ring_end : (u : List ℕ) → In u (ring_words ok k n)
      → before_w u (ring_words ok k n) + length u ≡ length (keep (λ x. ok (root x) && up_to (smallest x) (power_to n u)) (all_words k n))

abbrev pub StripEnds : Type 0
StripEnds = (k n : ℕ) (u : List ℕ) → 1 ≤ n → In u (strip_words k n) → before_w u (strip_words k n) + length u ≡ cs k (power_to n u)

abbrev pub ShortEnds : Type 0
ShortEnds =
    (k n : ℕ) (u : List ℕ) → 1 ≤ n → In u (short_words k n)
    → before_w u (short_words k n) + length u ≡ n * rank k u

-- The automaton (document 004, section 4): x is in CS(w) just when x x is accepted (Facts 11 and 12); the numbers of its paths by a
-- recurrence; and from one table of these the size of CS of every prefix.
pub record Automaton : Type 0 where
  pub accepts : (w x : List ℕ) → smallest w ≡ w → length x ≡ length w → up_to (smallest x) w ≡ same (run w w (x ++ x)) []
  pub home : (k : ℕ) (w : List ℕ) → returning k w 0 0 ≡ 1
  pub away : (k : ℕ) (w : List ℕ) (s : ℕ) → 0 < s → s ≤ length w → returning k w s 0 ≡ 0
  pub step : (k : ℕ) (w : List ℕ) (s l : ℕ) → marks_ok k w ≡ true → s < length w
      → returning k w s (suc l) ≡ returning k w (suc s) l + (k - 1 - get_or w s 0) * returning k w 0 l
  pub small : (k : ℕ) (w : List ℕ) (s l : ℕ) → returning k w s l ≤ k ^ l
  pub sizes : (k : ℕ) (w t : List ℕ) (d : ℕ) → smallest (w ++ t) ≡ w ++ t → marks_ok k w ≡ true → 1 ≤ d → d ≤ length w
      → cs k (take d w) + paths_to k w d d ≡ k ^ d
  pub cs_small : (k : ℕ) (w : List ℕ) → cs k w ≤ k ^ length w

-- Words found letter by letter: the word of an index by ranks, the word at a position by sizes of CS.
pub record Searched : Type 0 where
  pub least_word_lem : (k n : ℕ) (test : List ℕ → Bool) → 1 ≤ k
      → ((u v : List ℕ) → length u ≡ n → length v ≡ n → marks_ok k u ≡ true → marks_ok k v ≡ true → up_to u v ≡ true → test u ≡ true → test v ≡ true)
      → test (replicate n (k - 1)) ≡ true
      → let w = least_word k test [] n in
      (length w ≡ n) × (marks_ok k w ≡ true) × (test w ≡ true)
      × ((u : List ℕ) → length u ≡ n → marks_ok k u ≡ true → test u ≡ true → up_to w u ≡ true)
  pub by_rank : (k n i : ℕ) → 1 ≤ k → 1 ≤ i → i ≤ how_many k n → least_word k (λ w. leb i (rank k w)) [] n ≡ word_of k n i
  pub by_cs : (k n p : ℕ) → 2 ≤ k → 1 ≤ n → p < k ^ n
      → let w = least_word k (λ w. ltb p (cs k w)) [] n in
      (smallest w ≡ w) × (take (root w) w ≡ (cursor_at k n p).word) × (cs k w ≡ before_w (take (root w) w) (strip_words k n) + root w)

pub record Theorems : Type 0 where
  pub marked : Marked
  pub listed : Listed
  pub undone : Undone
  pub word_laws : WordLaws
  pub lyndon_laws : LyndonLaws
  pub steps : (k n : ℕ) → 2 ≤ k → 1 ≤ n → Steps k n
  pub rings : (ok : ℕ → Bool) (k n : ℕ) → 2 ≤ k → 1 ≤ n → Allowed n ok → Ring ok k n
  pub ring_cursors : (ok : ℕ → Bool) (k n : ℕ) → 2 ≤ k → 1 ≤ n → Allowed n ok → CursorsOn ok k n
  pub both_ways : (ok : ℕ → Bool) (k n : ℕ) → 2 ≤ k → 1 ≤ n → Allowed n ok → BothWays ok k n
  pub one_place : OnePlace
  pub cursors : Cursors divisor_of ◌^◌
  pub short_ring_lem : (k n : ℕ) → 2 ≤ k → 1 ≤ n → ShortRing k n
  pub short_cursors : Cursors whole short_size
  pub records : Records
  pub laid : Laid
  pub laid_across : LaidAcross
  pub laid_where : LaidWhere
  pub laid_each : LaidEach
  pub laid_only : LaidOnly
  pub laid_at_lem : LaidAt
  pub smudged : Smudged
  pub misread : Misread
  pub priced : Priced
  pub ordered : Ordered
  pub summed : Summed
  pub floors : Floors
  pub ends : (ok : ℕ → Bool) (k n : ℕ) → 1 ≤ n → Allowed n ok → Ends ok k n
  pub strip_ends : StripEnds
  pub short_ends : ShortEnds
  pub automaton : Automaton
  pub searched : Searched

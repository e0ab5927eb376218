-- The three demands as one record: the theorems about the definitions, and what follows for the bytes that the calls leave in trays.
-- A call's promise says what it gives for every argument (specs/Says of words, ranking, marks, pictures, lookups, misreadings and bills; Cursors of cursors): here it stands as a premise.
use Rattle.std.specs.Prelude.{Result, ◌≡◌, Bool, true, not, List, [], ◌∷◌, ◌++◌, ◌↔◌, ◌≢◌, ℕ, suc, ◌+◌, ◌*◌, ◌^◌, ◌≤◌, ◌<◌, pos, length, get_or, take, drop, replicate}
use Rattle.theory.specs.Words.{below, up_to, turned, root as root_of, repeated, power_to, keep, marks_ok, is_lyndon, how_many, rank, word_of}
use Rattle.theory.specs.Sums.{rank_term}
use Rattle.theory.specs.Floors.{necklace_up_to}
use Rattle.theory.specs.Rings.{ring, modulo, position_in, path_end, path_letters}
use Rattle.theory.specs.Strips.{admitted, window}
use Rattle.theory.specs.Shorts.{short_size, short_window}
use Rattle.shape.specs.declared.Lengths.{Lengths}
use Rattle.shape.specs.Rings.{ok_of, size_of, letter_of, letters_of}
use Rattle.theory.specs.Plans.{be, shades, marks, section_count, sections, welded, nth_s, plan_fault, rail_of, laying_at, laid_at}
use Rattle.theory.specs.Erasures.{unread, agrees}
use Rattle.theory.specs.Substitutions.{Change, change, changed, key_of}
use Rattle.theory.specs.Prices.{cost_of}
use Rattle.theory.specs.Theorems.{Alike, Lies, Theorems}
use Rattle.buffers.specs.Buffers.{over}
use Rattle.numbers.specs.Numbers.{put_be}
use Rattle.calls.specs.Answers.{IntoValue, ValueIs}
use Rattle.words.specs.Says.{LyndonSays, RotationSays, TurnSays, RootSays}
use Rattle.ranking.specs.Says.{ManySays, RankSays, WordSays}
use Rattle.marks.specs.Says.{MarkOn, PlaceSays, PrintOn, PrintSays, ShortPlaceSays, ShortPrintSays}
use Rattle.pbm.specs.declared.Parts as DP
use Rattle.pbm.specs.Pictures.{picture, file_size, read_picture, Pictures}
use Rattle.pbm.specs.Parts.{Frame, parts_room}
use Rattle.pictures.specs.Says.{PictureSays, BothSay}
use Rattle.pictures.specs.Requests.{picture_for, PartsSay}
use Rattle.lookups.specs.Says.{answer_size, LookupSays, SmudgedSays}
use Rattle.misreadings.specs.Says.{MisreadingsSays, MisreadingListSays}
use Rattle.bills.specs.Says.{BillSays, BillOfSays}
use Rattle.listing.specs.Listings.{SameListing}
use Rattle.sheets.specs.Worksheets.{sheet_line, worksheet, Sheets}
use Rattle.cursors.specs.declared.Cursor as DC
use Rattle.cursors.specs.declared.Stepped as DT
use Rattle.cursors.specs.Cursors.{mark_of, passed_of, after, cursor_of, cursor_in, empty, fault_on, cursor_fault, short_fault, StartOn, WhereOn}
use Rattle.demands.specs.Refused.{AllShort, Refusals}
use Rattle.demands.specs.Trays.{Trays}
use Rattle.demands.specs.Walked.{Says, StepsOn, Walked, Followed, fields, passed_from, path_passed}
use Rattle.calls.specs.declared.refusal.Refusal.{Refusal}
use Rattle.calls.specs.Codes.{number_of, value_of}

-- the turn of a word that is told: the rotation by it is not above any, and no smaller turn gives that rotation
pub record TurnTold (w : List ℕ) (v : ℕ) : Type 0 where
  pub inside : v < length w
  pub lowest : (i : ℕ) → up_to (turned v w) (turned i w) ≡ true
  pub first : (j : ℕ) → j < v → turned j w ≢ turned v w

-- the rail in an answer's last two bytes is that of section i. A plan is any list here; a rail is read back if the list is bytes
abbrev pub RailTold : List ℕ → ℕ → List ℕ → Type 0
RailTold s i t' = marks_ok 256 s ≡ true → be 10 2 t' ≡ rail_of s i

-- look_up on the window at distance d in section i writes that section, that distance and the section's rail, and no byte after them
abbrev pub SectionTold : List ℕ → ℕ → ℕ → Type 0
SectionTold s i d =
    (t t' : List ℕ) (r : ℕ) → answer_size ≤ length t → LookupSays s (window (shades s) (marks s) ((nth_s (sections s) i).offset + d)) t t' r
    → (r ≡ 0) × (be 0 2 t' ≡ i) × (be 2 8 t' ≡ d) × RailTold s i t' × (drop answer_size t' ≡ drop answer_size t)

-- a change of one mark of a window to another shade, after which the window is read at a place where it is laid
pub record Nearby (s w : List ℕ) (c : Change) (p : ℕ) : Type 0 where
  pub inside : c.mark < length w
  pub shade : c.shade < shades s
  pub other : c.shade ≢ get_or w c.mark 0
  pub on_strip : p < shades s ^ marks s
  pub reads : window (shades s) (marks s) p ≡ changed c w
  pub laid : laid_at s p ≡ true

-- entry i of a list in a tray: the change, and the new window's place
abbrev pub change_in : List ℕ → ℕ → Change
change_in t i = change (be (10 * i) 1 t) (be (10 * i + 1) 1 t)

abbrev pub new_place_in : List ℕ → ℕ → ℕ
new_place_in t i = be (10 * i + 2) 8 t

-- a list of so many entries is told of a window: each nearby change is in it, no other is, and they stand in their order, so none is there twice; the bytes
-- behind the list stay
pub record ListTold (s w t t' : List ℕ) (count : ℕ) : Type 0 where
  pub all : (c : Change) (p : ℕ) → Nearby s w c p → (i : ℕ) × (i < count) × (change_in t' i ≡ c) × (new_place_in t' i ≡ p)
  pub only : (i : ℕ) → i < count → Nearby s w (change_in t' i) (new_place_in t' i)
  pub ordered : (i j : ℕ) → i < j → j < count → below (key_of w (change_in t' i)) (key_of w (change_in t' j)) ≡ true
  pub behind : drop (10 * count) t' ≡ drop (10 * count) t

pub record Demands : Type 0 where
  pub theorems : Theorems
  -- call by call: which number is given when, and what stays in a tray
  pub refusals : Refusals
  pub trays : Trays
  -- a refusal has no value, for which 0 stands, also beside a tray
  pub no_value : (f v : ℕ) (r : Result ℕ Refusal) → ValueIs f v r → number_of r ≢ 0 → value_of r ≡ 0
  pub no_value_beside : (f v : ℕ) (b t t' : List ℕ) (r : Result ℕ Refusal) → IntoValue f v b t t' r → number_of r ≢ 0 → value_of r ≡ 0
  -- a number is read back from its 8 bytes
  pub number_back : (v : ℕ) → v < 2 ^ 64 → be 0 8 (put_be 8 v) ≡ v
  -- Words: is_lyndon answers 1 for a word that is smaller than each of its proper rotations, 0 for any other
  pub lyndon : (k n : ℕ) (w : List ℕ) (r : Result ℕ Refusal) → admitted k n ≡ true → length w ≡ n → marks_ok k w ≡ true → LyndonSays k n w r
      → (number_of r ≡ 0) × (value_of r ≤ 1) × ((value_of r ≡ 1) ↔ ((i : ℕ) → 1 ≤ i → i < n → below w (turned i w) ≡ true))
  -- smallest_rotation answers the turn, and writes the word turned by so many letters; turn_of writes the turn
  pub rotation : (k n : ℕ) (w t t' : List ℕ) (r : Result ℕ Refusal) → admitted k n ≡ true → length w ≡ n → marks_ok k w ≡ true → n ≤ length t
      → RotationSays k n w t t' r → (number_of r ≡ 0) × (t' ≡ over (turned (value_of r) w) t) × TurnTold w (value_of r)
  pub turn : (k n : ℕ) (w t t' : List ℕ) (r : ℕ) → admitted k n ≡ true → length w ≡ n → marks_ok k w ≡ true → 8 ≤ length t → TurnSays k n w t t' r
      → (r ≡ 0) × TurnTold w (be 0 8 t')
  -- shortest_root answers how many first letters, repeated, give the word; no shorter word does
  pub root : (k n : ℕ) (w : List ℕ) (r : Result ℕ Refusal) → admitted k n ≡ true → length w ≡ n → marks_ok k w ≡ true → RootSays k n w r
      → (number_of r ≡ 0) × (1 ≤ value_of r) × (power_to n (take (value_of r) w) ≡ w) × ((u : List ℕ) (e : ℕ) → w ≡ repeated e u → value_of r ≤ length u)
  -- lyndon_count answers the number of Lyndon words, rank_of writes the number of those up to a word, word_of the one of an index
  pub count : (k n : ℕ) (r : Result ℕ Refusal) → admitted k n ≡ true → ManySays k n r → (number_of r ≡ 0) × (value_of r ≡ how_many k n)
  pub ranked : (k n : ℕ) (w t t' : List ℕ) (r : ℕ) → admitted k n ≡ true → length w ≡ n → marks_ok k w ≡ true → 8 ≤ length t → RankSays k n w t t' r
      → (r ≡ 0) × (be 0 8 t' ≡ rank k w)
  pub unranked : (k n i : ℕ) (t t' : List ℕ) (r : ℕ) → admitted k n ≡ true → 1 ≤ i → i ≤ how_many k n → n ≤ length t → WordSays k n i t t' r
      → (r ≡ 0) × (take n t' ≡ word_of k n i) × (is_lyndon (take n t') ≡ true)
  -- rank_of, then word_of with what it wrote, gives the Lyndon word back; and the other way round
  pub word_back : (k n : ℕ) (w t t' u u' : List ℕ) (r q : ℕ) → admitted k n ≡ true → length w ≡ n → marks_ok k w ≡ true → is_lyndon w ≡ true
      → 8 ≤ length t → n ≤ length u → RankSays k n w t t' r → WordSays k n (be 0 8 t') u u' q → (r ≡ 0) × (q ≡ 0) × (u' ≡ over w u)
  pub rank-back : (k n i : ℕ) (t t' u u' : List ℕ) (r q : ℕ) → admitted k n ≡ true → 1 ≤ i → i ≤ how_many k n
      → n ≤ length t → 8 ≤ length u → WordSays k n i t t' r → RankSays k n (take n t') u u' q → (r ≡ 0) × (q ≡ 0) × (be 0 8 u' ≡ i)
  -- worksheet: what is proved of its sheets; the last line of a word's sheet has n times what rank_of writes
  pub sheets : Sheets
  pub sheet_ranked : (k n : ℕ) (w t t' : List ℕ) (r : ℕ) → admitted k n ≡ true → length w ≡ n → marks_ok k w ≡ true → 8 ≤ length t → RankSays k n w t t' r
      → (x : List ℕ) × (worksheet (k ∷ n ∷ w) ≡ x ++ sheet_line 1 (rank_term k (necklace_up_to k w) 1) (pos (n * be 0 8 t')))
  -- Marks and places, on the strip and on the short ring: mark_at and short_mark_at write the ring's mark at a place
  pub marked : (lengths : Lengths) (k n p : ℕ) (t t' : List ℕ) (r : ℕ) → admitted k n ≡ true → p < size_of lengths k n → 8 ≤ length t
      → MarkOn lengths k n p t t' r → (r ≡ 0) × (be 0 8 t' ≡ letter_of lengths k n p) × (be 0 8 t' < k)
  -- every window is read at exactly one place of the strip, and place_of writes that one
  pub placed : (k n : ℕ) (w t t' : List ℕ) (r : ℕ) → admitted k n ≡ true → length w ≡ n → marks_ok k w ≡ true → 8 ≤ length t → PlaceSays k n w t t' r
      → (r ≡ 0) × (be 0 8 t' < k ^ n) × (window k n (be 0 8 t') ≡ w) × ((p : ℕ) → p < k ^ n → window k n p ≡ w → p ≡ be 0 8 t')
  -- place_of on the window at a place writes that place, and no byte after it
  pub place_back : (k n p : ℕ) (t t' : List ℕ) (r : ℕ) → admitted k n ≡ true → p < k ^ n → 8 ≤ length t
      → PlaceSays k n (window k n p) t t' r → (r ≡ 0) × (be 0 8 t' ≡ p) × (drop 8 t' ≡ drop 8 t)
  -- place_of, then print_marks of n marks there, gives the window back
  pub window-back : (k n : ℕ) (w t t' u u' : List ℕ) (r q : ℕ) → admitted k n ≡ true → length w ≡ n → marks_ok k w ≡ true
      → 8 ≤ length t → n ≤ length u → PlaceSays k n w t t' r → PrintSays k n (be 0 8 t') n u u' q → (r ≡ 0) × (q ≡ 0) × (u' ≡ over w u)
  -- every window that is no shorter word repeated is read at exactly one place of the short ring, and short_place_of writes that one
  pub short_placed : (k n : ℕ) (w t t' : List ℕ) (r : ℕ) → admitted k n ≡ true → length w ≡ n → marks_ok k w ≡ true → root_of w ≡ n → 8 ≤ length t
      → ShortPlaceSays k n w t t' r
      → (r ≡ 0) × (be 0 8 t' < short_size k n) × (short_window k n (be 0 8 t') ≡ w) × ((p : ℕ) → p < short_size k n → short_window k n p ≡ w → p ≡ be 0 8 t')
  -- a window that is one is refused with 16; it is read nowhere there
  pub short_repeats : (k n : ℕ) (w t t' : List ℕ) (r : ℕ) → admitted k n ≡ true → length w ≡ n → marks_ok k w ≡ true → root_of w < n
      → ShortPlaceSays k n w t t' r → (r ≡ 16) × (t' ≡ t) × ((p : ℕ) → p < short_size k n → short_window k n p ≢ w)
  -- there and back, as on the strip
  pub short_place_back : (k n p : ℕ) (t t' : List ℕ) (r : ℕ) → admitted k n ≡ true → p < short_size k n → 8 ≤ length t
      → ShortPlaceSays k n (short_window k n p) t t' r → (r ≡ 0) × (be 0 8 t' ≡ p) × (drop 8 t' ≡ drop 8 t)
  pub short_window-back : (k n : ℕ) (w t t' u u' : List ℕ) (r q : ℕ) → admitted k n ≡ true → length w ≡ n → marks_ok k w ≡ true → root_of w ≡ n
      → 8 ≤ length t → n ≤ length u → ShortPlaceSays k n w t t' r → ShortPrintSays k n (be 0 8 t') n u u' q → (r ≡ 0) × (q ≡ 0) × (u' ≡ over w u)
  -- print_marks and short_print_marks of any number of marks: each is the ring's, round the end as often as need be
  pub printed : (lengths : Lengths) (k n p c : ℕ) (t t' : List ℕ) (r : ℕ) → admitted k n ≡ true → p < size_of lengths k n → c ≤ length t
      → PrintOn lengths k n p c t t' r
      → (r ≡ 0) × (take c t' ≡ letters_of lengths k n p c) × ((j : ℕ) → j < c → get_or t' j 0 ≡ letter_of lengths k n (p + j))
  -- Pictures: the file's lines, its size, and that what is read of it is what was drawn
  pub pictures : Pictures
  -- print_picture writes the file and answers its size; its digits, read back, are the marks that print_marks writes, in every row
  pub picture-back : (n p c h : ℕ) (t t' u u' : List ℕ) (r : Result ℕ Refusal) (q : ℕ) → admitted 2 n ≡ true → p < 2 ^ n → Frame c h
      → file_size c h ≤ length t → c ≤ length u → PictureSays 2 n p c h t t' r → PrintSays 2 n p c u u' q
      → (number_of r ≡ 0) × (value_of r ≡ file_size c h) × (q ≡ 0)
      × (read_picture (take (value_of r) t') ≡ record { plain = true; width = c; height = h; marks = repeated h (take c u') })
  -- picture_of writes the same file, and its size into the other tray
  pub picture_both : (n p c h : ℕ) (s s' t t' : List ℕ) (r : ℕ) → admitted 2 n ≡ true → p < 2 ^ n → Frame c h
      → 8 ≤ length s → file_size c h ≤ length t → BothSay 2 n p c h s s' t t' r
      → (r ≡ 0) × (be 0 8 s' ≡ file_size c h) × (take (be 0 8 s') t' ≡ picture 2 n p c h)
  -- stripprint: the head and as many rows, as its parts are told, are the file that the request asks for; nothing, if it asks for none
  pub picture_by_rows : (s b t : List ℕ) (r : DP.Parts) → parts_room ≤ length b → PartsSay s b t r
      → take r.head t ++ repeated r.rows (drop r.head (take r.end t)) ≡ picture_for s
  -- Cursors, on either ring: a start gives a cursor without fault on the place; refused, none, for which the constant that is zero in every field stands
  pub started : (lengths : Lengths) (k n p : ℕ) (r : Result DC.Cursor Refusal) → admitted k n ≡ true → p < size_of lengths k n → StartOn lengths k n p r
      → (number_of r ≡ 0) × ((cursor_of r).k ≡ k) × ((cursor_of r).n ≡ n) × (fault_on lengths (cursor_of r) ≡ 0) × (position_in (ok_of lengths) (cursor_in (cursor_of r)) ≡ p)
  pub not_started : (lengths : Lengths) (k n p : ℕ) (r : Result DC.Cursor Refusal) → StartOn lengths k n p r → number_of r ≢ 0 → empty (cursor_of r) ≡ true
  -- any cursor without fault tells its place, which is on the ring
  pub stands : (lengths : Lengths) (c : DC.Cursor) (v : Result ℕ Refusal) → fault_on lengths c ≡ 0 → WhereOn lengths c v
      → (number_of v ≡ 0) × (value_of v ≡ position_in (ok_of lengths) (cursor_in c)) × (value_of v < size_of lengths c.k c.n)
  -- a step, on or back, of any cursor without fault; refused, it gives nothing, and the cursor is as it was
  pub step : (lengths : Lengths) (way : Bool) (c : DC.Cursor) (q : Result DT.Stepped Refusal) → fault_on lengths c ≡ 0 → Says lengths way c q → StepsOn lengths way c q
  pub not_stepped : (lengths : Lengths) (way : Bool) (c : DC.Cursor) (q : Result DT.Stepped Refusal) → Says lengths way c q → number_of q ≢ 0
      → (mark_of q ≡ 0) × (passed_of q ≡ 0) × (after c q ≡ c)
  -- a step and the step back, in either order, give every byte of the cursor as it was, lost or not, and pass as many words
  pub undone : (lengths : Lengths) (way : Bool) (c : DC.Cursor) (q b : Result DT.Stepped Refusal) → Says lengths way c q → Says lengths (not way) (after c q) b
      → (number_of b ≡ number_of q) × (passed_of b ≡ passed_of q) × (after (after c q) b ≡ c)
  -- a cursor is without fault on the short ring just if it is so on the strip and holds a word of length n
  pub short_good : (c : DC.Cursor) → (short_fault c ≡ 0) ↔ ((cursor_fault c ≡ 0) × (c.long ≡ c.n))
  -- a start at a place, any number of steps, then the cursor's place: no step is refused, the marks read are the ring's from that place on, the words
  -- passed are those from word to word, and the place is as many further on
  pub walk : (lengths : Lengths) (k n p : ℕ) (r : Result DC.Cursor Refusal) (qs : List (Result DT.Stepped Refusal)) (d : DC.Cursor) (v : Result ℕ Refusal) → admitted k n ≡ true → p < size_of lengths k n
      → StartOn lengths k n p r → Walked lengths (cursor_of r) qs d → WhereOn lengths d v
      → (number_of r ≡ 0) × (fields number_of qs ≡ replicate (length qs) 0) × (fields mark_of qs ≡ letters_of lengths k n p (length qs))
      × (fields passed_of qs ≡ passed_from lengths k n p (length qs)) × (number_of v ≡ 0) × (value_of v ≡ modulo (p + length qs) (size_of lengths k n))
  -- the same with steps on and back in any order: the marks read and the words passed are those of the path, and the place is where the path ends
  pub both_ways : (lengths : Lengths) (k n p : ℕ) (r : Result DC.Cursor Refusal) (ways : List Bool) (qs : List (Result DT.Stepped Refusal)) (d : DC.Cursor) (v : Result ℕ Refusal)
      → admitted k n ≡ true → p < size_of lengths k n → StartOn lengths k n p r → Followed (Says lengths) (cursor_of r) ways qs d → WhereOn lengths d v
      → (number_of r ≡ 0) × (fields number_of qs ≡ replicate (length qs) 0)
      × (fields mark_of qs ≡ path_letters (size_of lengths k n) (ring (ok_of lengths n) k n) ways p)
      × (fields passed_of qs ≡ path_passed lengths k n ways p) × (number_of v ≡ 0) × (value_of v ≡ path_end (size_of lengths k n) ways p)
  -- Plans: what stripwalk prints does not depend on the record, nor on rails
  pub same-listing : SameListing
  -- look_up tells section, distance and rail of each window that is read wholly inside a section of an accepted plan
  pub laid : (s : List ℕ) (i d : ℕ) → plan_fault s ≡ 0 → i < section_count s → d + marks s ≤ (nth_s (sections s) i).long → SectionTold s i d
  -- and, where the joint to the next section is welded, of each window that begins in the section, across the joint too
  pub laid_across : (s : List ℕ) (i d : ℕ) → plan_fault s ≡ 0 → suc i < section_count s → welded (nth_s (sections s) i) (nth_s (sections s) (suc i)) ≡ true
      → d < (nth_s (sections s) i).long → SectionTold s i d
  -- what look_up answers is true: the window is read at that distance in that section, inside it or on over a welded joint into the next
  pub laid_only : (s w t t' : List ℕ) (r : ℕ) → LookupSays s w t t' r → r ≡ 0
      → let i = be 0 2 t' in
      let p = (nth_s (sections s) i).offset + be 2 8 t' in
      (i < section_count s) × Lies (marks s) (sections s) i p × (window (shades s) (marks s) p ≡ w) × RailTold s i t'
      × (drop answer_size t' ≡ drop answer_size t)
  -- Smudged windows: look_up_smudged answers if some laid window agrees with what was read, and at most two marks were not. That need not be the window that
  -- was read, so the third demand's last sentence, its section and distance, holds here for windows read in full: `smudged_plain`, with `laid`
  pub smudged : (s w : List ℕ) (p : ℕ) (t t' : List ℕ) (r : ℕ) → plan_fault s ≡ 0 → p < shades s ^ marks s → laid_at s p ≡ true
      → agrees w (window (shades s) (marks s) p) ≡ true → length (keep unread w) ≤ 2 → answer_size ≤ length t → SmudgedSays s w t t' r → r ≡ 0
  -- what it answers is true: the window at that distance in that section is laid there, and agrees
  pub smudged_only : (s w t t' : List ℕ) (r : ℕ) → SmudgedSays s w t t' r → r ≡ 0
      → let i = be 0 2 t' in
      let p = (nth_s (sections s) i).offset + be 2 8 t' in
      (i < section_count s) × (laying_at s p ≡ suc i) × (agrees w (window (shades s) (marks s) p) ≡ true) × RailTold s i t'
      × (drop answer_size t' ≡ drop answer_size t)
  -- no laid window that agrees stands lower than the one answered
  pub smudged_lowest : (s w t t' : List ℕ) (r q : ℕ) → SmudgedSays s w t t' r → r ≡ 0 → q < shades s ^ marks s → laid_at s q ≡ true
      → agrees w (window (shades s) (marks s) q) ≡ true → (nth_s (sections s) (be 0 2 t')).offset + be 2 8 t' ≤ q
  -- so two readers answer alike
  pub smudged_same : (s w t t' u u' : List ℕ) (r q : ℕ) → SmudgedSays s w t t' r → SmudgedSays s w u u' q → r ≡ 0 → q ≡ 0
      → take answer_size t' ≡ take answer_size u'
  -- of a window that was read in full it answers what look_up does, byte for byte
  pub smudged_plain : (s w t t' : List ℕ) (r : ℕ) → keep unread w ≡ [] → SmudgedSays s w t t' r → LookupSays s w t t' r
  -- Misreadings: misreadings lists the changes of one mark of a laid window that give a laid window
  pub misread : (s w t t' : List ℕ) (r : Result ℕ Refusal) → MisreadingsSays s w t t' r → number_of r ≡ 0 → ListTold s w t t' (value_of r)
  -- and answers for each window that is laid, given 3,850 bytes, which hold any list
  pub misread_answers : (s : List ℕ) (p : ℕ) (t t' : List ℕ) (r : Result ℕ Refusal) → plan_fault s ≡ 0 → laid_at s p ≡ true → 3850 ≤ length t
      → MisreadingsSays s (window (shades s) (marks s) p) t t' r → number_of r ≡ 0
  -- misreadings_of, with 8 bytes for the number of entries, gives the same number, the same list, and as many entries
  pub misread_both : (s w c c' t t' u : List ℕ) (r : Result ℕ Refusal) (q : ℕ) → 8 ≤ length c → MisreadingsSays s w t t' r → MisreadingListSays s w c c' t u q
      → (q ≡ number_of r) × (u ≡ t') × (q ≡ 0 → be 0 8 c' ≡ value_of r)
  -- Bills: bill answers what the sections cost, of each accepted plan without a long one, at each price and charge up to their limits; it fits 55 bits
  pub billed : (s : List ℕ) (p c : ℕ) (r : Result ℕ Refusal) → plan_fault s ≡ 0 → AllShort s → p ≤ 10000000 → c ≤ 4294967295 → BillSays s p c r
      → (number_of r ≡ 0) × (value_of r ≡ cost_of p c (sections s)) × (value_of r < 2 ^ 55)
  -- bill_of, with 8 bytes, gives the same number and the same bill, and no byte after it
  pub bill_both : (s : List ℕ) (p c : ℕ) (t t' : List ℕ) (r : Result ℕ Refusal) (q : ℕ) → 8 ≤ length t → BillSays s p c r → BillOfSays s p c t t' q
      → (q ≡ number_of r) × (q ≡ 0 → be 0 8 t' ≡ value_of r) × (drop 8 t' ≡ drop 8 t)
  -- plans with the same strip and sections have the same bill, whatever their records and rails, or the same refusal
  pub bill_same : (s u : List ℕ) (p c : ℕ) (r q : Result ℕ Refusal) → Alike s u → BillSays s p c r → BillSays u p c q → (number_of r ≡ number_of q) × (value_of r ≡ value_of q)

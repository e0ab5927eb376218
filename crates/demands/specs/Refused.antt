-- Which refusals each call knows, and when each applies: its number is the first of `order` that does, and 0 just when none does.
-- A call's promise (its Says) stands as a premise.
use Rattle.std.specs.Prelude.{Result, ◌≡◌, true, false, ◌&&◌, ◌||◌, not, List, [], ◌∷◌, ◌++◌, ◌↔◌, ◌≢◌, ℕ, ◌^◌, ◌≤◌, ◌<◌, eqb, ltb, leb, length}
use Rattle.theory.specs.Words.{root, how_many, keep, marks_ok}
use Rattle.theory.specs.Lists.{In}
use Rattle.theory.specs.Strips.{admitted, window}
use Rattle.theory.specs.Rings.{good_in}
use Rattle.theory.specs.Plans.{shades, marks, section_count, sections, nth_s, torn, straight_from, laid_at, laying_of}
use Rattle.theory.specs.Theorems.{Lies}
use Rattle.theory.specs.Erasures.{unread, read, agrees, fitting}
use Rattle.theory.specs.Prices.{short_rolls}
use Rattle.shape.specs.declared.Lengths.{Lengths}
use Rattle.shape.specs.Rings.{ok_of, size_of}
use Rattle.calls.specs.Order.{order, Rule, rule, applies_in, given}
use Rattle.words.specs.Says.{LyndonSays, RotationSays, TurnSays, RootSays}
use Rattle.ranking.specs.Says.{ManySays, RankSays, WordSays}
use Rattle.marks.specs.Says.{MarkOn, PlaceSays, ShortPlaceSays, PrintOn}
use Rattle.pbm.specs.Pictures.{file_size}
use Rattle.pictures.specs.Says.{PictureSays, BothSay}
use Rattle.lookups.specs.Says.{answer_size, PlanSays, LookupSays, SmudgedSays}
use Rattle.misreadings.specs.Says.{list_size, MisreadingsSays, MisreadingListSays}
use Rattle.bills.specs.Says.{BillSays, BillOfSays}
use Rattle.cursors.specs.declared.Cursor as DC
use Rattle.cursors.specs.declared.Stepped as DT
use Rattle.cursors.specs.Cursors.{cursor_in, tidy, StartOn, WhereOn, StepOn, BackOn}
use Rattle.calls.specs.declared.refusal.Refusal.{Refusal}
use Rattle.calls.specs.Codes.{number_of}

-- no such strip; wrong window, bad mark; off the strip, or off the short ring; no such word; lost cursor, on either ring
abbrev pub strip_rules : ℕ → ℕ → List Rule
strip_rules k n = rule 1 (not (admitted k n)) ∷ []

abbrev pub mark_rules : ℕ → ℕ → List ℕ → List Rule
mark_rules k n w = rule 2 (not (eqb (length w) n)) ∷ rule 3 (not (marks_ok k w)) ∷ []

abbrev pub word_rules : ℕ → ℕ → List ℕ → List Rule
word_rules k n w = strip_rules k n ++ mark_rules k n w

abbrev pub place_rules : Lengths → ℕ → ℕ → ℕ → List Rule
place_rules lengths k n p = strip_rules k n ++ (rule 4 (leb (size_of lengths k n) p) ∷ [])

abbrev pub index_rules : ℕ → ℕ → ℕ → List Rule
index_rules k n i = strip_rules k n ++ (rule 5 (eqb i 0 || ltb (how_many k n) i) ∷ [])

abbrev pub cursor_rules : Lengths → DC.Cursor → List Rule
cursor_rules lengths c = strip_rules c.k c.n ++ (rule 10 (not (tidy c && good_in (ok_of lengths) (cursor_in c))) ∷ [])

-- a window on the short ring: repeating window
abbrev pub short_window_rules : ℕ → ℕ → List ℕ → List Rule
short_window_rules k n w = word_rules k n w ++ (rule 16 (ltb (root w) n) ∷ [])

-- torn plan, no such strip, crooked plan; and for a window in it, not laid
abbrev pub plan_rules : List ℕ → List Rule
plan_rules s = rule 7 (torn s) ∷ rule 1 (not (admitted (shades s) (marks s))) ∷ rule 8 (not (straight_from (marks s) (shades s ^ marks s) 0 (sections s))) ∷ []

abbrev pub laying_rules : List ℕ → List ℕ → List Rule
laying_rules s w = plan_rules s ++ (mark_rules (shades s) (marks s) w ++ (rule 9 (eqb (laying_of s w) 0) ∷ []))

-- a smudged window: too smudged comes between wrong window and bad mark, and only a mark that was read can be bad; not laid, if no laid window agrees
abbrev pub smudge_rules : ℕ → ℕ → List ℕ → List Rule
smudge_rules k n w = rule 2 (not (eqb (length w) n)) ∷ rule 11 (ltb 2 (length (keep unread w))) ∷ rule 3 (not (marks_ok k (keep read w))) ∷ []

abbrev pub smudged_rules : List ℕ → List ℕ → List Rule
smudged_rules s w = plan_rules s ++ (smudge_rules (shades s) (marks s) w ++ (rule 9 (eqb (length (fitting s w)) 0) ∷ []))

-- a picture: two shades only, off the strip, bad picture
abbrev pub picture_rules : ℕ → ℕ → ℕ → ℕ → ℕ → List Rule
picture_rules k n p c h =
    strip_rules k n ++ (rule 12 (not (eqb k 2)) ∷ rule 4 (leb (k ^ n) p) ∷ rule 13 (not (leb 1 c && (leb c 60000 && (leb 1 h && leb h 64)))) ∷ [])

-- a bill: roll too long, no such price; no roll is too long
abbrev pub bill_rules : List ℕ → ℕ → ℕ → List Rule
bill_rules s p c = plan_rules s ++ (rule 14 (not (short_rolls (sections s))) ∷ rule 15 (ltb 10000000 p || ltb 4294967295 c) ∷ [])

abbrev pub AllShort : List ℕ → Type 0
AllShort s = (i : ℕ) → i < section_count s → (nth_s (sections s) i).long ≤ 4294967295

-- tray too small for b bytes; one of two trays
abbrev pub tray_rules : List ℕ → ℕ → List Rule
tray_rules t b = rule 6 (ltb (length t) b) ∷ []

abbrev pub trays_rules : List ℕ → ℕ → List ℕ → ℕ → List Rule
trays_rules s a t b = rule 6 (ltb (length s) a || ltb (length t) b) ∷ []

pub record Refusals : Type 0 where
  -- what `given` means: 0 just when nothing applies, a number just when it applies and none before it in the order does
  pub none : (rules : List Rule) → (given rules ≡ 0) ↔ ((f : ℕ) → In f order → applies_in f rules ≡ false)
  pub first : (rules : List Rule) (before after : List ℕ) (f : ℕ) → order ≡ before ++ (f ∷ after)
      → (given rules ≡ f) ↔ ((applies_in f rules ≡ true) × ((g : ℕ) → In g before → applies_in g rules ≡ false))
  -- each call
  pub is_lyndon_lem : (k n : ℕ) (w : List ℕ) (r : Result ℕ Refusal) → LyndonSays k n w r → number_of r ≡ given (word_rules k n w)
  pub smallest_rotation : (k n : ℕ) (w t t' : List ℕ) (r : Result ℕ Refusal) → RotationSays k n w t t' r → number_of r ≡ given (word_rules k n w ++ tray_rules t n)
  pub turn_of : (k n : ℕ) (w t t' : List ℕ) (r : ℕ) → TurnSays k n w t t' r → r ≡ given (word_rules k n w ++ tray_rules t 8)
  pub shortest_root : (k n : ℕ) (w : List ℕ) (r : Result ℕ Refusal) → RootSays k n w r → number_of r ≡ given (word_rules k n w)
  pub lyndon_count : (k n : ℕ) (r : Result ℕ Refusal) → ManySays k n r → number_of r ≡ given (strip_rules k n)
  pub rank_of : (k n : ℕ) (w t t' : List ℕ) (r : ℕ) → RankSays k n w t t' r → r ≡ given (word_rules k n w ++ tray_rules t 8)
  pub word_of_lem : (k n i : ℕ) (t t' : List ℕ) (r : ℕ) → WordSays k n i t t' r → r ≡ given (index_rules k n i ++ tray_rules t n)
  -- on either ring, as MarkSays and ShortMarkSays are: mark_at and short_mark_at
  pub mark_at_lem : (lengths : Lengths) (k n p : ℕ) (t t' : List ℕ) (r : ℕ) → MarkOn lengths k n p t t' r → r ≡ given (place_rules lengths k n p ++ tray_rules t 8)
  pub place_of_lem : (k n : ℕ) (w t t' : List ℕ) (r : ℕ) → PlaceSays k n w t t' r → r ≡ given (word_rules k n w ++ tray_rules t 8)
  pub short_place_of_lem : (k n : ℕ) (w t t' : List ℕ) (r : ℕ) → ShortPlaceSays k n w t t' r → r ≡ given (short_window_rules k n w ++ tray_rules t 8)
  pub print_marks : (lengths : Lengths) (k n p c : ℕ) (t t' : List ℕ) (r : ℕ) → PrintOn lengths k n p c t t' r
      → r ≡ given (place_rules lengths k n p ++ tray_rules t c)
  pub print_picture : (k n p c h : ℕ) (t t' : List ℕ) (r : Result ℕ Refusal) → PictureSays k n p c h t t' r → number_of r ≡ given (picture_rules k n p c h ++ tray_rules t (file_size c h))
  pub picture_of : (k n p c h : ℕ) (s s' t t' : List ℕ) (r : ℕ) → BothSay k n p c h s s' t t' r
      → r ≡ given (picture_rules k n p c h ++ trays_rules s 8 t (file_size c h))
  pub check_plan : (s : List ℕ) (r : ℕ) → PlanSays s r → r ≡ given (plan_rules s)
  pub look_up : (s w t t' : List ℕ) (r : ℕ) → LookupSays s w t t' r → r ≡ given (laying_rules s w ++ tray_rules t answer_size)
  pub look_up_smudged : (s w t t' : List ℕ) (r : ℕ) → SmudgedSays s w t t' r → r ≡ given (smudged_rules s w ++ tray_rules t answer_size)
  pub misreadings : (s w t t' : List ℕ) (r : Result ℕ Refusal) → MisreadingsSays s w t t' r → number_of r ≡ given (laying_rules s w ++ tray_rules t (list_size s w))
  pub misreadings_of : (s w c c' t t' : List ℕ) (r : ℕ) → MisreadingListSays s w c c' t t' r → r ≡ given (laying_rules s w ++ trays_rules c 8 t (list_size s w))
  pub bill : (s : List ℕ) (p c : ℕ) (r : Result ℕ Refusal) → BillSays s p c r → number_of r ≡ given (bill_rules s p c)
  pub bill_of : (s : List ℕ) (p c : ℕ) (t t' : List ℕ) (r : ℕ) → BillOfSays s p c t t' r → r ≡ given (bill_rules s p c ++ tray_rules t 8)
  -- a cursor, on either ring
  pub start_cursor : (lengths : Lengths) (k n p : ℕ) (r : Result DC.Cursor Refusal) → StartOn lengths k n p r → number_of r ≡ given (place_rules lengths k n p)
  pub cursor_place : (lengths : Lengths) (c : DC.Cursor) (r : Result ℕ Refusal) → WhereOn lengths c r → number_of r ≡ given (cursor_rules lengths c)
  pub step : (lengths : Lengths) (c : DC.Cursor) (r : Result DT.Stepped Refusal) → StepOn lengths c r → number_of r ≡ given (cursor_rules lengths c)
  pub step_back : (lengths : Lengths) (c : DC.Cursor) (r : Result DT.Stepped Refusal) → BackOn lengths c r → number_of r ≡ given (cursor_rules lengths c)
  -- 9 applies just when the window, without fault itself, is read at no place where it lies in a section of the accepted plan
  pub not_laid : (s w : List ℕ) → given (plan_rules s) ≡ 0 → given (mark_rules (shades s) (marks s) w) ≡ 0
      → (laying_of s w ≡ 0) ↔ ((i p : ℕ) → Lies (marks s) (sections s) i p → window (shades s) (marks s) p ≢ w)
  -- and for a smudged window just when no laid window agrees with it
  pub none-agrees : (s w : List ℕ)
      → (length (fitting s w) ≡ 0) ↔ ((p : ℕ) → p < shades s ^ marks s → laid_at s p ≡ true → agrees w (window (shades s) (marks s) p) ≡ false)
  -- 14 does not apply just when every section has 4,294,967,295 marks at most
  pub no_long_roll : (s : List ℕ) → (short_rolls (sections s) ≡ true) ↔ AllShort s

-- What the cursor calls promise, for any bytes in a cursor's fields, on either ring: a call is about one of them, and says which.
use Rattle.std.specs.Prelude.{◌≡◌, Result, Ok, Err, MatchResult, Bool, true, ◌&&◌, not, List, [], ◌∷◌, ℕ, eqb, leb, length, take, drop}
use Rattle.theory.specs.Words.{first_of, when}
use Rattle.theory.specs.Rings.{Cursor, Stepped, cursor, cursor_on, good_in, position_in, step_in, back_in}
use Rattle.theory.specs.Strips.{cursor_ok, cursor_at, place_in, step_of, back_of, strip_fault}
use Rattle.theory.specs.Shorts.{short_ok, short_cursor_at, short_place_in, short_step_of, short_back_of}
use Rattle.shape.specs.declared.Lengths.{Lengths}
use Rattle.shape.specs.Rings.{ok_of}
use Rattle.shape.specs.declared.Strip as DH
use Rattle.calls.specs.Refusals.{ring_fault, place_fault, short_place_fault}
use Rattle.calls.specs.Answers.{ValueIs}
use Rattle.calls.specs.declared.refusal.Refusal.{Refusal}
use Rattle.calls.specs.Codes.{code}
use Rattle.cursors.specs.declared.Cursor as DC
use Rattle.cursors.specs.declared.TheConstants.Cursor.{NOWHERE}
use Rattle.cursors.specs.declared.Stepped as DT

-- the held word in 60 bytes with zeros after it. An array has so many bytes, but a definition does not know it.
abbrev pub all_zero : List ℕ → Bool
all_zero [] = true
all_zero (x ∷ xs) = eqb x 0 && all_zero xs

abbrev pub cursor_in : DC.Cursor → Cursor
cursor_in c = cursor c.k c.n (take c.long c.word) c.place

abbrev pub tidy : DC.Cursor → Bool
tidy c = eqb (length c.word) 60 && (leb c.long 60 && all_zero (drop c.long c.word))

abbrev pub Is : Cursor → DC.Cursor → Type 0
Is x c = (cursor_in c ≡ x) × (tidy c ≡ true)

abbrev pub empty : DC.Cursor → Bool
empty c = eqb c.k 0 && (eqb c.n 0 && (eqb c.long 0 && (eqb c.place 0 && all_zero c.word)))

-- what stands for a cursor where there is none, the constant Cursor::NOWHERE: zero in every field
abbrev pub nowhere : DC.Cursor
nowhere = NOWHERE

-- a start: the cursor at the place, or the refusal
abbrev pub Starts : ℕ → Cursor → Result DC.Cursor Refusal → Type 0
Starts f x r = MatchResult r (λ c. (f ≡ 0) × Is x c) (λ e. code e ≡ f)

abbrev pub cursor_of : Result DC.Cursor Refusal → DC.Cursor
cursor_of (Ok c) = c
cursor_of (Err e) = nowhere

-- 1, then 10: the cursor does not hold a good word, with a place in it and zeros after it
abbrev pub fault_by : Bool → DC.Cursor → ℕ
fault_by good c = first_of (strip_fault c.k c.n) (when (not (tidy c && good)) 10)

-- on either ring
abbrev pub fault_on : Lengths → DC.Cursor → ℕ
fault_on lengths c = fault_by (good_in (ok_of lengths) (cursor_in c)) c

abbrev pub StartOn : Lengths → ℕ → ℕ → ℕ → Result DC.Cursor Refusal → Type 0
StartOn lengths k n p r = Starts (ring_fault lengths k n p) (cursor_on (ok_of lengths n) k n p) r

abbrev pub WhereOn : Lengths → DC.Cursor → Result ℕ Refusal → Type 0
WhereOn lengths c r = ValueIs (fault_on lengths c) (position_in (ok_of lengths) (cursor_in c)) r

-- a cursor without fault, and the strip that is made of its k and n
pub record GoodOn (lengths : Lengths) (s : DH.Strip) (c : DC.Cursor) : Type 0 where
  pub letters : s.k ≡ c.k
  pub marks : s.n ≡ c.n
  pub good : (tidy c && good_in (ok_of lengths) (cursor_in c)) ≡ true

-- the same word, another place in it
abbrev pub moved : DC.Cursor → ℕ → DC.Cursor
moved c p = record { k = c.k; n = c.n; word = c.word; long = c.long; place = p }

-- a move's answer: the letter, the words passed, the moved cursor
abbrev pub Goes : Stepped → DT.Stepped → Type 0
Goes x q = (q.mark ≡ x.mark) × (q.passed ≡ x.passed) × Is x.cursor_is q.cursor

abbrev pub MoveSays : ℕ → Stepped → Result DT.Stepped Refusal → Type 0
MoveSays f x r = MatchResult r (λ q. (f ≡ 0) × Goes x q) (λ e. code e ≡ f)

-- the parts of an answer to a step from c; after a refusal the cursor is as it was, and 0 stands for mark and words
abbrev pub mark_of : Result DT.Stepped Refusal → ℕ
mark_of (Ok q) = q.mark
mark_of (Err e) = 0

abbrev pub passed_of : Result DT.Stepped Refusal → ℕ
passed_of (Ok q) = q.passed
passed_of (Err e) = 0

abbrev pub after : DC.Cursor → Result DT.Stepped Refusal → DC.Cursor
after c (Ok q) = q.cursor
after c (Err e) = c

-- on, and back
abbrev pub StepOn : Lengths → DC.Cursor → Result DT.Stepped Refusal → Type 0
StepOn lengths c r = MoveSays (fault_on lengths c) (step_in (ok_of lengths) (cursor_in c)) r

abbrev pub BackOn : Lengths → DC.Cursor → Result DT.Stepped Refusal → Type 0
BackOn lengths c r = MoveSays (fault_on lengths c) (back_in (ok_of lengths) (cursor_in c)) r

-- what the calls promise, to which those on either ring compute: on the strip
abbrev pub cursor_fault : DC.Cursor → ℕ
cursor_fault c = fault_by (cursor_ok (cursor_in c)) c

abbrev pub StartSays : ℕ → ℕ → ℕ → Result DC.Cursor Refusal → Type 0
StartSays k n p r = Starts (place_fault k n p) (cursor_at k n p) r

abbrev pub WhereSays : DC.Cursor → Result ℕ Refusal → Type 0
WhereSays c r = ValueIs (cursor_fault c) (place_in (cursor_in c)) r

abbrev pub StepSays : DC.Cursor → Result DT.Stepped Refusal → Type 0
StepSays c r = MoveSays (cursor_fault c) (step_of (cursor_in c)) r

abbrev pub BackSays : DC.Cursor → Result DT.Stepped Refusal → Type 0
BackSays c r = MoveSays (cursor_fault c) (back_of (cursor_in c)) r

-- and on the short ring, where the held word has length n
abbrev pub short_fault : DC.Cursor → ℕ
short_fault c = fault_by (short_ok (cursor_in c)) c

abbrev pub ShortStartSays : ℕ → ℕ → ℕ → Result DC.Cursor Refusal → Type 0
ShortStartSays k n p r = Starts (short_place_fault k n p) (short_cursor_at k n p) r

abbrev pub ShortWhereSays : DC.Cursor → Result ℕ Refusal → Type 0
ShortWhereSays c r = ValueIs (short_fault c) (short_place_in (cursor_in c)) r

abbrev pub ShortStepSays : DC.Cursor → Result DT.Stepped Refusal → Type 0
ShortStepSays c r = MoveSays (short_fault c) (short_step_of (cursor_in c)) r

abbrev pub ShortBackSays : DC.Cursor → Result DT.Stepped Refusal → Type 0
ShortBackSays c r = MoveSays (short_fault c) (short_back_of (cursor_in c)) r

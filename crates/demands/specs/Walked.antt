-- Steps of a cursor on either ring, on and back: one, from any cursor without fault, and any number in a row.
use Rattle.std.specs.Prelude.{Result, ◌≡◌, Bool, true, false, List, [], ◌∷◌, ℕ, zero, suc, ◌≤◌}
use Rattle.theory.specs.Lists.{each}
use Rattle.theory.specs.Rings.{modulo, position_in, cursor_on, passed_to, passed_down, beside}
use Rattle.shape.specs.declared.Lengths.{Lengths}
use Rattle.shape.specs.Rings.{ok_of, size_of, letter_of}
use Rattle.cursors.specs.declared.Cursor as DC
use Rattle.cursors.specs.declared.Stepped as DT
use Rattle.cursors.specs.Cursors.{mark_of, passed_of, after, cursor_in, fault_on, StepOn, BackOn}
use Rattle.calls.specs.declared.refusal.Refusal.{Refusal}
use Rattle.calls.specs.Codes.{number_of}

-- true is a step on, false a step back: what the call promises, and the words passed from u to v
abbrev pub Says : Lengths → Bool → DC.Cursor → Result DT.Stepped Refusal → Type 0
Says lengths true c q = StepOn lengths c q
Says lengths false c q = BackOn lengths c q

abbrev pub passed_going : Bool → ℕ → ℕ → List ℕ → List ℕ → ℕ
passed_going true k n u v = passed_to k n u v
passed_going false k n u v = passed_down k n u v

-- what a step q from a cursor c gives: the mark that it stood on, the words passed from the held word to the one held then, the cursor one place on or back
pub record StepsOn (lengths : Lengths) (way : Bool) (c : DC.Cursor) (q : Result DT.Stepped Refusal) : Type 0 where
  pub number : number_of q ≡ 0
  pub mark : mark_of q ≡ letter_of lengths c.k c.n (position_in (ok_of lengths) (cursor_in c))
  pub passed : passed_of q ≡ passed_going way c.k c.n (cursor_in c).word (cursor_in (after c q)).word
  pub few : passed_of q ≤ c.n
  pub strip : ((after c q).k ≡ c.k) × ((after c q).n ≡ c.n)
  pub faultless : fault_on lengths (after c q) ≡ 0
  pub place : position_in (ok_of lengths) (cursor_in (after c q)) ≡ beside (size_of lengths c.k c.n) way (position_in (ok_of lengths) (cursor_in c))

-- from a cursor, the answers of its steps, and the cursor after them
pub data Walked (lengths : Lengths) : DC.Cursor → List (Result DT.Stepped Refusal) → DC.Cursor → Type 0 where
  stays : {c : DC.Cursor} → Walked lengths c [] c
  steps : {c d : DC.Cursor} (q : Result DT.Stepped Refusal) {qs : List (Result DT.Stepped Refusal)} → StepOn lengths c q → Walked lengths (after c q) qs d → Walked lengths c (q ∷ qs) d

-- the same both ways, by what a step of each way promises
pub data Followed (promise : Bool → DC.Cursor → Result DT.Stepped Refusal → Type 0) : DC.Cursor → List Bool → List (Result DT.Stepped Refusal) → DC.Cursor → Type 0 where
  rests : {c : DC.Cursor} → Followed promise c [] [] c
  goes : {c d : DC.Cursor} (way : Bool) (q : Result DT.Stepped Refusal) {ways : List Bool} {qs : List (Result DT.Stepped Refusal)} → promise way c q → Followed promise (after c q) ways qs d
      → Followed promise c (way ∷ ways) (q ∷ qs) d

-- one field of each answer
abbrev pub fields : (Result DT.Stepped Refusal → ℕ) → List (Result DT.Stepped Refusal) → List ℕ
fields f qs = each f qs

-- the words passed by c steps from a place on: from the word that holds a place to the one that holds the next; and along a path
abbrev pub held_at : Lengths → ℕ → ℕ → ℕ → List ℕ
held_at lengths k n p = (cursor_on (ok_of lengths n) k n (modulo p (size_of lengths k n))).word

abbrev pub passed_from : Lengths → ℕ → ℕ → ℕ → ℕ → List ℕ
passed_from lengths k n p zero = []
passed_from lengths k n p (suc c) = passed_to k n (held_at lengths k n p) (held_at lengths k n (suc p)) ∷ passed_from lengths k n (suc p) c

abbrev pub path_passed : Lengths → ℕ → ℕ → List Bool → ℕ → List ℕ
path_passed lengths k n [] p = []
path_passed lengths k n (way ∷ ways) p =
    let q = beside (size_of lengths k n) way p in passed_going way k n (held_at lengths k n p) (held_at lengths k n q) ∷ path_passed lengths k n ways q

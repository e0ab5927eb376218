-- What the calls on misreadings promise. A tray holds t at the call and t' at the return; for C, c and c' are those of the number of entries.
use Rattle.std.specs.Prelude.{Result, List, [], ℕ, ◌*◌, eqb, length}
use Rattle.theory.specs.Words.{pick}
use Rattle.theory.specs.Plans.{lookup_fault}
use Rattle.theory.specs.Substitutions.{misread}
use Rattle.calls.specs.declared.refusal.Refusal.{Refusal}
use Rattle.calls.specs.Answers.{IntoValue, IntoBoth}
use Rattle.substitutions.specs.Entries.{list_bytes}

-- the list: an entry for each change of one letter of a laid window that gives a laid window
abbrev pub entries_of : List ℕ → List ℕ → List ℕ
entries_of s w = list_bytes s w (misread s w)

-- and how many bytes it has
abbrev pub list_size : List ℕ → List ℕ → ℕ
list_size s w = 10 * length (misread s w)

-- the list into the tray, the number of its entries as the value
abbrev pub MisreadingsSays : List ℕ → List ℕ → List ℕ → List ℕ → Result ℕ Refusal → Type 0
MisreadingsSays s w t t' r = let f = lookup_fault s w in IntoValue f (length (misread s w)) (pick (eqb f 0) (entries_of s w) []) t t' r

-- the number of entries as 8 bytes into a tray of its own
abbrev pub MisreadingListSays : List ℕ → List ℕ → List ℕ → List ℕ → List ℕ → List ℕ → ℕ → Type 0
MisreadingListSays s w c c' t t' r = IntoBoth (lookup_fault s w) (length (misread s w)) (entries_of s w) c c' t t' r

-- The bytes of a list of changes, and what the functions that write it ask for and promise.
use Rattle.std.specs.Prelude.{◌≡◌, List, ◌∷◌, ℕ, ◌*◌, ◌≤◌, length}
use Rattle.theory.specs.Lists.{gather}
use Rattle.theory.specs.Substitutions.{Change, new_place, laid_of}
use Rattle.buffers.specs.Buffers.{over}
use Rattle.numbers.specs.Numbers.{put_be}
use Rattle.shape.specs.declared.Strip as DS
use Rattle.shape.specs.Shapes.{WordOn}
use Rattle.plans.specs.Accepted.{Accepted}

-- an entry: which letter, the new letter, the new window's place in 8 bytes
abbrev pub entry_bytes : List ℕ → List ℕ → Change → List ℕ
entry_bytes s w c = c.mark ∷ c.shade ∷ put_be 8 (new_place s w c)

abbrev pub list_bytes : List ℕ → List ℕ → List Change → List ℕ
list_bytes s w cs = gather (entry_bytes s w) cs

-- an accepted plan, a word of the strip that it is laid on, and room for an entry of each change that is tried
pub record Writes (s : List ℕ) (x : DS.Strip) (w : List ℕ) (cs : List Change) (t : List ℕ) : Type 0 where
  pub plan : Accepted s x
  pub word : WordOn x w
  pub room : 10 * length cs ≤ length t

-- of the changes that are tried those that give a laid window, an entry each, over the start of the buffer
pub record Wrote (s w : List ℕ) (cs : List Change) (t t' : List ℕ) (r : ℕ) : Type 0 where
  pub count : r ≡ length (laid_of s w cs)
  pub bytes : t' ≡ over (list_bytes s w (laid_of s w cs)) t

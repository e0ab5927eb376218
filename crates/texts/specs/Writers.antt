-- A writer of text before and after a call: what is added, and that it still fills the same buffer.
use Rattle.std.specs.Prelude.{◌≡◌, List, ℕ, ◌+◌, ◌≤◌, length}
use Rattle.texts.specs.declared.Text.{Text}
use Rattle.texts.specs.Texts.{Adds}

-- room for so many bytes more
abbrev pub HasRoom : Text → ℕ → Type 0
HasRoom t l = t.end + l ≤ length t.out.now

-- a text added behind the one that is there, in the same buffer, which is as long as it was
pub record Writes (before : Text) (text : List ℕ) (after : Text) : Type 0 where
  pub adds : Adds before.out.now before.end text after.out.now after.end
  pub whole : length after.out.now ≡ length before.out.now
  pub same_buffer : after.out.ghost_name ≡ before.out.ghost_name

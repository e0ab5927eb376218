-- What can be drawn, how large, and a file in its parts: the head, and the row behind it, which is written several times.
use Rattle.std.specs.Prelude.{◌≡◌, List, ◌++◌, ℕ, ◌+◌, ◌≤◌, ◌<◌, length}
use Rattle.shape.specs.declared.Strip as DS
use Rattle.texts.specs.Texts.{Adds}
use Rattle.pbm.specs.Pictures.{row_size}
use Rattle.pbm.specs.declared.Parts as DP

-- the width and height of a picture
pub record Frame (c h : ℕ) : Type 0 where
  pub some : 1 ≤ c
  pub wide : c ≤ 60000
  pub row : 1 ≤ h
  pub high : h ≤ 64

-- c marks from place p on in h rows; the marks of up to ten shades are digits
pub record Drawable (s : DS.Strip) (p c h : ℕ) : Type 0 where
  pub digits : s.k ≤ 10
  pub inside : p < s.size
  pub frame : Frame c h

-- bytes that hold any head and its row
abbrev pub parts_room : ℕ
parts_room = 12 + row_size 60000

-- both parts over a buffer's start
pub record Parted (head row : List ℕ) (rows : ℕ) (before after : List ℕ) (r : DP.Parts) : Type 0 where
  pub adds : Adds before 0 (head ++ row) after r.end
  pub seam : r.head ≡ length head
  pub times : r.rows ≡ rows

-- A request for a picture as bytes, and what is printed for it: the head, and the row as often as the picture is high. For any bytes that ask for no
-- picture that there is, nothing.
use Rattle.std.specs.Prelude.{◌≡◌, Bool, ◌&&◌, List, [], ◌++◌, ℕ, eqb, leb, length, get_or}
use Rattle.theory.specs.Words.{pick, repeated}
use Rattle.theory.specs.Strips.{marks_from}
use Rattle.theory.specs.Plans.{be}
use Rattle.calls.specs.Refusals.{picture_fault}
use Rattle.pbm.specs.declared.Parts as DP
use Rattle.pbm.specs.Pictures.{row_text, head_text, picture}
use Rattle.pbm.specs.Parts.{parts_room, Parted}

-- k, n, then the place, the width and the height, each number with its highest byte first
pub record Request : Type 0 where
  pub shades : ℕ
  pub marks : ℕ
  pub place : ℕ
  pub width : ℕ
  pub height : ℕ

abbrev pub request : List ℕ → Request
request s = record { shades = get_or s 0 0; marks = get_or s 1 0; place = be 2 8 s; width = be 10 8 s; height = be 18 8 s }

abbrev pub request_fault : List ℕ → ℕ
request_fault s = let q = request s in picture_fault q.shades q.marks q.place q.width q.height

-- 26 bytes, and no refusal
abbrev pub wanted : List ℕ → Bool
wanted s = eqb (length s) 26 && eqb (request_fault s) 0

abbrev pub head_for : List ℕ → List ℕ
head_for s = let q = request s in pick (wanted s) (head_text q.width q.height) []

abbrev pub row_for : List ℕ → List ℕ
row_for s = let q = request s in pick (wanted s) (row_text (marks_from q.shades q.marks q.place q.width)) []

abbrev pub rows_for : List ℕ → ℕ
rows_for s = pick (wanted s) (request s).height 0

abbrev pub picture_for : List ℕ → List ℕ
picture_for s = let q = request s in pick (wanted s) (picture q.shades q.marks q.place q.width q.height) []

-- what is told of a request: its parts over a buffer's start; none, if the buffer does not hold any head and row
abbrev pub PartsSay : List ℕ → List ℕ → List ℕ → DP.Parts → Type 0
PartsSay s before after r =
    let fits = leb parts_room (length before) in
    Parted (pick fits (head_for s) []) (pick fits (row_for s) []) (pick fits (rows_for s) 0) before after r

-- the head, then the rows, are the file
abbrev pub ByRows : Type 0
ByRows = (s : List ℕ) → head_for s ++ repeated (rows_for s) (row_for s) ≡ picture_for s

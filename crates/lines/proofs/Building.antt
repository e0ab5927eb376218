-- Lines built by adding one text behind another: what is added, and that the next text has room.
use mathlib.Core.Path.{◌≡◌}
use mathlib.Core.List.{List, [], ◌∷◌, ◌++◌}
use Prim.Native.Nat.{ℕ, ◌+◌, ◌*◌, ◌^◌, ◌≤◌, ◌<◌}
use native.Mathlib.Omega.{arith}
use lib.ListN.{length, length-append}
use Rattle.texts.specs.declared.Text.{Text}
use Rattle.texts.specs.Texts.{decimal}
use Rattle.texts.specs.Writers.{HasRoom, Writes}
use Rattle.texts.proofs.Decimals.{decimal_fits}
use Rattle.texts.proofs.Writing.{writes_none, writes_as, writes_more, room_left}
use Rattle.lines.specs.Lines.{line}

-- a text of at most m bytes, added by a writer
pub record Written (before : Text) (m : ℕ) (text : List ℕ) (after : Text) : Type 0 where
  pub writes : Writes before text after
  pub few : length text ≤ m

pub nothing : (t : Text) → Written t 0 [] t
nothing t = record { writes = writes_none t; few = omega arith }

-- one text more
pub more : {a b c : Text} {m : ℕ} {x : List ℕ} (y : List ℕ) (l : ℕ) → Written a m x b → Writes b y c → length y ≤ l → Written a (m + l) (x ++ y) c
more {x = x} y l w v h = record { writes = writes_more w.writes v; few = omega (arith, w.few, length-append x y) }

-- a text, then a number and a space
abbrev pub spaced : List ℕ → ℕ → List ℕ
spaced text v = text ++ (decimal v ++ (32 ∷ []))

-- a field of at most 20 bytes, as any number is, and the byte behind it
pub more_field : {a b c : Text} {m : ℕ} {x : List ℕ} (y : List ℕ) (z : ℕ) → length y ≤ 20 → Written a m x b → Writes b (y ++ (z ∷ [])) c
    → Written a (m + 21) (x ++ (y ++ (z ∷ []))) c
more_field y z h w v = more (y ++ (z ∷ [])) 21 w v (omega (arith, length-append y (z ∷ [])))

pub more_number : {a b c : Text} {m : ℕ} {x : List ℕ} (v z : ℕ) → v < 2 ^ 64 → Written a m x b → Writes b (decimal v ++ (z ∷ [])) c
    → Written a (m + 21) (x ++ (decimal v ++ (z ∷ []))) c
more_number v z h = more_field (decimal v) z (decimal_fits v h)

-- where a line has room, so has the next text of it
pub room : {a b : Text} {m : ℕ} {x : List ℕ} (l : ℕ) → Written a m x b → m + l ≤ line → HasRoom a line → HasRoom b l
room l w f r = room_left l w.writes (omega (arith, w.few))

pub field_room : {a b : Text} {m : ℕ} {x : List ℕ} (y : List ℕ) → length y ≤ 20 → Written a m x b → m + 21 ≤ line → HasRoom a line → HasRoom b (length y + 1)
field_room y h w f r = omega (arith, room 21 w f r)

pub number_room : {a b : Text} {m : ℕ} {x : List ℕ} (v : ℕ) → v < 2 ^ 64 → Written a m x b → m + 21 ≤ line → HasRoom a line → HasRoom b (length (decimal v) + 1)
number_room v h = field_room (decimal v) (decimal_fits v h)

-- lines one behind the other: where there is room for l of them and fewer stand there, so is there for the next; and with it there is one more
pub next_room : {a b : Text} {x : List ℕ} (i l : ℕ) → Written a (line * i) x b → i < l → HasRoom a (line * l) → HasRoom b line
next_room i l w h r = room_left line w.writes (omega (arith, w.few))

pub more_line : {a b c : Text} {x : List ℕ} (i : ℕ) (y text : List ℕ) → Written a (line * i) x b → Writes b y c → c.end ≤ b.end + line
    → x ++ y ≡ text → Written a (line * (i + 1)) text c
more_line {x = x} i y text w v h t =
    let m = more y line w v (omega (arith, v.adds.ends)) in
    record { writes = writes_as m.writes t; few = rw (← t) (omega (arith, m.few)) }

-- The head as it is written: the room for its numbers, and the whole.
use mathlib.Core.Path.{◌≡◌}
use mathlib.Core.List.{[], ◌∷◌, ◌++◌, append_assoc}
use Prim.Native.Nat.{ℕ, ◌+◌}
use native.Mathlib.Omega.{arith}
use lib.ListN.{length, length-append}
use Rattle.texts.specs.declared.Text.{Text}
use Rattle.texts.specs.Texts.{decimal}
use Rattle.texts.specs.Writers.{HasRoom, Writes}
use Rattle.texts.proofs.Writing.{writes_as, writes_more, room_left}
use Rattle.pbm.specs.Pictures.{magic, head_text}
use Rattle.pbm.proofs.Rows.{head_length}

module _ (w h : ℕ) {a b : Text} (first : Writes a magic b) (fits : HasRoom a (length (head_text w h))) where
  pub width_room : HasRoom b (length (decimal w) + 1)
  width_room = room_left (length (decimal w) + 1) first (omega (arith, head_length w h))

  module _ {c : Text} (second : Writes b (decimal w ++ (32 ∷ [])) c) where
    pub height_room : HasRoom c (length (decimal h) + 1)
    height_room = room_left (length (decimal h) + 1) (writes_more first second) (omega (arith, head_length w h, length-append (decimal w) (32 ∷ [])))

    pub whole_head : {d : Text} → Writes c (decimal h ++ (10 ∷ [])) d → Writes a (head_text w h) d
    unfolding head_text
    whole_head third =
        let text : (magic ++ (decimal w ++ (32 ∷ []))) ++ (decimal h ++ (10 ∷ [])) ≡ head_text w h = simp append_assoc in
        writes_as (writes_more (writes_more first second) third) text

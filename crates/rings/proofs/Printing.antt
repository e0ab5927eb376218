-- A ring's letters from a place on: what is left of a word, then the words that follow, until the buffer is full.
use mathlib.Core.Path.{◌≡◌, refl, sym, ◌∙◌, ap, ap₂, subst}
use mathlib.Core.List.{List, ◌∷◌, ◌++◌, append-nil}
use Prim.Native.Nat.{ℕ, zero, suc, ◌+◌, ◌-◌, ◌≤◌, ◌<◌}
use native.Mathlib.Omega.{arith}
use native.Mathlib.Nat.{add-zero}
use lib.ListN.{length, get_or, take, drop, length-take, length-drop, take-append-drop}
use lib.Seq.{take-append_seam, take_at, drop-length, drop-cons}
use borrow.Rule.Slice.PartMut.{put_mid}
use Rattle.std.proofs.lemmas.Slice.{between_is}
use Rattle.theory.specs.Words.{marks_ok, is_lyndon}
use Rattle.theory.specs.Lists.{In}
use Rattle.theory.specs.Rings.{ring_words, ring, modulo, letter_on, Cursor, cursor, before_w, position_in, next_on}
use Rattle.shape.specs.declared.Lengths.{Lengths}
use Rattle.shape.specs.Rings.{ok_of, size_of, letters_of}
use Rattle.shape.proofs.Rings.{long_of}
use Rattle.theory.proofs.Listed.{ring_words_lem, ring_ascend}
use Rattle.theory.proofs.Reading.{modulo_small, modulo_full, modulo-plus, letters-length, letters_split, letters-same}
use Rattle.theory.proofs.Lyndon.{lyndon_some}
use Rattle.theory.proofs.Joined.{After, onward as after-larger, around as after_last, word_inside, word_letter, word_after}
use Rattle.shape.specs.declared.Strip as DS
use Rattle.shape.proofs.Limits.{limits}
use Rattle.buffers.specs.Buffers.{over}
use Rattle.buffers.proofs.Bytes.{handed_on, over-length}
use Rattle.rings.specs.declared.Moved as DM
use Rattle.rings.specs.Moves.{HeldOn, MovedIs, clipped}
use Rattle.rings.proofs.Moving.{padded-length, held_fits, held-length, held_in}
use Rattle.rings.proofs.Ways.{forth_of}

-- the ring's word after u
abbrev after : Lengths → ℕ → ℕ → List ℕ → List ℕ
after lengths k n u = next_on (ok_of lengths n) (cursor k n u 0)

-- a word of a ring has some letters
listed_some : (lengths : Lengths) (k n : ℕ) {x : List ℕ} → In x (ring_words (ok_of lengths n) k n) → 0 < length x
listed_some lengths k n {x} i = lyndon_some x ((ring_words_lem (ok_of lengths n) k n x).0 i).2

-- as many letters as are taken
pub take_counted : (m : ℕ) (w : List ℕ) → take (length (take m w)) w ≡ take m w
take_counted m w = ap (take (length (take m w))) (sym (take-append-drop m w)) ∙ take-append_seam (take m w) (drop m w)

module _ (lengths : Lengths) (k n : ℕ) (two : 2 ≤ k) (one : 1 ≤ n) where
  abbrev Words : List (List ℕ)
  Words = ring_words (ok_of lengths n) k n

  abbrev size : ℕ
  size = size_of lengths k n

  abbrev place_in : Cursor → ℕ
  place_in c = position_in (ok_of lengths) c

  place_small : (u : List ℕ) (at : ℕ) → In u (Words) → at < length u → place_in (cursor k n u at) < size
  place_small u at i h =
      subst (λ m. place_in (cursor k n u at) < m) (long_of lengths k n two one) (word_inside (Words) (ring_ascend (ok_of lengths n) k n) u at i h)

  -- the letters of a word of the ring stand where it stands
  pub word_read : (u : List ℕ) (at c : ℕ) → In u (Words) → at + c ≤ length u → letters_of lengths k n (place_in (cursor k n u at)) c ≡ take c (drop at u)
  word_read u at zero i h = refl
  word_read u at (suc c) i h =
      let b : at < length u = omega arith in
      let e : suc (place_in (cursor k n u at)) ≡ place_in (cursor k n u (suc at)) = omega arith in
      let a : letter_on size (ring (ok_of lengths n) k n) (place_in (cursor k n u at)) ≡ get_or u at 0 =
      ap (λ j. get_or (ring (ok_of lengths n) k n) j 0) (modulo_small (place_in (cursor k n u at)) size (place_small u at i b)) ∙ word_letter (Words) (ring_ascend (ok_of lengths n) k n) u at i b in
      rw (drop-cons u at 0 b) (ap₂ (λ x r. x ∷ r) a (ap (λ p. letters_of lengths k n p c) e ∙ word_read u (suc at) c i (omega arith)))

  -- behind its last letter the next word begins
  pub word_passed : (u : List ℕ) (at : ℕ) → In u (Words) → at ≤ length u
      → modulo (place_in (cursor k n u at) + (length u - at)) size ≡ place_in (cursor k n (after lengths k n u) 0)
  word_passed u at i h = go (word_after (Words) (ring_ascend (ok_of lengths n) k n) u i)
    where
      go : After u (Words) (before_w u (Words)) (after lengths k n u) → modulo (place_in (cursor k n u at) + (length u - at)) size ≡ place_in (cursor k n (after lengths k n u) 0)
      go (after-larger j l f e) =
          let p : place_in (cursor k n u at) + (length u - at) ≡ place_in (cursor k n (after lengths k n u) 0) = omega arith in
          ap (λ x. modulo x size) p ∙ modulo_small (place_in (cursor k n (after lengths k n u) 0)) size (place_small (after lengths k n u) 0 j (listed_some lengths k n j))
      go (after_last j l z e) =
          let p : place_in (cursor k n u at) + (length u - at) ≡ size = omega (arith, long_of lengths k n two one) in
          ap (λ x. modulo x size) p ∙ modulo_full size ∙ sym z ∙ sym (add-zero (before_w (after lengths k n u) (Words)))

-- the buffers while the ring is written from a place on
pub record Printing (lengths : Lengths) (s : DS.Strip) (start : ℕ) (out₀ w out : List ℕ) (l from filled : ℕ) : Type 0 where
  pub held : HeldOn lengths s w l
  pub inside : from < l
  pub within : filled ≤ length out₀
  pub kept : length out ≡ length out₀
  pub done : out ≡ over (letters_of lengths s.k s.n start filled) out₀
  pub place : filled < length out₀ → modulo (start + filled) (size_of lengths s.k s.n) ≡ position_in (ok_of lengths) (cursor s.k s.n (take l w) from)

pub print_starts : {lengths : Lengths} {s : DS.Strip} {w : List ℕ} {long : ℕ} (at : ℕ) (out : List ℕ) → HeldOn lengths s w long → at < long
    → Printing lengths s (position_in (ok_of lengths) (cursor s.k s.n (take long w) at)) out w out long at 0
print_starts {lengths} {s} {w} {long} at out h b =
    let r = limits s in
    let start = position_in (ok_of lengths) (cursor s.k s.n (take long w) at) in
    record {
      held = h;
      inside = b;
      within = omega arith;
      kept = refl;
      done = refl;
      place = λ _. ap (λ x. modulo x (size_of lengths s.k s.n)) (add-zero start) ∙ modulo_small start (size_of lengths s.k s.n) (place_small lengths s.k s.n r.two r.some (take long w) at (held_in h) (omega (arith, held-length h)));
    }

pub print_ends : {lengths : Lengths} {s : DS.Strip} {start : ℕ} {out₀ w out : List ℕ} {l from filled : ℕ} → Printing lengths s start out₀ w out l from filled → length out ≤ filled
    → out ≡ letters_of lengths s.k s.n start (length out₀)
print_ends {lengths} {s} {start} {out₀} {w} {out} {l} {from} {filled} p h =
    let e : filled ≡ length out₀ = omega (arith, p.within, p.kept) in
    let m = letters_of lengths s.k s.n start filled in
    let f : length m ≡ length out₀ = letters-length (size_of lengths s.k s.n) (ring (ok_of lengths s.n) s.k s.n) start filled ∙ e in
    p.done ∙ ap (λ r. m ++ r) (ap (λ j. drop j out₀) f ∙ drop-length out₀) ∙ append-nil m ∙ ap (letters_of lengths s.k s.n start) e

-- the word that a move leads to is held
module _ {lengths : Lengths} {s : DS.Strip} {w : List ℕ} {l : ℕ} (h : HeldOn lengths s w l) {after-w : List ℕ} {r : DM.Moved} (m : MovedIs lengths s w l after-w r) where
  pub moved_word : take r.long after-w ≡ after lengths s.k s.n (take l w)
  moved_word = ap (take r.long) m.word ∙ take_at (after lengths s.k s.n (take l w)) _ r.long (sym m.size)

  moved_in : In (after lengths s.k s.n (take l w)) (ring_words (ok_of lengths s.n) s.k s.n)
  moved_in = (forth_of lengths s.k s.n (limits s).two (limits s).some).lead_in (take l w) (held_in h)

  pub moved_some : 0 < r.long
  moved_some = omega (arith, m.size, listed_some lengths s.k s.n moved_in)

  pub moved-held : HeldOn lengths s after-w r.long
  moved-held =
      let v = after lengths s.k s.n (take l w) in
      let (short, letters, lyndon, allow) = (ring_words_lem (ok_of lengths s.n) s.k s.n v).0 moved_in in
      record {
        size = ap length m.word ∙ padded-length s.n v short;
        allowed = ap (ok_of lengths s.n) m.size ∙ allow;
        marks = ap (marks_ok s.k) moved_word ∙ letters;
        lyndon = ap is_lyndon moved_word ∙ lyndon;
      }

-- one turn: what is left of the word goes to what is left of the buffer, and the next word is held
module _ {lengths : Lengths} {s : DS.Strip} {start : ℕ} {out₀ w out : List ℕ} {l from filled : ℕ} (p : Printing lengths s start out₀ w out l from filled) (b : filled < length out)
    {last : List ℕ} {r : ℕ} (e : last ≡ clipped (take (l - from) (drop from w)) (take (length out - filled) (drop filled out)))
    (c : r ≡ length (take (length (take (length out - filled) (drop filled out))) (take (l - from) (drop from w)))) where
  room : length (take (length out - filled) (drop filled out)) ≡ length out - filled
  room = omega (arith, length-take (length out - filled) (drop filled out), length-drop filled out)

  rest : length (take (l - from) (drop from w)) ≡ l - from
  rest = omega (arith, length-take (l - from) (drop from w), length-drop from w, held_fits p.held, p.inside)

  pub put-room : filled + r ≤ length out₀
  put-room = omega (arith, c, room, p.kept, length-take (length (take (length out - filled) (drop filled out))) (take (l - from) (drop from w)))

  put_within : from + r ≤ l
  put_within = omega (arith, c, rest, p.inside, length-take (length (take (length out - filled) (drop filled out))) (take (l - from) (drop from w)))

  put_all : filled + r < length out₀ → from + r ≡ l
  put_all h = omega (arith, c, room, rest, p.kept, p.inside, length-take (length (take (length out - filled) (drop filled out))) (take (l - from) (drop from w)))

  put-letters : take (length (take (length out - filled) (drop filled out))) (take (l - from) (drop from w)) ≡ take r (drop from (take l w))
  put-letters =
      let m = length (take (length out - filled) (drop filled out)) in
      sym (take_counted m (take (l - from) (drop from w))) ∙ ap₂ take (sym c) (between_is w from l)

  more_letters : letters_of lengths s.k s.n start (filled + r)
      ≡ letters_of lengths s.k s.n start filled ++ take (length (take (length out - filled) (drop filled out))) (take (l - from) (drop from w))
  more_letters =
      let g = limits s in
      let k = s.k in
      let n = s.n in
      let u = take l w in
      let here = position_in (ok_of lengths) (cursor k n u from) in
      let small = place_small lengths k n g.two g.some u from (held_in p.held) (omega (arith, p.inside, held-length p.held)) in
      letters_split (size_of lengths k n) (ring (ok_of lengths n) k n) start filled r
      ∙ ap (λ x. letters_of lengths k n start filled ++ x)
      (letters-same (size_of lengths k n) (ring (ok_of lengths n) k n) (start + filled) here r (p.place (omega (arith, p.kept)) ∙ sym (modulo_small here (size_of lengths k n) small))
      ∙ word_read lengths k n g.two g.some u from r (held_in p.held) (omega (arith, put_within, held-length p.held)) ∙ sym put-letters)

  put_done : put_mid filled (length out - filled) out last ≡ over (letters_of lengths s.k s.n start (filled + r)) out₀
  put_done =
      let m = letters_of lengths s.k s.n start filled in
      let f : length m ≡ filled = letters-length (size_of lengths s.k s.n) (ring (ok_of lengths s.n) s.k s.n) start filled in
      handed_on m (take (length (take (length out - filled) (drop filled out))) (take (l - from) (drop from w))) out₀ out last filled f (p.done ∙ ap (λ j. m ++ drop j out₀) f) e p.within
      ∙ ap (λ x. over x out₀) (sym more_letters)

  pub print_goes_on : {after-w : List ℕ} {m : DM.Moved} → MovedIs lengths s w l after-w m
      → Printing lengths s start out₀ after-w (put_mid filled (length out - filled) out last) m.long 0 (filled + r)
  print_goes_on {after-w} {m} q = record {
    held = moved-held p.held q;
    inside = moved_some p.held q;
    within = put-room;
    kept = ap length put_done ∙ over-length (letters_of lengths s.k s.n start (filled + r)) out₀ (omega (arith, put-room, letters-length (size_of lengths s.k s.n) (ring (ok_of lengths s.n) s.k s.n) start (filled + r)));
    done = put_done;
    place = next_place;
  }
    where
      next_place : filled + r < length out₀ → modulo (start + (filled + r)) (size_of lengths s.k s.n) ≡ position_in (ok_of lengths) (cursor s.k s.n (take m.long after-w) 0)
      next_place h =
          let g = limits s in
          let k = s.k in
          let n = s.n in
          let u = take l w in
          let sum : start + (filled + r) ≡ start + filled + r = omega arith in
          let whole : r ≡ length u - from = omega (arith, put_all h, held-length p.held) in
          ap (λ x. modulo x (size_of lengths k n)) sum ∙ modulo-plus (start + filled) r (size_of lengths k n)
          ∙ ap₂ (λ x y. modulo (x + y) (size_of lengths k n)) (p.place (omega (arith, p.kept))) whole
          ∙ word_passed lengths k n g.two g.some u from (held_in p.held) (omega (arith, p.inside, held-length p.held))
          ∙ ap (λ x. position_in (ok_of lengths) (cursor k n x 0)) (sym (moved_word p.held q))

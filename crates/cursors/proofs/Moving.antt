-- A cursor without fault, moved on or back: to a neighbouring letter of its word, or to a neighbouring word of the ring. And where it stands.
use mathlib.Core.Path.{◌≡◌, refl, sym, ◌∙◌, ap, subst, subst₂}
use mathlib.Core.Bool.{true, false}
use mathlib.Core.List.{List, [], ◌∷◌, ◌++◌, append_assoc}
use Prim.Native.Nat.{ℕ, suc, ◌+◌, ◌-◌, ◌≤◌, ◌<◌}
use native.Mathlib.Omega.{arith}
use lib.Dec.{eqb, ltb}
use lib.ListN.{length, get_or, take, drop, replicate, length-append, length-drop}
use lib.Seq.{get_or-take, take_at, drop_at, drop-drop}
use borrow.Author.Tests.{lt-ltb, le-ltb}
use Rattle.theory.specs.Rings.{cursor, next_on, previous_on, passed_to, passed_down, position_in, step_in, back_in}
use Rattle.theory.proofs.Base.{and_l, and_r, and_in}
use Rattle.theory.proofs.Lyndon.{lyndon_some}
use Rattle.theory.proofs.Listed.{lyndon_up_words}
use Rattle.rings.specs.Moves.{MovedTo, MovedIs, BackIs}
use Rattle.rings.specs.declared.Moved as DM
use Rattle.rings.proofs.Directions.{Direction, Laws}
use Rattle.rings.proofs.Moving.{padded-length, held_in, forth_on, back_on_lem}
use Rattle.shape.specs.declared.Strip as DH
use Rattle.shape.specs.declared.Lengths.{Lengths}
use Rattle.shape.specs.Rings.{ok_of}
use Rattle.cursors.specs.declared.Cursor as DC
use Rattle.cursors.specs.declared.Stepped as DT
use Rattle.cursors.specs.Cursors.{all_zero, cursor_in, Is, GoodOn, moved, Goes}
use Rattle.cursors.proofs.Held.{zeros, zeros_drop, tidy_in, fine, held_short, word-long, word_short, place_inside, same_word, held_on}

zeros_append : (u v : List ℕ) → all_zero u ≡ true → all_zero v ≡ true → all_zero (u ++ v) ≡ true
zeros_append [] v a b = b
zeros_append (x ∷ u) v a b = and_in (and_l (eqb x 0) _ a) (zeros_append u v (and_r (eqb x 0) _ a) b)

module _ {lengths : Lengths} {s : DH.Strip} {c : DC.Cursor} (g : GoodOn lengths s c) where
  abbrev u : List ℕ
  u = take c.long c.word

  -- what holds of the strip and the first n bytes holds of the cursor's fields
  carried : (F : ℕ → ℕ → List ℕ → Type 0) → F s.k s.n (take c.long (take c.n c.word)) → F c.k c.n u
  carried F h = subst (λ w. F c.k c.n w) (same_word g) (subst₂ (λ k n. F k n (take c.long (take c.n c.word))) g.letters g.marks h)

  -- where it stands
  pub same_place : {r : ℕ} → r ≡ position_in (ok_of lengths) (cursor s.k s.n (take c.long (take c.n c.word)) c.place) → r ≡ position_in (ok_of lengths) (cursor_in c)
  same_place {r} = carried (λ k n w. r ≡ position_in (ok_of lengths) (cursor k n w c.place))

  -- the letter that it stands on
  letter : get_or c.word c.place 0 ≡ get_or u c.place 0
  letter = sym (get_or-take c.long c.word c.place 0 (place_inside g))

  -- to another letter of its word
  module _ {p : ℕ} {r : DT.Stepped} (e : (r.mark ≡ get_or c.word c.place 0) × (r.passed ≡ 0) × (r.cursor ≡ moved c p)) where
    stays : Is (cursor c.k c.n u p) r.cursor
    stays = subst (Is (cursor c.k c.n u p)) (sym e.2) (refl, tidy_in (moved c p) (fine g).sixty (fine g).fits (fine g).zeroed)

    pub backs_inside : p ≡ c.place - 1 → 0 < c.place → Goes (back_in (ok_of lengths) (cursor_in c)) r
    backs_inside q h = rw (lt-ltb 0 c.place h) (e.0 ∙ letter, e.1, subst (λ i. Is (cursor c.k c.n u i) r.cursor) q stays)

  -- to another word v: it stands in a buffer of n bytes, and after it are the bytes that were there
  module _ {v w : List ℕ} {passes : ℕ} {m : DM.Moved} (put : MovedTo c.n v passes w m) (short : length v ≤ c.n) where
    abbrev rest : List ℕ
    rest = replicate (c.n - length v) 0 ++ drop c.n c.word

    whole : w ++ drop c.n c.word ≡ v ++ rest
    whole = ap (λ x. x ++ drop c.n c.word) put.word ∙ append_assoc v (replicate (c.n - length v) 0) (drop c.n c.word)

    behind : all_zero (drop c.n c.word) ≡ true
    behind =
        let e : c.long + (c.n - c.long) ≡ c.n = omega (arith, word_short g) in
        ap all_zero (ap (λ i. drop i c.word) (sym e) ∙ sym (drop-drop (c.n - c.long) c.long c.word)) ∙ zeros_drop (c.n - c.long) (drop c.long c.word) (fine g).zeroed

    holds : (p : ℕ) → Is (cursor c.k c.n v p) (record { k = c.k; n = c.n; word = w ++ drop c.n c.word; long = m.long; place = p })
    holds p =
        let word : take m.long (w ++ drop c.n c.word) ≡ v = ap (take m.long) whole ∙ take_at v rest m.long (sym put.size) in
        let after_it : drop m.long (w ++ drop c.n c.word) ≡ rest = ap (drop m.long) whole ∙ drop_at v rest m.long (sym put.size) in
        let zeroed : all_zero rest ≡ true = zeros_append (replicate (c.n - length v) 0) (drop c.n c.word) (zeros (c.n - length v)) behind in
        let filled : length w ≡ c.n = ap length put.word ∙ padded-length c.n v short in
        let sixty : length (w ++ drop c.n c.word) ≡ 60 = omega (arith, length-append w (drop c.n c.word), filled, length-drop c.n c.word, (fine g).sixty, held_short g) in
        let d : DC.Cursor = record { k = c.k; n = c.n; word = w ++ drop c.n c.word; long = m.long; place = p } in
        (ap (λ x. cursor c.k c.n x p) word, tidy_in d sixty (omega (arith, put.size, held_short g)) (ap all_zero after_it ∙ zeroed))

  -- a word of the ring has at most n letters, and some
  leads-long : {d : Direction} → Laws d (ok_of lengths s.n) s.k s.n → let v = d.leads (take c.long (take c.n c.word)) in (1 ≤ length v) × (length v ≤ c.n)
  leads-long {d} r =
      let v = d.leads (take c.long (take c.n c.word)) in
      let (short, _, lyndon) = (lyndon_up_words s.k s.n v).0 (r.listed (r.lead_in _ (held_in (held_on g)))) in
      (lyndon_some v lyndon, omega (arith, short, g.marks))

  -- behind its last letter, the next word
  module _ {w : List ℕ} {m : DM.Moved} (put : MovedIs lengths s (take c.n c.word) c.long w m) where
    next_is : let v = next_on (ok_of lengths c.n) (cursor_in c) in MovedTo c.n v (passed_to c.k c.n u v) w m
    next_is = carried (λ k n x. let y = next_on (ok_of lengths n) (cursor k n x 0) in MovedTo n y (passed_to k n x y) w m) put

    pub next_short : m.long ≤ c.n
    next_short = omega (arith, put.size, (leads-long (forth_on (held_on g))).1)

    pub goes_onward : c.long ≤ c.place + 1
        → Goes (step_in (ok_of lengths) (cursor_in c)) (record { mark = get_or c.word c.place 0; passed = m.passed; cursor = record { k = c.k; n = c.n; word = w ++ drop c.n c.word; long = m.long; place = 0 } })
    goes_onward h =
        let t : ltb (suc c.place) (length u) ≡ false = le-ltb (suc c.place) (length u) (omega (arith, word-long g)) in
        rw t (letter, next_is.passed, holds next_is (omega (arith, next_is.size, next_short)) 0)

  -- before its first letter, the word before
  module _ {w : List ℕ} {m : DM.Moved} (put : BackIs lengths s (take c.n c.word) c.long w m) where
    previous_is : let v = previous_on (ok_of lengths c.n) (cursor_in c) in MovedTo c.n v (passed_down c.k c.n u v) w m
    previous_is = carried (λ k n x. let y = previous_on (ok_of lengths n) (cursor k n x 0) in MovedTo n y (passed_down k n x y) w m) put

    pub previous_long : (1 ≤ m.long) × (m.long ≤ c.n)
    previous_long = let (some, short) = leads-long (back_on_lem (held_on g)) in (omega (arith, put.size, some), omega (arith, put.size, short))

    pub backs_away : c.place ≤ 0
        → Goes (back_in (ok_of lengths) (cursor_in c)) (record { mark = get_or c.word c.place 0; passed = m.passed; cursor = record { k = c.k; n = c.n; word = w ++ drop c.n c.word; long = m.long; place = m.long - 1 } })
    backs_away h =
        let (is, tidied) = holds previous_is (omega (arith, previous_is.size, previous_long.1)) (m.long - 1) in
        rw (le-ltb 0 c.place h) (letter, previous_is.passed, (is ∙ ap (λ i. cursor c.k c.n (previous_on (ok_of lengths c.n) (cursor_in c)) (i - 1)) previous_is.size, tidied))

-- The held word in a cursor's 60 bytes: the test of its fields, and what a cursor without fault holds.
use mathlib.Core.Path.{◌≡◌, refl, sym, ◌∙◌, ap, ap₂}
use mathlib.Core.Bool.{Bool, true, false, ◌&&◌}
use mathlib.Core.List.{List, [], ◌∷◌, ◌++◌}
use Prim.Native.Nat.{ℕ, zero, suc, ◌-◌, ◌≤◌, ◌<◌}
use native.Mathlib.Omega.{arith}
use lib.Dec.{eqb, leb}
use lib.ListN.{length, take, drop, replicate, length-drop, take-append-drop}
use lib.Seq.{length-take-le, take-take, take_all}
use borrow.Author.Tests.{le-ltb, le-leb, leb-true, ltb-true, ne_eqb, eq-eqb, eqb-true}
use Rattle.theory.specs.Words.{marks_ok, is_lyndon}
use Rattle.theory.specs.Rings.{divides, good_in}
use Rattle.theory.proofs.Base.{and_l, and_r, and_in, and_false}
use Rattle.rings.specs.Moves.{HeldOn}
use Rattle.theory.proofs.Divisors.{divides_le}
use Rattle.shape.specs.declared.Strip as DH
use Rattle.shape.specs.declared.Lengths.{Lengths}
use Rattle.shape.specs.Rings.{ok_of}
use Rattle.shape.proofs.Limits.{limits}
use Rattle.shape.proofs.Rings.{allowed_of}
use Rattle.cursors.specs.declared.Cursor as DC
use Rattle.cursors.specs.Cursors.{all_zero, cursor_in, tidy, GoodOn}

-- zeros are the letters below 1
pub zero_marks : (w : List ℕ) → marks_ok 1 w ≡ all_zero w
zero_marks [] = refl
zero_marks (zero ∷ w) = zero_marks w
zero_marks (suc x ∷ w) = rw (le-ltb (suc x) 1 (omega arith), ne_eqb (suc x) 0 (λ e. omega arith))

pub zeros : (i : ℕ) → all_zero (replicate i 0) ≡ true
zeros zero = refl
zeros (suc i) = zeros i

pub zeros_drop : (i : ℕ) (w : List ℕ) → all_zero w ≡ true → all_zero (drop i w) ≡ true
zeros_drop zero w h = h
zeros_drop (suc i) [] h = refl
zeros_drop (suc i) (x ∷ w) h = zeros_drop i w (and_r (eqb x 0) (all_zero w) h)

-- a cursor, test by test: its length, the bytes after the word, the word
module _ (c : DC.Cursor) (sixty : length c.word ≡ 60) where
  tidy_by : tidy c ≡ (leb c.long 60 && all_zero (drop c.long c.word))
  tidy_by = ap (λ b. b && (leb c.long 60 && all_zero (drop c.long c.word))) (eq-eqb (length c.word) 60 sixty)

  tested : {t : Bool} → t ≡ marks_ok 1 (take (60 - c.long) (drop c.long c.word)) → t ≡ all_zero (drop c.long c.word)
  tested e =
      let rest : take (60 - c.long) (drop c.long c.word) ≡ drop c.long c.word =
      take_all (60 - c.long) (drop c.long c.word) (omega (arith, length-drop c.long c.word, sixty)) in
      e ∙ ap (marks_ok 1) rest ∙ zero_marks (drop c.long c.word)

module _ (lengths : Lengths) (c : DC.Cursor) (sixty : length c.word ≡ 60) where
  abbrev on_ring : Bool
  on_ring = good_in (ok_of lengths) (cursor_in c)

  pub untidy : false ≡ marks_ok 1 (take (60 - c.long) (drop c.long c.word)) → (tidy c && on_ring) ≡ false
  untidy e = ap (λ t. t && on_ring) (tidy_by c sixty ∙ and_false (leb c.long 60) _ (sym (tested c sixty e)))

  pub tidied : c.long ≤ 60 → true ≡ marks_ok 1 (take (60 - c.long) (drop c.long c.word)) → (tidy c && on_ring) ≡ on_ring
  tidied h e = ap (λ b. b && on_ring) (tidy_by c sixty ∙ and_in (le-leb c.long 60 h) (sym (tested c sixty e)))

-- a tidy cursor, and back
pub tidy_in : (c : DC.Cursor) → length c.word ≡ 60 → c.long ≤ 60 → all_zero (drop c.long c.word) ≡ true → tidy c ≡ true
tidy_in c sixty fits zeroed = tidy_by c sixty ∙ and_in (le-leb c.long 60 fits) zeroed

pub tidy_out : (c : DC.Cursor) → tidy c ≡ true → (length c.word ≡ 60) × (c.long ≤ 60) × (all_zero (drop c.long c.word) ≡ true)
tidy_out c t =
    let sixty : length c.word ≡ 60 = eqb-true (length c.word) 60 (and_l (eqb (length c.word) 60) _ t) in
    let both = and_r (eqb (length c.word) 60) _ t in
    (sixty, leb-true c.long 60 (and_l (leb c.long 60) _ both), and_r (leb c.long 60) _ both)

-- two tidy cursors that hold the same word at the same place have the same bytes
zeros_same : (v w : List ℕ) → length v ≡ length w → all_zero v ≡ true → all_zero w ≡ true → v ≡ w
zeros_same [] [] e a b = refl
zeros_same [] (y ∷ w) e a b = absurd (omega arith)
zeros_same (x ∷ v) [] e a b = absurd (omega arith)
zeros_same (x ∷ v) (y ∷ w) e a b =
    ap₂ ◌∷◌ (eqb-true x 0 (and_l (eqb x 0) _ a) ∙ sym (eqb-true y 0 (and_l (eqb y 0) _ b))) (zeros_same v w (omega arith) (and_r (eqb x 0) _ a) (and_r (eqb y 0) _ b))

pub same_bytes : (c d : DC.Cursor) → tidy c ≡ true → tidy d ≡ true → cursor_in c ≡ cursor_in d → c ≡ d
same_bytes c d s t e = fields-same (ap (λ x. x.k) e) (ap (λ x. x.n) e) whole long (ap (λ x. x.place) e)
  where
    one : (length c.word ≡ 60) × (c.long ≤ 60) × (all_zero (drop c.long c.word) ≡ true)
    one = tidy_out c s

    two : (length d.word ≡ 60) × (d.long ≤ 60) × (all_zero (drop d.long d.word) ≡ true)
    two = tidy_out d t

    word : take c.long c.word ≡ take d.long d.word
    word = ap (λ x. x.word) e

    long : c.long ≡ d.long
    long = omega (arith, ap length word, length-take-le c.long c.word (omega (arith, one.0, one.1)), length-take-le d.long d.word (omega (arith, two.0, two.1)))

    rest : drop c.long c.word ≡ drop d.long d.word
    rest = zeros_same _ _ (omega (arith, long, length-drop c.long c.word, length-drop d.long d.word, one.0, two.0)) one.2 two.2

    whole : c.word ≡ d.word
    whole = sym (take-append-drop c.long c.word) ∙ ap₂ ◌++◌ word rest ∙ take-append-drop d.long d.word

    fields-same : c.k ≡ d.k → c.n ≡ d.n → c.word ≡ d.word → c.long ≡ d.long → c.place ≡ d.place → c ≡ d
    fields-same a b w l p =
        ap₂ (λ k n. record { k = k; n = n; word = c.word; long = c.long; place = c.place }) a b
        ∙ ap₂ (λ word long. record { k = d.k; n = d.n; word = word; long = long; place = c.place }) w l
        ∙ ap (λ place. record { k = d.k; n = d.n; word = d.word; long = d.long; place = place }) p

-- a cursor without fault on the ring
pub record Good (lengths : Lengths) (c : DC.Cursor) : Type 0 where
  pub sixty : length c.word ≡ 60
  pub fits : c.long ≤ 60
  pub zeroed : all_zero (drop c.long c.word) ≡ true
  pub allowed : ok_of lengths c.n (length (take c.long c.word)) ≡ true
  pub marks : marks_ok c.k (take c.long c.word) ≡ true
  pub lyndon : is_lyndon (take c.long c.word) ≡ true
  pub inside : c.place < length (take c.long c.word)

pub good : (lengths : Lengths) {c : DC.Cursor} → (tidy c && good_in (ok_of lengths) (cursor_in c)) ≡ true → Good lengths c
good lengths {c} h =
    let (sixty, fits, zeroed) = tidy_out c (and_l (tidy c) _ h) in
    let o : good_in (ok_of lengths) (cursor_in c) ≡ true = and_r (tidy c) _ h in
    let u : List ℕ = take c.long c.word in
    let a = and_r (ok_of lengths c.n (length u)) _ o in
    let b = and_r (marks_ok c.k u) _ a in
    record {
      sixty = sixty;
      fits = fits;
      zeroed = zeroed;
      allowed = and_l (ok_of lengths c.n (length u)) _ o;
      marks = and_l (marks_ok c.k u) _ a;
      lyndon = and_l (is_lyndon u) _ b;
      inside = ltb-true c.place (length u) (and_r (is_lyndon u) _ b);
    }

-- it holds a word of the ring, in the first n bytes
module _ {lengths : Lengths} {s : DH.Strip} {c : DC.Cursor} (g : GoodOn lengths s c) where
  pub fine : Good lengths c
  fine = good lengths {c = c} g.good

  pub held_short : c.n ≤ 60
  held_short = omega (arith, (limits s).short, g.marks)

  pub held_fits : c.n ≤ length c.word
  held_fits = omega (arith, held_short, fine.sixty)

  pub word-long : length (take c.long c.word) ≡ c.long
  word-long = length-take-le c.long c.word (omega (arith, fine.fits, fine.sixty))

  pub word_short : c.long ≤ c.n
  word_short =
      let some : 1 ≤ c.n = omega (arith, (limits s).some, g.marks) in
      divides_le c.long c.n some (ap (λ l. divides l c.n) (sym word-long) ∙ (allowed_of lengths c.n some).divisor _ fine.allowed)

  pub place_inside : c.place < c.long
  place_inside = omega (arith, word-long, fine.inside)

  pub place_small : c.place < 60
  place_small = omega (arith, place_inside, word_short, held_short)

  pub same_word : take c.long (take c.n c.word) ≡ take c.long c.word
  same_word = take-take c.long c.n c.word word_short

  pub held_on : HeldOn lengths s (take c.n c.word) c.long
  held_on =
      record {
        size = length-take-le c.n c.word (omega (arith, held_short, fine.sixty)) ∙ sym g.marks;
        allowed = ap₂ (ok_of lengths) g.marks (sym word-long) ∙ fine.allowed;
        marks = ap₂ marks_ok g.letters same_word ∙ fine.marks;
        lyndon = ap is_lyndon same_word ∙ fine.lyndon;
      }

-- The same way in a buffer, on or back: the word that is held, the count of words passed, and what each step to a neighbouring Lyndon word makes of them.
use mathlib.Core.Path.{◌≡◌, sym, ◌∙◌, ap, subst, subst₂}
use mathlib.Core.Bool.{Bool, true, false}
use mathlib.Core.List.{List, []}
use Prim.Native.Nat.{ℕ, ◌+◌, ◌-◌, ◌≤◌, ◌<◌}
use native.Mathlib.Omega.{arith}
use native.Mathlib.Numerals.{add-one}
use lib.ListN.{length, take, replicate, length-append, length-replicate}
use lib.Seq.{length-take-le, take_at}
use Rattle.theory.specs.Words.{pick, is_lyndon}
use Rattle.theory.specs.Lists.{In}
use Rattle.theory.specs.Rings.{lyndons_up, ring_words, divides}
use Rattle.theory.specs.Steps.{next_lyndon, word_before}
use Rattle.theory.proofs.Base.{nil_of}
use Rattle.theory.proofs.Lyndon.{lyndon_some}
use Rattle.theory.proofs.Divisors.{divides_le}
use Rattle.theory.proofs.Listed.{lyndon_up_words, ring_words_lem}
use Rattle.shape.specs.declared.Strip as DS
use Rattle.shape.specs.declared.Lengths.{Lengths}
use Rattle.shape.specs.Rings.{ok_of}
use Rattle.shape.proofs.Limits.{limits}
use Rattle.shape.proofs.Rings.{allowed_of}
use Rattle.steps.specs.Steps.{padded, Held, Put, NextIs, PreviousIs}
use Rattle.rings.specs.Moves.{HeldOn, MovedTo}
use Rattle.rings.proofs.Directions.{Direction, counted, ahead, Laws, Way, Onward, Turn, ended, moved, antisym, way_begins, turn, arrived, further_on}
use Rattle.rings.proofs.Ways.{forth, back, First, forth_of, back_of_lem}

-- a word with zeros after it in a buffer
pub padded-length : (n : ℕ) (y : List ℕ) → length y ≤ n → length (padded n y) ≡ n
padded-length n y h = omega (arith, length-append y (replicate (n - length y) 0), length-replicate {A = ℕ} (n - length y) 0)

-- the word that is held
module _ {lengths : Lengths} {s : DS.Strip} {w : List ℕ} {l : ℕ} (h : HeldOn lengths s w l) where
  held-divides : divides l s.n ≡ true
  held-divides = (allowed_of lengths s.n (limits s).some).divisor l h.allowed

  pub held_fits : l ≤ length w
  held_fits = omega (arith, h.size, divides_le l s.n (limits s).some held-divides)

  pub held-length : length (take l w) ≡ l
  held-length = length-take-le l w held_fits

  pub held_in : In (take l w) (ring_words (ok_of lengths s.n) s.k s.n)
  held_in = (ring_words_lem (ok_of lengths s.n) s.k s.n (take l w)).1 (omega (arith, held-length, held_fits, h.size), h.marks, h.lyndon, ap (ok_of lengths s.n) held-length ∙ h.allowed)

  pub forth_on : Laws (forth (ok_of lengths s.n) s.k s.n) (ok_of lengths s.n) s.k s.n
  forth_on = let r = limits s in forth_of lengths s.k s.n r.two r.some

  pub back_on_lem : Laws (back (ok_of lengths s.n) s.k s.n) (ok_of lengths s.n) s.k s.n
  back_on_lem = let r = limits s in back_of_lem lengths s.k s.n r.two r.some

-- the buffer and the count on the way from u
pub record Going (d : Direction) (ok : ℕ → Bool) (k n : ℕ) (u w : List ℕ) (l passed : ℕ) : Type 0 where
  pub size : length w ≡ n
  pub fits : l ≤ length w
  pub way : Way d ok k n u (take l w) passed

pub way_starts : {lengths : Lengths} {s : DS.Strip} {w : List ℕ} {l : ℕ} {d : Direction} → HeldOn lengths s w l → Laws d (ok_of lengths s.n) s.k s.n
    → Going d (ok_of lengths s.n) s.k s.n (take l w) w l 0
way_starts {lengths} {s} {w} {l} h r = record { size = h.size; fits = held_fits h; way = way_begins r (take l w) (held_in h) }

-- a step's answer, in a buffer of n letters
module _ {ok : ℕ → Bool} {k n : ℕ} {u w after : List ℕ} {l m passed : ℕ} where
  pub next_put : Going (forth ok k n) ok k n u w l passed → NextIs k w l after m → Put n (next_lyndon k n (take l w)) after m
  next_put g q = subst (λ j. Put j (next_lyndon k j (take l w)) after m) g.size q

  pub previous_put : Going (back ok k n) ok k n u w l passed → PreviousIs k w l after m → Put n (word_before k n (take l w)) after m
  previous_put g q = subst (λ j. Put j (word_before k j (take l w)) after m) g.size q

-- a word over n letters, and its length
abbrev pub Puts : ℕ → List ℕ → List ℕ → ℕ → Type 0
Puts n word after r = (after ≡ padded n word) × (r ≡ length word)

-- the words passed from u to the word of the ring that follows it
abbrev pub passes : Direction → ℕ → ℕ → List ℕ → ℕ
passes d k n u = pick (d.past u (d.leads u)) (counted d k n u (d.leads u)) 0

module _ {d : Direction} {ok : ℕ → Bool} {k n : ℕ} (r : Laws d ok k n) {u : List ℕ} (i : In u (ring_words ok k n)) {w : List ℕ} {l passed : ℕ} (g : Going d ok k n u w l passed) where
  -- what the step asks
  pub asks : 2 ≤ k → k ≤ 36 → Held k w l
  asks two most =
      let (_, letters, lyndon) = (lyndon_up_words k n (take l w)).0 g.way.listed in
      record { lettered = record { some = omega arith; byte = omega arith; marks = letters }; some = omega (arith, lyndon_some (take l w) lyndon, length-take-le l w g.fits); fits = g.fits }

  pub asks_back : 2 ≤ k → k ≤ 36 → Held k w l × (is_lyndon (take l w) ≡ true)
  asks_back two most = (asks two most, ((lyndon_up_words k n (take l w)).0 g.way.listed).2)

  -- what follows the word that was held is put in its place
  module _ {after : List ℕ} {m : ℕ} (q : Put n (d.move (take l w)) after m) where
    abbrev y : List ℕ
    y = d.move (take l w)

    put_word : take m after ≡ y
    put_word = ap (take m) q.buffer ∙ take_at y _ m (sym q.size)

    turn_of : Turn d ok k n u (take l w) passed
    turn_of = turn r i g.way

    some_of : In y (lyndons_up k n) → 0 < m
    some_of j = omega (arith, q.size, lyndon_some y ((lyndon_up_words k n y).0 j).2)

    -- nothing is left: the buffer is empty, and the way goes on at the first word
    emptied : m ≡ 0 → after ≡ padded n []
    emptied e = q.buffer ∙ ap (padded n) (nil_of y (sym q.size ∙ e))

    pub size_kept : m ≡ 0 → length after ≡ n
    size_kept e = ap length (emptied e) ∙ padded-length n [] (omega arith)

    pub wraps : (word : ℕ → List ℕ) {v : List ℕ} {long : ℕ} → m ≡ 0 → First d ok k n (word n) → Puts (length after) (word (length after)) v long
        → MovedTo n (d.leads u) (passes d k n u) v (record { long = long; passed = 0 })
    wraps word {v} {long} e first put = elim turn_of [
      | ended a b z ↦
          let is : word n ≡ d.leads u = antisym r (first.before (d.leads u) (r.lead_in u i)) (z (word n) first.on_ring) in
          let (buffer, size) = subst (λ j. Puts j (word j) v long) (size_kept e) put in
          record { word = buffer ∙ ap (padded n) is; size = size ∙ ap length is; passed = ap (λ t. pick t (counted d k n u (d.leads u)) 0) (sym b) }
      | moved o ↦ absurd (omega (arith, some_of o.listed))
    ]

    module _ (some : m ≡ 0 → ⊥) where
      next : Onward d ok k n u (take l w) y passed
      next = elim turn_of [ ended a b z ↦ absurd (some (q.size ∙ ap length a)) | moved o ↦ o ]

      pub counts : passed < n
      counts = omega (arith, next.most)

      pub falls : ahead d k n (take m after) < ahead d k n (take l w)
      falls = omega (arith, next.fewer, ap (ahead d k n) put_word)

      pub arrives : ok m ≡ true → MovedTo n (d.leads u) (passes d k n u) after (record { long = m; passed = passed + 1 })
      arrives t =
          let is : y ≡ d.leads u = arrived r i g.way next (ap ok (sym q.size) ∙ t) in
          record {
            word = q.buffer ∙ ap (padded n) is;
            size = q.size ∙ ap length is;
            passed = add-one passed ∙ next.count ∙ ap (counted d k n u) is ∙ ap (λ t. pick t (counted d k n u (d.leads u)) 0) (sym (ap (d.past u) (sym is) ∙ next.past));
          }

      pub goes_on : ok m ≡ false → Going d ok k n u after m (passed + 1)
      goes_on t =
          let short : length y ≤ n = ((lyndon_up_words k n y).0 next.listed).0 in
          let size : length after ≡ n = ap length q.buffer ∙ padded-length n y short in
          record {
            size = size;
            fits = omega (arith, q.size, size, short);
            way = subst₂ (λ x c. Way d ok k n u x c) (sym put_word) (sym (add-one passed)) (further_on r i g.way next (ap ok (sym q.size) ∙ t));
          }

-- The word that holds the position p: on the strip the root word of the least word whose CS has more than p words, on the short ring the word whose
-- index p tells.
use mathlib.Core.Path.{◌≡◌, refl, sym, ◌∙◌, ap, ap₂, subst}
use mathlib.Core.Bool.{true}
use mathlib.Core.List.{List, []}
use Prim.Native.Nat.{ℕ, ◌+◌, ◌-◌, ◌/◌, ◌%◌, ◌^◌, ◌≤◌, ◌<◌}
use native.Mathlib.Omega.{arith}
use lib.Dec.{ltb}
use lib.ListN.{length, take}
use native.Mathlib.Nat.{mod-lt}
use native.Mathlib.Numerals.{add-one}
use lib.Seq.{take_all}
use borrow.Author.Tests.{ltb-true, eq-eqb}
use Rattle.theory.specs.Words.{smallest, root, marks_ok, is_lyndon, how_many, word_of}
use Rattle.theory.specs.Sums.{cs}
use Rattle.theory.specs.Rings.{Cursor, cursor, before_w}
use Rattle.theory.specs.Strips.{divisor_of, strip_words, cursor_at}
use Rattle.theory.specs.Shorts.{short_size}
use Rattle.theory.specs.Search.{least_word}
use Rattle.theory.proofs.Base.{and_r}
use Rattle.theory.proofs.Cursors.{at_kept}
use Rattle.theory.proofs.Strips.{cursors}
use Rattle.theory.proofs.Ranks.{index_word}
use Rattle.theory.proofs.Shorts.{index_few, short_ring_lem}
use Rattle.theory.proofs.Positions.{by_cs, word_fits}
use Rattle.theory.proofs.Locating.{RootWord, root-word}
use Rattle.theory.proofs.Letters.{marks-take}
use Rattle.theory.specs.Prenecklaces.{Prenecklace}
use Rattle.theory.proofs.Necklaces.{smallest_pre}
use Rattle.theory.proofs.Divisors.{divides_le}
use Rattle.shape.specs.declared.Strip as DS
use Rattle.shape.specs.declared.Lengths.TheVariants.{Divisors, Whole}
use Rattle.shape.specs.Shapes.{WordOn}
use Rattle.shape.proofs.Limits.{limits}
use Rattle.shape.proofs.Rings.{size-most}
use Rattle.automaton.specs.Tables.{Counted}
use Rattle.rings.specs.Moves.{HeldOn}
use Rattle.ranks.proofs.Shapes.{counted}
use Rattle.access.specs.declared.Spot as DP
use Rattle.access.specs.Holders.{HoldsAt}

-- the word found
abbrev pub found : ℕ → ℕ → ℕ → List ℕ
found k n p = least_word k (λ w. ltb p (cs k w)) [] n

pub record Holding (k n p : ℕ) (v : List ℕ) : Type 0 where
  pub necklace : smallest v ≡ v
  pub long : length v ≡ n
  pub marks : marks_ok k v ≡ true
  pub rooted : RootWord k n v
  pub enough : cs k v ≤ p + root v
  pub inside : p + root v - cs k v < root v
  pub is : cursor k n (take (root v) v) (p + root v - cs k v) ≡ cursor_at k n p

pub holding : (k n p : ℕ) → 2 ≤ k → 1 ≤ n → p < k ^ n → Holding k n p (found k n p)
holding k n p h s l = record {
  necklace = by.0;
  long = fits.0;
  marks = fits.1;
  rooted = rooted;
  enough = omega (arith, at_place);
  inside = omega (arith, at_place, within);
  is = ap₂ (cursor k n) by.1 (omega (arith, at_place)) ∙ ap₂ (λ x y. cursor x y c.word c.place) (sym kept.0) (sym kept.1);
}
  where
    v : List ℕ
    v = found k n p

    c : Cursor
    c = cursor_at k n p

    by : (smallest v ≡ v) × (take (root v) v ≡ c.word) × (cs k v ≡ before_w (take (root v) v) (strip_words k n) + root v)
    by = by_cs k n p h s l

    fits : (length v ≡ n) × (marks_ok k v ≡ true)
    fits = word_fits k n p h s l

    rooted : RootWord k n v
    rooted = root-word k n v s fits.0 by.0 fits.1

    kept : (c.k ≡ k) × (c.n ≡ n)
    kept = at_kept k n (strip_words k n) p

    -- where it stands
    at_place : cs k v + c.place ≡ p + root v
    at_place =
        let placed : before_w c.word (strip_words k n) + c.place ≡ p = ap₂ (λ x y. before_w c.word (strip_words x y) + c.place) (sym kept.0) (sym kept.1) ∙ (cursors.there k n p h s l).1 in
        omega (arith, placed, by.2, ap (λ u. before_w u (strip_words k n)) by.1)

    within : c.place < root v
    within =
        let good = (cursors.there k n p h s l).0 in
        let last = and_r (is_lyndon c.word) _ (and_r (marks_ok c.k c.word) _ (and_r (divisor_of c.n (length c.word)) _ good)) in
        omega (arith, ltb-true c.place (length c.word) last, rooted.long, ap length by.1)

-- what the code asks of it, and answers
module _ (s : DS.Strip) (p : ℕ) {v : List ℕ} (l : p < s.size) (e : v ≡ found s.k s.n p) where
  hold : Holding s.k s.n p v
  hold = let r = limits s in subst (Holding s.k s.n p) (sym e) (holding s.k s.n p r.two r.some (subst (λ x. p < x) s.whole l))

  pub holder_asks : Counted s.k v × Prenecklace v × (s.size ≡ s.k ^ length v)
  holder_asks =
      let on : WordOn s v = record { long = hold.long; marks = hold.marks } in
      (counted on, smallest_pre v hold.necklace, s.whole ∙ ap (λ m. s.k ^ m) (sym hold.long))

  pub holder_fits : (root v ≤ 60) × (cs s.k v ≤ p + root v) × (p < 2 ^ 60)
  holder_fits =
      let r = limits s in
      (omega (arith, divides_le (root v) s.n r.some hold.rooted.divisor, r.short), hold.enough, omega (arith, l, s.whole, r.range))

  pub holder_is : {r : DP.Spot} → r.long ≡ root v → r.at ≡ p + root v - cs s.k v → HoldsAt Divisors s p v r
  holder_is {r} a b = record {
    held = subst (HeldOn Divisors s v) (sym a) held;
    inside = omega (arith, hold.inside);
    is = ap₂ (λ x y. cursor s.k s.n (take x v) y) a b ∙ hold.is;
  }
    where
      held : HeldOn Divisors s v (root v)
      held = record { size = hold.long; allowed = hold.rooted.divisor; marks = marks-take s.k (root v) v hold.marks; lyndon = hold.rooted.lyndon }

-- the short ring
module _ (s : DS.Strip) (p : ℕ) (l : p < short_size s.k s.n) where
  -- the index is that of a word
  pub index_within : (1 ≤ p / s.n + 1) × (p / s.n + 1 ≤ how_many s.k s.n)
  index_within = let r = limits s in let few = index_few s.k s.n r.two r.some p l in (omega arith, omega (arith, few))

  pub index_small : (p < 2 ^ 60) × (p % s.n < s.n) × (s.n ≤ 60)
  index_small =
      let r = limits s in
      (omega (arith, size-most Whole s.k s.n r.two r.some, r.range), mod-lt p r.some, r.short)

  pub short_is : {v : List ℕ} {r : DP.Spot} → v ≡ word_of s.k s.n (p / s.n + 1) → r.long ≡ s.n → r.at ≡ p % s.n → HoldsAt Whole s p v r
  short_is {v} {r} e a b = record {
    held = subst (HeldOn Whole s v) (sym a) (record { size = long; allowed = eq-eqb s.n s.n refl; marks = ap (marks_ok s.k) word ∙ fits.1; lyndon = ap is_lyndon word ∙ fits.2 });
    inside = omega (arith, index_small);
    is = ap₂ (λ x y. cursor s.k s.n (take x v) y) a b ∙ ap (λ u. cursor s.k s.n u (p % s.n)) (word ∙ ap (word_of s.k s.n) (add-one (p / s.n))) ∙ sym ((short_ring_lem s.k s.n (limits s).two (limits s).some).at_place p l);
  }
    where
      fits : (length (word_of s.k s.n (p / s.n + 1)) ≡ s.n) × (marks_ok s.k (word_of s.k s.n (p / s.n + 1)) ≡ true) × (is_lyndon (word_of s.k s.n (p / s.n + 1)) ≡ true)
      fits = index_word s.k s.n (p / s.n + 1) index_within.0 index_within.1

      long : length v ≡ s.n
      long = ap length e ∙ fits.0

      word : take s.n v ≡ word_of s.k s.n (p / s.n + 1)
      word = take_all s.n v (omega (arith, long)) ∙ e

-- The word that holds a position of the strip, found by sizes of CS (document 004, Theorem 24).
use mathlib.Core.Path.{◌≡◌, sym, ◌∙◌, ap, ap₂, subst}
use mathlib.Core.Bool.{Bool, true}
use mathlib.Core.List.{List, [], ◌∷◌, ◌++◌, append_assoc, append-nil}
use mathlib.Core.Logic.{◌↔◌}
use Prim.Native.Nat.{ℕ, zero, suc, ◌+◌, ◌-◌, ◌/◌, ◌^◌, ◌≤◌, ◌<◌}
use native.Mathlib.Omega.{arith}
use native.Mathlib.Nat.{mul-div_cancel}
use lib.Dec.{ltb}
use lib.ListN.{length, take, replicate, length-append}
use lib.Seq.{take-append_seam}
use borrow.Author.Tests.{ltb-true, lt-ltb}
use Rattle.theory.specs.Words.{up_to, smallest, repeated, root, marks_ok, power_to}
use Rattle.theory.specs.Lists.{In, Ascending}
use Rattle.theory.specs.Rings.{divides, joined, before_w}
use Rattle.theory.specs.Strips.{strip_words, cursor_at, divisor_of}
use Rattle.theory.specs.Sums.{cs}
use Rattle.theory.specs.Search.{least_word}
use Rattle.theory.specs.Theorems.{Searched}
use Rattle.theory.proofs.Base.{unsnoc, upto, over, split as split_at}
use Rattle.theory.proofs.Order.{Lt, Le, up_to_le, le_antisym, le_not_lt}
use Rattle.theory.proofs.Lists.{found, in_split, in_mid, joined-append}
use Rattle.theory.proofs.Letters.{marks_left}
use Rattle.theory.proofs.Lyndon.{Lyndon}
use Rattle.theory.proofs.Powers.{repeated-length, root-divides}
use Rattle.theory.proofs.Necklaces.{base, base_of_lem}
use Rattle.theory.proofs.Listed.{ring_ascend}
use Rattle.theory.proofs.Joined.{before_is, word_at}
use Rattle.theory.proofs.Floors.{floor_is, floor_cs}
use Rattle.theory.proofs.Ends.{strip_ends}
use Rattle.theory.proofs.Search.{Least, least_found, least_word_lem, by_rank}
use Rattle.theory.proofs.Rotations.{power_length, powers_lt}
use Rattle.theory.proofs.Seams.{Setting}
use Rattle.theory.proofs.Seams as seams
use Rattle.theory.proofs.Divisors.{divisors_allowed}
use Rattle.theory.proofs.Levels.{cs_mono, cs_top}
use Rattle.theory.proofs.Tops.{one_less}

-- the strip over the letters 0 to z
abbrev pub strip_setting : (z n : ℕ) → 0 < z → 0 < n → Setting
strip_setting z n h s = record { z = z; n = n; ok = divisor_of n; letters = h; some = s; allowed = divisors_allowed n s }

module _ (z n p : ℕ) (h : 0 < z) (s : 0 < n) (inside : p < suc z ^ n) where
  -- the size of CS is past the position
  abbrev past : List ℕ → Bool
  past w = ltb p (cs (suc z) w)

  past_up : (u v : List ℕ) → length u ≡ n → length v ≡ n → marks_ok (suc z) u ≡ true → marks_ok (suc z) v ≡ true → up_to u v ≡ true → past u ≡ true → past v ≡ true
  past_up u v e f m o l t = lt-ltb p (cs (suc z) v) (omega (arith, ltb-true p (cs (suc z) u) t, cs_mono (suc z) (e ∙ sym f) (up_to_le u v l)))

  abbrev pub word : List ℕ
  word = least_word (suc z) past [] n

  least_past : Least z n past past_up word
  least_past = least_found z n past past_up (lt-ltb p _ (omega (arith, ap (λ x. cs (suc z) (replicate n x)) (sym (one_less z)) ∙ cs_top (suc z) n)))

  -- the largest necklace not above it has the same CS, so it is that necklace
  word_necklace : smallest word ≡ word
  word_necklace =
      let r = least_past in
      let f = floor_is (suc z) word r.passes.marks in
      let e = le_antisym (r.least _ (record { long = f.0 ∙ r.passes.long; marks = f.1; pass = ap (λ c. ltb p c) (floor_cs (suc z) word r.passes.marks) ∙ r.passes.pass })) (up_to_le _ word f.3) in
      subst (λ v. smallest v ≡ v) (sym e) f.2

  -- the power of a word of the strip
  pub data Held : Type 0 where
    held : (u : List ℕ) → In u (strip_words (suc z) n) → power_to n u ≡ word → root word ≡ length u → take (root word) word ≡ u → Held

  word_held : Held
  word_held = elim (base_of_lem word (omega (arith, least_past.passes.long))) [ base u e l f g ↦ at u e l (sym word_necklace ∙ f) g ]
    where
      long : length word ≡ n
      long = least_past.passes.long

      at : (u : List ℕ) (e : ℕ) → Lyndon u → word ≡ repeated (suc e) u → root word ≡ length u → Held
      at u e l f g = held u (seams.in_ring (strip_setting z n h s) l (marks_left (suc z) u (repeated e u) (rw f at least_past.passes.marks)) (subst (λ d. divides d n ≡ true) g (subst (λ m. divides (root word) m ≡ true) long (root-divides word (omega (arith, long)))))) power g (ap₂ take g f ∙ take-append_seam u (repeated e u))
        where
          power : power_to n u ≡ word
          power = ap (λ r. repeated r u) (ap (λ m. m / length u) (sym long ∙ ap length f ∙ repeated-length (suc e) u) ∙ mul-div_cancel (suc e) l.some) ∙ sym f

  -- the word before it ends at or before the position
  before_le : (u : List ℕ) → In u (strip_words (suc z) n) → power_to n u ≡ word → before_w u (strip_words (suc z) n) ≤ p
  before_le u i e = elim (in_split i) [ found a b g ↦ at a b g ]
    where
      R : Setting
      R = strip_setting z n h s

      at : (a b : List (List ℕ)) → strip_words (suc z) n ≡ a ++ (u ∷ b) → before_w u (strip_words (suc z) n) ≤ p
      at a b g = front a g
        where
          before : (c : List (List ℕ)) → strip_words (suc z) n ≡ c ++ (u ∷ b) → before_w u (strip_words (suc z) n) ≡ length (joined c)
          before c q = ap (before_w u) q ∙ before_is c u b (subst Ascending q (ring_ascend (divisor_of n) (suc z) n))

          front : (c : List (List ℕ)) → strip_words (suc z) n ≡ c ++ (u ∷ b) → before_w u (strip_words (suc z) n) ≤ p
          front [] q = omega (arith, before [] q)
          front (x ∷ c) q = let (d, v, o) = unsnoc (x ∷ c) (omega arith) in behind d v o
            where
              behind : (d : List (List ℕ)) (v : List ℕ) → x ∷ c ≡ d ++ (v ∷ []) → before_w u (strip_words (suc z) n) ≤ p
              behind d v o = not_past (seams.neighbours R d b split)
                where
                  split : strip_words (suc z) n ≡ d ++ (v ∷ (u ∷ b))
                  split = q ∙ ap (λ r. r ++ (u ∷ b)) o ∙ append_assoc d (v ∷ []) (u ∷ b)

                  v_in : In v (strip_words (suc z) n)
                  v_in = subst (λ r. In v r) (sym split) (in_mid d (u ∷ b))

                  ends : before_w u (strip_words (suc z) n) ≡ cs (suc z) (power_to n v)
                  ends =
                      before (x ∷ c) q ∙ ap (λ r. length (joined r)) o ∙ ap length (joined-append d (v ∷ [])) ∙ length-append (joined d) (v ++ [])
                      ∙ ap₂ ◌+◌ (sym (ap (before_w v) split ∙ before_is d v (u ∷ b) (subst Ascending split (ring_ascend (divisor_of n) (suc z) n)))) (ap length (append-nil v))
                      ∙ strip_ends (suc z) n v s v_in

                  not_past : seams.Next R v u → before_w u (strip_words (suc z) n) ≤ p
                  not_past nb = elim (split_at (cs (suc z) (power_to n v)) p) [ upto l ↦ omega (arith, ends) | over l ↦ absurd (too_low l) ]
                    where
                      m : seams.Member R v
                      m = nb.here_u

                      too_low : p < cs (suc z) (power_to n v) → ⊥
                      too_low l =
                          le_not_lt (least_past.least (power_to n v) (record { long = power_length m.fit; marks = seams.power_marks R m; pass = lt-ltb p _ l }))
                          (subst (λ y. Lt (power_to n v) y) e (powers_lt m.fit nb.here_v.fit nb.smaller))

  pub word_at_place : (smallest word ≡ word) × (take (root word) word ≡ (cursor_at (suc z) n p).word) × (cs (suc z) word ≡ before_w (take (root word) word) (strip_words (suc z) n) + root word)
  word_at_place = elim word_held [ held u i e f g ↦ at u i e f g ]
    where
      at : (u : List ℕ) → In u (strip_words (suc z) n) → power_to n u ≡ word → root word ≡ length u → take (root word) word ≡ u
          → (smallest word ≡ word) × (take (root word) word ≡ (cursor_at (suc z) n p).word) × (cs (suc z) word ≡ before_w (take (root word) word) (strip_words (suc z) n) + root word)
      at u i e f g =
          let ends : before_w u (strip_words (suc z) n) + length u ≡ cs (suc z) word = strip_ends (suc z) n u s i ∙ ap (cs (suc z)) e in
          let low : before_w u (strip_words (suc z) n) ≤ p = before_le u i e in
          let high : p < cs (suc z) word = ltb-true p _ least_past.passes.pass in
          let q : before_w u (strip_words (suc z) n) + (p - before_w u (strip_words (suc z) n)) ≡ p = omega arith in (
            word_necklace,
            g ∙ sym (ap (λ x. (cursor_at (suc z) n x).word) (sym q) ∙ ap (λ c. c.word) (word_at (strip_words (suc z) n) (ring_ascend (divisor_of n) (suc z) n) (suc z) n u (p - before_w u (strip_words (suc z) n)) i (omega arith))),
            sym ends ∙ ap₂ (λ x y. before_w x (strip_words (suc z) n) + y) (sym g) (sym f),
          )

  -- sizes of CS reach the position just at that word
  pub cs_reaches : {w : List ℕ} → length w ≡ n → marks_ok (suc z) w ≡ true → (p < cs (suc z) w) ↔ Le word w
  cs_reaches {w} e m = (
    λ h. least_past.least w (record { long = e; marks = m; pass = lt-ltb p _ h }),
    λ l. omega (arith, ltb-true p _ least_past.passes.pass, cs_mono (suc z) (least_past.passes.long ∙ sym e) l),
  )

pub by_cs : (k n p : ℕ) → 2 ≤ k → 1 ≤ n → p < k ^ n
    → let w = least_word k (λ w. ltb p (cs k w)) [] n in
    (smallest w ≡ w) × (take (root w) w ≡ (cursor_at k n p).word) × (cs k w ≡ before_w (take (root w) w) (strip_words k n) + root w)
by_cs zero n p h s i = absurd (omega arith)
by_cs (suc z) n p h s i = word_at_place z n p (omega arith) s i

-- the same for every k ≥ 2
pub word_fits : (k n p : ℕ) → 2 ≤ k → 1 ≤ n → p < k ^ n → let w = least_word k (λ w. ltb p (cs k w)) [] n in (length w ≡ n) × (marks_ok k w ≡ true)
word_fits zero n p h s i = absurd (omega arith)
word_fits (suc z) n p h s i = let r = least_past z n p (omega arith) s i in (r.passes.long, r.passes.marks)

pub cs_reached : (k n p : ℕ) {w : List ℕ} → 2 ≤ k → 1 ≤ n → p < k ^ n → length w ≡ n → marks_ok k w ≡ true
    → (p < cs k w) ↔ Le (least_word k (λ w. ltb p (cs k w)) [] n) w
cs_reached zero n p h s i e m = absurd (omega arith)
cs_reached (suc z) n p h s i e m = cs_reaches z n p (omega arith) s i e m

pub searched : Searched
searched = record { least_word_lem = least_word_lem; by_rank = by_rank; by_cs = by_cs }

-- Words found letter by letter (document 004, Theorems 21 and 24): the word of an index by ranks, the word that holds a position by
-- sizes of CS.
use mathlib.Core.Path.{◌≡◌, refl, sym, ◌∙◌, ap, subst}
use mathlib.Core.Bool.{Bool, true, false, false≢true}
use mathlib.Core.List.{List, [], ◌∷◌, ◌++◌, append_assoc, append-nil}
use mathlib.Core.Logic.{inl, inr}
use Prim.Native.Nat.{ℕ, zero, suc, ◌+◌, ◌-◌, ◌≤◌, ◌<◌}
use native.Mathlib.Omega.{arith}
use lib.Dec.{leb}
use lib.ListN.{length, replicate, length-append, length-replicate}
use borrow.Author.Tests.{leb-true, le-leb}
use Rattle.theory.specs.Words.{up_to, is_lyndon, how_many, rank, word_of, marks_ok}
use Rattle.theory.specs.Search.{least_letter, least_word}
use Rattle.theory.specs.Prenecklaces.{Cut, differ, agree}
use Rattle.theory.proofs.Base.{test, less, equal, more, cmp}
use Rattle.theory.proofs.Order.{Le, le_up_to, up_to_le, le_antisym, le_prefix, further, not_lt, lt_cut}
use Rattle.theory.proofs.Letters.{marks-append, marks_cons, marks_right, marks_tail, marks-replicate}
use Rattle.theory.proofs.Ranks.{undone}
use Rattle.theory.proofs.Tops.{no_higher, one_less}
use Rattle.theory.proofs.Levels.{rank_mono, rank_top, rank_strict}

-- the letter found: a letter that passes, or the one that was not tried; no smaller one passes
least_letter_is : (l a : ℕ) (f : List ℕ → Bool) (p : List ℕ) (m z : ℕ) → f (p ++ ((a + l) ∷ replicate m z)) ≡ true
    → let c = least_letter l a f p m z in (f (p ++ (c ∷ replicate m z)) ≡ true) × (c ≤ a + l) × ((b : ℕ) → a ≤ b → b < c → f (p ++ (b ∷ replicate m z)) ≡ false)
least_letter_is zero a f p m z h =
    let e : a + 0 ≡ a = omega arith in (rw e at h, omega arith, λ b g i. absurd (omega arith))
least_letter_is (suc l) a f p m z h = elim (test (f (p ++ (a ∷ replicate m z)))) [ inl t ↦ rw (t, least_letter) (t, omega arith, λ b g i. absurd (omega arith)) | inr t ↦ rw (t, least_letter) (on t (least_letter_is l (suc a) f p m z (rw e at h))) ]
  where
    e : a + suc l ≡ suc a + l
    e = omega arith

    on : f (p ++ (a ∷ replicate m z)) ≡ false
        → (f (p ++ (least_letter l (suc a) f p m z ∷ replicate m z)) ≡ true) × (least_letter l (suc a) f p m z ≤ suc a + l) × ((b : ℕ) → suc a ≤ b → b < least_letter l (suc a) f p m z → f (p ++ (b ∷ replicate m z)) ≡ false)
        → (f (p ++ (least_letter l (suc a) f p m z ∷ replicate m z)) ≡ true) × (least_letter l (suc a) f p m z ≤ a + suc l) × ((b : ℕ) → a ≤ b → b < least_letter l (suc a) f p m z → f (p ++ (b ∷ replicate m z)) ≡ false)
    on t (x, y, g) = (x, omega arith, λ b i j. elim (cmp a b) [ less q ↦ g b q j | equal q ↦ subst (λ r. f (p ++ (r ∷ replicate m z)) ≡ false) q t | more q ↦ absurd (omega arith) ])

-- u cut below p c, but not below p: u is p and a smaller letter
pub cut_snoc : (p : List ℕ) (c : ℕ) {u : List ℕ} → Cut u (p ++ (c ∷ [])) → ¬ Cut u p → (b : ℕ) × (s : List ℕ) × (u ≡ p ++ (b ∷ s)) × (b < c)
cut_snoc [] c {u = []} h n = elim h [ ]
cut_snoc [] c {u = x ∷ u} (differ h) n = (x, u, refl, h)
cut_snoc [] c {u = x ∷ u} (agree h) n = absurd (nothing h)
  where
    nothing : {w : List ℕ} → ¬ Cut w []
    nothing {w = []} q = elim q [ ]
    nothing {w = y ∷ w} q = elim q [ ]
cut_snoc (a ∷ p) c (differ h) n = absurd (n (differ h))
cut_snoc (a ∷ p) c (agree h) n = let (b, s, e, l) = cut_snoc p c h (λ q. n (agree q)) in (b, s, ap (λ r. a ∷ r) e, l)

module _ (z n : ℕ) (f : List ℕ → Bool)
    (upward : (u v : List ℕ) → length u ≡ n → length v ≡ n → marks_ok (suc z) u ≡ true → marks_ok (suc z) v ≡ true → up_to u v ≡ true → f u ≡ true → f v ≡ true) where
  -- the words that pass
  pub record Passing (u : List ℕ) : Type 0 where
    pub long : length u ≡ n
    pub marks : marks_ok (suc z) u ≡ true
    pub pass : f u ≡ true

  pub record Least (w : List ℕ) : Type 0 where
    pub passes : Passing w
    pub least : (u : List ℕ) → Passing u → Le w u

  -- p begins the least word: p z z .. passes, and nothing that passes is below p
  pub record Begun (p : List ℕ) (m : ℕ) : Type 0 where
    pub size : length p + m ≡ n
    pub marks : marks_ok (suc z) p ≡ true
    pub full : f (p ++ replicate m z) ≡ true
    pub low : (u : List ℕ) → Passing u → ¬ Cut u p

  pub begun_next : {p : List ℕ} {m c : ℕ} → Begun p (suc m) → f (p ++ (c ∷ replicate m z)) ≡ true → c ≤ z → ((b : ℕ) → b < c → f (p ++ (b ∷ replicate m z)) ≡ false)
      → Begun (p ++ (c ∷ [])) m
  begun_next {p} {m} {c} g t l none = record { size = omega (arith, length-append p (c ∷ []), g.size); marks = marks-append (suc z) p (c ∷ []) g.marks (marks_cons (suc z) c [] (omega arith) refl); full = rw append_assoc t; low = low_next }
    where
      low_next : (u : List ℕ) → Passing u → ¬ Cut u (p ++ (c ∷ []))
      low_next u x k = let (b, s, e, i) = cut_snoc p c k (g.low u x) in smaller b s e i
        where
          smaller : (b : ℕ) (s : List ℕ) → u ≡ p ++ (b ∷ s) → b < c → ⊥
          smaller b s e i = false≢true (sym (none b i) ∙ upward u (p ++ (b ∷ replicate m z)) x.long (omega (arith, length-append p (b ∷ replicate m z), length-replicate m z, g.size)) x.marks
              (marks-append (suc z) p _ g.marks (marks_cons (suc z) b (replicate m z) (omega arith) (marks-replicate (suc z) m z (omega arith))))
              (le_up_to (subst (λ r. Le r (p ++ (b ∷ replicate m z))) (sym e) (le_prefix p (further (not_lt (no_higher m z s (omega (arith, ap length e, length-append p (b ∷ s), x.long, g.size)) tail_marks))))))
              x.pass)
            where
              tail_marks : marks_ok (suc z) s ≡ true
              tail_marks = marks_tail (suc z) b s (marks_right (suc z) p (b ∷ s) (rw e at x.marks))

  pub begun_end : {p : List ℕ} → Begun p 0 → Least p
  begun_end {p} g = record {
    passes = record { long = omega (arith, g.size); marks = g.marks; pass = rw append-nil at g.full };
    least = λ u x. not_lt (λ k. g.low u x (lt_cut k (omega (arith, x.long, g.size))));
  }

  pub begun_start : f (replicate n z) ≡ true → Begun [] n
  begun_start t = record { size = omega arith; marks = refl; full = t; low = λ u x k. nothing u k }
    where
      nothing : (u : List ℕ) → ¬ Cut u []
      nothing [] q = elim q [ ]
      nothing (x ∷ u) q = elim q [ ]

  found : (m : ℕ) (p : List ℕ) → Begun p m → Least (least_word (suc z) f p m)
  found zero p g = begun_end g
  found (suc m) p g = rw one_less (found m (p ++ (least_letter z 0 f p m z ∷ [])) (begun_next g r.0 (omega (arith, r.1)) (λ b i. r.2 b (omega arith) i)))
    where
      whole : 0 + z ≡ z
      whole = omega arith

      r : (f (p ++ (least_letter z 0 f p m z ∷ replicate m z)) ≡ true) × (least_letter z 0 f p m z ≤ 0 + z) × ((b : ℕ) → 0 ≤ b → b < least_letter z 0 f p m z → f (p ++ (b ∷ replicate m z)) ≡ false)
      r = least_letter_is z 0 f p m z (subst (λ x. f (p ++ (x ∷ replicate m z)) ≡ true) (sym whole) g.full)

  pub least_found : f (replicate n z) ≡ true → Least (least_word (suc z) f [] n)
  least_found t = found n [] (begun_start t)

pub least_word_lem : (k n : ℕ) (f : List ℕ → Bool) → 1 ≤ k
    → ((u v : List ℕ) → length u ≡ n → length v ≡ n → marks_ok k u ≡ true → marks_ok k v ≡ true → up_to u v ≡ true → f u ≡ true → f v ≡ true)
    → f (replicate n (k - 1)) ≡ true
    → let w = least_word k f [] n in
    (length w ≡ n) × (marks_ok k w ≡ true) × (f w ≡ true) × ((u : List ℕ) → length u ≡ n → marks_ok k u ≡ true → f u ≡ true → up_to w u ≡ true)
least_word_lem zero n f h up t = absurd (omega arith)
least_word_lem (suc z) n f h up t =
    let r = least_found z n f up (subst (λ x. f (replicate n x) ≡ true) (one_less z) t) in
    (r.passes.long, r.passes.marks, r.passes.pass, λ u e m x. le_up_to (r.least u (record { long = e; marks = m; pass = x })))

pub by_rank : (k n i : ℕ) → 1 ≤ k → 1 ≤ i → i ≤ how_many k n → least_word k (λ w. leb i (rank k w)) [] n ≡ word_of k n i
by_rank zero n i h a b = absurd (omega arith)
by_rank (suc z) n i h a b = le_antisym (r.least v (record { long = word.0; marks = word.1; pass = le-leb i (rank (suc z) v) (omega (arith, ranked)) })) (not_lt (λ l. omega (arith, ranked, leb-true i _ r.passes.pass, rank_strict (suc z) (r.passes.long ∙ sym word.0) word.1 word.2 l)))
  where
    v : List ℕ
    v = word_of (suc z) n i

    word : (length v ≡ n) × (marks_ok (suc z) v ≡ true) × (is_lyndon v ≡ true)
    word = undone.index_word (suc z) n i a b

    ranked : rank (suc z) v ≡ i
    ranked = undone.of_index (suc z) n i a b

    up : (u w : List ℕ) → length u ≡ n → length w ≡ n → marks_ok (suc z) u ≡ true → marks_ok (suc z) w ≡ true → up_to u w ≡ true → leb i (rank (suc z) u) ≡ true → leb i (rank (suc z) w) ≡ true
    up u w e f m o l t = le-leb i (rank (suc z) w) (omega (arith, leb-true i (rank (suc z) u) t, rank_mono (suc z) (e ∙ sym f) (up_to_le u w l)))

    r : Least z n (λ w. leb i (rank (suc z) w)) up (least_word (suc z) (λ w. leb i (rank (suc z) w)) [] n)
    r = least_found z n (λ w. leb i (rank (suc z) w)) up (le-leb i _ (omega (arith, ap (λ x. rank (suc z) (replicate n x)) (sym (one_less z)) ∙ rank_top (suc z) n)))

-- Fredricksen and Maiorana's theorem (document 003, Theorem 1.5.6), for a ring of any allowed lengths: what is read across the
-- seam between two neighbouring words. N u is the power of u of length n.
use mathlib.Core.Path.{◌≡◌, refl, sym, ◌∙◌, ap, subst, subst₂}
use mathlib.Core.Bool.{Bool, true}
use mathlib.Core.List.{List, [], ◌∷◌, ◌++◌, append_assoc, append-nil, head-eq_of_cons-eq, tail-eq_of_cons-eq, List-discrete}
use mathlib.Core.Logic.{inl, inr, ◌≢◌}
use Prim.Native.Nat.{ℕ, suc, ◌+◌, ◌-◌, ◌≤◌, ◌<◌}
use native.Mathlib.Omega.{arith}
use native.Mathlib.Nat.{suc-mul}
use native.Mathlib.Decide.{ℕ_discrete}
use lib.ListN.{length, replicate, length-append, length-replicate}
use Rattle.theory.specs.Words.{repeated, marks_ok, power_to}
use Rattle.theory.specs.Lists.{In, here, there, Ascending}
use Rattle.theory.specs.Rings.{Allowed, ring_words, joined}
use Rattle.theory.specs.Prenecklaces.{Cut, Prenecklace}
use Rattle.theory.proofs.Base.{upto, over, split, levi, longer, shorter}
use Rattle.theory.proofs.Order.{Lt, Le, Prefix, prefix, is_lt, is_eq, is_gt, tri, lt_irrefl, lt_asym, lt_le, le_not_lt, le_cases, eq_le, cut_lt, cut_append, cut_at_letter, cut_below, cut_above, begins, cmp3, prefix_trans, prefix_both, prefix_under}
use Rattle.theory.proofs.Lists.{in_append_right, in_append_cases, in_mid, ascend_before, ascend_after, ascend_right}
use Rattle.theory.proofs.Letters.{marks_left, marks-append, marks-repeated, marks-replicate, marks_cons}
use Rattle.theory.proofs.Listed.{ring_words_lem, ring_ascend}
use Rattle.theory.proofs.Lyndon.{Lyndon, lyndon_out, necklace_pre, fill_top}
use Rattle.theory.proofs.Powers.{repeated_snoc}
use Rattle.theory.proofs.Necklaces.{power_necklace}
use Rattle.theory.proofs.Rotations.{Fits, power_is, power_length, power_self, powers_lt, powers_lt_out, ring_fits}
use Rattle.theory.proofs.Tops.{top, under, top_of, replicate_mid, replicate_split, Low, low, lyndon_low, low_below, Last, is_z, not_above, last_or, last_lyndon}
use Rattle.theory.proofs.Divisors.{divides_le}

-- between two words that begin with p every word begins with p
pub squeeze : (p s t v : List ℕ) → length p ≤ length v → Le (p ++ s) v → Le v (p ++ t) → Prefix p v
squeeze p s t v l a b = elim (cmp3 p v l) [
  | cut_below c ↦ absurd (le_not_lt b (cut_lt (subst (λ r. Cut (p ++ t) r) (append-nil v) (cut_append t [] c))))
  | cut_above c ↦ absurd (le_not_lt a (cut_lt (subst (λ r. Cut r (p ++ s)) (append-nil v) (cut_append [] s c))))
  | begins q ↦ q
]

-- a ring: letters 0 to z, two at least; windows of n letters; the allowed lengths
pub record Setting : Type 0 where
  pub z : ℕ
  pub n : ℕ
  pub ok : ℕ → Bool
  pub letters : 0 < z
  pub some : 0 < n
  pub allowed : Allowed n ok

module _ (R : Setting) where
  open R use {z, n, ok, letters, some, allowed}

  abbrev pub Words : List (List ℕ)
  Words = ring_words ok (suc z) n

  -- what a word of the ring is
  pub record Member (u : List ℕ) : Type 0 where
    pub fit : Fits n u
    pub over_z : marks_ok (suc z) u ≡ true
    pub allow : ok (length u) ≡ true

  pub member : {u : List ℕ} → In u Words → Member u
  member {u} i =
      let r = (ring_words_lem ok (suc z) n u).0 i in
      record { fit = ring_fits ok (suc z) n some allowed i; over_z = r.1; allow = r.3 }

  pub in_ring : {u : List ℕ} → Lyndon u → marks_ok (suc z) u ≡ true → ok (length u) ≡ true → In u Words
  in_ring {u} h k a = (ring_words_lem ok (suc z) n u).1 (divides_le (length u) n some (allowed.divisor (length u) a), k, lyndon_out h, a)

  pub whole_in_ring : {u : List ℕ} → Lyndon u → marks_ok (suc z) u ≡ true → length u ≡ n → In u Words
  whole_in_ring {u} h k e = in_ring h k (ap ok e ∙ allowed.whole)

  pub power_marks : {u : List ℕ} → Member u → marks_ok (suc z) (power_to n u) ≡ true
  power_marks {u} m = rw (power_is m.fit) (marks-repeated (suc z) (suc m.fit.times) u m.over_z)

  pub power_pre : {u : List ℕ} → Member u → Prenecklace (power_to n u)
  power_pre {u} m = subst Prenecklace (sym (power_is m.fit)) (necklace_pre (power_necklace (suc m.fit.times) m.fit.lyndon))

  pub powers_le : {u v : List ℕ} → Member u → Member v → Le u v → Le (power_to n u) (power_to n v)
  powers_le {u} {v} a b l = elim (le_cases l) [ inl p ↦ lt_le (powers_lt a.fit b.fit p) | inr p ↦ eq_le (ap (power_to n) p) ]

  -- a word begins its power, and ends it
  pub data AroundPower (u : List ℕ) : Type 0 where
    around_power : (s : List ℕ) → power_to n u ≡ u ++ s → power_to n u ≡ s ++ u → AroundPower u

  pub power_parts : {u : List ℕ} → Member u → AroundPower u
  power_parts {u} m = around_power (repeated m.fit.times u) (power_is m.fit) (power_is m.fit ∙ sym (repeated_snoc m.fit.times u))

  -- the neighbour behind: nothing of the ring lies between
  pub record Next (u v : List ℕ) : Type 0 where
    pub here_u : Member u
    pub here_v : Member v
    pub smaller : Lt u v
    pub nearest : (y : List ℕ) → In y Words → Lt u y → Le v y

  pub neighbours : (a : List (List ℕ)) {u v : List ℕ} (b : List (List ℕ)) → Words ≡ a ++ (u ∷ (v ∷ b)) → Next u v
  neighbours a {u} {v} b e = record { here_u = member (split_in_ring a (v ∷ b) e); here_v = member (subst (λ r. In v r) (sym e) (in_append_right a (there (here refl)))); smaller = after v (here refl); nearest = near }
    where
      up : Ascending (a ++ (u ∷ (v ∷ b)))
      up = subst Ascending e (ring_ascend ok (suc z) n)

      split_in_ring : (a b : List (List ℕ)) {u : List ℕ} → Words ≡ a ++ (u ∷ b) → In u Words
      split_in_ring a b {u} f = subst (λ r. In u r) (sym f) (in_mid a b)

      after : (y : List ℕ) → In y (v ∷ b) → Lt u y
      after = ascend_after a (v ∷ b) up

      behind_v : (y : List ℕ) → In y (v ∷ b) → Le v y
      behind_v y (here f) = eq_le (sym f)
      behind_v y (there i) = lt_le (ascend_after [] b (ascend_right (a ++ (u ∷ [])) (v ∷ b) (subst Ascending (sym (append_assoc a (u ∷ []) (v ∷ b))) up)) y i)

      near : (y : List ℕ) → In y Words → Lt u y → Le v y
      near y i l = elim (in_append_cases a (subst (λ r. In y r) e i)) [ inl j ↦ absurd (lt_asym l (ascend_before a (v ∷ b) up y j)) | inr j ↦ not_u j ]
        where
          not_u : In y (u ∷ (v ∷ b)) → Le v y
          not_u (here f) = absurd (lt_irrefl (subst (λ r. Lt u r) f l))
          not_u (there j) = behind_v y j

  -- what stands before the last smaller letter of N u, followed by letters z, is a word of the ring (Lemma 2 and Proposition 8)
  pub data Filled (p : List ℕ) (t : ℕ) : Type 0 where
    filled : In (p ++ replicate (suc t) z) Words → power_to n (p ++ replicate (suc t) z) ≡ p ++ replicate (suc t) z → Filled p t

  pub fill : {u : List ℕ} → Member u → (p : List ℕ) (a t : ℕ) → 0 < length p → power_to n u ≡ p ++ (a ∷ replicate t z) → a < z → Filled p t
  fill {u} m p a t h e l = filled inside (power_self (member inside).fit long)
    where
      long : length (p ++ replicate (suc t) z) ≡ n
      long = omega (arith, power_length m.fit, ap length e, length-append p (a ∷ replicate t z), length-append p (replicate (suc t) z), length-replicate t z)

      size : 0 + suc (length (replicate t z)) ≡ suc t
      size = omega (arith, length-replicate t z)

      lyndon_filled : Lyndon (p ++ replicate (suc t) z)
      lyndon_filled =
          subst (λ r. Lyndon (p ++ replicate r z)) size (fill_top p (replicate t z) a z 0 h l (subst Prenecklace e (power_pre m)))

      marks : marks_ok (suc z) (p ++ replicate (suc t) z) ≡ true
      marks =
          let k : marks_ok (suc z) (p ++ (a ∷ replicate t z)) ≡ true = rw e at (power_marks m) in
          marks-append (suc z) p (replicate (suc t) z) (marks_left (suc z) p (a ∷ replicate t z) k) (marks-replicate (suc z) (suc t) z (omega arith))

      inside : In (p ++ replicate (suc t) z) Words
      inside = whole_in_ring lyndon_filled marks long

  fill_above : {u : List ℕ} (m : Member u) (p : List ℕ) (a t : ℕ) → power_to n u ≡ p ++ (a ∷ replicate t z) → a < z
      → In (p ++ replicate (suc t) z) Words → power_to n (p ++ replicate (suc t) z) ≡ p ++ replicate (suc t) z → Lt u (p ++ replicate (suc t) z)
  fill_above {u} m p a t e l i f =
      powers_lt_out m.fit (member i).fit (subst₂ Lt (sym e) (sym f) (cut_lt (cut_at_letter p (replicate t z) (replicate t z) l)))

  -- the neighbour's power begins with all that stands before the last smaller letter
  pub seam : {u v : List ℕ} → Next u v → (p : List ℕ) (a t : ℕ) → power_to n u ≡ p ++ (a ∷ replicate t z) → a < z → Prefix p (power_to n v)
  seam {u} {v} x [] a t e l = prefix (power_to n v) refl
  seam {u} {v} x (c ∷ p) a t e l = elim (fill x.here_u (c ∷ p) a t (omega arith) e l) [ filled i f ↦ between i f ]
    where
      between : In ((c ∷ p) ++ replicate (suc t) z) Words → power_to n ((c ∷ p) ++ replicate (suc t) z) ≡ (c ∷ p) ++ replicate (suc t) z → Prefix (c ∷ p) (power_to n v)
      between i f =
          squeeze (c ∷ p) (a ∷ replicate t z) (replicate (suc t) z) (power_to n v)
          (omega (arith, power_length x.here_u.fit, power_length x.here_v.fit, ap length e, length-append (c ∷ p) (a ∷ replicate t z)))
          (subst (λ r. Le r (power_to n v)) e (lt_le (powers_lt x.here_u.fit x.here_v.fit x.smaller)))
          (subst (λ r. Le (power_to n v) r) f (powers_le x.here_v (member i) (x.nearest ((c ∷ p) ++ replicate (suc t) z) i (fill_above x.here_u (c ∷ p) a t e l i f))))

  -- N u has a letter below z, in its last copy of u
  pub data Tail (u : List ℕ) : Type 0 where
    tail : (p s : List ℕ) (a t : ℕ) → power_to n u ≡ p ++ (a ∷ replicate t z) → u ≡ s ++ (a ∷ replicate t z) → a < z → Tail u

  pub tail_at : {u : List ℕ} → Member u → u ≢ z ∷ [] → (p : List ℕ) (a t : ℕ) → power_to n u ≡ p ++ (a ∷ replicate t z)
      → (s : List ℕ) × (u ≡ s ++ (a ∷ replicate t z))
  tail_at {u} m d p a t e = elim (power_parts m) [ around_power q f g ↦ at q g (lyndon_low z u m.fit.lyndon m.over_z d) ]
    where
      at : (q : List ℕ) → power_to n u ≡ q ++ u → Low z u → (s : List ℕ) × (u ≡ s ++ (a ∷ replicate t z))
      at q g (low c v h l) = elim (levi q u p (a ∷ replicate t z) (sym g ∙ e)) [
        | longer r i j ↦ too_far r j
        | shorter r i j ↦ (r, j)
      ]
        where
          too_far : (r : List ℕ) → a ∷ replicate t z ≡ r ++ u → (s : List ℕ) × (u ≡ s ++ (a ∷ replicate t z))
          too_far [] j = ([], sym j)
          too_far (b ∷ r) j = absurd (omega (arith, replicate_mid t z r v (tail-eq_of_cons-eq j ∙ ap (λ x. r ++ x) h)))

  pub tail_of : {u : List ℕ} → Member u → u ≢ z ∷ [] → Tail u
  tail_of {u} m d = elim (top_of z (power_to n u) (power_marks m)) [ top e ↦ absurd (all_top e (lyndon_low z u m.fit.lyndon m.over_z d) (power_parts m)) | under p a t e l ↦ ends p a t e l (tail_at m d p a t e) ]
    where
      ends : (p : List ℕ) (a t : ℕ) → power_to n u ≡ p ++ (a ∷ replicate t z) → a < z → (s : List ℕ) × (u ≡ s ++ (a ∷ replicate t z)) → Tail u
      ends p a t e l (s, f) = tail p s a t e f l

      all_top : power_to n u ≡ replicate (length (power_to n u)) z → Low z u → AroundPower u → ⊥
      all_top e (low c v h l) (around_power s f g) =
          omega (arith, replicate_mid (length (power_to n u)) z [] (v ++ s) (sym e ∙ f ∙ ap (λ r. r ++ s) h))

  -- the largest word of the ring but z
  abbrev pub largest : List ℕ
  largest = (z - 1) ∷ replicate (n - 1) z

  pub largest_in : In largest Words
  largest_in =
      whole_in_ring (last_lyndon z (n - 1) letters) (marks_cons (suc z) (z - 1) (replicate (n - 1) z) (omega arith) (marks-replicate (suc z) (n - 1) z (omega arith)))
      (omega (arith, length-replicate (n - 1) z))

  pub largest_length : length largest ≡ n
  largest_length = omega (arith, length-replicate (n - 1) z)

  member_last : {y : List ℕ} → Member y → Last z (n - 1) y
  member_last {y} m = last_or z (n - 1) y letters m.fit.lyndon m.over_z (omega (arith, m.fit.whole, suc-mul m.fit.times (length y)))

  pub above_largest : {y : List ℕ} → Member y → Lt largest y → y ≡ z ∷ []
  above_largest {y} m l = elim (member_last m) [ is_z e ↦ e | not_above q ↦ absurd (le_not_lt q l) ]

  -- a word behind which at most z stands is the largest
  pub before_top : {u : List ℕ} → Member u → u ≢ z ∷ [] → ((y : List ℕ) → In y Words → Lt u y → y ≡ z ∷ []) → u ≡ largest
  before_top {u} m d h = elim (tri u largest) [
    | is_lt l ↦ absurd (low_z (h largest largest_in l))
    | is_eq e ↦ e
    | is_gt l ↦ absurd (d (above_largest m l))
  ]
    where
      low_z : largest ≡ z ∷ [] → ⊥
      low_z e = omega (arith, head-eq_of_cons-eq e)

  pub last_no_more : (a : List (List ℕ)) {u : List ℕ} → Words ≡ a ++ (u ∷ []) → (y : List ℕ) → In y Words → ¬ Lt u y
  last_no_more a {u} e y i l = elim (in_append_cases a (subst (λ r. In y r) e i)) [
    | inl j ↦ lt_asym l (ascend_before a [] (subst Ascending e (ring_ascend ok (suc z) n)) y j)
    | inr j ↦ only j
  ]
    where
      only : In y (u ∷ []) → ⊥
      only (here f) = lt_irrefl (subst (λ r. Lt u r) f l)
      only (there j) = elim j [ ]

  pub only_top : {u v : List ℕ} → Next u v → v ≡ z ∷ [] → (y : List ℕ) → In y Words → Lt u y → y ≡ z ∷ []
  only_top {u} {v} x f y i l = elim (List-discrete ℕ_discrete y (z ∷ [])) [
    | yes g ↦ g
    | no g ↦ absurd (le_not_lt (x.nearest y i l) (subst (λ r. Lt y r) (sym f) (low_below (lyndon_low z y (member i).fit.lyndon (member i).over_z g))))
  ]

  -- from any word but z on, the ring begins with the word's power
  pub reads : (a : List (List ℕ)) (u : List ℕ) (b : List (List ℕ)) → Words ≡ a ++ (u ∷ b) → u ≢ z ∷ [] → Prefix (power_to n u) (joined (u ∷ b))
  reads a u [] e d = whole_word (before_top m d (λ y i l. absurd (last_no_more a e y i l)))
    where
      m : Member u
      m = member (subst (λ r. In u r) (sym e) (in_mid a []))

      whole_word : u ≡ largest → Prefix (power_to n u) (u ++ [])
      whole_word f = prefix [] (append-nil u ∙ sym (append-nil (power_to n u) ∙ power_self m.fit (ap length f ∙ largest_length)))
  reads a u (v ∷ b) e d = elim (List-discrete ℕ_discrete v (z ∷ [])) [ yes f ↦ whole_word (before_top x.here_u d (only_top x f)) | no f ↦ across (tail_of x.here_u d) (power_parts x.here_u) (reads (a ++ (u ∷ [])) v b (e ∙ sym (append_assoc a (u ∷ []) (v ∷ b))) f) ]
    where
      x : Next u v
      x = neighbours a b e

      whole_word : u ≡ largest → Prefix (power_to n u) (u ++ joined (v ∷ b))
      whole_word f = prefix (joined (v ∷ b)) (ap (λ r. r ++ joined (v ∷ b)) (sym (power_self x.here_u.fit (ap length f ∙ largest_length))))

      across : Tail u → AroundPower u → Prefix (power_to n v) (joined (v ∷ b)) → Prefix (power_to n u) (u ++ joined (v ∷ b))
      across (tail p s c t i j l) (around_power q f g) r =
          let long : length q ≤ length p = omega (arith, ap length i, ap length j, ap length f, length-append p (c ∷ replicate t z), length-append s (c ∷ replicate t z), length-append u q) in
          let one : Prefix q p = prefix_both (prefix u g) (prefix (c ∷ replicate t z) i) long in
          let two : Prefix q (joined (v ∷ b)) = prefix_trans one (prefix_trans (seam x p c t i l) r) in
          subst (λ y. Prefix y (u ++ joined (v ∷ b))) (sym f) (prefix_under u two)

  -- a word in front of one whose power begins with γ, its own not, ends in letters z
  pub ends_top : {u v : List ℕ} → Next u v → u ≢ z ∷ [] → (g : List ℕ) (r : ℕ) → length g + r ≡ n → Prefix g (power_to n v) → ¬ Prefix g (power_to n u)
      → (s : List ℕ) × (u ≡ s ++ replicate r z)
  ends_top {u} {v} x d g r h i j = elim (tail_of x.here_u d) [ tail p s a t e f l ↦ ends p s a t e f l ]
    where
      ends : (p s : List ℕ) (a t : ℕ) → power_to n u ≡ p ++ (a ∷ replicate t z) → u ≡ s ++ (a ∷ replicate t z) → a < z → (s : List ℕ) × (u ≡ s ++ replicate r z)
      ends p s a t e f l = elim (split (length g) (length p)) [
        | upto k ↦ absurd (j (prefix_trans (prefix_both i (seam x p a t e l) k) (prefix (a ∷ replicate t z) e)))
        | over k ↦ enough (omega (arith, ap length e, length-append p (a ∷ replicate t z), length-replicate t z, power_length x.here_u.fit))
      ]
        where
          enough : r ≤ t → (s : List ℕ) × (u ≡ s ++ replicate r z)
          enough k = (s ++ (a ∷ replicate (t - r) z), f ∙ ap (λ y. s ++ (a ∷ y)) (replicate_split t r z k) ∙ sym (append_assoc s (a ∷ replicate (t - r) z) (replicate r z)))

-- The place of a window on the short ring, by ranks (document 004, Theorem 23, where one length is allowed). w = α γ with γ α its smallest rotation, a
-- word of the ring. α empty: w is read at its own front. α not all k−1: α ends where γ α ends. α all k−1: where the words up to γ 0 .. 0 end, which is
-- at the ring's end where there are none.
use mathlib.Core.Path.{◌≡◌, refl, sym, ◌∙◌, ap, ap₂, subst}
use mathlib.Core.Bool.{true}
use mathlib.Core.List.{List, [], ◌∷◌, ◌++◌, append-nil, List-discrete}
use mathlib.Core.Logic.{◌⊎◌, inl, inr, ◌≢◌}
use Prim.Native.Nat.{ℕ, zero, suc, ◌+◌, ◌-◌, ◌*◌, ◌≤◌, ◌<◌}
use native.Mathlib.Omega.{arith}
use native.Mathlib.Nat.{mul-suc, mul-zero}
use native.Mathlib.Decide.{ℕ_discrete}
use lib.Dec.{eqb}
use lib.ListN.{length, take, drop, replicate, length-append, length-replicate, length-drop, replicate-append-replicate}
use lib.Seq.{take_all}
use borrow.Author.Tests.{eq-eqb, ne_eqb}
use Rattle.theory.specs.Words.{pick, below, turned, smallest, root, marks_ok, is_lyndon, how_many, rank, word_of, power_to}
use Rattle.theory.specs.Lists.{In, Ascending}
use Rattle.theory.specs.Rings.{joined, before_w, letters_on, window_on, modulo}
use Rattle.theory.specs.Shorts.{whole, short_words, short_ring, short_size, short_place_of}
use Rattle.theory.proofs.Order.{Lt, Le, Prefix, prefix_take, take_prefix, below_lt, lt_le, le_append, le_cases, le_trans, le_not_lt, not_lt, cut_lt, cut_at_letter}
use Rattle.theory.proofs.Lists.{found, in_split, joined-append}
use Rattle.theory.proofs.Lyndon.{lyndon_in}
use Rattle.theory.proofs.Powers.{is_root_lem, root_least}
use Rattle.theory.proofs.Listed.{ring_ascend}
use Rattle.theory.proofs.Ranks.{index_word, of_index, rank_range}
use Rattle.theory.proofs.Tops.{repeated_letter}
use Rattle.theory.proofs.Rotations.{power_self, ring_fits, ring_base, ring_base_of}
use Rattle.theory.proofs.Joined.{before_is}
use Rattle.theory.proofs.Reading.{letters_inside, round_once}
use Rattle.theory.proofs.Seams.{squeeze}
use Rattle.theory.proofs.Levels.{rank_mono, rank_strict}
use Rattle.theory.proofs.Ends.{short_ends}
use Rattle.theory.proofs.Floors.{zeros_le, zeros_least}
use Rattle.theory.proofs.Shorts.{whole_allowed, short_words_lem, short_long, of_ring, place_is, front, short_ring_lem}

-- the last letter for 0 makes a word larger
zeros_lt : (γ : List ℕ) (r a : ℕ) → 0 < r → 0 < a → Lt (γ ++ replicate r 0) (γ ++ replicate r a)
zeros_lt γ zero a h l = absurd (omega arith)
zeros_lt γ (suc r) a h l = cut_lt (cut_at_letter γ (replicate r 0) (replicate r a) l)

-- a Lyndon word does not end in 0
not_lyndon : (γ : List ℕ) (r : ℕ) → 0 < length γ → 0 < r → is_lyndon (γ ++ replicate r 0) ≢ true
not_lyndon γ r h l t = le_not_lt (le_trans shorter (zeros_le (γ ++ replicate r 0))) (cut_lt ((lyndon_in (γ ++ replicate r 0) t).least γ (replicate r 0) refl h (omega (arith, length-replicate {A = ℕ} r 0))))
  where
    shorter : Le (replicate r 0) (replicate (length (γ ++ replicate r 0)) 0)
    shorter =
        let e : r + length γ ≡ length (γ ++ replicate r 0) = omega (arith, length-append γ (replicate r 0), length-replicate {A = ℕ} r 0) in
        subst (λ x. Le (replicate r 0) x) (replicate-append-replicate r (length γ) 0 ∙ ap (λ x. replicate x 0) e) (le_append (replicate r 0) (replicate (length γ) 0))

-- where the words up to v end; before the first of all, at the ring's end
abbrev end_of : ℕ → ℕ → List ℕ → ℕ
end_of k n v = pick (eqb (rank k v) 0) (short_size k n) (n * rank k v)

pick_some : (n c size : ℕ) → 1 ≤ c → n * c ≡ pick (eqb c 0) size (n * c)
pick_some n c size h = rw (ne_eqb c 0 (λ e. omega arith))

-- r letters that end where c words end: they begin in the ring, so they go over its end just where c is 0
rounds : (n p r c size : ℕ) → 0 < r → r < n → p < size → (p + r ≡ n * c) ⊎ (p + r ≡ n * c + size) → p + r ≡ pick (eqb c 0) size (n * c)
rounds n p r zero size h l q (inl e) = absurd (omega (arith, mul-zero n))
rounds n p r zero size h l q (inr e) = omega (arith, mul-zero n)
rounds n p r (suc c) size h l q (inl e) = e ∙ pick_some n (suc c) size (omega arith)
rounds n p r (suc c) size h l q (inr e) = absurd (omega (arith, mul-suc n c))

module _ (k n : ℕ) (two : 2 ≤ k) (one : 1 ≤ n) where
  abbrev Words : List (List ℕ)
  Words = short_words k n

  long_of : {u : List ℕ} → In u Words → length u ≡ n
  long_of {u} i = ((short_words_lem k n u).0 i).0

  power_of_lem : {u : List ℕ} → In u Words → power_to n u ≡ u
  power_of_lem i = power_self (ring_fits (whole n) k n one (whole_allowed n one) i) (long_of i)

  -- up to a word of the ring there is one at least
  ended : {u : List ℕ} → In u Words → n * rank k u ≡ end_of k n u
  ended {u} i = let (e, m, l) = (short_words_lem k n u).0 i in pick_some n (rank k u) (short_size k n) (rank_range k u m l).0

  -- a word of the ring has a larger rank than what is below it
  ranked : {u v : List ℕ} → length u ≡ n → In v Words → Lt u v → rank k u < rank k v
  ranked {u} {v} e i l = let (f, m, t) = (short_words_lem k n v).0 i in rank_strict k (e ∙ sym f) m t l

  -- a word of the ring is read at its own front
  own_place : (u : List ℕ) → In u Words → short_place_of k n u + n ≡ n * rank k u
  own_place u i = elim (in_split i) [ found a b e ↦ at a b e ]
    where
      at : (a b : List (List ℕ)) → Words ≡ a ++ (u ∷ b) → short_place_of k n u + n ≡ n * rank k u
      at a b e =
          let s = short_ring k n in
          let p = length (joined a) in
          let shape : s ≡ joined a ++ (u ++ joined b) = ap joined e ∙ joined-append a (u ∷ b) in
          let inside : p < length s = omega (arith, ap length shape, length-append (joined a) (u ++ joined b), length-append u (joined b), long_of i) in
          let reads : window_on (whole n) k n p ≡ u = ap (letters_on (length s) s p) (sym (long_of i)) ∙ letters_inside s (joined a) u (joined b) shape in
          omega (
            arith,
            sym (place_is k n two one u) ∙ (of_ring k n two one).only p u inside reads,
            ap (before_w u) e ∙ before_is a u b (subst Ascending e (ring_ascend (whole n) k n)),
            front k n two one u i,
          )

  module _ (w : List ℕ) (r : ℕ) (long : length w ≡ n) (marks : marks_ok k w ≡ true) (primitive : root w ≡ n) (turn : turned r w ≡ smallest w) (short : r < n) where
    -- the smallest rotation is a word of the ring
    least_in : In (smallest w) Words
    least_in = elim (ring_base_of (whole n) k n one (whole_allowed n one) w long marks (eq-eqb (root w) n primitive)) [ ring_base u i e g ↦ subst (λ x. In x Words) (sym (e ∙ power_of_lem i)) i ]

    -- α not all k−1
    end_place : take r w ≢ replicate r (k - 1) → short_place_of k n w + r ≡ end_of k n (smallest w)
    end_place d =
        let u : take (root w) (smallest w) ≡ smallest w = take_all (root w) (smallest w) (omega (arith, long_of least_in)) in
        ap (λ x. x + r) (sym (place_is k n two one w))
        ∙ (of_ring k n two one).at_end w r long marks (eq-eqb (root w) n primitive) turn (omega arith) d
        ∙ ap (λ x. before_w x Words + length x) u ∙ short_ends k n (smallest w) one least_in ∙ ended least_in

    -- α all k−1
    module _ (some : 0 < r) (top : take r w ≡ replicate r (k - 1)) where
      abbrev γ : List ℕ
      γ = drop r w

      abbrev g : List ℕ
      g = γ ++ replicate r 0

      least : smallest w ≡ γ ++ replicate r (k - 1)
      least = sym turn ∙ ap (λ x. γ ++ x) top

      long-γ : length γ ≡ n - r
      long-γ = length-drop r w ∙ ap (λ x. x - r) long

      long-g : length g ≡ n
      long-g = omega (arith, length-append γ (replicate r 0), length-replicate {A = ℕ} r 0, long-γ)

      -- a word of the ring that begins with γ is above g
      above : {u : List ℕ} → In u Words → Prefix γ u → Lt g u
      above {u} i q = elim (le_cases (zeros_least γ r (omega (arith, long_of i, long-γ)) q)) [
        | inl l ↦ l
        | inr e ↦ absurd (not_lyndon γ r (omega (arith, long-γ)) some (ap is_lyndon e ∙ ((short_words_lem k n u).0 i).2))
      ]

      -- a power of one letter has the root 1
      not_top : w ≢ replicate n (k - 1)
      not_top e = omega (arith, root_least (omega arith) (is_root_lem n ((k - 1) ∷ []) (e ∙ sym (repeated_letter n (k - 1))) refl (omega arith)))

      -- g is below the smallest rotation, so there is a word of the next rank
      least_rank : rank k g < rank k (smallest w)
      least_rank = ranked long-g least_in (subst (λ x. Lt g x) (sym least) (zeros_lt γ r (k - 1) some (omega arith)))

      few : suc (rank k g) ≤ how_many k n
      few =
          let (e, m, l) = (short_words_lem k n (smallest w)).0 least_in in
          let most : rank k (smallest w) ≤ how_many k n = subst (λ x. rank k (smallest w) ≤ how_many k x) e (rank_range k (smallest w) m l).1 in
          omega (arith, least_rank)

      -- it lies between g and the smallest rotation, so it begins with γ; and it is the first that does
      abbrev m : List ℕ
      m = word_of k n (suc (rank k g))

      m_in : In m Words
      m_in = (short_words_lem k n m).1 (index_word k n (suc (rank k g)) (omega arith) few)

      m-rank : rank k m ≡ suc (rank k g)
      m-rank = of_index k n (suc (rank k g)) (omega arith) few

      begins : Prefix γ m
      begins =
          squeeze γ (replicate r 0) (replicate r (k - 1)) m (omega (arith, long_of m_in, long-γ))
          (not_lt (λ l. omega (arith, rank_mono k (long_of m_in ∙ sym long-g) (lt_le l), m-rank)))
          (subst (λ x. Le m x) least (not_lt (λ l. omega (arith, ranked (long_of least_in) m_in l, m-rank, least_rank))))

      first : (v : List ℕ) → In v Words → below v m ≡ true → take (n - r) (power_to n v) ≢ γ
      first v i t q =
          let begin : Prefix γ v = take_prefix γ v (ap₂ take long-γ (sym (power_of_lem i)) ∙ q) in
          omega (arith, ranked long-g i (above i begin), ranked (long_of i) m_in (below_lt v m t), m-rank)

      start_place : short_place_of k n w + r ≡ end_of k n g
      start_place =
          let inside : short_place_of k n w < short_size k n = ((short_ring_lem k n two one).found w long marks primitive).0 in
          let starts : take (n - r) (power_to n m) ≡ γ = ap₂ take (sym long-γ) (power_of_lem m_in) ∙ prefix_take begins in
          let at : before_w m Words ≡ n * rank k g = omega (arith, front k n two one m m_in, ap (λ x. n * x) m-rank, mul-suc n (rank k g)) in
          let ends : modulo (short_place_of k n w + r) (short_size k n) ≡ n * rank k g =
          sym (ap₂ (λ x y. modulo (x + r) y) (place_is k n two one w) (short_long k n))
          ∙ (of_ring k n two one).at_start w m r long marks (eq-eqb (root w) n primitive) turn (omega arith) top not_top m_in starts first ∙ at in
          rounds n (short_place_of k n w) r (rank k g) (short_size k n) some short inside
          (round_once (short_place_of k n w) r (short_size k n) (n * rank k g) inside (omega (arith, (short_ring_lem k n two one).least)) ends)

-- the three cases; v is the smallest rotation, or γ 0 .. 0
pub short_place : (k n : ℕ) (w : List ℕ) (r : ℕ) (v : List ℕ) → 2 ≤ k → 1 ≤ n → length w ≡ n → marks_ok k w ≡ true → root w ≡ n
    → turned r w ≡ smallest w → r < n
    → (take r w ≢ replicate r (k - 1) → v ≡ smallest w)
    → (take r w ≡ replicate r (k - 1) → v ≡ drop r w ++ replicate r 0)
    → short_place_of k n w + pick (eqb r 0) n r ≡ pick (eqb (rank k v) 0) (short_size k n) (n * rank k v)
short_place k n w zero v two one long marks primitive turn short f g =
    let own : smallest w ≡ w = sym turn ∙ append-nil w in
    let i : In w (short_words k n) = subst (λ x. In x (short_words k n)) own (least_in k n two one w 0 long marks primitive turn short) in
    own_place k n two one w i ∙ ended k n two one i ∙ ap (end_of k n) (sym (g refl ∙ append-nil w))
short_place k n w (suc j) v two one long marks primitive turn short f g =
    ap (λ b. short_place_of k n w + pick b n (suc j)) (ne_eqb (suc j) 0 (λ e. omega arith))
    ∙ elim (List-discrete ℕ_discrete (take (suc j) w) (replicate (suc j) (k - 1))) [
      | yes q ↦ start_place k n two one w (suc j) long marks primitive turn short (omega arith) q ∙ ap (end_of k n) (sym (g q))
      | no q ↦ end_place k n two one w (suc j) long marks primitive turn short q ∙ ap (end_of k n) (sym (f q))
    ]

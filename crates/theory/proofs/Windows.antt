-- Where each window of a ring is read (document 004, Theorem 23): w = α γ with γ α its smallest rotation; α not all z, α all z, or
-- w all z.
use mathlib.Core.Path.{◌≡◌, refl, sym, ◌∙◌, ap, ap₂, subst, subst₂}
use mathlib.Core.Bool.{Bool, true, false, false≢true}
use mathlib.Core.List.{List, [], ◌∷◌, ◌++◌, append_assoc, append-nil, tail-eq_of_cons-eq, List-discrete}
use mathlib.Core.Logic.{◌⊎◌, inl, inr, ◌≢◌}
use Prim.Native.Nat.{ℕ, suc, ◌+◌, ◌-◌, ◌≤◌, ◌<◌}
use native.Mathlib.Omega.{arith}
use native.Mathlib.Nat.{suc-mul}
use native.Mathlib.Decide.{ℕ_discrete}
use lib.ListN.{length, take, replicate, length-append, length-replicate, replicate-append-replicate}
use Rattle.theory.specs.Words.{same, smallest, repeated, root, marks_ok, power_to}
use Rattle.theory.specs.Lists.{In, here, there, Ascending}
use Rattle.theory.specs.Rings.{joined, ring, modulo, letters_on, before_w}
use Rattle.theory.proofs.Base.{upto, over, split, nil_of, levi, longer, shorter, unsnoc}
use Rattle.theory.proofs.Order.{Lt, now, Prefix, prefix, lt_irrefl, lt_asym, below_lt, same_eq, eq_same, prefix_trans, prefix_take, take_prefix}
use Rattle.theory.proofs.Lists.{joined-append, in_append_right, in_append_cases, in_mid, in_split, found, first, first_of_lem, ascend_around, ascend_right, around}
use Rattle.theory.proofs.Letters.{marks_right, marks_cons}
use Rattle.theory.proofs.Listed.{ring_ascend}
use Rattle.theory.proofs.Lyndon.{one_letter}
use Rattle.theory.proofs.Powers.{repeated_snoc, Rot, rot, Turn, turn, power_turn}
use Rattle.theory.proofs.Necklaces.{smallest_rot}
use Rattle.theory.proofs.Tops.{Top, top, under, top_of, replicate_mid, replicate_left, replicate_right, replicate_split, repeated_letter, Low, low, lyndon_low, low_below}
use Rattle.theory.proofs.Reading.{modulo_small, modulo_full, letters_inside, letters-over}
use Rattle.theory.proofs.Joined.{before_is}
use Rattle.theory.proofs.Rotations.{power_is, power_length, power_self, ring_base, ring_base_of}
use Rattle.theory.proofs.Seams.{Setting}
use Rattle.theory.proofs.Seams as seams

module _ (R : Setting) where
  open R use {z, n, ok, letters, some, allowed}

  abbrev Words : List (List ℕ)
  Words = seams.Words R

  abbrev largest : List ℕ
  largest = seams.largest R

  abbrev Ring : List ℕ
  Ring = ring ok (suc z) n

  abbrev Member : List ℕ → Type 0
  Member = seams.Member R

  member : {u : List ℕ} → In u Words → Member u
  member = seams.member R

  up : Ascending Words
  up = ring_ascend ok (suc z) n

  -- a position at which w is read
  pub record Spot (w : List ℕ) (p : ℕ) : Type 0 where
    pub inside : p < length Ring
    pub is_read : letters_on (length Ring) Ring p n ≡ w

  spot_at : (w a b : List ℕ) → length w ≡ n → Ring ≡ a ++ (w ++ b) → Spot w (length a)
  spot_at w a b h e = record {
    inside = omega (arith, ap length e, length-append a (w ++ b), length-append w b);
    is_read = ap (letters_on (length Ring) Ring (length a)) (sym h) ∙ letters_inside Ring a w b e;
  }

  -- the ring's end: letters z, n − 1 of them, n if z itself is a word of the ring
  data End : Type 0 where
    end : (s : List ℕ) (b : List (List ℕ)) → Ring ≡ s ++ (replicate (n - 1) z ++ joined b)
        → ((y : List ℕ) → In y Words → Lt largest y → In y b)
        → (b ≡ []) ⊎ (b ≡ (z ∷ []) ∷ []) → End

  end_of_lem : End
  end_of_lem = elim (ascend_around up (seams.largest_in R)) [ around a b e p q ↦ ends a b e p q ]
    where
      only_z : (b : List (List ℕ)) → Ascending b → ((y : List ℕ) → In y b → y ≡ z ∷ []) → (b ≡ []) ⊎ (b ≡ (z ∷ []) ∷ [])
      only_z [] s h = inl refl
      only_z (y ∷ []) s h = inr (ap (λ r. r ∷ []) (h y (here refl)))
      only_z (y ∷ (x ∷ b)) s h =
          absurd (lt_irrefl (subst₂ Lt (h y (here refl)) (h x (there (here refl))) (below_lt y x (s.0 x (here refl)))))

      ends : (a b : List (List ℕ)) → Words ≡ a ++ (largest ∷ b) → ((v : List ℕ) → In v a → Lt v largest)
          → ((v : List ℕ) → In v b → Lt largest v) → End
      ends a b e p q = end (joined a ++ ((z - 1) ∷ [])) b shape behind (only_z b (ascend_right [] b (ascend_tail)) all_z)
        where
          ascend_tail : Ascending b
          ascend_tail = ascend_right (a ++ (largest ∷ [])) b (subst Ascending (e ∙ sym (append_assoc a (largest ∷ []) b)) up)

          all_z : (y : List ℕ) → In y b → y ≡ z ∷ []
          all_z y i = seams.above_largest R (member (subst (λ r. In y r) (sym e) (in_append_right a (there i)))) (q y i)

          shape : Ring ≡ (joined a ++ ((z - 1) ∷ [])) ++ (replicate (n - 1) z ++ joined b)
          shape = ap joined e ∙ joined-append a (largest ∷ b) ∙ sym (append_assoc (joined a) ((z - 1) ∷ []) (replicate (n - 1) z ++ joined b))

          behind : (y : List ℕ) → In y Words → Lt largest y → In y b
          behind y i l = elim (in_append_cases a (subst (λ r. In y r) e i)) [ inl j ↦ absurd (lt_asym l (p y j)) | inr j ↦ second j ]
            where
              second : In y (largest ∷ b) → In y b
              second (here f) = absurd (lt_irrefl (subst (λ r. Lt largest r) f l))
              second (there j) = j

  tops_snoc : (m : ℕ) → replicate m z ++ (z ∷ []) ≡ replicate (suc m) z
  tops_snoc m = replicate-append-replicate m 1 z ∙ ap (λ r. replicate r z) (native.Mathlib.Numerals.add-one m)

  pub ends_with : (r : ℕ) → r < n → (s : List ℕ) × (Ring ≡ s ++ replicate r z)
  ends_with r h = elim end_of_lem [ end s b e f g ↦ go s b e g ]
    where
      shorten : (s : List ℕ) (m : ℕ) → Ring ≡ s ++ replicate m z → r ≤ m → (s : List ℕ) × (Ring ≡ s ++ replicate r z)
      shorten s m e l = (s ++ replicate (m - r) z, e ∙ ap (λ x. s ++ x) (replicate_split m r z l) ∙ sym (append_assoc s (replicate (m - r) z) (replicate r z)))

      go : (s : List ℕ) (b : List (List ℕ)) → Ring ≡ s ++ (replicate (n - 1) z ++ joined b) → (b ≡ []) ⊎ (b ≡ (z ∷ []) ∷ []) → (s : List ℕ) × (Ring ≡ s ++ replicate r z)
      go s b e (inl f) = shorten s (n - 1) (e ∙ ap (λ x. s ++ (replicate (n - 1) z ++ joined x)) f ∙ ap (λ x. s ++ x) (append-nil (replicate (n - 1) z))) (omega arith)
      go s b e (inr f) = shorten s (suc (n - 1)) (e ∙ ap (λ x. s ++ (replicate (n - 1) z ++ joined x)) f ∙ ap (λ x. s ++ x) (tops_snoc (n - 1))) (omega arith)

  -- w all z
  pub top_spot : ok 1 ≡ true → (p : ℕ) × Spot (replicate n z) p × (p + n ≡ length Ring)
  top_spot h = elim end_of_lem [ end s b e f g ↦ go s b e (f (z ∷ []) z_in (now (omega arith))) g ]
    where
      z_in : In (z ∷ []) Words
      z_in = seams.in_ring R (one_letter z) (marks_cons (suc z) z [] (omega arith) refl) h

      go : (s : List ℕ) (b : List (List ℕ)) → Ring ≡ s ++ (replicate (n - 1) z ++ joined b) → In (z ∷ []) b → (b ≡ []) ⊎ (b ≡ (z ∷ []) ∷ [])
          → (p : ℕ) × Spot (replicate n z) p × (p + n ≡ length Ring)
      go s b e i (inl f) = elim (subst (λ r. In (z ∷ []) r) f i) [ ]
      go s b e i (inr f) =
          let m : suc (n - 1) ≡ n = omega arith in
          let g : Ring ≡ s ++ replicate n z = e ∙ ap (λ x. s ++ (replicate (n - 1) z ++ joined x)) f ∙ ap (λ x. s ++ x) (tops_snoc (n - 1) ∙ ap (λ x. replicate x z) m) in (
            length s,
            spot_at (replicate n z) s [] (length-replicate n z) (g ∙ ap (λ x. s ++ x) (sym (append-nil (replicate n z)))),
            omega (arith, ap length g, length-append s (replicate n z), length-replicate n z),
          )

  -- the power γ α of u is not that of the largest word, if its last letter below z stands behind γ, which is not empty
  not_largest : {u : List ℕ} (m : Member u) (p : List ℕ) (c t : ℕ) → power_to n u ≡ p ++ (c ∷ replicate t z) → c < z → 0 < length p → u ≢ largest
  not_largest {u} m p c t x y q k =
      nonempty p q (sym k ∙ sym (power_self m.fit (ap length k ∙ seams.largest_length R)) ∙ x)
    where
      nonempty : (p : List ℕ) → 0 < length p → largest ≡ p ++ (c ∷ replicate t z) → ⊥
      nonempty [] q r = omega arith
      nonempty (x ∷ p) q r = omega (arith, replicate_mid (n - 1) z p (replicate t z) (tail-eq_of_cons-eq r))

  -- so a neighbour other than z follows, and γ is read from there
  reads_on : (a b : List (List ℕ)) (u γ : List ℕ) → Words ≡ a ++ (u ∷ b) → u ≢ z ∷ [] → (p : List ℕ) (c t : ℕ) → power_to n u ≡ p ++ (c ∷ replicate t z) → c < z
      → Prefix γ p → 0 < length p → Prefix γ (joined b)
  reads_on a [] u γ g d p c t x y q l =
      let m : Member u = member (subst (λ r. In u r) (sym g) (in_mid a [])) in
      absurd (not_largest m p c t x y l (seams.before_top R m d (λ y i l. absurd (seams.last_no_more R a g y i l))))
  reads_on a (v ∷ b) u γ g d p c t x y q l = elim (List-discrete ℕ_discrete v (z ∷ [])) [
    | yes j ↦ absurd (not_largest nb.here_u p c t x y l (seams.before_top R nb.here_u d (seams.only_top R nb j)))
    | no j ↦ prefix_trans (prefix_trans q (seams.seam R nb p c t x y)) (seams.reads R (a ++ (u ∷ [])) v b (g ∙ sym (append_assoc a (u ∷ []) (v ∷ b))) j)
  ]
    where
      nb : seams.Next R u v
      nb = seams.neighbours R a b g

  -- α not all z: across the end of the word whose power is γ α
  pub end_spot : (u w α γ : List ℕ) → In u Words → length w ≡ n → w ≡ α ++ γ → power_to n u ≡ γ ++ α → length α < length u → α ≢ replicate (length α) z
      → (p : ℕ) × Spot w p × (p + length α ≡ before_w u Words + length u)
  end_spot u w α γ i h e f l d = elim (in_split i) [ found a b g ↦ at a b g (top_of z α marks_α) (seams.power_parts R m) ]
    where
      m : Member u
      m = member i

      not_z : u ≢ z ∷ []
      not_z g = let k : α ≡ [] = nil_of α (omega (arith, ap length g)) in d (subst (λ r. r ≡ replicate (length r) z) (sym k) refl)

      marks_α : marks_ok (suc z) α ≡ true
      marks_α = marks_right (suc z) γ α (rw f at (seams.power_marks R m))

      γ_some : 0 < length γ
      γ_some =
          omega (arith, length-append γ α, ap length f, power_length m.fit, m.fit.whole, suc-mul m.fit.times (length u))

      ends_in : seams.AroundPower R u → (s : List ℕ) × (u ≡ s ++ α)
      ends_in (seams.around_power q j k) = elim (levi q u γ α (sym k ∙ f)) [ longer t x y ↦ absurd (omega (arith, ap length y, length-append t u)) | shorter t x y ↦ (t, y) ]

      at : (a b : List (List ℕ)) → Words ≡ a ++ (u ∷ b) → Top z α → seams.AroundPower R u → (p : ℕ) × Spot w p × (p + length α ≡ before_w u Words + length u)
      at a b g (top t) q = absurd (d t)
      at a b g (under α' c t x y) q =
          let k : power_to n u ≡ (γ ++ α') ++ (c ∷ replicate t z) = f ∙ ap (λ r. γ ++ r) x ∙ sym (append_assoc γ α' (c ∷ replicate t z)) in
          joins (reads_on a b u γ g not_z (γ ++ α') c t k y (prefix α' refl) (omega (arith, γ_some, length-append γ α'))) (ends_in q)
        where
          joins : Prefix γ (joined b) → (s : List ℕ) × (u ≡ s ++ α) → (p : ℕ) × Spot w p × (p + length α ≡ before_w u Words + length u)
          joins (prefix rest k) (s, o) = (
            length (joined a ++ s),
            spot_at w (joined a ++ s) rest h whole,
            omega (arith, length-append (joined a) s, ap length o, length-append s α, ap (before_w u) g ∙ before_is a u b (subst Ascending g up)),
          )
            where
              inner : (s ++ α) ++ (γ ++ rest) ≡ s ++ (w ++ rest)
              inner = append_assoc s α (γ ++ rest) ∙ ap (λ r. s ++ r) (sym (append_assoc α γ rest) ∙ ap (λ r. r ++ rest) (sym e))

              whole : Ring ≡ (joined a ++ s) ++ (w ++ rest)
              whole = ap joined g ∙ joined-append a (u ∷ b) ∙ ap₂ (λ p q. joined a ++ (p ++ q)) o k ∙ ap (λ r. joined a ++ r) inner ∙ sym (append_assoc (joined a) s (w ++ rest))

  -- α all z: before the first word whose power begins with γ
  pub start_spot : (w γ : List ℕ) (r : ℕ) (a : List (List ℕ)) (m : List ℕ) (b : List (List ℕ)) → length w ≡ n → w ≡ replicate r z ++ γ → 0 < length γ
      → w ≢ replicate n z → Words ≡ a ++ (m ∷ b) → Prefix γ (power_to n m) → ((v : List ℕ) → In v a → ¬ Prefix γ (power_to n v))
      → (p : ℕ) × Spot w p × (modulo (p + r) (length Ring) ≡ before_w m Words)
  start_spot w γ r a m b h e s d g q none = at (prefix_trans q (seams.reads R a m b g not_z))
    where
      sizes : r + length γ ≡ n
      sizes = omega (arith, ap length e, length-append (replicate r z) γ, length-replicate r z)

      mm : Member m
      mm = member (subst (λ x. In m x) (sym g) (in_mid a b))

      not_z : m ≢ z ∷ []
      not_z j = all_top q
        where
          power_z : power_to n m ≡ replicate n z
          power_z = ap (power_to n) j ∙ ap (λ x. repeated x (z ∷ [])) (native.Mathlib.Nat.div-one n) ∙ repeated_letter n z

          all_top : Prefix γ (power_to n m) → ⊥
          all_top (prefix t i) =
              d (e ∙ ap (λ x. replicate r z ++ x) (replicate_left n z γ t (sym power_z ∙ i)) ∙ replicate-append-replicate r (length γ) z ∙ ap (λ x. replicate x z) sizes)

      before : before_w m Words ≡ length (joined a)
      before = ap (before_w m) g ∙ before_is a m b (subst Ascending g up)

      ring_is : Ring ≡ joined a ++ joined (m ∷ b)
      ring_is = ap joined g ∙ joined-append a (m ∷ b)

      m_some : 0 < length (joined (m ∷ b))
      m_some = omega (arith, length-append m (joined b), mm.fit.lyndon.some)

      ring_length : length Ring ≡ length (joined a) + length (joined (m ∷ b))
      ring_length = ap length ring_is ∙ length-append (joined a) (joined (m ∷ b))

      -- letters z end what stands in front
      flat : (x y : List ℕ) → joined a ≡ x ++ replicate r z → joined (m ∷ b) ≡ γ ++ y → (p : ℕ) × Spot w p × (modulo (p + r) (length Ring) ≡ before_w m Words)
      flat x y i j =
          let k : length (joined a) ≡ length x + r = omega (arith, ap length i, length-append x (replicate r z), length-replicate r z) in (
            length x,
            spot_at w x y h whole,
            ap (λ o. modulo o (length Ring)) (sym k) ∙ modulo_small (length (joined a)) (length Ring) (omega (arith, ring_length, m_some)) ∙ sym before,
          )
        where
          whole : Ring ≡ x ++ (w ++ y)
          whole = ring_is ∙ ap₂ ◌++◌ i j ∙ append_assoc x (replicate r z) (γ ++ y) ∙ ap (λ o. x ++ o) (sym (append_assoc (replicate r z) γ y) ∙ ap (λ o. o ++ y) (sym e))

      -- round the end
      wrap : (y : List ℕ) → joined a ≡ [] → joined (m ∷ b) ≡ γ ++ y → 0 < r → (p : ℕ) × Spot w p × (modulo (p + r) (length Ring) ≡ before_w m Words)
      wrap y i j l = let (x, k) = ends_with r (omega (arith, sizes)) in over_end x k
        where
          over_end : (x : List ℕ) → Ring ≡ x ++ replicate r z → (p : ℕ) × Spot w p × (modulo (p + r) (length Ring) ≡ before_w m Words)
          over_end x k =
              let o : length x + r ≡ length Ring = omega (arith, ap length k, length-append x (replicate r z), length-replicate r z) in (
                length x,
                record { inside = omega arith; is_read = ap (letters_on (length Ring) Ring (length x)) (sym sizes ∙ ap (λ o. o + length γ) (sym (length-replicate r z))) ∙ letters-over Ring γ y x (replicate r z) (ring_is ∙ ap₂ ◌++◌ i j) k ∙ sym e },
                ap (λ o. modulo o (length Ring)) o ∙ modulo_full (length Ring) ∙ sym (before ∙ ap length i),
              )

      -- the word in front, whose power does not begin with γ
      in_front : (c : List (List ℕ)) (v y : List ℕ) → a ≡ c ++ (v ∷ []) → joined (m ∷ b) ≡ γ ++ y → (p : ℕ) × Spot w p × (modulo (p + r) (length Ring) ≡ before_w m Words)
      in_front c v y i j = let (x, k) = seams.ends_top R nb v_low γ r (omega (arith, sizes)) q (none v (subst (λ o. In v o) (sym i) (in_mid c []))) in
          flat (joined c ++ x) y (ap joined i ∙ joined-append c (v ∷ []) ∙ ap (λ o. joined c ++ o) (append-nil v ∙ k) ∙ sym (append_assoc (joined c) x (replicate r z))) j
        where
          nb : seams.Next R v m
          nb = seams.neighbours R c b (g ∙ ap (λ o. o ++ (m ∷ b)) i ∙ append_assoc c (v ∷ []) (m ∷ b))

          v_low : v ≢ z ∷ []
          v_low o = lt_asym (subst (λ x. Lt x m) o nb.smaller) (low_below (lyndon_low z m mm.fit.lyndon mm.over_z not_z))

      at : Prefix γ (joined (m ∷ b)) → (p : ℕ) × Spot w p × (modulo (p + r) (length Ring) ≡ before_w m Words)
      at (prefix y j) = elim (split r 0) [ upto l ↦ whole l | over l ↦ front a refl l ]
        where
          whole : r ≤ 0 → (p : ℕ) × Spot w p × (modulo (p + r) (length Ring) ≡ before_w m Words)
          whole l =
              let o : 0 ≡ r = omega arith in
              flat (joined a) y (sym (append-nil (joined a)) ∙ ap (λ x. joined a ++ replicate x z) o) j

          front : (c : List (List ℕ)) → a ≡ c → 0 < r → (p : ℕ) × Spot w p × (modulo (p + r) (length Ring) ≡ before_w m Words)
          front [] o l = wrap y (ap joined o) j l
          front (x ∷ c) o l = let (c', v, i) = unsnoc a (omega (arith, ap length o)) in in_front c' v y i j

  -- its turn: less than the word's length
  pub data WindowTurn (w u : List ℕ) : Type 0 where
    window_turn : (α γ : List ℕ) → w ≡ α ++ γ → power_to n u ≡ γ ++ α → length α < length u → WindowTurn w u

  pub window_turn_of : (w u : List ℕ) → In u Words → power_to n u ≡ smallest w → WindowTurn w u
  window_turn_of w u i e = at (smallest_rot w)
    where
      m : Member u
      m = member i

      at : Rot w (smallest w) → WindowTurn w u
      at (rot x y f g) = from (power_turn (suc (length y)) u y x m.fit.times (omega arith) m.fit.lyndon.some (sym (power_is m.fit) ∙ e ∙ g))
        where
          from : Turn u (x ++ y) m.fit.times → WindowTurn w u
          from (turn [] q j l o) = window_turn [] w refl (power_is m.fit ∙ ap (λ r. r ++ repeated m.fit.times u) j ∙ sym (ap (λ r. q ++ r) (append-nil (repeated m.fit.times u))) ∙ sym o ∙ sym f ∙ sym (append-nil w)) m.fit.lyndon.some
          from (turn (c ∷ p) q j l o) = window_turn q (repeated m.fit.times u ++ (c ∷ p)) (f ∙ o) (power_is m.fit ∙ sym (repeated_snoc m.fit.times u) ∙ ap (λ r. repeated m.fit.times u ++ r) j ∙ sym (append_assoc (repeated m.fit.times u) (c ∷ p) q)) (omega (arith, ap length j, length-append (c ∷ p) q))

  -- every window is read somewhere
  pub some_spot : (w : List ℕ) → length w ≡ n → marks_ok (suc z) w ≡ true → ok (root w) ≡ true → (p : ℕ) × Spot w p
  some_spot w h k a = elim (ring_base_of ok (suc z) n some allowed w h k a) [ ring_base u i e f ↦ elim (window_turn_of w u i (sym e)) [ window_turn α γ g j l ↦ by_case u i (sym e) f α γ g j l (List-discrete ℕ_discrete w (replicate n z)) (List-discrete ℕ_discrete α (replicate (length α) z)) ] ]
    where
      by_case : (u : List ℕ) → In u Words → power_to n u ≡ smallest w → root w ≡ length u → (α γ : List ℕ) → w ≡ α ++ γ → power_to n u ≡ γ ++ α → length α < length u
          → Dec (w ≡ replicate n z) → Dec (α ≡ replicate (length α) z) → (p : ℕ) × Spot w p
      by_case u i e f α γ g j l (yes t) c = elim (List-discrete ℕ_discrete u (z ∷ [])) [
        | yes q ↦ let r = top_spot (ap ok (sym (ap length q) ∙ sym f) ∙ a) in (r.0, subst (λ x. Spot x r.0) (sym t) r.1)
        | no q ↦ absurd (all_z (lyndon_low z u (member i).fit.lyndon (member i).over_z q) (seams.power_parts R (member i)))
      ]
        where
          power_z : power_to n u ≡ replicate (length γ + length α) z
          power_z =
              j ∙ ap₂ ◌++◌ (replicate_right n z α γ (sym t ∙ g)) (replicate_left n z α γ (sym t ∙ g)) ∙ replicate-append-replicate (length γ) (length α) z

          all_z : Low z u → seams.AroundPower R u → ⊥
          all_z (low b v q o) (seams.around_power s x y) =
              omega (arith, replicate_mid (length γ + length α) z [] (v ++ s) (sym power_z ∙ x ∙ ap (λ r. r ++ s) q))
      by_case u i e f α γ g j l (no t) (no c) = let r = end_spot u w α γ i h g j l c in (r.0, r.1)
      by_case u i e f α γ g j l (no t) (yes c) = elim (first_of_lem fits i (eq_same {u = take (length γ) (power_to n u)} {v = γ} (prefix_take (prefix α j)))) [ first b m d o x y ↦ at b m d o x y ]
        where
          fits : List ℕ → Bool
          fits v = same (take (length γ) (power_to n v)) γ

          γ_some : 0 < length γ
          γ_some = omega (arith, length-append γ α, ap length j, power_length (member i).fit, (member i).fit.whole, suc-mul (member i).fit.times (length u))

          at : (b : List (List ℕ)) (m : List ℕ) (d : List (List ℕ)) → Words ≡ b ++ (m ∷ d) → fits m ≡ true → ((y : List ℕ) → In y b → fits y ≡ false) → (p : ℕ) × Spot w p
          at b m d o x y =
              let r = start_spot w γ (length α) b m d h (g ∙ ap (λ q. q ++ γ) c) γ_some t o (take_prefix γ (power_to n m) (same_eq _ γ x)) (λ v q p. false≢true (sym (y v q) ∙ eq_same (prefix_take p))) in
              (r.0, r.1)

-- The place of a window by sizes of CS (document 004, Theorem 23, over Lemma 22). w = α γ with γ α its smallest rotation. α not all z: α
-- ends where the strip's word of γ α ends. α all z: where that of the largest necklace below γ 0 .. 0 ends. z .. z 0 .. 0: at the wrap.
use mathlib.Core.Path.{◌≡◌, refl, sym, ◌∙◌, ap, ap₂, subst}
use mathlib.Core.Bool.{true}
use mathlib.Core.List.{List, [], ◌∷◌, ◌++◌, append_assoc, append-nil}
use mathlib.Core.Logic.{◌⊎◌, inl, inr, ◌≢◌}
use Prim.Native.Nat.{ℕ, zero, suc, ◌+◌, ◌-◌, ◌^◌, ◌≤◌, ◌<◌}
use native.Mathlib.Omega.{arith}
use native.Mathlib.Nat.{div-one}
use lib.ListN.{length, take, drop, replicate, length-append, length-replicate, length-drop, take-append-drop}
use lib.Seq.{take-append_seam}
use Rattle.theory.specs.Words.{below, smallest, turned, repeated, root, is_lyndon, marks_ok, power_to}
use Rattle.theory.specs.Lists.{In, here, there, Ascending}
use Rattle.theory.specs.Rings.{divides, before_w, modulo, place_on}
use Rattle.theory.specs.Strips.{strip, strip_words, place_of, divisor_of}
use Rattle.theory.specs.Sums.{cs}
use Rattle.theory.specs.Floors.{necklace_below}
use Rattle.theory.proofs.Base.{upto, over, split}
use Rattle.theory.proofs.Order.{Lt, now, later, Le, Prefix, prefix, lt_below, below_lt, lt_le, le_cases, le_lt_trans, lt_le_trans, le_not_lt, not_lt, eq_le}
use Rattle.theory.proofs.Lists.{found, in_split, in_nil, in_append_left, in_append_right, in_append_cases, ascend_before}
use Rattle.theory.proofs.Letters.{marks_left, marks_right, marks-append, marks_cons, marks-replicate}
use Rattle.theory.proofs.Lyndon.{Lyndon, lyndon_out, one_letter}
use Rattle.theory.proofs.Powers.{repeated-length, root-divides, root_is, root-size, same-root}
use Rattle.theory.proofs.Necklaces.{base, base_of_lem, smallest_rot, smallest-length, smallest-marks, smallest_necklace}
use Rattle.theory.proofs.Listed.{strip_words_lem, ring_ascend}
use Rattle.theory.proofs.Tops.{one_less, no_higher, replicate_mid, replicate_left, replicate_split, repeated_letter, low, lyndon_low}
use Rattle.theory.proofs.Joined.{before_is, joined_both}
use Rattle.theory.proofs.Reading.{round_once}
use Rattle.theory.proofs.Rotations.{Fits, power_is, power_length, power_least, powers_lt, powers_lt_out}
use Rattle.theory.proofs.Seams.{Setting, squeeze}
use Rattle.theory.proofs.Seams as seams
use Rattle.theory.proofs.Windows as windows
use Rattle.theory.proofs.Places as places
use Rattle.theory.proofs.Rings.{rings, strip-long, place_is}
use Rattle.theory.proofs.Divisors.{divides-one, divisors_allowed, divides_some_lem}
use Rattle.theory.proofs.Floors.{Passes, last_passes, last_above, smallest_own, zeros_necklace, zeros_le, zeros_least}
use Rattle.theory.proofs.Ends.{strip_ends}
use Rattle.theory.proofs.Positions.{strip_setting}

-- the strip's word whose power a necklace is, and where it ends
pub record RootWord (k n : ℕ) (v : List ℕ) : Type 0 where
  pub inside : In (take (root v) v) (strip_words k n)
  pub divisor : divides (root v) n ≡ true
  pub lyndon : is_lyndon (take (root v) v) ≡ true
  pub long : length (take (root v) v) ≡ root v
  pub some : 1 ≤ root v
  pub power : power_to n (take (root v) v) ≡ v
  pub ends : before_w (take (root v) v) (strip_words k n) + root v ≡ cs k v

pub root-word : (k n : ℕ) (v : List ℕ) → 1 ≤ n → length v ≡ n → smallest v ≡ v → marks_ok k v ≡ true → RootWord k n v
root-word k n v s h e m = elim (base_of_lem v (omega arith)) [ base u t l f g ↦ at u t l (sym e ∙ f) g ]
  where
    at : (u : List ℕ) (t : ℕ) → Lyndon u → v ≡ repeated (suc t) u → root v ≡ length u → RootWord k n v
    at u t l f g = record {
      inside = subst (λ x. In x (strip_words k n)) (sym is_u) inside_u;
      divisor = divisor-v;
      lyndon = ap is_lyndon is_u ∙ lyndon_out l;
      long = ap length is_u ∙ sym g;
      some = divides_some_lem (root v) n divisor-v;
      power = ap (power_to n) is_u ∙ power_u;
      ends = ap₂ (λ x y. before_w x (strip_words k n) + y) is_u g ∙ strip_ends k n u s inside_u ∙ ap (cs k) power_u;
    }
      where
        is_u : take (root v) v ≡ u
        is_u = ap₂ take g f ∙ take-append_seam u (repeated t u)

        divisor-v : divides (root v) n ≡ true
        divisor-v = subst (λ x. divides (root v) x ≡ true) h (root-divides v (omega arith))

        fit : Fits n u
        fit = record { lyndon = l; times = t; whole = sym (repeated-length (suc t) u) ∙ ap length (sym f) ∙ h }

        power_u : power_to n u ≡ v
        power_u = power_is fit ∙ sym f

        inside_u : In u (strip_words k n)
        inside_u = (strip_words_lem k n u s).1 (subst (λ d. divides d n ≡ true) g divisor-v, marks_left k u (repeated t u) (rw f at m), lyndon_out l)

-- α not all z
pub end_place : (k n : ℕ) (w : List ℕ) (r : ℕ) → 2 ≤ k → 1 ≤ n → length w ≡ n → marks_ok k w ≡ true → turned r w ≡ smallest w → r < root w
    → take r w ≢ replicate r (k - 1) → place_of k n w + r ≡ cs k (smallest w)
end_place k n w r h s e m t l d =
    ap (λ x. x + r) (sym (place_is k n w h s))
    ∙ (rings (divisor_of n) k n h s (divisors_allowed n s)).at_end w r e m (subst (λ x. divides (root w) x ≡ true) e (root-divides w (omega arith))) t l d
    ∙ ap₂ (λ x y. before_w (take x (smallest w)) (strip_words k n) + y) same (ap (λ x. length (take x (smallest w))) same ∙ word.long) ∙ word.ends
  where
    word : RootWord k n (smallest w)
    word = root-word k n (smallest w) s (smallest-length w ∙ e) (smallest_own (smallest_necklace w)) (smallest-marks k w m)

    same : root w ≡ root (smallest w)
    same = same-root (smallest_rot w) (omega arith)

-- α all z, γ not all 0: g is γ 0 .. 0, and α ends where the word of the largest necklace below g ends
pub record StartPlace (k n : ℕ) (w : List ℕ) (r : ℕ) (g : List ℕ) : Type 0 where
  pub above_zeros : below (replicate n 0) g ≡ true
  pub long : length g ≡ n
  pub marks : marks_ok k g ≡ true
  pub below_necklace : smallest (necklace_below k g) ≡ necklace_below k g
  pub below_long : length (necklace_below k g) ≡ n
  pub below_marks : marks_ok k (necklace_below k g) ≡ true
  pub turn_inside : r < root (necklace_below k g)
  pub place : place_of k n w + r ≡ cs k (necklace_below k g)

-- belongs to Order
no_less : {x : List ℕ} → Lt x (0 ∷ []) → length x ≡ 0
no_less {x = []} l = refl
no_less {x = a ∷ []} (now l) = absurd (omega arith)
no_less {x = a ∷ []} (later l) = elim l [ ]
no_less {x = a ∷ (b ∷ x)} (now l) = absurd (omega arith)
no_less {x = a ∷ (b ∷ x)} (later l) = elim l [ ]

-- belongs to Rotations: the power of one letter
letter_power : (n a : ℕ) → power_to n (a ∷ []) ≡ replicate n a
letter_power n a = ap (λ x. repeated x (a ∷ [])) (div-one n) ∙ repeated_letter n a

-- windows that begin with letters z, over 0 to z
module _ (z n : ℕ) (h : 0 < z) (s : 0 < n) where
  abbrev R : Setting
  R = strip_setting z n h s

  abbrev Words : List (List ℕ)
  Words = strip_words (suc z) n

  size : length (strip (suc z) n) ≡ suc z ^ n
  size = strip-long (suc z) n (omega arith) s

  up : Ascending Words
  up = ring_ascend (divisor_of n) (suc z) n

  -- r letters before the position x, or round the end
  data Read (w : List ℕ) (r x : ℕ) : Type 0 where
    flat : place_of (suc z) n w + r ≡ x → Read w r x
    round : place_of (suc z) n w + r ≡ x + suc z ^ n → place_of (suc z) n w < suc z ^ n → Read w r x

  read_before : (w γ : List ℕ) (r : ℕ) (a : List (List ℕ)) (m : List ℕ) (b : List (List ℕ)) → length w ≡ n → w ≡ replicate r z ++ γ → 0 < length γ
      → w ≢ replicate n z → Words ≡ a ++ (m ∷ b) → Prefix γ (power_to n m) → ((v : List ℕ) → In v a → ¬ Prefix γ (power_to n v))
      → Read w r (before_w m Words)
  read_before w γ r a m b e f l d g q none = let (p, o, i) = windows.start_spot R w γ r a m b e f l d g q none in at p o i
    where
      enough : r ≤ suc z ^ n
      enough =
          let (t, i) = windows.ends_with R r (omega (arith, ap length f, length-append (replicate r z) γ, length-replicate r z)) in
          omega (arith, ap length i, length-append t (replicate r z), length-replicate r z, size)

      at : (p : ℕ) → windows.Spot R w p → modulo (p + r) (length (strip (suc z) n)) ≡ before_w m Words → Read w r (before_w m Words)
      at p o i =
          let place : place_of (suc z) n w ≡ p = sym (place_is (suc z) n w (omega arith) s) ∙ places.spot_place R o in
          let inside : p < suc z ^ n = omega (arith, o.inside, size) in
          elim (round_once p r (suc z ^ n) (before_w m Words) inside enough (ap (modulo (p + r)) (sym size) ∙ i)) [
            | inl j ↦ flat (omega arith)
            | inr j ↦ round (omega arith) (omega arith)
          ]

  -- letters z, then letters 0: in front of the first word
  first_word_lem : (b : List (List ℕ)) × (Words ≡ (0 ∷ []) ∷ b)
  first_word_lem = elim (in_split zero_in) [ found a b e ↦ at a b e ]
    where
      zero_in : In (0 ∷ []) Words
      zero_in = (strip_words_lem (suc z) n (0 ∷ []) s).1 (divides-one n, marks_cons (suc z) 0 [] (omega arith) refl, lyndon_out (one_letter 0))

      at : (a b : List (List ℕ)) → Words ≡ a ++ ((0 ∷ []) ∷ b) → (b : List (List ℕ)) × (Words ≡ (0 ∷ []) ∷ b)
      at [] b e = (b, e)
      at (x ∷ a) b e =
          absurd (omega (arith, no_less (ascend_before (x ∷ a) b (subst Ascending e up) x (here refl)), (seams.member R (subst (λ y. In x y) (sym e) (here refl))).fit.lyndon.some))

  read_zeros : (w : List ℕ) (r : ℕ) → r < n → w ≡ replicate r z ++ replicate (n - r) 0 → Read w r 0
  read_zeros w r l e = let (b, g) = first_word_lem in
      subst (Read w r) (ap (before_w (0 ∷ [])) g)
      (read_before w (replicate (n - r) 0) r [] (0 ∷ []) b long e (omega (arith, length-replicate {A = ℕ} (n - r) 0)) not_z g begin (λ v i. absurd (in_nil i)))
    where
      long : length w ≡ n
      long = omega (arith, ap length e, length-append (replicate r z) (replicate (n - r) 0), length-replicate r z, length-replicate {A = ℕ} (n - r) 0)

      not_z : w ≢ replicate n z
      not_z q =
          let j : n - r ≡ suc (n - r - 1) = omega arith in
          omega (arith, replicate_mid n z (replicate r z) (replicate (n - r - 1) 0) (sym q ∙ e ∙ ap (λ x. replicate r z ++ replicate x 0) j))

      begin : Prefix (replicate (n - r) 0) (power_to n (0 ∷ []))
      begin = prefix (replicate r 0) (letter_power n 0 ∙ replicate_split n r 0 (omega arith))

  -- letters z, then γ that is not all 0
  module _ (w γ : List ℕ) (r : ℕ) (m : marks_ok (suc z) w ≡ true) (shape : w ≡ replicate r z ++ γ) (least : smallest w ≡ γ ++ replicate r z)
      (sizes : r + length γ ≡ n) (some : 0 < length γ) (not_zeros : γ ≢ replicate (length γ) 0) (not_z : w ≢ replicate n z) where
    abbrev g : List ℕ
    g = γ ++ replicate r 0

    abbrev v : List ℕ
    v = necklace_below (suc z) g

    long_w : length w ≡ n
    long_w = omega (arith, ap length shape, length-append (replicate r z) γ, length-replicate r z)

    long-g : length g ≡ n
    long-g = omega (arith, length-append γ (replicate r 0), length-replicate {A = ℕ} r 0)

    marks_g : marks_ok (suc z) g ≡ true
    marks_g = marks-append (suc z) γ (replicate r 0) (marks_right (suc z) (replicate r z) γ (rw shape at m)) (marks-replicate (suc z) r 0 (omega arith))

    zeros_lt : Lt (replicate n 0) g
    zeros_lt = elim (le_cases (subst (λ x. Le (replicate x 0) g) long-g (zeros_le g))) [ inl l ↦ l | inr e ↦ absurd (not_zeros (replicate_left n 0 γ (replicate r 0) e)) ]

    passes : Passes (λ u. below u g) (suc z) g v
    passes = last_passes (λ u. below u g) (suc z) g (record { long = length-replicate n 0 ∙ sym long-g; marks = marks-replicate (suc z) n 0 (omega arith); necklace = zeros_necklace n; pass = lt_below zeros_lt })

    v_lt : Lt v g
    v_lt = below_lt v g passes.pass

    word : RootWord (suc z) n v
    word = root-word (suc z) n v s (passes.long ∙ long-g) (smallest_own passes.necklace) passes.marks

    abbrev u : List ℕ
    u = take (root v) v

    -- no power lies between v and g; what begins with γ is not below g
    above_v : {x : List ℕ} → seams.Member R x → Lt v (power_to n x) → Le g (power_to n x)
    above_v {x} k l = not_lt (λ q. le_not_lt (last_above (λ u. below u g) (suc z) g (record { long = power_length k.fit ∙ sym long-g; marks = seams.power_marks R k; necklace = power_least k.fit; pass = lt_below q })) l)

    from_γ : {y : List ℕ} → length y ≡ n → Prefix γ y → Le g y
    from_γ e q = zeros_least γ r (omega arith) q

    -- the word of the smallest rotation, γ z .. z
    base_word : RootWord (suc z) n (smallest w)
    base_word = root-word (suc z) n (smallest w) s (smallest-length w ∙ long_w) (smallest_own (smallest_necklace w)) (smallest-marks (suc z) w m)

    abbrev t : List ℕ
    t = take (root (smallest w)) (smallest w)

    u_fit : seams.Member R u
    u_fit = seams.member R word.inside

    t_fit : seams.Member R t
    t_fit = seams.member R base_word.inside

    u_lt_t : Lt u t
    u_lt_t = powers_lt_out u_fit.fit t_fit.fit (subst (λ x. Lt x (power_to n t)) (sym word.power) (lt_le_trans v_lt (from_γ (power_length t_fit.fit) (prefix (replicate r z) (base_word.power ∙ least)))))

    u_low : u ≢ z ∷ []
    u_low q = no_higher n z g (omega (arith, long-g)) marks_g (subst (λ x. Lt x g) (sym word.power ∙ ap (power_to n) q ∙ letter_power n z) v_lt)

    start_at : (a b : List (List ℕ)) → Words ≡ a ++ (u ∷ b) → StartPlace (suc z) n w r g
    start_at a [] e = absurd (seams.last_no_more R a e t base_word.inside u_lt_t)
    start_at a (x ∷ b) e = record {
      above_zeros = lt_below zeros_lt;
      long = long-g;
      marks = marks_g;
      below_necklace = smallest_own passes.necklace;
      below_long = passes.long ∙ long-g;
      below_marks = passes.marks;
      turn_inside = inside;
      place = placed (read_before w γ r (a ++ (u ∷ [])) x b long_w shape some not_z split_x begin before);
    }
      where
        split_x : Words ≡ (a ++ (u ∷ [])) ++ (x ∷ b)
        split_x = e ∙ sym (append_assoc a (u ∷ []) (x ∷ b))

        nb : seams.Next R u x
        nb = seams.neighbours R a b e

        begin : Prefix γ (power_to n x)
        begin =
            squeeze γ (replicate r 0) (replicate r z) (power_to n x) (omega (arith, power_length nb.here_v.fit))
            (above_v nb.here_v (subst (λ y. Lt y (power_to n x)) word.power (powers_lt u_fit.fit nb.here_v.fit nb.smaller)))
            (subst (λ y. Le (power_to n x) y) (base_word.power ∙ least) (seams.powers_le R nb.here_v t_fit (nb.nearest t base_word.inside u_lt_t)))

        before : (y : List ℕ) → In y (a ++ (u ∷ [])) → ¬ Prefix γ (power_to n y)
        before y i q =
            let k : seams.Member R y = seams.member R (subst (λ r. In y r) (sym split_x) (in_append_left (x ∷ b) i)) in
            le_not_lt (from_γ (power_length k.fit) q) (le_lt_trans (subst (λ r. Le (power_to n y) r) word.power (seams.powers_le R k u_fit (up_to_u (in_append_cases a i)))) v_lt)
          where
            up_to_u : In y a ⊎ In y (u ∷ []) → Le y u
            up_to_u (inl j) = lt_le (ascend_before a (x ∷ b) (subst Ascending e up) y j)
            up_to_u (inr (here f)) = eq_le f
            up_to_u (inr (there j)) = absurd (in_nil j)

        -- u ends in r letters z, and is not all z
        inside : r < root v
        inside = let (p, o) = seams.ends_top R nb u_low γ r (omega arith) begin (before u (in_append_right a (here refl))) in
            elim (lyndon_low z u u_fit.fit.lyndon u_fit.over_z u_low) [ low c q i l ↦ longer_than p o c q i l ]
          where
            longer_than : (p : List ℕ) → u ≡ p ++ replicate r z → (c : ℕ) (q : List ℕ) → u ≡ c ∷ q → c < z → r < root v
            longer_than [] o c q i l = absurd (omega (arith, replicate_mid r z [] q (sym o ∙ i)))
            longer_than (y ∷ p) o c q i l = omega (arith, ap length o, length-append (y ∷ p) (replicate r z), length-replicate r z, word.long)

        front : before_w x Words ≡ cs (suc z) v
        front = omega (
          arith,
          ap (before_w x) split_x ∙ before_is (a ++ (u ∷ [])) x b (subst Ascending split_x up) ∙ joined_both a (u ∷ []),
          ap (before_w u) e ∙ before_is a u (x ∷ b) (subst Ascending e up),
          ap length (append-nil u),
          word.long,
          word.ends,
        )

        placed : Read w r (before_w x Words) → place_of (suc z) n w + r ≡ cs (suc z) v
        placed (flat p) = p ∙ front
        placed (round p q) = absurd (omega (arith, front, word.ends, inside))

    start : StartPlace (suc z) n w r g
    start = elim (in_split word.inside) [ found a b e ↦ start_at a b e ]

-- z .. z 0 .. 0
pub top_place : (k n : ℕ) (w : List ℕ) (i : ℕ) → 2 ≤ k → 1 ≤ n → 1 ≤ i → i ≤ n → w ≡ replicate i (k - 1) ++ replicate (n - i) 0
    → place_of k n w + i ≡ k ^ n
top_place zero n w i h s l m e = absurd (omega arith)
top_place (suc z) n w i h s l m e = elim (split n i) [ upto q ↦ whole (omega arith) | over q ↦ read (read_zeros z n (omega arith) s w i q (e ∙ ap (λ x. replicate i x ++ replicate (n - i) 0) (one_less z))) ]
  where
    whole : i ≡ n → place_of (suc z) n w + i ≡ suc z ^ n
    whole q =
        let j : n - i ≡ 0 = omega arith in
        let f : w ≡ replicate n (suc z - 1) = e ∙ ap₂ (λ x y. replicate x (suc z - 1) ++ replicate y 0) q j ∙ append-nil (replicate n (suc z - 1)) in
        ap₂ ◌+◌ (sym (place_is (suc z) n w h s) ∙ ap (place_on (divisor_of n) (suc z) n) f) q
        ∙ (rings (divisor_of n) (suc z) n h s (divisors_allowed n s)).at_top (divides-one n) ∙ strip-long (suc z) n h s

    read : Read z n (omega arith) s w i 0 → place_of (suc z) n w + i ≡ suc z ^ n
    read (flat p) = absurd (omega arith)
    read (round p q) = omega arith

pub zero_place : (k n : ℕ) (w : List ℕ) → 2 ≤ k → 1 ≤ n → w ≡ replicate n 0 → place_of k n w ≡ 0
zero_place zero n w h s e = absurd (omega arith)
zero_place (suc z) n w h s e = read (read_zeros z n (omega arith) s w 0 s (e ∙ ap (λ x. replicate x 0) all))
  where
    all : n ≡ n - 0
    all = omega arith

    read : Read z n (omega arith) s w 0 0 → place_of (suc z) n w ≡ 0
    read (flat p) = omega arith
    read (round p q) = absurd (omega arith)

pub start_place : (k n : ℕ) (w : List ℕ) (r : ℕ) → 2 ≤ k → 1 ≤ n → length w ≡ n → marks_ok k w ≡ true → turned r w ≡ smallest w → r < root w
    → take r w ≡ replicate r (k - 1) → drop r w ≢ replicate (n - r) 0 → w ≢ replicate n (k - 1)
    → StartPlace k n w r (drop r w ++ replicate r 0)
start_place zero n w r h s e m t l a b c = absurd (omega arith)
start_place (suc z) n w r h s e m t l a b c =
    start z n (omega arith) s w (drop r w) r m (sym (take-append-drop r w) ∙ ap (λ y. y ++ drop r w) top) (sym t ∙ ap (λ y. drop r w ++ y) top)
    (omega (arith, rest, short)) (omega (arith, rest, short)) (λ q. b (q ∙ ap (λ y. replicate y 0) rest)) (λ q. c (q ∙ ap (replicate n) (sym (one_less z))))
  where
    top : take r w ≡ replicate r z
    top = a ∙ ap (replicate r) (one_less z)

    rest : length (drop r w) ≡ n - r
    rest = length-drop r w ∙ ap (λ y. y - r) e

    short : r < n
    short = omega (arith, root-size (omega arith) (root_is w (omega arith)))

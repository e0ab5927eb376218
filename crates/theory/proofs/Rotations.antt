-- Words counted by their smallest rotations (document 004, section 3). A list of Lyndon words whose lengths divide n: the rotations of
-- their powers of length n are all different, and they are the words whose smallest rotation is such a power. So a ring is as long as
-- the words that it covers are many, and so is what its words up to a necklace cover. For every k.
use mathlib.Core.Path.{◌≡◌, refl, sym, ◌∙◌, ap, subst, subst₂}
use mathlib.Core.Bool.{Bool, true, ◌&&◌}
use mathlib.Core.List.{List, ◌++◌, append_assoc, append-nil}
use Prim.Native.Nat.{ℕ, zero, suc, ◌*◌, ◌/◌, ◌≤◌, ◌<◌}
use native.Mathlib.Omega.{arith}
use native.Mathlib.Nat.{suc-mul, mul-div_cancel}
use lib.ListN.{length, take, drop, length-append, take-append-drop}
use lib.Seq.{length-take-le}
use Rattle.theory.specs.Words.{turned, smallest, repeated, root, is_lyndon, marks_ok, all_words, keep, power_to}
use Rattle.theory.specs.Lists.{In, Once, each, gather}
use Rattle.theory.specs.Rings.{divides, Allowed, ring_words, ring}
use Rattle.theory.proofs.Base.{and_l, and_r, and_in, upto, over, split, and_true}
use Rattle.theory.proofs.Order.{Lt, Prefix, prefix}
use Rattle.theory.proofs.Lists.{keep_in, in_keep, keep_all, keep_once, ascend_once, each_in, in_each, each_length, each_once_lem, image, gather_in, in_gather, gather_once, gathered, span, span_in, in_span, span_once, span-length}
use Rattle.theory.proofs.Counts.{sum, sum_ext, keep_same, once_eq, gather-length, joined_length}
use Rattle.theory.proofs.Letters.{marks_left, marks-repeated}
use Rattle.theory.proofs.Lyndon.{Lyndon, Necklace, turned_parts, lyndon_in, lyndon_out}
use Rattle.theory.proofs.Listed.{all_words_lem, all_ascend, ring_words_lem, ring_ascend}
use Rattle.theory.proofs.Powers.{repeated-length, rot, rot_sym, turned_rot, same-root, Turn, turn, power_turn, marks_rot}
use Rattle.theory.proofs.Necklaces.{power_necklace, power_root, power_one, power_lt, power_lt_out, smallest_is, smallest_rot, smallest-length, turn_once, base, base_of_lem}
use Rattle.theory.proofs.Divisors.{multiple, divides_le}

-- a Lyndon word whose length divides n
pub record Fits (n : ℕ) (u : List ℕ) : Type 0 where
  pub lyndon : Lyndon u
  pub times : ℕ
  pub whole : suc times * length u ≡ n

pub fits : {n : ℕ} {u : List ℕ} → 1 ≤ n → is_lyndon u ≡ true → divides (length u) n ≡ true → Fits n u
fits {n} {u} s h d = let (e, f) = multiple (length u) n s d in record { lyndon = lyndon_in u h; times = e; whole = f }

-- its power of length n
module _ {n : ℕ} {u : List ℕ} (m : Fits n u) where
  pub power_is : power_to n u ≡ repeated (suc m.times) u
  power_is = ap (λ r. repeated r u) (ap (λ r. r / length u) (sym m.whole) ∙ mul-div_cancel (suc m.times) m.lyndon.some)

  pub power_length : length (power_to n u) ≡ n
  power_length = ap length power_is ∙ repeated-length (suc m.times) u ∙ m.whole

  pub power_least : Necklace (power_to n u)
  power_least = subst Necklace (sym power_is) (power_necklace (suc m.times) m.lyndon)

  pub power_self : length u ≡ n → power_to n u ≡ u
  power_self e = go m.times m.whole power_is
    where
      go : (t : ℕ) → suc t * length u ≡ n → power_to n u ≡ repeated (suc t) u → power_to n u ≡ u
      go zero f g = g ∙ append-nil u
      go (suc t) f g = absurd (omega (arith, suc-mul (suc t) (length u), suc-mul t (length u), m.lyndon.some))

  pub power_base : root (power_to n u) ≡ length u
  power_base = ap root power_is ∙ power_root m.times m.lyndon

  pub power_begins : Prefix u (power_to n u)
  power_begins = subst (λ r. Prefix u r) (sym power_is) (prefix (repeated m.times u) refl)

module _ {n : ℕ} {u v : List ℕ} (a : Fits n u) (b : Fits n v) where
  lengths : length (repeated (suc a.times) u) ≡ length (repeated (suc b.times) v)
  lengths = ap length (sym (power_is a)) ∙ power_length a ∙ sym (power_length b) ∙ ap length (power_is b)

  pub power_only : power_to n u ≡ power_to n v → u ≡ v
  power_only e = (power_one a.times b.times a.lyndon b.lyndon (sym (power_is a) ∙ e ∙ power_is b)).0

  pub powers_lt_out : Lt (power_to n u) (power_to n v) → Lt u v
  powers_lt_out l = power_lt_out a.times b.times a.lyndon b.lyndon lengths (subst₂ Lt (power_is a) (power_is b) l)

  pub powers_lt : Lt u v → Lt (power_to n u) (power_to n v)
  powers_lt l = subst₂ Lt (sym (power_is a)) (sym (power_is b)) (power_lt a.times b.times a.lyndon b.lyndon lengths l)

-- the rotations of one power
rotations : ℕ → List ℕ → List (List ℕ)
rotations n u = each (λ r. turned r (power_to n u)) (span (length u))

rotations_length : (n : ℕ) (u : List ℕ) → length (rotations n u) ≡ length u
unfolding rotations
rotations_length n u = each_length (λ r. turned r (power_to n u)) (span (length u)) ∙ span-length (length u)

rotations_once : {n : ℕ} {u : List ℕ} → Fits n u → Once (rotations n u)
unfolding rotations
rotations_once {n} {u} m = each_once_lem (λ r. turned r (power_to n u)) (span (length u)) (span_once (length u)) (λ r s p q e. one r s (span_in (length u) p) (span_in (length u) q) e)
  where
    cut_power : (r : ℕ) → r < length u → (repeated (suc m.times) u ≡ take r (power_to n u) ++ drop r (power_to n u)) × (length (take r (power_to n u)) ≡ r)
    cut_power r h = (sym (power_is m) ∙ sym (take-append-drop r (power_to n u)), length-take-le r (power_to n u) (omega (arith, power_length m, m.whole, suc-mul m.times (length u))))

    least : (r s : ℕ) → r ≤ s → s < length u → turned r (power_to n u) ≡ turned s (power_to n u) → r ≡ s
    least r s l h e =
        let x = power_to n u in
        let (f, g) = cut_power r (omega arith) in
        let (f', g') = cut_power s h in
        sym g ∙ turn_once (suc m.times) (take r x) (drop r x) (take s x) (drop s x) m.lyndon f f' e (omega (arith, g, g')) (omega (arith, g')) ∙ g'

    one : (r s : ℕ) → r < length u → s < length u → turned r (power_to n u) ≡ turned s (power_to n u) → r ≡ s
    one r s p q e = elim (split r s) [ upto l ↦ least r s l q e | over l ↦ sym (least s r (omega arith) p (sym e)) ]

-- they are the words with that smallest rotation
rotation_smallest : {n : ℕ} {u x : List ℕ} → Fits n u → In x (rotations n u) → smallest x ≡ power_to n u
unfolding rotations
rotation_smallest {n} {u} m i = elim (each_in (λ r. turned r (power_to n u)) (span (length u)) i) [
  | image r j e ↦ ap smallest e ∙ smallest_is (rot_sym (turned_rot r (power_to n u))) (power_least m)
]

smallest_rotation : {n : ℕ} {u : List ℕ} (x : List ℕ) → Fits n u → smallest x ≡ power_to n u → In x (rotations n u)
unfolding rotations
smallest_rotation {n} {u} x m e = elim (smallest_rot x) [ rot a b f g ↦ from a b f (power_turn (suc (length b)) u b a m.times (omega arith) m.lyndon.some (sym (power_is m) ∙ sym e ∙ g)) ]
  where
    from : (a b : List ℕ) → x ≡ a ++ b → Turn u (a ++ b) m.times → In x (rotations n u)
    from a b f (turn c d g l h) =
        let whole : turned (length c) (power_to n u) ≡ x =
        ap (turned (length c)) (power_is m ∙ ap (λ r. r ++ repeated m.times u) g ∙ append_assoc c d (repeated m.times u))
        ∙ turned_parts c (d ++ repeated m.times u) ∙ append_assoc d (repeated m.times u) c ∙ sym h ∙ sym f in
        subst (λ q. In q (rotations n u)) whole (in_each (λ r. turned r (power_to n u)) (in_span (length u) (length c) (omega (arith, ap length g, length-append c d))))

-- a word x whose smallest rotation is the power of a word of W
pub data Covered (n : ℕ) (W : List (List ℕ)) (x : List ℕ) : Type 0 where
  covered : (u : List ℕ) → In u W → smallest x ≡ power_to n u → Covered n W x

-- the counting lemma: as many words are covered as the words of W have letters
pub count_covered : (n : ℕ) (W X : List (List ℕ)) → Once W → Once X → ((u : List ℕ) → In u W → Fits n u)
    → ((x : List ℕ) → In x X → Covered n W x) → ((x u : List ℕ) → In u W → smallest x ≡ power_to n u → In x X) → sum length W ≡ length X
count_covered n W X o p fit f g =
    sym (sum_ext (λ u. length (rotations n u)) length W (λ u i. rotations_length n u)) ∙ sym (gather-length (rotations n) W)
    ∙ once_eq (gather (rotations n) W) X (gather_once (rotations n) W o (λ u i. rotations_once (fit u i)) apart) p
    (λ x i. elim (gather_in (rotations n) W i) [ gathered u j k ↦ g x u j (rotation_smallest (fit u j) k) ])
    (λ x i. elim (f x i) [ covered u j e ↦ in_gather (rotations n) j (smallest_rotation x (fit u j) e) ])
  where
    apart : (u v x : List ℕ) → In u W → In v W → In x (rotations n u) → In x (rotations n v) → u ≡ v
    apart u v x i j a b = power_only (fit u i) (fit v j) (sym (rotation_smallest (fit u i) a) ∙ rotation_smallest (fit v j) b)

-- rings
module _ (ok : ℕ → Bool) (k n : ℕ) (some : 1 ≤ n) (allowed : Allowed n ok) where
  pub ring_fits : {u : List ℕ} → In u (ring_words ok k n) → Fits n u
  ring_fits {u} i = let r = (ring_words_lem ok k n u).0 i in fits some r.2 (allowed.divisor (length u) r.3)

  -- the ring's word that a word is a rotated power of
  pub data RingBase (x : List ℕ) : Type 0 where
    ring_base : (u : List ℕ) → In u (ring_words ok k n) → smallest x ≡ power_to n u → root x ≡ length u → RingBase x

  pub ring_base_of : (x : List ℕ) → length x ≡ n → marks_ok k x ≡ true → ok (root x) ≡ true → RingBase x
  ring_base_of x h m a = elim (base_of_lem x (omega arith)) [ base u e l f g ↦ at u e l f g ]
    where
      at : (u : List ℕ) (e : ℕ) → Lyndon u → smallest x ≡ repeated (suc e) u → root x ≡ length u → RingBase x
      at u e l f g =
          let whole : suc e * length u ≡ n = sym (repeated-length (suc e) u) ∙ ap length (sym f) ∙ smallest-length x ∙ h in
          let fit : Fits n u = record { lyndon = l; times = e; whole = whole } in
          let good : ok (length u) ≡ true = ap ok (sym g) ∙ a in
          let marks : marks_ok k (repeated (suc e) u) ≡ true = rw f at (marks_rot k (smallest_rot x) m) in
          ring_base u ((ring_words_lem ok k n u).1 (divides_le (length u) n some (allowed.divisor (length u) good), marks_left k u (repeated e u) marks, lyndon_out l, good)) (f ∙ sym (power_is fit)) g

  -- what a word covered by a ring's word is
  pub covered_is : (x u : List ℕ) → In u (ring_words ok k n) → smallest x ≡ power_to n u → (length x ≡ n) × (marks_ok k x ≡ true) × (ok (root x) ≡ true)
  covered_is x u i e =
      let m = ring_fits i in
      let r = (ring_words_lem ok k n u).0 i in
      let long : length x ≡ n = sym (smallest-length x) ∙ ap length e ∙ power_length m in
      let marks : marks_ok k (power_to n u) ≡ true = rw (power_is m) (marks-repeated k (suc m.times) u r.1) in
      (long, marks_rot k (rot_sym (smallest_rot x)) (rw e marks), ap ok (same-root (smallest_rot x) (omega arith) ∙ ap root e ∙ power_base m) ∙ r.3)

  -- the ring's words whose powers pass a test cover the words whose smallest rotations pass it
  pub count_bases : (f : List ℕ → Bool)
      → sum length (keep (λ u. f (power_to n u)) (ring_words ok k n)) ≡ length (keep (λ x. ok (root x) && f (smallest x)) (all_words k n))
  count_bases f =
      count_covered n (keep (λ u. f (power_to n u)) (ring_words ok k n)) (keep tests (all_words k n))
      (keep_once (λ u. f (power_to n u)) (ring_words ok k n) (ascend_once (ring_words ok k n) (ring_ascend ok k n)))
      (keep_once tests (all_words k n) (ascend_once (all_words k n) (all_ascend k n)))
      (λ u i. ring_fits (keep_in (λ u. f (power_to n u)) (ring_words ok k n) i).0)
      from_words
      to_words
    where
      tests : List ℕ → Bool
      tests x = ok (root x) && f (smallest x)

      from_words : (x : List ℕ) → In x (keep tests (all_words k n)) → Covered n (keep (λ u. f (power_to n u)) (ring_words ok k n)) x
      from_words x i =
          let r = keep_in tests (all_words k n) i in
          let s = (all_words_lem k n x).0 r.0 in
          elim (ring_base_of x s.0 s.1 (and_l (ok (root x)) (f (smallest x)) r.1)) [
            | ring_base u j e g ↦ covered u (in_keep (λ u. f (power_to n u)) j (ap f (sym e) ∙ and_r (ok (root x)) (f (smallest x)) r.1)) e
          ]

      to_words : (x u : List ℕ) → In u (keep (λ u. f (power_to n u)) (ring_words ok k n)) → smallest x ≡ power_to n u → In x (keep tests (all_words k n))
      to_words x u i e =
          let r = keep_in (λ u. f (power_to n u)) (ring_words ok k n) i in
          let s = covered_is x u r.0 e in
          in_keep tests ((all_words_lem k n x).1 (s.0, s.1)) (and_in s.2 (ap f e ∙ r.1))

  -- the ring's length
  pub ring_long : length (ring ok k n) ≡ length (keep (λ x. ok (root x)) (all_words k n))
  ring_long =
      joined_length (ring_words ok k n) ∙ sym (ap (sum length) (keep_all (λ u. true) (ring_words ok k n) (λ u i. refl))) ∙ count_bases (λ u. true)
      ∙ ap length (keep_same (λ x. ok (root x) && true) (λ x. ok (root x)) (all_words k n) (λ x i. and_true (ok (root x))))

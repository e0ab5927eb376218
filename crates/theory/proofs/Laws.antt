-- The laws of Lyndon words (document 003, section 1.4), as the specification states them: the record LyndonLaws.
use mathlib.Core.Path.{◌≡◌, refl, sym, ◌∙◌, ap, subst}
use mathlib.Core.Bool.{true}
use mathlib.Core.List.{List, [], ◌∷◌, ◌++◌, append_assoc, head-eq_of_cons-eq}
use mathlib.Core.Logic.{◌↔◌, ◌≢◌}
use Prim.Native.Nat.{ℕ, zero, suc, ◌-◌, ◌≤◌, ◌<◌}
use native.Mathlib.Omega.{arith}
use lib.ListN.{length, take, drop, length-append, take-append-drop}
use lib.Seq.{length-take-le}
use borrow.Author.Tests.{ltb-true, lt-ltb}
use Rattle.theory.specs.Words.{below, turned, is_lyndon, smallest, repeated, root, marks_ok}
use Rattle.theory.specs.Steps.{extension, period}
use Rattle.theory.specs.Theorems.{Rotated, LyndonLaws}
use Rattle.theory.specs.Prenecklaces.{Prenecklace}
use Rattle.theory.proofs.Base.{and_l, and_in, upto, over, split}
use Rattle.theory.proofs.Order.{lt_below, below_lt, cut_lt, lt_cut}
use Rattle.theory.proofs.Lyndon.{Lyndon, turned_parts, lyndon_some, lyndon_in, lyndon_out, lyndon_pre, pre_prefix, necklace_pre, raise_last}
use Rattle.theory.proofs.Powers.{repeated_snoc, Rot, rot, rot_sym, rot_length, turned_rot, turn, power_turn, extends_power, extends_extension}
use Rattle.theory.proofs.Necklaces.{product_lyndon, lyndon_extends_pre, sesquipower, pre_extends, power_necklace, power_one, smallest_rot, smallest_necklace, smallest_is, base, base_of_lem, turn_once}
use Rattle.theory.proofs.Letters.{marks_right, marks-append, marks-repeated}
use Rattle.theory.proofs.Tops.{not_last, low, lyndon_low}
use Rattle.theory.proofs.Steps.{first_period}

-- Proposition 7
pub by_suffixes : (w : List ℕ)
    → (is_lyndon w ≡ true) ↔ ((1 ≤ length w) × ((u v : List ℕ) → w ≡ u ++ v → 1 ≤ length u → 1 ≤ length v → below w v ≡ true))
by_suffixes w = (into, out)
  where
    into : is_lyndon w ≡ true → (1 ≤ length w) × ((u v : List ℕ) → w ≡ u ++ v → 1 ≤ length u → 1 ≤ length v → below w v ≡ true)
    into h = ((lyndon_in w h).some, λ u v e a b. lt_below (cut_lt ((lyndon_in w h).least u v e a b)))

    out : (1 ≤ length w) × ((u v : List ℕ) → w ≡ u ++ v → 1 ≤ length u → 1 ≤ length v → below w v ≡ true) → is_lyndon w ≡ true
    out (h, f) = lyndon_out (record { some = h; least = λ u v e a b. lt_cut (below_lt w v (f u v e a b)) (omega (arith, ap length e, length-append u v)) })

-- Proposition 8
pub product : (l m : List ℕ) → is_lyndon l ≡ true → is_lyndon m ≡ true → below l m ≡ true → is_lyndon (l ++ m) ≡ true
product l m h g b = lyndon_out (product_lyndon (lyndon_in l h) (lyndon_in m g) (below_lt l m b))

-- Proposition 9: what begins a Lyndon word is the extension of one ..
pub prefix_extends : (p s : List ℕ) → 1 ≤ length p → is_lyndon (p ++ s) ≡ true
    → (is_lyndon (take (period p) p) ≡ true) × (p ≡ extension (length p) (take (period p) p))
prefix_extends p s h g = elim (pre_extends p h (pre_prefix p s (lyndon_pre (lyndon_in (p ++ s) g)))) [
  | sesquipower x l e n ↦ rw (first_period l e n) (lyndon_out l, extends_extension l.some e)
]

-- .. and the extension of one that is not the last letter z begins one: x .. x z, as the first letter of x is below z
pub extension_begins : (k m : ℕ) (x : List ℕ) → marks_ok k x ≡ true → is_lyndon x ≡ true → x ≢ (k - 1) ∷ []
    → (s : List ℕ) × (marks_ok k s ≡ true) × (is_lyndon (extension m x ++ s) ≡ true)
extension_begins k m [] g h n = absurd (omega (arith, lyndon_some [] h))
extension_begins zero m (b ∷ x) g h n = absurd (omega (arith, ltb-true b 0 (and_l _ _ g)))
extension_begins (suc z) m (b ∷ x) g h n = (drop m (repeated m (b ∷ x)) ++ (z ∷ []), marks, subst (λ r. is_lyndon r ≡ true) whole (lyndon_out (raise_last (repeated m (b ∷ x)) b z pre first)))
  where
    l : Lyndon (b ∷ x)
    l = lyndon_in (b ∷ x) h

    first : b < z
    first = elim (lyndon_low z (b ∷ x) l g (not_last n)) [ low c v e i ↦ omega (arith, head-eq_of_cons-eq e) ]

    pre : Prenecklace (repeated m (b ∷ x) ++ (b ∷ []))
    pre = pre_prefix (repeated m (b ∷ x) ++ (b ∷ [])) x (subst Prenecklace (sym (repeated_snoc m (b ∷ x)) ∙ sym (append_assoc (repeated m (b ∷ x)) (b ∷ []) x)) (lyndon_extends_pre l (extends_power (suc m) (b ∷ x))))

    whole : repeated m (b ∷ x) ++ (z ∷ []) ≡ extension m (b ∷ x) ++ (drop m (repeated m (b ∷ x)) ++ (z ∷ []))
    whole = ap (λ r. r ++ (z ∷ [])) (sym (take-append-drop m (repeated m (b ∷ x)))) ∙ append_assoc (extension m (b ∷ x)) (drop m (repeated m (b ∷ x))) (z ∷ [])

    marks : marks_ok (suc z) (drop m (repeated m (b ∷ x)) ++ (z ∷ [])) ≡ true
    marks = marks-append (suc z) (drop m (repeated m (b ∷ x))) (z ∷ []) (marks_right (suc z) (extension m (b ∷ x)) (drop m (repeated m (b ∷ x))) (rw take-append-drop (marks-repeated (suc z) m (b ∷ x) g))) (and_in (lt-ltb z (suc z) (omega arith)) refl)

-- Lemma 2
pub raise : (p s : List ℕ) (a b : ℕ) → a < b → smallest (p ++ (a ∷ s)) ≡ p ++ (a ∷ s) → is_lyndon (p ++ (b ∷ [])) ≡ true
raise p s a b l e =
    lyndon_out (raise_last p a b (pre_prefix (p ++ (a ∷ [])) s (subst Prenecklace (e ∙ sym (append_assoc p (a ∷ []) s)) (necklace_pre (smallest_necklace (p ++ (a ∷ s)))))) l)

-- every word is a rotation of a power of a Lyndon word ..
pub rotated : (w : List ℕ) → 1 ≤ length w → (u : List ℕ) × (e : ℕ) × (r : ℕ) × Rotated w u e r × (length u ≡ root w) × (smallest w ≡ repeated e u)
rotated w h = elim (base_of_lem w h) [
  | base u e l q n ↦ elim (smallest_rot w) [
    | rot a b i j ↦ elim (power_turn (suc (length b)) u b a e (omega arith) l.some (sym q ∙ j)) [
      | turn c d p o t ↦ (u, suc e, length c, record { lyndon = lyndon_out l; inside = omega (arith, ap length p, length-append c d); is = i ∙ t ∙ turn_is u c d e p }, sym n, q)
    ]
  ]
]
  where
    turn_is : (u c d : List ℕ) (e : ℕ) → u ≡ c ++ d → d ++ (repeated e u ++ c) ≡ turned (length c) (repeated (suc e) u)
    turn_is u c d e p = sym (ap (turned (length c)) (ap (λ r. r ++ repeated e u) p ∙ append_assoc c d (repeated e u)) ∙ turned_parts c (d ++ repeated e u) ∙ append_assoc d (repeated e u) c)

-- .. of exactly one, by exactly one turn
rotated_rot : {w u : List ℕ} {e r : ℕ} → Rotated w u e r → Rot w (repeated e u)
rotated_rot {w} {u} {e} {r} a = rot_sym (subst (Rot (repeated e u)) (sym a.is) (turned_rot r (repeated e u)))

same_turn : (e : ℕ) {u : List ℕ} (r s : ℕ) → Lyndon u → s < length u → r ≤ s → turned r (repeated (suc e) u) ≡ turned s (repeated (suc e) u) → r ≡ s
same_turn e {u} r s l i h q = omega (arith, size r (omega arith), size s (omega arith), turn_once (suc e) (take r w) (drop r w) (take s w) (drop s w) l (sym (take-append-drop r w)) (sym (take-append-drop s w)) q (omega (arith, size r (omega arith), size s (omega arith))) (omega (arith, size s (omega arith))))
  where
    w : List ℕ
    w = repeated (suc e) u

    size : (j : ℕ) → j < length u → length (take j w) ≡ j
    size j g = length-take-le j w (omega (arith, length-append u (repeated e u)))

pub once : (w u v : List ℕ) (e f r s : ℕ) → 1 ≤ length w → Rotated w u e r → Rotated w v f s → (u ≡ v) × (e ≡ f) × (r ≡ s)
once w u v zero f r s h a b = absurd (omega (arith, rot_length (rotated_rot a)))
once w u v (suc e) zero r s h a b = absurd (omega (arith, rot_length (rotated_rot b)))
once w u v (suc e) (suc f) r s h a b = (one.0, ap suc one.1, turns)
  where
    l : Lyndon u
    l = lyndon_in u a.lyndon

    k : Lyndon v
    k = lyndon_in v b.lyndon

    whole : repeated (suc e) u ≡ repeated (suc f) v
    whole = sym (smallest_is (rotated_rot a) (power_necklace (suc e) l)) ∙ smallest_is (rotated_rot b) (power_necklace (suc f) k)

    one : (u ≡ v) × (e ≡ f)
    one = power_one e f l k whole

    q : turned r (repeated (suc e) u) ≡ turned s (repeated (suc e) u)
    q = sym a.is ∙ b.is ∙ ap (turned s) (sym whole)

    turns : r ≡ s
    turns = elim (split r s) [
      | upto i ↦ same_turn e r s l (omega (arith, b.inside, ap length one.0)) i q
      | over i ↦ sym (same_turn e s r l a.inside (omega arith) (sym q))
    ]

pub lyndon_laws : LyndonLaws
lyndon_laws =
    record { by_suffixes = by_suffixes; product = product; prefix_extends = prefix_extends; extension_begins = extension_begins; raise = raise; rotated = rotated; once = once }

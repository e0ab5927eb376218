-- Necklaces: powers of Lyndon words (document 003, section 1.4.1, Propositions 8 and 9), and that every word is a rotation of a
-- power of exactly one Lyndon word.
use mathlib.Core.Path.{◌≡◌, refl, sym, ◌∙◌, ap, ap₂, subst, subst₂}
use mathlib.Core.Bool.{true}
use mathlib.Core.List.{List, [], ◌∷◌, ◌++◌, append_assoc, append-nil}
use mathlib.Core.Logic.{inl, inr}
use Prim.Native.Nat.{ℕ, zero, suc, ◌+◌, ◌-◌, ◌*◌, ◌≤◌, ◌<◌}
use native.Mathlib.Omega.{arith}
use native.Mathlib.Nat.{eq_of_mul-eq-mul_right, le_antisymm}
use lib.ListN.{length, length-append}
use Rattle.theory.specs.Words.{below, turned, least_from, smallest, repeated, root, marks_ok}
use Rattle.theory.specs.Prenecklaces.{Cut, Prenecklace}
use Rattle.theory.proofs.Base.{test, less, equal, more, cmp, upto, over, split, nil_of, levi, longer, shorter, split_same, cancel_left}
use Rattle.theory.proofs.Order.{Lt, Le, Prefix, prefix, is_lt, is_eq, is_gt, tri, below_lt, not_below, lt_irrefl, lt_asym, lt_trans, lt_le, le_refl, eq_le, le_trans, le_antisym, le_not_lt, cut_lt, cut_irrefl, cut_asym, cut_append, cut_prefix, cut_unprefix, cut_shorten, cut_mid, lt_cut, cut_or, cut_at_letter, prefix_append}
use Rattle.theory.proofs.Lyndon.{Lyndon, Necklace, turned_parts, one_letter, pre_prefix, necklace_pre, raise_last}
use Rattle.theory.proofs.Powers.{repeated-length, repeated_snoc, repeated_comm, Rot, rot, rot_refl, rot_sym, rot_trans, rot_length, marks_rot, turned_rot, Root, is_root_lem, root_is, root_least, same-root, Extends, extends, extends_self, Behind, behind, extends_long, extends_short, Periods, periods, extends_periods}

-- Proposition 8
pub product_lyndon : {l m : List ℕ} → Lyndon l → Lyndon m → Lt l m → Lyndon (l ++ m)
product_lyndon {l} {m} a b h = record { some = omega (arith, length-append l m, a.some); least = least }
  where
    front : Cut (l ++ m) m
    front = elim (cut_or h) [ inl c ↦ subst (λ r. Cut (l ++ m) r) (append-nil m) (cut_append m [] c) | inr p ↦ elim p [ prefix t e ↦ behind_l t e ] ]
      where
        behind_l : (t : List ℕ) → m ≡ l ++ t → Cut (l ++ m) m
        behind_l [] e = absurd (lt_irrefl (subst (λ r. Lt l r) (e ∙ append-nil l) h))
        behind_l (x ∷ t) e = subst (λ r. Cut (l ++ m) r) (sym e) (cut_prefix l (b.least l (x ∷ t) e a.some (omega arith)))

    least : (u v : List ℕ) → l ++ m ≡ u ++ v → 0 < length u → 0 < length v → Cut (l ++ m) v
    least u v e f g = elim (levi l m u v e) [ longer t i j ↦ in_l t i j | shorter t i j ↦ in_m t i j ]
      where
        in_m : (t : List ℕ) → u ≡ l ++ t → m ≡ t ++ v → Cut (l ++ m) v
        in_m [] i j = subst (λ r. Cut (l ++ m) r) j front
        in_m (x ∷ t) i j =
            lt_cut (lt_trans (cut_lt front) (cut_lt (b.least (x ∷ t) v j (omega arith) g))) (omega (arith, ap length e, length-append u v))

        in_l : (t : List ℕ) → l ≡ u ++ t → v ≡ t ++ m → Cut (l ++ m) v
        in_l [] i j = subst (λ r. Cut (l ++ m) r) (sym j) front
        in_l (x ∷ t) i j = subst (λ r. Cut (l ++ m) r) (sym j) (cut_append m m (a.least u (x ∷ t) i f (omega arith)))

-- Proposition 9: an extension of a Lyndon word is a prenecklace ..
pub extends_pre : (fuel : ℕ) (x w : List ℕ) → length w < fuel → Lyndon x → Extends x w → Prenecklace w
extends_pre zero x w l h e u v f c = absurd (omega arith)
extends_pre (suc fuel) x w l h e [] v f c = cut_irrefl (subst (λ r. Cut r w) (sym f) c)
extends_pre (suc fuel) x w l h e (a ∷ u) v f c = elim (split (length x) (length w)) [ upto g ↦ long (extends_pre fuel x) (extends_long e g) | over g ↦ short (extends_short e (omega arith)) ]
  where
    some : 0 < length v
    some = go v c
      where
        go : (v : List ℕ) → Cut v w → 0 < length v
        go [] k = elim k [ ]
        go (y ∷ v) k = omega arith

    short : Prefix w x → ⊥
    short (prefix t i) =
        let j : x ≡ (a ∷ u) ++ (v ++ t) = i ∙ ap (λ r. r ++ t) f ∙ append_assoc (a ∷ u) v t in
        cut_asym (h.least (a ∷ u) (v ++ t) j (omega arith) (omega (arith, some, length-append v t))) (subst (λ r. Cut (v ++ t) r) (sym i) (cut_append t t c))

    long : ((w : List ℕ) → length w < fuel → Lyndon x → Extends x w → Prenecklace w) → Behind x w → ⊥
    long ih (behind w' i j k) = elim (levi (a ∷ u) v x w' (sym f ∙ i)) [ longer t m n ↦ beyond t m n k | shorter t m n ↦ inside t m n ]
      where
        inside : (t : List ℕ) → x ≡ (a ∷ u) ++ t → v ≡ t ++ w' → ⊥
        inside [] m n = cut_shift (ih w' (omega (arith, ap length i, length-append x w', h.some)) h j [] w' refl)
          where
            cut_shift : ¬ Cut w' w' → ⊥
            cut_shift q = elim k [ prefix s o ↦ q (cut_shorten w' w' s (omega arith) (subst₂ Cut n o c)) ]
        inside (y ∷ t) m n = cut_asym c (subst₂ Cut (sym i) (sym n) (cut_append w' w' (h.least (a ∷ u) (y ∷ t) m (omega arith) (omega arith))))

        beyond : (t : List ℕ) → a ∷ u ≡ x ++ t → w' ≡ t ++ v → Prefix w' w → ⊥
        beyond t m n (prefix s o) =
            ih w' (omega (arith, ap length i, length-append x w', h.some)) h j t v n (cut_shorten v w' s (omega (arith, ap length n, length-append t v)) (subst (λ r. Cut v r) o c))

pub lyndon_extends_pre : {x w : List ℕ} → Lyndon x → Extends x w → Prenecklace w
lyndon_extends_pre {x} {w} h e = extends_pre (suc (length w)) x w (omega arith) h e

-- .. and every prenecklace is one, of a Lyndon word not longer than itself
pub data Sesquipower (w : List ℕ) : Type 0 where
  sesquipower : (x : List ℕ) → Lyndon x → Extends x w → length x ≤ length w → Sesquipower w

grow : (x v : List ℕ) (a : ℕ) → Lyndon x → Extends x v → length x ≤ length v → Prenecklace (v ++ (a ∷ [])) → Sesquipower (v ++ (a ∷ []))
grow x v a h e l p = elim e [ extends q ↦ elim q [ prefix t f ↦ by_letter t f ] ]
  where
    by_letter : (t : List ℕ) → x ++ v ≡ v ++ t → Sesquipower (v ++ (a ∷ []))
    by_letter [] f = absurd (omega (arith, ap length f, length-append x v, length-append v [], h.some))
    by_letter (b ∷ t) f = elim (cmp a b) [ less g ↦ absurd (too_small g (extends_long e l)) | equal g ↦ same_letter g | more g ↦ larger g ]
      where
        extended : Extends x (v ++ (b ∷ []))
        extended =
            let one : Prefix (v ++ (b ∷ [])) (x ++ v) = prefix t (f ∙ sym (append_assoc v (b ∷ []) t)) in
            extends (subst (λ r. Prefix (v ++ (b ∷ [])) r) (append_assoc x v (b ∷ [])) (prefix_append (b ∷ []) one))

        same_letter : a ≡ b → Sesquipower (v ++ (a ∷ []))
        same_letter g =
            sesquipower x h (subst (λ r. Extends x (v ++ (r ∷ []))) (sym g) extended) (omega (arith, length-append v (a ∷ [])))

        larger : b < a → Sesquipower (v ++ (a ∷ []))
        larger g =
            sesquipower (v ++ (a ∷ [])) (raise_last v b a (lyndon_extends_pre h extended) g) (extends_self (v ++ (a ∷ []))) (omega arith)

        too_small : a < b → Behind x v → ⊥
        too_small g (behind v' i j k) =
            let m : v ≡ v' ++ (b ∷ t) = cancel_left x v (v' ++ (b ∷ t)) (f ∙ ap (λ r. r ++ (b ∷ t)) i ∙ append_assoc x v' (b ∷ t)) in
            let c : Cut (v' ++ (a ∷ [])) v = subst (λ r. Cut (v' ++ (a ∷ [])) r) (sym m) (cut_at_letter v' [] t g) in
            p x (v' ++ (a ∷ [])) (ap (λ r. r ++ (a ∷ [])) i ∙ append_assoc x v' (a ∷ []))
            (subst (λ r. Cut r (v ++ (a ∷ []))) (append-nil (v' ++ (a ∷ []))) (cut_append [] (a ∷ []) c))

sesqui_on : (v t : List ℕ) → Sesquipower v → Prenecklace (v ++ t) → Sesquipower (v ++ t)
sesqui_on v [] s p = subst Sesquipower (sym (append-nil v)) s
sesqui_on v (a ∷ t) (sesquipower x h e l) p =
    let q : v ++ (a ∷ t) ≡ (v ++ (a ∷ [])) ++ t = sym (append_assoc v (a ∷ []) t) in
    let r : Prenecklace ((v ++ (a ∷ [])) ++ t) = subst Prenecklace q p in
    subst Sesquipower (sym q) (sesqui_on (v ++ (a ∷ [])) t (grow x v a h e l (pre_prefix (v ++ (a ∷ [])) t r)) r)

pub pre_extends : (w : List ℕ) → 0 < length w → Prenecklace w → Sesquipower w
pre_extends [] h p = absurd (omega arith)
pre_extends (a ∷ w) h p = sesqui_on (a ∷ []) w (sesquipower (a ∷ []) (one_letter a) (extends_self (a ∷ [])) (omega arith)) p

-- a word that begins a prenecklace has all its powers at or below it
pub pre_power : (c : ℕ) {l y : List ℕ} → Prenecklace y → Prefix l y → ¬ Cut y (repeated c l)
pre_power zero {y = []} h p k = elim k [ ]
pre_power zero {y = b ∷ y} h p k = elim k [ ]
pre_power (suc c) {l} {y} h (prefix t e) k =
    let q : Cut t (repeated c l) = cut_unprefix l (subst (λ r. Cut r (l ++ repeated c l)) e k) in
    elim (cut_mid y q (omega (arith, ap length e, length-append l t))) [ inl r ↦ pre_power c h (prefix t e) r | inr r ↦ h l t e r ]

-- where a power of a Lyndon word may be split: between two copies, or the rest is above it
pub data PowerSplit (x : List ℕ) (e : ℕ) (u v : List ℕ) : Type 0 where
  between : (i j : ℕ) → u ≡ repeated i x → v ≡ repeated j x → PowerSplit x e u v
  within : Cut (repeated e x) v → PowerSplit x e u v

pub power_split : (e : ℕ) (x u v : List ℕ) → Lyndon x → repeated e x ≡ u ++ v → PowerSplit x e u v
power_split zero x u v h f =
    between 0 0 (nil_of u (omega (arith, ap length f, length-append u v))) (nil_of v (omega (arith, ap length f, length-append u v)))
power_split (suc e) x u v h f = elim (levi x (repeated e x) u v f) [ longer t i j ↦ inside u t i j | shorter t i j ↦ beyond t i (power_split e x t v h j) ]
  where
    beyond : (t : List ℕ) → u ≡ x ++ t → PowerSplit x e t v → PowerSplit x (suc e) u v
    beyond t i (between m n p q) = between (suc m) n (i ∙ ap (λ r. x ++ r) p) q
    beyond t i (within c) =
        within (subst₂ Cut (repeated_snoc e x) (append-nil v) (cut_append x [] c))

    inside : (u t : List ℕ) → x ≡ u ++ t → v ≡ t ++ repeated e x → PowerSplit x (suc e) u v
    inside [] t i j = between 0 (suc e) refl (j ∙ ap (λ r. r ++ repeated e x) (sym i))
    inside (a ∷ u) [] i j = between 1 e (sym (append-nil (a ∷ u)) ∙ sym i ∙ sym (append-nil x)) j
    inside (a ∷ u) (b ∷ t) i j =
        within (subst (λ r. Cut (x ++ repeated e x) r) (sym j) (cut_append (repeated e x) (repeated e x) (h.least (a ∷ u) (b ∷ t) i (omega arith) (omega arith))))

pub power_necklace : (e : ℕ) {x : List ℕ} → Lyndon x → Necklace (repeated e x)
power_necklace e {x} h u v f = go (power_split e x u v h f)
  where
    go : PowerSplit x e u v → Le (repeated e x) (v ++ u)
    go (between i j p q) = eq_le (f ∙ ap₂ ◌++◌ p q ∙ repeated_comm i j x ∙ sym (ap₂ ◌++◌ q p))
    go (within c) = lt_le (cut_lt (subst (λ r. Cut r (v ++ u)) (append-nil (repeated e x)) (cut_append [] u c)))

-- a power of a Lyndon word is fixed by no rotation by less than that word's length
pub no_fixed_turn : (e : ℕ) {x : List ℕ} (t s : List ℕ) → Lyndon x → repeated e x ≡ t ++ s → repeated e x ≡ s ++ t → length t < length x → length t ≡ 0
no_fixed_turn e {x} t s h f g l = go (power_split e x t s h f)
  where
    go : PowerSplit x e t s → length t ≡ 0
    go (between zero j p q) = ap length p
    go (between (suc i) j p q) = absurd (omega (arith, ap length p, length-append x (repeated i x)))
    go (within c) =
        absurd (cut_irrefl (subst₂ Cut (append-nil (repeated e x)) (sym g) (cut_append [] t c)))

-- its shortest root is that word
pub power_root : (e : ℕ) {x : List ℕ} → Lyndon x → root (repeated (suc e) x) ≡ length x
power_root e {x} h = le_antisymm (root_least some (is_root_lem (suc e) x refl refl h.some)) (at_least (root_is (repeated (suc e) x) some))
  where
    some : 0 < length (repeated (suc e) x)
    some = omega (arith, length-append x (repeated e x), h.some)

    at_least : Root (root (repeated (suc e) x)) (repeated (suc e) x) → length x ≤ root (repeated (suc e) x)
    at_least (is_root_lem zero t f g k) = absurd (omega (arith, some, ap length f))
    at_least (is_root_lem (suc d) t f g k) = elim (split (length x) (root (repeated (suc e) x))) [
      | upto l ↦ l
      | over l ↦ absurd (omega (arith, no_fixed_turn (suc e) t (repeated d t) h f (f ∙ sym (repeated_snoc d t)) (omega arith)))
    ]

-- and it is the only one
pub power_one : (d e : ℕ) {x y : List ℕ} → Lyndon x → Lyndon y → repeated (suc d) x ≡ repeated (suc e) y → (x ≡ y) × (d ≡ e)
power_one d e {x} {y} h k f =
    let n : length x ≡ length y = sym (power_root d h) ∙ ap root f ∙ power_root e k in
    let q : x ≡ y = (split_same x (repeated d x) y (repeated e y) f n).0 in
    let m : suc d * length x ≡ suc e * length x = sym (repeated-length (suc d) x) ∙ ap length f ∙ repeated-length (suc e) y ∙ ap (λ r. suc e * r) (sym n) in
    (q, omega (arith, eq_of_mul-eq-mul_right (length x) h.some (suc d) (suc e) m))

-- the order of Lyndon words is that of their powers of one length
pub power_lt : (d e : ℕ) {x y : List ℕ} → Lyndon x → Lyndon y → length (repeated (suc d) x) ≡ length (repeated (suc e) y)
    → Lt x y → Lt (repeated (suc d) x) (repeated (suc e) y)
power_lt d e {x} {y} h k n l = elim (cut_or l) [
  | inl c ↦ cut_lt (cut_append (repeated d x) (repeated e y) c)
  | inr p ↦ elim (tri (repeated (suc d) x) (repeated (suc e) y)) [
    | is_lt q ↦ q
    | is_eq q ↦ absurd (lt_irrefl (subst (λ r. Lt x r) (sym (power_one d e h k q).0) l))
    | is_gt q ↦ absurd (pre_power (suc d) (necklace_pre (power_necklace (suc e) k)) (prefix_append (repeated e y) p) (lt_cut q (omega arith)))
  ]
]

pub power_lt_out : (d e : ℕ) {x y : List ℕ} → Lyndon x → Lyndon y → length (repeated (suc d) x) ≡ length (repeated (suc e) y)
    → Lt (repeated (suc d) x) (repeated (suc e) y) → Lt x y
power_lt_out d e {x} {y} h k n l = elim (tri x y) [
  | is_lt q ↦ q
  | is_eq q ↦ absurd (same_base q)
  | is_gt q ↦ absurd (lt_asym l (power_lt e d k h (sym n) q))
]
  where
    same_base : x ≡ y → ⊥
    same_base q =
        let m : suc d * length x ≡ suc e * length x = sym (repeated-length (suc d) x) ∙ n ∙ repeated-length (suc e) y ∙ ap (λ r. suc e * length r) (sym q) in
        let i : d ≡ e = omega (arith, eq_of_mul-eq-mul_right (length x) h.some (suc d) (suc e) m) in
        lt_irrefl (subst (λ r. Lt (repeated (suc d) x) r) (sym (ap₂ (λ a b. repeated (suc a) b) i q)) l)

-- a necklace is a power of a Lyndon word
pub data Power (w : List ℕ) : Type 0 where
  power : (x : List ℕ) (e : ℕ) → Lyndon x → w ≡ repeated (suc e) x → Power w

pub necklace_power : (w : List ℕ) → 0 < length w → Necklace w → Power w
necklace_power w some h = elim (pre_extends w some (necklace_pre h)) [ sesquipower x k e l ↦ whole x k l (extends_periods (suc (length w)) (omega arith) k.some e) ]
  where
    whole : (x : List ℕ) → Lyndon x → length x ≤ length w → Periods x w → Power w
    whole x k l (periods zero s y f g i) = absurd (omega (arith, ap length f, ap length g, length-append s y))
    whole x k l (periods (suc q) [] y f g i) = power x q k (f ∙ append-nil (repeated (suc q) x))
    whole x k l (periods (suc q) (a ∷ s) y f g i) =
        let c : Cut x y = k.least (a ∷ s) y g (omega arith) i in
        let d : Cut ((a ∷ s) ++ repeated (suc q) x) ((a ∷ s) ++ (y ++ (repeated q x ++ (a ∷ s)))) = cut_prefix (a ∷ s) (cut_append (repeated q x) (repeated q x ++ (a ∷ s)) c) in
        let m : (a ∷ s) ++ (y ++ (repeated q x ++ (a ∷ s))) ≡ w = sym (append_assoc (a ∷ s) y (repeated q x ++ (a ∷ s))) ∙ ap (λ r. r ++ (repeated q x ++ (a ∷ s))) (sym g) ∙ sym (append_assoc x (repeated q x) (a ∷ s)) ∙ sym f in
        absurd (le_not_lt (h (repeated (suc q) x) (a ∷ s) f) (cut_lt (subst (λ r. Cut ((a ∷ s) ++ repeated (suc q) x) r) m d)))

-- the smallest rotation
pub data Least (w s : List ℕ) (l i : ℕ) (b : List ℕ) : Type 0 where
  least : Rot w s → Le s b → ((j : ℕ) → i ≤ j → j < i + l → Le s (turned j w)) → Least w s l i b

least_from_lem : (l i : ℕ) (w b : List ℕ) → Rot w b → Least w (least_from l i w b) l i b
least_from_lem zero i w b r = least r (le_refl b) (λ j g h. absurd (omega arith))
least_from_lem (suc l) i w b r = elim (test (below (turned i w) b)) [ inl t ↦ rw t (lower (below_lt _ _ t) (least_from_lem l (suc i) w (turned i w) (turned_rot i w))) | inr t ↦ rw t (stay (not_below t) (least_from_lem l (suc i) w b r)) ]
  where
    at : {s : List ℕ} → Le s (turned i w) → ((j : ℕ) → suc i ≤ j → j < suc i + l → Le s (turned j w)) → (j : ℕ) → i ≤ j → j < i + suc l → Le s (turned j w)
    at {s} p f j g h = elim (cmp i j) [ less k ↦ f j (omega arith) (omega arith) | equal k ↦ subst (λ r. Le s (turned r w)) k p | more k ↦ absurd (omega arith) ]

    lower : Lt (turned i w) b → Least w (least_from l (suc i) w (turned i w)) l (suc i) (turned i w) → Least w (least_from l (suc i) w (turned i w)) (suc l) i b
    lower t (least a p f) = least a (le_trans p (lt_le t)) (at p f)

    stay : Le b (turned i w) → Least w (least_from l (suc i) w b) l (suc i) b → Least w (least_from l (suc i) w b) (suc l) i b
    stay t (least a p f) = least a p (at (le_trans p t) f)

pub smallest_rot : (w : List ℕ) → Rot w (smallest w)
smallest_rot w = elim (least_from_lem (length w - 1) 1 w w (rot_refl w)) [ least r p f ↦ r ]

pub smallest_le : {w v : List ℕ} → Rot w v → Le (smallest w) v
smallest_le {w} {v} (rot a b e f) = elim (least_from_lem (length w - 1) 1 w w (rot_refl w)) [ least r p g ↦ go a b e f p g ]
  where
    go : (a b : List ℕ) → w ≡ a ++ b → v ≡ b ++ a → Le (smallest w) w → ((j : ℕ) → 1 ≤ j → j < 1 + (length w - 1) → Le (smallest w) (turned j w)) → Le (smallest w) v
    go [] b e f p g = subst (λ r. Le (smallest w) r) (e ∙ sym (append-nil b) ∙ sym f) p
    go (x ∷ a) [] e f p g = subst (λ r. Le (smallest w) r) (e ∙ append-nil (x ∷ a) ∙ sym f) p
    go (x ∷ a) (y ∷ b) e f p g =
        let q : turned (length (x ∷ a)) w ≡ v = ap (turned (length (x ∷ a))) e ∙ turned_parts (x ∷ a) (y ∷ b) ∙ sym f in
        subst (λ r. Le (smallest w) r) q (g (length (x ∷ a)) (omega arith) (omega (arith, ap length e, length-append (x ∷ a) (y ∷ b))))

pub smallest_necklace : (w : List ℕ) → Necklace (smallest w)
smallest_necklace w u v e = smallest_le (rot_trans (smallest_rot w) (rot u v e refl))

pub smallest_pre : (w : List ℕ) → smallest w ≡ w → Prenecklace w
smallest_pre w e = necklace_pre (subst Necklace e (smallest_necklace w))

pub necklace_le : {w v : List ℕ} → Necklace w → Rot w v → Le w v
necklace_le {w} h (rot a b e f) = subst (λ r. Le w r) (sym f) (h a b e)

pub smallest_is : {w v : List ℕ} → Rot w v → Necklace v → smallest w ≡ v
smallest_is {w} {v} r h = le_antisym (smallest_le r) (necklace_le h (rot_trans (rot_sym r) (smallest_rot w)))

pub smallest-marks : (k : ℕ) (w : List ℕ) → marks_ok k w ≡ true → marks_ok k (smallest w) ≡ true
smallest-marks k w h = marks_rot k (smallest_rot w) h

pub smallest-length : (w : List ℕ) → length (smallest w) ≡ length w
smallest-length w = sym (rot_length (smallest_rot w))

-- every word is a rotation of a power of a Lyndon word, whose length is its shortest root
pub data Base (w : List ℕ) : Type 0 where
  base : (u : List ℕ) (e : ℕ) → Lyndon u → smallest w ≡ repeated (suc e) u → root w ≡ length u → Base w

pub base_of_lem : (w : List ℕ) → 0 < length w → Base w
base_of_lem w h =
    let some : 0 < length (smallest w) = omega (arith, smallest-length w) in
    elim (necklace_power (smallest w) some (smallest_necklace w)) [
      | power u e k f ↦ base u e k f (same-root (smallest_rot w) h ∙ ap root f ∙ power_root e k)
    ]

-- by one turn only
pub turn_once : (e : ℕ) {x : List ℕ} (a b c d : List ℕ) → Lyndon x → repeated e x ≡ a ++ b → repeated e x ≡ c ++ d → b ++ a ≡ d ++ c
    → length a ≤ length c → length c < length x → length a ≡ length c
turn_once e {x} a b c d h f g i l m = elim (levi b a d c i) [
  | longer t j k ↦ fixed t j k
  | shorter t j k ↦ omega (arith, ap length j, ap length k, length-append b t, length-append t c)
]
  where
    fixed : (t : List ℕ) → b ≡ d ++ t → c ≡ t ++ a → length a ≡ length c
    fixed t j k =
        let p : repeated e x ≡ t ++ (a ++ d) = g ∙ ap (λ r. r ++ d) k ∙ append_assoc t a d in
        let q : repeated e x ≡ (a ++ d) ++ t = f ∙ ap (λ r. a ++ r) j ∙ sym (append_assoc a d t) in
        omega (arith, no_fixed_turn e t (a ++ d) h p q (omega (arith, ap length k, length-append t a)), ap length k, length-append t a)

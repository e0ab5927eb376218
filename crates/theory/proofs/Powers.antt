-- Powers of a word, its extensions (document 003's sesquipowers), shortest roots and rotations of powers.
use mathlib.Core.Path.{◌≡◌, refl, sym, ◌∙◌, ap, ap₂, subst}
use mathlib.Core.Bool.{true, false, false≢true}
use mathlib.Core.List.{List, [], ◌++◌, append_assoc, append-nil}
use mathlib.Core.Logic.{inl, inr}
use Prim.Native.Nat.{ℕ, zero, suc, ◌+◌, ◌*◌, ◌/◌, ◌%◌, ◌≤◌, ◌<◌}
use native.Mathlib.Omega.{arith}
use native.Mathlib.Nat.{mul-mod_left, mul-div_cancel, div-add-mod', zero-mul, suc-mul, le-mul_of_pos_right, suc-add}
use lib.Dec.{eqb, leb}
use lib.ListN.{length, take, drop, length-append, take-append-drop}
use lib.Seq.{take-append_seam, length-take-le}
use borrow.Author.Tests.{leb-true, le-leb, eqb-true, eq-eqb}
use Rattle.theory.specs.Words.{turned, repeated, is_root, root_from, root, marks_ok}
use Rattle.theory.specs.Steps.{extension}
use Rattle.theory.proofs.Base.{test, and_l, and_r, and_in, Cmp, less, equal, more, cmp, Split, upto, over, split, nil_of, levi, longer, shorter}
use Rattle.theory.proofs.Order.{Prefix, prefix, same_eq, eq_same, prefix_trans, prefix_under, prefix_drop, prefix_both, prefix_eq}
use Rattle.theory.proofs.Letters.{marks_left, marks_right, marks-append}
use Rattle.theory.specs.Rings.{divides}
use Rattle.theory.proofs.Divisors.{times, divides_in}

-- powers
pub repeated-length : (e : ℕ) (u : List ℕ) → length (repeated e u) ≡ e * length u
repeated-length zero u = sym (zero-mul (length u))
repeated-length (suc e) u = length-append u (repeated e u) ∙ omega (arith, repeated-length e u)

pub repeated_snoc : (e : ℕ) (u : List ℕ) → repeated e u ++ u ≡ u ++ repeated e u
repeated_snoc zero u = sym (append-nil u)
repeated_snoc (suc e) u = append_assoc u (repeated e u) u ∙ ap (λ r. u ++ r) (repeated_snoc e u)

pub repeated_add : (d e : ℕ) (u : List ℕ) → repeated (d + e) u ≡ repeated d u ++ repeated e u
repeated_add zero e u = ap (λ r. repeated r u) (native.Mathlib.Nat.zero-add e)
repeated_add (suc d) e u =
    ap (λ r. repeated r u) (suc-add d e) ∙ ap (λ r. u ++ r) (repeated_add d e u) ∙ sym (append_assoc u (repeated d u) (repeated e u))

pub repeated_comm : (d e : ℕ) (u : List ℕ) → repeated d u ++ repeated e u ≡ repeated e u ++ repeated d u
repeated_comm d e u = sym (repeated_add d e u) ∙ ap (λ r. repeated r u) (native.Mathlib.Nat.add_comm d e) ∙ repeated_add e d u

-- a power in the middle of a rotation
pub repeated_shift : (e : ℕ) (a b : List ℕ) → b ++ (repeated e (a ++ b) ++ a) ≡ repeated (suc e) (b ++ a)
repeated_shift zero a b = sym (append-nil (b ++ a))
repeated_shift (suc e) a b =
    let k : b ++ (((a ++ b) ++ repeated e (a ++ b)) ++ a) ≡ (b ++ a) ++ (b ++ (repeated e (a ++ b) ++ a)) = simp append_assoc in
    k ∙ ap (λ r. (b ++ a) ++ r) (repeated_shift e a b)

-- rotations of one word: v is w with a front part moved to the end
pub data Rot (w v : List ℕ) : Type 0 where
  rot : (a b : List ℕ) → w ≡ a ++ b → v ≡ b ++ a → Rot w v

pub rot_refl : (w : List ℕ) → Rot w w
rot_refl w = rot [] w refl (sym (append-nil w))

pub rot_sym : {w v : List ℕ} → Rot w v → Rot v w
rot_sym (rot a b e f) = rot b a f e

pub rot_trans : {w v x : List ℕ} → Rot w v → Rot v x → Rot w x
rot_trans {w} {v} {x} (rot a b e f) (rot c d g h) = elim (levi b a c d (sym f ∙ g)) [
  | longer t i j ↦ rot (a ++ c) t (e ∙ ap (λ r. a ++ r) i ∙ sym (append_assoc a c t)) (h ∙ ap (λ r. r ++ c) j ∙ append_assoc t a c)
  | shorter t i j ↦ rot t (d ++ b) (e ∙ ap (λ r. r ++ b) j ∙ append_assoc t d b) (h ∙ ap (λ r. d ++ r) i ∙ sym (append_assoc d b t))
]

pub rot_length : {w v : List ℕ} → Rot w v → length w ≡ length v
rot_length (rot a b e f) = omega (arith, ap length e, ap length f, length-append a b, length-append b a)

pub marks_rot : (k : ℕ) {w v : List ℕ} → Rot w v → marks_ok k w ≡ true → marks_ok k v ≡ true
marks_rot k {w} {v} (rot a b e f) h =
    let g : marks_ok k (a ++ b) ≡ true = rw e at h in
    rw f (marks-append k b a (marks_right k a b g) (marks_left k a b g))

pub turned_rot : (i : ℕ) (w : List ℕ) → Rot w (turned i w)
turned_rot i w = rot (take i w) (drop i w) (sym (take-append-drop i w)) refl

-- a rotation of a power of u turns by less than the length of u
pub data Turn (u v : List ℕ) (e : ℕ) : Type 0 where
  turn : (a b : List ℕ) → u ≡ a ++ b → 0 < length b → v ≡ b ++ (repeated e u ++ a) → Turn u v e

pub power_turn : (fuel : ℕ) (u a b : List ℕ) (e : ℕ) → length a < fuel → 0 < length u → repeated (suc e) u ≡ a ++ b → Turn u (b ++ a) e
power_turn zero u a b e h p f = absurd (omega arith)
power_turn (suc fuel) u a b e h p f = elim (split (length u) (length a)) [
  | upto g ↦ elim (levi u (repeated e u) a b f) [
    | longer t i j ↦ block (nil_of t (omega (arith, ap length i, length-append a t))) i j
    | shorter t i j ↦ more_blocks (power_turn fuel u) t i j
  ]
  | over g ↦ elim (levi u (repeated e u) a b f) [
    | longer t i j ↦ turn a t i (omega (arith, ap length i, length-append a t)) (ap (λ r. r ++ a) j ∙ append_assoc t (repeated e u) a)
    | shorter t i j ↦ absurd (omega (arith, ap length i, length-append u t))
  ]
]
  where
    whole : (b : List ℕ) → b ≡ repeated e u → Turn u (b ++ u) e
    whole b q = turn [] u refl p (ap (λ r. r ++ u) q ∙ repeated_snoc e u ∙ ap (λ r. u ++ r) (sym (append-nil (repeated e u))))

    block : {t : List ℕ} → t ≡ [] → u ≡ a ++ t → b ≡ t ++ repeated e u → Turn u (b ++ a) e
    block {t} q i j =
        let au : a ≡ u = sym (append-nil a) ∙ ap (λ r. a ++ r) (sym q) ∙ sym i in
        subst (λ r. Turn u (b ++ r) e) (sym au) (whole b (j ∙ ap (λ r. r ++ repeated e u) q))

    more_blocks : ((a b : List ℕ) (e : ℕ) → length a < fuel → 0 < length u → repeated (suc e) u ≡ a ++ b → Turn u (b ++ a) e)
        → (t : List ℕ) → a ≡ u ++ t → repeated e u ≡ t ++ b → Turn u (b ++ a) e
    more_blocks ih t i j =
        let k : repeated (suc e) u ≡ t ++ (b ++ u) = sym (repeated_snoc e u) ∙ ap (λ r. r ++ u) j ∙ append_assoc t b u in
        let r : Turn u ((b ++ u) ++ t) e = ih t (b ++ u) e (omega (arith, ap length i, length-append u t)) p k in
        subst (λ x. Turn u x e) (append_assoc b u t ∙ ap (λ x. b ++ x) (sym i)) r

pub power_rotation : {u v : List ℕ} {e : ℕ} → Turn u v e → (t : List ℕ) × (length t ≡ length u) × (v ≡ repeated (suc e) t)
power_rotation {u} {v} {e} (turn a b f g h) = (
  b ++ a,
  omega (arith, ap length f, length-append a b, length-append b a),
  h ∙ ap (λ r. b ++ (repeated e r ++ a)) f ∙ repeated_shift e a b,
)

-- shortest roots
pub data Root (d : ℕ) (w : List ℕ) : Type 0 where
  is_root_lem : (e : ℕ) (t : List ℕ) → w ≡ repeated e t → length t ≡ d → 0 < d → Root d w

pub root_in : (d : ℕ) (w : List ℕ) → is_root d w ≡ true → 0 < length w → Root d w
root_in d w h n = is_root_lem (length w / d) (take d w) (sym (same_eq _ w (and_r (eqb (length w % d) 0) _ (and_r (leb 1 d) _ h)))) (length-take-le d w fits) (leb-true 1 d (and_l _ _ h))
  where
    whole : length w / d * d ≡ length w
    whole = omega (arith, div-add-mod' (length w) d, eqb-true (length w % d) 0 (and_l _ _ (and_r (leb 1 d) _ h)))

    fits : d ≤ length w
    fits = go (length w / d) whole
      where
        go : (q : ℕ) → q * d ≡ length w → d ≤ length w
        go zero e = absurd (omega (arith, zero-mul d))
        go (suc q) e = omega (arith, suc-mul q d)

pub root_out : {d : ℕ} {w : List ℕ} → 0 < length w → Root d w → is_root d w ≡ true
root_out {d} {w} p (is_root_lem zero t f g h) = absurd (omega (arith, ap length f))
root_out {d} {w} p (is_root_lem (suc e) t f g h) =
    let n : length w ≡ suc e * d = ap length f ∙ repeated-length (suc e) t ∙ ap (λ r. suc e * r) g in
    let q : length w / d ≡ suc e = ap (λ r. r / d) n ∙ mul-div_cancel (suc e) h in
    let m : length w % d ≡ 0 = ap (λ r. r % d) n ∙ mul-mod_left (suc e) d in
    let k : take d w ≡ t = ap₂ take (sym g) f ∙ take-append_seam t (repeated e t) in
    and_in (le-leb 1 d h) (and_in (eq-eqb _ 0 m) (eq_same (ap₂ repeated q k ∙ sym f)))

root_from_lem : (l d : ℕ) (w : List ℕ) (j : ℕ) → d ≤ j → j < d + l → is_root j w ≡ true
    → (is_root (root_from l d w) w ≡ true) × (d ≤ root_from l d w) × (root_from l d w ≤ j)
root_from_lem zero d w j a b h = absurd (omega arith)
root_from_lem (suc l) d w j a b h = elim (test (is_root d w)) [ inl t ↦ rw (t, root_from) (t, omega arith, a) | inr t ↦ rw (t, root_from) (on t (cmp d j) (root_from_lem l (suc d) w j)) ]
  where
    on : is_root d w ≡ false → Cmp d j
        → (suc d ≤ j → j < suc d + l → is_root j w ≡ true → (is_root (root_from l (suc d) w) w ≡ true) × (suc d ≤ root_from l (suc d) w) × (root_from l (suc d) w ≤ j))
        → (is_root (root_from l (suc d) w) w ≡ true) × (d ≤ root_from l (suc d) w) × (root_from l (suc d) w ≤ j)
    on t (less g) ih = let r = ih (omega arith) (omega arith) h in (r.0, omega (arith, r.1), r.2)
    on t (equal g) ih = absurd (false≢true (sym t ∙ ap (λ r. is_root r w) g ∙ h))
    on t (more g) ih = absurd (omega arith)

pub whole-root : (w : List ℕ) → 0 < length w → Root (length w) w
whole-root w h = is_root_lem 1 w (sym (append-nil w)) refl h

pub root_is : (w : List ℕ) → 0 < length w → Root (root w) w
root_is w h = root_in (root w) w (root_from_lem (length w) 1 w (length w) h (omega arith) (root_out h (whole-root w h))).0 h

pub root-size : {d : ℕ} {w : List ℕ} → 0 < length w → Root d w → d ≤ length w
root-size {d} {w} p (is_root_lem zero t f g h) = absurd (omega (arith, ap length f))
root-size {d} {w} p (is_root_lem (suc e) t f g h) = omega (arith, ap length f, length-append t (repeated e t))

pub root_least : {d : ℕ} {w : List ℕ} → 0 < length w → Root d w → root w ≤ d
root_least {d} {w} p r = (root_from_lem (length w) 1 w d (positive r) (omega (arith, root-size p r)) (root_out p r)).2
  where
    positive : Root d w → 1 ≤ d
    positive (is_root_lem e t f g h) = h

pub root-divides : (w : List ℕ) → 0 < length w → divides (root w) (length w) ≡ true
root-divides w h = at (root_is w h)
  where
    at : Root (root w) w → divides (root w) (length w) ≡ true
    at (is_root_lem e t f g k) = divides_in k (times e (ap length f ∙ repeated-length e t ∙ ap (λ x. e * x) g))

-- a rotation keeps roots
pub root_rot : {d : ℕ} {w v : List ℕ} → Rot w v → 0 < length w → Root d w → Root d v
root_rot {d} {w} {v} (rot a b e f) p (is_root_lem zero t g h i) = absurd (omega (arith, ap length g))
root_rot {d} {w} {v} (rot a b e f) p (is_root_lem (suc n) t g h i) =
    let (s, j, k) = power_rotation (power_turn (suc (length a)) t a b n (omega arith) (omega arith) (sym g ∙ e)) in
    is_root_lem (suc n) s (f ∙ k) (j ∙ h) i

pub same-root : {w v : List ℕ} → Rot w v → 0 < length w → root w ≡ root v
same-root {w} {v} r p =
    let q : 0 < length v = omega (arith, rot_length r) in
    native.Mathlib.Nat.le_antisymm (root_least p (root_rot (rot_sym r) q (root_is v q))) (root_least q (root_rot r p (root_is w p)))

-- extensions: w begins x x x ..
pub data Extends (x w : List ℕ) : Type 0 where
  extends : Prefix w (x ++ w) → Extends x w

pub extends_prefix : {x v w : List ℕ} → Extends x w → Prefix v w → Extends x v
extends_prefix {x} {v} {w} (extends e) p = extends (prefix_both (prefix_trans p e) (prefix_under x p) (omega (arith, length-append x v)))

pub extends_self : (x : List ℕ) → Extends x x
extends_self x = extends (prefix x refl)

pub extends_power : (e : ℕ) (x : List ℕ) → Extends x (repeated e x)
extends_power e x = extends (prefix x (sym (repeated_snoc e x)))

-- one period less
pub data Behind (x w : List ℕ) : Type 0 where
  behind : (v : List ℕ) → w ≡ x ++ v → Extends x v → Prefix v w → Behind x w

pub extends_long : {x w : List ℕ} → Extends x w → length x ≤ length w → Behind x w
extends_long {x} {w} (extends e) h = go (prefix_both (prefix w refl) e h)
  where
    go : Prefix x w → Behind x w
    go (prefix v f) =
        let p : Prefix v (x ++ v) = prefix_drop x (subst (λ r. Prefix r (x ++ r)) f e) in
        behind v f (extends p) (subst (λ r. Prefix v r) (sym f) p)

pub extends_short : {x w : List ℕ} → Extends x w → length w ≤ length x → Prefix w x
extends_short {x} {w} (extends e) h = prefix_both e (prefix w refl) h

-- extensions of one word are prefixes of each other
pub extends_one : (fuel : ℕ) {x w v : List ℕ} → length w < fuel → 0 < length x → Extends x w → Extends x v → length w ≤ length v → Prefix w v
extends_one zero l p e f h = absurd (omega arith)
extends_one (suc fuel) {x} {w} {v} l p e f h = elim (split (length w) (length x)) [ upto g ↦ front g (split (length v) (length x)) | over g ↦ both (λ w v. extends_one fuel {x = x} {w = w} {v = v}) (extends_long e (omega arith)) (extends_long f (omega arith)) ]
  where
    begins : Extends x v → length x ≤ length v → Prefix x v
    begins (extends f) k = prefix_both (prefix v refl) f k

    front : length w ≤ length x → Split (length v) (length x) → Prefix w v
    front g (upto k) = prefix_both (extends_short e g) (extends_short f k) h
    front g (over k) = prefix_trans (extends_short e g) (begins f (omega arith))

    both : ((w v : List ℕ) → length w < fuel → 0 < length x → Extends x w → Extends x v → length w ≤ length v → Prefix w v)
        → Behind x w → Behind x v → Prefix w v
    both ih (behind w' i j k) (behind v' i' j' k') =
        subst (λ r. Prefix r v) (sym i) (subst (λ r. Prefix (x ++ w') r) (sym i')
        (prefix_under x (ih w' v' (omega (arith, ap length i, length-append x w')) p j j'
        (omega (arith, ap length i, ap length i', length-append x w', length-append x v')))))

pub extends_same : {x w v : List ℕ} → 0 < length x → Extends x w → Extends x v → length w ≡ length v → w ≡ v
extends_same {x} {w} {v} p e f h = prefix_eq (extends_one (suc (length w)) (omega arith) p e f (omega arith)) (omega arith)

-- the specification's extension
pub extension-length : (m : ℕ) (x : List ℕ) → 0 < length x → length (extension m x) ≡ m
extension-length m x h = length-take-le m (repeated m x) (omega (arith, repeated-length m x, le-mul_of_pos_right m h))

pub extension_extends : (m : ℕ) (x : List ℕ) → Extends x (extension m x)
extension_extends m x = extends_prefix (extends_power m x) (prefix (drop m (repeated m x)) (sym (take-append-drop m (repeated m x))))

pub extends_extension : {x w : List ℕ} → 0 < length x → Extends x w → w ≡ extension (length w) x
extends_extension {x} {w} h e = extends_same h e (extension_extends (length w) x) (sym (extension-length (length w) x h))

-- an extension is some whole periods and a part of one
pub data Periods (x w : List ℕ) : Type 0 where
  periods : (q : ℕ) (s y : List ℕ) → w ≡ repeated q x ++ s → x ≡ s ++ y → 0 < length y → Periods x w

pub extends_periods : (fuel : ℕ) {x w : List ℕ} → length w < fuel → 0 < length x → Extends x w → Periods x w
extends_periods zero l p e = absurd (omega arith)
extends_periods (suc fuel) {x} {w} l p e = elim (split (length x) (length w)) [ upto g ↦ long (λ v. extends_periods fuel {x = x} {w = v}) (extends_long e g) | over g ↦ part (extends_short e (omega arith)) g ]
  where
    part : Prefix w x → length w < length x → Periods x w
    part (prefix y f) g = periods 0 w y refl f (omega (arith, ap length f, length-append w y))

    long : ((v : List ℕ) → length v < fuel → 0 < length x → Extends x v → Periods x v) → Behind x w → Periods x w
    long ih (behind v f h i) = elim (ih v (omega (arith, ap length f, length-append x v)) p h) [
      | periods q s y j k m ↦ periods (suc q) s y (f ∙ ap (λ r. x ++ r) j ∙ sym (append_assoc x (repeated q x) s)) k m
    ]

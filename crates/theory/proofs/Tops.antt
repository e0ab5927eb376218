-- Words over 0 to z, z the last letter: how they end in letters z, and where Lyndon words stand to z.
use mathlib.Core.Path.{◌≡◌, refl, sym, ◌∙◌, ap, ap₂, subst}
use mathlib.Core.Bool.{true}
use mathlib.Core.List.{List, List-discrete, [], ◌∷◌, ◌++◌, head-eq_of_cons-eq, tail-eq_of_cons-eq, nil≢cons}
use mathlib.Core.Logic.{◌≢◌}
use Prim.Native.Nat.{ℕ, zero, suc, ◌+◌, ◌-◌, ◌≤◌, ◌<◌}
use native.Mathlib.Omega.{arith}
use native.Mathlib.Decide.{ℕ_discrete}
use lib.ListN.{length, replicate, length-replicate, replicate-append-replicate}
use Rattle.theory.specs.Words.{marks_ok, repeated}
use Rattle.theory.specs.Prenecklaces.{Cut, differ, agree}
use Rattle.theory.proofs.Base.{Cmp, less, equal, more, cmp}
use Rattle.theory.proofs.Order.{Lt, now, later, Le, empty, sooner, further, not_lt}
use Rattle.theory.proofs.Letters.{marks_head, marks_tail}
use Rattle.theory.proofs.Lyndon.{Lyndon, append_top, one_letter}

-- k − 1 where k is suc z: native subtraction does not compute there
pub one_less : (z : ℕ) → suc z - 1 ≡ z
one_less z = omega arith

pub not_last : {z : ℕ} {x : List ℕ} → x ≢ (suc z - 1) ∷ [] → x ≢ z ∷ []
not_last {z} h e = h (e ∙ ap (λ r. r ∷ []) (sym (one_less z)))

-- all letters z, or a smaller letter before the last ones
pub data Top (z : ℕ) (w : List ℕ) : Type 0 where
  top : w ≡ replicate (length w) z → Top z w
  under : (p : List ℕ) (a t : ℕ) → w ≡ p ++ (a ∷ replicate t z) → a < z → Top z w

pub top_of : (z : ℕ) (w : List ℕ) → marks_ok (suc z) w ≡ true → Top z w
top_of z [] h = top refl
top_of z (b ∷ w) h = step (top_of z w (marks_tail (suc z) b w h)) (cmp b z)
  where
    step : Top z w → Cmp b z → Top z (b ∷ w)
    step (under p a t e l) c = under (b ∷ p) a t (ap (λ r. b ∷ r) e) l
    step (top e) (less l) = under [] b (length w) (ap (λ r. b ∷ r) e) l
    step (top e) (equal l) = top (rw (l, ← e))
    step (top e) (more l) = absurd (omega (arith, marks_head (suc z) b w h))

-- all letters z, or a smaller letter behind the first ones
pub data Lead (z : ℕ) (w : List ℕ) : Type 0 where
  all_top : w ≡ replicate (length w) z → Lead z w
  lead : (j a : ℕ) (r : List ℕ) → w ≡ replicate j z ++ (a ∷ r) → a < z → Lead z w

pub lead_of : (z : ℕ) (w : List ℕ) → marks_ok (suc z) w ≡ true → Lead z w
lead_of z [] h = all_top refl
lead_of z (b ∷ w) h = elim (cmp b z) [ less l ↦ lead 0 b w refl l | equal l ↦ step l (lead_of z w (marks_tail (suc z) b w h)) | more l ↦ absurd (omega (arith, marks_head (suc z) b w h)) ]
  where
    step : b ≡ z → Lead z w → Lead z (b ∷ w)
    step l (all_top e) = all_top (ap₂ ◌∷◌ l e)
    step l (lead j a r e i) = lead (suc j) a r (ap₂ ◌∷◌ l e) i

-- each letter of z z z .. is z
pub replicate_mid : (t z : ℕ) (u : List ℕ) {a : ℕ} (r : List ℕ) → replicate t z ≡ u ++ (a ∷ r) → a ≡ z
replicate_mid zero z [] r e = absurd (nil≢cons e)
replicate_mid zero z (b ∷ u) r e = absurd (nil≢cons e)
replicate_mid (suc t) z [] r e = sym (head-eq_of_cons-eq e)
replicate_mid (suc t) z (b ∷ u) r e = replicate_mid t z u r (tail-eq_of_cons-eq e)

-- parts of z z z ..
pub replicate_left : (t z : ℕ) (u v : List ℕ) → replicate t z ≡ u ++ v → u ≡ replicate (length u) z
replicate_left t z [] v e = refl
replicate_left zero z (b ∷ u) v e = absurd (nil≢cons e)
replicate_left (suc t) z (b ∷ u) v e = rw (← head-eq_of_cons-eq e, ← replicate_left t z u v (tail-eq_of_cons-eq e))

pub replicate_right : (t z : ℕ) (u v : List ℕ) → replicate t z ≡ u ++ v → v ≡ replicate (length v) z
replicate_right t z [] v e = sym e ∙ ap (λ r. replicate r z) (sym (length-replicate t z) ∙ ap length e)
replicate_right zero z (b ∷ u) v e = absurd (nil≢cons e)
replicate_right (suc t) z (b ∷ u) v e = replicate_right t z u v (tail-eq_of_cons-eq e)

pub replicate_split : (t r z : ℕ) → r ≤ t → replicate t z ≡ replicate (t - r) z ++ replicate r z
replicate_split t r z h =
    let e : t ≡ (t - r) + r = omega arith in
    ap (λ x. replicate x z) e ∙ sym (replicate-append-replicate (t - r) r z)

pub repeated_letter : (e z : ℕ) → repeated e (z ∷ []) ≡ replicate e z
repeated_letter zero z = refl
repeated_letter (suc e) z = ap (λ r. z ∷ r) (repeated_letter e z)

-- nothing of the same length is above z z z ..
pub no_higher : (m z : ℕ) (y : List ℕ) → length y ≤ m → marks_ok (suc z) y ≡ true → ¬ Lt (replicate m z) y
no_higher m z [] h k l = elim_nil (replicate m z) l
  where
    elim_nil : (u : List ℕ) → ¬ Lt u []
    elim_nil [] l = elim l [ ]
    elim_nil (x ∷ u) l = elim l [ ]
no_higher zero z (b ∷ y) h k l = absurd (omega arith)
no_higher (suc m) z (b ∷ y) h k (now l) = omega (arith, marks_head (suc z) b y k)
no_higher (suc m) z (b ∷ y) h k (later l) = no_higher m z y (omega arith) (marks_tail (suc z) b y k) l

-- no word over k letters is above the word of k−1 alone
pub top_le : (k n : ℕ) (x : List ℕ) → length x ≡ n → marks_ok k x ≡ true → Le x (replicate n (k - 1))
top_le zero n [] e m = empty
top_le zero n (a ∷ x) e m = absurd (omega (arith, marks_head zero a x m))
top_le (suc z) n x e m = subst (λ r. Le x (replicate n r)) (sym (one_less z)) (not_lt (no_higher n z x (omega arith) m))

-- a Lyndon word other than z begins with a smaller letter, and is below z
pub data Low (z : ℕ) (u : List ℕ) : Type 0 where
  low : (c : ℕ) (v : List ℕ) → u ≡ c ∷ v → c < z → Low z u

top_not_cut : (z : ℕ) (w : List ℕ) → marks_ok (suc z) w ≡ true → ¬ Cut (z ∷ w) w
top_not_cut z [] k c = elim c [ ]
top_not_cut z (b ∷ w) k (differ l) = omega (arith, marks_head (suc z) b w k)
top_not_cut z (b ∷ w) k (agree c) = top_not_cut z w (marks_tail (suc z) b w k) c

pub lyndon_low : (z : ℕ) (u : List ℕ) → Lyndon u → marks_ok (suc z) u ≡ true → u ≢ z ∷ [] → Low z u
lyndon_low z [] h k d = absurd (omega (arith, h.some))
lyndon_low z (c ∷ []) h k d = elim (cmp c z) [ less l ↦ low c [] refl l | equal l ↦ absurd (d (ap (λ r. r ∷ []) l)) | more l ↦ absurd (omega (arith, marks_head (suc z) c [] k)) ]
lyndon_low z (c ∷ (b ∷ v)) h k d = elim (cmp c z) [ less l ↦ low c (b ∷ v) refl l | equal l ↦ absurd (alone l) | more l ↦ absurd (omega (arith, marks_head (suc z) c (b ∷ v) k)) ]
  where
    alone : c ≡ z → ⊥
    alone l = top_not_cut z (b ∷ v) (marks_tail (suc z) c (b ∷ v) k) (subst (λ r. Cut (r ∷ (b ∷ v)) (b ∷ v)) l (h.least (c ∷ []) (b ∷ v) refl (omega arith) (omega arith)))

pub low_below : {z : ℕ} {u : List ℕ} → Low z u → Lt u (z ∷ [])
low_below {z} {u} (low c v e l) = subst (λ r. Lt r (z ∷ [])) (sym e) (now l)

-- the last Lyndon word but z: z−1 followed by letters z
pub data Last (z m : ℕ) (y : List ℕ) : Type 0 where
  is_z : y ≡ z ∷ [] → Last z m y
  not_above : Le y ((z - 1) ∷ replicate m z) → Last z m y

pub last_or : (z m : ℕ) (y : List ℕ) → 0 < z → Lyndon y → marks_ok (suc z) y ≡ true → length y ≤ suc m → Last z m y
last_or z m [] h g k l = absurd (omega (arith, g.some))
last_or z m (c ∷ v) h g k l = elim (List-discrete ℕ_discrete (c ∷ v) (z ∷ [])) [ yes e ↦ is_z e | no d ↦ under_z (lyndon_low z (c ∷ v) g k d) ]
  where
    under_z : Low z (c ∷ v) → Last z m (c ∷ v)
    under_z (low b u e i) = elim (cmp c (z - 1)) [
      | less j ↦ not_above (sooner j)
      | equal j ↦ not_above (subst (λ r. Le (r ∷ v) ((z - 1) ∷ replicate m z)) (sym j) (further (not_lt (no_higher m z v (omega arith) (marks_tail (suc z) c v k)))))
      | more j ↦ absurd (omega (arith, head-eq_of_cons-eq e))
    ]

pub last_lyndon : (z m : ℕ) → 0 < z → Lyndon ((z - 1) ∷ replicate m z)
last_lyndon z m h = append_top (z - 1) [] z m (omega arith) (one_letter (z - 1))

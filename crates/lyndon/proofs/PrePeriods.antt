-- The length of the Lyndon word that a word extends, `pre_period`: what it is, what it says back, and how it is found letter by letter.
use mathlib.Core.Path.{◌≡◌, refl, sym, ◌∙◌, ap, ap₂, subst}
use mathlib.Core.Bool.{true, false}
use mathlib.Core.List.{List, [], ◌∷◌, ◌++◌, append_assoc, append-nil}
use mathlib.Core.Logic.{inl, inr}
use Prim.Native.Nat.{ℕ, zero, suc, ◌+◌, ◌-◌, ◌*◌, ◌%◌, ◌≤◌, ◌<◌}
use native.Mathlib.Omega.{arith}
use native.Mathlib.Nat.{mul-mod_left}
use native.Mathlib.Numerals.{add-one}
use lib.Dec.{eqb}
use lib.ListN.{length, get_or, take, drop, length-append, drop_of_length-le}
use lib.Seq.{length-take-le, take-length, take-suc, split_at, get_or-take, get_or-append-add, get_or-append_seam}
use borrow.Author.Tests.{eqb-true, eq-eqb}
use Rattle.theory.specs.Words.{pick, same, is_lyndon, repeated}
use Rattle.theory.specs.Steps.{period_from, period, pre_period}
use Rattle.theory.specs.Floors.{is_necklace}
use Rattle.theory.specs.Prenecklaces.{Cut, Prenecklace}
use Rattle.theory.proofs.Base.{test, same_test, Cmp, cmp, less, equal, more, nil_of, cancel_left}
use Rattle.theory.proofs.Order.{Prefix, prefix, same_eq, eq_same, cut_append, cut_at_letter, prefix_append}
use Rattle.theory.proofs.Lyndon.{Lyndon, Necklace, lyndon_in, lyndon_out, lyndon_pre, one_letter, pre_prefix, raise_last}
use Rattle.theory.proofs.Powers.{repeated-length, Extends, extends, extends_self, extends_power, Behind, behind, extends_long}
use Rattle.theory.proofs.Necklaces.{lyndon_extends_pre, power_necklace, necklace_power, power}
use Rattle.theory.proofs.Steps.{period_is, first_period}
use Rattle.theory.proofs.Floors.{is_necklace_lem, necklace_is}
use Rattle.lyndon.proofs.Periods.{period_extends, whole_powers, powers}

-- the shortest period is one
record PeriodFrom (d : ℕ) (w : List ℕ) (p : ℕ) : Type 0 where
  after : d ≤ p
  fits : p ≤ length w
  again : drop p w ≡ take (length w - p) w

period_from_lem : (l d : ℕ) (w : List ℕ) → d + l ≡ length w → PeriodFrom d w (period_from (suc l) d w)
period_from_lem zero d w e =
    let past : length w ≤ d = omega arith in
    let none : length w - d ≡ 0 = omega arith in
    let whole : drop d w ≡ take (length w - d) w = drop_of_length-le w past ∙ sym (ap (λ r. take r w) none) in
    rw (eq_same whole, period_from) (record { after = omega arith; fits = omega arith; again = whole })
period_from_lem (suc l) d w e = elim (test (same (drop d w) (take (length w - d) w))) [
  | inl t ↦ rw (t, period_from) (record { after = omega arith; fits = omega arith; again = same_eq (drop d w) (take (length w - d) w) t })
  | inr t ↦ rw (t, period_from) (on (period_from_lem l (suc d) w (omega arith)))
]
  where
    on : {p : ℕ} → PeriodFrom (suc d) w p → PeriodFrom d w p
    on r = record { after = omega (arith, r.after); fits = r.fits; again = r.again }

of_period : (w : List ℕ) → 0 < length w → PeriodFrom 1 w (period w)
of_period [] h = absurd (omega arith)
of_period (a ∷ w) h = period_from_lem (length w) 1 (a ∷ w) (omega arith)

-- a word that extends a Lyndon word not longer than itself extends one only
pub pre_period_of : {x w : List ℕ} → Lyndon x → Extends x w → length x ≤ length w → pre_period w ≡ length x
pre_period_of {x} {w} l e h = rw (first_period l e h, lyndon_out l) (period_is l e h)

-- and so says its length, where it is not 0
pub record PrePeriod (w : List ℕ) : Type 0 where
  pub lyndon : Lyndon (take (pre_period w) w)
  pub goes_on : Extends (take (pre_period w) w) w
  pub some : 1 ≤ pre_period w
  pub fits : pre_period w ≤ length w
  pub size : length (take (pre_period w) w) ≡ pre_period w

pub pre_period_is : (w : List ℕ) → 0 < pre_period w → PrePeriod w
pre_period_is [] h = absurd (omega arith)
pre_period_is (a ∷ w) h = elim (test (is_lyndon (take (period (a ∷ w)) (a ∷ w)))) [
  | inl t ↦ at t (of_period (a ∷ w) (omega arith))
  | inr t ↦ absurd (none (rw t at h))
]
  where
    none : 0 < 0 → ⊥
    none g = omega arith

    at : is_lyndon (take (period (a ∷ w)) (a ∷ w)) ≡ true → PeriodFrom 1 (a ∷ w) (period (a ∷ w)) → PrePeriod (a ∷ w)
    at t r =
        let p : pre_period (a ∷ w) ≡ period (a ∷ w) = ap (λ b. pick b (period (a ∷ w)) 0) t in
        record {
          lyndon = subst (λ q. Lyndon (take q (a ∷ w))) (sym p) (lyndon_in (take (period (a ∷ w)) (a ∷ w)) t);
          goes_on = subst (λ q. Extends (take q (a ∷ w)) (a ∷ w)) (sym p) (period_extends (period (a ∷ w)) (a ∷ w) r.again);
          some = omega (arith, p, r.after);
          fits = omega (arith, p, r.fits);
          size = length-take-le (pre_period (a ∷ w)) (a ∷ w) (omega (arith, p, r.fits));
        }

pub pre_period_fits : (w : List ℕ) → pre_period w ≤ length w
pre_period_fits w = elim (cmp 0 (pre_period w)) [ less h ↦ (pre_period_is w h).fits | equal h ↦ omega arith | more h ↦ absurd (omega arith) ]

pub pre_period_pre : (w : List ℕ) → 0 < pre_period w → Prenecklace w
pre_period_pre w h = lyndon_extends_pre (pre_period_is w h).lyndon (pre_period_is w h).goes_on

pub pre_period-none : (w : List ℕ) → ¬ Prenecklace w → pre_period w ≡ 0
pre_period-none w n = elim (cmp 0 (pre_period w)) [ less h ↦ absurd (n (pre_period_pre w h)) | equal h ↦ sym h | more h ↦ absurd (omega arith) ]

-- the word is a Lyndon word if that is its length
pub lyndon_by_period : (w : List ℕ) → 0 < length w → eqb (pre_period w) (length w) ≡ is_lyndon w
lyndon_by_period w h = same_test (eqb (pre_period w) (length w)) (is_lyndon w) into out
  where
    into : eqb (pre_period w) (length w) ≡ true → is_lyndon w ≡ true
    into t =
        let n : pre_period w ≡ length w = eqb-true (pre_period w) (length w) t in
        lyndon_out (subst Lyndon (ap (λ r. take r w) n ∙ take-length w) (pre_period_is w (omega (arith, n))).lyndon)

    out : is_lyndon w ≡ true → eqb (pre_period w) (length w) ≡ true
    out t = eq-eqb (pre_period w) (length w) (pre_period_of (lyndon_in w t) (extends_self w) (omega arith))

-- a necklace if that divides its length
pub necklace_period : (w : List ℕ) → 0 < length w → Necklace w → (0 < pre_period w) × (length w % pre_period w ≡ 0)
necklace_period w h n = elim (necklace_power w h n) [ power x e l f ↦ at x e l f ]
  where
    at : (x : List ℕ) (e : ℕ) → Lyndon x → w ≡ repeated (suc e) x → (0 < pre_period w) × (length w % pre_period w ≡ 0)
    at x e l f =
        let p : pre_period w ≡ length x = pre_period_of l (subst (Extends x) (sym f) (extends_power (suc e) x)) (omega (arith, ap length f, length-append x (repeated e x))) in
        let m : length w ≡ suc e * length x = ap length f ∙ repeated-length (suc e) x in
        (omega (arith, p, l.some), ap₂ ◌%◌ m p ∙ mul-mod_left (suc e) (length x))

pub necklace_by_period : (w : List ℕ) → 0 < length w → ¬ (pre_period w ≡ 0) → eqb (length w % pre_period w) 0 ≡ is_necklace w
necklace_by_period w h some = same_test (eqb (length w % pre_period w) 0) (is_necklace w) into out
  where
    into : eqb (length w % pre_period w) 0 ≡ true → is_necklace w ≡ true
    into t =
        let r : PrePeriod w = pre_period_is w (omega (arith, some)) in
        let d : length w % length (take (pre_period w) w) ≡ 0 = ap (λ q. length w % q) r.size ∙ eqb-true (length w % pre_period w) 0 t in
        is_necklace_lem {w = w} (elim (whole_powers r.lyndon.some r.goes_on d) [
          | powers q f ↦ subst Necklace (sym f) (power_necklace q r.lyndon)
        ])

    out : is_necklace w ≡ true → eqb (length w % pre_period w) 0 ≡ true
    out t = eq-eqb (length w % pre_period w) 0 (necklace_period w h (necklace_is w t)).1

pub necklace_none : (w : List ℕ) → 0 < length w → pre_period w ≡ 0 → is_necklace w ≡ false
necklace_none w h z = elim (test (is_necklace w)) [
  | inl t ↦ absurd (omega (arith, (necklace_period w h (necklace_is w t)).0))
  | inr t ↦ t
]

-- letter by letter: the first i letters extend a Lyndon word of length p
pub data Periodic (w : List ℕ) (p i : ℕ) : Type 0 where
  periodic : (x : List ℕ) → Lyndon x → Extends x (take i w) → length x ≡ p → p ≤ i → Periodic w p i

-- the letter with which an extension goes on is the one a period back
data Next (x v : List ℕ) : Type 0 where
  next : (b : ℕ) (t : List ℕ) → x ++ v ≡ v ++ (b ∷ t) → b ≡ get_or v (length v - length x) 0 → Next x v

next_letter : {x v : List ℕ} → Lyndon x → Extends x v → length x ≤ length v → Next x v
next_letter {x} {v} l (extends (prefix [] f)) h = absurd (omega (arith, ap length f, length-append x v, length-append v [], l.some))
next_letter {x} {v} l (extends (prefix (b ∷ t) f)) h =
    let n : length v ≡ length x + (length v - length x) = omega arith in
    next b t f (sym (get_or-append_seam v b t 0) ∙ ap₂ (λ y i. get_or y i 0) (sym f) n ∙ get_or-append-add x v (length v - length x) 0)

keeps : {x : List ℕ} (v : List ℕ) (b : ℕ) (t : List ℕ) → x ++ v ≡ v ++ (b ∷ t) → Extends x (v ++ (b ∷ []))
keeps {x} v b t f =
    let one : Prefix (v ++ (b ∷ [])) (x ++ v) = prefix t (f ∙ sym (append_assoc v (b ∷ []) t)) in
    extends (subst (λ r. Prefix (v ++ (b ∷ [])) r) (append_assoc x v (b ∷ [])) (prefix_append (b ∷ []) one))

falls : {x v : List ℕ} {b : ℕ} (a : ℕ) (t : List ℕ) → x ++ v ≡ v ++ (b ∷ t) → a < b → Behind x v → ¬ Prenecklace (v ++ (a ∷ []))
falls {x} {v} {b} a t f l (behind v' i j k) p =
    let m : v ≡ v' ++ (b ∷ t) = cancel_left x v (v' ++ (b ∷ t)) (f ∙ ap (λ r. r ++ (b ∷ t)) i ∙ append_assoc x v' (b ∷ t)) in
    let c : Cut (v' ++ (a ∷ [])) v = subst (λ r. Cut (v' ++ (a ∷ [])) r) (sym m) (cut_at_letter v' [] t l) in
    p x (v' ++ (a ∷ [])) (ap (λ r. r ++ (a ∷ [])) i ∙ append_assoc x v' (a ∷ []))
    (subst (λ r. Cut r (v ++ (a ∷ []))) (append-nil (v' ++ (a ∷ []))) (cut_append [] (a ∷ []) c))

pub periodic_start : (w : List ℕ) → 0 < length w → Periodic w 1 1
periodic_start [] h = absurd (omega arith)
periodic_start (a ∷ w) h = periodic (a ∷ []) (one_letter a) (extends_self (a ∷ [])) refl (omega arith)

module _ (w : List ℕ) (p i : ℕ) (inside : i < length w) where
  size : length (take i w) ≡ i
  size = length-take-le i w (omega arith)

  longer : take (i + 1) w ≡ take i w ++ (get_or w i 0 ∷ [])
  longer = ap (λ r. take r w) (add-one i) ∙ take-suc w i 0 inside

  back : {x : List ℕ} {b : ℕ} → Lyndon x → length x ≡ p → p ≤ i → b ≡ get_or (take i w) (length (take i w) - length x) 0 → b ≡ get_or w (i - p) 0
  back {x} l n h e =
      let near : i - p < i = omega (arith, l.some) in
      e ∙ ap₂ (λ r s. get_or (take i w) (r - s) 0) size n ∙ get_or-take i w (i - p) 0 near

  pub periodic_keep : Periodic w p i → get_or w i 0 ≡ get_or w (i - p) 0 → Periodic w p (i + 1)
  periodic_keep (periodic x l e n h) q = elim (next_letter l e (omega (arith, size))) [
    | next b t f g ↦ periodic x l (subst (Extends x) (ap (λ r. take i w ++ (r ∷ [])) (back l n h g ∙ sym q) ∙ sym longer) (keeps (take i w) b t f)) n (omega arith)
  ]

  pub periodic_raise : Periodic w p i → get_or w (i - p) 0 < get_or w i 0 → Periodic w (i + 1) (i + 1)
  periodic_raise (periodic x l e n h) q = elim (next_letter l e (omega (arith, size))) [
    | next b t f g ↦ raised b (back l n h g) (raise_last (take i w) b (get_or w i 0) (lyndon_extends_pre l (keeps (take i w) b t f)) (omega (arith, back l n h g)))
  ]
    where
      raised : (b : ℕ) → b ≡ get_or w (i - p) 0 → Lyndon (take i w ++ (get_or w i 0 ∷ [])) → Periodic w (i + 1) (i + 1)
      raised b e k = periodic (take (i + 1) w) (subst Lyndon (sym longer) k) (extends_self (take (i + 1) w)) (length-take-le (i + 1) w (omega arith)) (omega arith)

  -- the next letter of a prenecklace is not below the one a period back; and each letter that is not makes one
  pub periodic_least : Periodic w p i → Prenecklace w → get_or w (i - p) 0 ≤ get_or w i 0
  periodic_least (periodic x l e n h) k = elim (next_letter l e (omega (arith, size))) [ next b t f g ↦ at b t f (back l n h g) (cmp (get_or w i 0) b) ]
    where
      begins : Prenecklace (take i w ++ (get_or w i 0 ∷ []))
      begins = pre_prefix (take i w ++ (get_or w i 0 ∷ [])) (drop (suc i) w) (subst Prenecklace (split_at w i 0 inside ∙ sym (append_assoc (take i w) (get_or w i 0 ∷ []) (drop (suc i) w))) k)

      at : (b : ℕ) (t : List ℕ) → x ++ take i w ≡ take i w ++ (b ∷ t) → b ≡ get_or w (i - p) 0 → Cmp (get_or w i 0) b → get_or w (i - p) 0 ≤ get_or w i 0
      at b t f g (less q) = absurd (falls (get_or w i 0) t f q (extends_long e (omega (arith, size))) begins)
      at b t f g (equal q) = omega arith
      at b t f g (more q) = omega arith

  pub periodic_open : Periodic w p i → (c : ℕ) → get_or w (i - p) 0 ≤ c → Prenecklace (take i w ++ (c ∷ []))
  periodic_open (periodic x l e n h) c q = elim (next_letter l e (omega (arith, size))) [ next b t f g ↦ at b (lyndon_extends_pre l (keeps (take i w) b t f)) (back l n h g) (cmp b c) ]
    where
      at : (b : ℕ) → Prenecklace (take i w ++ (b ∷ [])) → b ≡ get_or w (i - p) 0 → Cmp b c → Prenecklace (take i w ++ (c ∷ []))
      at b k g (less r) = lyndon_pre (raise_last (take i w) b c k r)
      at b k g (equal r) = subst (λ y. Prenecklace (take i w ++ (y ∷ []))) r k
      at b k g (more r) = absurd (omega arith)

  pub periodic_fall : Periodic w p i → get_or w i 0 < get_or w (i - p) 0 → pre_period w ≡ 0
  periodic_fall h q = pre_period-none w (λ k. omega (arith, periodic_least h k))

pub periodic_end : (w : List ℕ) (p i : ℕ) → i ≡ length w → Periodic w p i → pre_period w ≡ p
periodic_end w p i q (periodic x l e n h) =
    pre_period_of l (subst (Extends x) (ap (λ r. take r w) q ∙ take-length w) e) (omega arith) ∙ n

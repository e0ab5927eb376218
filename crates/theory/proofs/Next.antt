-- The step from one Lyndon word of length at most n to the next (document 003, section 1.4.2): it gives one, it is above, it is the
-- nearest, and it is longer until length n is reached.
use mathlib.Core.Path.{◌≡◌, refl, sym, ◌∙◌, ap, subst, subst₂}
use mathlib.Core.Bool.{true}
use mathlib.Core.List.{List, List-discrete, [], ◌∷◌, ◌++◌, append_assoc, append-nil, tail-eq_of_cons-eq}
use mathlib.Core.Logic.{◌⊎◌, inl, inr, ◌≢◌}
use Prim.Native.Nat.{ℕ, zero, suc, ◌+◌, ◌≤◌, ◌<◌}
use native.Mathlib.Omega.{arith}
use native.Mathlib.Decide.{ℕ_discrete}
use lib.Dec.{ltb}
use lib.ListN.{length, drop, replicate, length-append, length-replicate, take-append-drop}
use borrow.Author.Tests.{ltb-true, lt-ltb, le-ltb}
use Rattle.theory.specs.Words.{repeated, marks_ok}
use Rattle.theory.specs.Lists.{In}
use Rattle.theory.specs.Rings.{lyndons_up}
use Rattle.theory.specs.Steps.{extension, raised, next_lyndon}
use Rattle.theory.specs.Prenecklaces.{Cut, differ, agree, Prenecklace}
use Rattle.theory.proofs.Base.{and_l, and_r, and_in, less, equal, more, cmp, upto, over, split, Levi, levi, longer, shorter}
use Rattle.theory.proofs.Order.{Lt, Le, empty, sooner, further, Prefix, prefix, lt_irrefl, lt_asym, le_lt_trans, le_not_lt, cut_lt, cut_irrefl, cut_asym, cut_append, cut_at_letter, cut_or, cut_below, cut_above, begins, cmp3, cut_not_prefix, prefix_le}
use Rattle.theory.proofs.Lyndon.{Lyndon, lyndon_in, lyndon_out, lyndon_pre, pre_prefix, raise_last}
use Rattle.theory.proofs.Powers.{Extends, extends_prefix, Behind, behind, extends_long, extends_short, extension-length, extension_extends}
use Rattle.theory.proofs.Necklaces.{lyndon_extends_pre, pre_power}
use Rattle.theory.proofs.Letters.{marks_left, marks-append, marks-extension}
use Rattle.theory.proofs.Listed.{lyndon_up_words}
use Rattle.theory.proofs.Tops.{Top, top, under, top_of, replicate_mid, low, lyndon_low}

-- what the specification's `raised` does: nothing is left of z .. z; p a z .. z becomes p (a+1)
pub top_raised : (z t : ℕ) → raised (suc z) (replicate t z) ≡ []
top_raised z zero = refl
top_raised z (suc t) = rw (top_raised z t, le-ltb (suc z) (suc z) (omega arith))

raised_first : (k b : ℕ) (c : List ℕ) → raised k c ≡ [] → suc b < k → raised k (b ∷ c) ≡ suc b ∷ []
raised_first k b c e l = rw (e, lt-ltb (suc b) k l)

raised_later : (k b : ℕ) (c r : List ℕ) → raised k c ≡ r → 0 < length r → raised k (b ∷ c) ≡ b ∷ r
raised_later k b c [] e h = absurd (omega arith)
raised_later k b c (d ∷ r) e h = rw (e, raised)

pub raised_at : (z : ℕ) (p : List ℕ) (a t : ℕ) → a < z → raised (suc z) (p ++ (a ∷ replicate t z)) ≡ p ++ (suc a ∷ [])
raised_at z [] a t l = raised_first (suc z) a (replicate t z) (top_raised z t) (omega arith)
raised_at z (b ∷ p) a t l =
    raised_later (suc z) b (p ++ (a ∷ replicate t z)) (p ++ (suc a ∷ [])) (raised_at z p a t l) (omega (arith, length-append p (suc a ∷ [])))

-- nothing with such letters is above z z .. by a letter; what is above a word by a letter is not below the raised word
top_no_cut : (z t : ℕ) {v : List ℕ} → marks_ok (suc z) v ≡ true → ¬ Cut (replicate t z) v
top_no_cut z zero h c = elim c [ ]
top_no_cut z (suc t) h (differ {y = b} g) = omega (arith, ltb-true b (suc z) (and_l _ _ h))
top_no_cut z (suc t) h (agree c) = top_no_cut z t (and_r (ltb z (suc z)) _ h) c

raised_least : (z : ℕ) (p : List ℕ) (a t : ℕ) {y : List ℕ} → marks_ok (suc z) y ≡ true → Cut (p ++ (a ∷ replicate t z)) y → Le (p ++ (suc a ∷ [])) y
raised_least z [] a t h (differ {y = b} {v = v} g) = elim (cmp (suc a) b) [
  | less l ↦ sooner l
  | equal l ↦ subst (λ r. Le (suc a ∷ []) (r ∷ v)) l (further empty)
  | more l ↦ absurd (omega arith)
]
raised_least z [] a t h (agree c) = absurd (top_no_cut z t (and_r (ltb a (suc z)) _ h) c)
raised_least z (b ∷ p) a t h (differ g) = sooner g
raised_least z (b ∷ p) a t h (agree c) = further (raised_least z p a t (and_r (ltb b (suc z)) _ h) c)

-- a Lyndon word of length at most n with letters up to z
pub record Member (z n : ℕ) (x : List ℕ) : Type 0 where
  pub lyndon : Lyndon x
  pub letters : marks_ok (suc z) x ≡ true
  pub fits : length x ≤ n

pub member_in : (z n : ℕ) {x : List ℕ} → In x (lyndons_up (suc z) n) → Member z n x
member_in z n {x} i = let r = (lyndon_up_words (suc z) n x).0 i in record { lyndon = lyndon_in x r.2; letters = r.1; fits = r.0 }

pub member_out : (z n : ℕ) {x : List ℕ} → Member z n x → In x (lyndons_up (suc z) n)
member_out z n {x} m = (lyndon_up_words (suc z) n x).1 (m.fits, m.letters, lyndon_out m.lyndon)

pub below_top : {z n : ℕ} {x : List ℕ} → Member z n x → x ≢ z ∷ [] → Cut x (z ∷ [])
below_top {z} {n} {x} m h = elim (lyndon_low z x m.lyndon m.letters h) [ low c v e l ↦ subst (λ r. Cut r (z ∷ [])) (sym e) (differ l) ]

pub none_above : {z n : ℕ} {y : List ℕ} → Member z n y → ¬ Lt (z ∷ []) y
none_above {z} {n} {y} m h = elim (List-discrete ℕ_discrete y (z ∷ [])) [ yes e ↦ lt_irrefl (subst (λ r. Lt (z ∷ []) r) e h) | no d ↦ lt_asym h (cut_lt (below_top m d)) ]

-- such a word begins its extension to length n
pub in_extension : {z n : ℕ} {x : List ℕ} → Member z n x → Behind x (extension n x)
in_extension {z} {n} {x} m = extends_long (extension_extends n x) (omega (arith, extension-length n x m.lyndon.some, m.fits))

-- what the step does: c = p a z .. z, its extension, becomes p (a+1)
pub data Step (z n : ℕ) (x : List ℕ) : Type 0 where
  step : (p : List ℕ) (a t : ℕ) → a < z → extension n x ≡ p ++ (a ∷ replicate t z) → next_lyndon (suc z) n x ≡ p ++ (suc a ∷ []) → Step z n x

pub step_of_lem : {z n : ℕ} {x : List ℕ} → Member z n x → x ≢ z ∷ [] → Step z n x
step_of_lem {z} {n} {x} m h = go (top_of z (extension n x) (marks-extension (suc z) n x m.letters))
  where
    go : Top z (extension n x) → Step z n x
    go (under p a t e l) = step p a t l e (ap (raised (suc z)) e ∙ raised_at z p a t l)
    go (top e) = elim (in_extension m) [ behind v i j k ↦ absurd (all_top (length (extension n x)) v (sym e ∙ i)) ]
      where
        all_top : (t : ℕ) (v : List ℕ) → replicate t z ≡ x ++ v → ⊥
        all_top zero v q = omega (arith, ap length q, length-append x v, m.lyndon.some)
        all_top (suc t) v q = cut_irrefl (subst (λ r. Cut r (z ∷ replicate t z)) (sym q) (cut_append v (replicate t z) (below_top m h)))

module _ {z n : ℕ} {x : List ℕ} (m : Member z n x) (p : List ℕ) (a t : ℕ) (l : a < z) (e : extension n x ≡ p ++ (a ∷ replicate t z)) where
  pub step_size : length p + suc t ≡ n
  step_size = omega (arith, ap length e, length-append p (a ∷ replicate t z), length-replicate t z, extension-length n x m.lyndon.some)

  c_is : p ++ (a ∷ replicate t z) ≡ (p ++ (a ∷ [])) ++ replicate t z
  c_is = sym (append_assoc p (a ∷ []) (replicate t z))

  step_member : Member z n (p ++ (suc a ∷ []))
  step_member = record { lyndon = raise_last p a (suc a) pre (omega arith); letters = marks-append (suc z) p (suc a ∷ []) (marks_left (suc z) p (a ∷ replicate t z) marks) (and_in (lt-ltb (suc a) (suc z) (omega arith)) refl); fits = omega (arith, step_size, length-append p (suc a ∷ [])) }
    where
      pre : Prenecklace (p ++ (a ∷ []))
      pre = pre_prefix (p ++ (a ∷ [])) (replicate t z) (subst Prenecklace (e ∙ c_is) (lyndon_extends_pre m.lyndon (extension_extends n x)))

      marks : marks_ok (suc z) (p ++ (a ∷ replicate t z)) ≡ true
      marks = subst (λ r. marks_ok (suc z) r ≡ true) e (marks-extension (suc z) n x m.letters)

  -- x begins c, which is cut below p (a+1)
  step_above : Lt x (p ++ (suc a ∷ []))
  step_above = elim (in_extension m) [ behind v i j k ↦ le_lt_trans (subst (λ r. Le x r) (sym i ∙ e) (prefix_le (prefix v refl))) (cut_lt (cut_at_letter p (replicate t z) [] (omega arith))) ]

  -- y above x is not below p (a+1): compare y with c
  step_nearest : {y : List ℕ} → Member z n y → Lt x y → Le (p ++ (suc a ∷ [])) y
  step_nearest {y} w h = elim (cmp3 y (extension n x) (omega (arith, w.fits, extension-length n x m.lyndon.some))) [
    | cut_below c ↦ absurd (under c (cut_or h))
    | cut_above c ↦ raised_least z p a t w.letters (subst (λ r. Cut r y) e c)
    | begins q ↦ absurd (within (extends_prefix (extension_extends n x) q))
  ]
    where
      -- c begins with x and is itself the beginning of x x ..
      under : Cut y (extension n x) → Cut x y ⊎ Prefix x y → ⊥
      under c (inl d) = elim (in_extension m) [ behind v i j k ↦ cut_asym c (subst₂ Cut (sym i) (append-nil y) (cut_append v [] d)) ]
      under c (inr q) = pre_power n (lyndon_pre w.lyndon) q (subst₂ Cut (append-nil y) (take-append-drop n (repeated n x)) (cut_append [] (drop n (repeated n x)) c))

      within : Extends x y → ⊥
      within f = elim (split (length y) (length x)) [
        | upto g ↦ le_not_lt (prefix_le (extends_short f g)) h
        | over g ↦ elim (extends_long f (omega arith)) [ behind v i j k ↦ cut_not_prefix (w.lyndon.least x v i m.lyndon.some (omega (arith, ap length i, length-append x v))) k ]
      ]

  -- were p shorter than x, what follows x in c would be z .. z; but it begins as x does
  step_long : Cut x (z ∷ []) → length x < n → length x < length (p ++ (suc a ∷ []))
  step_long c h = elim (in_extension m) [ behind v i j k ↦ go v i k (levi x v p (a ∷ replicate t z) (sym i ∙ e)) ]
    where
      all_long : length (extension n x) ≡ n
      all_long = extension-length n x m.lyndon.some

      after : (r v : List ℕ) → extension n x ≡ x ++ v → Prefix v (extension n x) → replicate t z ≡ r ++ v → ⊥
      after r [] i k g = omega (arith, all_long, ap length i, length-append x [])
      after r (d ∷ v) i (prefix s q) g =
          let f : extension n x ≡ (z ∷ []) ++ (v ++ s) = q ∙ ap (λ b. b ∷ (v ++ s)) (replicate_mid t z r v g) in
          cut_irrefl (subst₂ Cut (sym i) (sym f) (cut_append (d ∷ v) (v ++ s) c))

      go : (v : List ℕ) → extension n x ≡ x ++ v → Prefix v (extension n x) → Levi x v p (a ∷ replicate t z) → length x < length (p ++ (suc a ∷ []))
      go v i k (longer [] f g) = omega (arith, ap length f, length-append p [], length-append p (suc a ∷ []))
      go v i k (longer (b ∷ r) f g) = absurd (after r v i k (tail-eq_of_cons-eq g))
      go v i k (shorter r f g) = omega (arith, ap length f, length-append x r, length-append p (suc a ∷ []))

-- the step, on members
pub next_member : {z n : ℕ} {x : List ℕ} → Member z n x → x ≢ z ∷ [] → Member z n (next_lyndon (suc z) n x)
next_member {z} {n} m h = elim (step_of_lem m h) [ step p a t l e f ↦ subst (Member z n) (sym f) (step_member m p a t l e) ]

pub next_above : {z n : ℕ} {x : List ℕ} → Member z n x → x ≢ z ∷ [] → Lt x (next_lyndon (suc z) n x)
next_above {z} {n} {x} m h = elim (step_of_lem m h) [ step p a t l e f ↦ subst (Lt x) (sym f) (step_above m p a t l e) ]

pub next_nearest : {z n : ℕ} {x y : List ℕ} → Member z n x → Member z n y → Lt x y → Le (next_lyndon (suc z) n x) y
next_nearest {z} {n} {x} {y} m w h = elim (step_of_lem m top) [ step p a t l e f ↦ subst (λ r. Le r y) (sym f) (step_nearest m p a t l e w h) ]
  where
    top : x ≢ z ∷ []
    top q = none_above w (subst (λ r. Lt r y) q h)

pub next_long : {z n : ℕ} {x : List ℕ} → Member z n x → x ≢ z ∷ [] → length x < n → length x < length (next_lyndon (suc z) n x)
next_long {z} {n} {x} m h i = elim (step_of_lem m h) [ step p a t l e f ↦ subst (λ r. length x < length r) (sym f) (step_long m p a t l e (below_top m h) i) ]

-- nothing after the last letter
top_extension : (z n : ℕ) → extension n (z ∷ []) ≡ replicate n z
top_extension z zero = refl
top_extension z (suc n) = ap (λ r. z ∷ r) (top_extension z n)

pub top_next : (z n : ℕ) → next_lyndon (suc z) n (z ∷ []) ≡ []
top_next z n = ap (raised (suc z)) (top_extension z n) ∙ top_raised z n

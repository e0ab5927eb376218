-- Periods of extensions, the step back to the Lyndon word before, and the record Steps (document 003, section 1.4.2).
use mathlib.Core.Path.{◌≡◌, refl, sym, ◌∙◌, ap, ap₂, subst, subst₂}
use mathlib.Core.Bool.{Bool, true, false, ◌&&◌}
use mathlib.Core.List.{List, [], ◌∷◌, ◌++◌, append_assoc}
use mathlib.Core.Logic.{◌⊎◌, inl, inr, ◌≢◌}
use Prim.Native.Nat.{ℕ, zero, suc, ◌+◌, ◌-◌, ◌≤◌, ◌<◌}
use native.Mathlib.Omega.{arith}
use lib.ListN.{length, take, drop, replicate, length-append, take-append-drop}
use lib.Seq.{take-append_seam, drop-append_seam, length-take-le}
use borrow.Author.Tests.{lt-ltb}
use Rattle.theory.specs.Words.{same, below, up_to}
use Rattle.theory.specs.Lists.{In, here, there, Ascending, Once}
use Rattle.theory.specs.Rings.{lyndons_up, passed_by, passed_back}
use Rattle.theory.specs.Steps.{extension, next_lyndon, lowered, period_from, period, previous_lyndon}
use Rattle.theory.specs.Theorems.{Steps}
use Rattle.theory.specs.Prenecklaces.{Cut}
use Rattle.theory.proofs.Base.{test, and_in, and_false, and_swap, less, equal, more, cmp, levi, longer, shorter}
use Rattle.theory.proofs.Order.{Lt, short, now, later, Le, Prefix, prefix, is_lt, is_eq, is_gt, tri, eq_same, ne_same, same_eq, same_ne, not_lt, lt_below, below_lt, lt_irrefl, lt_asym, lt_le, le_refl, eq_le, le_cases, le_trans, le_not_lt, not_below, le_not_below, lt_not_up_to, le_up_to, cut_append, cut_not_prefix}
use Rattle.theory.proofs.Lyndon.{Lyndon, one_letter}
use Rattle.theory.proofs.Powers.{Extends, behind, extends_long, extension-length, extension_extends}
use Rattle.theory.proofs.Listed.{lyndon_up_ascend}
use Rattle.theory.proofs.Lists.{ascend_once}
use Rattle.theory.proofs.Counts.{keep_one_more}
use Rattle.theory.proofs.Tops.{one_less, not_last}
use Rattle.theory.proofs.Next.{Member, member_in, member_out, none_above, Step, step, step_of_lem, step_size, next_member, next_above, next_nearest, next_long, top_next}

-- the shortest period of an extension of a Lyndon word is that word's length
no_border : {x w : List ℕ} → Lyndon x → Prefix x w → (u v : List ℕ) → w ≡ u ++ v → 0 < length u → length u < length x → ¬ Prefix v w
no_border {x} {w} l (prefix s e) u v f g h q = elim (levi u v x s (sym f ∙ e)) [
  | longer r i j ↦ omega (arith, ap length i, length-append x r)
  | shorter r i j ↦ cut_not_prefix (subst₂ Cut (sym e) (sym j) (cut_append s s (l.least u r i g (omega (arith, ap length i, length-append u r))))) q
]

period_at : (l d : ℕ) (w : List ℕ) (i : ℕ) → d ≤ i → i < d + l → same (drop i w) (take (length w - i) w) ≡ true
    → ((j : ℕ) → d ≤ j → j < i → same (drop j w) (take (length w - j) w) ≡ false) → period_from l d w ≡ i
period_at zero d w i a b h f = absurd (omega arith)
period_at (suc l) d w i a b h f = elim (cmp d i) [
  | less g ↦ rw (f d (omega arith) g, period_from) (period_at l (suc d) w i (omega arith) (omega arith) h (λ j q r. f j (omega arith) r))
  | equal g ↦ rw (ap (λ r. same (drop r w) (take (length w - r) w)) g ∙ h, period_from) g
  | more g ↦ absurd (omega arith)
]

pub period_is : {x w : List ℕ} → Lyndon x → Extends x w → length x ≤ length w → period w ≡ length x
period_is {x} {w} l e h = elim (extends_long e h) [ behind v i j k ↦ elim k [ prefix s q ↦ period_at (length w) 1 w (length x) l.some (omega arith) (full v s i q) (λ d f g. ne_same (off v i d f g)) ] ]
  where
    full : (v s : List ℕ) → w ≡ x ++ v → w ≡ v ++ s → same (drop (length x) w) (take (length w - length x) w) ≡ true
    full v s i q =
        let one : drop (length x) w ≡ v = ap (drop (length x)) i ∙ drop-append_seam x v in
        let n : length w - length x ≡ length v = omega (arith, ap length i, length-append x v) in
        let two : take (length w - length x) w ≡ v = ap₂ take n q ∙ take-append_seam v s in
        eq_same (one ∙ sym two)

    off : (v : List ℕ) → w ≡ x ++ v → (d : ℕ) → 1 ≤ d → d < length x → ¬ (drop d w ≡ take (length w - d) w)
    off v i d f g q =
        let n : length (take d w) ≡ d = length-take-le d w (omega arith) in
        no_border l (prefix v i) (take d w) (drop d w) (sym (take-append-drop d w)) (omega arith) (omega arith)
        (prefix (drop (length w - d) w) (sym (take-append-drop (length w - d) w) ∙ ap (λ r. r ++ drop (length w - d) w) (sym q)))

pub first_period : {x w : List ℕ} → Lyndon x → Extends x w → length x ≤ length w → take (period w) w ≡ x
first_period {x} {w} l e h = elim (extends_long e h) [ behind v i j k ↦ ap₂ take (period_is l e h) i ∙ take-append_seam x v ]

-- back: p (a+1), lowered and filled with z, is c
lowered_last : (p : List ℕ) (a : ℕ) → lowered (p ++ (suc a ∷ [])) ≡ p ++ (a ∷ [])
lowered_last [] a = ap (λ r. r ∷ []) (one_less a)
lowered_last (b ∷ []) a = ap (λ r. b ∷ r) (lowered_last [] a)
lowered_last (b ∷ (d ∷ p)) a = ap (λ r. b ∷ r) (lowered_last (d ∷ p) a)

back-extension : {z n : ℕ} {x : List ℕ} → Member z n x → Step z n x
    → let y = next_lyndon (suc z) n x in lowered y ++ replicate (n - length y) (suc z - 1) ≡ extension n x
back-extension {z} {n} {x} m (step p a t l e f) = ap (λ y. lowered y ++ replicate (n - length y) (suc z - 1)) f ∙ filled
  where
    rest : n - length (p ++ (suc a ∷ [])) ≡ t
    rest = omega (arith, step_size m p a t l e, length-append p (suc a ∷ []))

    filled : lowered (p ++ (suc a ∷ [])) ++ replicate (n - length (p ++ (suc a ∷ []))) (suc z - 1) ≡ extension n x
    filled =
        ap₂ ◌++◌ (lowered_last p a) (ap₂ replicate rest (one_less z)) ∙ append_assoc p (a ∷ []) (replicate t z) ∙ sym e

step_back : {z n : ℕ} {x : List ℕ} → Member z n x → Step z n x → previous_lyndon (suc z) n (next_lyndon (suc z) n x) ≡ x
step_back {z} {n} {x} m s =
    ap (λ c. take (period c) c) (back-extension m s)
    ∙ first_period m.lyndon (extension_extends n x) (omega (arith, m.fits, extension-length n x m.lyndon.some))

-- the last word of a list, or b, before y
data Latest (y : List ℕ) (ws : List (List ℕ)) (b : List ℕ) : Type 0 where
  latest : (x : List ℕ) → In x ws ⊎ (x ≡ b) → Lt x y → Le b x → ((v : List ℕ) → In v ws → Lt v y → Le v x) → Latest y ws b

latest_of : (y : List ℕ) (ws : List (List ℕ)) (b : List ℕ) → Lt b y → Latest y ws b
latest_of y [] b h = latest b (inr refl) h (le_refl b) (λ v i. elim i [ ])
latest_of y (w ∷ ws) b h = elim (tri w y) [
  | is_lt p ↦ elim (tri b w) [
    | is_lt q ↦ better (lt_le q) (latest_of y ws w p)
    | is_eq q ↦ skip (λ r. eq_le (sym q)) (latest_of y ws b h)
    | is_gt q ↦ skip (λ r. lt_le q) (latest_of y ws b h)
  ]
  | is_eq p ↦ skip (λ r. absurd (lt_irrefl (subst (λ s. Lt s y) p r))) (latest_of y ws b h)
  | is_gt p ↦ skip (λ r. absurd (lt_asym p r)) (latest_of y ws b h)
]
  where
    better : Le b w → Latest y ws w → Latest y (w ∷ ws) b
    better q (latest x i p s f) = latest x (inl (elim i [ inl j ↦ there j | inr j ↦ here j ])) p (le_trans q s) each
      where
        each : (v : List ℕ) → In v (w ∷ ws) → Lt v y → Le v x
        each v (here g) r = subst (λ u. Le u x) (sym g) s
        each v (there g) r = f v g r

    skip : (Lt w y → Le w b) → Latest y ws b → Latest y (w ∷ ws) b
    skip q (latest x i p s f) = latest x (elim i [ inl j ↦ inl (there j) | inr j ↦ inr j ]) p s each
      where
        each : (v : List ℕ) → In v (w ∷ ws) → Lt v y → Le v x
        each v (here g) r = le_trans (subst (λ u. Le u b) (sym g) (q (subst (λ u. Lt u y) g r))) s
        each v (there g) r = f v g r

-- 0 is the first Lyndon word
pub zero_first : (y : List ℕ) → 0 < length y → y ≢ 0 ∷ [] → Lt (0 ∷ []) y
zero_first [] h g = absurd (omega arith)
zero_first (zero ∷ []) h g = absurd (g refl)
zero_first (zero ∷ (b ∷ y)) h g = later short
zero_first (suc b ∷ y) h g = let q : 0 < suc b = omega arith in now q

-- every other word is the next of one
pub data Previous (z n : ℕ) (y : List ℕ) : Type 0 where
  previous : (x : List ℕ) → Member z n x → x ≢ z ∷ [] → next_lyndon (suc z) n x ≡ y → Previous z n y

pub previous_of : {z n : ℕ} {y : List ℕ} → 1 ≤ n → Member z n y → y ≢ 0 ∷ [] → Previous z n y
previous_of {z} {n} {y} g m h = elim (latest_of y (lyndons_up (suc z) n) (0 ∷ []) (zero_first y m.lyndon.some h)) [
  | latest x (inl i) p s f ↦ found x (member_in z n i) p f
  | latest x (inr i) p s f ↦ found x (subst (Member z n) (sym i) zero_member) p f
]
  where
    zero_member : Member z n (0 ∷ [])
    zero_member = record { lyndon = one_letter 0; letters = and_in (lt-ltb 0 (suc z) (omega arith)) refl; fits = g }

    found : (x : List ℕ) → Member z n x → Lt x y → ((v : List ℕ) → In v (lyndons_up (suc z) n) → Lt v y → Le v x) → Previous z n y
    found x w p f = previous x w top is
      where
        top : x ≢ z ∷ []
        top q = none_above m (subst (λ r. Lt r y) q p)

        next : Member z n (next_lyndon (suc z) n x)
        next = next_member w top

        is : next_lyndon (suc z) n x ≡ y
        is = elim (le_cases (next_nearest w m p)) [ inl r ↦ absurd (le_not_lt (f (next_lyndon (suc z) n x) (member_out z n next) r) (next_above w top)) | inr r ↦ r ]

-- words passed: a step passes the word that it leads to, since no other is between
passed_step : {z n : ℕ} {u : List ℕ} (v : List ℕ) → Member z n u → u ≢ z ∷ [] → up_to (next_lyndon (suc z) n u) v ≡ true
    → passed_by u v (lyndons_up (suc z) n) ≡ suc (passed_by (next_lyndon (suc z) n u) v (lyndons_up (suc z) n))
passed_step {z} {n} {u} v m h g =
    keep_one_more (λ w. below u w && up_to w v) (λ w. below y w && up_to w v) (ascend_once (lyndons_up (suc z) n) (lyndon_up_ascend (suc z) n)) (member_out z n (next_member m h))
    (and_in (lt_below above) g) (ap (λ b. b && up_to y v) (le_not_below (le_refl y)))
    (λ w j q. ap (λ b. b && up_to w v) (same_side w j q (test (below u w))))
  where
    y : List ℕ
    y = next_lyndon (suc z) n u

    above : Lt u y
    above = next_above m h

    same_side : (w : List ℕ) → In w (lyndons_up (suc z) n) → w ≢ y → (below u w ≡ true) ⊎ (below u w ≡ false) → below u w ≡ below y w
    same_side w j q (inl t) = t ∙ elim (le_cases (next_nearest m (member_in z n j) (below_lt u w t))) [ inl r ↦ sym (lt_below r) | inr r ↦ absurd (q (sym r)) ]
    same_side w j q (inr t) = t ∙ sym (le_not_below (le_trans (not_below t) (lt_le above)))

-- none from a word to itself
passed_none : (v : List ℕ) (ws : List (List ℕ)) → passed_by v v ws ≡ 0
passed_none v [] = refl
passed_none v (w ∷ ws) = elim (test (below v w)) [
  | inl t ↦ rw (t, lt_not_up_to (below_lt v w t)) (passed_none v ws)
  | inr t ↦ rw t (passed_none v ws)
]

-- as many back: both ways one more than the words strictly between
passed_both : (u v : List ℕ) (ws : List (List ℕ)) → Ascending ws → In u ws → In v ws → Lt u v → passed_back v u ws ≡ passed_by u v ws
passed_both u v ws up i j l =
    keep_one_more (λ w. below w v && up_to u w) between once i (and_in (lt_below l) (le_up_to (le_refl u))) (ap (λ b. b && below u v) (le_not_below (le_refl u)))
    (λ w _ q. ap (λ b. below w v && b) (strict (λ e. q (sym e))) ∙ and_swap (below w v) (below u w))
    ∙ sym (keep_one_more (λ w. below u w && up_to w v) between once j (and_in (lt_below l) (le_up_to (le_refl v))) (and_false (below u v) _ (le_not_below (le_refl v)))
    (λ w _ q. ap (λ b. below u w && b) (strict q)))
  where
    between : List ℕ → Bool
    between w = below u w && below w v

    once : Once ws
    once = ascend_once ws up

    strict : {x y : List ℕ} → x ≢ y → up_to x y ≡ below x y
    strict q = rw (ne_same q) refl

-- the word before y
record Before (z n : ℕ) (y : List ℕ) : Type 0 where
  member : Member z n (previous_lyndon (suc z) n y)
  inner : previous_lyndon (suc z) n y ≢ z ∷ []
  then : next_lyndon (suc z) n (previous_lyndon (suc z) n y) ≡ y

before : {z n : ℕ} {y : List ℕ} → 1 ≤ n → Member z n y → y ≢ 0 ∷ [] → Before z n y
before {z} {n} {y} g m h = elim (previous_of g m h) [
  | previous x w r e ↦
      let is : previous_lyndon (suc z) n y ≡ x = ap (previous_lyndon (suc z) n) (sym e) ∙ step_back w (step_of_lem w r) in
      record { member = subst (Member z n) (sym is) w; inner = λ q. r (sym is ∙ q); then = ap (next_lyndon (suc z) n) is ∙ e }
]

-- nothing of the list is between it and y
before_most : {z n : ℕ} {x y : List ℕ} → Before z n y → Member z n x → Lt x y → Le x (previous_lyndon (suc z) n y)
before_most {z} {n} {x} {y} b m l = not_lt (λ r. le_not_lt (subst (λ w. Le w x) b.then (next_nearest b.member m r)) l)

-- the least word of the list has none before it
pub not_zero : {x y : List ℕ} → 0 < length x → Lt x y → y ≢ 0 ∷ []
not_zero {x} h l e = elim (test (same x (0 ∷ []))) [
  | inl t ↦ lt_irrefl (subst (λ w. Lt w (0 ∷ [])) (same_eq x (0 ∷ []) t) (subst (λ w. Lt x w) e l))
  | inr t ↦ lt_asym (subst (λ w. Lt x w) e l) (zero_first x h (same_ne t))
]

pub steps : (k n : ℕ) → 2 ≤ k → 1 ≤ n → Steps k n
steps zero n h g = absurd (omega arith)
steps (suc z) n h g =
    record {
      next_in = λ x i q. member_out z n (next_member (member_in z n i) (not_last q));
      next_larger = λ x i q. lt_below (next_above (member_in z n i) (not_last q));
      next_least = λ x y i j l. le_up_to (next_nearest (member_in z n i) (member_in z n j) (below_lt x y l));
      next_longer = λ x i q l. next_long (member_in z n i) (not_last q) l;
      next_none = ap (λ r. next_lyndon (suc z) n (r ∷ [])) (one_less z) ∙ top_next z n;
      previous_in = λ y i q. member_out z n (before g (member_in z n i) q).member;
      previous_next = λ x i q. step_back (member_in z n i) (step_of_lem (member_in z n i) (not_last q));
      previous_smaller = λ y i q. let b = before g (member_in z n i) q in subst (λ w. below (previous_lyndon (suc z) n y) w ≡ true) b.then (lt_below (next_above b.member b.inner));
      previous_most = λ x y i j l.
          let m = member_in z n i in
          le_up_to (before_most (before g (member_in z n j) (not_zero m.lyndon.some (below_lt x y l))) m (below_lt x y l));
      next_previous = λ y i q. (before g (member_in z n i) q).then;
      passed_none = λ v. passed_none v (lyndons_up (suc z) n);
      passed_step = λ u v i q g. passed_step v (member_in z n i) (not_last q) g;
      passed_back_lem = λ u v i j. elim (test (below u v)) [
        | inl t ↦ rw t (passed_both u v (lyndons_up (suc z) n) (lyndon_up_ascend (suc z) n) i j (below_lt u v t))
        | inr t ↦ rw t refl
      ];
    }

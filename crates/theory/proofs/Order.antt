-- Dictionary order as relations on words: Lt, Le, Cut (a letter decides), Prefix. The one interface to `same`, `below`, `up_to`.
use mathlib.Core.Path.{◌≡◌, refl, sym, ◌∙◌, ap, subst, subst₂}
use mathlib.Core.Bool.{true, false, false≢true}
use mathlib.Core.List.{List, [], ◌∷◌, ◌++◌, append_assoc, append-nil, head-eq_of_cons-eq, tail-eq_of_cons-eq}
use mathlib.Core.Logic.{◌⊎◌, inl, inr}
use Prim.Native.Nat.{ℕ, ◌≤◌, ◌<◌}
use native.Mathlib.Omega.{arith}
use native.Mathlib.Nat.{lt_trans as ℕ-lt-trans, lt_of_le_of_lt}
use lib.Dec.{eqb}
use lib.ListN.{length, take, drop, length-append, take-append-drop}
use lib.Seq.{take-append_seam}
use borrow.Author.Tests.{eqb-true, lt-ltb, le-ltb, eq-eqb, ne_eqb}
use Rattle.theory.specs.Words.{same, below, up_to}
use Rattle.theory.specs.Prenecklaces.{Cut, differ, agree}
use Rattle.theory.proofs.Base.{test, and_l, and_r, less, equal, more, cmp, upto, over, split, levi, longer, shorter, cancel_left, nil_of}

pub data Lt : List ℕ → List ℕ → Type 0 where
  short : {y : ℕ} {v : List ℕ} → Lt [] (y ∷ v)
  now : {x y : ℕ} {u v : List ℕ} → x < y → Lt (x ∷ u) (y ∷ v)
  later : {x : ℕ} {u v : List ℕ} → Lt u v → Lt (x ∷ u) (x ∷ v)

pub data Le : List ℕ → List ℕ → Type 0 where
  empty : {v : List ℕ} → Le [] v
  sooner : {x y : ℕ} {u v : List ℕ} → x < y → Le (x ∷ u) (y ∷ v)
  further : {x : ℕ} {u v : List ℕ} → Le u v → Le (x ∷ u) (x ∷ v)

pub data Prefix (u v : List ℕ) : Type 0 where
  prefix : (t : List ℕ) → v ≡ u ++ t → Prefix u v

-- the tests of the specification
pub same_eq : (u v : List ℕ) → same u v ≡ true → u ≡ v
same_eq [] [] h = refl
same_eq [] (y ∷ v) h = absurd (false≢true h)
same_eq (x ∷ u) [] h = absurd (false≢true h)
same_eq (x ∷ u) (y ∷ v) h = rw (eqb-true x y (and_l _ _ h), same_eq u v (and_r (eqb x y) _ h))

pub same_refl : (u : List ℕ) → same u u ≡ true
same_refl [] = refl
same_refl (x ∷ u) = rw (eq-eqb x x refl) (same_refl u)

pub eq_same : {u v : List ℕ} → u ≡ v → same u v ≡ true
eq_same {u} {v} e = rw e (same_refl v)

pub ne_same : {u v : List ℕ} → ¬ (u ≡ v) → same u v ≡ false
ne_same {u} {v} n = elim (test (same u v)) [ inl t ↦ absurd (n (same_eq u v t)) | inr t ↦ t ]

pub same_ne : {u v : List ℕ} → same u v ≡ false → ¬ (u ≡ v)
same_ne {u} {v} h e = false≢true (sym h ∙ eq_same e)

pub lt_below : {u v : List ℕ} → Lt u v → below u v ≡ true
lt_below short = refl
lt_below (now {x = x} {y = y} h) = rw (lt-ltb x y h)
lt_below (later {x = x} p) = rw (le-ltb x x (omega arith), eq-eqb x x refl) (lt_below p)

pub below_lt : (u v : List ℕ) → below u v ≡ true → Lt u v
below_lt [] [] h = absurd (false≢true h)
below_lt [] (y ∷ v) h = short
below_lt (x ∷ u) [] h = absurd (false≢true h)
below_lt (x ∷ u) (y ∷ v) h = elim (cmp x y) [ less l ↦ now l | equal l ↦ tail (below_lt u v) l | more l ↦ never l ]
  where
    tail : (below u v ≡ true → Lt u v) → x ≡ y → Lt (x ∷ u) (y ∷ v)
    tail ih l =
        let g : below u v ≡ true = rw (le-ltb x y (omega arith), eq-eqb x y l) at h in
        subst (λ r. Lt (x ∷ u) (r ∷ v)) l (later (ih g))

    never : y < x → Lt (x ∷ u) (y ∷ v)
    never l =
        let g : false ≡ true = rw (le-ltb x y (omega arith), ne_eqb x y (λ e. omega arith)) at h in
        absurd (false≢true g)

-- strict order
lt_apart : {u v : List ℕ} → Lt u v → ¬ (u ≡ v)
lt_apart short e = cc
lt_apart (now h) e = omega (arith, head-eq_of_cons-eq e)
lt_apart (later p) e = lt_apart p (tail-eq_of_cons-eq e)

pub lt_irrefl : {u : List ℕ} → ¬ Lt u u
lt_irrefl p = lt_apart p refl

pub lt_trans : {u v w : List ℕ} → Lt u v → Lt v w → Lt u w
lt_trans short (now h) = short
lt_trans short (later q) = short
lt_trans (now h) (now k) = now (ℕ-lt-trans h k)
lt_trans (now h) (later q) = now h
lt_trans (later p) (now k) = now k
lt_trans (later p) (later q) = later (lt_trans p q)

pub lt_asym : {u v : List ℕ} → Lt u v → Lt v u → ⊥
lt_asym p q = lt_irrefl (lt_trans p q)

pub data Tri (u v : List ℕ) : Type 0 where
  is_lt : Lt u v → Tri u v
  is_eq : u ≡ v → Tri u v
  is_gt : Lt v u → Tri u v

pub tri : (u v : List ℕ) → Tri u v
tri [] [] = is_eq refl
tri [] (y ∷ v) = is_lt short
tri (x ∷ u) [] = is_gt short
tri (x ∷ u) (y ∷ v) = elim (cmp x y) [ less l ↦ is_lt (now l) | equal l ↦ tail l (tri u v) | more l ↦ is_gt (now l) ]
  where
    tail : x ≡ y → Tri u v → Tri (x ∷ u) (y ∷ v)
    tail l (is_lt p) = is_lt (subst (λ r. Lt (x ∷ u) (r ∷ v)) l (later p))
    tail l (is_eq p) = is_eq (rw (l, p))
    tail l (is_gt p) = is_gt (subst (λ r. Lt (r ∷ v) (x ∷ u)) l (later p))

-- weak order
pub le_refl : (u : List ℕ) → Le u u
le_refl [] = empty
le_refl (x ∷ u) = further (le_refl u)

pub eq_le : {u v : List ℕ} → u ≡ v → Le u v
eq_le {u} e = subst (λ r. Le u r) e (le_refl u)

pub lt_le : {u v : List ℕ} → Lt u v → Le u v
lt_le short = empty
lt_le (now h) = sooner h
lt_le (later p) = further (lt_le p)

pub le_cases : {u v : List ℕ} → Le u v → Lt u v ⊎ (u ≡ v)
le_cases {v = []} empty = inr refl
le_cases {v = y ∷ v} empty = inl short
le_cases (sooner h) = inl (now h)
le_cases (further {x = x} p) = elim (le_cases p) [ inl q ↦ inl (later q) | inr q ↦ inr (ap (λ r. x ∷ r) q) ]

pub le_lt_trans : {u v w : List ℕ} → Le u v → Lt v w → Lt u w
le_lt_trans {w = w} p q = elim (le_cases p) [ inl r ↦ lt_trans r q | inr r ↦ subst (λ x. Lt x w) (sym r) q ]

pub lt_le_trans : {u v w : List ℕ} → Lt u v → Le v w → Lt u w
lt_le_trans {u} p q = elim (le_cases q) [ inl r ↦ lt_trans p r | inr r ↦ subst (λ x. Lt u x) r p ]

pub le_trans : {u v w : List ℕ} → Le u v → Le v w → Le u w
le_trans {w = w} p q = elim (le_cases p) [ inl r ↦ lt_le (lt_le_trans r q) | inr r ↦ subst (λ x. Le x w) (sym r) q ]

pub le_antisym : {u v : List ℕ} → Le u v → Le v u → u ≡ v
le_antisym p q = elim (le_cases p) [ inl r ↦ absurd (lt_irrefl (lt_le_trans r q)) | inr r ↦ r ]

pub not_lt : {u v : List ℕ} → ¬ Lt v u → Le u v
not_lt {u} {v} n = elim (tri u v) [ is_lt p ↦ lt_le p | is_eq p ↦ eq_le p | is_gt p ↦ absurd (n p) ]

pub le_not_lt : {u v : List ℕ} → Le u v → ¬ Lt v u
le_not_lt p q = lt_irrefl (le_lt_trans p q)

pub not_below : {u v : List ℕ} → below u v ≡ false → Le v u
not_below {u} {v} h = not_lt (λ p. false≢true (sym h ∙ lt_below p))

pub le_not_below : {u v : List ℕ} → Le v u → below u v ≡ false
le_not_below {u} {v} p = elim (test (below u v)) [ inl t ↦ absurd (le_not_lt p (below_lt u v t)) | inr t ↦ t ]

pub le_up_to : {u v : List ℕ} → Le u v → up_to u v ≡ true
le_up_to {u} {v} p = elim (le_cases p) [ inl q ↦ less_so q (test (same u v)) | inr q ↦ rw (eq_same q) ]
  where
    less_so : Lt u v → (same u v ≡ true) ⊎ (same u v ≡ false) → up_to u v ≡ true
    less_so q (inl t) = rw t
    less_so q (inr t) = rw (t, lt_below q)

pub up_to_le : (u v : List ℕ) → up_to u v ≡ true → Le u v
up_to_le u v h = elim (test (same u v)) [ inl t ↦ eq_le (same_eq u v t) | inr t ↦ lt_le (below_lt u v (rw t at h)) ]

pub lt_not_up_to : {u v : List ℕ} → Lt v u → up_to u v ≡ false
lt_not_up_to {u} {v} p = elim (test (up_to u v)) [ inl t ↦ absurd (le_not_lt (up_to_le u v t) p) | inr t ↦ t ]

-- a common prefix
lt_tail : {x y : ℕ} {u v : List ℕ} → Lt (x ∷ u) (y ∷ v) → x ≡ y → Lt u v
lt_tail (now h) e = absurd (omega arith)
lt_tail (later h) e = h

pub lt_unprefix : (p : List ℕ) {u v : List ℕ} → Lt (p ++ u) (p ++ v) → Lt u v
lt_unprefix [] h = h
lt_unprefix (x ∷ p) h = lt_unprefix p (lt_tail h refl)

pub le_prefix : (p : List ℕ) {u v : List ℕ} → Le u v → Le (p ++ u) (p ++ v)
le_prefix [] h = h
le_prefix (x ∷ p) h = further (le_prefix p h)

pub lt_append : (u : List ℕ) (y : ℕ) (t : List ℕ) → Lt u (u ++ (y ∷ t))
lt_append [] y t = short
lt_append (x ∷ u) y t = later (lt_append u y t)

pub le_append : (u t : List ℕ) → Le u (u ++ t)
le_append [] t = empty
le_append (x ∷ u) t = further (le_append u t)

-- Cut: whatever follows, the letter decides
pub cut_lt : {u v : List ℕ} → Cut u v → Lt u v
cut_lt (differ h) = now h
cut_lt (agree p) = later (cut_lt p)

pub cut_irrefl : {u : List ℕ} → ¬ Cut u u
cut_irrefl p = lt_irrefl (cut_lt p)

pub cut_asym : {u v : List ℕ} → Cut u v → Cut v u → ⊥
cut_asym p q = lt_asym (cut_lt p) (cut_lt q)

pub cut_append : {u v : List ℕ} (s t : List ℕ) → Cut u v → Cut (u ++ s) (v ++ t)
cut_append s t (differ h) = differ h
cut_append s t (agree p) = agree (cut_append s t p)

pub cut_prefix : (p : List ℕ) {u v : List ℕ} → Cut u v → Cut (p ++ u) (p ++ v)
cut_prefix [] h = h
cut_prefix (x ∷ p) h = agree (cut_prefix p h)

pub cut_tail : {x y : ℕ} {u v : List ℕ} → Cut (x ∷ u) (y ∷ v) → x ≡ y → Cut u v
cut_tail (differ h) e = absurd (omega arith)
cut_tail (agree h) e = h

pub cut_unprefix : (p : List ℕ) {u v : List ℕ} → Cut (p ++ u) (p ++ v) → Cut u v
cut_unprefix [] h = h
cut_unprefix (x ∷ p) h = cut_unprefix p (cut_tail h refl)

pub lt_cut : {u v : List ℕ} → Lt u v → length v ≤ length u → Cut u v
lt_cut short e = absurd (omega arith)
lt_cut (now h) e = differ h
lt_cut (later p) e = agree (lt_cut p (omega arith))

pub cut_or : {u v : List ℕ} → Lt u v → Cut u v ⊎ Prefix u v
cut_or (short {y = y} {v = v}) = inr (prefix (y ∷ v) refl)
cut_or (now h) = inl (differ h)
cut_or (later {x = x} p) = elim (cut_or p) [ inl q ↦ inl (agree q) | inr q ↦ elim q [ prefix t e ↦ inr (prefix t (ap (λ r. x ∷ r) e)) ] ]

-- a decision against v that lies within u is one against any word that begins with v, and back
pub cut_shorten : (u v s : List ℕ) → length u ≤ length v → Cut u (v ++ s) → Cut u v
cut_shorten [] v s e h = elim h [ ]
cut_shorten (x ∷ u) [] s e h = absurd (omega arith)
cut_shorten (x ∷ u) (y ∷ v) s e (differ h) = differ h
cut_shorten (x ∷ u) (y ∷ v) s e (agree h) = agree (cut_shorten u v s (omega arith) h)

-- s is cut below x, y is at least as long as s: y is below x as well, or s is below y
pub cut_mid : {s x : List ℕ} (y : List ℕ) → Cut s x → length s ≤ length y → Cut y x ⊎ Cut s y
cut_mid [] (differ h) e = absurd (omega arith)
cut_mid [] (agree p) e = absurd (omega arith)
cut_mid (c ∷ y) (differ {x = a} {y = b} h) e = elim (split c a) [ upto l ↦ inl (differ (lt_of_le_of_lt l h)) | over l ↦ inr (differ l) ]
cut_mid (c ∷ y) (agree {x = a} {u = u} {v = v} p) e = elim (cmp a c) [ less l ↦ inr (differ l) | equal l ↦ go l (cut_mid y p (omega arith)) | more l ↦ inl (differ l) ]
  where
    go : a ≡ c → Cut y v ⊎ Cut u y → Cut (c ∷ y) (a ∷ v) ⊎ Cut (a ∷ u) (c ∷ y)
    go l (inl q) = inl (subst (λ r. Cut (c ∷ y) (r ∷ v)) (sym l) (agree q))
    go l (inr q) = inr (subst (λ r. Cut (a ∷ u) (r ∷ y)) l (agree q))

-- where the decision falls
pub data Decided (u v : List ℕ) : Type 0 where
  decided : (s : List ℕ) (a b : ℕ) (p q : List ℕ) → u ≡ s ++ (a ∷ p) → v ≡ s ++ (b ∷ q) → a < b → Decided u v

pub decide : {u v : List ℕ} → Cut u v → Decided u v
decide (differ {x = x} {y = y} {u = u} {v = v} h) = decided [] x y u v refl refl h
decide (agree {x = x} p) = elim (decide p) [ decided s a b q r e f h ↦ decided (x ∷ s) a b q r (ap (λ y. x ∷ y) e) (ap (λ y. x ∷ y) f) h ]

pub cut_at_letter : (s : List ℕ) {a b : ℕ} (p q : List ℕ) → a < b → Cut (s ++ (a ∷ p)) (s ++ (b ∷ q))
cut_at_letter s p q h = cut_prefix s (differ h)

-- two words, the first not longer
pub data Three (u v : List ℕ) : Type 0 where
  cut_below : Cut u v → Three u v
  cut_above : Cut v u → Three u v
  begins : Prefix u v → Three u v

pub cmp3 : (u v : List ℕ) → length u ≤ length v → Three u v
cmp3 [] v e = begins (prefix v refl)
cmp3 (x ∷ u) [] e = absurd (omega arith)
cmp3 (x ∷ u) (y ∷ v) e = elim (cmp x y) [ less l ↦ cut_below (differ l) | equal l ↦ tail l (cmp3 u v (omega arith)) | more l ↦ cut_above (differ l) ]
  where
    tail : x ≡ y → Three u v → Three (x ∷ u) (y ∷ v)
    tail l (cut_below p) = cut_below (subst (λ r. Cut (x ∷ u) (r ∷ v)) l (agree p))
    tail l (cut_above p) = cut_above (subst (λ r. Cut (r ∷ v) (x ∷ u)) l (agree p))
    tail l (begins (prefix t f)) = begins (prefix t (rw (l, f)))

-- prefixes
pub prefix_trans : {u v w : List ℕ} → Prefix u v → Prefix v w → Prefix u w
prefix_trans {u} (prefix s e) (prefix t f) = prefix (s ++ t) (f ∙ ap (λ r. r ++ t) e ∙ append_assoc u s t)

pub prefix_eq : {u v : List ℕ} → Prefix u v → length v ≤ length u → u ≡ v
prefix_eq {u} (prefix t e) h =
    sym (e ∙ ap (λ r. u ++ r) (nil_of t (omega (arith, ap length e, length-append u t))) ∙ append-nil u)

pub prefix_append : {u v : List ℕ} (t : List ℕ) → Prefix u v → Prefix u (v ++ t)
prefix_append {u} t (prefix s e) = prefix (s ++ t) (ap (λ r. r ++ t) e ∙ append_assoc u s t)

pub prefix_under : (p : List ℕ) {u v : List ℕ} → Prefix u v → Prefix (p ++ u) (p ++ v)
prefix_under p {u} (prefix t e) = prefix t (ap (λ r. p ++ r) e ∙ sym (append_assoc p u t))

pub prefix_drop : (p : List ℕ) {u v : List ℕ} → Prefix (p ++ u) (p ++ v) → Prefix u v
prefix_drop p {u} {v} (prefix t e) = prefix t (cancel_left p v (u ++ t) (e ∙ append_assoc p u t))

-- two prefixes of one word: the shorter is one of the longer
pub prefix_both : {u v w : List ℕ} → Prefix u w → Prefix v w → length u ≤ length v → Prefix u v
prefix_both {u} {v} (prefix s e) (prefix t f) h = elim (levi u s v t (sym e ∙ f)) [
  | longer r g k ↦ prefix [] (sym (g ∙ ap (λ x. v ++ x) (nil_of r (omega (arith, ap length g, length-append v r))) ∙ append-nil v) ∙ sym (append-nil u))
  | shorter r g k ↦ prefix r g
]

pub cut_not_prefix : {u v : List ℕ} → Cut u v → ¬ Prefix v u
cut_not_prefix {u} {v} h (prefix t e) =
    cut_irrefl (subst (λ r. Cut u r) (sym e) (subst (λ r. Cut r (v ++ t)) (append-nil u) (cut_append [] t h)))

pub prefix_le : {u v : List ℕ} → Prefix u v → Le u v
prefix_le {u} (prefix t e) = subst (λ r. Le u r) (sym e) (le_append u t)

pub prefix_take : {u v : List ℕ} → Prefix u v → take (length u) v ≡ u
prefix_take {u} (prefix t e) = ap (take (length u)) e ∙ take-append_seam u t

pub take_prefix : (u v : List ℕ) → take (length u) v ≡ u → Prefix u v
take_prefix u v e = prefix (drop (length u) v) (sym (take-append-drop (length u) v) ∙ ap (λ r. r ++ drop (length u) v) e)

-- what decides between two words decides between words that they begin
pub cut_on : {u v x y : List ℕ} → Prefix u x → Prefix v y → Cut u v → Cut x y
cut_on (prefix s e) (prefix t f) c = subst₂ Cut (sym e) (sym f) (cut_append s t c)

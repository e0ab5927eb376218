-- The largest necklace not above a word (document 004, Lemma 5): it exists, it counts as the word does, and lowering one letter finds it.
use mathlib.Core.Path.{◌≡◌, refl, sym, ◌∙◌, ap, ap₂, subst, subst₂}
use mathlib.Core.Bool.{Bool, true, false, ◌&&◌, false≢true}
use mathlib.Core.List.{List, [], ◌∷◌, ◌++◌, append_assoc, append-nil, head-eq_of_cons-eq}
use mathlib.Core.Logic.{◌⊎◌, inl, inr}
use Prim.Native.Nat.{ℕ, zero, suc, ◌+◌, ◌-◌, ◌≤◌, ◌<◌}
use native.Mathlib.Omega.{arith}
use lib.Dec.{ltb}
use lib.ListN.{length, get_or, take, drop, replicate, length-append, length-replicate, length-drop}
use lib.Seq.{split_at, length-take-le}
use borrow.Author.Tests.{ltb-true, lt-ltb}
use Rattle.theory.specs.Words.{pick, below, up_to, is_lyndon, smallest, keep, all_words, lyndons, rank, marks_ok}
use Rattle.theory.specs.Lists.{In, here, there, Ascending}
use Rattle.theory.specs.Sums.{cs}
use Rattle.theory.specs.Floors.{is_necklace, last_of, necklace_up_to, necklace_below, lowered_at, floor_from}
use Rattle.theory.specs.Theorems.{Floors}
use Rattle.theory.specs.Prenecklaces.{Cut, differ, Prenecklace}
use Rattle.theory.proofs.Base.{test, and_l, and_r, and_in, less, equal, more, cmp, Split, upto, over, split, split_same, levi, longer, shorter}
use Rattle.theory.proofs.Order.{Le, Prefix, prefix, empty, further, sooner, same_eq, eq_same, ne_same, below_lt, lt_below, up_to_le, le_up_to, lt_le, le_refl, le_trans, le_antisym, not_lt, eq_le, le_prefix, lt_cut, cut_lt, cut_at_letter, decided, decide}
use Rattle.theory.proofs.Lists.{keep_in, in_keep, keep_ascend, in_nil}
use Rattle.theory.proofs.Counts.{keep_same}
use Rattle.theory.proofs.Letters.{marks_left, marks_right, marks_head, marks_tail, marks-append, marks_cons, marks-replicate, marks_letter}
use Rattle.theory.proofs.Listed.{all_words_lem, all_ascend, lyndon_words}
use Rattle.theory.proofs.Lyndon.{Lyndon, Necklace, lyndon_in, necklace_pre, pre_prefix, raise_last, append_top, fill_top}
use Rattle.theory.proofs.Powers.{rot_refl}
use Rattle.theory.proofs.Necklaces.{power_necklace, smallest_is, smallest_necklace, smallest-marks, smallest-length}
use Rattle.theory.proofs.Tops.{Lead, all_top, lead, lead_of, no_higher, replicate_left, replicate_right, one_less}

-- necklaces as the specification tests them
pub smallest_own : {w : List ℕ} → Necklace w → smallest w ≡ w
smallest_own {w} h = smallest_is (rot_refl w) h

pub own_necklace : {w : List ℕ} → smallest w ≡ w → Necklace w
own_necklace {w} e = subst Necklace e (smallest_necklace w)

pub is_necklace_lem : {w : List ℕ} → Necklace w → is_necklace w ≡ true
is_necklace_lem {w} h = eq_same (smallest_own h)

pub necklace_is : (w : List ℕ) → is_necklace w ≡ true → Necklace w
necklace_is w t = own_necklace (same_eq (smallest w) w t)

pub lyndon_necklace : {w : List ℕ} → Lyndon w → Necklace w
lyndon_necklace {w} l = subst Necklace (append-nil w) (power_necklace 1 l)

pub zeros_necklace : (n : ℕ) → Necklace (replicate n 0)
zeros_necklace n u v e = eq_le (e ∙ swap)
  where
    swap : u ++ v ≡ v ++ u
    swap =
        let p = replicate_left n 0 u v e in
        let q = replicate_right n 0 u v e in
        ap₂ ◌++◌ p q ∙ lib.ListN.replicate-append-replicate (length u) (length v) 0 ∙ ap (λ r. replicate r 0) (native.Mathlib.Nat.add_comm (length u) (length v))
        ∙ sym (lib.ListN.replicate-append-replicate (length v) (length u) 0) ∙ sym (ap₂ ◌++◌ q p)

pub zeros_le : (w : List ℕ) → Le (replicate (length w) 0) w
zeros_le [] = empty
zeros_le (a ∷ w) = elim (cmp 0 a) [ less l ↦ sooner l | equal l ↦ subst (λ r. Le (0 ∷ replicate (length w) 0) (r ∷ w)) l (further (zeros_le w)) | more l ↦ absurd (omega arith) ]

-- what begins with γ is not below γ 0 .. 0
pub zeros_least : (γ : List ℕ) (r : ℕ) {v : List ℕ} → length v ≡ length γ + r → Prefix γ v → Le (γ ++ replicate r 0) v
zeros_least γ r {v} e (prefix t f) =
    let long : length t ≡ r = omega (arith, ap length f, length-append γ t) in
    subst (λ x. Le (γ ++ replicate r 0) x) (sym f) (le_prefix γ (subst (λ x. Le (replicate x 0) t) long (zeros_le t)))

-- the last of an ascending list is its largest
last_in : (ws : List (List ℕ)) {x : List ℕ} → In x ws → In (last_of ws) ws
last_in [] i = absurd (in_nil i)
last_in (w ∷ []) i = here refl
last_in (w ∷ (v ∷ ws)) i = there (last_in (v ∷ ws) (here refl))

last_largest : (ws : List (List ℕ)) → Ascending ws → {x : List ℕ} → In x ws → Le x (last_of ws)
last_largest [] s i = absurd (in_nil i)
last_largest (w ∷ []) s (here e) = eq_le e
last_largest (w ∷ []) s (there i) = absurd (in_nil i)
last_largest (w ∷ (v ∷ ws)) s (here e) = le_trans (eq_le e) (le_trans (lt_le (below_lt w v (s.0 v (here refl)))) (last_largest (v ∷ ws) s.1 (here refl)))
last_largest (w ∷ (v ∷ ws)) s (there i) = last_largest (v ∷ ws) s.1 i

-- the largest of the necklaces of w's length that pass a test
module _ (f : List ℕ → Bool) (k : ℕ) (w : List ℕ) where
  passing : List (List ℕ)
  passing = keep (λ u. is_necklace u && f u) (all_words k (length w))

  pub record Passes (u : List ℕ) : Type 0 where
    pub long : length u ≡ length w
    pub marks : marks_ok k u ≡ true
    pub necklace : Necklace u
    pub pass : f u ≡ true

  passing_in : {u : List ℕ} → In u passing → Passes u
  unfolding passing
  passing_in {u} i =
      let r = keep_in (λ u. is_necklace u && f u) (all_words k (length w)) i in
      let s = (all_words_lem k (length w) u).0 r.0 in
      record { long = s.0; marks = s.1; necklace = necklace_is u (and_l (is_necklace u) (f u) r.1); pass = and_r (is_necklace u) (f u) r.1 }

  in_passing : {u : List ℕ} → Passes u → In u passing
  unfolding passing
  in_passing {u} p = in_keep (λ u. is_necklace u && f u) ((all_words_lem k (length w) u).1 (p.long, p.marks)) (and_in (is_necklace_lem p.necklace) p.pass)

  pub last_passes : {u : List ℕ} → Passes u → Passes (last_of (keep (λ u. is_necklace u && f u) (all_words k (length w))))
  unfolding passing
  last_passes p = passing_in (last_in passing (in_passing p))

  pub last_above : {u : List ℕ} → Passes u → Le u (last_of (keep (λ u. is_necklace u && f u) (all_words k (length w))))
  unfolding passing
  last_above p = last_largest passing (keep_ascend (λ u. is_necklace u && f u) (all_words k (length w)) (all_ascend k (length w))) (in_passing p)

  -- whatever passes and is not below another that passes is the last
  pub last_is : {v : List ℕ} → Passes v → ((u : List ℕ) → Passes u → Le u v) → last_of (keep (λ u. is_necklace u && f u) (all_words k (length w))) ≡ v
  last_is p h = le_antisym (h _ (last_passes p)) (last_above p)

  pub last_none : ((u : List ℕ) → ¬ Passes u) → last_of (keep (λ u. is_necklace u && f u) (all_words k (length w))) ≡ []
  unfolding passing
  last_none h = none passing (λ u i. h u (passing_in i))
    where
      none : (ws : List (List ℕ)) → ((u : List ℕ) → In u ws → ⊥) → last_of ws ≡ []
      none [] g = refl
      none (v ∷ ws) g = absurd (g v (here refl))

-- the largest necklace not above w
module _ (k : ℕ) (w : List ℕ) (ok : marks_ok k w ≡ true) where
  zeros_pass : Passes (λ u. up_to u w) k w (replicate (length w) 0)
  zeros_pass = record { long = length-replicate (length w) 0; marks = zeros w ok; necklace = zeros_necklace (length w); pass = le_up_to (zeros_le w) }
    where
      zeros : (w : List ℕ) → marks_ok k w ≡ true → marks_ok k (replicate (length w) 0) ≡ true
      zeros [] h = refl
      zeros (a ∷ w) h = marks-replicate k (suc (length w)) 0 (omega (arith, marks_head k a w h))

  floor_passes : Passes (λ u. up_to u w) k w (necklace_up_to k w)
  floor_passes = last_passes (λ u. up_to u w) k w zeros_pass

  pub floor_is : let v = necklace_up_to k w in (length v ≡ length w) × (marks_ok k v ≡ true) × (smallest v ≡ v) × (up_to v w ≡ true)
  floor_is = (floor_passes.long, floor_passes.marks, smallest_own floor_passes.necklace, floor_passes.pass)

pub floor_largest : (k : ℕ) (w u : List ℕ) → length u ≡ length w → marks_ok k u ≡ true → smallest u ≡ u → up_to u w ≡ true → up_to u (necklace_up_to k w) ≡ true
floor_largest k w u e m s p = le_up_to (last_above (λ u. up_to u w) k w (record { long = e; marks = m; necklace = own_necklace s; pass = p }))

-- a necklace is not above w just when it is not above that one
floor_same : (k : ℕ) (w u : List ℕ) → marks_ok k w ≡ true → length u ≡ length w → marks_ok k u ≡ true → smallest u ≡ u → up_to u (necklace_up_to k w) ≡ up_to u w
floor_same k w u ok e m s = elim (test (up_to u w)) [ inl t ↦ floor_largest k w u e m s t ∙ sym t | inr t ↦ fails (test (up_to u (necklace_up_to k w))) t ]
  where
    fails : (up_to u (necklace_up_to k w) ≡ true) ⊎ (up_to u (necklace_up_to k w) ≡ false) → up_to u w ≡ false → up_to u (necklace_up_to k w) ≡ up_to u w
    fails (inr x) t = x ∙ sym t
    fails (inl x) t = absurd (false≢true (sym t ∙ le_up_to (le_trans (up_to_le u _ x) (up_to_le _ w (floor_is k w ok).3))))

pub floor_cs : (k : ℕ) (w : List ℕ) → marks_ok k w ≡ true → cs k (necklace_up_to k w) ≡ cs k w
floor_cs k w ok = ap (λ m. length (keep (λ u. up_to (smallest u) (necklace_up_to k w)) (all_words k m))) (floor_is k w ok).0 ∙ ap length (keep_same (λ u. up_to (smallest u) (necklace_up_to k w)) (λ u. up_to (smallest u) w) (all_words k (length w)) (λ u i. agree_at u ((all_words_lem k (length w) u).0 i)))
  where
    agree_at : (u : List ℕ) → (length u ≡ length w) × (marks_ok k u ≡ true) → up_to (smallest u) (necklace_up_to k w) ≡ up_to (smallest u) w
    agree_at u (e, m) = floor_same k w (smallest u) ok (smallest-length u ∙ e) (smallest-marks k u m) (smallest_own (smallest_necklace u))

pub floor_rank : (k : ℕ) (w : List ℕ) → marks_ok k w ≡ true → rank k (necklace_up_to k w) ≡ rank k w
floor_rank k w ok = ap (λ m. length (keep (λ u. up_to u (necklace_up_to k w)) (lyndons k m))) (floor_is k w ok).0 ∙ ap length (keep_same (λ u. up_to u (necklace_up_to k w)) (λ u. up_to u w) (lyndons k (length w)) (λ u i. agree_at u ((lyndon_words k (length w) u).0 i)))
  where
    agree_at : (u : List ℕ) → (length u ≡ length w) × (marks_ok k u ≡ true) × (is_lyndon u ≡ true) → up_to u (necklace_up_to k w) ≡ up_to u w
    agree_at u (e, m, l) = floor_same k w u ok e m (smallest_own (lyndon_necklace (lyndon_in u l)))

-- a necklace keeps being one when a letter is raised, but not to z, and z stands after it
pub refill : (z : ℕ) (p : List ℕ) (b c : ℕ) (s : List ℕ) → Necklace (p ++ (b ∷ s)) → marks_ok (suc z) s ≡ true → b ≤ c → c < z → Necklace (p ++ (c ∷ replicate (length s) z))
refill z p b c s h m l i = elim (cmp b c) [ less g ↦ raised g | equal g ↦ subst (λ r. Necklace (p ++ (r ∷ replicate (length s) z))) g (same_letter (lead_of z s m)) | more g ↦ absurd (omega arith) ]
  where
    pre : Prenecklace (p ++ (b ∷ []))
    pre = pre_prefix (p ++ (b ∷ [])) s (subst Prenecklace (sym (append_assoc p (b ∷ []) s)) (necklace_pre h))

    raised : b < c → Necklace (p ++ (c ∷ replicate (length s) z))
    raised g = lyndon_necklace (subst Lyndon (append_assoc p (c ∷ []) (replicate (length s) z)) (tops p pre (raise_last p b c pre g)))
      where
        tops : (p : List ℕ) → Prenecklace (p ++ (b ∷ [])) → Lyndon (p ++ (c ∷ [])) → Lyndon ((p ++ (c ∷ [])) ++ replicate (length s) z)
        tops [] q k = append_top c [] z (length s) i k
        tops (a ∷ p) q k = append_top a (p ++ (c ∷ [])) z (length s) (first (split a b)) k
          where
            first : Split a b → a < z
            first (upto x) = omega arith
            first (over x) = absurd (q (a ∷ p) (b ∷ []) refl (differ x))

    same_letter : Lead z s → Necklace (p ++ (b ∷ replicate (length s) z))
    same_letter (all_top e) = subst (λ r. Necklace (p ++ (b ∷ r))) e h
    same_letter (lead j a r e x) =
        let long : j + suc (length r) ≡ length s = omega (arith, ap length e, length-append (replicate j z) (a ∷ r), length-replicate j z) in
        let word : p ++ (b ∷ s) ≡ (p ++ (b ∷ [])) ++ (replicate j z ++ (a ∷ r)) = ap (λ y. p ++ (b ∷ y)) e ∙ sym (append_assoc p (b ∷ []) (replicate j z ++ (a ∷ r))) in
        let filled = fill_top (p ++ (b ∷ [])) r a z j (omega (arith, length-append p (b ∷ []))) x (subst Prenecklace word (necklace_pre h)) in
        lyndon_necklace (subst Lyndon (ap (λ y. (p ++ (b ∷ [])) ++ replicate y z) long ∙ append_assoc p (b ∷ []) (replicate (length s) z)) filled)

-- the rule, for w over 0 to z: the last letter that can be lowered so that a necklace results
module _ (z : ℕ) (w : List ℕ) (ok : marks_ok (suc z) w ≡ true) where
  -- a necklace below w, decided before the letter at i
  pub data Under (i : ℕ) (u : List ℕ) : Type 0 where
    decided_at : Necklace u → marks_ok (suc z) u ≡ true → length u ≡ length w → (p : List ℕ) (b : ℕ) (s : List ℕ) (a : ℕ) (t : List ℕ)
        → u ≡ p ++ (b ∷ s) → w ≡ p ++ (a ∷ t) → b < a → length p < i → Under i u

  under_more : {i : ℕ} {u : List ℕ} → Under i u → Under (suc i) u
  under_more (decided_at h m l p b s a t e f g x) = decided_at h m l p b s a t e f g (omega arith)

  -- what floor_from finds among them: the largest, or nothing
  pub data Floor (i : ℕ) (v : List ℕ) : Type 0 where
    largest : Under i v → ((u : List ℕ) → Under i u → Le u v) → Floor i v
    none : v ≡ [] → ((u : List ℕ) → ¬ Under i u) → Floor i v

  -- w is P a T, v the word with a lowered and z after it
  module _ (P : List ℕ) (a : ℕ) (T : List ℕ) (e : w ≡ P ++ (a ∷ T)) where
    abbrev lower : List ℕ
    lower = P ++ ((a - 1) ∷ replicate (length T) z)

    a_letter : a < suc z
    a_letter = marks_letter (suc z) P a T (rw e at ok)

    -- what is decided at that letter or before
    data Place (u : List ℕ) : Type 0 where
      sooner_on : Under (length P) u → Place u
      right_there : (b : ℕ) (s : List ℕ) → u ≡ P ++ (b ∷ s) → b < a → length s ≡ length T → marks_ok (suc z) s ≡ true → Necklace u → Place u

    place_of_lem : {u : List ℕ} → Under (suc (length P)) u → Place u
    place_of_lem {u} (decided_at h m l p b s c t f g x y) = elim (cmp (length p) (length P)) [ less q ↦ sooner_on (decided_at h m l p b s c t f g x q) | equal q ↦ there_at (split_same p (c ∷ t) P (a ∷ T) (sym g ∙ e) q) | more q ↦ absurd (omega arith) ]
      where
        there_at : (p ≡ P) × (c ∷ t ≡ a ∷ T) → Place u
        there_at (i, j) =
            let tail_marks : marks_ok (suc z) (b ∷ s) ≡ true = marks_right (suc z) p (b ∷ s) (rw f at m) in
            right_there b s (f ∙ ap (λ r. r ++ (b ∷ s)) i) (omega (arith, head-eq_of_cons-eq j))
            (omega (arith, ap length f, ap length g, length-append p (b ∷ s), length-append p (c ∷ t), ap length j)) (marks_tail (suc z) b s tail_marks) h

    lower_long : length lower ≡ length w
    lower_long = omega (arith, ap length e, length-append P (a ∷ T), length-append P ((a - 1) ∷ replicate (length T) z), length-replicate (length T) z)

    lower_under : 0 < a → Necklace lower → Under (suc (length P)) lower
    lower_under l h = decided_at h marks lower_long P (a - 1) (replicate (length T) z) a T refl e (omega arith) (omega arith)
      where
        marks : marks_ok (suc z) lower ≡ true
        marks = marks-append (suc z) P _ (marks_left (suc z) P (a ∷ T) (rw e at ok)) (marks_cons (suc z) (a - 1) (replicate (length T) z) (omega (arith, a_letter)) (marks-replicate (suc z) (length T) z (omega arith)))

    lower_largest : (u : List ℕ) → Under (suc (length P)) u → Le u lower
    lower_largest u x = elim (place_of_lem x) [ sooner_on y ↦ before y | right_there b s f l m k n ↦ subst (λ r. Le r lower) (sym f) (le_prefix P (letter b s l m k)) ]
      where
        letter : (b : ℕ) (s : List ℕ) → b < a → length s ≡ length T → marks_ok (suc z) s ≡ true → Le (b ∷ s) ((a - 1) ∷ replicate (length T) z)
        letter b s l m k = elim (cmp b (a - 1)) [
          | less q ↦ sooner q
          | equal q ↦ subst (λ r. Le (r ∷ s) ((a - 1) ∷ replicate (length T) z)) (sym q) (further (not_lt (no_higher (length T) z s (omega arith) k)))
          | more q ↦ absurd (omega arith)
        ]

        before : Under (length P) u → Le u lower
        before (decided_at h m l p b s c t f g i y) = elim (levi p (c ∷ t) P (a ∷ T) (sym g ∙ e)) [
          | longer r q o ↦ absurd (omega (arith, ap length q, length-append P r))
          | shorter r q o ↦ within r q o
        ]
          where
            within : (r : List ℕ) → P ≡ p ++ r → c ∷ t ≡ r ++ (a ∷ T) → Le u lower
            within [] q o = absurd (omega (arith, ap length q, length-append p []))
            within (d ∷ r) q o =
                let k : lower ≡ p ++ (d ∷ (r ++ ((a - 1) ∷ replicate (length T) z))) = ap (λ x. x ++ ((a - 1) ∷ replicate (length T) z)) q ∙ append_assoc p (d ∷ r) ((a - 1) ∷ replicate (length T) z) in
                lt_le (cut_lt (subst₂ Cut (sym f) (sym k) (cut_at_letter p s (r ++ ((a - 1) ∷ replicate (length T) z)) (omega (arith, head-eq_of_cons-eq o)))))

    -- where lowering gives no necklace, none is decided at that letter
    not_there : ((ltb 0 a && is_necklace lower) ≡ false) → {u : List ℕ} → Under (suc (length P)) u → Under (length P) u
    not_there t {u} x = elim (place_of_lem x) [ sooner_on y ↦ y | right_there b s f l m k n ↦ absurd (false≢true (sym t ∙ and_in (lt-ltb 0 a (omega arith)) (is_necklace_lem (fits b s f l m k n)))) ]
      where
        fits : (b : ℕ) (s : List ℕ) → u ≡ P ++ (b ∷ s) → b < a → length s ≡ length T → marks_ok (suc z) s ≡ true → Necklace u → Necklace lower
        fits b s f l m k n =
            subst (λ r. Necklace (P ++ ((a - 1) ∷ replicate r z))) m (refill z P b (a - 1) s (subst Necklace f n) k (omega arith) (omega (arith, a_letter)))

    step : {v : List ℕ} → Floor (length P) v → Floor (suc (length P)) (elim (ltb 0 a && is_necklace lower) [ true ↦ lower | false ↦ v ])
    step {v} r = elim (test (ltb 0 a && is_necklace lower)) [ inl t ↦ rw t (largest (lower_under (ltb-true 0 a (and_l (ltb 0 a) _ t)) (necklace_is lower (and_r (ltb 0 a) _ t))) lower_largest) | inr t ↦ rw t (on t r) ]
      where
        on : (ltb 0 a && is_necklace lower) ≡ false → Floor (length P) v → Floor (suc (length P)) v
        on t (largest x h) = largest (under_more x) (λ u y. h u (not_there t y))
        on t (none x h) = none x (λ u y. h u (not_there t y))

  pub floor_of : (i : ℕ) → i ≤ length w → Floor i (floor_from (suc z) w i)
  floor_of zero h = none refl (λ u x. elim x [ decided_at n m l p b s a t e f g y ↦ omega arith ])
  floor_of (suc i) h =
      let long : length (take i w) ≡ i = length-take-le i w (omega arith) in
      let word : take i w ++ ((get_or w i 0 - 1) ∷ replicate (length (drop (suc i) w)) z) ≡ lowered_at (suc z) w i = ap₂ (λ x y. take i w ++ ((get_or w i 0 - 1) ∷ replicate x y)) (length-drop (suc i) w) (sym (one_less z)) in
      subst₂ (λ x y. Floor (suc x) (elim (ltb 0 (get_or w i 0) && is_necklace y) [ true ↦ y | false ↦ floor_from (suc z) w i ])) long word
      (step (take i w) (get_or w i 0) (drop (suc i) w) (split_at w i 0 h) (subst (λ x. Floor x (floor_from (suc z) w i)) (sym long) (floor_of i (omega arith))))

  -- decided before the end of w: every necklace below w
  under_below : {u : List ℕ} → Under (length w) u → Passes (λ u. below u w) (suc z) w u
  under_below {u} (decided_at h m l p b s a t e f g x) =
      record { long = l; marks = m; necklace = h; pass = lt_below (cut_lt (subst₂ Cut (sym e) (sym f) (cut_at_letter p s t g))) }

  below_under : {u : List ℕ} → Passes (λ u. below u w) (suc z) w u → Under (length w) u
  below_under {u} x = elim (decide (lt_cut (below_lt u w x.pass) (omega (arith, x.long)))) [
    | decided p b a s t e f g ↦ decided_at x.necklace x.marks x.long p b s a t e f g (omega (arith, ap length f, length-append p (a ∷ t)))
  ]

  pub below_is : necklace_below (suc z) w ≡ floor_from (suc z) w (length w)
  below_is = elim (floor_of (length w) (omega arith)) [
    | largest x h ↦ last_is (λ u. below u w) (suc z) w (under_below x) (λ u y. h u (below_under y))
    | none x h ↦ last_none (λ u. below u w) (suc z) w (λ u y. h u (below_under y)) ∙ sym x
  ]

pub below-rule : (k : ℕ) (w : List ℕ) → marks_ok k w ≡ true → necklace_below k w ≡ floor_from k w (length w)
below-rule zero [] ok = refl
below-rule zero (a ∷ w) ok = absurd (omega (arith, marks_head 0 a w ok))
below-rule (suc z) w ok = below_is z w ok

-- a word that is none has the same necklaces not above it as below it
pub floor_rule : (k : ℕ) (w : List ℕ) → marks_ok k w ≡ true → necklace_up_to k w ≡ pick (is_necklace w) w (floor_from k w (length w))
floor_rule k w ok = elim (test (is_necklace w)) [ inl t ↦ rw t (own (necklace_is w t)) | inr t ↦ rw t (other t ∙ below-rule k w ok) ]
  where
    own : Necklace w → necklace_up_to k w ≡ w
    own h = last_is (λ u. up_to u w) k w (record { long = refl; marks = ok; necklace = h; pass = le_up_to (le_refl w) }) (λ u x. up_to_le u w x.pass)

    other : is_necklace w ≡ false → necklace_up_to k w ≡ necklace_below k w
    other t = ap last_of (keep_same (λ u. is_necklace u && up_to u w) (λ u. is_necklace u && below u w) (all_words k (length w)) (λ u i. at u (test (is_necklace u))))
      where
        at : (u : List ℕ) → (is_necklace u ≡ true) ⊎ (is_necklace u ≡ false) → (is_necklace u && up_to u w) ≡ (is_necklace u && below u w)
        at u (inr x) = rw x
        at u (inl x) = ap (λ b. is_necklace u && b) (rw (ne_same {u = u} {v = w} (λ e. false≢true (sym t ∙ ap is_necklace (sym e) ∙ x))))

pub floors : Floors
floors =
    record {
      floor_is = floor_is;
      floor_largest = floor_largest;
      floor_cs = floor_cs;
      floor_rank = floor_rank;
      floor_rule = floor_rule;
      below-rule = below-rule;
    }

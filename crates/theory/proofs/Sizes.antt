-- The size of CS(w) from the automaton's paths (document 004, section 4): the words outside CS(w), listed by the prefix of w that ends
-- them, are as many as there are paths along an antidiagonal; so one table, of w, gives the size for every prefix of w.
use mathlib.Core.Path.{◌≡◌, refl, sym, ◌∙◌, ap, subst, subst₂}
use mathlib.Core.Bool.{Bool, true, not}
use mathlib.Core.List.{List, ◌++◌}
use Prim.Native.Nat.{ℕ, zero, suc, ◌+◌, ◌-◌, ◌^◌, ◌≤◌, ◌<◌}
use native.Mathlib.Omega.{arith}
use lib.ListN.{length, take, drop, length-append, length-drop, take-append-drop}
use lib.Seq.{length-take-le, take-append_seam, drop-append_seam}
use Rattle.theory.specs.Words.{same, up_to, smallest, all_words, keep, marks_ok}
use Rattle.theory.specs.Lists.{In, Once, each, gather}
use Rattle.theory.specs.Sums.{cs}
use Rattle.theory.specs.Automaton.{run, returning, paths_to}
use Rattle.theory.specs.Theorems.{Automaton}
use Rattle.theory.specs.Prenecklaces.{Prenecklace}
use Rattle.theory.proofs.Base.{cancel_right, refute, refuted}
use Rattle.theory.proofs.Order.{same_eq, same_refl, eq_same}
use Rattle.theory.proofs.Lists.{keep_in, in_keep, keep_once, image, each_in, in_each, each_length, each_once_lem, gathered, gather_in, in_gather, gather_once, span, span_in, in_span, span_once, ascend_once}
use Rattle.theory.proofs.Counts.{sum, sum_ext, once_eq, gather-length, keep_both}
use Rattle.theory.proofs.Letters.{marks_left, marks-take, marks-append}
use Rattle.theory.proofs.Lyndon.{pre_prefix}
use Rattle.theory.proofs.Necklaces.{smallest_pre}
use Rattle.theory.proofs.AllWords.{all_in, in_all, all_ascend, all_count}
use Rattle.theory.proofs.Automaton.{state, Walk, walk_run, run_walk, turns_up_to, up_to_turns, Twice, accepted, refused, twice, accepts_pre}
use Rattle.theory.proofs.Paths.{home_away, home_step, home_small, paths_front, Returns, returns, both_home, refused_returns, returns_refused}
use Rattle.theory.proofs.Levels.{cs_small}

-- the words that fill up the prefix of length q and lead what is left behind it to w; the words made of both, for every q below the length
abbrev leads : List ℕ → ℕ → List ℕ → Bool
leads w q x = same (run w (drop q w) x) w

abbrev leading : ℕ → List ℕ → ℕ → List (List ℕ)
leading k w q = keep (leads w q) (all_words k (length w - q))

ending : ℕ → List ℕ → ℕ → List (List ℕ)
ending k w q = each (λ y. y ++ take q w) (leading k w q)

endings : ℕ → List ℕ → List (List ℕ)
endings k w = gather (ending k w) (span (length w))

paths_sum : (k : ℕ) (w : List ℕ) (d q : ℕ) → paths_to k w d q ≡ sum (λ i. returning k w i (d - i)) (span q)
paths_sum k w d zero = refl
paths_sum k w d (suc q) = ap (λ r. returning k w q (d - q) + r) (paths_sum k w d q)

endings_length : (k : ℕ) (w : List ℕ) → length (endings k w) ≡ paths_to k w (length w) (length w)
unfolding ending endings
endings_length k w =
    gather-length (ending k w) (span (length w))
    ∙ sum_ext (λ q. length (ending k w q)) (λ q. returning k w q (length w - q)) (span (length w))
    (λ q i. each_length (λ y. y ++ take q w) (leading k w q))
    ∙ sym (paths_sum k w (length w) (length w))

-- a member taken apart
data Ending (k : ℕ) (w x : List ℕ) (q : ℕ) : Type 0 where
  ends : (y : List ℕ) → length y ≡ length w - q → marks_ok k y ≡ true → x ≡ y ++ take q w → Walk w (drop q w) y w → Ending k w x q

ending_in : (k : ℕ) (w : List ℕ) (q : ℕ) {x : List ℕ} → 0 < length w → In x (ending k w q) → Ending k w x q
unfolding ending
ending_in k w q n i = elim (each_in (λ y. y ++ take q w) (leading k w q) i) [
  | image y j e ↦
      let r = keep_in (leads w q) (all_words k (length w - q)) j in
      let a = all_in k (length w - q) y r.0 in
      ends y a.0 a.1 e (run_walk n (same_eq _ w r.1))
]

in_ending : (k : ℕ) (w : List ℕ) (q : ℕ) {x : List ℕ} → Ending k w x q → In x (ending k w q)
unfolding ending
in_ending k w q (ends y l m e g) =
    subst (λ z. In z (ending k w q)) (sym e)
    (in_each (λ y. y ++ take q w) (in_keep (leads w q) (in_all k (length w - q) y l m) (eq_same (walk_run g))))

all_once : (k n : ℕ) → Once (all_words k n)
all_once k n = ascend_once (all_words k n) (all_ascend k n)

module _ (k : ℕ) (w : List ℕ) (pre : Prenecklace w) (some : 0 < length w) (ok : marks_ok k w ≡ true) where
  outside : List (List ℕ)
  outside = keep (λ x. not (up_to (smallest x) w)) (all_words k (length w))

  behind : (q : ℕ) → w ≡ take q w ++ drop q w
  behind q = sym (take-append-drop q w)

  endings_once : Once (endings k w)
  unfolding endings ending
  endings_once = gather_once (ending k w) (span (length w)) (span_once (length w)) one two
    where
      one : (q : ℕ) → In q (span (length w)) → Once (ending k w q)
      one q i =
          each_once_lem (λ y. y ++ take q w) (leading k w q) (keep_once (leads w q) (all_words k (length w - q)) (all_once k (length w - q)))
          (λ x y j m e. cancel_right x y (take q w) e)

      two : (q s : ℕ) (x : List ℕ) → In q (span (length w)) → In s (span (length w)) → In x (ending k w q) → In x (ending k w s) → q ≡ s
      two q s x i j a b = elim (ending_in k w q some a) [
        | ends y l m e g ↦ elim (ending_in k w s some b) [
          | ends z l' m' e' g' ↦
              let c : y ≡ z = both_home y (take q w) (drop q w) z (take s w) (drop s w) pre some (state (take q w) (behind q)) (state (take s w) (behind s)) (behind q) (behind s) g g' (sym e ∙ e') in
              omega (arith, ap length c, span_in (length w) i, span_in (length w) j)
        ]
      ]

  endings_outside : (x : List ℕ) → In x (endings k w) → In x outside
  unfolding endings outside
  endings_outside x i = elim (gather_in (ending k w) (span (length w)) i) [ gathered q j m ↦ go q (span_in (length w) j) (ending_in k w q some m) ]
    where
      go : (q : ℕ) → q < length w → Ending k w x q → In x outside
      go q h (ends y l m e g) =
          let n : length x ≡ length w = ap length e ∙ length-append y (take q w) ∙ omega (arith, length-take-le q w (omega arith)) in
          let c : marks_ok k x ≡ true = rw e (marks-append k y (take q w) m (marks-take k q w ok)) in
          let r : Returns w x = returns y (take q w) (drop q w) e (behind q) (omega (arith, length-drop q w)) g in
          in_keep (λ x. not (up_to (smallest x) w)) (in_all k (length w) x n c) (refute _ (λ t. returns_refused pre n r (up_to_turns n t)))

  outside_endings : (x : List ℕ) → In x outside → In x (endings k w)
  unfolding endings outside
  outside_endings x i =
      let r = keep_in (λ x. not (up_to (smallest x) w)) (all_words k (length w)) i in
      let a = all_in k (length w) x r.0 in
      go a.0 a.1 r.1 (twice w x a.0)
    where
      listed : length x ≡ length w → marks_ok k x ≡ true → Returns w x → In x (endings k w)
      listed l m (returns u p t e f n g) =
          let a : take (length p) w ≡ p = ap (take (length p)) f ∙ take-append_seam p t in
          let b : drop (length p) w ≡ t = ap (drop (length p)) f ∙ drop-append_seam p t in
          let h : length w ≡ length p + length t = ap length f ∙ length-append p t in
          in_gather (ending k w) (in_span (length w) (length p) (omega arith))
          (in_ending k w (length p) (ends u (omega (arith, ap length e, length-append u p)) (marks_left k u p (rw e at m)) (e ∙ ap (λ y. u ++ y) (sym a)) (subst (λ y. Walk w y u w) (sym b) g)))

      go : length x ≡ length w → marks_ok k x ≡ true → not (up_to (smallest x) w) ≡ true → Twice w x → In x (endings k w)
      go l m c (accepted t) = absurd (refuted _ c (turns_up_to l t))
      go l m c (refused t n g) = listed l m (refused_returns pre some l n g)

  sizes_whole : cs k w + paths_to k w (length w) (length w) ≡ k ^ length w
  unfolding outside
  sizes_whole = omega (
    arith,
    keep_both (λ x. up_to (smallest x) w) (all_words k (length w)),
    once_eq (endings k w) outside endings_once (keep_once (λ x. not (up_to (smallest x) w)) (all_words k (length w)) (all_once k (length w))) endings_outside outside_endings,
    endings_length k w,
    all_count k (length w),
  )

-- the sizes of CS of all prefixes of w from the numbers of w
pub sizes_pre : (k : ℕ) (w : List ℕ) (d : ℕ) → Prenecklace w → marks_ok k w ≡ true → 1 ≤ d → d ≤ length w
    → cs k (take d w) + paths_to k w d d ≡ k ^ d
sizes_pre k w d h m a b =
    let l : length (take d w) ≡ d = length-take-le d w b in
    let e : take d w ++ drop d w ≡ w = take-append-drop d w in
    let n : 0 < length (take d w) = omega arith in
    let p : Prenecklace (take d w) = pre_prefix (take d w) (drop d w) (subst Prenecklace (sym e) h) in
    let s = sizes_whole k (take d w) p n (marks-take k d w m) in
    let f = paths_front k (take d w) (drop d w) (length (take d w)) n (omega arith) in
    subst₂ (λ x i. cs k (take d w) + paths_to k x i i ≡ k ^ i) e l (ap (λ i. cs k (take d w) + i) f ∙ s)

-- a word equal to its smallest rotation is a prenecklace
pub automaton : Automaton
automaton =
    record {
      accepts = λ w x h n. accepts_pre w x (smallest_pre w h) n;
      home = λ k w. rw (same_refl w);
      away = home_away;
      step = home_step;
      small = home_small;
      sizes = λ k w t d h m a b. sizes_pre k w d (pre_prefix w t (smallest_pre (w ++ t) h)) m a b;
      cs_small = cs_small;
    }

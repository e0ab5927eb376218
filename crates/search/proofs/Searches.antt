-- The search letter by letter: what is found so far begins the word searched for, and its period says which letters can follow.
use mathlib.Core.Path.{◌≡◌, refl, sym, ◌∙◌, ap, ap₂, subst, subst₂}
use mathlib.Core.Bool.{true, false}
use mathlib.Core.List.{List, [], ◌∷◌, ◌++◌, tail-eq_of_cons-eq}
use Prim.Native.Nat.{ℕ, suc, ◌+◌, ◌-◌, ◌≤◌, ◌<◌}
use native.Mathlib.Omega.{arith}
use native.Mathlib.Numerals.{add-one}
use lib.Dec.{eqb}
use lib.ListN.{length, get_or, take, drop, replicate, length-set, take-append-drop}
use lib.Seq.{take-length, take-suc, take-suc-set, drop-set-lt, drop-cons, get_or-take}
use borrow.Author.Tests.{eq-eqb, ne_eqb, lt-ltb, le-ltb}
use Rattle.shape.specs.declared.Strip as DS
use Rattle.shape.specs.Shapes.{WordOn}
use Rattle.shape.proofs.Limits.{Limits, limits}
use Rattle.theory.specs.Words.{marks_ok}
use Rattle.theory.specs.Prenecklaces.{Prenecklace}
use Rattle.theory.proofs.Base.{Split, split, upto, over}
use Rattle.theory.proofs.Letters.{marks-append, marks-take, marks-replicate}
use Rattle.theory.proofs.Lyndon.{one_letter, lyndon_pre}
use Rattle.lyndon.proofs.PrePeriods.{Periodic, periodic, periodic_start, periodic_keep, periodic_raise, periodic_least, periodic_open}
use Rattle.search.specs.declared.Goal.{Goal}
use Rattle.search.specs.Goals.{Within, goal_word, Searching, Found, letter_back, period_with}
use Rattle.search.proofs.Goals.{Target, target}

pub back_start : (w : List ℕ) (p j : ℕ) → j ≡ 0 → 0 ≡ letter_back w j p
back_start w p j e = rw (eq-eqb j 0 e) refl

pub back_inside : (w : List ℕ) (p j : ℕ) → 0 < j → get_or w (j - p) 0 ≡ letter_back w j p
back_inside w p j h = let t : eqb j 0 ≡ false = ne_eqb j 0 (λ e. omega arith) in rw t refl

pub period_start : (p j from c : ℕ) → j ≡ 0 → 1 ≡ period_with p j from c
period_start p j from c e = rw (eq-eqb j 0 e) refl

pub period_grows : (p j from c : ℕ) → 0 < j → from < c → j + 1 ≡ period_with p j from c
period_grows p j from c h l = let t : eqb j 0 ≡ false = ne_eqb j 0 (λ e. omega arith) in rw (t, lt-ltb from c l) refl

pub period_stays : (p j from c : ℕ) → 0 < j → c ≤ from → p ≡ period_with p j from c
period_stays p j from c h l = let t : eqb j 0 ≡ false = ne_eqb j 0 (λ e. omega arith) in rw (t, le-ltb from c l) refl

-- the first j letters are found, k−1 stands after them, and the period is theirs
pub record SearchedTo (s : DS.Strip) (g : Goal) (out : List ℕ) (j period : ℕ) : Type 0 where
  pub size : length out ≡ s.n
  pub begun : take j (goal_word s.k s.n g) ≡ take j out
  pub rest : drop j out ≡ replicate (s.n - j) (s.k - 1)
  pub repeats : 0 < j → Periodic (goal_word s.k s.n g) period j

module _ (s : DS.Strip) (g : Goal) (inside : Within s g) where
  abbrev T : List ℕ
  T = goal_word s.k s.n g

  l : Limits s.k s.n
  l = limits s

  t : Target s.k s.n T
  t = target s g inside

  pub search_end : {out : List ℕ} {j period : ℕ} → SearchedTo s g out j period → j ≡ s.n → out ≡ T
  search_end {out} {j} a e =
      sym (take-length out) ∙ ap (λ m. take m out) (a.size ∙ sym e) ∙ sym a.begun ∙ ap (λ m. take m T) (e ∙ sym t.long) ∙ take-length T

  module _ {out : List ℕ} {j period : ℕ} (a : SearchedTo s g out j period) (q : j < length out) where
    in_target : j < length T
    in_target = omega (arith, q, a.size, t.long)

    pub search_back : (0 < j → (1 ≤ period) × (period ≤ j)) × (j < length out)
    search_back = (λ b. at (a.repeats b), q)
      where
        at : Periodic T period j → (1 ≤ period) × (period ≤ j)
        at (periodic x f e n m) = (omega (arith, f.some), m)

    -- what stands a period back is the target's letter
    back_is : 0 < j → letter_back out j period ≡ get_or T (j - period) 0
    back_is b =
        let near : j - period < j = omega (arith, search_back.0 b) in
        sym (back_inside out period j b) ∙ sym (get_or-take j out (j - period) 0 near) ∙ ap (λ r. get_or r (j - period) 0) (sym a.begun) ∙ get_or-take j T (j - period) 0 near

    tops : drop (suc j) out ≡ replicate (s.n - suc j) (s.k - 1)
    tops =
        let e : s.n - j ≡ suc (s.n - suc j) = omega (arith, q, a.size) in
        tail-eq_of_cons-eq (sym (drop-cons out j 0 q) ∙ a.rest ∙ ap (λ m. replicate m (s.k - 1)) e)

    word : WordOn s out
    word = record {
      long = a.size;
      marks = subst (λ r. marks_ok s.k r ≡ true) (take-append-drop j out) (marks-append s.k (take j out) (drop j out)
          (subst (λ r. marks_ok s.k r ≡ true) a.begun (marks-take s.k j T t.marks))
          (subst (λ r. marks_ok s.k r ≡ true) (sym a.rest) (marks-replicate s.k (s.n - j) (s.k - 1) (omega (arith, l.two)))));
    }

    pub search_asks : {from : ℕ} → from ≡ letter_back out j period → Searching s g out j from
    search_asks {from} e = elim (split j 0) [ upto z ↦ first (omega arith) | over b ↦ later b ]
      where
        asks : from ≤ get_or T j 0 → ((c : ℕ) → from ≤ c → c < s.k → Prenecklace (take j out ++ (c ∷ []))) → Searching s g out j from
        asks m k = record { word = word; goal_in = inside; at = omega (arith, q, a.size); rest = tops; begun = a.begun; least = m; keeps = k }

        first : j ≡ 0 → Searching s g out j from
        first z =
            let none : from ≡ 0 = e ∙ sym (back_start out period j z) in
            asks (omega arith) (λ c m b. subst (λ i. Prenecklace (take i out ++ (c ∷ []))) (sym z) (lyndon_pre (one_letter c)))

        later : 0 < j → Searching s g out j from
        later b =
            let same : from ≡ get_or T (j - period) 0 = e ∙ back_is b in
            asks (omega (arith, same, periodic_least T period j in_target (a.repeats b) t.pre)) (λ c m o. subst (λ r. Prenecklace (r ++ (c ∷ []))) a.begun (periodic_open T period j in_target (a.repeats b) c (omega (arith, same))))

    pub search_next : {from r next : ℕ} {out' : List ℕ} → from ≡ letter_back out j period → Found s g out out' j r → next ≡ period_with period j from r → SearchedTo s g out' (j + 1) next
    search_next {from} {r} {next} {out'} e f o = record {
      size = ap length f.buffer ∙ length-set out j r ∙ a.size;
      begun = ap (λ m. take m T) (add-one j) ∙ take-suc T j 0 in_target ∙ ap₂ (λ u b. u ++ (b ∷ [])) a.begun (sym f.letter_is) ∙ sym (take-suc-set out j r q) ∙ ap₂ take (sym (add-one j)) (sym f.buffer);
      rest = ap₂ drop (add-one j) f.buffer ∙ drop-set-lt (suc j) out j r (omega arith) ∙ tops ∙ ap (λ m. replicate (s.n - m) (s.k - 1)) (sym (add-one j));
      repeats = λ _. subst (λ p. Periodic T p (j + 1)) (sym o) (elim (split j 0) [ upto z ↦ first (omega arith) | over b ↦ later b (split r from) ]);
    }
      where
        first : j ≡ 0 → Periodic T (period_with period j from r) (j + 1)
        first z = subst₂ (Periodic T) (period_start period j from r z) (ap (λ i. i + 1) (sym z)) (periodic_start T (omega (arith, in_target)))

        later : 0 < j → Split r from → Periodic T (period_with period j from r) (j + 1)
        later b (upto m) =
            let same : from ≡ get_or T (j - period) 0 = e ∙ back_is b in
            subst (λ p. Periodic T p (j + 1)) (period_stays period j from r b m) (periodic_keep T period j in_target (a.repeats b) (omega (arith, same, f.letter_is, periodic_least T period j in_target (a.repeats b) t.pre)))
        later b (over m) =
            let same : from ≡ get_or T (j - period) 0 = e ∙ back_is b in
            subst (λ p. Periodic T p (j + 1)) (period_grows period j from r b m) (periodic_raise T period j in_target (a.repeats b) (omega (arith, same, f.letter_is)))

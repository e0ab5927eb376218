-- A letter tried at j: the word with k−1 after it, and that it is at or past the word searched for just when the letter is.
use mathlib.Core.Path.{◌≡◌, refl, sym, ◌∙◌, ap, subst, subst₂}
use mathlib.Core.Bool.{Bool, true, false}
use mathlib.Core.List.{List, [], ◌∷◌, ◌++◌, append_assoc}
use Prim.Native.Nat.{ℕ, suc, ◌+◌, ◌-◌, ◌≤◌, ◌<◌}
use native.Mathlib.Omega.{arith}
use lib.Dec.{leb}
use lib.ListN.{length, get_or, take, drop, set, replicate, length-set, length-drop}
use lib.Seq.{set_split, set-set, split_at}
use borrow.Author.Tests.{leb-true, leb-false, le-leb}
use Rattle.shape.specs.declared.Strip as DS
use Rattle.shape.specs.Shapes.{WordOn}
use Rattle.shape.proofs.Limits.{Limits, limits}
use Rattle.theory.specs.Words.{up_to, marks_ok}
use Rattle.theory.proofs.Base.{same_test}
use Rattle.theory.proofs.Order.{Le, le_up_to, up_to_le}
use Rattle.theory.proofs.Letters.{marks-append, marks_cons, marks-take, marks-drop, marks_getD}
use Rattle.theory.specs.Prenecklaces.{Prenecklace}
use Rattle.theory.proofs.Digits.{pre_top, reached, reached_out}
use Rattle.search.specs.declared.Goal.{Goal}
use Rattle.search.specs.Goals.{Within, goal_word, Searching}
use Rattle.search.proofs.Goals.{Target, target}

module _ {s : DS.Strip} {g : Goal} {w : List ℕ} {j from : ℕ} (h : Searching s g w j from) where
  -- the word searched for, and its letter at j
  abbrev T : List ℕ
  T = goal_word s.k s.n g

  abbrev sought : ℕ
  sought = get_or T j 0

  l : Limits s.k s.n
  l = limits s

  t : Target s.k s.n T
  t = target s g h.goal_in

  in_word : j < length w
  in_word = omega (arith, h.at, h.word.long)

  in_target : j < length T
  in_target = omega (arith, h.at, t.long)

  sought_letter : sought < s.k
  sought_letter = marks_getD s.k T j in_target t.marks

  tried : (c : ℕ) → set w j c ≡ take j w ++ (c ∷ replicate (s.n - suc j) (s.k - 1))
  tried c = set_split w j c in_word ∙ ap (λ r. take j w ++ (c ∷ r)) h.rest

  tried_word : (c : ℕ) → c < s.k → WordOn s (set w j c)
  tried_word c b = record {
    long = length-set w j c ∙ h.word.long;
    marks = subst (λ r. marks_ok s.k r ≡ true) (sym (set_split w j c in_word)) (marks-append s.k (take j w) (c ∷ drop (suc j) w) (marks-take s.k j w h.word.marks) (marks_cons s.k c (drop (suc j) w) b (marks-drop s.k (suc j) w h.word.marks)));
  }

  tried_pre : (c : ℕ) → from ≤ c → c < s.k → Prenecklace (set w j c)
  tried_pre c a b =
      let e : suc (s.k - 1) ≡ s.k = omega (arith, l.two) in
      let m : marks_ok s.k (take j w ++ (c ∷ [])) ≡ true = marks-append s.k (take j w) (c ∷ []) (marks-take s.k j w h.word.marks) (marks_cons s.k c [] b refl) in
      subst Prenecklace (append_assoc (take j w) (c ∷ []) (replicate (s.n - suc j) (s.k - 1)) ∙ sym (tried c))
      (pre_top (s.k - 1) (s.n - suc j) (take j w ++ (c ∷ [])) (subst (λ r. marks_ok r (take j w ++ (c ∷ [])) ≡ true) (sym e) m) (h.keeps c a b))

  -- the target, from the letter at j on
  target_split : T ≡ take j w ++ (sought ∷ drop (suc j) T)
  target_split = split_at T j 0 in_target ∙ ap (λ r. r ++ (sought ∷ drop (suc j) T)) h.begun

  rest-long : s.n - suc j ≡ length (drop (suc j) T)
  rest-long = sym (length-drop (suc j) T ∙ ap (λ r. r - suc j) t.long)

  rest-marks : marks_ok (suc (s.k - 1)) (drop (suc j) T) ≡ true
  rest-marks = let e : suc (s.k - 1) ≡ s.k = omega (arith, l.two) in subst (λ r. marks_ok r (drop (suc j) T) ≡ true) (sym e) (marks-drop s.k (suc j) T t.marks)

  tried_long : (c : ℕ) → set w j c ≡ take j w ++ (c ∷ replicate (length (drop (suc j) T)) (s.k - 1))
  tried_long c = tried c ∙ ap (λ r. take j w ++ (c ∷ replicate r (s.k - 1))) rest-long

  tried_reaches : (c : ℕ) → up_to T (set w j c) ≡ leb sought c
  tried_reaches c =
      same_test _ _
      (λ q. le-leb sought c (reached_out (s.k - 1) (take j w) sought (drop (suc j) T) rest-marks (subst₂ Le target_split (tried_long c) (up_to_le T (set w j c) q))))
      (λ q. le_up_to (subst₂ Le (sym target_split) (sym (tried_long c)) (reached (s.k - 1) (take j w) sought (drop (suc j) T) rest-marks (leb-true sought c q))))

-- the letter is between low and high, and the buffer differs at j only
pub record Bisecting (s : DS.Strip) (g : Goal) (w : List ℕ) (j from : ℕ) (v : List ℕ) (low high : ℕ) : Type 0 where
  pub least : from ≤ low
  pub above : low ≤ get_or (goal_word s.k s.n g) j 0
  pub under : get_or (goal_word s.k s.n g) j 0 ≤ high
  pub top : high < s.k
  pub size : length v ≡ length w
  pub other : (a : ℕ) → set v j a ≡ set w j a

pub bisect_start : {s : DS.Strip} {g : Goal} {w : List ℕ} {j from : ℕ} → Searching s g w j from → Bisecting s g w j from w from (s.k - 1)
bisect_start h = record { least = omega arith; above = h.least; under = omega (arith, sought_letter h); top = omega (arith, sought_letter h); size = refl; other = λ a. refl }

module _ {s : DS.Strip} {g : Goal} {w : List ℕ} {j from : ℕ} (h : Searching s g w j from) {v : List ℕ} {low high : ℕ} (b : Bisecting s g w j from v low high) where
  pub bisect_asks : (m : ℕ) → low ≤ m → m < high → WordOn s (set v j m) × Prenecklace (set v j m) × Within s g
  bisect_asks m a q = (
    subst (WordOn s) (sym (b.other m)) (tried_word h m (omega (arith, b.top))),
    subst Prenecklace (sym (b.other m)) (tried_pre h m (omega (arith, b.least)) (omega (arith, b.top))),
    h.goal_in,
  )

  module _ (m : ℕ) {r : Bool} (told : r ≡ up_to (goal_word s.k s.n g) (set v j m)) where
    answer : r ≡ leb (sought h) m
    answer = told ∙ ap (up_to (goal_word s.k s.n g)) (b.other m) ∙ tried_reaches h m

    again : (a : ℕ) → set (set v j m) j a ≡ set w j a
    again a = set-set v j m a ∙ b.other a

    pub bisect_low : m < high → r ≡ true → Bisecting s g w j from (set v j m) low m
    bisect_low q t = record { least = b.least; above = b.above; under = leb-true (sought h) m (sym answer ∙ t); top = omega (arith, b.top); size = length-set v j m ∙ b.size; other = again }

    pub bisect_high : low ≤ m → r ≡ false → Bisecting s g w j from (set v j m) (m + 1) high
    bisect_high q t = record {
      least = omega (arith, b.least);
      above = omega (arith, leb-false (sought h) m (sym answer ∙ t));
      under = b.under;
      top = b.top;
      size = length-set v j m ∙ b.size;
      other = again;
    }

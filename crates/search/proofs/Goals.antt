-- The word searched for: what it is, and when a word is at or past it.
use mathlib.Core.Path.{◌≡◌, sym, ◌∙◌, ap, subst}
use mathlib.Core.Bool.{true}
use mathlib.Core.List.{List}
use Prim.Native.Nat.{ℕ, ◌^◌, ◌<◌}
use lib.Dec.{leb, ltb}
use lib.ListN.{length}
use borrow.Author.Tests.{leb-true, le-leb, ltb-true, lt-ltb}
use Rattle.shape.specs.declared.Strip as DS
use Rattle.theory.specs.Words.{up_to, rank, marks_ok}
use Rattle.theory.specs.Sums.{cs}
use Rattle.theory.specs.Prenecklaces.{Prenecklace}
use Rattle.theory.proofs.Base.{same_test}
use Rattle.theory.proofs.Order.{le_up_to, up_to_le}
use Rattle.theory.proofs.Lyndon.{lyndon_in, lyndon_pre}
use Rattle.theory.proofs.Necklaces.{smallest_pre}
use Rattle.theory.proofs.Ranks.{undone}
use Rattle.theory.proofs.Digits.{rank_reaches}
use Rattle.theory.proofs.Positions.{cs_reached, by_cs, word_fits}
use Rattle.search.specs.declared.Goal.{Goal}
use Rattle.search.specs.declared.Goal.TheVariants.{Index, Position}
use Rattle.shape.specs.Shapes.{WordOn}
use Rattle.search.specs.Goals.{Within, goal_word}
use Rattle.shape.proofs.Limits.{limits}

-- its length, its letters, and that its prefixes are prenecklaces
pub record Target (k n : ℕ) (w : List ℕ) : Type 0 where
  pub long : length w ≡ n
  pub marks : marks_ok k w ≡ true
  pub pre : Prenecklace w

pub target : (s : DS.Strip) (g : Goal) → Within s g → Target s.k s.n (goal_word s.k s.n g)
target s (Index i) (a, b) =
    let r = undone.index_word s.k s.n i a b in
    record { long = r.0; marks = r.1; pre = lyndon_pre (lyndon_in _ r.2) }
target s (Position p) a =
    let l = limits s in
    let q : p < s.k ^ s.n = subst (λ x. p < x) s.whole a in
    let r = word_fits s.k s.n p l.two l.some q in
    record { long = r.0; marks = r.1; pre = smallest_pre _ (by_cs s.k s.n p l.two l.some q).0 }

-- a word is at or past it just when its rank, or the size of its CS, says so
index_reached : (s : DS.Strip) (i : ℕ) {w : List ℕ} → WordOn s w → Within s (Index i) → leb i (rank s.k w) ≡ up_to (goal_word s.k s.n (Index i)) w
index_reached s i {w} h (a, b) =
    let r = rank_reaches s.k s.n i a b h.long in
    same_test _ _ (λ t. le_up_to (r.0 (leb-true i _ t))) (λ t. le-leb i _ (r.1 (up_to_le _ w t)))

position_reached : (s : DS.Strip) (p : ℕ) {w : List ℕ} → WordOn s w → Within s (Position p) → ltb p (cs s.k w) ≡ up_to (goal_word s.k s.n (Position p)) w
position_reached s p {w} h a =
    let l = limits s in
    let r = cs_reached s.k s.n p l.two l.some (subst (λ x. p < x) s.whole a) h.long h.marks in
    same_test _ _ (λ t. le_up_to (r.0 (ltb-true p _ t))) (λ t. lt-ltb p _ (r.1 (up_to_le _ w t)))

-- so does a count of the word that is compared with the number searched for
pub index_told : {s : DS.Strip} {g : Goal} {i r : ℕ} {w : List ℕ} → g ≡ Index i → WordOn s w → Within s g → r ≡ rank s.k w → leb i r ≡ up_to (goal_word s.k s.n g) w
index_told {s} {g} {i} {r} {w} e h t q = ap (leb i) q ∙ index_reached s i h (subst (Within s) e t) ∙ ap (λ x. up_to (goal_word s.k s.n x) w) (sym e)

pub position_told : {s : DS.Strip} {g : Goal} {p r : ℕ} {w : List ℕ} → g ≡ Position p → WordOn s w → Within s g → r ≡ cs s.k w → ltb p r ≡ up_to (goal_word s.k s.n g) w
position_told {s} {g} {p} {r} {w} e h t q = ap (ltb p) q ∙ position_reached s p h (subst (Within s) e t) ∙ ap (λ x. up_to (goal_word s.k s.n x) w) (sym e)

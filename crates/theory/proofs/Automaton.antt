-- Document 004's automaton (section 4): runs that do not accept, words that are accepted at once, and Facts 11 and 12:
-- x is in CS(w) just when x x is accepted. All of it for a prenecklace w: every prefix of a necklace is one.
use mathlib.Core.Path.{◌≡◌, refl, sym, ◌∙◌, ap, ap₂, subst}
use mathlib.Core.Bool.{true}
use mathlib.Core.List.{List, [], ◌∷◌, ◌++◌, append_assoc, append-nil}
use Prim.Native.Nat.{ℕ, ◌≤◌, ◌<◌}
use native.Mathlib.Omega.{arith}
use native.Mathlib.Nat.{lt_trans as ℕ-lt-trans}
use lib.ListN.{length, length-append}
use borrow.Author.Tests.{lt-ltb, le-ltb, eq-eqb, ne_eqb}
use Rattle.theory.specs.Words.{same, up_to, smallest}
use Rattle.theory.specs.Automaton.{moved, run}
use Rattle.theory.proofs.Base.{less, equal, more, cmp, nil_of, levi, longer, shorter, same_test}
use Rattle.theory.proofs.Order.{Le, empty, sooner, further, same_eq, eq_same, le_append, le_trans, le_up_to, up_to_le, cut_append}
use Rattle.theory.specs.Prenecklaces.{Cut, differ, agree, Prenecklace}
use Rattle.theory.proofs.Powers.{rot}
use Rattle.theory.proofs.Necklaces.{smallest_rot, smallest_le, smallest-length}

-- the three ways on from a state that does not accept
pub moved-less : (w : List ℕ) {a c : ℕ} (r : List ℕ) → c < a → moved w (a ∷ r) c ≡ []
moved-less w {a} {c} r h = rw (lt-ltb c a h)

pub moved_same : (w : List ℕ) {a c : ℕ} (r : List ℕ) → c ≡ a → moved w (a ∷ r) c ≡ r
moved_same w {a} {c} r h = rw (le-ltb c a (omega arith), eq-eqb c a h)

pub moved_more : (w : List ℕ) {a c : ℕ} (r : List ℕ) → a < c → moved w (a ∷ r) c ≡ w
moved_more w {a} {c} r h = rw (le-ltb c a (omega arith), ne_eqb c a (λ e. omega arith))

pub run_nil : (w x : List ℕ) → run w [] x ≡ []
run_nil w [] = refl
run_nil w (c ∷ x) = run_nil w x

pub run-append : (w r x y : List ℕ) → run w r (x ++ y) ≡ run w (run w r x) y
run-append w r [] y = refl
run-append w r (c ∷ x) y = run-append w (moved w r c) x y

-- a state: what is left of w
pub data State (w r : List ℕ) : Type 0 where
  state : (p : List ℕ) → w ≡ p ++ r → State w r

pub home_state : (w : List ℕ) → State w w
home_state w = state [] refl

pub state_length : {w r : List ℕ} → State w r → length r ≤ length w
state_length {w} {r} (state p e) = omega (arith, ap length e, length-append p r)

moved_state : {w : List ℕ} (r : List ℕ) (c : ℕ) → State w r → State w (moved w r c)
moved_state {w} [] c h = h
moved_state {w} (a ∷ r) c (state p e) = elim (cmp c a) [
  | less l ↦ subst (State w) (sym (moved-less w r l)) (state w (sym (append-nil w)))
  | equal l ↦ subst (State w) (sym (moved_same w r l)) (state (p ++ (a ∷ [])) (e ∙ sym (append_assoc p (a ∷ []) r)))
  | more l ↦ subst (State w) (sym (moved_more w r l)) (home_state w)
]

pub run_state : {w : List ℕ} (r x : List ℕ) → State w r → State w (run w r x)
run_state r [] h = h
run_state {w} r (c ∷ x) h = run_state (moved w r c) x (moved_state r c h)

-- y leads from r to t and accepts nowhere on the way
pub data Walk (w : List ℕ) : List ℕ → List ℕ → List ℕ → Type 0 where
  stay : {r : List ℕ} → Walk w r [] r
  follow : {c : ℕ} {r y t : List ℕ} → Walk w r y t → Walk w (c ∷ r) (c ∷ y) t
  restart : {a c : ℕ} {r y t : List ℕ} → a < c → Walk w w y t → Walk w (a ∷ r) (c ∷ y) t

pub walk_run : {w r y t : List ℕ} → Walk w r y t → run w r y ≡ t
walk_run stay = refl
walk_run {w} (follow {c = c} {r = r} {y = y} g) = ap (λ s. run w s y) (moved_same w {a = c} r refl) ∙ walk_run g
walk_run {w} (restart {r = r} {y = y} h g) = ap (λ s. run w s y) (moved_more w r h) ∙ walk_run g

pub walk_state : {w r y t : List ℕ} → State w r → Walk w r y t → State w t
walk_state {w} {r} {y} h g = subst (State w) (walk_run g) (run_state r y h)

pub walk_some : {w r t : List ℕ} (y : List ℕ) → 0 < length y → Walk w r y t → 0 < length r
walk_some [] h g = absurd (omega arith)
walk_some (c ∷ y) h (follow g) = omega arith
walk_some (c ∷ y) h (restart l g) = omega arith

pub walk_append : {w r x s y t : List ℕ} → Walk w r x s → Walk w s y t → Walk w r (x ++ y) t
walk_append stay q = q
walk_append (follow g) q = follow (walk_append g q)
walk_append (restart h g) q = restart h (walk_append g q)

pub walk_straight : {w : List ℕ} (p t : List ℕ) → Walk w (p ++ t) p t
walk_straight [] t = stay
walk_straight (c ∷ p) t = follow (walk_straight p t)

pub data Halves (w r x y t : List ℕ) : Type 0 where
  halves : (s : List ℕ) → Walk w r x s → Walk w s y t → Halves w r x y t

pub walk_split : {w r y t : List ℕ} (x : List ℕ) → Walk w r (x ++ y) t → Halves w r x y t
walk_split {r = r} [] g = halves r stay g
walk_split (c ∷ x) (follow g) = elim (walk_split x g) [ halves s p q ↦ halves s (follow p) q ]
walk_split (c ∷ x) (restart h g) = elim (walk_split x g) [ halves s p q ↦ halves s (restart h p) q ]

-- the last return to w, after which the letters are those of w
pub data Since (w r y t : List ℕ) : Type 0 where
  since : (u p : List ℕ) → y ≡ u ++ p → Walk w r u w → w ≡ p ++ t → Since w r y t
  never : r ≡ y ++ t → Since w r y t

pub walk_since : {w r y t : List ℕ} → Walk w r y t → Since w r y t
walk_since stay = never refl
walk_since (follow {c = c} g) = elim (walk_since g) [
  | since u p e q f ↦ since (c ∷ u) p (ap (λ v. c ∷ v) e) (follow q) f
  | never e ↦ never (ap (λ v. c ∷ v) e)
]
walk_since (restart {c = c} {y = y} h g) = elim (walk_since g) [
  | since u p e q f ↦ since (c ∷ u) p (ap (λ v. c ∷ v) e) (restart h q) f
  | never e ↦ since (c ∷ []) y refl (restart h stay) e
]

-- y is accepted from r with no return: r begins y, or y is cut below r
pub data Low : List ℕ → List ℕ → Type 0 where
  whole : {y : List ℕ} → Low y []
  drops : {a c : ℕ} {y r : List ℕ} → c < a → Low (c ∷ y) (a ∷ r)
  keeps : {c : ℕ} {y r : List ℕ} → Low y r → Low (c ∷ y) (c ∷ r)

pub low_run : (w : List ℕ) {y r : List ℕ} → Low y r → run w r y ≡ []
low_run w {y} whole = run_nil w y
low_run w (drops {y = y} {r = r} h) = ap (λ s. run w s y) (moved-less w r h) ∙ run_nil w y
low_run w (keeps {c = c} {y = y} {r = r} l) = ap (λ s. run w s y) (moved_same w {a = c} r refl) ∙ low_run w l

low_append : {y r : List ℕ} (s : List ℕ) → Low y r → Low (y ++ s) r
low_append s whole = whole
low_append s (drops h) = drops h
low_append s (keeps l) = keeps (low_append s l)

low_front : (y s : List ℕ) {r : List ℕ} → length r ≤ length y → Low (y ++ s) r → Low y r
low_front [] s {r = []} h l = whole
low_front [] s {r = a ∷ r} h l = absurd (omega arith)
low_front (c ∷ y) s h whole = whole
low_front (c ∷ y) s h (drops g) = drops g
low_front (c ∷ y) s h (keeps l) = keeps (low_front y s (omega arith) l)

low_le : {y r : List ℕ} → length y ≤ length r → Low y r → Le y r
low_le {y = []} h whole = empty
low_le {y = c ∷ y} h whole = absurd (omega arith)
low_le h (drops g) = sooner g
low_le h (keeps l) = further (low_le (omega arith) l)

le_low : {y r : List ℕ} → length r ≤ length y → Le y r → Low y r
le_low {r = []} h empty = whole
le_low {r = a ∷ r} h empty = absurd (omega arith)
le_low h (sooner g) = drops g
le_low h (further l) = keeps (le_low (omega arith) l)

-- x read from r: accepted, all of it still to the letters of r, or above r at the first other letter
data Against (x r : List ℕ) : Type 0 where
  low : Low x r → Against x r
  along : (t : List ℕ) → r ≡ x ++ t → Against x r
  above : Cut r x → Against x r

against : (x r : List ℕ) → Against x r
against [] r = along r refl
against (c ∷ x) [] = low whole
against (c ∷ x) (a ∷ r) = elim (cmp c a) [ less l ↦ low (drops l) | equal l ↦ tail l (against x r) | more l ↦ above (differ l) ]
  where
    tail : c ≡ a → Against x r → Against (c ∷ x) (a ∷ r)
    tail l (low p) = low (subst (λ b. Low (c ∷ x) (b ∷ r)) l (keeps p))
    tail l (along t e) = along t (rw (l, e))
    tail l (above p) = above (subst (λ b. Cut (b ∷ r) (c ∷ x)) l (agree p))

low_cut : {x w r : List ℕ} → Low x w → length r ≤ length w → Cut r x → Cut r w
low_cut whole h (differ g) = absurd (omega arith)
low_cut whole h (agree q) = absurd (omega arith)
low_cut (drops l) h (differ g) = differ (ℕ-lt-trans g l)
low_cut (drops l) h (agree q) = differ l
low_cut (keeps l) h (differ g) = differ g
low_cut (keeps l) h (agree q) = agree (low_cut l (omega arith) q)

-- what w accepts at once, and is long enough, every state accepts at once
low_everywhere : {w x r : List ℕ} → Prenecklace w → State w r → length w ≤ length x → Low x w → Low x r
low_everywhere {w} {x} {r} h (state p e) n l = elim (against x r) [
  | low q ↦ q
  | along t f ↦ le_low (omega (arith, state_length (state p e))) (subst (Le x) (sym f) (le_append x t))
  | above c ↦ absurd (h p r e (low_cut l (state_length (state p e)) c))
]

-- a prefix of w that leads from a state to one that does not accept goes straight on
straight : {w r t : List ℕ} (p q : List ℕ) → Prenecklace w → State w r → w ≡ p ++ q → 0 < length t → Walk w r p t → r ≡ p ++ t
straight {w} {r} {t} p q h (state s e) f n g = elim (against p r) [
  | low l ↦ absurd (omega (arith, ap length (sym (walk_run g) ∙ low_run w l)))
  | along v k ↦ k ∙ ap (λ x. p ++ x) (sym (walk_run (walk_straight p v)) ∙ ap (λ x. run w x p) (sym k) ∙ walk_run g)
  | above c ↦ absurd (h s r e (subst (λ x. Cut x w) (append-nil r) (subst (λ x. Cut (r ++ []) x) (sym f) (cut_append [] q c))))
]

-- so after a return a part of w that begins it does not end at w again
pub home_alone : {w r : List ℕ} (u p t : List ℕ) → Prenecklace w → State w r → 0 < length w → w ≡ p ++ t → Walk w r (u ++ p) w → p ≡ []
home_alone {w} u p t h s n f g = elim (walk_split u g) [
  | halves v a b ↦
      let z : State w v = walk_state s a in
      nil_of p (omega (arith, state_length z, ap length (straight p t h z f n b), length-append p w))
]

-- where a word leads: accepted at once, accepted after a return, or not accepted
pub data Ran (w y r : List ℕ) : Type 0 where
  at_once : Low y r → Ran w y r
  at_last : (u v : List ℕ) → y ≡ u ++ v → Low v w → run w r y ≡ [] → Ran w y r
  walks : (t : List ℕ) → 0 < length t → Walk w r y t → Ran w y r

pub ran : (w y r : List ℕ) → Ran w y r
ran w [] [] = at_once whole
ran w [] (a ∷ r) = walks (a ∷ r) (omega arith) stay
ran w (c ∷ y) [] = at_once whole
ran w (c ∷ y) (a ∷ r) = elim (cmp c a) [ less l ↦ at_once (drops l) | equal l ↦ on l (ran w y r) | more l ↦ home l (ran w y w) ]
  where
    on : c ≡ a → Ran w y r → Ran w (c ∷ y) (a ∷ r)
    on l (at_once p) = at_once (subst (λ b. Low (c ∷ y) (b ∷ r)) l (keeps p))
    on l (at_last u v e p q) = at_last (c ∷ u) v (ap (λ x. c ∷ x) e) p (ap (λ s. run w s y) (moved_same w r l) ∙ q)
    on l (walks t n g) = walks t n (subst (λ b. Walk w (b ∷ r) (c ∷ y) t) l (follow g))

    home : a < c → Ran w y w → Ran w (c ∷ y) (a ∷ r)
    home l (at_once p) = at_last (c ∷ []) y refl p (ap (λ s. run w s y) (moved_more w r l) ∙ low_run w p)
    home l (at_last u v e p q) = at_last (c ∷ u) v (ap (λ x. c ∷ x) e) p (ap (λ s. run w s y) (moved_more w r l) ∙ q)
    home l (walks t n g) = walks t n (restart l g)

pub run_walk : {w r y t : List ℕ} → 0 < length t → run w r y ≡ t → Walk w r y t
run_walk {w} {r} {y} {t} n e = elim (ran w y r) [
  | at_once l ↦ absurd (omega (arith, ap length (sym e ∙ low_run w l)))
  | at_last u v f l q ↦ absurd (omega (arith, ap length (sym e ∙ q)))
  | walks s m g ↦ subst (Walk w r y) (sym (walk_run g) ∙ e) g
]

-- some rotation of x is accepted at once
pub data Turns (x w : List ℕ) : Type 0 where
  turns : (u v : List ℕ) → x ≡ u ++ v → Low (v ++ u) w → Turns x w

pub turns_up_to : {x w : List ℕ} → length x ≡ length w → Turns x w → up_to (smallest x) w ≡ true
turns_up_to {x} {w} n (turns u v e l) =
    le_up_to (le_trans (smallest_le (rot u v e refl)) (low_le (omega (arith, ap length e, length-append u v, length-append v u)) l))

pub up_to_turns : {x w : List ℕ} → length x ≡ length w → up_to (smallest x) w ≡ true → Turns x w
up_to_turns {x} {w} n h = elim (smallest_rot x) [
  | rot u v e f ↦ turns u v e (subst (λ y. Low y w) f (le_low (omega (arith, smallest-length x)) (up_to_le (smallest x) w h)))
]

-- then x x is accepted, from every state
pub turns_accepts : {w x r : List ℕ} → Prenecklace w → length x ≡ length w → State w r → Turns x w → run w r (x ++ x) ≡ []
turns_accepts {w} {x} {r} h n s (turns u v e l) =
    let k : x ++ x ≡ u ++ ((v ++ u) ++ v) = ap₂ (λ a b. a ++ b) e e ∙ simp append_assoc in
    let m : Low (v ++ u) (run w r u) = low_everywhere h (run_state r u s) (omega (arith, ap length e, length-append u v, length-append v u)) l in
    ap (run w r) k ∙ run-append w r u ((v ++ u) ++ v) ∙ run-append w (run w r u) (v ++ u) v ∙ ap (λ y. run w y v) (low_run w m) ∙ run_nil w v

-- and only then
turns_last : {x w : List ℕ} (u v : List ℕ) → length x ≡ length w → x ++ x ≡ u ++ v → Low v w → Turns x w
turns_last {x} {w} u v n e l = elim (levi x x u v e) [
  | longer t f g ↦
      let k : v ≡ (t ++ u) ++ t = g ∙ ap (λ y. t ++ y) f ∙ sym (append_assoc t u t) in
      turns u t f (low_front (t ++ u) t (omega (arith, ap length f, length-append u t, length-append t u)) (subst (λ y. Low y w) k l))
  | shorter t f g ↦ turns t v g (low_append t l)
]

-- x x accepted, or not
pub data Twice (w x : List ℕ) : Type 0 where
  accepted : Turns x w → Twice w x
  refused : (t : List ℕ) → 0 < length t → Walk w w (x ++ x) t → Twice w x

pub twice : (w x : List ℕ) → length x ≡ length w → Twice w x
twice w x n = elim (ran w (x ++ x) w) [
  | at_once l ↦ accepted (turns_last [] (x ++ x) n refl l)
  | at_last u v e l q ↦ accepted (turns_last u v n e l)
  | walks t m g ↦ refused t m g
]

-- Facts 11 and 12
pub accepts_pre : (w x : List ℕ) → Prenecklace w → length x ≡ length w → up_to (smallest x) w ≡ same (run w w (x ++ x)) []
accepts_pre w x h n =
    same_test (up_to (smallest x) w) (same (run w w (x ++ x)) []) (λ t. eq_same (turns_accepts {x = x} h n (home_state w) (up_to_turns n t))) (λ t. only (same_eq _ [] t) (twice w x n))
  where
    only : run w w (x ++ x) ≡ [] → Twice w x → up_to (smallest x) w ≡ true
    only e (accepted t) = turns_up_to n t
    only e (refused t m g) = absurd (omega (arith, ap length (sym (walk_run g) ∙ e)))

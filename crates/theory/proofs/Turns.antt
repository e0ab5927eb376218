-- Turns and roots: what the definitions that search for a rotation or a root mean (document 004, section 2): the record WordLaws.
use mathlib.Core.Path.{◌≡◌, refl, sym, ◌∙◌, ap, ap₂, subst}
use mathlib.Core.Bool.{true}
use mathlib.Core.List.{List, [], ◌∷◌, ◌++◌, append_assoc, append-nil}
use mathlib.Core.Logic.{inl, inr, ◌↔◌}
use Prim.Native.Nat.{ℕ, zero, suc, ◌+◌, ◌-◌, ◌/◌, ◌%◌, ◌≤◌, ◌<◌}
use native.Mathlib.Omega.{arith}
use lib.Dec.{eqb, leb}
use lib.ListN.{length, take, drop, length-append, length-drop}
use lib.Seq.{length-take-le, take-append-le, drop-append-le, take-append-add, drop-append-add}
use Rattle.theory.specs.Words.{below, turned, is_lyndon, least_from, smallest, turn_from, least_turn, repeated, power_to, root, Primitive}
use Rattle.theory.specs.Theorems.{Turns, WordLaws}
use Rattle.theory.proofs.Base.{test, and_r, cmp, less, equal, more, split, upto, over, nil_of}
use Rattle.theory.proofs.Order.{Lt, Le, below_lt, not_below, le_refl, lt_le, lt_irrefl, lt_le_trans, le_up_to, same_eq}
use Rattle.theory.proofs.Lyndon.{Lyndon, Necklace, lyndon_in, lyndon_out, lyndon_turns}
use Rattle.theory.proofs.Powers.{repeated_snoc, rot_refl, turned_rot, Root, is_root_lem, root_out, root_is, root-size, root_least}
use Rattle.theory.proofs.Necklaces.{power_necklace, power_root, smallest_le, smallest_is, base, base_of_lem}

pub turned-length : (i : ℕ) (w : List ℕ) → i ≤ length w → length (turned i w) ≡ length w
turned-length i w h = omega (arith, length-append (drop i w) (take i w), length-drop i w, length-take-le i w h)

-- the least turn gives the smallest rotation
turn_least : (l i : ℕ) (w : List ℕ) (b : ℕ) → turned (turn_from l i w b) w ≡ least_from l i w (turned b w)
turn_least zero i w b = refl
turn_least (suc l) i w b = elim (test (below (turned i w) (turned b w))) [ inl t ↦ rw t (turn_least l (suc i) w i) | inr t ↦ rw t (turn_least l (suc i) w b) ]

pub least_turn-smallest : (w : List ℕ) → turned (least_turn w) w ≡ smallest w
least_turn-smallest w = turn_least (length w - 1) 1 w 0 ∙ ap (least_from (length w - 1) 1 w) (append-nil w)

turn_inside : (l i : ℕ) (w : List ℕ) (b : ℕ) → b < i → turn_from l i w b < i + l
turn_inside zero i w b h = omega arith
turn_inside (suc l) i w b h = elim (test (below (turned i w) (turned b w))) [
  | inl t ↦ rw t (omega (arith, turn_inside l (suc i) w i (omega arith)))
  | inr t ↦ rw t (omega (arith, turn_inside l (suc i) w b (omega arith)))
]

pub least_turn_inside : (w : List ℕ) → 0 < length w → least_turn w < length w
least_turn_inside w h = omega (arith, turn_inside (length w - 1) 1 w 0 (omega arith))

pub turn_fits : (w : List ℕ) → least_turn w ≤ length w
turn_fits [] = omega arith
turn_fits (a ∷ w) = omega (arith, least_turn_inside (a ∷ w) (omega arith))

-- and is the first that does
pub data Leads (w : List ℕ) (i b : ℕ) : Type 0 where
  leads : ((j : ℕ) → j < i → Le (turned b w) (turned j w)) → ((j : ℕ) → j < b → Lt (turned b w) (turned j w)) → Leads w i b

turn_first : (l i : ℕ) (w : List ℕ) (b : ℕ) → b < i → Leads w i b → Leads w (i + l) (turn_from l i w b)
turn_first zero i w b h (leads f g) = leads (λ j k. f j (omega arith)) g
turn_first (suc l) i w b h r = elim (test (below (turned i w) (turned b w))) [ inl t ↦ rw t (on (turn_first l (suc i) w i (omega arith) (lower (below_lt (turned i w) (turned b w) t) r))) | inr t ↦ rw t (on (turn_first l (suc i) w b (omega arith) (stay (not_below t) r))) ]
  where
    on : {r : ℕ} → Leads w (suc i + l) r → Leads w (i + suc l) r
    on (leads f g) = leads (λ j k. f j (omega arith)) g

    lower : Lt (turned i w) (turned b w) → Leads w i b → Leads w (suc i) i
    lower t (leads f g) = leads le (λ j k. lt_le_trans t (f j k))
      where
        le : (j : ℕ) → j < suc i → Le (turned i w) (turned j w)
        le j k = elim (cmp j i) [
          | less e ↦ lt_le (lt_le_trans t (f j e))
          | equal e ↦ subst (λ r. Le (turned i w) (turned r w)) (sym e) (le_refl (turned i w))
          | more e ↦ absurd (omega arith)
        ]

    stay : Le (turned b w) (turned i w) → Leads w i b → Leads w (suc i) b
    stay t (leads f g) = leads le g
      where
        le : (j : ℕ) → j < suc i → Le (turned b w) (turned j w)
        le j k = elim (cmp j i) [
          | less e ↦ f j e
          | equal e ↦ subst (λ r. Le (turned b w) (turned r w)) (sym e) t
          | more e ↦ absurd (omega arith)
        ]

pub least_turn_first : (w : List ℕ) (j : ℕ) → j < least_turn w → ¬ (turned j w ≡ smallest w)
least_turn_first w j h e = at (turn_first (length w - 1) 1 w 0 (omega arith) (leads start (λ j k. absurd (omega arith))))
  where
    start : (j : ℕ) → j < 1 → Le (turned 0 w) (turned j w)
    start j k =
        let zeroth : 0 ≡ j = omega arith in
        subst (λ r. Le (turned 0 w) (turned r w)) zeroth (le_refl (turned 0 w))

    at : Leads w (1 + (length w - 1)) (least_turn w) → ⊥
    at (leads f g) = lt_irrefl (subst (λ r. Lt r (turned j w)) (least_turn-smallest w ∙ sym e) (g j h))

-- a turn by a root changes nothing
pub turned-root : {d : ℕ} {w : List ℕ} (j : ℕ) → Root d w → 0 < length w → d + j ≤ length w → turned (d + j) w ≡ turned j w
turned-root {d} {w} j (is_root_lem zero t f n p) h l = absurd (omega (arith, ap length f))
turned-root {d} {w} j (is_root_lem (suc e) t f n p) h l =
    let inside : j ≤ length (repeated e t) = omega (arith, ap length f, length-append t (repeated e t)) in
    let back : w ≡ repeated e t ++ t = f ∙ sym (repeated_snoc e t) in
    let one : turned (d + j) w ≡ drop j (repeated e t) ++ (t ++ take j (repeated e t)) =
    ap₂ (λ r s. turned (r + j) s) (sym n) f ∙ ap₂ ◌++◌ (drop-append-add t (repeated e t) j) (take-append-add t (repeated e t) j) in
    let two : turned j w ≡ (drop j (repeated e t) ++ t) ++ take j (repeated e t) =
    ap (turned j) back ∙ ap₂ ◌++◌ (drop-append-le j (repeated e t) t inside) (take-append-le j (repeated e t) t inside) in
    one ∙ sym (append_assoc (drop j (repeated e t)) t (take j (repeated e t))) ∙ sym two

pub least_turn-root : (w : List ℕ) → 0 < length w → least_turn w < root w
least_turn-root w h = elim (split (root w) (least_turn w)) [
  | upto l ↦ absurd (again (root_is w h) l)
  | over l ↦ l
]
  where
    again : Root (root w) w → root w ≤ least_turn w → ⊥
    again r l =
        let whole : root w + (least_turn w - root w) ≡ least_turn w = omega arith in
        let q : turned (least_turn w) w ≡ turned (least_turn w - root w) w =
        ap (λ s. turned s w) (sym whole) ∙ turned-root (least_turn w - root w) r h (omega (arith, least_turn_inside w h)) in
        least_turn_first w (least_turn w - root w) (omega (arith, some r)) (sym q ∙ least_turn-smallest w)
      where
        some : {d : ℕ} → Root d w → 0 < d
        some (is_root_lem e t f n p) = p

pub turns : Turns
turns = record { reaches = least_turn-smallest; least = least; none = λ w. (still w, own w); within_root = least_turn-root; examples = (refl, refl) }
  where
    least : (w : List ℕ) (r : ℕ) → turned r w ≡ smallest w → least_turn w ≤ r
    least w r e = elim (split (least_turn w) r) [ upto l ↦ l | over l ↦ absurd (least_turn_first w r l e) ]

    still : (w : List ℕ) → least_turn w ≡ 0 → smallest w ≡ w
    still w e = sym (least_turn-smallest w) ∙ ap (λ r. turned r w) e ∙ append-nil w

    own : (w : List ℕ) → smallest w ≡ w → least_turn w ≡ 0
    own w e = omega (arith, least w 0 (append-nil w ∙ sym e))

-- the shortest root repeats to the word
root_repeats : (w : List ℕ) → 1 ≤ length w → power_to (length w) (take (root w) w) ≡ w
root_repeats w h =
    let whole : repeated (length w / root w) (take (root w) w) ≡ w = same_eq _ w (and_r (eqb (length w % root w) 0) _ (and_r (leb 1 (root w)) _ (root_out h (root_is w h)))) in
    ap (λ d. repeated (length w / d) (take (root w) w)) (length-take-le (root w) w (root-size h (root_is w h))) ∙ whole

root_some : (w : List ℕ) → 1 ≤ length w → (1 ≤ root w) × (root w ≤ length w)
root_some w h = (some (root_is w h), root-size h (root_is w h))
  where
    some : {d : ℕ} → Root d w → 1 ≤ d
    some (is_root_lem e t f n p) = p

-- a power of a word without letters has none
repeated-none : (e : ℕ) → repeated e [] ≡ []
repeated-none zero = refl
repeated-none (suc e) = repeated-none e

repeats : (w u : List ℕ) (e : ℕ) → 1 ≤ length w → w ≡ repeated e u → Root (length u) w
repeats w [] e h f = absurd (omega (arith, ap length (f ∙ repeated-none e)))
repeats w (a ∷ u) e h f = is_root_lem e (a ∷ u) f refl (omega arith)

-- Lyndon words are the primitive necklaces
primitive : {w : List ℕ} → Lyndon w → Primitive w
primitive {w} l u zero h f = absurd (omega arith)
primitive {w} l u (suc e) h f =
    let long : root w ≡ length w = ap root (sym (append-nil w)) ∙ power_root 0 l in
    let short : length (repeated e u) ≡ 0 = omega (arith, long, root_least l.some (repeats w u (suc e) l.some f), ap length f, length-append u (repeated e u)) in
    sym (f ∙ ap (λ r. u ++ r) (nil_of (repeated e u) short) ∙ append-nil u)

lyndon_primitive : (w : List ℕ) → (is_lyndon w ≡ true) ↔ ((1 ≤ length w) × Primitive w × (smallest w ≡ w))
lyndon_primitive w = (into, out)
  where
    into : is_lyndon w ≡ true → (1 ≤ length w) × Primitive w × (smallest w ≡ w)
    into h = let l = lyndon_in w h in (l.some, primitive l, smallest_is (rot_refl w) (subst Necklace (append-nil w) (power_necklace 1 l)))

    out : (1 ≤ length w) × Primitive w × (smallest w ≡ w) → is_lyndon w ≡ true
    out (h, p, s) = elim (base_of_lem w h) [ base u e l q n ↦ ap is_lyndon (sym (p u (suc e) (omega arith) (sym s ∙ q))) ∙ lyndon_out l ]

pub word_laws : WordLaws
word_laws = record {
  turns = turns;
  smallest_least = λ w r. le_up_to (smallest_le (turned_rot r w));
  root_some = root_some;
  root_repeats = root_repeats;
  root_least = λ w u e h f. root_least h (repeats w u e h f);
  lyndon_turns = lyndon_turns;
  lyndon_primitive = lyndon_primitive;
}

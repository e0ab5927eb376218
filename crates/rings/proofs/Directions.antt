-- A way along a ring, on or back, from a word of the ring to its neighbour: through the Lyndon words of at most n letters one after another, until one
-- is of the ring. What both directions share, for any ring.
use mathlib.Core.Path.{◌≡◌, sym, ◌∙◌, ap, subst}
use mathlib.Core.Bool.{Bool, true, false, ◌&&◌, false≢true}
use mathlib.Core.List.{List, []}
use mathlib.Core.Logic.{◌⊎◌, inl, inr, ◌≢◌}
use Prim.Native.Nat.{ℕ, suc, ◌≤◌}
use native.Mathlib.Omega.{arith}
use lib.ListN.{length}
use Rattle.theory.specs.Words.{keep}
use Rattle.theory.specs.Lists.{In, Once}
use Rattle.theory.specs.Rings.{lyndons_up, ring_words}
use Rattle.theory.proofs.Base.{test, and_in, and_false}
use Rattle.theory.proofs.Lists.{keep_none, ascend_once}
use Rattle.theory.proofs.Counts.{keep_one_more}
use Rattle.theory.proofs.Listed.{lyndon_up_ascend}

-- which words are past another, and up to it; the Lyndon word that follows, [] for none; the word of the ring that follows
pub record Direction : Type 0 where
  pub past : List ℕ → List ℕ → Bool
  pub upto : List ℕ → List ℕ → Bool
  pub move : List ℕ → List ℕ
  pub leads : List ℕ → List ℕ

-- the words past u, up to and with v; those past x
abbrev pub counted : Direction → ℕ → ℕ → List ℕ → List ℕ → ℕ
counted d k n u v = length (keep (λ w. d.past u w && d.upto w v) (lyndons_up k n))

abbrev pub ahead : Direction → ℕ → ℕ → List ℕ → ℕ
ahead d k n x = length (keep (λ w. d.past x w) (lyndons_up k n))

-- the Lyndon word that follows x: the nearest past it, or none is past it
pub data Follows (d : Direction) (k n : ℕ) (x : List ℕ) : Type 0 where
  nothing : d.move x ≡ [] → ((z : List ℕ) → In z (lyndons_up k n) → d.past x z ≡ false) → Follows d k n x
  nearest : In (d.move x) (lyndons_up k n) → d.past x (d.move x) ≡ true
      → ((z : List ℕ) → In z (lyndons_up k n) → d.past x z ≡ true → d.upto (d.move x) z ≡ true) → Follows d k n x

-- the ring's word that follows u: the nearest past it, or, none being past it, the first of all
pub data Neighbour (d : Direction) (ok : ℕ → Bool) (k n : ℕ) (u : List ℕ) : Type 0 where
  onward : d.past u (d.leads u) ≡ true → ((y : List ℕ) → In y (ring_words ok k n) → d.past u y ≡ true → d.upto (d.leads u) y ≡ true) → Neighbour d ok k n u
  around : ((y : List ℕ) → In y (ring_words ok k n) → d.past u y ≡ false) → ((y : List ℕ) → In y (ring_words ok k n) → d.upto (d.leads u) y ≡ true)
      → Neighbour d ok k n u

pub record Laws (d : Direction) (ok : ℕ → Bool) (k n : ℕ) : Type 0 where
  -- an order of all words
  pub trans : {x y z : List ℕ} → d.upto x y ≡ true → d.past y z ≡ true → d.past x z ≡ true
  pub irrefl : {x : List ℕ} → d.past x x ≡ false
  pub self : {x : List ℕ} → d.upto x x ≡ true
  pub soft : {x y : List ℕ} → d.past x y ≡ true → d.upto x y ≡ true
  pub cases : {x y : List ℕ} → d.upto x y ≡ true → (d.past x y ≡ true) ⊎ (x ≡ y)
  pub total : {x y : List ℕ} → d.past x y ≡ false → d.upto y x ≡ true
  -- what follows a word
  pub listed : {u : List ℕ} → In u (ring_words ok k n) → In u (lyndons_up k n)
  pub of_ring : {y : List ℕ} → In y (lyndons_up k n) → ok (length y) ≡ true → In y (ring_words ok k n)
  pub ring_ok : {y : List ℕ} → In y (ring_words ok k n) → ok (length y) ≡ true
  pub follows : (x : List ℕ) → In x (lyndons_up k n) → Follows d k n x
  pub lead_in : (u : List ℕ) → In u (ring_words ok k n) → In (d.leads u) (ring_words ok k n)
  pub neighbour : (u : List ℕ) → In u (ring_words ok k n) → Neighbour d ok k n u
  pub few : (u y : List ℕ) → In u (lyndons_up k n) → In y (lyndons_up k n) → d.past u y ≡ true
      → ((z : List ℕ) → In z (ring_words ok k n) → d.past u z ≡ true → d.upto y z ≡ true) → counted d k n u y ≤ n

-- the way from u has come to x: no word of the ring is between, and so many words are passed
pub record Way (d : Direction) (ok : ℕ → Bool) (k n : ℕ) (u x : List ℕ) (passed : ℕ) : Type 0 where
  pub listed : In x (lyndons_up k n)
  pub from : d.upto u x ≡ true
  pub between : (z : List ℕ) → In z (ring_words ok k n) → d.past u z ≡ true → d.past x z ≡ true
  pub count : passed ≡ counted d k n u x

-- the next word y after x on it: past u, with no word of the ring between; one word more is passed, and one fewer is ahead
pub record Onward (d : Direction) (ok : ℕ → Bool) (k n : ℕ) (u x y : List ℕ) (passed : ℕ) : Type 0 where
  pub listed : In y (lyndons_up k n)
  pub past : d.past u y ≡ true
  pub near : (z : List ℕ) → In z (ring_words ok k n) → d.past u z ≡ true → d.upto y z ≡ true
  pub fewer : ahead d k n x ≡ suc (ahead d k n y)
  pub count : suc passed ≡ counted d k n u y
  pub most : suc passed ≤ n

-- where it goes from x: over the end, or to the next word
pub data Turn (d : Direction) (ok : ℕ → Bool) (k n : ℕ) (u x : List ℕ) (passed : ℕ) : Type 0 where
  ended : d.move x ≡ [] → d.past u (d.leads u) ≡ false → ((y : List ℕ) → In y (ring_words ok k n) → d.upto (d.leads u) y ≡ true) → Turn d ok k n u x passed
  moved : Onward d ok k n u x (d.move x) passed → Turn d ok k n u x passed

module _ {d : Direction} {ok : ℕ → Bool} {k n : ℕ} (r : Laws d ok k n) where
  -- the order
  not_both : {x y : List ℕ} → d.upto x y ≡ true → d.past y x ≡ false
  not_both {x} {y} p = elim (test (d.past y x)) [ inl t ↦ absurd (false≢true (sym r.irrefl ∙ r.trans p t)) | inr t ↦ t ]

  not_upto : {x y : List ℕ} → d.past x y ≡ true → d.upto y x ≡ false
  not_upto {x} {y} p = elim (test (d.upto y x)) [ inl t ↦ absurd (false≢true (sym (not_both t) ∙ p)) | inr t ↦ t ]

  pub antisym : {x y : List ℕ} → d.upto x y ≡ true → d.upto y x ≡ true → x ≡ y
  antisym p q = elim (r.cases p) [ inl s ↦ absurd (false≢true (sym (not_both q) ∙ s)) | inr s ↦ s ]

  once : Once (lyndons_up k n)
  once = ascend_once (lyndons_up k n) (lyndon_up_ascend k n)

  -- none is past a word and up to it
  counted_none : (u : List ℕ) → counted d k n u u ≡ 0
  counted_none u = ap length (keep_none (λ w. d.past u w && d.upto w u) (lyndons_up k n) (λ w i. none w (test (d.past u w))))
    where
      none : (w : List ℕ) → (d.past u w ≡ true) ⊎ (d.past u w ≡ false) → (d.past u w && d.upto w u) ≡ false
      none w (inl t) = and_false (d.past u w) _ (not_upto t)
      none w (inr t) = ap (λ b. b && d.upto w u) t

  -- y is the nearest past x: a word of the list is past x just if it is y or past y
  module _ {x y : List ℕ} (i : In y (lyndons_up k n)) (p : d.past x y ≡ true) (near : (z : List ℕ) → In z (lyndons_up k n) → d.past x z ≡ true → d.upto y z ≡ true) where
    one_fewer : ahead d k n x ≡ suc (ahead d k n y)
    one_fewer = keep_one_more (λ w. d.past x w) (λ w. d.past y w) once i p r.irrefl (λ w j q. side w j q (test (d.past x w)))
      where
        side : (w : List ℕ) → In w (lyndons_up k n) → w ≢ y → (d.past x w ≡ true) ⊎ (d.past x w ≡ false) → d.past x w ≡ d.past y w
        side w j q (inl t) = t ∙ elim (r.cases (near w j t)) [ inl s ↦ sym s | inr s ↦ absurd (q (sym s)) ]
        side w j q (inr t) = t ∙ sym (not_both (r.soft (elim (r.cases (r.total t)) [ inl s ↦ r.trans (r.soft s) p | inr s ↦ subst (λ v. d.past v y ≡ true) (sym s) p ])))

    one_more : {u : List ℕ} → d.upto u x ≡ true → counted d k n u y ≡ suc (counted d k n u x)
    one_more {u} q =
        keep_one_more (λ w. d.past u w && d.upto w y) (λ w. d.past u w && d.upto w x) once i (and_in (r.trans q p) r.self) (and_false (d.past u y) _ (not_upto p))
        (λ w j s. ap (λ b. d.past u w && b) (side w j s (test (d.upto w x))))
      where
        side : (w : List ℕ) → In w (lyndons_up k n) → w ≢ y → (d.upto w x ≡ true) ⊎ (d.upto w x ≡ false) → d.upto w y ≡ d.upto w x
        side w j s (inl t) = r.soft (r.trans t p) ∙ sym t
        side w j s (inr t) = beyond (test (d.past x w))
          where
            beyond : (d.past x w ≡ true) ⊎ (d.past x w ≡ false) → d.upto w y ≡ d.upto w x
            beyond (inl a) = elim (r.cases (near w j a)) [ inl b ↦ not_upto b ∙ sym t | inr b ↦ absurd (s (sym b)) ]
            beyond (inr a) = absurd (false≢true (sym t ∙ r.total a))

  pub way_begins : (u : List ℕ) → In u (ring_words ok k n) → Way d ok k n u u 0
  way_begins u i = record { listed = r.listed i; from = r.self; between = λ z _ p. p; count = sym (counted_none u) }

  module _ {u x : List ℕ} {passed : ℕ} (i : In u (ring_words ok k n)) (way : Way d ok k n u x passed) where
    pub turn : Turn d ok k n u x passed
    turn = go (r.follows x way.listed)
      where
        none : ((z : List ℕ) → In z (lyndons_up k n) → d.past x z ≡ false) → (y : List ℕ) → In y (ring_words ok k n) → ¬ (d.past u y ≡ true)
        none f y j p = false≢true (sym (f y (r.listed j)) ∙ way.between y j p)

        end : d.move x ≡ [] → ((z : List ℕ) → In z (lyndons_up k n) → d.past x z ≡ false) → Neighbour d ok k n u → Turn d ok k n u x passed
        end e f (onward p near) = absurd (none f (d.leads u) (r.lead_in u i) p)
        end e f (around a b) = ended e (a (d.leads u) (r.lead_in u i)) b

        go : Follows d k n x → Turn d ok k n u x passed
        go (nothing e f) = end e f (r.neighbour u i)
        go (nearest j p near) =
            let on : d.past u (d.move x) ≡ true = r.trans way.from p in
            let ahead_of : (z : List ℕ) → In z (ring_words ok k n) → d.past u z ≡ true → d.upto (d.move x) z ≡ true = λ z m q. near z (r.listed m) (way.between z m q) in
            let count : suc passed ≡ counted d k n u (d.move x) = ap suc way.count ∙ sym (one_more j p near way.from) in
            moved (record { listed = j; past = on; near = ahead_of; fewer = one_fewer j p near; count = count; most = omega (arith, count, r.few u (d.move x) (r.listed i) j on ahead_of) })

    module _ {y : List ℕ} (o : Onward d ok k n u x y passed) where
      -- a word of the ring is the one that is looked for
      pub arrived : ok (length y) ≡ true → y ≡ d.leads u
      arrived t = go (r.neighbour u i)
        where
          go : Neighbour d ok k n u → y ≡ d.leads u
          go (onward a b) = antisym (o.near (d.leads u) (r.lead_in u i) a) (b y (r.of_ring o.listed t) o.past)
          go (around a b) = absurd (false≢true (sym (a y (r.of_ring o.listed t)) ∙ o.past))

      -- past any other the way goes on
      pub further_on : ok (length y) ≡ false → Way d ok k n u y (suc passed)
      further_on t = record { listed = o.listed; from = r.soft o.past; between = between; count = o.count }
        where
          between : (z : List ℕ) → In z (ring_words ok k n) → d.past u z ≡ true → d.past y z ≡ true
          between z m q = elim (r.cases (o.near z m q)) [
            | inl s ↦ s
            | inr s ↦ absurd (false≢true (sym t ∙ ap (λ w. ok (length w)) s ∙ r.ring_ok m))
          ]

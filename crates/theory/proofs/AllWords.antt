-- The list of all words of a length: what it holds, that it ascends, how long it is.
use mathlib.Core.Path.{◌≡◌, refl, sym, ◌∙◌, ap, subst}
use mathlib.Core.Bool.{true}
use mathlib.Core.List.{List, [], ◌∷◌}
use mathlib.Core.Logic.{inl, inr, ◌↔◌}
use Prim.Native.Nat.{ℕ, zero, suc, ◌+◌, ◌*◌, ◌^◌, ◌≤◌, ◌<◌}
use native.Mathlib.Omega.{arith}
use native.Mathlib.Nat.{pow-zero, pow-succ'}
use lib.ListN.{length, length-append}
use Rattle.theory.specs.Words.{with_first, each_first, all_words, marks_ok}
use Rattle.theory.specs.Lists.{In, here, there, Ascending, each}
use Rattle.theory.proofs.Base.{cmp, less, equal, more}
use Rattle.theory.proofs.Order.{Lt, now, later, below_lt, lt_below}
use Rattle.theory.proofs.Lists.{in_nil, in_append_left, in_append_right, in_append_cases, Image, image, each_in, in_each, each_length, ascend_append}
use Rattle.theory.proofs.Letters.{marks_cons, marks_head, marks_tail}

first_each : (a : ℕ) (ws : List (List ℕ)) → with_first a ws ≡ each (λ w. a ∷ w) ws
first_each a [] = refl
first_each a (w ∷ ws) = ap (λ r. (a ∷ w) ∷ r) (first_each a ws)

first_in : (a : ℕ) (ws : List (List ℕ)) {v : List ℕ} → In v (with_first a ws) → Image (λ w. a ∷ w) v ws
first_in a ws {v} i = each_in (λ w. a ∷ w) ws (subst (λ r. In v r) (first_each a ws) i)

in_first : (a : ℕ) (ws : List (List ℕ)) {u : List ℕ} → In u ws → In (a ∷ u) (with_first a ws)
in_first a ws {u} i = subst (λ r. In (a ∷ u) r) (sym (first_each a ws)) (in_each (λ w. a ∷ w) i)

first_ascend : (a : ℕ) (ws : List (List ℕ)) → Ascending ws → Ascending (with_first a ws)
first_ascend a [] p = tt
first_ascend a (w ∷ ws) p =
    (λ v i. elim (first_in a ws i) [ image u j e ↦ lt_below (subst (λ r. Lt (a ∷ w) r) (sym e) (later (below_lt w u (p.0 u j)))) ], first_ascend a ws p.1)

-- the words that begin with a letter from a on, of the next l, and go on with one of the words ws
data Headed (l a : ℕ) (ws : List (List ℕ)) (v : List ℕ) : Type 0 where
  headed : (c : ℕ) (u : List ℕ) → a ≤ c → c < a + l → In u ws → v ≡ c ∷ u → Headed l a ws v

firsts_in : (l a : ℕ) (ws : List (List ℕ)) {v : List ℕ} → In v (each_first l a ws) → Headed l a ws v
firsts_in zero a ws i = absurd (in_nil i)
firsts_in (suc l) a ws i = elim (in_append_cases (with_first a ws) i) [
  | inl j ↦ elim (first_in a ws j) [ image u m e ↦ headed a u (omega arith) (omega arith) m e ]
  | inr j ↦ elim (firsts_in l (suc a) ws j) [ headed c u p q m e ↦ headed c u (omega arith) (omega arith) m e ]
]

in_firsts : (l a c : ℕ) (ws : List (List ℕ)) {u : List ℕ} → a ≤ c → c < a + l → In u ws → In (c ∷ u) (each_first l a ws)
in_firsts zero a c ws p q i = absurd (omega arith)
in_firsts (suc l) a c ws {u} p q i = elim (cmp a c) [
  | less h ↦ in_append_right (with_first a ws) (in_firsts l (suc a) c ws (omega arith) (omega arith) i)
  | equal h ↦ in_append_left (each_first l (suc a) ws) (subst (λ r. In (r ∷ u) (with_first a ws)) h (in_first a ws i))
  | more h ↦ absurd (omega arith)
]

firsts_ascend : (l a : ℕ) (ws : List (List ℕ)) → Ascending ws → Ascending (each_first l a ws)
firsts_ascend zero a ws p = tt
firsts_ascend (suc l) a ws p = ascend_append (with_first a ws) (each_first l (suc a) ws) (first_ascend a ws p) (firsts_ascend l (suc a) ws p) (λ u v i j.
    elim (first_in a ws i) [ image x m e ↦ elim (firsts_in l (suc a) ws j) [ headed c y s t n f ↦ apart x y c e f s ] ])
  where
    apart : {u v : List ℕ} (x y : List ℕ) (c : ℕ) → u ≡ a ∷ x → v ≡ c ∷ y → a < c → Lt u v
    apart x y c e f h = rw (e, f) (now h)

firsts_count : (l a : ℕ) (ws : List (List ℕ)) → length (each_first l a ws) ≡ l * length ws
firsts_count zero a ws = omega arith
firsts_count (suc l) a ws =
    omega (arith, length-append (with_first a ws) (each_first l (suc a) ws), firsts_count l (suc a) ws, ap length (first_each a ws), each_length (λ w. a ∷ w) ws)

pub all_in : (k n : ℕ) (w : List ℕ) → In w (all_words k n) → (length w ≡ n) × (marks_ok k w ≡ true)
all_in k zero w (here e) = rw e (refl, refl)
all_in k zero w (there i) = absurd (in_nil i)
all_in k (suc n) w i = elim (firsts_in k 0 (all_words k n) i) [
  | headed c u p q j e ↦
      let r = all_in k n u j in rw e (ap suc r.0, marks_cons k c u (omega arith) r.1)
]

pub in_all : (k n : ℕ) (w : List ℕ) → length w ≡ n → marks_ok k w ≡ true → In w (all_words k n)
in_all k zero [] e h = here refl
in_all k (suc n) [] e h = absurd (omega arith)
in_all k zero (a ∷ w) e h = absurd (omega arith)
in_all k (suc n) (a ∷ w) e h =
    let l : a < k = marks_head k a w h in
    in_firsts k 0 a (all_words k n) (omega arith) (omega arith) (in_all k n w (omega arith) (marks_tail k a w h))

pub all_words_lem : (k n : ℕ) (w : List ℕ) → In w (all_words k n) ↔ ((length w ≡ n) × (marks_ok k w ≡ true))
all_words_lem k n w = (all_in k n w, λ h. in_all k n w h.0 h.1)

pub all_ascend : (k n : ℕ) → Ascending (all_words k n)
all_ascend k zero = (λ v i. absurd (in_nil i), tt)
all_ascend k (suc n) = firsts_ascend k 0 (all_words k n) (all_ascend k n)

pub all_count : (k n : ℕ) → length (all_words k n) ≡ k ^ n
all_count k zero = sym (pow-zero k)
all_count k (suc n) = firsts_count k 0 (all_words k n) ∙ ap (λ r. k * r) (all_count k n) ∙ sym (pow-succ' k n)

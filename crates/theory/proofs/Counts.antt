-- Counting: sums over a list, and lists compared by their members where nothing repeats.
use mathlib.Core.Path.{◌≡◌, refl, sym, ◌∙◌, ap, subst}
use mathlib.Core.Bool.{Bool, true, false, not}
use mathlib.Core.List.{List, [], ◌∷◌, ◌++◌}
use mathlib.Core.Logic.{◌⊎◌, inl, inr, ◌≢◌}
use Prim.Native.Nat.{ℕ, suc, ◌+◌, ◌*◌, ◌≤◌}
use native.Mathlib.Omega.{arith}
use native.Mathlib.Nat.{le_antisymm}
use lib.ListN.{length, length-append}
use Rattle.theory.specs.Words.{pick, when, keep}
use Rattle.theory.specs.Lists.{In, here, there, Once, each, gather}
use Rattle.theory.specs.Rings.{joined}
use Rattle.theory.proofs.Base.{test}
use Rattle.theory.proofs.Lists.{found, in_split, in_rest}

module _ {A : Type 0} where
  -- sums of numbers over a list
  abbrev pub sum : (A → ℕ) → List A → ℕ
  sum f [] = 0
  sum f (x ∷ xs) = f x + sum f xs

  pub sum-append : (f : A → ℕ) (xs ys : List A) → sum f (xs ++ ys) ≡ sum f xs + sum f ys
  sum-append f [] ys = omega arith
  sum-append f (x ∷ xs) ys = omega (arith, sum-append f xs ys)

  pub sum_mid : (f : A → ℕ) (a : List A) (x : A) (b : List A) → sum f (a ++ (x ∷ b)) ≡ f x + sum f (a ++ b)
  sum_mid f a x b = omega (arith, sum-append f a (x ∷ b), sum-append f a b)

  pub sum_ext : (f g : A → ℕ) (xs : List A) → ((x : A) → In x xs → f x ≡ g x) → sum f xs ≡ sum g xs
  sum_ext f g [] h = refl
  sum_ext f g (x ∷ xs) h = rw (h x (here refl), sum_ext f g xs (λ y i. h y (there i)))

  pub sum_le : (f g : A → ℕ) (xs : List A) → ((x : A) → In x xs → f x ≤ g x) → sum f xs ≤ sum g xs
  sum_le f g [] h = omega arith
  sum_le f g (x ∷ xs) h = omega (arith, h x (here refl), sum_le f g xs (λ y i. h y (there i)))

  pub sum-plus : (f g : A → ℕ) (xs : List A) → sum (λ x. f x + g x) xs ≡ sum f xs + sum g xs
  sum-plus f g [] = omega arith
  sum-plus f g (x ∷ xs) = omega (arith, sum-plus f g xs)

  pub sum_times : (c : ℕ) (f : A → ℕ) (xs : List A) → sum (λ x. c * f x) xs ≡ c * sum f xs
  sum_times c f [] = omega arith
  sum_times c f (x ∷ xs) = omega (arith, sum_times c f xs)

  pub sum_const : (c : ℕ) (xs : List A) → sum (λ x. c) xs ≡ length xs * c
  sum_const c [] = omega arith
  sum_const c (x ∷ xs) = omega (arith, sum_const c xs)

  pub length-sum : (xs : List A) → length xs ≡ sum (λ x. 1) xs
  length-sum xs = omega (arith, sum_const 1 xs)

  pub sum-keep : (f : A → Bool) (g : A → ℕ) (xs : List A) → sum g (keep f xs) ≡ sum (λ x. pick (f x) (g x) 0) xs
  sum-keep f g [] = refl
  sum-keep f g (x ∷ xs) = elim (test (f x)) [ inl t ↦ rw t (omega (arith, sum-keep f g xs)) | inr t ↦ rw t (omega (arith, sum-keep f g xs)) ]

  pub sum-when : (f : A → Bool) (g : A → ℕ) (xs : List A) → sum (λ x. when (f x) (g x)) xs ≡ sum g (keep f xs)
  sum-when f g [] = refl
  sum-when f g (x ∷ xs) = elim (test (f x)) [ inl t ↦ rw t (omega (arith, sum-when f g xs)) | inr t ↦ rw t (omega (arith, sum-when f g xs)) ]

  pub keep_both : (f : A → Bool) (xs : List A) → length (keep f xs) + length (keep (λ x. not (f x)) xs) ≡ length xs
  keep_both f [] = refl
  keep_both f (x ∷ xs) = elim (test (f x)) [ inl t ↦ rw t (omega (arith, keep_both f xs)) | inr t ↦ rw t (omega (arith, keep_both f xs)) ]

  pub keep-length : (f : A → Bool) (xs : List A) → length (keep f xs) ≤ length xs
  keep-length f xs = omega (arith, keep_both f xs)

  -- two tests that agree, or that differ at one member alone
  pub keep_same : (f g : A → Bool) (xs : List A) → ((x : A) → In x xs → f x ≡ g x) → keep f xs ≡ keep g xs
  keep_same f g [] h = refl
  keep_same f g (x ∷ xs) h = rw (h x (here refl), keep_same f g xs (λ y i. h y (there i)))

  pub keep_one_more : (f g : A → Bool) {y : A} {xs : List A} → Once xs → In y xs → f y ≡ true → g y ≡ false
      → ((x : A) → In x xs → x ≢ y → f x ≡ g x) → length (keep f xs) ≡ suc (length (keep g xs))
  keep_one_more f g {y} o (here {y = x} {ys = xs} e) p q h =
      rw (subst (λ r. f r ≡ true) e p, subst (λ r. g r ≡ false) e q)
      (ap (λ r. suc (length r)) (keep_same f g xs (λ v i. h v (there i) (λ r. o.0 (subst (λ r. In r xs) (r ∙ e) i)))))
  keep_one_more f g {y} o (there {y = x} {ys = xs} i) p q h = next (h x (here refl) (λ e. o.0 (subst (λ r. In r xs) (sym e) i))) (keep_one_more f g o.1 i p q (λ v j. h v (there j))) (test (g x))
    where
      next : f x ≡ g x → length (keep f xs) ≡ suc (length (keep g xs)) → (g x ≡ true) ⊎ (g x ≡ false)
          → length (keep f (x ∷ xs)) ≡ suc (length (keep g (x ∷ xs)))
      next e ih (inl t) = rw (e ∙ t, t) (ap suc ih)
      next e ih (inr t) = rw (e ∙ t, t) ih

  pub length-keep : (f : A → Bool) (xs : List A) → length (keep f xs) ≡ sum (λ x. pick {A = ℕ} (f x) 1 0) xs
  length-keep f xs = length-sum (keep f xs) ∙ sum-keep f (λ x. 1) xs

  -- what is left of an inclusion where the first member is taken out of both
  others : {x : A} (xs ys : List A) → Once (x ∷ xs) → ((y : A) → In y (x ∷ xs) → In y ys) → (a b : List A) → ys ≡ a ++ (x ∷ b)
      → (y : A) → In y xs → In y (a ++ b)
  others {x} xs ys p h a b e y i = elim (in_rest a b (subst (λ r. In y r) e (h y (there i)))) [
    | inl q ↦ absurd (p.0 (subst (λ r. In r xs) q i))
    | inr j ↦ j
  ]

  -- counting by inclusion: xs without repeats, every member of xs in ys
  pub once_sum_le : (f : A → ℕ) (xs ys : List A) → Once xs → ((x : A) → In x xs → In x ys) → sum f xs ≤ sum f ys
  once_sum_le f [] ys p h = omega arith
  once_sum_le f (x ∷ xs) ys p h = elim (in_split (h x (here refl))) [
    | found a b e ↦ omega (
      arith,
      once_sum_le f xs (a ++ b) p.1 (others xs ys p h a b e),
      ap (sum f) e,
      sum_mid f a x b,
    )
  ]

  pub once_le : (xs ys : List A) → Once xs → ((x : A) → In x xs → In x ys) → length xs ≤ length ys
  once_le xs ys p h = omega (arith, length-sum xs, length-sum ys, once_sum_le (λ x. 1) xs ys p h)

  pub once_sum : (f : A → ℕ) (xs ys : List A) → Once xs → Once ys → ((x : A) → In x xs → In x ys) → ((x : A) → In x ys → In x xs)
      → sum f xs ≡ sum f ys
  once_sum f xs ys p q h g = le_antisymm (once_sum_le f xs ys p h) (once_sum_le f ys xs q g)

  pub once_eq : (xs ys : List A) → Once xs → Once ys → ((x : A) → In x xs → In x ys) → ((x : A) → In x ys → In x xs)
      → length xs ≡ length ys
  once_eq xs ys p q h g = le_antisymm (once_le xs ys p h) (once_le ys xs q g)

  -- pigeonhole: xs has no repeats and is no shorter than ys, which holds it
  pub onto : (xs ys : List A) → Once xs → ((x : A) → In x xs → In x ys) → length ys ≤ length xs → (y : A) → In y ys → In y xs
  onto [] [] p h l y i = i
  onto [] (z ∷ ys) p h l y i = absurd (omega arith)
  onto (x ∷ xs) ys p h l y i = elim (in_split (h x (here refl))) [ found a b e ↦ back a b e (onto xs (a ++ b) p.1 (others xs ys p h a b e)) ]
    where
      back : (a b : List A) → ys ≡ a ++ (x ∷ b) → (length (a ++ b) ≤ length xs → (z : A) → In z (a ++ b) → In z xs) → In y (x ∷ xs)
      back a b e ih = elim (in_rest a b (subst (λ r. In y r) e i)) [
        | inl q ↦ here q
        | inr j ↦ there (ih (omega (arith, ap length e, length-append a (x ∷ b), length-append a b)) y j)
      ]

module _ {A B : Type 0} where
  pub sum_swap : (h : A → B → ℕ) (xs : List A) (ys : List B) → sum (λ x. sum (h x) ys) xs ≡ sum (λ y. sum (λ x. h x y) xs) ys
  sum_swap h [] ys = omega (arith, sum_const 0 ys)
  sum_swap h (x ∷ xs) ys = omega (arith, sum_swap h xs ys, sum-plus (h x) (λ y. sum (λ z. h z y) xs) ys)

  pub each-sum : (f : A → B) (g : B → ℕ) (xs : List A) → sum g (each f xs) ≡ sum (λ x. g (f x)) xs
  each-sum f g [] = refl
  each-sum f g (x ∷ xs) = omega (arith, each-sum f g xs)

  pub gather-length : (f : A → List B) (xs : List A) → length (gather f xs) ≡ sum (λ x. length (f x)) xs
  gather-length f [] = refl
  gather-length f (x ∷ xs) = omega (arith, gather-length f xs, length-append (f x) (gather f xs))

pub joined_length : (ws : List (List ℕ)) → length (joined ws) ≡ sum length ws
joined_length [] = refl
joined_length (w ∷ ws) = omega (arith, joined_length ws, length-append w (joined ws))

-- Lists in general: members, the members that pass a test, lists without repeats, the tests for members and repeats, images, numbers in a row; lists of words that ascend, and lists that do by a key.
use mathlib.Core.Path.{◌≡◌, refl, sym, ◌∙◌, ap, ap₂, subst, subst₂}
use mathlib.Core.Bool.{Bool, true, false, not, false≢true}
use mathlib.Core.List.{List, [], ◌∷◌, ◌++◌, append_assoc, append-nil, reverse, reverse-cons, reverse-append}
use mathlib.Core.Logic.{◌⊎◌, inl, inr, ◌≢◌}
use Prim.Native.Nat.{ℕ, zero, suc, ◌+◌, ◌-◌, ◌≤◌, ◌<◌}
use native.Mathlib.Omega.{arith}
use native.Mathlib.Nat.{zero-add, add-zero, add-suc, suc-add}
use native.Mathlib.Numerals.{add-one}
use lib.Dec.{eqb}
use lib.ListN.{length, get_or, take, drop, length-append, take-append-drop}
use borrow.Author.Tests.{eqb-true, eq-eqb}
use Rattle.theory.specs.Words.{pick, keep, below}
use Rattle.theory.specs.Lists.{In, here, there, Ascending, Once, holds, each_once, each, gather, count_from}
use Rattle.theory.specs.Rings.{joined}
use Rattle.theory.proofs.Base.{test, and_l, and_r, and_in, or_right, or_cases, refute, refuted, cmp, less, equal, more}
use Rattle.theory.proofs.Order.{Lt, Le, below_lt, lt_below, lt_irrefl, lt_le, eq_le}

module _ {A : Type 0} where
  pub in_nil : {x : A} → ¬ In x []
  in_nil i = elim i [ ]

  pub in_some : {x : A} {xs : List A} → In x xs → length xs ≢ 0
  in_some (here e) z = omega arith
  in_some (there i) z = omega arith

  pub no_members : (xs : List A) → ((x : A) → ¬ In x xs) → xs ≡ []
  no_members [] h = refl
  no_members (x ∷ xs) h = absurd (h x (here refl))

  pub in_append_left : {x : A} {xs : List A} (ys : List A) → In x xs → In x (xs ++ ys)
  in_append_left ys (here e) = here e
  in_append_left ys (there i) = there (in_append_left ys i)

  pub in_append_right : {x : A} (xs : List A) {ys : List A} → In x ys → In x (xs ++ ys)
  in_append_right [] i = i
  in_append_right (y ∷ xs) i = there (in_append_right xs i)

  pub in_append_cases : {x : A} (xs : List A) {ys : List A} → In x (xs ++ ys) → In x xs ⊎ In x ys
  in_append_cases [] i = inr i
  in_append_cases (y ∷ xs) (here e) = inl (here e)
  in_append_cases (y ∷ xs) (there i) = elim (in_append_cases xs i) [ inl j ↦ inl (there j) | inr j ↦ inr j ]

  -- a list taken apart at a member
  pub data Found (x : A) (xs : List A) : Type 0 where
    found : (a b : List A) → xs ≡ a ++ (x ∷ b) → Found x xs

  pub in_split : {x : A} {xs : List A} → In x xs → Found x xs
  in_split (here {y = y} {ys = ys} e) = found [] ys (ap (λ r. r ∷ ys) (sym e))
  in_split (there {y = y} i) = elim (in_split i) [ found a b e ↦ found (y ∷ a) b (ap (λ r. y ∷ r) e) ]

  pub in_mid : (a : List A) {x : A} (b : List A) → In x (a ++ (x ∷ b))
  in_mid a b = in_append_right a (here refl)

  -- a member of a ++ (x ∷ b) other than x
  pub in_rest : {x y : A} (a b : List A) → In y (a ++ (x ∷ b)) → (y ≡ x) ⊎ In y (a ++ b)
  in_rest {x} {y} a b i = elim (in_append_cases a i) [ inl j ↦ inr (in_append_left b j) | inr j ↦ second j ]
    where
      second : In y (x ∷ b) → (y ≡ x) ⊎ In y (a ++ b)
      second (here e) = inl e
      second (there j) = inr (in_append_right a j)

  pub take_in : (n : ℕ) (xs : List A) {x : A} → In x (take n xs) → In x xs
  take_in n xs {x} i = subst (λ r. In x r) (take-append-drop n xs) (in_append_left (drop n xs) i)

  pub drop_in : (n : ℕ) (xs : List A) {x : A} → In x (drop n xs) → In x xs
  drop_in n xs {x} i = subst (λ r. In x r) (take-append-drop n xs) (in_append_right (take n xs) i)

  -- members by index
  pub getD_in : (xs : List A) (i : ℕ) (d : A) → i < length xs → In (get_or xs i d) xs
  getD_in [] i d h = absurd (omega arith)
  getD_in (x ∷ xs) zero d h = here refl
  getD_in (x ∷ xs) (suc i) d h = there (getD_in xs i d (omega arith))

  pub data Index (x d : A) (xs : List A) : Type 0 where
    index : (i : ℕ) → i < length xs → get_or xs i d ≡ x → Index x d xs

  pub in_index : {x : A} (d : A) {xs : List A} → In x xs → Index x d xs
  in_index d (here e) = index 0 (omega arith) (sym e)
  in_index d (there i) = elim (in_index d i) [ index j h e ↦ index (suc j) (omega arith) e ]

  -- one member, if a test holds
  pub pick_in : (b : Bool) {x y : A} → In x (pick b (y ∷ []) []) → (b ≡ true) × (x ≡ y)
  pick_in true (here e) = (refl, e)
  pick_in true (there i) = absurd (in_nil i)
  pick_in false i = absurd (in_nil i)

  pub in_pick : {b : Bool} {y : A} → b ≡ true → In y (pick b (y ∷ []) [])
  in_pick {b} t = rw t (here refl)

  -- the members that pass a test
  pub keep_in : (f : A → Bool) (xs : List A) {x : A} → In x (keep f xs) → In x xs × (f x ≡ true)
  keep_in f [] i = absurd (in_nil i)
  keep_in f (y ∷ xs) i = elim (in_append_cases (pick (f y) (y ∷ []) []) i) [
    | inl j ↦ let (t, e) = pick_in (f y) j in (here e, ap f e ∙ t)
    | inr j ↦ let r = keep_in f xs j in (there r.0, r.1)
  ]

  pub in_keep : (f : A → Bool) {x : A} {xs : List A} → In x xs → f x ≡ true → In x (keep f xs)
  in_keep f {x = x} (here {y = y} e) h = let t : f y ≡ true = ap f (sym e) ∙ h in rw t (here e)
  in_keep f {x = x} (there {y = y} {ys = ys} i) h = in_append_right (pick (f y) (y ∷ []) []) (in_keep f i h)

  pub keep_append : (f : A → Bool) (xs ys : List A) → keep f (xs ++ ys) ≡ keep f xs ++ keep f ys
  keep_append f [] ys = refl
  keep_append f (x ∷ xs) ys = rw (keep_append f xs ys, append_assoc)

  pub keep_reverse : (f : A → Bool) (xs : List A) → keep f (reverse xs) ≡ reverse (keep f xs)
  keep_reverse f [] = refl
  keep_reverse f (x ∷ xs) =
      ap (keep f) (reverse-cons x xs) ∙ keep_append f (reverse xs) (x ∷ []) ∙ ap₂ ◌++◌ (keep_reverse f xs) (one (f x))
      ∙ sym (reverse-append (pick (f x) (x ∷ []) []) (keep f xs))
    where
      one : (b : Bool) → pick b (x ∷ []) [] ++ [] ≡ reverse (pick b (x ∷ []) [])
      one true = refl
      one false = refl

  pub keep_all : (f : A → Bool) (xs : List A) → ((x : A) → In x xs → f x ≡ true) → keep f xs ≡ xs
  keep_all f [] h = refl
  keep_all f (x ∷ xs) h = rw (h x (here refl), keep_all f xs (λ y i. h y (there i)))

  pub keep_none : (f : A → Bool) (xs : List A) → ((x : A) → In x xs → f x ≡ false) → keep f xs ≡ []
  keep_none f [] h = refl
  keep_none f (x ∷ xs) h = rw (h x (here refl), keep_none f xs (λ y i. h y (there i)))

  pub keep_split : (f : A → Bool) (a b : List A) → ((x : A) → In x a → f x ≡ true) → ((x : A) → In x b → f x ≡ false) → keep f (a ++ b) ≡ a
  keep_split f a b p q = keep_append f a b ∙ ap₂ (λ x y. x ++ y) (keep_all f a p) (keep_none f b q) ∙ append-nil a

  -- the first member that passes a test
  pub data First (f : A → Bool) (xs : List A) : Type 0 where
    first : (a : List A) (m : A) (b : List A) → xs ≡ a ++ (m ∷ b) → f m ≡ true → ((y : A) → In y a → f y ≡ false) → First f xs

  pub first_or : (f : A → Bool) (xs : List A) → First f xs ⊎ ((y : A) → In y xs → f y ≡ false)
  first_or f [] = inr (λ y i. absurd (in_nil i))
  first_or f (x ∷ xs) = elim (test (f x)) [ inl t ↦ inl (first [] x xs refl t (λ y i. absurd (in_nil i))) | inr t ↦ step t (first_or f xs) ]
    where
      fails : {ys : List A} → f x ≡ false → ((y : A) → In y ys → f y ≡ false) → (y : A) → In y (x ∷ ys) → f y ≡ false
      fails t h y (here e) = rw e t
      fails t h y (there i) = h y i

      step : f x ≡ false → First f xs ⊎ ((y : A) → In y xs → f y ≡ false) → First f (x ∷ xs) ⊎ ((y : A) → In y (x ∷ xs) → f y ≡ false)
      step t (inl (first a m b e p h)) = inl (first (x ∷ a) m b (ap (λ r. x ∷ r) e) p (fails t h))
      step t (inr h) = inr (fails t h)

  pub first_of_lem : (f : A → Bool) {xs : List A} {x : A} → In x xs → f x ≡ true → First f xs
  first_of_lem f {xs} {x} i t = elim (first_or f xs) [ inl r ↦ r | inr h ↦ absurd (false≢true (sym (h x i) ∙ t)) ]

  -- no repeats
  pub once_append : (xs ys : List A) → Once xs → Once ys → ((x : A) → In x xs → In x ys → ⊥) → Once (xs ++ ys)
  once_append [] ys p q h = q
  once_append (x ∷ xs) ys p q h =
      (λ i. elim (in_append_cases xs i) [ inl j ↦ p.0 j | inr j ↦ h x (here refl) j ], once_append xs ys p.1 q (λ y i j. h y (there i) j))

  pub once_before : (xs ys : List A) {x : A} → Once (xs ++ (x ∷ ys)) → ¬ In x xs
  once_before [] ys o i = in_nil i
  once_before (y ∷ xs) ys o (here e) = o.0 (in_append_right xs (here (sym e)))
  once_before (y ∷ xs) ys o (there i) = once_before xs ys o.1 i

  pub take_once : (n : ℕ) (xs : List A) → Once xs → Once (take n xs)
  take_once zero xs p = tt
  take_once (suc n) [] p = tt
  take_once (suc n) (x ∷ xs) p = (λ i. p.0 (take_in n xs i), take_once n xs p.1)

  pub keep_once : (f : A → Bool) (xs : List A) → Once xs → Once (keep f xs)
  keep_once f [] p = tt
  keep_once f (x ∷ xs) p = elim (test (f x)) [ inl t ↦ rw t (λ i. p.0 (keep_in f xs i).0, keep_once f xs p.1) | inr t ↦ rw t (keep_once f xs p.1) ]

-- the tests for members and for repeats
pub holds_in : (a : ℕ) (xs : List ℕ) → holds a xs ≡ true → In a xs
holds_in a [] h = absurd (false≢true h)
holds_in a (x ∷ xs) h = elim (or_cases (eqb a x) (holds a xs) h) [ inl t ↦ here (eqb-true a x t) | inr t ↦ there (holds_in a xs t) ]

pub in_holds : {a : ℕ} {xs : List ℕ} → In a xs → holds a xs ≡ true
in_holds {a} (here {y = x} e) = rw (eq-eqb a x e)
in_holds {a} (there {y = x} i) = or_right (eqb a x) _ (in_holds i)

pub once_told : (xs : List ℕ) → each_once xs ≡ true → Once xs
once_told [] h = tt
once_told (x ∷ xs) h = (λ i. refuted (holds x xs) (and_l _ _ h) (in_holds i), once_told xs (and_r (not (holds x xs)) _ h))

pub tell_once : (xs : List ℕ) → Once xs → each_once xs ≡ true
tell_once [] p = refl
tell_once (x ∷ xs) p = and_in (refute (holds x xs) (λ h. p.0 (holds_in x xs h))) (tell_once xs p.1)

-- images; lists gathered from several
module _ {A B : Type 0} where
  pub data Image (f : A → B) (y : B) (xs : List A) : Type 0 where
    image : (x : A) → In x xs → y ≡ f x → Image f y xs

  pub each_in : (f : A → B) (xs : List A) {y : B} → In y (each f xs) → Image f y xs
  each_in f [] i = absurd (in_nil i)
  each_in f (x ∷ xs) (here e) = image x (here refl) e
  each_in f (x ∷ xs) (there i) = elim (each_in f xs i) [ image z j e ↦ image z (there j) e ]

  pub in_each : (f : A → B) {x : A} {xs : List A} → In x xs → In (f x) (each f xs)
  in_each f (here e) = here (ap f e)
  in_each f (there i) = there (in_each f i)

  pub each_append : (f : A → B) (xs ys : List A) → each f (xs ++ ys) ≡ each f xs ++ each f ys
  each_append f [] ys = refl
  each_append f (x ∷ xs) ys = ap (λ r. f x ∷ r) (each_append f xs ys)

  pub each_length : (f : A → B) (xs : List A) → length (each f xs) ≡ length xs
  each_length f [] = refl
  each_length f (x ∷ xs) = ap suc (each_length f xs)

  pub each_once_lem : (f : A → B) (xs : List A) → Once xs → ((x y : A) → In x xs → In y xs → f x ≡ f y → x ≡ y) → Once (each f xs)
  each_once_lem f [] p h = tt
  each_once_lem f (x ∷ xs) p h = (
    λ i. elim (each_in f xs i) [ image z j e ↦ p.0 (subst (λ r. In r xs) (sym (h x z (here refl) (there j) e)) j) ],
    each_once_lem f xs p.1 (λ y z i j. h y z (there i) (there j)),
  )

  pub data Gathered (f : A → List B) (y : B) (xs : List A) : Type 0 where
    gathered : (x : A) → In x xs → In y (f x) → Gathered f y xs

  pub gather_in : (f : A → List B) (xs : List A) {y : B} → In y (gather f xs) → Gathered f y xs
  gather_in f [] i = absurd (in_nil i)
  gather_in f (x ∷ xs) i = elim (in_append_cases (f x) i) [
    | inl j ↦ gathered x (here refl) j
    | inr j ↦ elim (gather_in f xs j) [ gathered z l m ↦ gathered z (there l) m ]
  ]

  pub in_gather : (f : A → List B) {x : A} {xs : List A} {y : B} → In x xs → In y (f x) → In y (gather f xs)
  in_gather f {y = y} (here {ys = ys} e) j = in_append_left (gather f ys) (subst (λ r. In y (f r)) e j)
  in_gather f (there {y = z} i) j = in_append_right (f z) (in_gather f i j)

  pub gather_append : (f : A → List B) (xs ys : List A) → gather f (xs ++ ys) ≡ gather f xs ++ gather f ys
  gather_append f [] ys = refl
  gather_append f (x ∷ xs) ys = ap (λ r. f x ++ r) (gather_append f xs ys) ∙ sym (append_assoc (f x) (gather f xs) (gather f ys))

  pub gather_once : (f : A → List B) (xs : List A) → Once xs → ((x : A) → In x xs → Once (f x))
      → ((x y : A) (z : B) → In x xs → In y xs → In z (f x) → In z (f y) → x ≡ y) → Once (gather f xs)
  gather_once f [] p o h = tt
  gather_once f (x ∷ xs) p o h =
      once_append (f x) (gather f xs) (o x (here refl)) (gather_once f xs p.1 (λ y i. o y (there i)) (λ y z w i j. h y z w (there i) (there j)))
      (λ w i j. elim (gather_in f xs j) [ gathered z l m ↦ p.0 (subst (λ r. In r xs) (sym (h x z w (here refl) (there l) i m)) l) ])

-- the l numbers from a on
pub count_in : (l a : ℕ) {d : ℕ} → In d (count_from l a) → (a ≤ d) × (d < a + l)
count_in zero a i = absurd (in_nil i)
count_in (suc l) a (here e) = (omega arith, omega arith)
count_in (suc l) a (there i) = let r = count_in l (suc a) i in (omega arith, omega arith)

pub in_count : (l a d : ℕ) → a ≤ d → d < a + l → In d (count_from l a)
in_count zero a d h k = absurd (omega arith)
in_count (suc l) a d h k = elim (cmp a d) [ less q ↦ there (in_count l (suc a) d q (omega arith)) | equal q ↦ here (sym q) | more q ↦ absurd (omega arith) ]

-- the first of them that passes a test is the lowest
pub count_least : (f : ℕ → Bool) (l a : ℕ) {d : ℕ} → In d (keep f (count_from l a)) → get_or (keep f (count_from l a)) 0 0 ≤ d
count_least f zero a i = absurd (in_nil i)
count_least f (suc l) a {d} i = elim (test (f a)) [
  | inl t ↦ rw t (count_in (suc l) a (keep_in f (count_from (suc l) a) i).0).0
  | inr t ↦ rw t (count_least f l (suc a) (rw t at i))
]

pub count_length : (l a : ℕ) → length (count_from l a) ≡ l
count_length zero a = refl
count_length (suc l) a = ap suc (count_length l (suc a))

pub count_once : (l a : ℕ) → Once (count_from l a)
count_once zero a = tt
count_once (suc l) a = (λ i. let r = count_in l (suc a) i in omega (arith, r.0), count_once l (suc a))

-- in two parts
count_split : (i l a : ℕ) → count_from (i + l) a ≡ count_from i a ++ count_from l (a + i)
count_split zero l a = ap₂ count_from (zero-add l) (sym (add-zero a))
count_split (suc i) l a = ap (λ m. count_from m a) (suc-add i l) ∙ ap (λ r. a ∷ r) (count_split i l (suc a) ∙ ap (λ b. count_from i (suc a) ++ count_from l b) (suc-add a i ∙ sym (add-suc a i)))

pub count_last : (l a : ℕ) → count_from (suc l) a ≡ count_from l a ++ ((a + l) ∷ [])
count_last l a = ap (λ m. count_from m a) (sym (add-one l)) ∙ count_split l 1 a

-- what they have, one after the other: of one number more; of fewer it is no more
module _ {A : Type 0} (f : ℕ → List A) where
  gather_split : (i l a : ℕ) → gather f (count_from (i + l) a) ≡ gather f (count_from i a) ++ gather f (count_from l (a + i))
  gather_split i l a = ap (gather f) (count_split i l a) ∙ gather_append f (count_from i a) (count_from l (a + i))

  pub gather_next : (i a : ℕ) → gather f (count_from (i + 1) a) ≡ gather f (count_from i a) ++ f (a + i)
  gather_next i a = gather_split i 1 a ∙ ap (λ r. gather f (count_from i a) ++ r) (append-nil (f (a + i)))

  pub gather_part : (i m a : ℕ) → i ≤ m → length (gather f (count_from i a)) ≤ length (gather f (count_from m a))
  gather_part i m a h =
      let e : i + (m - i) ≡ m = omega arith in
      omega (arith, ap (λ x. length (gather f (count_from x a))) (sym e), ap length (gather_split i (m - i) a), length-append (gather f (count_from i a)) (gather f (count_from (m - i) (a + i))))

-- the numbers below n, the largest first
abbrev pub span : ℕ → List ℕ
span zero = []
span (suc n) = n ∷ span n

pub span_in : (n : ℕ) {i : ℕ} → In i (span n) → i < n
span_in zero i = absurd (in_nil i)
span_in (suc n) (here e) = omega arith
span_in (suc n) (there i) = omega (arith, span_in n i)

pub in_span : (n i : ℕ) → i < n → In i (span n)
in_span zero i h = absurd (omega arith)
in_span (suc n) i h = elim (cmp i n) [ less l ↦ there (in_span n i l) | equal l ↦ here l | more l ↦ absurd (omega arith) ]

pub span_once : (n : ℕ) → Once (span n)
span_once zero = tt
span_once (suc n) = (λ i. let h : n < n = span_in n i in omega arith, span_once n)

pub span-length : (n : ℕ) → length (span n) ≡ n
span-length zero = refl
span-length (suc n) = ap suc (span-length n)

-- lists of words that ascend
pub ascend_once : (ws : List (List ℕ)) → Ascending ws → Once ws
ascend_once [] p = tt
ascend_once (w ∷ ws) p = (λ i. lt_irrefl (below_lt w w (p.0 w i)), ascend_once ws p.1)

pub keep_ascend : (f : List ℕ → Bool) (ws : List (List ℕ)) → Ascending ws → Ascending (keep f ws)
keep_ascend f [] p = tt
keep_ascend f (w ∷ ws) p = elim (test (f w)) [ inl t ↦ rw t (λ v i. p.0 v (keep_in f ws i).0, keep_ascend f ws p.1) | inr t ↦ rw t (keep_ascend f ws p.1) ]

-- the first is not above any
pub ascend_first : {ws : List (List ℕ)} {w : List ℕ} → Ascending ws → In w ws → Le (get_or ws 0 []) w
ascend_first p (here e) = eq_le (sym e)
ascend_first {w = w} p (there {y = v} i) = lt_le (below_lt v w (p.0 w i))

pub ascend_append : (us vs : List (List ℕ)) → Ascending us → Ascending vs → ((u v : List ℕ) → In u us → In v vs → Lt u v) → Ascending (us ++ vs)
ascend_append [] vs p q h = q
ascend_append (u ∷ us) vs p q h = (
  λ v i. elim (in_append_cases us i) [ inl j ↦ p.0 v j | inr j ↦ lt_below (h u v (here refl) j) ],
  ascend_append us vs p.1 q (λ w v i j. h w v (there i) j),
)

-- lists whose members ascend by a key
module _ {A : Type 0} (key : A → List ℕ) where
  pub key_append : (xs ys : List A) → Ascending (each key xs) → Ascending (each key ys) → ((x y : A) → In x xs → In y ys → Lt (key x) (key y))
      → Ascending (each key (xs ++ ys))
  key_append xs ys p q h = rw (each_append key xs ys) (ascend_append (each key xs) (each key ys) p q between)
    where
      between : (u v : List ℕ) → In u (each key xs) → In v (each key ys) → Lt u v
      between u v i j = elim (each_in key xs i) [ image x a e ↦ elim (each_in key ys j) [ image y b g ↦ subst₂ Lt (sym e) (sym g) (h x y a b) ] ]

  pub key_one : (b : Bool) (x : A) → Ascending (each key (pick b (x ∷ []) []))
  key_one true x = (λ v i. absurd (in_nil i), tt)
  key_one false x = tt

  pub key_keep : (f : A → Bool) (xs : List A) → Ascending (each key xs) → Ascending (each key (keep f xs))
  key_keep f [] p = tt
  key_keep f (x ∷ xs) p = elim (test (f x)) [ inl t ↦ rw t (first, key_keep f xs p.1) | inr t ↦ rw t (key_keep f xs p.1) ]
    where
      first : (v : List ℕ) → In v (each key (keep f xs)) → below (key x) v ≡ true
      first v i = elim (each_in key (keep f xs) i) [ image y j e ↦ p.0 v (subst (λ r. In r (each key xs)) (sym e) (in_each key (keep_in f xs j).0)) ]

  pub key_count : (f : ℕ → List A) (l a : ℕ) → ((i : ℕ) → a ≤ i → Ascending (each key (f i)))
      → ((i j : ℕ) (x y : A) → i < j → In x (f i) → In y (f j) → Lt (key x) (key y)) → Ascending (each key (gather f (count_from l a)))
  key_count f zero a p h = tt
  key_count f (suc l) a p h = key_append (f a) (gather f (count_from l (suc a))) (p a (omega arith)) (key_count f l (suc a) (λ i g. p i (omega arith)) h) behind
    where
      behind : (x y : A) → In x (f a) → In y (gather f (count_from l (suc a))) → Lt (key x) (key y)
      behind x y i j = elim (gather_in f (count_from l (suc a)) j) [ gathered b m n ↦ h a b x y (count_in l (suc a) m).0 i n ]

  -- an earlier member has the lower key
  pub key_index : (xs : List A) (d : A) (i j : ℕ) → Ascending (each key xs) → i < j → j < length xs → below (key (get_or xs i d)) (key (get_or xs j d)) ≡ true
  key_index [] d i j p h l = absurd (omega arith)
  key_index (x ∷ xs) d i zero p h l = absurd (omega arith)
  key_index (x ∷ xs) d zero (suc j) p h l = p.0 _ (in_each key (getD_in xs j d (omega arith)))
  key_index (x ∷ xs) d (suc i) (suc j) p h l = key_index xs d i j p.1 (omega arith) (omega arith)

pub ascend_apart : (us vs : List (List ℕ)) → Ascending (us ++ vs) → (u v : List ℕ) → In u us → In v vs → Lt u v
ascend_apart [] vs p u v i j = absurd (in_nil i)
ascend_apart (w ∷ us) vs p u v (here e) j = subst (λ r. Lt r v) (sym e) (below_lt w v (p.0 v (in_append_right us j)))
ascend_apart (w ∷ us) vs p u v (there i) j = ascend_apart us vs p.1 u v i j

pub ascend_right : (us vs : List (List ℕ)) → Ascending (us ++ vs) → Ascending vs
ascend_right [] vs p = p
ascend_right (u ∷ us) vs p = ascend_right us vs p.1

-- an ascending list around a member: the smaller ones before, the larger ones after
pub ascend_before : (a : List (List ℕ)) {u : List ℕ} (b : List (List ℕ)) → Ascending (a ++ (u ∷ b)) → (v : List ℕ) → In v a → Lt v u
ascend_before a {u} b p v i = ascend_apart a (u ∷ b) p v u i (here refl)

pub ascend_after : (a : List (List ℕ)) {u : List ℕ} (b : List (List ℕ)) → Ascending (a ++ (u ∷ b)) → (v : List ℕ) → In v b → Lt u v
ascend_after a {u} b p v i = below_lt u v ((ascend_right a (u ∷ b) p).0 v i)

pub data Around (u : List ℕ) (ws : List (List ℕ)) : Type 0 where
  around : (a b : List (List ℕ)) → ws ≡ a ++ (u ∷ b) → ((v : List ℕ) → In v a → Lt v u) → ((v : List ℕ) → In v b → Lt u v) → Around u ws

pub ascend_around : {u : List ℕ} {ws : List (List ℕ)} → Ascending ws → In u ws → Around u ws
ascend_around {u} p i = elim (in_split i) [
  | found a b e ↦
      let q : Ascending (a ++ (u ∷ b)) = subst Ascending e p in around a b e (ascend_before a b q) (ascend_after a b q)
]

-- words joined
pub joined-append : (a b : List (List ℕ)) → joined (a ++ b) ≡ joined a ++ joined b
joined-append [] b = refl
joined-append (u ∷ a) b = ap (λ r. u ++ r) (joined-append a b) ∙ sym (append_assoc u (joined a) (joined b))

-- Topological orders: what the list of them holds, and its first; and how that is found, by placing again and again the lowest section that is ready.
use mathlib.Core.Path.{◌≡◌, refl, sym, ◌∙◌, ap, subst}
use mathlib.Core.Bool.{Bool, true, false, ◌&&◌, not, false≢true}
use mathlib.Core.List.{List, [], ◌∷◌, ◌++◌, append_assoc, append-nil}
use mathlib.Core.Logic.{◌⊎◌, inl, inr, ◌↔◌}
use Prim.Native.Nat.{ℕ, zero, suc, ◌+◌, ◌≤◌, ◌<◌}
use native.Mathlib.Omega.{arith}
use lib.Dec.{ltb, eqb}
use lib.ListN.{length, get_or, length-append}
use borrow.Author.Tests.{eqb-true, eqb-false, eq-eqb, ltb-true, not-true, not-false}
use Rattle.theory.specs.Words.{keep, up_to, all_words}
use Rattle.theory.specs.Lists.{In, here, there, Once, holds, each_once, count_from}
use Rattle.theory.specs.Topological.{Pair, pair, known, ahead, keeps_all, orders, first_order, Topological, Chain, link, chain, Round, waits, ready, next_ready}
use Rattle.theory.specs.Theorems.{Ordered}
use Rattle.theory.proofs.Base.{test, same_test, and_l, and_r, and_in, or_cases, or_right, refute, refuted, cmp, less, equal, more}
use Rattle.theory.proofs.Order.{Le, le_antisym, le_up_to, Prefix, prefix, prefix_le, cut_lt, lt_le, cut_append, cut_at_letter}
use Rattle.theory.specs.Prenecklaces.{Cut}
use Rattle.theory.proofs.Lists.{in_nil, in_some, in_append_left, in_append_right, in_append_cases, in_mid, found, in_split, getD_in, keep_in, in_keep, First, first, first_or, no_members, once_append, once_before, holds_in, in_holds, once_told, tell_once, count_in, in_count, count_least, span, span_in, in_span, span_once, span-length, keep_ascend, ascend_first}
use Rattle.theory.proofs.Counts.{keep_same, once_le, once_eq, onto}
use Rattle.theory.proofs.Letters.{marks_in, in_marks}
use Rattle.theory.proofs.AllWords.{all_in, in_all, all_ascend}

-- a ahead of b
module _ (a b : ℕ) where
  ahead_second : (xs : List ℕ) → ahead a b xs ≡ true → In b xs
  ahead_second [] h = absurd (false≢true h)
  ahead_second (x ∷ xs) h = elim (test (eqb a x)) [ inl t ↦ there (holds_in b xs (rw t at h)) | inr t ↦ there (ahead_second xs (rw t at h)) ]

  ahead_more : (us vs : List ℕ) → ahead a b us ≡ true → ahead a b (us ++ vs) ≡ true
  ahead_more [] vs h = absurd (false≢true h)
  ahead_more (x ∷ us) vs h = elim (test (eqb a x)) [
    | inl t ↦ rw t (in_holds (in_append_left vs (holds_in b us (rw t at h))))
    | inr t ↦ rw t (ahead_more us vs (rw t at h))
  ]

  ahead_apart : (us vs : List ℕ) → In a us → In b vs → ahead a b (us ++ vs) ≡ true
  ahead_apart [] vs i j = absurd (in_nil i)
  ahead_apart (x ∷ us) vs i j = elim (test (eqb a x)) [ inl t ↦ rw t (in_holds (in_append_right us j)) | inr t ↦ rw t (ahead_apart us vs (rest t i) j) ]
    where
      rest : eqb a x ≡ false → In a (x ∷ us) → In a us
      rest t (here e) = absurd (eqb-false a x t e)
      rest t (there k) = k

  -- where nothing repeats, what is ahead of a member stands before it, and what it is ahead of behind it
  ahead_before : (us vs : List ℕ) → Once (us ++ (b ∷ vs)) → ahead a b (us ++ (b ∷ vs)) ≡ true → In a us
  ahead_before [] vs o h = elim (test (eqb a b)) [ inl t ↦ absurd (o.0 (holds_in b vs (rw t at h))) | inr t ↦ absurd (o.0 (ahead_second vs (rw t at h))) ]
  ahead_before (x ∷ us) vs o h = elim (test (eqb a x)) [ inl t ↦ here (eqb-true a x t) | inr t ↦ there (ahead_before us vs o.1 (rw t at h)) ]

  ahead_after : (us vs : List ℕ) → Once (us ++ (a ∷ vs)) → ahead a b (us ++ (a ∷ vs)) ≡ true → In b vs
  ahead_after [] vs o h = holds_in b vs (rw (eq-eqb a a refl) at h)
  ahead_after (x ∷ us) vs o h = elim (test (eqb a x)) [
    | inl t ↦ absurd (o.0 (subst (λ r. In r (us ++ (a ∷ vs))) (eqb-true a x t) (in_mid us vs)))
    | inr t ↦ ahead_after us vs o.1 (rw t at h)
  ]

-- all pairs kept, as a test
keeps_in : (ps : List Pair) (xs : List ℕ) → keeps_all ps xs ≡ true → (p : Pair) → In p ps → ahead p.first p.second xs ≡ true
keeps_in [] xs h p i = elim i [ ]
keeps_in (q ∷ ps) xs h p (here e) = rw e (and_l _ _ h)
keeps_in (q ∷ ps) xs h p (there i) = keeps_in ps xs (and_r (ahead q.first q.second xs) _ h) p i

in_keeps : (ps : List Pair) (xs : List ℕ) → ((p : Pair) → In p ps → ahead p.first p.second xs ≡ true) → keeps_all ps xs ≡ true
in_keeps [] xs h = refl
in_keeps (p ∷ ps) xs h = and_in (h p (here refl)) (in_keeps ps xs (λ q i. h q (there i)))

-- a pair's numbers, where all are known
pub known_in : (m : ℕ) (ps : List Pair) → known m ps ≡ true → (p : Pair) → In p ps → (p.first < m) × (p.second < m)
known_in m [] h p i = elim i [ ]
known_in m (q ∷ ps) h p (here e) = rw e (ltb-true _ _ (and_l _ _ h), ltb-true _ _ (and_l _ _ (and_r (ltb q.first m) _ h)))
known_in m (q ∷ ps) h p (there i) = known_in m ps (and_r (ltb q.second m) _ (and_r (ltb q.first m) _ h)) p i

-- so many different numbers below m are all of them
all_placed : (m : ℕ) {xs : List ℕ} → Once xs → ((i : ℕ) → In i xs → i < m) → m ≤ length xs → (i : ℕ) → i < m → In i xs
all_placed m {xs} o small long i h = onto xs (span m) o (λ x j. in_span m x (small x j)) (omega (arith, span-length m)) i (in_span m i h)

-- the list of topological orders
module _ (m : ℕ) (ps : List Pair) where
  topological_length : {xs : List ℕ} → Topological m ps xs → length xs ≡ m
  topological_length {xs} t = once_eq xs (span m) t.once (span_once m) (λ i j. in_span m i ((t.all i).0 j)) (λ i j. (t.all i).1 (span_in m j)) ∙ span-length m

  orders_in : {xs : List ℕ} → In xs (orders m ps) → Topological m ps xs
  unfolding orders
  orders_in {xs} i =
      let (listed, passes) = keep_in (λ ys. each_once ys && keeps_all ps ys) (all_words m m) i in
      let (long, marks) = all_in m m xs listed in
      let once = once_told xs (and_l _ _ passes) in
      record {
        once = once;
        all = λ j. (marks_in m xs marks j, all_placed m once (marks_in m xs marks) (omega arith) j);
        keeps = keeps_in ps xs (and_r (each_once xs) _ passes);
      }

  in_orders : {xs : List ℕ} → Topological m ps xs → In xs (orders m ps)
  unfolding orders
  in_orders {xs} t =
      in_keep (λ ys. each_once ys && keeps_all ps ys) (in_all m m xs (topological_length t) (in_marks m xs (λ i j. (t.all i).0 j)))
      (and_in (tell_once xs t.once) (in_keeps ps xs t.keeps))

  pub members : (xs : List ℕ) → In xs (orders m ps) ↔ Topological m ps xs
  members xs = (orders_in, in_orders)

  pub none : (length (orders m ps) ≡ 0) ↔ ((xs : List ℕ) → ¬ Topological m ps xs)
  none = (λ e xs t. in_some (in_orders t) e, λ h. ap length (no_members (orders m ps) (λ xs i. h xs (orders_in i))))

  -- its first
  first_least : {xs : List ℕ} → Topological m ps xs → Topological m ps (first_order m ps) × Le (first_order m ps) xs
  unfolding orders first_order
  first_least t =
      let i = in_orders t in
      let some : 0 < length (orders m ps) = omega (arith, in_some i) in
      (orders_in (getD_in (orders m ps) 0 [] some), ascend_first (keep_ascend _ (all_words m m) (all_ascend m m)) i)

  pub first_order_lem : (xs : List ℕ) → Topological m ps xs → Topological m ps (first_order m ps) × (up_to (first_order m ps) xs ≡ true)
  first_order_lem xs t = let (is, least) = first_least t in (is, le_up_to least)

-- sections that are ready, where f tells those that are placed
module _ (ps : List Pair) (f : ℕ → Bool) where
  data Waiting (x : ℕ) : List Pair → Type 0 where
    waiting : (p : Pair) {qs : List Pair} → In p qs → x ≡ p.second → f p.first ≡ false → Waiting x qs

  waits_in : (x : ℕ) (qs : List Pair) → waits qs f x ≡ true → Waiting x qs
  waits_in x [] h = absurd (false≢true h)
  waits_in x (q ∷ qs) h = elim (or_cases (eqb x q.second && not (f q.first)) (waits qs f x) h) [
    | inl t ↦ waiting q (here refl) (eqb-true x q.second (and_l _ _ t)) (not-true _ (and_r (eqb x q.second) _ t))
    | inr t ↦ elim (waits_in x qs t) [ waiting p i e g ↦ waiting p (there i) e g ]
  ]

  in_waits : (p : Pair) (qs : List Pair) → In p qs → f p.first ≡ false → waits qs f p.second ≡ true
  in_waits p [] i g = elim i [ ]
  in_waits p (q ∷ qs) (here e) g = let t : f q.first ≡ false = ap (λ r. f r.first) (sym e) ∙ g in rw (eq-eqb p.second q.second (ap (λ r. r.second) e), t)
  in_waits p (q ∷ qs) (there i) g = or_right (eqb p.second q.second && not (f q.first)) _ (in_waits p qs i g)

  -- ready: not placed, and whatever goes before it is
  pub record Ready (x : ℕ) : Type 0 where
    pub unplaced : f x ≡ false
    pub freed : (p : Pair) → In p ps → p.second ≡ x → f p.first ≡ true

  ready_is : (x : ℕ) → ready ps f x ≡ true → Ready x
  ready_is x h = record { unplaced = not-true _ (and_l _ _ h); freed = freed }
    where
      freed : (p : Pair) → In p ps → p.second ≡ x → f p.first ≡ true
      freed p i e = elim (test (f p.first)) [ inl t ↦ t | inr t ↦ absurd (refuted _ (and_r (not (f x)) _ h) (subst (λ y. waits ps f y ≡ true) e (in_waits p ps i t))) ]

  is_ready : (x : ℕ) → Ready x → ready ps f x ≡ true
  is_ready x r = and_in (ap not r.unplaced) (refute (waits ps f x) (λ h. elim (waits_in x ps h) [ waiting p i e g ↦ false≢true (sym g ∙ r.freed p i (sym e)) ]))

  -- the lowest that is ready, or m
  pub data Next (m x : ℕ) : Type 0 where
    lowest : x < m → Ready x → ((y : ℕ) → y < m → Ready y → x ≤ y) → Next m x
    none_ready : x ≡ m → ((y : ℕ) → y < m → ¬ Ready y) → Next m x

  pub next_is : (m : ℕ) → Next m (next_ready m ps f)
  next_is m = go (keep (ready ps f) (count_from m 0)) refl
    where
      listed : (y : ℕ) → y < m → Ready y → In y (keep (ready ps f) (count_from m 0))
      listed y h r = in_keep (ready ps f) (in_count m 0 y (omega arith) (omega arith)) (is_ready y r)

      go : (ys : List ℕ) → keep (ready ps f) (count_from m 0) ≡ ys → Next m (get_or ys 0 m)
      go [] e = none_ready refl (λ y h r. in_nil (subst (λ ys. In y ys) e (listed y h r)))
      go (x ∷ ys) e =
          let (i, t) = keep_in (ready ps f) (count_from m 0) (subst (λ zs. In x zs) (sym e) (here refl)) in
          lowest (omega (arith, (count_in m 0 i).1)) (ready_is x t) (λ y h r. subst (λ zs. get_or zs 0 0 ≤ y) e (count_least (ready ps f) m 0 (listed y h r)))

-- what a list of placed sections knows: every pair whose second is placed is kept, and no topological order comes before it
pub record Placed (m : ℕ) (ps : List Pair) (done : List ℕ) : Type 0 where
  pub once : Once done
  pub small : (x : ℕ) → In x done → x < m
  pub kept : (p : Pair) → In p ps → In p.second done → ahead p.first p.second done ≡ true
  pub least : (ys : List ℕ) → Topological m ps ys → Cut done ys ⊎ Prefix done ys

pub placed_none : (m : ℕ) (ps : List Pair) → Placed m ps []
placed_none m ps = record { once = tt; small = λ x i. absurd (in_nil i); kept = λ p _ i. absurd (in_nil i); least = λ ys _. inr (prefix ys refl) }

module _ {m : ℕ} {ps : List Pair} {done : List ℕ} (placed : Placed m ps done) {f : ℕ → Bool} (flags : (x : ℕ) → f x ≡ holds x done) where
  flag_in : {x : ℕ} → f x ≡ true → In x done
  flag_in {x} t = holds_in x done (sym (flags x) ∙ t)

  in_flag : {x : ℕ} → In x done → f x ≡ true
  in_flag {x} i = flags x ∙ in_holds i

  not_in : {x : ℕ} → ¬ In x done → f x ≡ false
  not_in {x} h = elim (test (f x)) [ inl t ↦ absurd (h (flag_in t)) | inr t ↦ t ]

  -- in a topological order, the first number that is not placed is ready
  comes_ready : (us vs : List ℕ) {y : ℕ} → Topological m ps (us ++ (y ∷ vs)) → ((x : ℕ) → In x us → f x ≡ true) → f y ≡ false → Ready ps f y
  comes_ready us vs {y} t before fresh = record {
    unplaced = fresh;
    freed = λ p i e. before p.first (ahead_before p.first y us vs t.once (subst (λ b. ahead p.first b (us ++ (y ∷ vs)) ≡ true) e (t.keeps p i)));
  }

  -- the lowest section that is ready, placed behind the others
  module _ {x : ℕ} (small : x < m) (is : Ready ps f x) (low : (y : ℕ) → y < m → Ready ps f y → x ≤ y) where
    new : ¬ In x done
    new i = false≢true (sym is.unplaced ∙ in_flag i)

    still_kept : (p : Pair) → In p ps → In p.second (done ++ (x ∷ [])) → ahead p.first p.second (done ++ (x ∷ [])) ≡ true
    still_kept p i j = elim (in_append_cases done j) [ inl d ↦ ahead_more p.first p.second done (x ∷ []) (placed.kept p i d) | inr d ↦ last d ]
      where
        last : In p.second (x ∷ []) → ahead p.first p.second (done ++ (x ∷ [])) ≡ true
        last (here e) = subst (λ b. ahead p.first p.second (done ++ (b ∷ [])) ≡ true) e (ahead_apart p.first p.second done (p.second ∷ []) (flag_in (is.freed p i e)) (here refl))
        last (there d) = absurd (in_nil d)

    still_least : (ys : List ℕ) → Topological m ps ys → Cut (done ++ (x ∷ [])) ys ⊎ Prefix (done ++ (x ∷ [])) ys
    still_least ys t = elim (placed.least ys t) [ inl c ↦ inl (subst (λ r. Cut (done ++ (x ∷ [])) r) (append-nil ys) (cut_append (x ∷ []) [] c)) | inr p ↦ elim p [ prefix r e ↦ on r e ] ]
      where
        on : (r : List ℕ) → ys ≡ done ++ r → Cut (done ++ (x ∷ [])) ys ⊎ Prefix (done ++ (x ∷ [])) ys
        on [] e = absurd (new (subst (λ zs. In x zs) (e ∙ append-nil done) ((t.all x).1 small)))
        on (y ∷ r) e =
            let whole : Topological m ps (done ++ (y ∷ r)) = subst (Topological m ps) e t in
            let fresh : f y ≡ false = not_in (once_before done r whole.once) in
            let comes = comes_ready done r whole (λ z. in_flag) fresh in
            elim (cmp x y) [
              | less h ↦ inl (subst (λ zs. Cut (done ++ (x ∷ [])) zs) (sym e) (cut_at_letter done [] r h))
              | equal h ↦ inr (prefix r (e ∙ ap (λ z. done ++ (z ∷ r)) (sym h) ∙ sym (append_assoc done (x ∷ []) r)))
              | more h ↦ absurd (omega (arith, low y ((whole.all y).0 (in_mid done r)) comes))
            ]

    only_last : {y : ℕ} → In y (x ∷ []) → y ≡ x
    only_last (here e) = e
    only_last (there i) = absurd (in_nil i)

    pub place_next : Placed m ps (done ++ (x ∷ []))
    place_next = record {
      once = once_append done (x ∷ []) placed.once (in_nil, tt) (λ y i j. new (subst (λ z. In z done) (only_last j) i));
      small = λ y i. elim (in_append_cases done i) [ inl j ↦ placed.small y j | inr j ↦ subst (λ z. z < m) (sym (only_last j)) small ];
      kept = still_kept;
      least = still_least;
    }

  -- none is ready, and some are not placed: there is no topological order
  pub stuck : length done < m → ((y : ℕ) → y < m → ¬ Ready ps f y) → (ys : List ℕ) → ¬ Topological m ps ys
  stuck short none_left ys t = elim (first_or (λ y. not (f y)) ys) [
    | inl r ↦ elim r [ first us y vs e fresh before ↦ comes us y vs (subst (Topological m ps) e t) (not-true _ fresh) before ]
    | inr all ↦ omega (arith, once_le (span m) done (span_once m) (λ x i. flag_in (not-false _ (all x ((t.all x).1 (span_in m i))))), span-length m)
  ]
    where
      comes : (us : List ℕ) (y : ℕ) (vs : List ℕ) → Topological m ps (us ++ (y ∷ vs)) → f y ≡ false → ((x : ℕ) → In x us → not (f x) ≡ false) → ⊥
      comes us y vs order fresh before = none_left y ((order.all y).0 (in_mid us vs)) (comes_ready us vs order (λ x i. not-false _ (before x i)) fresh)

-- all placed
module _ {m : ℕ} {ps : List Pair} (all_Known : known m ps ≡ true) {done : List ℕ} (placed : Placed m ps done) (long : m ≤ length done) where
  whole : Topological m ps done
  whole = record {
    once = placed.once;
    all = λ i. (placed.small i, all_placed m placed.once placed.small long i);
    keeps = λ p i. placed.kept p i (all_placed m placed.once placed.small long p.second (known_in m ps all_Known p i).1);
  }

  pub whole_some : ¬ (length (orders m ps) ≡ 0)
  whole_some e = (none m ps).0 e done whole

  pub whole_first : done ≡ first_order m ps
  whole_first =
      let (is, least) = first_least m ps whole in
      le_antisym (elim (placed.least (first_order m ps) is) [ inl c ↦ lt_le (cut_lt c) | inr p ↦ prefix_le p ]) least

-- which pairs there are matters, not how often one comes, nor where
pub same-orders : (m : ℕ) (ps qs : List Pair) → ((p : Pair) → In p ps → In p qs) → ((p : Pair) → In p qs → In p ps) → orders m ps ≡ orders m qs
unfolding orders
same-orders m ps qs f g = keep_same (λ xs. each_once xs && keeps_all ps xs) (λ xs. each_once xs && keeps_all qs xs) (all_words m m) (λ xs i. ap (λ b. each_once xs && b) (same xs))
  where
    fewer : (rs us : List Pair) (xs : List ℕ) → ((p : Pair) → In p us → In p rs) → keeps_all rs xs ≡ true → keeps_all us xs ≡ true
    fewer rs us xs h k = in_keeps us xs (λ p i. keeps_in rs xs k p (h p i))

    same : (xs : List ℕ) → keeps_all ps xs ≡ keeps_all qs xs
    same xs = same_test _ _ (fewer ps qs xs g) (fewer qs ps xs f)

-- rounds: no order keeps one
module _ (m : ℕ) (ps : List Pair) {xs : List ℕ} (t : Topological m ps xs) where
  ahead_trans : (a b c : ℕ) → ahead a c xs ≡ true → ahead c b xs ≡ true → ahead a b xs ≡ true
  ahead_trans a b c h g = elim (in_split (ahead_second a c xs h)) [ found us vs e ↦ at us vs e ]
    where
      at : (us vs : List ℕ) → xs ≡ us ++ (c ∷ vs) → ahead a b xs ≡ true
      at us vs e =
          let o : Once (us ++ (c ∷ vs)) = subst Once e t.once in
          let i = ahead_before a c us vs o (subst (λ r. ahead a c r ≡ true) e h) in
          let j = ahead_after c b us vs o (subst (λ r. ahead c b r ≡ true) e g) in
          rw e (ahead_apart a b us (c ∷ vs) i (there j))

  chain_ahead : {a b : ℕ} → Chain ps a b → ahead a b xs ≡ true
  chain_ahead {a} {b} (link i) = t.keeps (pair a b) i
  chain_ahead {a} {b} (chain c i r) = ahead_trans a b c (t.keeps (pair a c) i) (chain_ahead r)

  never_round : ¬ Round ps
  never_round (a, r) = elim (in_split (ahead_second a a xs (chain_ahead r))) [ found us vs e ↦ at us vs e ]
    where
      at : (us vs : List ℕ) → xs ≡ us ++ (a ∷ vs) → ⊥
      at us vs e = let o : Once (us ++ (a ∷ vs)) = subst Once e t.once in once_before us vs o (ahead_before a a us vs o (subst (λ r. ahead a a r ≡ true) e (chain_ahead r)))

-- and where there is none, one is found: each section that waits does so for one that waits, so that going back from one to the next comes to one again
module _ {m : ℕ} {ps : List Pair} (all_Known : known m ps ≡ true) where
  -- f tells those that are placed, and none is ready
  module _ (f : ℕ → Bool) (none_left : (y : ℕ) → y < m → ¬ Ready ps f y) where
    waits_for : (x : ℕ) → x < m → f x ≡ false → Waiting ps f x ps
    waits_for x h fresh = elim (test (waits ps f x)) [ inl t ↦ waits_in ps f x ps t | inr t ↦ absurd (none_left x h (ready_is ps f x (and_in (ap not fresh) (ap not t)))) ]

    -- from x chains lead to all of vs
    pub record Back (vs : List ℕ) (x : ℕ) : Type 0 where
      once : Once (x ∷ vs)
      small : (v : ℕ) → In v (x ∷ vs) → v < m
      leads : (v : ℕ) → In v vs → Chain ps x v
      fresh : f x ≡ false

    go_back : (l : ℕ) (vs : List ℕ) (x : ℕ) → m ≤ length vs + l → Back vs x → Round ps
    go_back zero vs x long back = absurd (omega (arith, once_le (x ∷ vs) (span m) back.once (λ v i. in_span m v (back.small v i)), span-length m))
    go_back (suc l) vs x long back = elim (waits_for x (back.small x (here refl)) back.fresh) [
      | waiting p i e g ↦ elim (step p.first (subst (λ b. In (pair p.first b) ps) (sym e) i) g (test (holds p.first (x ∷ vs)))) [
        | inl r ↦ r
        | inr next ↦ go_back l (x ∷ vs) p.first (omega arith) next
      ]
    ]
      where
        again : (y : ℕ) → In (pair y x) ps → In y (x ∷ vs) → Round ps
        again y i (here e) = (y, link (subst (λ b. In (pair y b) ps) (sym e) i))
        again y i (there j) = (y, chain x i (back.leads y j))

        on : (y : ℕ) → In (pair y x) ps → (v : ℕ) → In v (x ∷ vs) → Chain ps y v
        on y i v (here e) = subst (Chain ps y) (sym e) (link i)
        on y i v (there j) = chain x i (back.leads v j)

        step : (y : ℕ) → In (pair y x) ps → f y ≡ false → (holds y (x ∷ vs) ≡ true) ⊎ (holds y (x ∷ vs) ≡ false) → Round ps ⊎ Back (x ∷ vs) y
        step y i g (inl t) = inl (again y i (holds_in y (x ∷ vs) t))
        step y i g (inr t) = inr (record {
          once = (λ j. false≢true (sym t ∙ in_holds j), back.once);
          small = λ v j. elim j [ here e ↦ subst (λ r. r < m) (sym e) (known_in m ps all_Known (pair y x) i).0 | there k ↦ back.small v k ];
          leads = on y i;
          fresh = g;
        })

  -- placing goes on until all are placed, or none is ready
  place_all : (l : ℕ) {done : List ℕ} → Placed m ps done → length done + l ≡ m → Round ps ⊎ ((ys : List ℕ) × Topological m ps ys)
  place_all zero {done} placed e = inr (done, whole all_Known placed (omega arith))
  place_all (suc l) {done} placed e = elim (next_is ps (λ x. holds x done) m) [
    | lowest small is low ↦ place_all l (place_next placed (λ x. refl) small is low) (omega (arith, length-append done (next_ready m ps (λ x. holds x done) ∷ [])))
    | none_ready _ none_left ↦ inl (from none_left (first_or (λ y. not (holds y done)) (span m)))
  ]
    where
      from : ((y : ℕ) → y < m → ¬ Ready ps (λ x. holds x done) y) → First (λ y. not (holds y done)) (span m) ⊎ ((y : ℕ) → In y (span m) → not (holds y done) ≡ false) → Round ps
      from none_left (inl (first us y vs e fresh before)) =
          go_back (λ x. holds x done) none_left m [] y (omega arith)
          (record {
            once = (in_nil, tt);
            small = λ v i. span_in m (subst (λ zs. In v zs) (sym e) (in_append_right us (in_append_left vs i)));
            leads = λ v i. absurd (in_nil i);
            fresh = not-true _ fresh;
          })
      from none_left (inr all) = absurd (omega (arith, once_le (span m) done (span_once m) (λ x i. holds_in x done (not-false _ (all x i))), span-length m))

pub rounds : (m : ℕ) (ps : List Pair) → known m ps ≡ true → (length (orders m ps) ≡ 0) ↔ Round ps
rounds m ps all_Known = (
  λ e. elim (place_all all_Known m (placed_none m ps) (omega arith)) [ inl r ↦ r | inr o ↦ absurd ((none m ps).0 e o.0 o.1) ],
  λ r. (none m ps).1 (λ xs t. never_round m ps t r),
)

-- computed
example : (first_order 3 (pair 2 0 ∷ []) ≡ 1 ∷ 2 ∷ 0 ∷ []) × (orders 3 (pair 1 1 ∷ []) ≡ [])
unfolding orders first_order
example = (refl, refl)

pub ordered : Ordered
ordered =
    record {
      members = members;
      first = first_order_lem;
      none = none;
      same-orders = same-orders;
      rounds = rounds;
      example = example.0;
      own_round = example.1;
    }

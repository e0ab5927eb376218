-- Calls on words, down to the bytes: tests, rotations, roots, counts; ranks and words of an index undo each other.
use mathlib.Core.Path.{◌≡◌, sym, ◌∙◌, ap, ap₂, subst}
use mathlib.Core.Bool.{true, false, false≢true}
use mathlib.Core.List.{List, ◌∷◌, ◌++◌}
use mathlib.Core.Logic.{◌⊎◌, inl, inr, ◌↔◌}
use Prim.Native.Nat.{ℕ, ◌*◌, ◌^◌, ◌≤◌, ◌<◌}
use native.Mathlib.Omega.{arith}
use lib.IntN.{pos}
use lib.ListN.{length, take}
use lib.Seq.{take_at}
use Rattle.theory.specs.Words.{pick, below, up_to, turned, is_lyndon, smallest, least_turn, repeated, power_to, all_words, lyndons, how_many, rank, word_of, marks_ok}
use Rattle.theory.specs.Sums.{rank_term}
use Rattle.theory.specs.Floors.{necklace_up_to}
use Rattle.theory.specs.Strips.{admitted}
use Rattle.theory.specs.Plans.{be}
use Rattle.theory.proofs.AllWords.{all_count}
use Rattle.theory.proofs.Counts.{keep-length}
use Rattle.theory.proofs.Necklaces.{smallest-length}
use Rattle.theory.proofs.Ranks.{undone}
use Rattle.theory.proofs.Turns.{word_laws}
use Rattle.theory.proofs.Base.{test}
use Rattle.shape.proofs.Limits.{admitted_limits}
use Rattle.buffers.specs.Buffers.{over}
use Rattle.numbers.specs.Numbers.{put_be}
use Rattle.calls.specs.Refusals.{the_word_fault, index_fault}
use Rattle.words.specs.Says.{LyndonSays, RotationSays, TurnSays, RootSays}
use Rattle.ranking.specs.Says.{ManySays, RankSays, WordSays}
use Rattle.sheets.specs.Worksheets.{sheet_line, worksheet}
use Rattle.sheets.proofs.Inputs.{fine_sheet}
use Rattle.sheets.proofs.Sheets.{sheets}
use Rattle.demands.specs.Demands.{TurnTold}
use Rattle.demands.proofs.Faults.{strip_faultless, word_faultless, index_faultless}
use Rattle.demands.proofs.Trays.{into_fine, number_fine, tray_back, small, value_fine, beside_fine}
use Rattle.calls.specs.declared.refusal.Refusal.{Refusal}
use Rattle.calls.specs.Codes.{number_of, value_of}
use Rattle.std.specs.Prelude.{Result}

many_small : (k n : ℕ) → how_many k n ≤ k ^ n
many_small k n = omega (arith, keep-length is_lyndon (all_words k n), all_count k n)

rank_small : (k : ℕ) (w : List ℕ) → rank k w ≤ how_many k (length w)
rank_small k w = keep-length (λ u. up_to u w) (lyndons k (length w))

-- a word of n marks on an admitted strip
module _ (k n : ℕ) (w : List ℕ) (a : admitted k n ≡ true) (e : length w ≡ n) (m : marks_ok k w ≡ true) where
  fine : the_word_fault k n w ≡ 0
  fine = word_faultless k n w a e m

  pub lyndon : (r : Result ℕ Refusal) → LyndonSays k n w r
      → (number_of r ≡ 0) × (value_of r ≤ 1) × ((value_of r ≡ 1) ↔ ((i : ℕ) → 1 ≤ i → i < n → below w (turned i w) ≡ true))
  lyndon r f = let (number, value) = value_fine r fine f in told number value (test (is_lyndon w))
    where
      told : number_of r ≡ 0 → value_of r ≡ pick (is_lyndon w) 1 0 → (is_lyndon w ≡ true) ⊎ (is_lyndon w ≡ false)
          → (number_of r ≡ 0) × (value_of r ≤ 1) × ((value_of r ≡ 1) ↔ ((i : ℕ) → 1 ≤ i → i < n → below w (turned i w) ≡ true))
      told number value (inl t) =
          let one : value_of r ≡ 1 = value ∙ ap (λ b. pick {A = ℕ} b 1 0) t in
          (number, omega arith, (λ _ i x y. ((word_laws.lyndon_turns w).0 t).1 i x (omega arith), λ _. one))
      told number value (inr t) =
          let none : value_of r ≡ 0 = value ∙ ap (λ b. pick {A = ℕ} b 1 0) t in
          (number, omega arith, (λ one. absurd (omega arith), λ g. absurd (false≢true (sym t ∙ (word_laws.lyndon_turns w).1 (omega (arith, (admitted_limits k n a).some), λ i x y. g i x (omega arith))))))

  -- the least turn is the one to tell
  told_turn : TurnTold w (least_turn w)
  told_turn =
      let some : 1 ≤ length w = omega (arith, e, (admitted_limits k n a).some) in
      let turns = word_laws.turns in
      record {
        inside = omega (arith, turns.within_root w some, (word_laws.root_some w some).1);
        lowest = λ i. ap (λ u. up_to u (turned i w)) (turns.reaches w) ∙ word_laws.smallest_least w i;
        first = λ j h is. omega (arith, turns.least w j (is ∙ turns.reaches w));
      }

  pub rotation : (t t' : List ℕ) (r : Result ℕ Refusal) → n ≤ length t → RotationSays k n w t t' r
      → (number_of r ≡ 0) × (t' ≡ over (turned (value_of r) w) t) × TurnTold w (value_of r)
  rotation t t' r x f =
      let (number, value, is) = beside_fine (the_word_fault k n w) (least_turn w) (smallest w) t r fine (omega (arith, smallest-length w)) f in
      let by : smallest w ≡ turned (value_of r) w = sym (ap (λ i. turned i w) value ∙ word_laws.turns.reaches w) in
      (number, is ∙ ap (λ u. over u t) by, subst (TurnTold w) (sym value) told_turn)

  pub turn : (t t' : List ℕ) (r : ℕ) → 8 ≤ length t → TurnSays k n w t t' r → (r ≡ 0) × TurnTold w (be 0 8 t')
  turn t t' r x f =
      let found = number_fine (the_word_fault k n w) (least_turn w) t fine x f in
      let short : least_turn w < 2 ^ 64 = omega (arith, told_turn.inside, e, (admitted_limits k n a).short) in
      (found.0, subst (TurnTold w) (sym (tray_back (least_turn w) t short found.1)) told_turn)

  pub root_told : (r : Result ℕ Refusal) → RootSays k n w r
      → (number_of r ≡ 0) × (1 ≤ value_of r) × (power_to n (take (value_of r) w) ≡ w) × ((u : List ℕ) (d : ℕ) → w ≡ repeated d u → value_of r ≤ length u)
  root_told r f =
      let (number, value) = value_fine r fine f in
      let some : 1 ≤ length w = omega (arith, e, (admitted_limits k n a).some) in (
        number,
        omega (arith, value, (word_laws.root_some w some).0),
        ap₂ (λ m d. power_to m (take d w)) (sym e) value ∙ word_laws.root_repeats w some,
        λ u d h. omega (arith, value, word_laws.root_least w u d some h),
      )

  pub ranked : (t t' : List ℕ) (r : ℕ) → 8 ≤ length t → RankSays k n w t t' r → (r ≡ 0) × (t' ≡ over (put_be 8 (rank k w)) t) × (be 0 8 t' ≡ rank k w)
  ranked t t' r x f =
      let found = number_fine (the_word_fault k n w) (rank k w) t fine x f in
      let most : rank k w ≤ how_many k n = subst (λ i. rank k w ≤ how_many k i) e (rank_small k w) in
      (found.0, found.1, tray_back (rank k w) t (small k n a (omega (arith, most, many_small k n))) found.1)

  pub sheet_ranked : (t t' : List ℕ) (r : ℕ) → 8 ≤ length t → RankSays k n w t t' r
      → (x : List ℕ) × (worksheet (k ∷ n ∷ w) ≡ x ++ sheet_line 1 (rank_term k (necklace_up_to k w) 1) (pos (n * be 0 8 t')))
  sheet_ranked t t' r x f =
      let (front, is) = sheets.last_line k w m (omega (arith, e, (admitted_limits k n a).some)) in
      let (_, _, told) = ranked t t' r x f in
      (front, fine_sheet (k ∷ n ∷ w) fine ∙ is ∙ ap₂ (λ l v. front ++ sheet_line 1 (rank_term k (necklace_up_to k w) 1) (pos (l * v))) e (sym told))

pub count : (k n : ℕ) (r : Result ℕ Refusal) → admitted k n ≡ true → ManySays k n r → (number_of r ≡ 0) × (value_of r ≡ how_many k n)
count k n r a f = value_fine r (strip_faultless k n a) f

word_written : (k n i : ℕ) (t t' : List ℕ) (r : ℕ) → admitted k n ≡ true → 1 ≤ i → i ≤ how_many k n → n ≤ length t → WordSays k n i t t' r
    → (r ≡ 0) × (t' ≡ over (word_of k n i) t)
word_written k n i t t' r a b c x f =
    let (long, _, _) = undone.index_word k n i b c in
    into_fine (index_fault k n i) (word_of k n i) t (index_faultless k n i a b c) (omega (arith, long)) f

pub unranked : (k n i : ℕ) (t t' : List ℕ) (r : ℕ) → admitted k n ≡ true → 1 ≤ i → i ≤ how_many k n → n ≤ length t → WordSays k n i t t' r
    → (r ≡ 0) × (take n t' ≡ word_of k n i) × (is_lyndon (take n t') ≡ true)
unranked k n i t t' r a b c x f =
    let (long, _, lyndon-word) = undone.index_word k n i b c in
    let (number, over-it) = word_written k n i t t' r a b c x f in
    let is : take n t' ≡ word_of k n i = ap (take n) over-it ∙ take_at (word_of k n i) _ n long in
    (number, is, ap is_lyndon is ∙ lyndon-word)

pub word_back : (k n : ℕ) (w t t' u u' : List ℕ) (r q : ℕ) → admitted k n ≡ true → length w ≡ n → marks_ok k w ≡ true → is_lyndon w ≡ true
    → 8 ≤ length t → n ≤ length u → RankSays k n w t t' r → WordSays k n (be 0 8 t') u u' q → (r ≡ 0) × (q ≡ 0) × (u' ≡ over w u)
word_back k n w t t' u u' r q a e m l x y f g =
    let (fine, _, told) = ranked k n w a e m t t' r x f in
    let (one, most) = undone.rank_range k w m l in
    let most' : rank k w ≤ how_many k n = subst (λ i. rank k w ≤ how_many k i) e most in
    let word : word_of k n (rank k w) ≡ w = ap (λ i. word_of k i (rank k w)) (sym e) ∙ undone.of_word k w m l in
    let found = word_written k n (rank k w) u u' q a one most' y (subst (λ i. WordSays k n i u u' q) told g) in
    (fine, found.0, found.1 ∙ ap (λ x. over x u) word)

pub rank-back : (k n i : ℕ) (t t' u u' : List ℕ) (r q : ℕ) → admitted k n ≡ true → 1 ≤ i → i ≤ how_many k n
    → n ≤ length t → 8 ≤ length u → WordSays k n i t t' r → RankSays k n (take n t') u u' q → (r ≡ 0) × (q ≡ 0) × (be 0 8 u' ≡ i)
rank-back k n i t t' u u' r q a b c x y f g =
    let (e, m, _) = undone.index_word k n i b c in
    let (number, word, _) = unranked k n i t t' r a b c x f in
    let (fine, _, told) = ranked k n (word_of k n i) a e m u u' q y (subst (λ w. RankSays k n w u u' q) word g) in
    (number, fine, told ∙ undone.of_index k n i b c)

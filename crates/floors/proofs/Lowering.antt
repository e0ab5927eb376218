-- The largest necklace below a word, looked for from the last letter on: the letter lowered, the largest letter after it.
use mathlib.Core.Path.{◌≡◌, sym, ◌∙◌, ap, ap₂, subst}
use mathlib.Core.Bool.{true, false, ◌&&◌, false≢true}
use mathlib.Core.List.{List, [], ◌∷◌, ◌++◌}
use mathlib.Core.Logic.{inl, inr}
use Prim.Native.Nat.{ℕ, suc, ◌-◌, ◌≤◌, ◌<◌}
use native.Mathlib.Omega.{arith}
use lib.Dec.{ltb}
use lib.ListN.{length, get_or, set, take, replicate, length-replicate}
use lib.Seq.{set-set}
use borrow.Author.Tests.{lt-ltb, le-ltb}
use Rattle.theory.specs.Words.{pick, below}
use Rattle.theory.specs.Floors.{is_necklace, necklace_up_to, necklace_below, lowered_at, floor_from}
use Rattle.theory.proofs.Base.{and_in, and_false, nil_of}
use Rattle.theory.proofs.Order.{le_cases, lt_below, below_lt, lt_irrefl}
use Rattle.theory.proofs.Letters.{marks-replicate}
use Rattle.theory.proofs.Floors.{Passes, last_passes, is_necklace_lem, zeros_necklace, zeros_le, below-rule, floor_rule}
use Rattle.lyndon.specs.Letters.{Lettered}
use Rattle.floors.specs.Lowering.{Lowerable}
use Rattle.buffers.proofs.Fills.{Filled, filled_none, filled-read, filled_write, filled_more}

-- the letters from i on were tried in vain, and are k−1 now
pub record Lowering (k : ℕ) (w₀ w : List ℕ) (i : ℕ) : Type 0 where
  pub filled : Filled (k - 1) w₀ w i
  pub below_is : necklace_below k w₀ ≡ floor_from k w₀ i

pub lowering_none : {k : ℕ} {w : List ℕ} → Lettered k w → Lowering k w w (length w)
lowering_none {k} {w} ok = record { filled = filled_none (k - 1) w; below_is = below-rule k w ok.marks }

-- one step of the rule
floor_found : (k : ℕ) (w : List ℕ) (i : ℕ) → 0 < get_or w i 0 → is_necklace (lowered_at k w i) ≡ true → floor_from k w (suc i) ≡ lowered_at k w i
floor_found k w i l t = rw (and_in (lt-ltb 0 (get_or w i 0) l) t, floor_from)

floor_on : (k : ℕ) (w : List ℕ) (i : ℕ) → (ltb 0 (get_or w i 0) && is_necklace (lowered_at k w i)) ≡ false → floor_from k w (suc i) ≡ floor_from k w i
floor_on k w i t = rw (t, floor_from)

module _ {k : ℕ} {w₀ w : List ℕ} {i : ℕ} (f : Lowering k w₀ w i) (some : 0 < i) where
  i_is : i ≡ suc (i - 1)
  i_is = omega arith

  read : get_or w (i - 1) 0 ≡ get_or w₀ (i - 1) 0
  read = filled-read f.filled some

  pub lowering_word : set w (i - 1) (get_or w (i - 1) 0 - 1) ≡ lowered_at k w₀ (i - 1)
  lowering_word = filled_write f.filled some (get_or w (i - 1) 0 - 1) ∙ ap₂ (λ a m. take (i - 1) w₀ ++ ((a - 1) ∷ replicate (length w₀ - m) (k - 1))) read i_is

  pub lowering_done : 0 < get_or w (i - 1) 0 → is_necklace (set w (i - 1) (get_or w (i - 1) 0 - 1)) ≡ true → set w (i - 1) (get_or w (i - 1) 0 - 1) ≡ necklace_below k w₀
  lowering_done l t = lowering_word ∙ sym (floor_found k w₀ (i - 1) (omega (arith, read)) (ap is_necklace (sym lowering_word) ∙ t)) ∙ ap (floor_from k w₀) (sym i_is) ∙ sym f.below_is

  -- the letter k−1 over whatever was tried at that place
  more_by : {u : List ℕ} → u ≡ set w (i - 1) (k - 1) → (ltb 0 (get_or w₀ (i - 1) 0) && is_necklace (lowered_at k w₀ (i - 1))) ≡ false → Lowering k w₀ u (i - 1)
  more_by e t = subst (λ u. Lowering k w₀ u (i - 1)) (sym e) (record { filled = filled_more f.filled some; below_is = f.below_is ∙ ap (floor_from k w₀) i_is ∙ floor_on k w₀ (i - 1) t })

  -- a letter 0 cannot be lowered
  pub lowering_zero : {v : List ℕ} → v ≡ w → get_or w (i - 1) 0 ≤ 0 → Lowering k w₀ (set v (i - 1) (k - 1)) (i - 1)
  lowering_zero {v} e l = more_by (ap (λ u. set u (i - 1) (k - 1)) e) (rw (le-ltb 0 (get_or w₀ (i - 1) 0) (omega (arith, read))))

  -- another one was lowered, and no necklace came out
  pub lowering_more : {v : List ℕ} → v ≡ set w (i - 1) (get_or w (i - 1) 0 - 1) → is_necklace (set w (i - 1) (get_or w (i - 1) 0 - 1)) ≡ false → Lowering k w₀ (set v (i - 1) (k - 1)) (i - 1)
  lowering_more {v} e t = more_by (ap (λ u. set u (i - 1) (k - 1)) e ∙ set-set w (i - 1) (get_or w (i - 1) 0 - 1) (k - 1)) (and_false (ltb 0 (get_or w₀ (i - 1) 0)) (is_necklace (lowered_at k w₀ (i - 1))) (ap is_necklace (sym lowering_word) ∙ t))

-- the word of zeros is a necklace, so one is found
pub lowering_all : {k : ℕ} {w₀ w : List ℕ} {i : ℕ} → Lowerable k w₀ → Lowering k w₀ w i → i ≤ 0 → ⊥
lowering_all {k} {w₀} {w} {i} ok f none = lt_irrefl (below_lt [] [] (subst (λ r. below (replicate (length r) 0) r ≡ true) empty-word ok.above))
  where
    i_is : i ≡ 0
    i_is = omega arith

    nothing : necklace_below k w₀ ≡ []
    nothing = f.below_is ∙ ap (floor_from k w₀) i_is

    zeros : Passes (λ u. below u w₀) k w₀ (replicate (length w₀) 0)
    zeros = record { long = length-replicate (length w₀) 0; marks = marks-replicate k (length w₀) 0 (omega (arith, ok.lettered.some)); necklace = zeros_necklace (length w₀); pass = ok.above }

    empty-word : w₀ ≡ []
    empty-word = nil_of w₀ (sym (last_passes (λ u. below u w₀) k w₀ zeros).long ∙ ap length nothing)

-- a word that is no necklace is not the word of zeros, and so above it
pub not_necklace_lowerable : {k : ℕ} {w : List ℕ} → Lettered k w → is_necklace w ≡ false → Lowerable k w
not_necklace_lowerable {k} {w} ok t = record { lettered = ok; above = elim (le_cases (zeros_le w)) [ inl l ↦ lt_below l | inr e ↦ absurd (false≢true (sym t ∙ ap is_necklace (sym e) ∙ is_necklace_lem (zeros_necklace (length w)))) ] }

-- the largest necklace not above a word: the word itself, or one below it
pub floor_picked : (k : ℕ) (w : List ℕ) → Lettered k w → necklace_up_to k w ≡ pick (is_necklace w) w (necklace_below k w)
floor_picked k w ok = floor_rule k w ok.marks ∙ ap (pick (is_necklace w) w) (sym (below-rule k w ok.marks))

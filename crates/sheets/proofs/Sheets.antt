-- What is proved of worksheets: the lowered word's sheet, the last line, examples by computation.
use mathlib.Core.Path.{◌≡◌, refl, sym, ◌∙◌, ap, ap₂}
use mathlib.Core.Bool.{true}
use mathlib.Core.List.{List, [], ◌∷◌, ◌++◌}
use Prim.Native.Nat.{ℕ, ◌-◌, ◌*◌, ◌≤◌}
use lib.IntN.{pos}
use lib.ListN.{length}
use Rattle.theory.specs.Words.{pick, rank, marks_ok}
use Rattle.theory.specs.Sums.{running, divisors_in, divisors_down, rank_term}
use Rattle.theory.specs.Floors.{necklace_up_to, floor_from}
use Rattle.theory.proofs.Order.{eq_same}
use Rattle.theory.proofs.Floors.{floor_is, floor_rule}
use Rattle.theory.proofs.Downwards.{one_last, worksheet-total}
use Rattle.sheets.specs.Worksheets.{sheet_line, sheet_from, sheet, Sheets}
use Rattle.sheets.proofs.Rows.{from_last}

lowered : (k : ℕ) (w : List ℕ) → marks_ok k w ≡ true → sheet k (necklace_up_to k w) ≡ sheet k w
lowered k w m =
    let v = necklace_up_to k w in
    let r = floor_is k w m in
    let own : necklace_up_to k v ≡ v = floor_rule k v r.1 ∙ ap (λ b. pick b v (floor_from k v (length v))) (eq_same r.2) in
    ap₂ (λ u n. sheet_from (rank_term k u) (pos 0) (divisors_down n)) own r.0

last_line : (k : ℕ) (w : List ℕ) → marks_ok k w ≡ true → 1 ≤ length w
    → (x : List ℕ) × (sheet k w ≡ x ++ sheet_line 1 (rank_term k (necklace_up_to k w) 1) (pos (length w * rank k w)))
last_line k w m s =
    let n = length w in
    let f = rank_term k (necklace_up_to k w) in
    let ds = divisors_in n (n - 1) in
    let down = one_last n s in
    let sum : running f (pos 0) (ds ++ (1 ∷ [])) ≡ pos (n * rank k w) = ap (running f (pos 0)) (sym down) ∙ worksheet-total k w m s in
    (sheet_from f (pos 0) ds, ap (sheet_from f (pos 0)) down ∙ from_last f (pos 0) ds 1 ∙ ap (λ z. sheet_from f (pos 0) ds ++ sheet_line 1 (f 1) z) sum)

pub sheets : Sheets
sheets =
    record {
      lowered = lowered;
      last_line = last_line;
      zeros = refl;
      example_10 = (refl, refl);
      no_term = refl;
      refused = (refl, refl, refl, refl, refl);
    }

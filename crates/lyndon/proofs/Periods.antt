-- A word that goes on as it began, d letters later, extends its first d letters; it is a power of them if d divides its length.
use mathlib.Core.Path.{◌≡◌, sym, ◌∙◌, ap}
use mathlib.Core.List.{List, ◌++◌, append_assoc, append-nil}
use Prim.Native.Nat.{ℕ, suc, ◌+◌, ◌-◌, ◌*◌, ◌%◌, ◌<◌}
use native.Mathlib.Omega.{arith}
use native.Mathlib.Nat.{mul-add-mod_self_right, mod-eq_of_lt}
use lib.ListN.{length, take, drop, length-append, take-append-drop}
use Rattle.theory.specs.Words.{repeated}
use Rattle.theory.proofs.Base.{nil_of}
use Rattle.theory.proofs.Order.{prefix}
use Rattle.theory.proofs.Powers.{repeated-length, Extends, extends, Periods, periods, extends_periods}

pub period_extends : (d : ℕ) (w : List ℕ) → drop d w ≡ take (length w - d) w → Extends (take d w) w
period_extends d w e = extends (prefix (drop (length w - d) w) joined)
  where
    joined : take d w ++ w ≡ w ++ drop (length w - d) w
    joined =
        ap (λ r. take d w ++ r) (sym (take-append-drop (length w - d) w) ∙ ap (λ r. r ++ drop (length w - d) w) (sym e))
        ∙ sym (append_assoc (take d w) (drop d w) (drop (length w - d) w)) ∙ ap (λ r. r ++ drop (length w - d) w) (take-append-drop d w)

-- whole periods only
pub data PowersOf (x w : List ℕ) : Type 0 where
  powers : (q : ℕ) → w ≡ repeated q x → PowersOf x w

pub whole_powers : {x w : List ℕ} → 0 < length x → Extends x w → length w % length x ≡ 0 → PowersOf x w
whole_powers {x} {w} h e d = at (extends_periods (suc (length w)) (omega arith) h e)
  where
    at : Periods x w → PowersOf x w
    at (periods q s y f g i) =
        let n : length w ≡ q * length x + length s = ap length f ∙ length-append (repeated q x) s ∙ ap (λ r. r + length s) (repeated-length q x) in
        let small : length s < length x = omega (arith, ap length g, length-append s y) in
        let m : length s ≡ 0 = sym (mod-eq_of_lt small) ∙ sym (mul-add-mod_self_right q (length x) (length s)) ∙ ap (λ r. r % length x) (sym n) ∙ d in
        powers q (f ∙ ap (λ r. repeated q x ++ r) (nil_of s m) ∙ append-nil (repeated q x))

-- One change: the window so changed is a word of the strip, and what is written of it if it is laid, and if it is not.
use mathlib.Core.Path.{◌≡◌, refl, sym, ◌∙◌, ap, ap₂}
use mathlib.Core.Bool.{true, false}
use mathlib.Core.List.{List, [], ◌∷◌}
use Prim.Native.Nat.{ℕ, ◌-◌, ◌^◌, ◌≤◌, ◌<◌}
use native.Mathlib.Omega.{arith}
use lib.ListN.{length, set, take, drop}
use borrow.Rule.Slice.PartMut.{put_mid}
use Rattle.theory.specs.Strips.{place_of}
use Rattle.theory.specs.Plans.{laying_at, laid_at}
use Rattle.theory.specs.Substitutions.{change, changed, new_place}
use Rattle.theory.proofs.Letters.{marks-set}
use Rattle.theory.proofs.Laying.{some_laid, none_laid}
use Rattle.theory.proofs.Substitutions.{changed-length}
use Rattle.buffers.specs.Buffers.{over}
use Rattle.buffers.proofs.Bytes.{handed_on}
use Rattle.numbers.specs.Numbers.{put_be}
use Rattle.shape.specs.declared.Strip as DS
use Rattle.shape.specs.Shapes.{WordOn}
use Rattle.plans.specs.Accepted.{Accepted}
use Rattle.locator.proofs.Locates.{place_small}
use Rattle.substitutions.specs.Entries.{Wrote}

-- two bytes at the start of a buffer, and bytes behind them
two_set : (j a : ℕ) (t : List ℕ) → 2 ≤ length t → set (set t 0 j) 1 a ≡ j ∷ a ∷ drop 2 t
two_set j a [] h = absurd (omega arith)
two_set j a (x ∷ []) h = absurd (omega arith)
two_set j a (x ∷ y ∷ t) h = refl

pub two_bytes : (j a : ℕ) (b t L : List ℕ) → 2 ≤ length t
    → let T = set (set t 0 j) 1 a in L ≡ over b (take (length T - 2) (drop 2 T)) → put_mid 2 (length T - 2) T L ≡ over (j ∷ a ∷ b) t
two_bytes j a b t L h e = handed_on (j ∷ a ∷ []) b t (set (set t 0 j) 1 a) L 2 refl (two_set j a t h) e h

module _ {s : List ℕ} {x : DS.Strip} (plan : Accepted s x) {w : List ℕ} (word : WordOn x w) (j : ℕ) {a : ℕ} (small : a < x.k) where
  pub changed_on_strip : WordOn x (changed (change j a) w)
  changed_on_strip = record { long = changed-length w (change j a) ∙ word.long; marks = marks-set x.k w j a small word.marks }

  pub new_place_small : place_of x.k x.n (changed (change j a) w) < 2 ^ 60
  new_place_small = place_small changed_on_strip

  -- the place p of the window so changed
  module _ {p : ℕ} (place : p ≡ place_of x.k x.n (changed (change j a) w)) where
    place_is : p ≡ new_place s w (change j a)
    place_is = place ∙ ap₂ (λ k n. place_of k n (changed (change j a) w)) plan.letters plan.marked

    pub wrote_not : (t : List ℕ) → laying_at s p ≡ 0 → Wrote s w (change j a ∷ []) t t 0
    wrote_not t z =
        let not_laid : laid_at s (new_place s w (change j a)) ≡ false = ap (laid_at s) (sym place_is) ∙ none_laid s p z in
        record { count = rw not_laid; bytes = rw not_laid }

    pub wrote_one : (t : List ℕ) {t' : List ℕ} → ¬ (laying_at s p ≡ 0) → t' ≡ over (j ∷ a ∷ put_be 8 p) t → Wrote s w (change j a ∷ []) t t' 1
    wrote_one t some e =
        let laid : laid_at s (new_place s w (change j a)) ≡ true = ap (laid_at s) (sym place_is) ∙ some_laid s p some in
        record { count = rw laid; bytes = rw laid (e ∙ ap (λ q. over (j ∷ a ∷ put_be 8 q) t) place_is) }

-- Lines of four fields from what was added, and the line of the strip.
use mathlib.Core.Path.{◌≡◌, ◌∙◌, ap}
use mathlib.Core.List.{List, [], ◌∷◌, ◌++◌, append_assoc}
use Prim.Native.Nat.{ℕ, ◌^◌, ◌<◌}
use native.Mathlib.Omega.{arith}
use Rattle.shape.specs.declared.Strip as DS
use Rattle.shape.proofs.Limits.{limits}
use Rattle.texts.specs.Texts.{decimal, fields}
use Rattle.listing.specs.Listings.{strip_text, strip_line}

-- four fields, with the last byte added on its own or not
four : (x y z w : List ℕ) → (((x ++ (32 ∷ [])) ++ (y ++ (32 ∷ []))) ++ (z ++ (32 ∷ []))) ++ (w ++ (10 ∷ [])) ≡ fields x (y ∷ z ∷ w ∷ [])
four x y z w = simp append_assoc

pub four_apart : (x y z w : List ℕ) → ((((x ++ (32 ∷ [])) ++ (y ++ (32 ∷ []))) ++ (z ++ (32 ∷ []))) ++ w) ++ (10 ∷ []) ≡ fields x (y ∷ z ∷ w ∷ [])
four_apart x y z w = simp append_assoc

-- the numbers of a strip, and its line from what was added
module _ (s : DS.Strip) where
  pub strip_fits : (s.k < 2 ^ 64) × (s.n < 2 ^ 64) × (s.size < 2 ^ 64)
  strip_fits = let l = limits s in (omega (arith, l.most), omega (arith, l.short), omega (arith, l.range, s.whole))

  pub strip_text_lem : (((strip_text ++ (32 ∷ [])) ++ (decimal s.k ++ (32 ∷ []))) ++ (decimal s.n ++ (32 ∷ []))) ++ (decimal s.size ++ (10 ∷ [])) ≡ strip_line s.k s.n
  strip_text_lem = four strip_text (decimal s.k) (decimal s.n) (decimal s.size) ∙ ap (λ v. fields strip_text (decimal s.k ∷ decimal s.n ∷ decimal v ∷ [])) s.whole

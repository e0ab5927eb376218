-- Entries: where one ends, and what is read from it.
use mathlib.Core.Path.{◌≡◌, sym, ◌∙◌, ap}
use mathlib.Core.Bool.{false}
use mathlib.Core.List.{List}
use Prim.Native.Nat.{ℕ, suc, ◌+◌, ◌-◌, ◌*◌, ◌≤◌, ◌<◌}
use native.Mathlib.Omega.{arith}
use native.Mathlib.Nat.{mul-le-mul_left, mul-suc}
use lib.ListN.{length}
use Rattle.theory.specs.Plans.{be, section_count, entry_size, sections, torn, nth_s}
use Rattle.theory.proofs.Records.{old, new, size_of_lem, whole, entry}

-- an entry of e bytes at a byte: it ends by the plan's end, and has a rail if it has more than a pair
pub record Entry (s : List ℕ) (at e : ℕ) : Type 0 where
  pub ends : at + e ≤ length s
  pub pair : 16 ≤ e
  pub railed : ¬ (e ≡ 16) → e ≡ 18

-- section i; e is the size of an entry
module _ (s : List ℕ) (i : ℕ) {e : ℕ} (inside : i < section_count s) (size : e ≡ entry_size s) where
  pub entry_inside : torn s ≡ false → Entry s (4 + e * i) e
  entry_inside good =
      let ends : e * suc i ≤ e * section_count s = mul-le-mul_left e inside in
      let total = (whole s good).long ∙ ap (λ m. 4 + m * section_count s) (sym size) in
      record {
        ends = omega (arith, ends, mul-suc e i, total);
        pair = elim (size_of_lem s) [ old _ z ↦ omega arith | new _ z ↦ omega arith ];
        railed = λ more. elim (size_of_lem s) [ old _ z ↦ absurd (more (size ∙ z)) | new _ z ↦ size ∙ z ];
      }

  -- the bytes of the rail are what an entry has behind the pair: none or two
  pub section_read : {m o l r : ℕ} → e ≡ m → o ≡ be (4 + e * i) 8 s → l ≡ be (4 + e * i + 8) 8 s → r ≡ be (4 + e * i + 16) (m - 16) s
      → record { offset = o; long = l; rail = r } ≡ nth_s (sections s) i
  section_read z f g h =
      let (offset, long, rail) = entry s i inside in
      rw ((rw size at f) ∙ sym offset, (rw size at g) ∙ sym long, (rw (sym z ∙ size, size) at h) ∙ sym rail)

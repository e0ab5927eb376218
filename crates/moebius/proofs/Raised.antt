-- The table of the powers of k: the first d of its entries are the powers, and the others are 0.
use mathlib.Core.Path.{◌≡◌, refl, sym, ◌∙◌, ap}
use mathlib.Core.List.{List, ◌∷◌}
use Prim.Native.Nat.{ℕ, zero, suc, ◌-◌, ◌*◌, ◌^◌, ◌≤◌, ◌<◌}
use native.Mathlib.Omega.{arith}
use native.Mathlib.Nat.{pow-le-pow_right, pow-suc, pow-zero}
use lib.ListN.{length, get_or, replicate}

pub record Raised (k d : ℕ) (t : List ℕ) : Type 0 where
  pub size : length t ≡ 61
  pub entry : (e : ℕ) → e < d → get_or t e 0 ≡ k ^ e
  pub rest : (e : ℕ) → d ≤ e → get_or t e 0 ≡ 0

abbrev zeroed : ℕ → List ℕ
zeroed m = replicate m 0

zeros : (m e : ℕ) → get_or (zeroed m) e 0 ≡ 0
zeros zero e = refl
zeros (suc m) zero = refl
zeros (suc m) (suc e) = zeros m e

pub raised-one : (k : ℕ) → Raised k 1 (1 ∷ zeroed 60)
raised-one k = record { size = refl; entry = first; rest = others }
  where
    first : (e : ℕ) → e < 1 → get_or {A = ℕ} (1 ∷ zeroed 60) e 0 ≡ k ^ e
    first zero h = sym (pow-zero k)
    first (suc e) h = absurd (omega arith)

    others : (e : ℕ) → 1 ≤ e → get_or {A = ℕ} (1 ∷ zeroed 60) e 0 ≡ 0
    others zero h = absurd (omega arith)
    others (suc e) h = zeros 60 e

-- the next power, which is in range as the largest is
pub next_small : {k d n : ℕ} {t : List ℕ} → Raised k d t → 1 ≤ d → d ≤ n → 1 ≤ k → k ^ n ≤ 2 ^ 60 → get_or t (d - 1) 0 * k ≤ 2 ^ 60
next_small {k} {d} {n} {t} r h l s m =
    let e : suc (d - 1) ≡ d = omega arith in
    let next : get_or t (d - 1) 0 * k ≡ k ^ d = ap (λ x. x * k) (r.entry (d - 1) (omega arith)) ∙ sym (pow-suc k (d - 1)) ∙ ap (λ x. k ^ x) e in
    omega (arith, next, pow-le-pow_right s l)

-- `shape::pow` squares the power with half the exponent, for odd n times k.
use mathlib.Core.Path.{◌≡◌, sym, ◌∙◌, ap, ap₂}
use Prim.Native.Nat.{ℕ, ◌*◌, ◌/◌, ◌%◌, ◌^◌}
use native.Mathlib.Omega.{arith}
use native.Mathlib.Nat.{mod-lt, zero-mul}
use Rattle.shape.proofs.Powers.{even_power, odd_power, square_fits, product_large, product_fits, past_half, past_square}
use Rattle.shape.proofs.+pow.Goals as goal

-- the square of the half is the power, for odd n times k
squared : (k n : ℕ) {v : ℕ} → v ≡ k ^ (n / 2) → n % 2 ≡ 0 → v * v ≡ k ^ n
squared k n h e = ap₂ ◌*◌ h h ∙ sym (even_power k n e)

odd_squared : (k n : ℕ) {v : ℕ} → v ≡ k ^ (n / 2) → ¬ (n % 2 ≡ 0) → v * v * k ≡ k ^ n
odd_squared k n h e = ap (λ x. x * k) (ap₂ ◌*◌ h h) ∙ sym (odd_power k n (omega (arith, mod-lt n {m = 2} (omega arith))))

pub returns-then-half-gt-ROOT : goal.returns-then-half-gt-ROOT
returns-then-half-gt-ROOT t c = let a = c.args in past_square a.k a.n (omega (arith, c.in_ok-half.ensures.0))

pub returns-then-n-eq0-2 : goal.returns-then-n-eq0-2
returns-then-n-eq0-2 t c =
    let a = c.args in
    let h = c.in_ok-half.ensures in
    (squared a.k a.n h.0 c.if-n-eq0-2.true, square_fits _ c.if-half-gt-ROOT.false)

pub returns-then-square-eq0 : goal.returns-then-square-eq0
returns-then-square-eq0 t c =
    let a = c.args in
    (sym (ap (λ x. x * a.k) c.if-square-eq0.true ∙ zero-mul a.k) ∙ odd_squared a.k a.n c.in_ok-half.ensures.0 c.if-n-eq0-2.false, omega arith)

pub returns-then-square-k : goal.returns-then-square-k
returns-then-square-k t c =
    let a = c.args in
    let e = odd_squared a.k a.n c.in_ok-half.ensures.0 c.if-n-eq0-2.false in
    omega (arith, e, product_large _ a.k (omega (arith, c.if-square-eq0.false)) c.if-square-k.true)

pub returns : goal.returns
returns t c =
    let a = c.args in
    (odd_squared a.k a.n c.in_ok-half.ensures.0 c.if-n-eq0-2.false, product_fits _ a.k (omega (arith, c.if-square-eq0.false)) c.if-square-k.false)

pub returns-in_err-half : goal.returns-in_err-half
returns-in_err-half t c = let a = c.args in rw c.from_residual.ensures (past_half a.k a.n c.in_err-half.ensures)

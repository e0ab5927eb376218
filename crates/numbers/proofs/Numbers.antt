-- Numbers in bytes, the highest first: a number written is the number read, one is read byte by byte or in two parts, and bytes make no larger number than
-- there are.
use mathlib.Core.Path.{◌≡◌, refl, sym, ◌∙◌, ap}
use mathlib.Core.Bool.{true}
use mathlib.Core.List.{List, [], ◌∷◌, ◌++◌}
use Prim.Native.Nat.{ℕ, zero, suc, ◌+◌, ◌*◌, ◌/◌, ◌%◌, ◌^◌, ◌≤◌, ◌<◌}
use native.Mathlib.Omega.{arith}
use native.Mathlib.Nat.{div-add-mod', div-lt_iff_lt-mul, pow-zero, pow-succ', add-zero, add-suc, mul_assoc, mul-le-mul_left, mul-le-mul_right, one-le-pow}
use lib.ListN.{length, get_or, take, drop, length-append, length-drop}
use lib.Seq.{take-suc, get_or-drop}
use Rattle.theory.specs.Words.{marks_ok}
use Rattle.theory.specs.Plans.{be_from, be}
use Rattle.theory.proofs.Letters.{marks-drop, marks_head, marks_tail}
use Rattle.numbers.specs.Numbers.{put_be}

pub put-length : (n v : ℕ) → length (put_be n v) ≡ n
put-length zero v = refl
put-length (suc n) v = length-append (put_be n (v / 256)) (v % 256 ∷ []) ∙ omega (arith, put-length n (v / 256))

be-append : (a : ℕ) (xs : List ℕ) (b : ℕ) → be_from a (xs ++ (b ∷ [])) ≡ 256 * be_from a xs + b
be-append a [] b = refl
be-append a (x ∷ xs) b = be-append (256 * a + x) xs b

-- a number below 256^n, written in n bytes and read again
pub put-read : (n v : ℕ) → v < 256 ^ n → be_from 0 (put_be n v) ≡ v
put-read zero v h = omega (arith, pow-zero 256)
put-read (suc n) v h =
    let q : v / 256 < 256 ^ n = (div-lt_iff_lt-mul {k = 256} {x = v} {y = 256 ^ n} (omega arith)).1 (omega (arith, pow-succ' 256 n)) in
    be-append 0 (put_be n (v / 256)) (v % 256) ∙ omega (arith, put-read n (v / 256) q, div-add-mod' v 256)

-- one byte more
pub be_next : (i n : ℕ) (s : List ℕ) → i + n < length s → be i (suc n) s ≡ 256 * be i n s + get_or s (i + n) 0
be_next i n s h =
    ap (be_from 0) (take-suc (drop i s) n 0 (omega (arith, length-drop i s))) ∙ be-append 0 (take n (drop i s)) (get_or (drop i s) n 0)
    ∙ ap (λ b. 256 * be i n s + b) (get_or-drop i s n 0)

-- the first byte alone
pub be_first : (i : ℕ) (s : List ℕ) → i < length s → be i 1 s ≡ get_or s i 0
be_first i s h = omega (arith, be_next i 0 s (omega arith), ap (λ j. get_or s j 0) (add-zero i))

-- the bytes behind the first m
pub be_join : (i m n : ℕ) (s : List ℕ) → i + m + n ≤ length s → be i (m + n) s ≡ 256 ^ n * be i m s + be (i + m) n s
be_join i m zero s h = omega (arith, ap (λ j. be i j s) (add-zero m))
be_join i m (suc n) s h =
    let p : 256 ^ suc n * be i m s ≡ 256 * (256 ^ n * be i m s) = ap (λ z. z * be i m s) (pow-succ' 256 n) ∙ mul_assoc 256 (256 ^ n) (be i m s) in
    let a = be_next i (m + n) s (omega arith) in
    let b = be_next (i + m) n s (omega arith) in
    let c : i + (m + n) ≡ i + m + n = omega arith in
    let d : get_or s (i + (m + n)) 0 ≡ get_or s (i + m + n) 0 = ap (λ j. get_or s j 0) c in
    ap (λ j. be i j s) (add-suc m n) ∙ omega (arith, a, b, d, p, be_join i m n s (omega arith))

-- n bytes make a number below 256^n, behind a number v one below (v + 1) * 256^n
from_small : (v n : ℕ) (bs : List ℕ) → marks_ok 256 bs ≡ true → be_from v (take n bs) < (v + 1) * 256 ^ n
from_small v zero bs ok = omega (arith, pow-zero 256)
from_small v (suc n) [] ok = omega (arith, mul-le-mul_left (v + 1) (one-le-pow (suc n) 256 (omega arith)))
from_small v (suc n) (b ∷ bs) ok =
    let more : 256 * v + b + 1 ≤ (v + 1) * 256 = omega (arith, marks_head 256 b bs ok) in
    let top : (v + 1) * 256 * 256 ^ n ≡ (v + 1) * 256 ^ suc n = mul_assoc (v + 1) 256 (256 ^ n) ∙ ap (λ x. (v + 1) * x) (sym (pow-succ' 256 n)) in
    omega (arith, from_small (256 * v + b) n bs (marks_tail 256 b bs ok), mul-le-mul_right (256 ^ n) more, top)

pub be_small : (i n : ℕ) (s : List ℕ) → marks_ok 256 s ≡ true → be i n s < 256 ^ n
be_small i n s ok = omega (arith, from_small 0 n (drop i s) (marks-drop 256 i s ok))

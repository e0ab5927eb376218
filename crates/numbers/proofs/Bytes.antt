-- The bytes of a number as the library's conversions have them, and as `put_be` and `be` do.
use mathlib.Core.Path.{◌≡◌, refl, sym, ◌∙◌, ap}
use mathlib.Core.List.{List, [], ◌∷◌, ◌++◌, append-nil}
use mathlib.Core.Logic.{inl, inr}
use Prim.Native.Nat.{ℕ, zero, suc, ◌+◌, ◌-◌, ◌/◌, ◌%◌, ◌^◌, ◌≤◌}
use native.Mathlib.Omega.{arith}
use native.Mathlib.Nat.{pow-succ', div-div-eq-div-mul}
use borrow.Rule.Slice.PartMut.{put_mid}
use lib.ListN.{length, take, drop, replicate, length-append, length-drop, length-replicate}
use lib.Seq.{length-take-le}
use Rattle.std.proofs.lemmas.Bool.{cases_lt}
use Rattle.std.proofs.lemmas.List.{drop-replicate, drop_all, take-replicate, take_all}
use Rattle.std.specs.Int.{w64, byte_at, bytes_high_first, from_be_bytes}
use Rattle.theory.specs.Plans.{be_from, be}
use Rattle.buffers.specs.Buffers.{over}
use Rattle.numbers.specs.Numbers.{put_be}
use Rattle.numbers.proofs.Numbers.{put-length}

byte_next : (n v : ℕ) → byte_at n (v / 256) ≡ byte_at (suc n) v
byte_next zero v = refl
byte_next (suc n) v = ap (λ x. x % 256) (div-div-eq-div-mul v 256 (256 ^ suc n) ∙ ap (λ x. v / x) (sym (pow-succ' 256 (suc n))))

put_first : (n v : ℕ) → put_be (suc n) v ≡ byte_at n v ∷ put_be n v
put_first zero v = refl
put_first (suc n) v = ap (λ s. s ++ (v % 256 ∷ [])) (put_first n (v / 256)) ∙ ap (λ b. b ∷ put_be (suc n) v) (byte_next n v)

-- the highest first, one by one
pub high_first : (n v : ℕ) → bytes_high_first n v ≡ put_be n v
high_first zero v = refl
high_first (suc n) v = ap (λ s. byte_at n v ∷ s) (high_first n v) ∙ sym (put_first n v)

drop_high : (k n v : ℕ) → n ≤ k → drop (k - n) (bytes_high_first k v) ≡ bytes_high_first n v
drop_high zero n v h = let e : n ≡ 0 = omega arith in rw e refl
drop_high (suc k) n v h = elim (cases_lt k n) [
  | inl top ↦
      let e : n ≡ suc k = omega arith in
      let z : suc k - n ≡ 0 = omega arith in
      rw (z, e) refl
  | inr lower ↦
      let e : suc k - n ≡ suc (k - n) = omega arith in
      rw e (drop_high k n v lower)
]

-- the last n of all eight, as they are written
pub last_put : (n v : ℕ) → n ≤ 8 → take (8 - (8 - n)) (drop (8 - n) (bytes_high_first 8 v)) ≡ put_be n v
last_put n v h =
    ap (take (8 - (8 - n))) (drop_high 8 n v h ∙ high_first n v) ∙ take_all (8 - (8 - n)) (put_be n v) (omega (arith, put-length n v))

-- zeros in front change nothing
be_zeros : (m : ℕ) (s : List ℕ) → be_from 0 (replicate m 0 ++ s) ≡ be_from 0 s
be_zeros zero s = refl
be_zeros (suc m) s = be_zeros m s

eight : (s : List ℕ) → length s ≡ 8 → from_be_bytes w64 s ≡ be_from 0 s
eight (a ∷ b ∷ c ∷ d ∷ e ∷ f ∷ g ∷ h ∷ []) l = omega arith
eight s l = absurd (omega arith)

-- as they are read: n bytes at the end of eight, behind zeros
pub last_read : (s : List ℕ) (n : ℕ) → n ≤ 8 → length s ≡ n → from_be_bytes w64 (put_mid (8 - n) (8 - (8 - n)) (replicate 8 0) s) ≡ be_from 0 s
last_read s n h e =
    let shape : put_mid (8 - n) (8 - (8 - n)) (replicate 8 0) s ≡ replicate (8 - n) 0 ++ s =
    rw (take-replicate {X = ℕ} (8 - n) 8 0 (omega arith), drop-replicate {X = ℕ} (8 - n) 8 0, drop_all {X = ℕ} (8 - (8 - n)) (replicate (8 - (8 - n)) 0) (omega (arith, length-replicate {A = ℕ} (8 - (8 - n)) 0)), append-nil) refl in
    ap (from_be_bytes w64) shape
    ∙ eight (replicate (8 - n) 0 ++ s) (omega (arith, e, length-append (replicate (8 - n) 0) s, length-replicate {A = ℕ} (8 - n) 0))
    ∙ be_zeros (8 - n) s

-- the contract of `put`, and that of `get`, of what the library's calls leave
pub written : (n v : ℕ) (out : List ℕ) → n ≤ 8 → take (8 - (8 - n)) (drop (8 - n) (bytes_high_first 8 v)) ++ drop n out ≡ over (put_be n v) out
written n v out h = ap (λ s. s ++ drop n out) (last_put n v h) ∙ ap (λ i. put_be n v ++ drop i out) (sym (put-length n v))

pub read : (n at : ℕ) (s : List ℕ) → n ≤ 8 → at + n ≤ length s → from_be_bytes w64 (put_mid (8 - n) (8 - (8 - n)) (replicate 8 0) (take (at + n - at) (drop at s))) ≡ be at n s
read n at s h l =
    let e : at + n - at ≡ n = omega arith in
    let long : length (take (at + n - at) (drop at s)) ≡ n = omega (arith, length-take-le (at + n - at) (drop at s) (omega (arith, length-drop at s))) in
    last_read (take (at + n - at) (drop at s)) n h long ∙ ap (λ i. be_from 0 (take i (drop at s))) e

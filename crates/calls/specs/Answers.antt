-- The form of an answer. A tray is an output buffer that the caller lends; t is what it holds at the call, t' at the return.
use Rattle.std.specs.Prelude.{◌≡◌, Result, MatchResult, List, [], ℕ, eqb, ltb, length}
use Rattle.theory.specs.Words.{pick, first_of, when}
use Rattle.buffers.specs.Buffers.{over}
use Rattle.numbers.specs.Numbers.{put_be}
use Rattle.calls.specs.declared.refusal.Refusal.{Refusal}
use Rattle.calls.specs.Codes.{code, number_of, value_of}

-- an answer into a tray: its bytes, or the number with the tray as before
abbrev pub Into : ℕ → List ℕ → List ℕ → List ℕ → ℕ → Type 0
Into f b t t' r = let n = first_of f (when (ltb (length t) (length b)) 6) in (r ≡ n) × (t' ≡ pick (eqb n 0) (over b t) t)

-- the same with a value beside the bytes
abbrev pub IntoValue : ℕ → ℕ → List ℕ → List ℕ → List ℕ → Result ℕ Refusal → Type 0
IntoValue f v b t t' r = Into f b t t' (number_of r) × (value_of r ≡ pick (eqb (number_of r) 0) v 0)

-- a fault, then 6 if a tray is too short for a number
abbrev pub or_short : ℕ → List ℕ → ℕ
or_short f s = first_of f (when (ltb (length s) 8) 6)

-- bytes into a tray, and a value as 8 bytes into one of its own, which holds s at the call and s' at the return; if either is too small, both stay
abbrev pub IntoBoth : ℕ → ℕ → List ℕ → List ℕ → List ℕ → List ℕ → List ℕ → ℕ → Type 0
IntoBoth f v b s s' t t' r = let g = or_short f s in Into g (pick (eqb g 0) b []) t t' r × (s' ≡ pick (eqb r 0) (over (put_be 8 v) s) s)

-- a number as 8 bytes
abbrev pub Number : ℕ → ℕ → List ℕ → List ℕ → ℕ → Type 0
Number f v t t' r = Into f (pick (eqb f 0) (put_be 8 v) []) t t' r

-- a value, or the refusal of a fault
abbrev pub ValueIs : {A : Type 0} → ℕ → A → Result A Refusal → Type 0
ValueIs f v r = MatchResult r (λ x. (f ≡ 0) × (x ≡ v)) (λ e. code e ≡ f)

-- What a check of arguments answers: the strip of k and n, or a word on it, if there is no fault, else the fault's refusal. f is the fault's number, 0 if
-- there is none.
use Rattle.std.specs.Prelude.{◌≡◌, Result, MatchResult, List, ℕ}
use Rattle.shape.specs.declared.Strip as DS
use Rattle.shape.specs.declared.word.Word as DW
use Rattle.calls.specs.declared.refusal.Refusal.{Refusal}
use Rattle.calls.specs.Codes.{code}

-- the strip of k and n
abbrev pub StripOf : ℕ → ℕ → DS.Strip → Type 0
StripOf k n s = (s.k ≡ k) × (s.n ≡ n)

-- what a check promises
abbrev pub Checks : ℕ → ℕ → ℕ → Result DS.Strip Refusal → Type 0
Checks f k n r = MatchResult r (λ s. (f ≡ 0) × StripOf k n s) (λ e. code e ≡ f)

-- what a check of a word promises: that word on the strip of k and n
abbrev pub ChecksWord : ℕ → ℕ → ℕ → List ℕ → Result DW.Word Refusal → Type 0
ChecksWord f k n w r = MatchResult r (λ x. (f ≡ 0) × StripOf k n x.strip × (x.letters.now ≡ w)) (λ e. code e ≡ f)

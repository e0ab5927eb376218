-- What the calls on pictures promise. A tray holds t at the call and t' at the return; for C, s and s' are those of the file's size.
use Rattle.std.specs.Prelude.{◌≡◌, Result, MatchResult, List, [], ℕ, eqb, length}
use Rattle.theory.specs.Words.{pick}
use Rattle.calls.specs.declared.refusal.Refusal.{Refusal}
use Rattle.calls.specs.Codes.{code}
use Rattle.calls.specs.Refusals.{picture_fault}
use Rattle.calls.specs.Checks.{StripOf}
use Rattle.calls.specs.Answers.{IntoValue, IntoBoth}
use Rattle.pbm.specs.declared.Picture as DP
use Rattle.pbm.specs.Pictures.{picture}

-- the picture of c marks from place p of the strip of k and n on, in h rows
abbrev pub PictureOf : ℕ → ℕ → ℕ → ℕ → ℕ → DP.Picture → Type 0
PictureOf k n p c h x = StripOf k n x.strip × (x.place ≡ p) × (x.width ≡ c) × (x.height ≡ h)

-- what the check promises: that picture if there is no fault, else the fault's refusal
abbrev pub ChecksPicture : ℕ → ℕ → ℕ → ℕ → ℕ → Result DP.Picture Refusal → Type 0
ChecksPicture k n p c h r = MatchResult r (λ x. (picture_fault k n p c h ≡ 0) × PictureOf k n p c h x) (λ e. code e ≡ picture_fault k n p c h)

-- the file into the tray, its size as the value
abbrev pub PictureSays : ℕ → ℕ → ℕ → ℕ → ℕ → List ℕ → List ℕ → Result ℕ Refusal → Type 0
PictureSays k n p c h t t' r =
    let f = picture_fault k n p c h in
    let b = picture k n p c h in
    IntoValue f (length b) (pick (eqb f 0) b []) t t' r

-- the size as 8 bytes into a tray of its own
abbrev pub BothSay : ℕ → ℕ → ℕ → ℕ → ℕ → List ℕ → List ℕ → List ℕ → List ℕ → ℕ → Type 0
BothSay k n p c h s s' t t' r = let b = picture k n p c h in IntoBoth (picture_fault k n p c h) (length b) b s s' t t' r

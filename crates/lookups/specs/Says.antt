-- What the calls on plans promise. A tray holds t at the call and t' at the return.
use Rattle.std.specs.Prelude.{◌≡◌, List, [], ◌++◌, ℕ, ◌+◌, ◌-◌, eqb}
use Rattle.theory.specs.Words.{pick}
use Rattle.theory.specs.Strips.{place_of}
use Rattle.theory.specs.Plans.{shades, marks, plan_fault, laying_at, distance_at, rail_of, lookup_fault}
use Rattle.theory.specs.Erasures.{lowest, smudged_fault}
use Rattle.numbers.specs.Numbers.{put_be}
use Rattle.calls.specs.Answers.{Into}

-- a plan: its fault, or 0
abbrev pub PlanSays : List ℕ → ℕ → Type 0
PlanSays s r = r ≡ plan_fault s

-- the answer for the laid window at a place: the section's number in 2 bytes, the distance in 8, the section's rail in 2
abbrev pub answer_at : List ℕ → ℕ → List ℕ
answer_at s p = let i = laying_at s p - 1 in (put_be 2 i ++ put_be 8 (distance_at s p)) ++ put_be 2 (rail_of s i)

abbrev pub answer_size : ℕ
answer_size = 12

-- a window that was read in full: the answer for its place
abbrev pub LookupSays : List ℕ → List ℕ → List ℕ → List ℕ → ℕ → Type 0
LookupSays s w t t' r =
    let f = lookup_fault s w in
    Into f (pick (eqb f 0) (answer_at s (place_of (shades s) (marks s) w)) []) t t' r

-- a smudged window: the answer for the lowest place of a laid window that agrees with it
abbrev pub SmudgedSays : List ℕ → List ℕ → List ℕ → List ℕ → ℕ → Type 0
SmudgedSays s w t t' r =
    let f = smudged_fault s w in
    Into f (pick (eqb f 0) (answer_at s (lowest s w)) []) t t' r

-- what writing an answer asks for: the window at p is laid in section i of an accepted plan
pub record LaidIn (s : List ℕ) (p i : ℕ) : Type 0 where
  pub faultless : plan_fault s ≡ 0
  pub laid : laying_at s p ≡ i + 1

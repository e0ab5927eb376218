-- The numbers of the refusals, and of an answer: 0, or its refusal's.
use Rattle.std.specs.Prelude.{Result, Ok, Err, ℕ}
use Rattle.calls.specs.declared.refusal.Refusal.{Refusal}
use Rattle.calls.specs.declared.refusal.Refusal.TheVariants.{NoSuchStrip, WrongWindow, BadMark, OffTheStrip, NoSuchWord, TrayTooSmall, TornPlan, CrookedPlan, NotLaid, LostCursor, TooSmudged, TwoShadesOnly, BadPicture, RollTooLong, NoSuchPrice, RepeatingWindow}

abbrev pub code : Refusal → ℕ
code NoSuchStrip = 1
code WrongWindow = 2
code BadMark = 3
code OffTheStrip = 4
code NoSuchWord = 5
code TrayTooSmall = 6
code TornPlan = 7
code CrookedPlan = 8
code NotLaid = 9
code LostCursor = 10
code TooSmudged = 11
code TwoShadesOnly = 12
code BadPicture = 13
code RollTooLong = 14
code NoSuchPrice = 15
code RepeatingWindow = 16

abbrev pub number_of : {A : Type 0} → Result A Refusal → ℕ
number_of (Ok x) = 0
number_of (Err e) = code e

-- the value of an answer; a refusal has none, for which 0 stands
abbrev pub value_of : Result ℕ Refusal → ℕ
value_of (Ok v) = v
value_of (Err e) = 0

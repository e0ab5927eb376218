-- What the calls on one word promise. A tray holds t at the call and t' at the return.
use Rattle.std.specs.Prelude.{Result, List, [], ℕ, eqb}
use Rattle.theory.specs.Words.{pick, is_lyndon, smallest, least_turn, root}
use Rattle.calls.specs.declared.refusal.Refusal.{Refusal}
use Rattle.calls.specs.Refusals.{the_word_fault}
use Rattle.calls.specs.Answers.{IntoValue, Number, ValueIs}

abbrev pub LyndonSays : ℕ → ℕ → List ℕ → Result ℕ Refusal → Type 0
LyndonSays k n w r = ValueIs (the_word_fault k n w) (pick (is_lyndon w) 1 0) r

abbrev pub RotationSays : ℕ → ℕ → List ℕ → List ℕ → List ℕ → Result ℕ Refusal → Type 0
RotationSays k n w t t' r = let f = the_word_fault k n w in IntoValue f (least_turn w) (pick (eqb f 0) (smallest w) []) t t' r

abbrev pub TurnSays : ℕ → ℕ → List ℕ → List ℕ → List ℕ → ℕ → Type 0
TurnSays k n w t t' r = Number (the_word_fault k n w) (least_turn w) t t' r

abbrev pub RootSays : ℕ → ℕ → List ℕ → Result ℕ Refusal → Type 0
RootSays k n w r = ValueIs (the_word_fault k n w) (root w) r

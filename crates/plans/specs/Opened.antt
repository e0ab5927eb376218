-- What opening a plan answers: the accepted plan of its bytes if there is no fault, else the fault's refusal (7, 1, 8).
use Rattle.std.specs.Prelude.{◌≡◌, Result, MatchResult, List, ℕ}
use Rattle.theory.specs.Plans.{plan_fault}
use Rattle.calls.specs.declared.refusal.Refusal.{Refusal}
use Rattle.calls.specs.Codes.{code}
use Rattle.plans.specs.declared.accepted.AcceptedPlan.{AcceptedPlan}

abbrev pub Opens : List ℕ → Result AcceptedPlan Refusal → Type 0
Opens s r = MatchResult r (λ a. (plan_fault s ≡ 0) × (a.sections.bytes.now ≡ s)) (λ e. code e ≡ plan_fault s)

-- What a refusal by `open` says: its number is the fault, whatever is refused after it.
use mathlib.Core.Path.{◌≡◌, sym, ◌∙◌, subst}
use mathlib.Core.List.{List}
use Prim.Native.Nat.{ℕ}
use Rattle.std.specs.Prelude.{Result, Err}
use Rattle.theory.specs.Words.{first_of}
use Rattle.theory.specs.Plans.{plan_fault}
use Rattle.theory.proofs.Faults.{first_some}
use Rattle.calls.specs.declared.refusal.Refusal.{Refusal}
use Rattle.calls.specs.Codes.{code}
use Rattle.calls.proofs.Answers.{code_some}
use Rattle.plans.specs.declared.accepted.AcceptedPlan.{AcceptedPlan}
use Rattle.plans.specs.Opened.{Opens}

-- the number of a plan's refusal, with any number behind it, and that it is not 0
pub plan_fault_lem : (s : List ℕ) (g : ℕ) {c : Result AcceptedPlan Refusal} {f : Refusal} → Opens s c → c ≡ Err f
    → (first_of (plan_fault s) g ≡ code f) × ¬ (code f ≡ 0)
plan_fault_lem s g {f = f} e h =
    let is : code f ≡ plan_fault s = subst (Opens s) h e in
    (first_some (plan_fault s) g (λ z. code_some f (is ∙ z)) ∙ sym is, code_some f)

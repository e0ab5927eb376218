-- A plan's listing: of an accepted one, whose sections start on the strip, the strip and the sections; of a refused one its fault.
use mathlib.Core.Path.{◌≡◌, sym, ◌∙◌, ap, ap₂, subst}
use mathlib.Core.List.{List, ◌++◌}
use Prim.Native.Nat.{ℕ, ◌^◌, ◌<◌}
use native.Mathlib.Omega.{arith}
use borrow.Author.Tests.{eq-eqb, ne_eqb}
use Rattle.std.specs.Prelude.{Result, Err}
use Rattle.theory.specs.Words.{pick}
use Rattle.theory.specs.Plans.{shades, marks, section_count, sections, nth_s, plan_fault}
use Rattle.theory.proofs.Records.{sections_count}
use Rattle.theory.proofs.Laying.{section_straight}
use Rattle.shape.specs.declared.Strip as DS
use Rattle.shape.proofs.Limits.{limits}
use Rattle.calls.specs.declared.refusal.Refusal.{Refusal}
use Rattle.calls.specs.Codes.{code}
use Rattle.calls.proofs.Answers.{code_some}
use Rattle.plans.specs.declared.accepted.AcceptedPlan.{AcceptedPlan}
use Rattle.plans.specs.Accepted.{Accepted}
use Rattle.plans.specs.Opened.{Opens}
use Rattle.lines.specs.Lines.{refused_line}
use Rattle.listing.specs.Listings.{strip_line, section_lines, listing}

-- an accepted plan, with the strip that it is laid on
module _ {s : List ℕ} {x : DS.Strip} (plan : Accepted s x) where
  pub section_starts : (i : ℕ) → i < section_count s → (nth_s (sections s) i).offset < x.size
  section_starts i h =
      let y = section_straight s plan.faultless i (omega (arith, sections_count s)) in
      let size : x.size ≡ shades s ^ marks s = x.whole ∙ ap₂ ◌^◌ plan.letters plan.marked in
      omega (arith, y.ends, y.wide, plan.marked, (limits x).some, size)

  pub accepted_text : strip_line x.k x.n ++ section_lines x.k x.n 0 (sections s) ≡ listing s
  accepted_text =
      let lines : ℕ → ℕ → List ℕ = λ k n. strip_line k n ++ section_lines k n 0 (sections s) in
      ap₂ lines plan.letters plan.marked ∙ sym (ap (λ b. pick b (lines (shades s) (marks s)) (refused_line (plan_fault s))) (eq-eqb _ _ plan.faultless))

-- a refused plan
pub refused_text_lem : (s : List ℕ) {c : Result AcceptedPlan Refusal} {f : Refusal} → Opens s c → c ≡ Err f → refused_line (code f) ≡ listing s
refused_text_lem s {f = f} e h =
    let is : code f ≡ plan_fault s = subst (Opens s) h e in
    let lines = strip_line (shades s) (marks s) ++ section_lines (shades s) (marks s) 0 (sections s) in
    ap refused_line is ∙ sym (ap (λ b. pick b lines (refused_line (plan_fault s))) (ne_eqb (plan_fault s) 0 (λ z. code_some f (is ∙ z))))

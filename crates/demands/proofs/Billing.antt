-- Bills: what is answered of a plan that can be billed, the two calls, and plans that differ in record or rails only.
use mathlib.Core.Path.{◌≡◌, sym, ◌∙◌, ap₂}
use mathlib.Core.List.{List}
use Prim.Native.Nat.{ℕ, ◌^◌, ◌≤◌, ◌<◌}
use native.Mathlib.Omega.{arith}
use lib.Dec.{eqb}
use lib.ListN.{length, drop}
use Rattle.theory.specs.Words.{pick}
use Rattle.theory.specs.Plans.{be, sections, plan_fault}
use Rattle.theory.specs.Prices.{cost_of}
use Rattle.theory.specs.Theorems.{Alike}
use Rattle.theory.proofs.Records.{alike_fault}
use Rattle.theory.proofs.Prices.{alike}
use Rattle.numbers.specs.Numbers.{put_be}
use Rattle.calls.specs.Refusals.{bill_fault}
use Rattle.calls.proofs.Answers.{value_parts, or_room}
use Rattle.prices.proofs.Billing.{bill_small}
use Rattle.bills.specs.Says.{BillSays, BillOfSays}
use Rattle.demands.specs.Refused.{AllShort}
use Rattle.demands.proofs.Faults.{bill_faultless}
use Rattle.demands.proofs.Trays.{value_fine, answered, tray_back, answer_number, bill_answers, trays}
use Rattle.calls.specs.declared.refusal.Refusal.{Refusal}
use Rattle.calls.specs.Codes.{number_of, value_of}
use Rattle.std.specs.Prelude.{Result}

pub billed_told : (s : List ℕ) (p c : ℕ) (r : Result ℕ Refusal) → plan_fault s ≡ 0 → AllShort s → p ≤ 10000000 → c ≤ 4294967295 → BillSays s p c r
    → (number_of r ≡ 0) × (value_of r ≡ cost_of p c (sections s)) × (value_of r < 2 ^ 55)
billed_told s p c r good short h g e =
    let fine = bill_faultless s p c good short h g in
    let (number, value) = value_fine r fine e in
    (number, value, omega (arith, value, bill_small s p c fine))

pub bill_both : (s : List ℕ) (p c : ℕ) (t t' : List ℕ) (r : Result ℕ Refusal) (q : ℕ) → 8 ≤ length t → BillSays s p c r → BillOfSays s p c t t' q
    → (q ≡ number_of r) × (q ≡ 0 → be 0 8 t' ≡ value_of r) × (drop 8 t' ≡ drop 8 t)
bill_both s p c t t' r q room e f =
    let number : q ≡ number_of r = answer_number (bill_answers s p c t t' q f) ∙ or_room (bill_fault s p c) t room ∙ sym (value_parts (bill_fault s p c) (cost_of p c (sections s)) r e).0 in
    (number, same, (trays.bill_of s p c t t' q f).2)
  where
    same : q ≡ 0 → be 0 8 t' ≡ value_of r
    same z =
        let v = cost_of p c (sections s) in
        let (fine, tray) = answered (bill_fault s p c) (put_be 8 v) t f z in
        tray_back v t (omega (arith, bill_small s p c fine)) tray ∙ sym (value_fine r fine e).1

pub bill_same : (s u : List ℕ) (p c : ℕ) (r q : Result ℕ Refusal) → Alike s u → BillSays s p c r → BillSays u p c q → (number_of r ≡ number_of q) × (value_of r ≡ value_of q)
bill_same s u p c r q a e f =
    let (short, cost) = alike p c s u a in
    let fault : bill_fault s p c ≡ bill_fault u p c = rw (alike_fault s u a, short) in
    let one = value_parts (bill_fault s p c) (cost_of p c (sections s)) r e in
    let two = value_parts (bill_fault u p c) (cost_of p c (sections u)) q f in
    (one.0 ∙ fault ∙ sym two.0, one.1 ∙ ap₂ (λ g v. pick (eqb g 0) v 0) fault cost ∙ sym two.1)

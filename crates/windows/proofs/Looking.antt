-- A window looked for in a plan: its faults in their order, and what the answer says.
use mathlib.Core.Path.{◌≡◌, refl, sym, ◌∙◌, ap, ap₂, subst}
use mathlib.Core.List.{List}
use Prim.Native.Nat.{ℕ, ◌+◌}
use native.Mathlib.Omega.{arith}
use lib.Dec.{eqb}
use borrow.Author.Tests.{ne_eqb}
use Rattle.std.specs.Prelude.{Result, Ok, Err}
use Rattle.theory.specs.Words.{first_of, when}
use Rattle.theory.specs.Strips.{place_of, strip_fault}
use Rattle.theory.specs.Plans.{shades, marks, word_fault, laying_at, laying_of, lookup_fault}
use Rattle.theory.proofs.Faults.{first_some}
use Rattle.shape.specs.declared.Strip as DS
use Rattle.shape.specs.declared.word.Word as DW
use Rattle.shape.specs.Shapes.{WordOn}
use Rattle.calls.specs.declared.refusal.Refusal.{Refusal}
use Rattle.calls.specs.declared.refusal.Refusal.TheVariants.{NotLaid}
use Rattle.calls.specs.Codes.{code}
use Rattle.calls.specs.Refusals.{the_word_fault}
use Rattle.calls.specs.Checks.{StripOf, ChecksWord}
use Rattle.calls.proofs.Answers.{code_some}
use Rattle.calls.proofs.Checks.{word_faultless}
use Rattle.plans.specs.Accepted.{Accepted}
use Rattle.windows.specs.declared.Spot.{Spot}
use Rattle.windows.specs.Looks.{Found, Looks}

-- on an accepted plan, with the strip x that it is laid on
module _ {s : List ℕ} {x : DS.Strip} (a : Accepted s x) (w : List ℕ) where
  -- the strip has no fault, so what is left is the word's
  word_is : the_word_fault x.k x.n w ≡ word_fault (shades s) (marks s) w
  word_is =
      let none : strip_fault x.k x.n ≡ 0 = rw x.admit in
      ap (λ f. first_of f (word_fault x.k x.n w)) none ∙ ap₂ (λ k n. word_fault k n w) a.letters a.marked

  rest : lookup_fault s w ≡ first_of (word_fault (shades s) (marks s) w) (when (eqb (laying_of s w) 0) 9)
  rest = ap (λ f. first_of f (first_of (word_fault (shades s) (marks s) w) (when (eqb (laying_of s w) 0) 9))) a.faultless

  -- c is the check of the word there
  module _ {c : Result DW.Word Refusal} (e : ChecksWord (the_word_fault x.k x.n w) x.k x.n w c) where
    pub word_refused : {f : Refusal} → c ≡ Err f → Looks s w (Err f)
    word_refused {f} g =
        let is : code f ≡ the_word_fault x.k x.n w = subst (ChecksWord (the_word_fault x.k x.n w) x.k x.n w) g e in
        let fault : code f ≡ word_fault (shades s) (marks s) w = is ∙ word_is in
        fault ∙ sym (rest ∙ first_some (word_fault (shades s) (marks s) w) _ (λ z. code_some f (fault ∙ z)))

    module _ {y : DW.Word} (g : c ≡ Ok y) where
      fine : the_word_fault x.k x.n w ≡ 0
      fine = let checked : (the_word_fault x.k x.n w ≡ 0) × StripOf x.k x.n y.strip × (y.letters.now ≡ w) = subst (ChecksWord (the_word_fault x.k x.n w) x.k x.n w) g e in checked.0

      pub word_on_strip : WordOn x w
      word_on_strip = word_faultless x.k x.n w (refl, refl) fine

      left : lookup_fault s w ≡ when (eqb (laying_of s w) 0) 9
      left = rest ∙ ap (λ f. first_of f (when (eqb (laying_of s w) 0) 9)) (sym word_is ∙ fine)

      -- the word's place p
      module _ {p : ℕ} (place : p ≡ place_of x.k x.n w) where
        place_is : p ≡ place_of (shades s) (marks s) w
        place_is = place ∙ ap₂ (λ k n. place_of k n w) a.letters a.marked

        pub not_laid : laying_at s p ≡ 0 → Looks s w (Err NotLaid)
        not_laid z = sym (left ∙ ap (λ l. when (eqb l 0) 9) (sym (ap (laying_at s) place_is) ∙ z))

        pub laid : {i : ℕ} → laying_at s p ≡ i + 1 → (r : Spot) → r.plan.sections.bytes.now ≡ s → r.plan.strip ≡ x → r.place ≡ p → r.section ≡ i → Looks s w (Ok r)
        laid {i} h r plan strip at section =
            let some : ¬ (laying_of s w ≡ 0) = λ z. omega (arith, ap (laying_at s) place_is, h, z) in
            record {
              fine = left ∙ ap (λ t. when t 9) (ne_eqb (laying_of s w) 0 some);
              plan = plan;
              word = subst (λ y. WordOn y w) (sym strip) word_on_strip;
              place_is = at ∙ place_is;
              laid = ap (laying_at s) at ∙ h ∙ ap (λ j. j + 1) (sym section);
            }

-- what the answer r says
module _ (s w : List ℕ) {r : Result Spot Refusal} (e : Looks s w r) where
  pub refused_by : {f : Refusal} → r ≡ Err f → (lookup_fault s w ≡ code f) × ¬ (code f ≡ 0)
  refused_by {f} g = let is : code f ≡ lookup_fault s w = subst (Looks s w) g e in (sym is, code_some f)

  pub found : {x : Spot} → r ≡ Ok x → Found s w x
  found g = subst (Looks s w) g e

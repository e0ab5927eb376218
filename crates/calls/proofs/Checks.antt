-- What the answer of a check says: the strip of k and n and no fault, or the fault's refusal.
use mathlib.Core.Path.{◌≡◌, sym, ◌∙◌, ap₂, subst}
use mathlib.Core.Bool.{true}
use mathlib.Core.List.{List}
use Prim.Native.Nat.{ℕ, ◌^◌}
use Rattle.std.specs.Prelude.{Result, Ok, Err}
use Rattle.theory.specs.Words.{first_of, marks_ok}
use Rattle.theory.specs.Strips.{strip_fault}
use Rattle.theory.proofs.Faults.{first_some, first_none, word_fine}
use Rattle.shape.specs.declared.Strip as DS
use Rattle.shape.specs.declared.word.Word as DW
use Rattle.shape.specs.Shapes.{WordOn}
use Rattle.calls.specs.declared.refusal.Refusal.{Refusal}
use Rattle.calls.specs.Codes.{code}
use Rattle.calls.specs.Refusals.{the_word_fault}
use Rattle.calls.specs.Checks.{StripOf, Checks, ChecksWord}
use Rattle.calls.proofs.Answers.{code_some}

pub strip-size : {k n : ℕ} (s : DS.Strip) → StripOf k n s → s.size ≡ k ^ n
strip-size s on = s.whole ∙ ap₂ ◌^◌ on.0 on.1

-- what the answer c says
module _ (f k n : ℕ) {c : Result DS.Strip Refusal} (e : Checks f k n c) where
  pub refused_by : {x : Refusal} → c ≡ Err x → (f ≡ code x) × ¬ (code x ≡ 0)
  refused_by {x} g = let is : code x ≡ f = subst (Checks f k n) g e in (sym is, code_some x)

  pub passed : {s : DS.Strip} → c ≡ Ok s → (f ≡ 0) × StripOf k n s × (s.size ≡ k ^ n)
  passed {s} g = let (none, on) : (f ≡ 0) × StripOf k n s = subst (Checks f k n) g e in (none, on, strip-size s on)

-- a check that passed, whatever its fault
pub strip_is : (f k n : ℕ) {c : Result DS.Strip Refusal} {s : DS.Strip} → Checks f k n c → c ≡ Ok s → StripOf k n s
strip_is f k n e g = (passed f k n e g).1

-- the check of the strip came first, and a fault g after it
module _ (k n g : ℕ) {c : Result DS.Strip Refusal} (e : Checks (strip_fault k n) k n c) where
  pub strip_refused : {x : Refusal} → c ≡ Err x → Checks (first_of (strip_fault k n) g) k n (Err x)
  strip_refused {x} h =
      let (is, some) = refused_by (strip_fault k n) k n e h in
      sym (first_some (strip_fault k n) g (λ z. some (sym is ∙ z)) ∙ is)

-- a check of a word, passed; the fault alone says that the word is on the strip
module _ (k n : ℕ) (w : List ℕ) where
  pub word_faultless : {s : DS.Strip} → StripOf k n s → the_word_fault k n w ≡ 0 → WordOn s w
  word_faultless on z =
      let (long, marks) = word_fine k n w (first_none (strip_fault k n) _ z).1 in
      record { long = long ∙ sym on.1; marks = subst (λ x. marks_ok x w ≡ true) (sym on.0) marks }

  pub word_checked : {c : Result DW.Word Refusal} {x : DW.Word} → ChecksWord (the_word_fault k n w) k n w c → c ≡ Ok x
      → StripOf k n x.strip × (x.letters.now ≡ w) × WordOn x.strip w
  word_checked {x = x} e g =
      let (none, on, is) : (the_word_fault k n w ≡ 0) × StripOf k n x.strip × (x.letters.now ≡ w) = subst (ChecksWord (the_word_fault k n w) k n w) g e in
      (on, is, word_faultless on none)

  -- the same of a check that answers the strip alone
  pub strip_word_checked : {c : Result DS.Strip Refusal} {s : DS.Strip} → Checks (the_word_fault k n w) k n c → c ≡ Ok s → StripOf k n s × WordOn s w
  strip_word_checked e g = let (none, on, size) = passed (the_word_fault k n w) k n e g in (on, word_faultless on none)

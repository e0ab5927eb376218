-- A window that is refused as a word is so with that refusal; one that is not refused is no shorter word repeated.
use mathlib.Core.Path.{◌≡◌, sym, ◌∙◌, subst}
use mathlib.Core.List.{List}
use Prim.Native.Nat.{ℕ, ◌≤◌, ◌<◌}
use native.Mathlib.Omega.{arith}
use lib.ListN.{length}
use Rattle.std.specs.Prelude.{Result, Err}
use Rattle.theory.specs.Words.{root}
use Rattle.theory.proofs.Faults.{first_some}
use Rattle.theory.proofs.Powers.{root_is, root-size}
use Rattle.shape.specs.declared.Strip as DS
use Rattle.shape.specs.declared.word.Word as DW
use Rattle.shape.specs.Shapes.{WordOn}
use Rattle.shape.proofs.Limits.{limits}
use Rattle.calls.specs.declared.refusal.Refusal.{Refusal}
use Rattle.calls.specs.Codes.{code}
use Rattle.calls.specs.Refusals.{the_word_fault, short_window_fault}
use Rattle.calls.specs.Checks.{ChecksWord}
use Rattle.calls.proofs.Answers.{code_some}

pub own_root : {s : DS.Strip} {w : List ℕ} → WordOn s w → s.n ≤ root w → root w ≡ s.n
own_root {s} {w} on most =
    let some : 0 < length w = omega (arith, on.long, (limits s).some) in
    omega (arith, root-size some (root_is w some), on.long)

pub word_refused : (k n : ℕ) (w : List ℕ) {c : Result DW.Word Refusal} {x : Refusal} → ChecksWord (the_word_fault k n w) k n w c → c ≡ Err x
    → ChecksWord (short_window_fault k n w) k n w (Err x)
word_refused k n w {x = x} e h =
    let is : code x ≡ the_word_fault k n w = subst (ChecksWord (the_word_fault k n w) k n w) h e in
    is ∙ sym (first_some (the_word_fault k n w) _ (λ z. code_some x (is ∙ z)))

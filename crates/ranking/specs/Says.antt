-- What the calls on the Lyndon words of a length promise. A tray holds t at the call and t' at the return.
use Rattle.std.specs.Prelude.{Result, List, [], ℕ, eqb}
use Rattle.theory.specs.Words.{pick, how_many, rank, word_of}
use Rattle.calls.specs.declared.refusal.Refusal.{Refusal}
use Rattle.theory.specs.Strips.{strip_fault}
use Rattle.calls.specs.Refusals.{the_word_fault, index_fault}
use Rattle.calls.specs.Answers.{Into, Number, ValueIs}

abbrev pub ManySays : ℕ → ℕ → Result ℕ Refusal → Type 0
ManySays k n r = ValueIs (strip_fault k n) (how_many k n) r

abbrev pub RankSays : ℕ → ℕ → List ℕ → List ℕ → List ℕ → ℕ → Type 0
RankSays k n w t t' r = Number (the_word_fault k n w) (rank k w) t t' r

abbrev pub WordSays : ℕ → ℕ → ℕ → List ℕ → List ℕ → ℕ → Type 0
WordSays k n i t t' r = let f = index_fault k n i in Into f (pick (eqb f 0) (word_of k n i) []) t t' r

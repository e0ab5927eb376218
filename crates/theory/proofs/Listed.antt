-- The lists of words: what they hold and that they ascend. Those of Lyndon words are kept from the lists of all words.
use mathlib.Core.Path.{◌≡◌}
use mathlib.Core.Bool.{Bool, true}
use mathlib.Core.List.{List}
use mathlib.Core.Logic.{◌↔◌}
use Prim.Native.Nat.{ℕ, ◌≤◌}
use lib.ListN.{length}
use Rattle.theory.specs.Words.{all_words, lyndons, is_lyndon, marks_ok}
use Rattle.theory.specs.Lists.{In, Ascending}
use Rattle.theory.specs.Rings.{up_words, lyndons_up, divides, ring_words}
use Rattle.theory.specs.Strips.{divisor_of, strip_words}
use Rattle.theory.specs.Theorems.{Listed}
use Rattle.theory.proofs.Lists.{keep_in, in_keep, keep_ascend}
use Rattle.theory.proofs.Lyndon.{lyndon_some}
pub use Rattle.theory.proofs.AllWords.{all_words_lem, all_ascend, all_count}
pub use Rattle.theory.proofs.UpWords.{up_words_lem, up_ascend}
use Rattle.theory.proofs.Divisors.{divides_le}

pub lyndon_words : (k n : ℕ) (w : List ℕ) → In w (lyndons k n) ↔ ((length w ≡ n) × (marks_ok k w ≡ true) × (is_lyndon w ≡ true))
lyndon_words k n w = (
  λ i. let r = keep_in is_lyndon (all_words k n) i in let s = (all_words_lem k n w).0 r.0 in (s.0, s.1, r.1),
  λ h. in_keep is_lyndon ((all_words_lem k n w).1 (h.0, h.1)) h.2,
)

pub lyndon_ascend : (k n : ℕ) → Ascending (lyndons k n)
lyndon_ascend k n = keep_ascend is_lyndon (all_words k n) (all_ascend k n)

pub lyndon_up_words : (k n : ℕ) (w : List ℕ) → In w (lyndons_up k n) ↔ ((length w ≤ n) × (marks_ok k w ≡ true) × (is_lyndon w ≡ true))
lyndon_up_words k n w = (
  λ i. let r = keep_in is_lyndon (up_words k n) i in let s = (up_words_lem k n w).0 r.0 in (s.1, s.2, r.1),
  λ h. in_keep is_lyndon ((up_words_lem k n w).1 (lyndon_some w h.2, h.0, h.1)) h.2,
)

pub lyndon_up_ascend : (k n : ℕ) → Ascending (lyndons_up k n)
lyndon_up_ascend k n = keep_ascend is_lyndon (up_words k n) (up_ascend k n)

pub ring_words_lem : (ok : ℕ → Bool) (k n : ℕ) (w : List ℕ)
    → In w (ring_words ok k n) ↔ ((length w ≤ n) × (marks_ok k w ≡ true) × (is_lyndon w ≡ true) × (ok (length w) ≡ true))
ring_words_lem ok k n w = (
  λ i. let r = keep_in (λ u. ok (length u)) (lyndons_up k n) i in let s = (lyndon_up_words k n w).0 r.0 in (s.0, s.1, s.2, r.1),
  λ h. in_keep (λ u. ok (length u)) ((lyndon_up_words k n w).1 (h.0, h.1, h.2)) h.3,
)

pub ring_ascend : (ok : ℕ → Bool) (k n : ℕ) → Ascending (ring_words ok k n)
ring_ascend ok k n = keep_ascend (λ u. ok (length u)) (lyndons_up k n) (lyndon_up_ascend k n)

pub strip_words_lem : (k n : ℕ) (w : List ℕ) → 1 ≤ n
    → In w (strip_words k n) ↔ ((divides (length w) n ≡ true) × (marks_ok k w ≡ true) × (is_lyndon w ≡ true))
strip_words_lem k n w p = (
  λ i. let r = (ring_words_lem (divisor_of n) k n w).0 i in (r.3, r.1, r.2),
  λ h. (ring_words_lem (divisor_of n) k n w).1 (divides_le (length w) n p h.0, h.1, h.2, h.0),
)

pub listed : Listed
listed =
    record {
      all_words_lem = all_words_lem;
      all_ascend = all_ascend;
      lyndon_words = lyndon_words;
      lyndon_ascend = lyndon_ascend;
      up_words_lem = up_words_lem;
      up_ascend = up_ascend;
      lyndon_up_words = lyndon_up_words;
      lyndon_up_ascend = lyndon_up_ascend;
      ring_words_lem = ring_words_lem;
      ring_ascend = ring_ascend;
      strip_words_lem = strip_words_lem;
    }

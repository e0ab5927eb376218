-- The tests for a torn plan in their order: its length, the count, the totals.
use mathlib.Core.Path.{◌≡◌, sym, ◌∙◌}
use mathlib.Core.Bool.{true, ◌||◌, not}
use mathlib.Core.List.{List}
use Prim.Native.Nat.{ℕ, ◌+◌, ◌*◌, ◌≤◌, ◌<◌}
use lib.Dec.{ltb, eqb}
use lib.ListN.{length}
use borrow.Author.Tests.{lt-ltb, le-ltb, ne_eqb}
use Rattle.theory.specs.Plans.{section_count, torn}

-- too short for a head
pub torn_short : (s : List ℕ) → length s < 4 → true ≡ torn s
torn_short s h = sym (rw (lt-ltb (length s) 4 h))

-- c is the count
module _ (s : List ℕ) {c : ℕ} (head : 4 ≤ length s) (count : c ≡ section_count s) where
  past_head : torn s ≡ (ltb 500 c || not (eqb (length s) (4 + 16 * c) || eqb (length s) (4 + 18 * c)))
  past_head = rw (le-ltb (length s) 4 head, count)

  -- too many sections
  pub torn_many : 500 < c → true ≡ torn s
  torn_many h = sym (past_head ∙ rw (lt-ltb 500 c h))

  -- not the total of old records: the new one tells
  pub torn-long : c ≤ 500 → ¬ (length s ≡ 4 + 16 * c) → not (eqb (length s) (4 + 18 * c)) ≡ torn s
  torn-long h e = sym (past_head ∙ rw (le-ltb 500 c h, ne_eqb (length s) (4 + 16 * c) e))

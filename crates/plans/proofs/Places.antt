-- The section of a place: sections are sorted, so bisection finds how many begin at the place or before it; only the last of these can hold the window.
use mathlib.Core.Path.{◌≡◌, sym, ◌∙◌, ap, ap₂, subst}
use mathlib.Core.Bool.{true, false, false≢true}
use mathlib.Core.List.{List}
use mathlib.Core.Logic.{⊎_elim}
use Prim.Native.Nat.{ℕ, suc, ◌+◌, ◌-◌, ◌^◌, ◌≤◌, ◌<◌}
use native.Mathlib.Omega.{arith}
use lib.ListN.{length}
use Rattle.theory.specs.Plans.{Section, end_of, marks, section_count, sections, plan_fault, welded, laying_at, nth_s}
use Rattle.theory.specs.Theorems.{Across, Lies}
use Rattle.theory.proofs.Base.{less, equal, more, cmp}
use Rattle.theory.proofs.Records.{sections_count}
use Rattle.theory.proofs.Laying.{accepted_whole, section_straight, section_apart, lies_inside, lies_across, lies_laying, unlaid}
use Rattle.shape.specs.declared.Strip as DS
use Rattle.shape.proofs.Limits.{limits}
use Rattle.plans.specs.Accepted.{Accepted}
use Rattle.plans.specs.Begun.{Between, Begun}

-- sections of an accepted plan
module _ {s : List ℕ} {strip : DS.Strip} (plan : Accepted s strip) where
  good : plan_fault s ≡ 0
  good = plan.faultless

  sorted : (i j : ℕ) → i ≤ j → j < length (sections s) → (nth_s (sections s) i).offset ≤ (nth_s (sections s) j).offset
  sorted i j h l =
      elim (cmp i j) [ less g ↦ omega (arith, section_apart s good i j g l) | equal g ↦ omega (arith, ap (λ m. (nth_s (sections s) m).offset) g) | more g ↦ absurd (omega arith) ]

  -- they end within the strip
  section_ends : (i : ℕ) → i < length (sections s) → end_of (nth_s (sections s) i) ≤ 2 ^ 60
  section_ends i h =
      omega (arith, (limits strip).range, ap₂ ◌^◌ plan.letters plan.marked, (section_straight s good i h).ends)

  -- what bisection knows of a place p
  module _ (p : ℕ) where
    pub anywhere : Between p (sections s) 0 (section_count s)
    anywhere = record { ordered = omega arith; within = omega (arith, sections_count s); before = λ i h. absurd (omega arith); behind = λ i h l. absurd (omega (arith, sections_count s)) }

    pub few : {low high : ℕ} → Between p (sections s) low high → high ≤ 500
    few between = omega (arith, between.within, sections_count s, (accepted_whole s good).few)

    module _ {low high : ℕ} (between : Between p (sections s) low high) (m : ℕ) (from : low ≤ m) (below : m < high) where
      pub raise : (nth_s (sections s) m).offset ≤ p → Between p (sections s) (m + 1) high
      raise h =
          record {
            ordered = omega arith;
            within = between.within;
            before = λ i l. omega (arith, sorted i m (omega arith) (omega (arith, between.within)));
            behind = between.behind;
          }

      pub lower : p < (nth_s (sections s) m).offset → Between p (sections s) low m
      lower h =
          record {
            ordered = from;
            within = omega (arith, between.within);
            before = between.before;
            behind = λ i l b. omega (arith, sorted m i l b);
          }

    -- the window at p
    pub nowhere : Begun p (sections s) 0 → laying_at s p ≡ 0
    nowhere begun = unlaid s p (λ i l. absurd (omega (arith, l.starts, begun.behind i (omega arith) l.listed)))

    -- of the r sections that begin at p or before it, the last, x of number i, is looked at
    pub record Looked (r : ℕ) (x : Section) : Type 0 where
      i : ℕ
      all : r ≡ suc i
      begun : Begun p (sections s) (suc i)
      is : x ≡ nth_s (sections s) i

    pub look : {r : ℕ} {x : Section} → Begun p (sections s) r → 1 ≤ r → x ≡ nth_s (sections s) (r - 1) → Looked r x
    look {r} begun some is =
        let all : r ≡ suc (r - 1) = omega arith in
        record { i = r - 1; all = all; begun = subst (Begun p (sections s)) all begun; is = is }

    module _ {r : ℕ} {x : Section} (l : Looked r x) where
      abbrev i : ℕ
      i = l.i

      ends : end_of x ≡ end_of (nth_s (sections s) i)
      ends = ap end_of l.is

      starts : (nth_s (sections s) i).offset ≤ p
      starts = l.begun.before i (omega arith)

      -- the window lies there or nowhere: sections ahead of it end by its start, those behind it begin behind p
      only : {j : ℕ} → Lies (marks s) (sections s) j p → j ≡ i
      only {j} lies =
          elim (cmp j i) [
            | less a ↦ absurd (omega (arith, lies.begins, section_apart s good j i a (omega (arith, l.begun.within)), starts))
            | equal a ↦ a
            | more a ↦ absurd (omega (arith, lies.starts, l.begun.behind j (omega arith) lies.listed))
          ]

      none : ¬ Lies (marks s) (sections s) i p → laying_at s p ≡ 0
      none not_there = unlaid s p (λ j lies. not_there (subst (λ m. Lies (marks s) (sections s) m p) (only lies) lies))

      pub end_fits : end_of x ≤ 2 ^ 60
      end_fits = omega (arith, ends, section_ends i (omega (arith, l.begun.within)))

      -- what is found out, one by one: it ends before p or there; the window ends in it
      pub passed : end_of x ≤ p → laying_at s p ≡ 0
      passed h = none (λ lies. omega (arith, lies.begins, ends))

      pub whole : p + strip.n ≤ end_of x → laying_at s p ≡ r
      whole h = lies_laying s good (lies_inside s good starts (omega (arith, l.begun.within)) (omega (arith, ends, plan.marked))) ∙ sym l.all

      -- the window goes on behind it, and there is no next section; or the next, y, is welded to it or is not
      stops : end_of x < p + strip.n → ¬ Across (sections s) i (p + marks s) → laying_at s p ≡ 0
      stops longer not-across = none (λ lies. ⊎_elim (λ e. omega (arith, e, ends, plan.marked)) not-across lies.ends)

      pub last : end_of x < p + strip.n → r ≡ section_count s → laying_at s p ≡ 0
      last longer h = stops longer (λ a. omega (arith, a.0, h, l.all, sections_count s))

      module _ {y : Section} (is : y ≡ nth_s (sections s) r) where
        joint : welded x y ≡ welded (nth_s (sections s) i) (nth_s (sections s) (suc i))
        joint = ap₂ welded l.is (is ∙ ap (nth_s (sections s)) l.all)

        pub across : p < end_of x → ¬ (r ≡ section_count s) → welded x y ≡ true → laying_at s p ≡ r
        across begins h weld =
            lies_laying s good (lies_across s good starts (omega (arith, h, l.all, l.begun.within, sections_count s)) (sym joint ∙ weld) (omega (arith, ends))) ∙ sym l.all

        pub parted : end_of x < p + strip.n → welded x y ≡ false → laying_at s p ≡ 0
        parted longer h = stops longer (λ a. false≢true (sym h ∙ joint ∙ a.1))

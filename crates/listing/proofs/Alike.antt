-- Plans with the same strip and sections have the same listing: the line of a section is the same with any rail.
use mathlib.Core.Path.{◌≡◌, refl, ◌∙◌, ap, ap₂}
use mathlib.Core.List.{List, ◌++◌}
use Prim.Native.Nat.{ℕ, suc}
use lib.Dec.{eqb}
use Rattle.theory.specs.Words.{pick}
use Rattle.theory.specs.Plans.{Section, shades, marks, sections}
use Rattle.theory.proofs.Records.{Same, none, more, alike_sections, alike_fault}
use Rattle.lines.specs.Lines.{refused_line}
use Rattle.listing.specs.Listings.{strip_line, section_line, section_lines, SameListing}

same_lines : (k n i : ℕ) {xs ys : List Section} → Same xs ys → section_lines k n i xs ≡ section_lines k n i ys
same_lines k n i none = refl
same_lines k n i (more (offset, long) rest) =
    let line : ℕ → ℕ → List ℕ = λ o l. section_line k n i (record { offset = o; long = l; rail = 0 }) in
    ap₂ ◌++◌ (ap₂ line offset long) (same_lines k n (suc i) rest)

pub same-listing : SameListing
same-listing s r a =
    let (letters, long) = a.strip_same in
    let lines : ℕ → ℕ → List ℕ = λ k n. strip_line k n ++ section_lines k n 0 (sections s) in
    let same = ap₂ lines letters long ∙ ap (λ t. strip_line (shades r) (marks r) ++ t) (same_lines (shades r) (marks r) 0 (alike_sections a)) in
    ap₂ (λ f t. pick (eqb f 0) t (refused_line f)) (alike_fault s r a) same

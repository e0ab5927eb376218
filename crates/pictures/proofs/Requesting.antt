-- A request: what is told of it if it is refused and if it is wanted, and that its head and rows are its file.
use mathlib.Core.Path.{◌≡◌, refl, sym, ◌∙◌, ap, subst}
use mathlib.Core.Bool.{true, false}
use mathlib.Core.List.{List, []}
use mathlib.Core.Logic.{inl, inr}
use Prim.Native.Nat.{ℕ, ◌≤◌}
use lib.Dec.{eqb, leb}
use lib.ListN.{length}
use borrow.Author.Tests.{eq-eqb, ne_eqb, le-leb}
use Rattle.theory.specs.Strips.{marks_from}
use Rattle.theory.proofs.Base.{test, and_in, and_false}
use Rattle.texts.proofs.Adding.{adds_none}
use Rattle.calls.specs.Refusals.{picture_fault}
use Rattle.pbm.specs.Pictures.{row_text, head_text}
use Rattle.pbm.specs.declared.Parts as DP
use Rattle.pbm.specs.Parts.{parts_room, Parted}
use Rattle.pictures.specs.Requests.{Request, request, request_fault, wanted, PartsSay, ByRows}

pub by_rows : ByRows
by_rows s = elim (test (wanted s)) [ inl t ↦ rw t | inr t ↦ rw t ]

-- the numbers that were read of a request
module _ (s b : List ℕ) (q : Request) (e : q ≡ request s) where
  abbrev fault : Request → ℕ
  fault r = picture_fault r.shades r.marks r.place r.width r.height

  pub refused : ¬ (fault q ≡ 0) → PartsSay s b b (record { head = 0; end = 0; rows = 0 })
  refused z =
      let none : wanted s ≡ false = and_false (eqb (length s) 26) _ (ne_eqb (request_fault s) 0 (λ y. z (ap fault e ∙ y))) in
      let nothing : Parted [] [] 0 b b (record { head = 0; end = 0; rows = 0 }) = record { adds = adds_none b 0; seam = refl; times = refl } in
      elim (test (leb parts_room (length b))) [ inl f ↦ rw (f, none) nothing | inr f ↦ rw f nothing ]

  pub parted : {t : List ℕ} {r : DP.Parts} → parts_room ≤ length b → length s ≡ 26 → fault q ≡ 0
      → Parted (head_text q.width q.height) (row_text (marks_from q.shades q.marks q.place q.width)) q.height b t r → PartsSay s b t r
  parted {t} {r} room long none p =
      let yes : wanted s ≡ true = and_in (eq-eqb (length s) 26 long) (eq-eqb (request_fault s) 0 (sym (ap fault e) ∙ none)) in
      rw (le-leb parts_room (length b) room, yes)
      (subst (λ x. Parted (head_text x.width x.height) (row_text (marks_from x.shades x.marks x.place x.width)) x.height b t r) e p)

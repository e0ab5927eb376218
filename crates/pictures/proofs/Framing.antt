-- What can be drawn: the width and height of a picture, and the faults behind the strip's.
use mathlib.Core.Path.{◌≡◌, refl, sym, ◌∙◌, ap}
use mathlib.Core.Bool.{true, not}
use Prim.Native.Nat.{ℕ, ◌^◌, ◌<◌}
use native.Mathlib.Omega.{arith}
use lib.Dec.{eqb, leb}
use lib.ListN.{length}
use borrow.Author.Tests.{eqb-true, eq-eqb, leb-true, leb-false, le-leb, lt-leb, not-false}
use Rattle.theory.specs.Words.{first_of, when}
use Rattle.theory.specs.Strips.{strip_fault}
use Rattle.theory.proofs.Base.{and_l, and_r, and_in}
use Rattle.theory.proofs.Faults.{first_none, when-none}
use Rattle.calls.specs.Refusals.{framed, picture_fault}
use Rattle.pbm.specs.declared.Picture as DP
use Rattle.pbm.specs.Pictures.{picture, file_size}
use Rattle.pbm.specs.Parts.{Frame}
use Rattle.pbm.proofs.Rows.{file-size}
use Rattle.pictures.specs.Says.{PictureOf}

-- width and height
module _ (c h : ℕ) where
  pub frame_in : framed c h ≡ true → Frame c h
  frame_in t =
      let t₁ = and_r (leb 1 c) _ t in
      let t₂ = and_r (leb c 60000) _ t₁ in
      record {
        some = leb-true 1 c (and_l _ _ t);
        wide = leb-true c 60000 (and_l _ _ t₁);
        row = leb-true 1 h (and_l _ _ t₂);
        high = leb-true h 64 (and_r (leb 1 h) _ t₂);
      }

  pub frame_out : Frame c h → framed c h ≡ true
  frame_out f = and_in (le-leb 1 c f.some) (and_in (le-leb c 60000 f.wide) (and_in (le-leb 1 h f.row) (le-leb h 64 f.high)))

-- what comes behind the strip's fault
module _ (k n p c h : ℕ) where
  abbrev pub rest : ℕ
  rest = first_of (when (not (eqb k 2)) 12) (first_of (when (leb (k ^ n) p) 4) (when (not (framed c h)) 13))

  pub left : k ≡ 2 → p < k ^ n → rest ≡ when (not (framed c h)) 13
  left two l = rw (eq-eqb k 2 two, lt-leb (k ^ n) p l)

  none : picture_fault k n p c h ≡ 0 → (k ≡ 2) × (p < k ^ n) × Frame c h
  none z =
      let (shades, more) = first_none (when (not (eqb k 2)) 12) _ (first_none (strip_fault k n) _ z).1 in
      let (place, frame) = first_none (when (leb (k ^ n) p) 4) _ more in (
        eqb-true k 2 (not-false _ (when-none _ 12 (λ e. omega arith) shades)),
        leb-false (k ^ n) p (when-none _ 4 (λ e. omega arith) place),
        frame_in c h (not-false _ (when-none _ 13 (λ e. omega arith) frame)),
      )

  pub frame_of : picture_fault k n p c h ≡ 0 → Frame c h
  frame_of z = let (_, _, f) = none z in f

  pub file-long : picture_fault k n p c h ≡ 0 → length (picture k n p c h) ≡ file_size c h
  file-long z = file-size k n p c h (frame_of z).some

-- the file of a picture that was checked
module _ {k n p c h : ℕ} (x : DP.Picture) (on : PictureOf k n p c h x) where
  pub same_file : picture x.strip.k x.strip.n x.place x.width x.height ≡ picture k n p c h
  same_file = rw (on.0.0, on.0.1, on.1, on.2, on.3) refl

  pub checked_long : length (picture k n p c h) ≡ file_size x.width x.height
  checked_long = ap length (sym same_file) ∙ file-size x.strip.k x.strip.n x.place x.width x.height x.drawable.frame.some

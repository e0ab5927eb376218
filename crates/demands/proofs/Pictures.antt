-- Pictures, down to the bytes: the file that is written is read back as the marks that are printed, and the parts that are told are the file.
use mathlib.Core.Path.{◌≡◌, refl, sym, ◌∙◌, ap, ap₂}
use mathlib.Core.Bool.{true}
use mathlib.Core.List.{List, ◌++◌}
use Prim.Native.Nat.{ℕ, ◌^◌, ◌≤◌, ◌<◌}
use native.Mathlib.Omega.{arith}
use lib.ListN.{length, take, drop}
use lib.Seq.{take_at, drop_at, take-take}
use borrow.Author.Tests.{le-leb}
use Rattle.theory.specs.Words.{repeated}
use Rattle.theory.specs.Strips.{admitted}
use Rattle.theory.specs.Plans.{be}
use Rattle.theory.proofs.Rings.{admitted_range}
use Rattle.calls.specs.Refusals.{picture_fault}
use Rattle.calls.specs.Answers.{or_short}
use Rattle.calls.proofs.Answers.{or_room}
use Rattle.shape.specs.declared.Lengths.TheVariants.{Divisors}
use Rattle.marks.specs.Says.{PrintSays}
use Rattle.pbm.specs.declared.Parts as DP
use Rattle.pbm.specs.Pictures.{picture, file_size, read_picture}
use Rattle.pbm.specs.Parts.{Frame, parts_room, Parted}
use Rattle.pbm.proofs.Rows.{file-size, most}
use Rattle.pbm.proofs.Reading.{back}
use Rattle.pbm.proofs.Drawing.{seam_before}
use Rattle.pictures.specs.Says.{PictureSays, BothSay}
use Rattle.pictures.specs.Requests.{head_for, row_for, rows_for, picture_for, PartsSay}
use Rattle.pictures.proofs.Requesting.{by_rows}
use Rattle.demands.proofs.Faults.{picture_faultless}
use Rattle.demands.proofs.Trays.{into_fine, beside_fine, tray_back}
use Rattle.demands.proofs.Marks.{printed}
use Rattle.calls.specs.declared.refusal.Refusal.{Refusal}
use Rattle.calls.specs.Codes.{number_of, value_of}
use Rattle.std.specs.Prelude.{Result}

-- what can be drawn on a strip of two shades
module _ (n p c h : ℕ) (a : admitted 2 n ≡ true) (l : p < 2 ^ n) (frame : Frame c h) where
  abbrev file : List ℕ
  file = picture 2 n p c h

  fine : picture_fault 2 n p c h ≡ 0
  fine = picture_faultless n p c h a l frame

  size : length file ≡ file_size c h
  size = file-size 2 n p c h frame.some

  pub picture-back : (t t' u u' : List ℕ) (r : Result ℕ Refusal) (q : ℕ) → file_size c h ≤ length t → c ≤ length u → PictureSays 2 n p c h t t' r → PrintSays 2 n p c u u' q
      → (number_of r ≡ 0) × (value_of r ≡ file_size c h) × (q ≡ 0)
      × (read_picture (take (value_of r) t') ≡ record { plain = true; width = c; height = h; marks = repeated h (take c u') })
  picture-back t t' u u' r q x y e f =
      let (number, value, is) = beside_fine (picture_fault 2 n p c h) (length file) file t r fine (omega (arith, size)) e in
      let (done, marks, _) = printed Divisors 2 n p c u u' q a l y f in
      let whole : take (value_of r) t' ≡ file = ap₂ take value is ∙ take_at file _ (length file) refl in
      let read = ap read_picture whole ∙ back 2 n p c h (omega arith) (omega arith) (admitted_range 2 n a).1 in
      (number, value ∙ size, done, read ∙ ap (λ w. record { plain = true; width = c; height = h; marks = repeated h w }) (sym marks))

  pub picture_both : (s s' t t' : List ℕ) (r : ℕ) → 8 ≤ length s → file_size c h ≤ length t → BothSay 2 n p c h s s' t t' r
      → (r ≡ 0) × (be 0 8 s' ≡ file_size c h) × (take (be 0 8 s') t' ≡ file)
  picture_both s s' t t' r x y e =
      let (number, is) = into_fine (or_short (picture_fault 2 n p c h) s) file t (or_room (picture_fault 2 n p c h) s x ∙ fine) (omega (arith, size)) e.0 in
      let told : be 0 8 s' ≡ length file = tray_back (length file) s (omega (arith, most 2 n p c h frame.wide frame.high)) (rw number at e).1 in
      (number, told ∙ size, ap₂ take told is ∙ take_at file _ (length file) refl)

-- the parts that are told
pub picture_by_rows : (s b t : List ℕ) (r : DP.Parts) → parts_room ≤ length b → PartsSay s b t r
    → take r.head t ++ repeated r.rows (drop r.head (take r.end t)) ≡ picture_for s
picture_by_rows s b t r room e =
    let q : Parted (head_for s) (row_for s) (rows_for s) b t r = rw (le-leb parts_room (length b) room) at e in
    let stands : take r.end t ≡ head_for s ++ row_for s = q.adds.stands in
    let head : take r.head t ≡ head_for s =
    sym (take-take r.head r.end t (seam_before q)) ∙ ap (take r.head) stands ∙ take_at (head_for s) (row_for s) r.head (sym q.seam) in
    let row : drop r.head (take r.end t) ≡ row_for s = ap (drop r.head) stands ∙ drop_at (head_for s) (row_for s) r.head (sym q.seam) in
    ap₂ ◌++◌ head (ap₂ repeated q.times row) ∙ by_rows s

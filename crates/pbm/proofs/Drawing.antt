-- A row drawn over the end of a buffer, and a file drawn from its head and first row.
use mathlib.Core.Path.{◌≡◌, refl, sym, ◌∙◌, ap, ap₂, subst}
use mathlib.Core.Bool.{true}
use mathlib.Core.List.{List, [], ◌++◌, append_assoc, append-nil}
use Prim.Native.Nat.{ℕ, ◌+◌, ◌-◌, ◌*◌, ◌^◌, ◌≤◌}
use native.Mathlib.Omega.{arith}
use native.Mathlib.Nat.{mul_comm, le-mul_of_pos_right}
use lib.ListN.{length, take, drop, length-append, take-append-drop, drop_of_length-le}
use lib.Seq.{length-take-le, take-take, take_at, drop_at, drop-drop}
use borrow.Rule.Slice.PartMut.{put_mid, post_of, Post-is, mid_len, same_len_mid}
use Rattle.theory.specs.Words.{marks_ok, repeated}
use Rattle.theory.specs.Steps.{extension}
use Rattle.theory.specs.Strips.{strip, marks_from}
use Rattle.theory.proofs.Letters.{marks_up}
use Rattle.theory.proofs.Powers.{repeated-length, extends_power, extends_extension}
use Rattle.theory.proofs.Reading.{letters-length}
use Rattle.theory.proofs.Rings.{strip-marks}
use Rattle.buffers.specs.Buffers.{over}
use Rattle.shape.specs.declared.Strip as DS
use Rattle.shape.proofs.Limits.{limits}
use Rattle.texts.specs.Texts.{Adds}
use Rattle.texts.proofs.Adding.{adds_within, adds_part, adds_more}
use Rattle.pbm.specs.declared.Parts as DP
use Rattle.pbm.specs.Pictures.{row_text, head_text, picture, row_size, file_size}
use Rattle.pbm.specs.Parts.{Drawable, Parted}
use Rattle.pbm.proofs.Rows.{row-length, file-size, rows_most}

-- what was put over the last part of a buffer
lent-end : (a : ℕ) (xs ys : List ℕ) → a ≤ length xs → drop a (put_mid a (length xs - a) xs ys) ≡ ys
lent-end a xs ys h =
    let none : post_of a (length xs - a) xs ≡ [] = Post-is a (length xs) xs h ∙ drop_of_length-le xs {i = length xs} (omega arith) in
    drop_at (take a xs) (ys ++ post_of a (length xs - a) xs) a (length-take-le a xs h) ∙ ap (λ r. ys ++ r) none ∙ append-nil ys

-- the digits of up to ten shades
module _ (s : DS.Strip) (ten : s.k ≤ 10) (p c : ℕ) where
  abbrev marks : List ℕ
  marks = marks_from s.k s.n p c

  digits : marks_ok 10 marks ≡ true
  digits = let l = limits s in marks_up s.k 10 marks ten (strip-marks s.k s.n p c l.two l.some)

  -- marks put over the last c bytes of a buffer that the row will fill
  module _ (some : 1 ≤ c) (out : List ℕ) (fits : length out ≡ row_size c) {last : List ℕ}
      (e : last ≡ marks_from s.k s.n p (length (take (length out - (length out - c)) (drop (length out - c) out)))) where
    abbrev put : List ℕ
    put = put_mid (length out - c) (length out - (length out - c)) out last

    behind : drop (length out - c) put ≡ marks
    behind =
        let lent : length (take (length out - (length out - c)) (drop (length out - c) out)) ≡ c = mid_len (length out - c) (length out) out (omega arith) ∙ omega arith in
        lent-end (length out - c) out last (omega arith) ∙ e ∙ ap (marks_from s.k s.n p) lent

    pub row_fits : (length put ≡ length (row_text (drop (length out - c) put))) × (marks_ok 10 (drop (length out - c) put) ≡ true)
    row_fits =
        let whole : length put ≡ length out = same_len_mid (length out - c) (length out - (length out - c)) out last (ap length e ∙ letters-length (s.k ^ s.n) (strip s.k s.n) p _) in
        (whole ∙ fits ∙ sym (ap (λ r. length (row_text r)) behind ∙ row-length s.k s.n p c some), subst (λ r. marks_ok 10 r ≡ true) (sym behind) digits)

-- any two parts: where they end
module _ {head row : List ℕ} {rows : ℕ} {b t : List ℕ} {r : DP.Parts} (q : Parted head row rows b t r) where
  pub seam_before : r.head ≤ r.end
  seam_before = omega (arith, q.adds.ends, q.seam, length-append head row)

  pub end_within : r.end ≤ length t
  end_within = adds_within q.adds (omega arith)

-- the head and the row behind it
module _ {s : DS.Strip} {p c h : ℕ} (d : Drawable s p c h) where
  abbrev row : List ℕ
  row = row_text (marks_from s.k s.n p c)

  long : length row ≡ row_size c
  long = row-length s.k s.n p c d.frame.some

  pub both_parts : {b T x : List ℕ} {e r : ℕ} → Adds b 0 (head_text c h) T e → length T ≡ length b → length (head_text c h) + row_size c ≤ length b → r ≡ row_size c → x ≡ row
      → Parted (head_text c h) row h b (put_mid e (e + r - e) T x) (record { head = e; end = e + r; rows = h })
  both_parts {b} {T = T} {x = x} {e = e} {r = r} a same fits f g =
      let part = adds_part T x e (e + r) (omega arith) (omega (arith, a.ends)) (ap length g ∙ omega (arith, long)) in
      record { adds = subst (λ y. Adds b 0 (head_text c h ++ y) (put_mid e (e + r - e) T x) (e + r)) g (adds_more a part); seam = omega (arith, a.ends); times = refl }

  -- the whole file, with the row repeated
  module _ {b T : List ℕ} {r : DP.Parts} (q : Parted (head_text c h) row h b T r) where
    row_there : r.end - r.head ≡ row_size c
    row_there = omega (arith, q.adds.ends, q.seam, length-append (head_text c h) row, long)

    pub rows_small : (r.end - r.head) * h ≤ 3894912
    rows_small = omega (arith, ap (λ x. x * h) row_there, mul_comm (row_size c) h, rows_most c h d.frame.wide d.frame.high)

    pub ends_there : r.head + (r.end - r.head) * h ≡ file_size c h
    ends_there = omega (arith, q.seam, ap (λ x. x * h) row_there, mul_comm (row_size c) h)

    one-row : r.end - r.head ≤ (r.end - r.head) * h
    one-row = le-mul_of_pos_right (r.end - r.head) d.frame.row

    -- the buffer from the seam on
    parted : T ≡ head_text c h ++ (row ++ drop r.end T)
    parted = sym (take-append-drop r.end T) ∙ ap (λ x. x ++ drop r.end T) q.adds.stands ∙ append_assoc (head_text c h) row (drop r.end T)

    rest : drop r.head T ≡ row ++ drop r.end T
    rest = ap (drop r.head) parted ∙ drop_at (head_text c h) (row ++ drop r.end T) r.head (sym q.seam)

    front : take r.head T ≡ head_text c h
    front = ap (take r.head) parted ∙ take_at (head_text c h) (row ++ drop r.end T) r.head (sym q.seam)

    module _ (fits : file_size c h ≤ length b) (same : length T ≡ length b) where
      abbrev end : ℕ
      end = r.head + (r.end - r.head) * h

      abbrev lent : List ℕ
      lent = take (end - r.head) (drop r.head T)

      pub end_fits : end ≤ length T
      end_fits = omega (arith, ends_there)

      lent-long : length lent ≡ h * length row
      lent-long = mid_len r.head end T end_fits ∙ omega (arith, ap (λ x. x * h) row_there, mul_comm (row_size c) h, ap (λ x. h * x) long)

      first : take (r.end - r.head) lent ≡ row
      first =
          take-take (r.end - r.head) (end - r.head) (drop r.head T) (omega (arith, one-row)) ∙ ap (take (r.end - r.head)) rest
          ∙ take_at row (drop r.end T) (r.end - r.head) (long ∙ sym row_there)

      pub row-lent : (1 ≤ r.end - r.head) × (r.end - r.head ≤ length lent)
      row-lent = (omega (arith, row_there, d.frame.some), omega (arith, lent-long, one-row, ap (λ x. x * h) row_there, mul_comm (row_size c) h, ap (λ x. h * x) long))

      pub file_drawn : {rows : List ℕ} → rows ≡ extension (length lent) (take (r.end - r.head) lent) → put_mid r.head (end - r.head) T rows ≡ over (picture s.k s.n p c h) b
      file_drawn {rows} e =
          let is : rows ≡ repeated h row = e ∙ ap₂ extension (lent-long ∙ sym (repeated-length h row)) first ∙ sym (extends_extension (omega (arith, long, d.frame.some)) (extends_power h row)) in
          let size : length rows ≡ end - r.head = ap length is ∙ repeated-length h row ∙ sym lent-long ∙ mid_len r.head end T end_fits in
          let a = adds_part T rows r.head end (omega arith) end_fits size in
          let P = put_mid r.head (end - r.head) T rows in
          let past : r.end + (end - r.end) ≡ end = omega (arith, one-row, seam_before q) in
          let tail : drop end T ≡ drop end b =
          subst (λ x. drop x T ≡ drop x b) past (sym (drop-drop (end - r.end) r.end T) ∙ ap (drop (end - r.end)) q.adds.behind ∙ drop-drop (end - r.end) r.end b) in
          let all : end ≡ length (picture s.k s.n p c h) = ends_there ∙ sym (file-size s.k s.n p c h d.frame.some) in
          sym (take-append-drop end P) ∙ ap₂ ◌++◌ (a.stands ∙ ap₂ ◌++◌ front is) (a.behind ∙ tail) ∙ ap (λ x. picture s.k s.n p c h ++ drop x b) all

-- Where a held word ends: on the strip as many letters as the CS of its power has words, on the short ring n for each word up to it (document 004,
-- Lemma 22).
use mathlib.Core.Path.{◌≡◌, sym, ◌∙◌, ap, subst}
use mathlib.Core.Bool.{true}
use mathlib.Core.List.{List, ◌++◌}
use Prim.Native.Nat.{ℕ, suc, ◌+◌, ◌-◌, ◌*◌, ◌≤◌}
use native.Mathlib.Omega.{arith}
use native.Mathlib.Nat.{le-mul_of_pos_right}
use lib.ListN.{length, take}
use lib.Seq.{take-append_seam}
use Rattle.shape.specs.declared.Strip as DS
use Rattle.shape.specs.declared.Lengths.{Lengths}
use Rattle.shape.specs.declared.Lengths.TheVariants.{Divisors, Whole}
use Rattle.shape.specs.Shapes.{WordOn}
use Rattle.shape.specs.Rings.{ok_of}
use Rattle.shape.proofs.Rings.{allowed_of}
use Rattle.shape.proofs.Limits.{limits}
use Rattle.rings.specs.Moves.{HeldOn}
use Rattle.rings.proofs.Moving.{held-length, held_in}
use Rattle.theory.specs.Words.{repeated, marks_ok, power_to, rank}
use Rattle.theory.specs.Lists.{In}
use Rattle.theory.specs.Steps.{extension}
use Rattle.theory.specs.Rings.{ring_words, before_w}
use Rattle.theory.specs.Prenecklaces.{Prenecklace}
use Rattle.theory.proofs.Letters.{marks-repeated}
use Rattle.theory.proofs.Lyndon.{necklace_pre}
use Rattle.theory.proofs.Powers.{repeated_add, repeated-length}
use Rattle.theory.proofs.Necklaces.{power_necklace}
use Rattle.theory.proofs.Rotations.{Fits, power_is, power_length, power_self, ring_fits}
use Rattle.theory.proofs.Ends.{strip_ends, short_ends}
use Rattle.theory.proofs.Shorts.{short_words_lem}
use Rattle.access.specs.Holders.{end_in}

-- the word repeated to the end of n letters is its power
extension_power : {n : ℕ} {u : List ℕ} → Fits n u → extension n u ≡ power_to n u
extension_power {n} {u} m =
    let long : length (repeated (suc m.times) u) ≡ n = repeated-length (suc m.times) u ∙ m.whole in
    let enough : suc m.times ≤ n = subst (λ x. suc m.times ≤ x) m.whole (le-mul_of_pos_right (suc m.times) m.lyndon.some) in
    let parts : n ≡ suc m.times + (n - suc m.times) = omega arith in
    ap (take n) (ap (λ i. repeated i u) parts ∙ repeated_add (suc m.times) (n - suc m.times) u)
    ∙ ap (λ i. take i (repeated (suc m.times) u ++ repeated (n - suc m.times) u)) (sym long)
    ∙ take-append_seam (repeated (suc m.times) u) (repeated (n - suc m.times) u) ∙ sym (power_is m)

-- a word of a ring ends where so many letters are
ends_in : (lengths : Lengths) (s : DS.Strip) (u : List ℕ) → In u (ring_words (ok_of lengths s.n) s.k s.n) → Fits s.n u
    → before_w u (ring_words (ok_of lengths s.n) s.k s.n) + length u ≡ end_in lengths s (power_to s.n u)
ends_in Divisors s u i fit = strip_ends s.k s.n u (limits s).some i
ends_in Whole s u i fit =
    short_ends s.k s.n u (limits s).some i ∙ ap (λ x. s.n * rank s.k x) (sym (power_self fit ((short_words_lem s.k s.n u).0 i).0))

module _ {lengths : Lengths} {s : DS.Strip} {w : List ℕ} {long : ℕ} (h : HeldOn lengths s w long) {v : List ℕ} (e : v ≡ extension (length w) (take long w)) where
  abbrev u : List ℕ
  u = take long w

  fit : Fits s.n u
  fit = ring_fits (ok_of lengths s.n) s.k s.n (limits s).some (allowed_of lengths s.n (limits s).some) (held_in h)

  is_power : v ≡ power_to s.n u
  is_power = e ∙ ap (λ n. extension n u) h.size ∙ extension_power fit

  word : WordOn s v
  word = record {
    long = ap length is_power ∙ power_length fit;
    marks = subst (λ x. marks_ok s.k x ≡ true) (sym (is_power ∙ power_is fit)) (marks-repeated s.k (suc fit.times) u h.marks);
  }

  pub ending_asks : WordOn s v × Prenecklace v
  ending_asks = (word, subst Prenecklace (sym (is_power ∙ power_is fit)) (necklace_pre (power_necklace (suc fit.times) fit.lyndon)))

  -- the end of the word
  pub ends_at : {end : ℕ} → end ≡ end_in lengths s v → before_w u (ring_words (ok_of lengths s.n) s.k s.n) + long ≡ end
  ends_at {end} g =
      ap (λ l. before_w u (ring_words (ok_of lengths s.n) s.k s.n) + l) (sym (held-length h))
      ∙ ends_in lengths s u (held_in h) fit ∙ ap (end_in lengths s) (sym is_power) ∙ sym g

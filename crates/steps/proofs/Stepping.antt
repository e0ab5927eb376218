-- The step to the next Lyndon word in a buffer: the extension grows by the letter a period back; then the last letters k−1 are
-- cleared from the end and the letter before them is raised.
use mathlib.Core.Path.{◌≡◌, sym, ◌∙◌, ap, ap₂, subst}
use mathlib.Core.List.{List, [], ◌∷◌, ◌++◌, append_assoc}
use Prim.Native.Nat.{ℕ, suc, ◌+◌, ◌-◌, ◌≤◌, ◌<◌}
use native.Mathlib.Numerals.{add-one}
use native.Mathlib.Omega.{arith}
use lib.ListN.{length, get_or, set, take, drop, replicate, length-append, length-set, get_or-append}
use lib.Seq.{drop-cons, split_at, length-take-le, set_at, get_or_at, get_or-append-add}
use Rattle.theory.specs.Steps.{extension, raised}
use Rattle.theory.proofs.Order.{prefix}
use Rattle.theory.proofs.Powers.{Extends, extends, extends_one, extension-length, extension_extends}
use Rattle.theory.proofs.Letters.{marks_getD, marks-extension}
use Rattle.theory.proofs.Next.{raised_at, top_raised}
use Rattle.lyndon.specs.Letters.{Lettered}
use Rattle.steps.specs.Steps.{padded, Held}
use Rattle.buffers.proofs.Fills.{Filled, filled-read, filled_write, filled_more}

-- the extension letter by letter
pub extension_more : (x : List ℕ) (j : ℕ) → 0 < length x → length x ≤ j → extension (suc j) x ≡ extension j x ++ (get_or (extension j x) (j - length x) 0 ∷ [])
extension_more x j h l = elim (extends_one (suc j) (omega (arith, extension-length j x h)) h (extension_extends j x) (extension_extends (suc j) x) (omega (arith, extension-length j x h, extension-length (suc j) x h))) [
  | prefix t e ↦ one t e
]
  where
    long : length (extension j x) ≡ j
    long = extension-length j x h

    -- the letter at j is the one at j in x ++ the extension
    back : (b : ℕ) → Extends x (extension j x ++ (b ∷ [])) → get_or (extension j x) (j - length x) 0 ≡ b
    back b (extends (prefix s e)) =
        let w = extension j x in
        let i : length x + (j - length x) ≡ j = omega arith in
        sym (get_or-append w (b ∷ []) 0 (j - length x) (omega (arith, long)))
        ∙ sym (get_or-append-add x (w ++ (b ∷ [])) (j - length x) 0)
        ∙ ap₂ (λ y m. get_or y m 0) e i
        ∙ get_or-append (w ++ (b ∷ [])) s 0 j (omega (arith, long, length-append w (b ∷ [])))
        ∙ get_or_at w b [] 0 j long

    one : (t : List ℕ) → extension (suc j) x ≡ extension j x ++ t → extension (suc j) x ≡ extension j x ++ (get_or (extension j x) (j - length x) 0 ∷ [])
    one [] e = absurd (omega (arith, ap length e, length-append (extension j x) [], long, extension-length (suc j) x h))
    one (b ∷ []) e = e ∙ ap (λ r. extension j x ++ (r ∷ [])) (sym (back b (subst (Extends x) e (extension_extends (suc j) x))))
    one (b ∷ (c ∷ t)) e = absurd (omega (arith, ap length e, length-append (extension j x) (b ∷ (c ∷ t)), long, extension-length (suc j) x h))

-- the buffer before the letter at j is written
pub record Extending (w₀ : List ℕ) (n : ℕ) (w : List ℕ) (j : ℕ) : Type 0 where
  pub behind : n ≤ j
  pub within : j ≤ length w₀
  pub size : length w ≡ length w₀
  pub word : w ≡ extension j (take n w₀) ++ drop j w₀

module _ (w₀ : List ℕ) (n : ℕ) (some : 1 ≤ n) (fits : n ≤ length w₀) where
  front : length (take n w₀) ≡ n
  front = length-take-le n w₀ fits

  long : (j : ℕ) → length (extension j (take n w₀)) ≡ j
  long j = extension-length j (take n w₀) (omega (arith, front))

  pub extending_more : {w : List ℕ} {j : ℕ} → Extending w₀ n w j → j < length w₀ → Extending w₀ n (set w j (get_or w (j - n) 0)) (j + 1)
  extending_more {w} {j} f l = record { behind = omega arith; within = omega arith; size = length-set w j (get_or w (j - n) 0) ∙ f.size; word = ap₂ (λ y a. set y j a) parted letter ∙ set_at x (get_or w₀ j 0) (drop (suc j) w₀) v j (long j) ∙ sym grown }
    where
      x : List ℕ
      x = extension j (take n w₀)

      v : ℕ
      v = get_or x (j - n) 0

      parted : w ≡ x ++ (get_or w₀ j 0 ∷ drop (suc j) w₀)
      parted = f.word ∙ ap (λ r. x ++ r) (drop-cons w₀ j 0 l)

      letter : get_or w (j - n) 0 ≡ v
      letter = ap (λ y. get_or y (j - n) 0) f.word ∙ get_or-append x (drop j w₀) 0 (j - n) (omega (arith, f.behind, long j))

      grown : extension (j + 1) (take n w₀) ++ drop (j + 1) w₀ ≡ x ++ (v ∷ drop (suc j) w₀)
      grown = ap (λ m. extension m (take n w₀) ++ drop m w₀) (add-one j) ∙ ap (λ y. y ++ drop (suc j) w₀) (extension_more (take n w₀) j (omega (arith, front)) (omega (arith, front, f.behind)) ∙ ap (λ m. x ++ (get_or x (j - m) 0 ∷ [])) front) ∙ append_assoc x (v ∷ []) (drop (suc j) w₀)

-- the buffer before the letter at i − 1 is looked at: zeros, where letters k−1 were
pub record Raising (z : ℕ) (w₀ w : List ℕ) (i : ℕ) : Type 0 where
  pub filled : Filled 0 w₀ w i
  pub tops : drop i w₀ ≡ replicate (length w₀ - i) z

module _ {k : ℕ} {w₀ : List ℕ} (ok : Lettered k w₀) {w : List ℕ} {i : ℕ} (f : Raising (k - 1) w₀ w i) where
  k_is : suc (k - 1) ≡ k
  k_is = omega (arith, ok.some)

  pub raising_more : 0 < i → k - 1 ≤ get_or w (i - 1) 0 → Raising (k - 1) w₀ (set w (i - 1) 0) (i - 1)
  raising_more some h = record { filled = filled_more f.filled some; tops = drop-cons w₀ (i - 1) 0 (omega (arith, f.filled.within)) ∙ ap₂ ◌∷◌ letter (ap (λ m. drop m w₀) j ∙ f.tops) ∙ ap (λ m. replicate m (k - 1)) n }
    where
      j : suc (i - 1) ≡ i
      j = omega arith

      n : suc (length w₀ - i) ≡ length w₀ - (i - 1)
      n = omega (arith, f.filled.within)

      letter : get_or w₀ (i - 1) 0 ≡ k - 1
      letter = omega (arith, filled-read f.filled some, marks_getD k w₀ (i - 1) (omega (arith, f.filled.within)) ok.marks)

  raised_is : 0 < i → get_or w (i - 1) 0 < k - 1 → raised k w₀ ≡ take (i - 1) w₀ ++ (suc (get_or w (i - 1) 0) ∷ [])
  raised_is some h = ap₂ raised (sym k_is) word ∙ raised_at (k - 1) (take (i - 1) w₀) (get_or w (i - 1) 0) (length w₀ - i) h
    where
      j : suc (i - 1) ≡ i
      j = omega arith

      word : w₀ ≡ take (i - 1) w₀ ++ (get_or w (i - 1) 0 ∷ replicate (length w₀ - i) (k - 1))
      word = split_at w₀ (i - 1) 0 (omega (arith, f.filled.within)) ∙ ap₂ (λ a y. take (i - 1) w₀ ++ (a ∷ y)) (sym (filled-read f.filled some)) (ap (λ m. drop m w₀) j ∙ f.tops)

  raised_long : 0 < i → get_or w (i - 1) 0 < k - 1 → i ≡ length (raised k w₀)
  raised_long some h = omega (arith, f.filled.within, ap length (raised_is some h), length-append (take (i - 1) w₀) (suc (get_or w (i - 1) 0) ∷ []), length-take-le (i - 1) w₀ (omega (arith, f.filled.within)))

  pub raising_done : 0 < i → get_or w (i - 1) 0 < k - 1
      → (set w (i - 1) (get_or w (i - 1) 0 + 1) ≡ padded (length w₀) (raised k w₀)) × (i ≡ length (raised k w₀))
  raising_done some h = (buffer, raised_long some h)
    where
      a : ℕ
      a = get_or w (i - 1) 0

      buffer : set w (i - 1) (a + 1) ≡ padded (length w₀) (raised k w₀)
      buffer = filled_write f.filled some (a + 1) ∙ ap (λ b. take (i - 1) w₀ ++ (b ∷ replicate (length w₀ - i) 0)) (add-one a) ∙ sym (append_assoc (take (i - 1) w₀) (suc a ∷ []) (replicate (length w₀ - i) 0)) ∙ sym (ap₂ (λ y m. y ++ replicate (length w₀ - m) 0) (raised_is some h) (sym (raised_long some h)))

  pub raising_all : i ≤ 0 → (w ≡ padded (length w₀) (raised k w₀)) × (0 ≡ length (raised k w₀))
  raising_all none = (f.filled.word ∙ ap (λ m. take m w₀ ++ replicate (length w₀ - m) 0) zero_i ∙ ap (padded (length w₀)) (sym left), ap length (sym left))
    where
      zero_i : i ≡ 0
      zero_i = omega arith

      left : raised k w₀ ≡ []
      left = ap₂ raised (sym k_is) (ap (λ m. drop m w₀) (sym zero_i) ∙ f.tops) ∙ top_raised (k - 1) (length w₀ - i)

-- what the extension is raised from
module _ {k : ℕ} {w : List ℕ} {n : ℕ} (held : Held k w n) {v : List ℕ} (is : v ≡ extension (length w) (take n w)) where
  pub extension_lettered : Lettered k v
  extension_lettered = subst (Lettered k) (sym is) (record { some = held.lettered.some; byte = held.lettered.byte; marks = marks-extension k (length w) (take n w) held.lettered.marks })

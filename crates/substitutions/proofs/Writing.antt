-- Entries that are written one after the other: what is written of some changes and then, on the rest of the buffer, of others, is written of both; and so in a
-- loop over numbers in a row.
use mathlib.Core.Path.{◌≡◌, refl, sym, ◌∙◌, ap, ap₂}
use mathlib.Core.List.{List, [], ◌∷◌, ◌++◌}
use Prim.Native.Nat.{ℕ, ◌+◌, ◌-◌, ◌*◌, ◌≤◌, ◌<◌}
use native.Mathlib.Omega.{arith}
use lib.ListN.{length, take, drop, length-append, length-take, length-drop}
use borrow.Rule.Slice.PartMut.{put_mid}
use Rattle.theory.specs.Lists.{gather, count_from}
use Rattle.theory.specs.Substitutions.{Change, new_place, laid_of}
use Rattle.theory.specs.Plans.{laid_at}
use Rattle.theory.proofs.Lists.{keep_append, gather_append, gather_next, gather_part}
use Rattle.theory.proofs.Counts.{keep-length}
use Rattle.buffers.specs.Buffers.{over}
use Rattle.buffers.proofs.Bytes.{handed_on, over-length}
use Rattle.substitutions.specs.Entries.{entry_bytes, list_bytes, Wrote}

-- what is left of a buffer behind so many entries
abbrev pub rest_of : ℕ → List ℕ → List ℕ
rest_of f t = take (length t - 10 * f) (drop (10 * f) t)

module _ (s w : List ℕ) where
  pub entries_long : (cs : List Change) → length (list_bytes s w cs) ≡ 10 * length cs
  entries_long [] = refl
  entries_long (c ∷ cs) = length-append (entry_bytes s w c) (list_bytes s w cs) ∙ omega (arith, entries_long cs)

  pub laid_few : (cs : List Change) → length (laid_of s w cs) ≤ length cs
  laid_few cs = keep-length (λ c. laid_at s (new_place s w c)) cs

-- so many entries are written of some changes
module _ {s w : List ℕ} {xs : List Change} {t T : List ℕ} {f : ℕ} (front : Wrote s w xs t T f) where
  pub front_few : f ≤ length xs
  front_few = omega (arith, front.count, laid_few s w xs)

  front_long : length (list_bytes s w (laid_of s w xs)) ≡ 10 * f
  front_long = entries_long s w (laid_of s w xs) ∙ ap (λ x. 10 * x) (sym front.count)

  pub front-size : 10 * length xs ≤ length t → length T ≡ length t
  front-size room = ap length front.bytes ∙ over-length (list_bytes s w (laid_of s w xs)) t (omega (arith, front_long, front_few))

  -- and others on the rest
  module _ (ys : List Change) (room : 10 * (length xs + length ys) ≤ length t) where
    pub rest-room : 10 * length ys ≤ length (rest_of f T)
    rest-room = omega (arith, front-size (omega arith), front_few, length-take (length T - 10 * f) (drop (10 * f) T), length-drop (10 * f) T)

    pub wrote_on : {L : List ℕ} {g : ℕ} → Wrote s w ys (rest_of f T) L g → Wrote s w (xs ++ ys) t (put_mid (10 * f) (length T - 10 * f) T L) (f + g)
    wrote_on {L} {g} back =
        let F = list_bytes s w (laid_of s w xs) in
        let G = list_bytes s w (laid_of s w ys) in
        let both : laid_of s w (xs ++ ys) ≡ laid_of s w xs ++ laid_of s w ys = keep_append (λ c. laid_at s (new_place s w c)) xs ys in
        record {
          count = ap₂ ◌+◌ front.count back.count ∙ sym (ap length both ∙ length-append (laid_of s w xs) (laid_of s w ys));
          bytes =
              handed_on F G t T L (10 * f) front_long (front.bytes ∙ ap (λ i. F ++ drop i t) front_long) back.bytes (omega (arith, front_few))
              ∙ ap (λ b. over b t) (sym (ap (list_bytes s w) both ∙ gather_append (entry_bytes s w) (laid_of s w xs) (laid_of s w ys)));
        }

-- a loop over the m numbers from a on, each with its changes: those of the first i numbers are written
pub record Writing (s w : List ℕ) (f : ℕ → List Change) (m a : ℕ) (t T : List ℕ) (x i : ℕ) : Type 0 where
  pub within : i ≤ m
  pub room : 10 * length (gather f (count_from m a)) ≤ length t
  pub few : 10 * x ≤ length t
  pub wrote : Wrote s w (gather f (count_from i a)) t T x

module _ {s w : List ℕ} {f : ℕ → List Change} {m a : ℕ} {t T : List ℕ} {x i : ℕ} (h : Writing s w f m a t T x i) where
  module _ (l : i < m) {e : ℕ} (is : e ≡ a + i) where
    next : gather f (count_from (i + 1) a) ≡ gather f (count_from i a) ++ f e
    next = gather_next f i a ∙ ap (λ j. gather f (count_from i a) ++ f j) (sym is)

    next_room : 10 * (length (gather f (count_from i a)) + length (f e)) ≤ length t
    next_room = omega (arith, h.room, gather_part f (i + 1) m a (omega arith), ap length next, length-append (gather f (count_from i a)) (f e))

    pub writing_room : 10 * length (f e) ≤ length (rest_of x T)
    writing_room = rest-room h.wrote (f e) next_room

    pub writing_more : {L : List ℕ} {y j : ℕ} → j ≡ i + 1 → Wrote s w (f e) (rest_of x T) L y → Writing s w f m a t (put_mid (10 * x) (length T - 10 * x) T L) (x + y) j
    writing_more {L} {y} {j} one g =
        let wrote : Wrote s w (gather f (count_from j a)) t (put_mid (10 * x) (length T - 10 * x) T L) (x + y) = rw (one, next) (wrote_on h.wrote (f e) next_room g) in
        record { within = omega arith; room = h.room; few = omega (arith, front_few wrote, h.room, gather_part f j m a (omega arith)); wrote = wrote }

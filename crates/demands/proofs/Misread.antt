-- Lists of misreadings, down to the bytes: what each entry says, that none is missing, and their order; the two calls that write one.
use mathlib.Core.Path.{◌≡◌, refl, sym, ◌∙◌, ap, ap₂, subst}
use mathlib.Core.Bool.{true}
use mathlib.Core.List.{List, [], ◌∷◌, ◌++◌}
use Prim.Native.Nat.{ℕ, zero, suc, ◌+◌, ◌-◌, ◌*◌, ◌^◌, ◌≤◌, ◌<◌}
use native.Mathlib.Omega.{arith}
use native.Mathlib.Nat.{zero-add}
use lib.Dec.{eqb}
use lib.ListN.{length, get_or, take, drop}
use lib.Seq.{drop-drop, drop-append-add, drop_at}
use Rattle.theory.specs.Words.{pick, below, marks_ok}
use Rattle.theory.specs.Lists.{In}
use Rattle.theory.specs.Strips.{window}
use Rattle.theory.specs.Plans.{be, be_from, shades, marks, plan_fault, laid_at, lookup_fault}
use Rattle.theory.specs.Substitutions.{Change, change, changed, new_place, misread, key_of}
use Rattle.theory.proofs.Lists.{getD_in, index, in_index, key_index}
use Rattle.theory.proofs.Letters.{marks-set}
use Rattle.theory.proofs.Rings.{one_place}
use Rattle.theory.proofs.Faults.{word_fine}
use Rattle.theory.proofs.Laying.{plan_good, lookup_good, laid_window}
use Rattle.theory.proofs.Substitutions.{changed-length, misread_in, in_misread, ordered, few, most}
use Rattle.shape.proofs.Limits.{Limits, admitted_limits}
use Rattle.buffers.specs.Buffers.{over}
use Rattle.numbers.proofs.Numbers.{put-read}
use Rattle.calls.specs.Answers.{Into}
use Rattle.calls.proofs.Answers.{or_room}
use Rattle.substitutions.specs.Entries.{entry_bytes, list_bytes}
use Rattle.substitutions.proofs.Writing.{entries_long}
use Rattle.misreadings.specs.Says.{entries_of, MisreadingsSays, MisreadingListSays}
use Rattle.demands.specs.Demands.{Nearby, change_in, new_place_in, ListTold}
use Rattle.demands.proofs.Trays.{into_fine, answered, tray_back}
use Rattle.calls.specs.declared.refusal.Refusal.{Refusal}
use Rattle.calls.specs.Codes.{number_of, value_of}
use Rattle.std.specs.Prelude.{Result}

-- the bytes of a list from entry i on begin with that entry
entry_at : (s w : List ℕ) (cs : List Change) (rest : List ℕ) (i : ℕ) → i < length cs
    → (r : List ℕ) × (drop (10 * i) (list_bytes s w cs ++ rest) ≡ entry_bytes s w (get_or cs i (change 0 0)) ++ r)
entry_at s w [] rest i h = absurd (omega arith)
entry_at s w (c ∷ cs) rest zero h = (list_bytes s w cs ++ rest, refl)
entry_at s w (c ∷ cs) rest (suc i) h =
    let (r, e) = entry_at s w cs rest i (omega arith) in
    let next : 10 * suc i ≡ 10 + 10 * i = omega arith in
    (r, ap (λ m. drop m (list_bytes s w (c ∷ cs) ++ rest)) next ∙ drop-append-add (entry_bytes s w c) (list_bytes s w cs ++ rest) (10 * i) ∙ e)

-- of bytes that begin with an entry at a place: the change, and the place that it leads to
entry_read : (s w t : List ℕ) (c : Change) (i : ℕ) (r : List ℕ) → new_place s w c < 2 ^ 64 → drop (10 * i) t ≡ entry_bytes s w c ++ r
    → (change_in t i ≡ c) × (new_place_in t i ≡ new_place s w c)
entry_read s w t c i r small e =
    let first : be (10 * i) 1 t ≡ c.mark = ap (λ b. be_from 0 (take 1 b)) e ∙ zero-add c.mark in
    let second : be (10 * i + 1) 1 t ≡ c.shade = ap (λ b. be_from 0 (take 1 b)) (sym (drop-drop 1 (10 * i) t) ∙ ap (drop 1) e) ∙ zero-add c.shade in
    let place : be (10 * i + 2) 8 t ≡ new_place s w c = ap (λ b. be_from 0 (take 8 b)) (sym (drop-drop 2 (10 * i) t) ∙ ap (drop 2) e) ∙ put-read 8 (new_place s w c) small in
    (ap₂ change first second, place)

-- a laid window: its nearby changes are the listed ones
module _ (s w : List ℕ) (fine : lookup_fault s w ≡ 0) where
  good : plan_fault s ≡ 0
  good = (lookup_good s w fine).0

  word : (length w ≡ marks s) × (marks_ok (shades s) w ≡ true)
  word = word_fine (shades s) (marks s) w (lookup_good s w fine).1

  lim : Limits (shades s) (marks s)
  lim = admitted_limits (shades s) (marks s) (plan_good s good).1

  nearby_listed : {c : Change} {p : ℕ} → Nearby s w c p → In c (misread s w) × (new_place s w c ≡ p)
  nearby_listed {c} {p} near =
      let place : new_place s w c ≡ p = one_place.only (shades s) (marks s) p (changed c w) lim.two lim.some near.on_strip near.reads in
      (in_misread s w word.1 c near.inside near.shade near.other (ap (laid_at s) place ∙ near.laid), place)

  listed_nearby : {c : Change} → In c (misread s w) → Nearby s w c (new_place s w c)
  listed_nearby {c} i =
      let (inside, small, other, laid) = misread_in s w word.1 i in
      let (below_end, reads) = one_place.found (shades s) (marks s) (changed c w) lim.two lim.some (changed-length w c ∙ word.0) (marks-set (shades s) w c.mark c.shade small word.1) in
      record { inside = inside; shade = small; other = other; on_strip = below_end; reads = reads; laid = laid }

  -- no list is long
  list_short : length (misread s w) ≤ 385
  list_short = omega (arith, few s w word.1, ap (λ n. n * (shades s - 1)) word.0, most (shades s) (marks s) (plan_good s good).1)

  -- the list in a tray
  module _ (t : List ℕ) {t' : List ℕ} (tray : t' ≡ over (entries_of s w) t) where
    abbrev nth : ℕ → Change
    nth i = get_or (misread s w) i (change 0 0)

    told_at : (i : ℕ) → i < length (misread s w) → (change_in t' i ≡ nth i) × (new_place_in t' i ≡ new_place s w (nth i))
    told_at i h =
        let (rest, e) = entry_at s w (misread s w) (drop (length (entries_of s w)) t) i h in
        let near = listed_nearby (getD_in (misread s w) i (change 0 0) h) in
        entry_read s w t' (nth i) i rest (omega (arith, near.on_strip, lim.range)) (ap (drop (10 * i)) tray ∙ e)

    told : ListTold s w t t' (length (misread s w))
    told = record {
      all = λ c p near. let (i, place) = nearby_listed near in found i place;
      only = λ i h.
          let (is, place) = told_at i h in
          subst (λ p. Nearby s w (change_in t' i) p) (sym place) (subst (λ c. Nearby s w c (new_place s w (nth i))) (sym is) (listed_nearby (getD_in (misread s w) i (change 0 0) h)));
      ordered = λ i j h l.
          ap₂ (λ c d. below (key_of w c) (key_of w d)) (told_at i (omega arith)).0 (told_at j l).0 ∙ key_index (key_of w) (misread s w) (change 0 0) i j (ordered s w) h l;
      behind =
          let long = entries_long s w (misread s w) in
          ap (drop (10 * length (misread s w))) tray ∙ drop_at (entries_of s w) _ (10 * length (misread s w)) long ∙ ap (λ m. drop m t) long;
    }
      where
        found : {c : Change} {p : ℕ} → In c (misread s w) → new_place s w c ≡ p → (i : ℕ) × (i < length (misread s w)) × (change_in t' i ≡ c) × (new_place_in t' i ≡ p)
        found {c} {p} listed place = elim (in_index (change 0 0) listed) [
          | index i h e ↦ let (is, leads) = told_at i h in (i, h, is ∙ e, leads ∙ ap (new_place s w) e ∙ place)
        ]

pub misread_told : (s w t t' : List ℕ) (r : Result ℕ Refusal) → MisreadingsSays s w t t' r → number_of r ≡ 0 → ListTold s w t t' (value_of r)
misread_told s w t t' r e z =
    let (fine, tray) = answered (lookup_fault s w) (entries_of s w) t e.0 z in
    let value : value_of r ≡ length (misread s w) = (rw z at e).1 in
    subst (ListTold s w t t') (sym value) (told s w fine t tray)

-- a window that is laid is answered
pub misread_answers : (s : List ℕ) (p : ℕ) (t t' : List ℕ) (r : Result ℕ Refusal) → plan_fault s ≡ 0 → laid_at s p ≡ true → 3850 ≤ length t
    → MisreadingsSays s (window (shades s) (marks s) p) t t' r → number_of r ≡ 0
misread_answers s p t t' r good laid room e =
    let w = window (shades s) (marks s) p in
    let fine = laid_window s p good laid in
    (into_fine (lookup_fault s w) (entries_of s w) t fine (omega (arith, entries_long s w (misread s w), list_short s w fine)) e.0).0

-- the two calls
pub misread_both : (s w c c' t t' u : List ℕ) (r : Result ℕ Refusal) (q : ℕ) → 8 ≤ length c → MisreadingsSays s w t t' r → MisreadingListSays s w c c' t u q
    → (q ≡ number_of r) × (u ≡ t') × (q ≡ 0 → be 0 8 c' ≡ value_of r)
misread_both s w c c' t t' u r q room e f =
    let list : Into (lookup_fault s w) (pick (eqb (lookup_fault s w) 0) (entries_of s w) []) t u q = subst (λ g. Into g (pick (eqb g 0) (entries_of s w) []) t u q) (or_room (lookup_fault s w) c room) f.0 in
    let number : q ≡ number_of r = list.0 ∙ sym e.0.0 in
    (number, list.1 ∙ sym e.0.1, λ z. count list z (sym number ∙ z))
  where
    count : Into (lookup_fault s w) (pick (eqb (lookup_fault s w) 0) (entries_of s w) []) t u q → q ≡ 0 → number_of r ≡ 0 → be 0 8 c' ≡ value_of r
    count list z y =
        let (fine, _) = answered (lookup_fault s w) (entries_of s w) t list z in
        let value : value_of r ≡ length (misread s w) = (rw y at e).1 in
        tray_back (length (misread s w)) c (omega (arith, list_short s w fine)) (rw z at f).1 ∙ sym value

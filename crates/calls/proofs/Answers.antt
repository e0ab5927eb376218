-- The form of an answer, for any fault f: a refusal, a tray that is too small, the answer itself.
use mathlib.Core.Path.{◌≡◌, refl, sym, ◌∙◌, ap, ap₂, subst}
use mathlib.Core.List.{List, [], ◌++◌}
use Prim.Native.Nat.{ℕ, zero, suc, ◌≤◌, ◌<◌}
use native.Mathlib.Omega.{arith}
use lib.Dec.{eqb}
use lib.ListN.{length, drop}
use borrow.Author.Tests.{lt-ltb, le-ltb, ne_eqb}
use Rattle.std.specs.Prelude.{Result, Ok, Err}
use Rattle.theory.specs.Words.{pick, first_of, when}
use Rattle.theory.proofs.Faults.{first_some, first_none, first_zero}
use Rattle.buffers.specs.Buffers.{over}
use Rattle.numbers.specs.Numbers.{put_be}
use Rattle.calls.specs.declared.refusal.Refusal.{Refusal}
use Rattle.calls.specs.declared.refusal.Refusal.TheVariants.{NoSuchStrip, WrongWindow, BadMark, OffTheStrip, NoSuchWord, TrayTooSmall, TornPlan, CrookedPlan, NotLaid, LostCursor, TooSmudged, TwoShadesOnly, BadPicture, RollTooLong, NoSuchPrice, RepeatingWindow}
use Rattle.calls.specs.Codes.{code, number_of, value_of}
use Rattle.calls.specs.Answers.{Into, IntoValue, or_short, IntoBoth, Number, ValueIs}

-- no refusal has the number 0
pub code_some : (e : Refusal) → ¬ (code e ≡ 0)
code_some NoSuchStrip z = omega arith
code_some WrongWindow z = omega arith
code_some BadMark z = omega arith
code_some OffTheStrip z = omega arith
code_some NoSuchWord z = omega arith
code_some TrayTooSmall z = omega arith
code_some TornPlan z = omega arith
code_some CrookedPlan z = omega arith
code_some NotLaid z = omega arith
code_some LostCursor z = omega arith
code_some TooSmudged z = omega arith
code_some TwoShadesOnly z = omega arith
code_some BadPicture z = omega arith
code_some RollTooLong z = omega arith
code_some NoSuchPrice z = omega arith
code_some RepeatingWindow z = omega arith

-- a value, or the number of a refusal
pub value_parts : (f v : ℕ) (r : Result ℕ Refusal) → ValueIs f v r → (number_of r ≡ f) × (value_of r ≡ pick (eqb f 0) v 0)
value_parts f v (Ok x) (z, e) = rw z (refl, e)
value_parts f v (Err e) h = rw (sym h, ne_eqb (code e) 0 (code_some e)) (refl, refl)

-- bytes into a tray
pub into_refused : {f r : ℕ} (b t : List ℕ) {t' : List ℕ} → f ≡ r → ¬ (r ≡ 0) → t' ≡ t → Into f (pick (eqb f 0) b []) t t' r
into_refused {r = zero} b t h z g = absurd (z refl)
into_refused {r = suc r} b t h z g = rw (h, ne_eqb (suc r) 0 z) (refl, g)

pub into_small : {f r : ℕ} (b t : List ℕ) {t' : List ℕ} → f ≡ 0 → length t < length b → r ≡ 6 → t' ≡ t → Into f (pick (eqb f 0) b []) t t' r
into_small b t h l e g = rw (h, lt-ltb (length t) (length b) l) (e, g)

pub into_answer : {f r : ℕ} (b t : List ℕ) {t' : List ℕ} → f ≡ 0 → length b ≤ length t → r ≡ 0 → t' ≡ over b t → Into f (pick (eqb f 0) b []) t t' r
into_answer b t h l e g = rw (h, le-ltb (length t) (length b) l) (e, g)

-- an answer that was given, where nothing was refused before
pub into_given : {f r : ℕ} {b x : List ℕ} (t : List ℕ) {t' : List ℕ} → f ≡ 0 → x ≡ b → Into 0 x t t' r → Into f (pick (eqb f 0) b []) t t' r
into_given t h e g = rw (h, sym e) g

-- bytes into a tray and a value beside them
pub beside_refused : (f v : ℕ) (b t : List ℕ) {t' : List ℕ} (e : Refusal) → code e ≡ f → t' ≡ t → IntoValue f v (pick (eqb f 0) b []) t t' (Err e)
beside_refused f v b t {t'} e h g = (into_refused b t (sym h) (code_some e) g, rw (ne_eqb (code e) 0 (code_some e)))

pub beside_small : {f : ℕ} (v : ℕ) (b t : List ℕ) {t' : List ℕ} → f ≡ 0 → length t < length b → t' ≡ t → IntoValue f v (pick (eqb f 0) b []) t t' (Err TrayTooSmall)
beside_small v b t h l g = (into_small b t h l refl g, refl)

pub beside_answer : {f v x : ℕ} (b t : List ℕ) {t' : List ℕ} → f ≡ 0 → length b ≤ length t → x ≡ v → t' ≡ over b t → IntoValue f v (pick (eqb f 0) b []) t t' (Ok x)
beside_answer b t h l e g = (into_answer b t h l refl g, e)

-- bytes into a tray and a value into another; with room for the value only the fault counts
pub or_room : (f : ℕ) (s : List ℕ) → 8 ≤ length s → or_short f s ≡ f
or_room f s room = ap (λ c. first_of f (when c 6)) (le-ltb (length s) 8 room) ∙ first_zero f

module _ (f v : ℕ) (b s t : List ℕ) where
  pub both_refused : {x : ℕ} → f ≡ x → ¬ (x ≡ 0) → IntoBoth f v b s s t t x
  both_refused {x} e some = (into_refused b t (first_some f _ (λ z. some (sym e ∙ z)) ∙ e) some refl, rw (ne_eqb x 0 some))

  -- the value's tray is too small
  pub both_short : {r : ℕ} → length s < 8 → r ≡ first_of f 6 → IntoBoth f v b s s t t r
  both_short {r} l e =
      let is : or_short f s ≡ r = ap (λ c. first_of f (when c 6)) (lt-ltb (length s) 8 l) ∙ sym e in
      let some : ¬ (r ≡ 0) = λ z. omega (arith, (first_none f 6 (sym e ∙ z)).1) in
      (into_refused b t is some refl, rw (ne_eqb r 0 some))

  -- it has room
  module _ (fine : f ≡ 0) (room : 8 ≤ length s) where
    both_fine : or_short f s ≡ 0
    both_fine = or_room f s room ∙ fine

    pub both_small : length t < length b → IntoBoth f v b s s t t 6
    both_small l = (into_small b t both_fine l refl refl, refl)

    pub both_answer : {s' t' : List ℕ} → length b ≤ length t → t' ≡ over b t → s' ≡ over (put_be 8 v) s → IntoBoth f v b s s' t t' 0
    both_answer l is told = (into_answer b t both_fine l refl is, told)

  -- an answer with a value beside it, where there is room for the value
  module _ (room : 8 ≤ length s) {t' : List ℕ} where
    beside_both : {x : ℕ} → Into f (pick (eqb f 0) b []) t t' x → Into (or_short f s) (pick (eqb (or_short f s) 0) b []) t t' x
    beside_both {x} e = subst (λ g. Into g (pick (eqb g 0) b []) t t' x) (sym (or_room f s room)) e

    pub untold : (e : Refusal) → IntoValue f v (pick (eqb f 0) b []) t t' (Err e) → IntoBoth f v b s s t t' (code e)
    untold e h = (beside_both h.0, rw (ne_eqb (code e) 0 (code_some e)))

    pub told : {x : ℕ} {s' : List ℕ} → IntoValue f v (pick (eqb f 0) b []) t t' (Ok x) → s' ≡ over (put_be 8 x) s → IntoBoth f v b s s' t t' 0
    told h is = (beside_both h.0, is ∙ ap (λ x. over (put_be 8 x) s) h.1)

-- a number's 8 bytes into a tray
pub number_small : {f r : ℕ} (v : ℕ) (t : List ℕ) {t' : List ℕ} → f ≡ 0 → length t < 8 → r ≡ 6 → t' ≡ t → Number f v t t' r
number_small v t h l e g = into_small (put_be 8 v) t h l e g

pub number_answer : {f r : ℕ} (v : ℕ) (t : List ℕ) {t' : List ℕ} → f ≡ 0 → 8 ≤ length t → r ≡ 0 → t' ≡ over (put_be 8 v) t → Number f v t t' r
number_answer v t h l e g = into_answer (put_be 8 v) t h l e g

pub number_given : {f r v x : ℕ} (t : List ℕ) {t' : List ℕ} → f ≡ 0 → x ≡ v → Number 0 x t t' r → Number f v t t' r
number_given t h e g = into_given t h (ap (put_be 8) e) g

-- a value, then its 8 bytes into a tray
module _ (f v : ℕ) (t : List ℕ) (a : Result ℕ Refusal) (e : ValueIs f v a) where
  pub value_untold : ¬ (number_of a ≡ 0) → Number f v t t (number_of a)
  value_untold some = into_refused (put_be 8 v) t (sym (value_parts f v a e).0) some refl

  pub value_told : {t' : List ℕ} {r : ℕ} → number_of a ≡ 0 → Number 0 (value_of a) t t' r → Number f v t t' r
  value_told z g =
      let parts = value_parts f v a e in
      let fine : f ≡ 0 = sym parts.0 ∙ z in
      let value : value_of a ≡ v = rw fine at parts.1 in
      number_given t fine value g

-- bytes written over the first part of a tray
pub part-over : {b x : List ℕ} {n : ℕ} (t : List ℕ) → x ≡ b → length b ≡ n → x ++ drop n t ≡ over b t
part-over {b} t e h = ap₂ (λ y m. y ++ drop m t) e (sym h)

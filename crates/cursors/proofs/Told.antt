-- What the calls tell: faults, refusals, answers; and the cursor at a place.
use mathlib.Core.Path.{◌≡◌, refl, sym, ◌∙◌, ap, subst}
use mathlib.Core.Bool.{Bool, true, false, ◌&&◌, not}
use mathlib.Core.List.{List}
use Prim.Native.Nat.{ℕ, ◌≤◌}
use native.Mathlib.Omega.{arith}
use lib.Dec.{eqb}
use lib.ListN.{length, replicate}
use borrow.Author.Tests.{ne_eqb, not-false}
use Rattle.std.specs.Prelude.{Result, Ok, Err}
use Rattle.theory.specs.Words.{pick, PickT, first_of, when}
use Rattle.theory.specs.Rings.{Cursor, Stepped, cursor_on, good_in}
use Rattle.theory.specs.Strips.{strip_fault}
use Rattle.theory.proofs.Faults.{first_none, when-none}
use Rattle.access.specs.declared.Spot as DP
use Rattle.access.specs.Holders.{PutAt}
use Rattle.shape.specs.declared.Strip as DH
use Rattle.shape.specs.declared.Lengths.{Lengths}
use Rattle.shape.specs.Rings.{ok_of}
use Rattle.shape.proofs.Limits.{limits}
use Rattle.calls.specs.declared.refusal.Refusal.{Refusal}
use Rattle.calls.specs.declared.refusal.Refusal.TheVariants.{LostCursor}
use Rattle.calls.specs.Checks.{Checks}
use Rattle.calls.specs.Codes.{code, number_of}
use Rattle.calls.proofs.Answers.{code_some}
use Rattle.calls.proofs.Checks.{refused_by, passed, strip_is, strip_refused}
use Rattle.cursors.specs.declared.Cursor as DC
use Rattle.cursors.specs.declared.Stepped as DT
use Rattle.cursors.specs.Cursors.{all_zero, cursor_in, tidy, empty, Is, Starts, cursor_of, fault_on, GoodOn, Goes, MoveSays, mark_of, passed_of, after}
use Rattle.cursors.proofs.Held.{zeros, zeros_drop, tidy_in}

-- the check of a cursor, by the check m of its k and n and by the test of its fields
module _ (lengths : Lengths) (c : DC.Cursor) {m : Result DH.Strip Refusal} (e : Checks (strip_fault c.k c.n) c.k c.n m) where
  pub no_strip : {x : Refusal} → m ≡ Err x → Checks (fault_on lengths c) c.k c.n (Err x)
  no_strip f = strip_refused c.k c.n _ e f

  module _ {s : DH.Strip} (f : m ≡ Ok s) where
    left : {t : Bool} → t ≡ (tidy c && good_in (ok_of lengths) (cursor_in c)) → fault_on lengths c ≡ when (not t) 10
    left t = ap (λ x. first_of x (when (not (tidy c && good_in (ok_of lengths) (cursor_in c))) 10)) (passed (strip_fault c.k c.n) c.k c.n e f).0 ∙ ap (λ b. when (not b) 10) (sym t)

    pub lost_it : false ≡ (tidy c && good_in (ok_of lengths) (cursor_in c)) → Checks (fault_on lengths c) c.k c.n (Err LostCursor)
    lost_it t = sym (left t)

    pub good_it : true ≡ (tidy c && good_in (ok_of lengths) (cursor_in c)) → Checks (fault_on lengths c) c.k c.n (Ok s)
    good_it t = (left t, strip_is (strip_fault c.k c.n) c.k c.n e f)

-- what no fault says: an admitted strip, and fields that are good
pub faultless_says : (lengths : Lengths) (c : DC.Cursor) → fault_on lengths c ≡ 0 → (strip_fault c.k c.n ≡ 0) × ((tidy c && good_in (ok_of lengths) (cursor_in c)) ≡ true)
faultless_says lengths c z =
    let (strip, held) = first_none (strip_fault c.k c.n) _ z in
    (strip, not-false _ (when-none (not (tidy c && good_in (ok_of lengths) (cursor_in c))) 10 (λ e. omega arith) held))

-- a cursor that passed it
pub good_on_lem : (lengths : Lengths) (c : DC.Cursor) {m : Result DH.Strip Refusal} {s : DH.Strip} → Checks (fault_on lengths c) c.k c.n m → m ≡ Ok s → GoodOn lengths s c
good_on_lem lengths c e f =
    let (fine, on, size) = passed (fault_on lengths c) c.k c.n e f in
    record { letters = on.0; marks = on.1; good = (faultless_says lengths c fine).1 }

-- a move's answer r, by the check m of the cursor
module _ (lengths : Lengths) (x : Stepped) (c : DC.Cursor) {m : Result DH.Strip Refusal} {r : Result DT.Stepped Refusal} (e : Checks (fault_on lengths c) c.k c.n m) where
  pub move_refused : {f : Refusal} → m ≡ Err f → r ≡ Err f → MoveSays (fault_on lengths c) x r
  move_refused g h = subst (MoveSays (fault_on lengths c) x) (sym h) (sym (refused_by (fault_on lengths c) c.k c.n e g).0)

  pub move_answer : {s : DH.Strip} {q : DT.Stepped} → m ≡ Ok s → r ≡ Ok q → Goes x q → MoveSays (fault_on lengths c) x r
  move_answer g h goes = subst (MoveSays (fault_on lengths c) x) (sym h) ((passed (fault_on lengths c) c.k c.n e g).0, goes)

-- the word put over zeros, with its length and the place in it
pub started_at : {lengths : Lengths} (s : DH.Strip) {p : ℕ} {w : List ℕ} {r : DP.Spot} → length w ≡ 60 → PutAt lengths s p (replicate 60 0) w r
    → let c : DC.Cursor = record { k = s.k; n = s.n; word = w; long = r.long; place = r.at } in Is (cursor_on (ok_of lengths s.n) s.k s.n p) c
started_at {lengths} s {p} {w} {r} sixty put =
    let c : DC.Cursor = record { k = s.k; n = s.n; word = w; long = r.long; place = r.at } in
    let short : r.long ≤ 60 = omega (arith, put.fits, (limits s).short) in
    (put.stands, tidy_in c sixty short (ap all_zero put.rest ∙ zeros_drop r.long (replicate 60 0) (zeros 60)))

-- an answer's number and parts
pub start_told : (f : ℕ) (x : Cursor) (r : Result DC.Cursor Refusal) → Starts f x r → (number_of r ≡ f) × PickT (eqb f 0) (Is x (cursor_of r)) (empty (cursor_of r) ≡ true)
start_told f x (Ok c) (z, e) = rw z (refl, e)
start_told f x (Err e) h = rw (sym h, ne_eqb (code e) 0 (code_some e)) (refl, refl)

abbrev pub MoveTold : ℕ → Stepped → DC.Cursor → Result DT.Stepped Refusal → Type 0
MoveTold f x c r =
    (number_of r ≡ f)
    × (mark_of r ≡ pick (eqb f 0) x.mark 0)
    × (passed_of r ≡ pick (eqb f 0) x.passed 0)
    × PickT (eqb f 0) (Is x.cursor_is (after c r)) (after c r ≡ c)

pub move_told : (f : ℕ) (x : Stepped) (c : DC.Cursor) (r : Result DT.Stepped Refusal) → MoveSays f x r → MoveTold f x c r
move_told f x c (Ok q) (z, e) = rw z (refl, e.0, e.1, e.2)
move_told f x c (Err e) h = rw (sym h, ne_eqb (code e) 0 (code_some e)) (refl, refl, refl, refl)

-- The list of a laid window: a buffer of 3,850 bytes has room for it, what is written there is the list, and a tray holds it or is too small.
use mathlib.Core.Path.{◌≡◌, refl, sym, ◌∙◌, ap, subst}
use mathlib.Core.List.{List}
use Prim.Native.Nat.{ℕ, ◌-◌, ◌*◌, ◌≤◌, ◌<◌}
use native.Mathlib.Omega.{arith}
use lib.ListN.{length, take, drop}
use lib.Seq.{take_at}
use Rattle.std.specs.Prelude.{Ok, Err}
use Rattle.theory.specs.Plans.{shades}
use Rattle.theory.specs.Substitutions.{changes, misread, laid_of}
use Rattle.theory.proofs.Substitutions.{changes_many, most}
use Rattle.buffers.specs.Buffers.{over}
use Rattle.calls.specs.declared.refusal.Refusal.TheVariants.{TrayTooSmall}
use Rattle.calls.proofs.Answers.{beside_small, beside_answer}
use Rattle.substitutions.specs.Entries.{list_bytes, Wrote}
use Rattle.substitutions.proofs.Writing.{entries_long}
use Rattle.shape.specs.declared.Strip as DS
use Rattle.shape.specs.Shapes.{WordOn}
use Rattle.windows.specs.declared.Spot.{Spot}
use Rattle.windows.specs.Looks.{Found}
use Rattle.misreadings.specs.Says.{entries_of, MisreadingsSays}

-- at most 385 changes are tried
pub room : {x : DS.Strip} {w : List ℕ} → WordOn x w → 10 * length (changes x.k w) ≤ 3850
room {x} {w} word =
    let long : length w * (x.k - 1) ≡ x.n * (x.k - 1) = ap (λ n. n * (x.k - 1)) word.long in
    omega (arith, changes_many x.k w word.marks, long, most x.k x.n x.admit)

module _ {s w : List ℕ} {x : Spot} (h : Found s w x) where
  -- so many entries are written
  module _ {t T : List ℕ} {f : ℕ} (wrote : Wrote x.plan.sections.bytes.now w (changes x.plan.strip.k w) t T f) where
    here : Wrote s w (changes x.plan.strip.k w) t T f
    here = subst (λ b. Wrote b w (changes x.plan.strip.k w) t T f) h.plan wrote

    all : laid_of s w (changes x.plan.strip.k w) ≡ misread s w
    all = ap (λ k. laid_of s w (changes k w)) (x.plan.accepted.letters ∙ ap shades h.plan)

    pub how_many_lem : f ≡ length (misread s w)
    how_many_lem = here.count ∙ ap length all

    pub list_long : length (entries_of s w) ≡ 10 * f
    list_long = entries_long s w (misread s w) ∙ ap (λ m. 10 * m) (sym how_many_lem)

    pub list_taken : take (10 * f) T ≡ entries_of s w
    list_taken = ap (take (10 * f)) (here.bytes ∙ ap (λ cs. over (list_bytes s w cs) t) all) ∙ take_at (entries_of s w) (drop (length (entries_of s w)) t) (10 * f) list_long

    pub too_small : (u : List ℕ) → length u < 10 * f → MisreadingsSays s w u u (Err TrayTooSmall)
    too_small u small = beside_small (length (misread s w)) (entries_of s w) u h.fine (omega (arith, list_long)) refl

    pub copied : (u : List ℕ) {u' : List ℕ} → 10 * f ≤ length u → u' ≡ over (take (10 * f) T) u → MisreadingsSays s w u u' (Ok f)
    copied u enough e = beside_answer (entries_of s w) u h.fine (omega (arith, list_long)) how_many_lem (e ∙ ap (λ b. over b u) list_taken)

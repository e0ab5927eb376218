-- A signed number: behind the sign, if there is one, the number without it.
use mathlib.Core.Path.{◌≡◌, ◌∙◌, ap}
use mathlib.Core.Bool.{true, false}
use mathlib.Core.List.{[], ◌∷◌, ◌++◌}
use lib.IntN.{pos, nat_abs}
use lib.Signed.{lt_z}
use Rattle.std.proofs.Common.{rules}
use Rattle.texts.specs.Texts.{decimal}
use Rattle.texts.proofs.Signs.{minus, no_minus}
use Rattle.texts.proofs.Writing.{writes_as, writes_more, writes_from}
use Rattle.texts.proofs.Text.signed.Goals as goal
use Rattle.texts.proofs.Text.signed.Goals.{then-v-lt0, else-v-lt0}

pub returns : goal.returns
returns c =
    let v = c.args.v in
    let d : c.unsigned_abs.result ≡ nat_abs v = search rules in
    elim c.if-v-lt0.branch [
      | then-v-lt0 w ↦
          let below : lt_z v (pos 0) ≡ true = search rules in
          writes_as (writes_more w.byte.ensures (writes_from w.self-is c.number.ensures)) (ap (λ t. t ++ (c.args.behind ∷ [])) (ap (λ a. 45 ∷ decimal a) d ∙ minus v below))
      | else-v-lt0 w ↦
          let above : lt_z v (pos 0) ≡ false = search rules in
          writes_as (writes_from w.self-is c.number.ensures) (ap (λ t. t ++ (c.args.behind ∷ [])) (ap decimal d ∙ no_minus v above))
    ]

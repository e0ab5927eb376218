-- `locator::count_leading` meets its contract: as many letters b stand at the start as stand before the first other letter.
use mathlib.Core.Path.{◌≡◌, refl, sym, ◌∙◌}
use Rattle.std.proofs.Common.{rules, tests}
use Rattle.std.proofs.lemmas.Iterator.{YieldsList-from_slice, IsFirst-from_position, index_from_first}
use Rattle.locator.specs.Fits.{leading}
use Rattle.locator.proofs.Leading.{leading_stop, leading_on}
use Rattle.locator.proofs.count_leading.Goals as goal

pub returns : goal.returns
returns c =
    let b = c.args.b in
    let w = c.args.w.now in
    let first = IsFirst-from_position _ _ c.position.result (λ a. ¬ (a ≡ b)) (λ a. a ≡ b) c.position.ensures.ran (YieldsList-from_slice w cc) (λ x q k. search (rules, tests)) (λ x q k. search (rules, tests)) in
    c.unwrap_or.ensures ∙ sym (index_from_first (leading b) (λ a. ¬ (a ≡ b)) (λ a. a ≡ b) refl (leading_stop b) (leading_on b) w c.position.result first)

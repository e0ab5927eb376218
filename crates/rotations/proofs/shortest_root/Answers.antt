-- shortest_root: the first number below the length that divides it and is a period is the shortest root's length; else that is the word's own.
use mathlib.Core.Path.{◌≡◌, ◌∙◌}
use mathlib.Core.Bool.{true, false}
use Rattle.std.proofs.Common.{rules, tests}
use Rattle.std.proofs.lemmas.Iterator.{first_from_Range}
use Rattle.rotations.proofs.Roots.{trial, root_tried}
use Rattle.rotations.proofs.shortest_root.Goals as goal

pub returns : goal.returns
returns c =
    let w = c.args.w.now in
    let found = first_from_Range _ _ _ c.find.result (λ d. trial d w ≡ true) (λ d. trial d w ≡ false) c.find.ensures.ran (λ x q h. search (rules, tests)) (λ x q h. search (rules, tests)) in
    c.unwrap_or.ensures ∙ root_tried w c.find.result c.max.result c.max.ensures found

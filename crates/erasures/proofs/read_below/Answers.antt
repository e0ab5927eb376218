use Rattle.std.proofs.Common.{◌∙◌, ◌||◌, ltb, rules, tests}
use Rattle.std.proofs.lemmas.Iterator.{YieldsList-from_slice}
use Rattle.std.proofs.lemmas.Iterator.Search.{all_from_yields_List}
use Rattle.theory.specs.Erasures.{unread}
use Rattle.erasures.proofs.Scans.{all_below}
use Rattle.erasures.proofs.read_below.Goals as goal

pub returns : goal.returns
returns c =
    let w = c.args.w.now in
    all_from_yields_List (λ a. unread a || ltb a c.args.k) _ _ _ c.all.ensures.ran (YieldsList-from_slice w cc) (λ x b q k. search (rules, tests)) ∙ all_below c.args.k w

-- letters_below: the test of every letter is `marks_ok`.
use mathlib.Core.Path.{sym, ◌∙◌}
use Rattle.std.proofs.Common.{rules, ltb}
use Rattle.std.proofs.lemmas.Iterator.{YieldsList-from_slice}
use Rattle.std.proofs.lemmas.List.{places}
use Rattle.std.proofs.lemmas.Iterator.Search.{all_from_yields_List}
use Rattle.lyndon.proofs.Scans.{marks_all}
use Rattle.lyndon.proofs.letters_below.Goals as goal

pub returns : goal.returns
returns c =
    let w = c.args.w.now in
    let called = all_from_yields_List (λ a. ltb a c.args.k) _ _ _ c.all.ensures.ran (YieldsList-from_slice w (search (rules, places))) (λ x b q h. search rules) in
    called ∙ sym (marks_all c.args.k w)

use mathlib.Core.Path.{◌≡◌, ◌∙◌}
use borrow.Author.Rules.{rules}
use Rattle.std.specs.List.{count_by}
use Rattle.theory.specs.Erasures.{unread}
use Rattle.erasures.proofs.Scans.{counted}
use Rattle.erasures.proofs.count_unread.Goals as goal

pub returns : goal.returns
returns c = let is : c.count.result ≡ count_by unread c.args.w.now = search rules in is ∙ counted c.args.w.now

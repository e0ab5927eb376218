-- section_at: the numbers of the section's entry.
use mathlib.Core.Path.{◌∙◌}
use Rattle.sections.proofs.Entries.{entry_inside, section_read}
use Rattle.sections.proofs.Plan.section_at.Goals.{then-size-eq-PAIR, else-size-eq-PAIR}
use Rattle.sections.proofs.Plan.section_at.Goals as goal

pub returns : goal.returns
returns c =
    let a = c.args in
    let s = a.self.now.bytes.now in
    let size = c.entry_size-size.ensures in
    let at = entry_inside s a.i c.requires size a.self.now.whole in
    elim c.if-size-eq-PAIR.branch [
      | then-size-eq-PAIR w ↦ section_read s a.i c.requires size w.if-size-eq-PAIR.true c.get.ensures c.get-2.ensures w.rail-is
      | else-size-eq-PAIR w ↦ section_read s a.i c.requires size (at.railed w.if-size-eq-PAIR.false) c.get.ensures c.get-2.ensures (w.rail-is ∙ w.get-rail.ensures)
    ]

-- `begin` puts the head, then the row behind it.
use Rattle.pbm.proofs.Drawing.{both_parts}
use Rattle.pbm.proofs.Picture.begin.Goals as goal

pub returns : goal.returns
returns c =
    both_parts c.args.self.drawable c.put_head-head.ensures c.put_head-head.auto.out c.requires c.row_size.ensures c.put_row.ensures

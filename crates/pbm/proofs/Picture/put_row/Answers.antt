-- `put_row` lets the marks be written to the buffer's end, and spreads them.
use Rattle.pbm.proofs.Drawing.{row_fits}
use Rattle.pbm.proofs.Picture.put_row.Goals as goal

pub spread-requires : goal.spread-requires
spread-requires c =
    let x = c.args.self in row_fits x.strip x.drawable.digits x.place x.width x.drawable.frame.some c.args.out.now c.requires c.letters.ensures

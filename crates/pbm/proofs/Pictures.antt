-- The laws of pictures as one record.
use Rattle.pbm.specs.Pictures.{Pictures}
use Rattle.pbm.proofs.Rows as rows
use Rattle.pbm.proofs.Reading.{back}

pub pictures : Pictures
pictures = record { row_short = rows.row_short; row-long = rows.row-long; row-size = rows.row-size; file-size = rows.file-size; back = back; room = rows.room; most = rows.most; largest = rows.largest }

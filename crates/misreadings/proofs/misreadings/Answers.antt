-- `misreadings` lists the changes in a buffer of its own, and copies the list to a tray that holds it.
use Rattle.misreadings.proofs.Listing.{too_small, copied}
use Rattle.misreadings.proofs.misreadings.Goals as goal

pub returns-then-tray-size : goal.returns-then-tray-size
returns-then-tray-size c = too_small c.in_ok-spot.ensures c.put_list-found.ensures.list c.args.tray.now c.if-tray-size.true

pub returns : goal.returns
returns c = copied c.in_ok-spot.ensures c.put_list-found.ensures.list c.args.tray.now c.if-tray-size.false c.copy.ensures

use Rattle.inspect_picture.proofs.Rowed.{put_is}
use Rattle.inspect_picture.proofs.rows.put.Goals as goal

pub returns-in-Some : goal.returns-in-Some
returns-in-Some c =
    put_is c.args.scale.now c.args.row.now.items c.pop.new.self.items c.put_behind.new.row.items c.in-Some.last c.args.mark c.in-Some.ensures.items
    c.in_ok-put_behind-in-Some.ensures

use Rattle.std.proofs.lemmas.Result.{on_ok_weaker}
use Rattle.inspect_picture.proofs.Rowed.{put_row}
use Rattle.inspect_picture.proofs.rows.put_at.Goals as goal

pub returns-clause-more : goal.returns-clause-more
returns-clause-more c =
    on_ok_weaker c.put.result
    (λ is. put_row c.args.scale.now c.args.mark c.args.rows.now c.args.place c.index-rows-place.result c.put.new.row c.requires.there is)
    c.put.ensures

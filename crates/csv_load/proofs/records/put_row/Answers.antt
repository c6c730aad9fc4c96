use Rattle.std.proofs.Common.{◌<◌, [], rules, arith, length}
use Rattle.std.proofs.lemmas.List.{get_or_default}
use Rattle.csv.specs.Records.{fields_of}
use Rattle.csv_load.proofs.Rowwise.{put-step}
use Rattle.csv_load.proofs.records.put_row.Goals as goal

pub loop-place-preserved : goal.loop-place-preserved
loop-place-preserved c =
    let is = c.loop-place.invariant in
    let columns = c.loop-place.columns in
    let place = c.loop-place.place in
    let there : place < length columns = omega (arith, c.loop-place-test.true, is.width) in
    record {
      width = search rules;
      put = put-step c.args.columns.now columns (fields_of c.args.row.now) place c.put.new.self there is.put (is.left place (omega arith))
          (rw (get_or_default columns place c.index-columns-place.result [] there, c.field.ensures.bytes) at c.in_ok-put.ensures);
      left = search rules;
    }

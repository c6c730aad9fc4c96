use Rattle.std.proofs.Common.{◌≡◌, ◌+◌, Some, arith, length}
use Rattle.csv.specs.Records.{fields_of}
use Rattle.csv.specs.Writing.{text_written}
use Rattle.prepare_rules.proofs.Going.{below-next, below-refused, first-counts, first-takes, from-under, made-is, refused-is, then-ok, under-err, under-ok, with_first}
use Rattle.prepare_rules.specs.Made.{row_made, row_told}
use Rattle.prepare_rules.specs.Outcome.{below, counted_names, from_first, refused_first}
use Rattle.prepare_rules.specs.Tally.{no_tally}
use Rattle.prepare_text.specs.Source.{begun, left, record_of}
use Rattle.prepare_rules.proofs.preparing.copy_from.Goals as goal

pub returns-in-Err : goal.returns-in-Err
returns-in-Err g c =
    let rules = c.args.rules.now in
    let line = begun c.args.reader.now in
    let first = record_of line (fields_of c.args.row.now) in
    let rows = left g.R.Read.remaining c.args.reader.now in
    let old = text_written g.W.Write.contents c.args.writer.now in
    let new = text_written g.W.Write.contents c.begin.new.writer in
    rw (c.refused.ensures, c.line-line.ensures) (from-under rules first rows (refused_first rules.skip (Some line) c.in-Err.cause) old new
    (under-err rules (counted_names (length first.fields)) line (rules.skip + 1) c.in-Err.cause (with_first first rows) old new
    (rw (c.in-Err.is, c.in_ok-names.ensures, c.len.ensures) at c.in_ok-plan.ensures.begun)))

pub returns-in-Err-2 : goal.returns-in-Err-2
returns-in-Err-2 g c =
    let rules = c.args.rules.now in
    let line = begun c.args.reader.now in
    let first = record_of line (fields_of c.args.row.now) in
    let plan = c.in-Ok.plan in
    let rows = left g.R.Read.remaining c.args.reader.now in
    let old = text_written g.W.Write.contents c.args.writer.now in
    let new = text_written g.W.Write.contents c.begin.new.writer in
    let is = refused-is (row_made rules plan.names plan.picks.items first.fields) (row_told rules plan.names plan.picks.items first no_tally) c.in-Err-2.cause
    (fields_of c.make_row.new.room.made) (rw (c.in-Err-2.is, c.line-line.ensures, c.none.ensures) at c.in_ok-tally.ensures) in
    rw (c.refused-in-Err-2.ensures, c.line-line.ensures) (from-under rules first rows (refused_first rules.skip (Some line) c.in-Err-2.cause) old new
    (under-ok rules (counted_names (length first.fields)) line (rules.skip + 1) plan (with_first first rows) _ old new new
    (rw (c.in-Ok.is, c.in_ok-names.ensures, c.len.ensures) at c.in_ok-plan.ensures.begun)
    (below-refused rules plan.names plan.picks.items (rules.skip + 1) no_tally (with_first first rows) rows first c.in-Err-2.cause new (first-takes first rows) is)))

pub returns : goal.returns
returns g c =
    let rules = c.args.rules.now in
    let line = begun c.args.reader.now in
    let first = record_of line (fields_of c.args.row.now) in
    let plan = c.in-Ok.plan in
    let rows = left g.R.Read.remaining c.args.reader.now in
    let old = text_written g.W.Write.contents c.args.writer.now in
    let begun = text_written g.W.Write.contents c.begin.new.writer in
    let mid = text_written g.W.Write.contents c.put.new.writer in
    let new = text_written g.W.Write.contents c.copy_below.new.writer in
    let made = fields_of c.make_row.new.room.made in
    let told = row_told rules plan.names plan.picks.items first no_tally in
    let is = made-is (row_made rules plan.names plan.picks.items first.fields) told c.in-Ok-2.tally made
    (rw (c.in-Ok-2.is, c.line-line.ensures, c.none.ensures) at c.in_ok-tally.ensures) in
    let e : (rules.skip + 1) + 1 ≡ rules.skip + 2 = omega arith in
    then-ok (below rules plan.names plan.picks.items (rules.skip + 2) c.in-Ok-2.tally) (from_first rules first) rows rows mid old new c.copy_below.result
    (λ report h. from-under rules first rows report old new
    (under-ok rules (counted_names (length first.fields)) line (rules.skip + 1) plan (with_first first rows) report old begun new
    (rw (c.in-Ok.is, c.in_ok-names.ensures, c.len.ensures) at c.in_ok-plan.ensures.begun)
    (below-next rules plan.names plan.picks.items (rules.skip + 1) no_tally (with_first first rows) rows first made report begun mid new (first-counts rules) (first-takes first rows) is.0
    c.in_ok-put.ensures.text (rw (← is.1, e) h)))) c.copy_below.ensures

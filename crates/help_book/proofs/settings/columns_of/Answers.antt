use Rattle.std.proofs.Common.{◌<◌, length, arith, inr}
use Rattle.scan_story.specs.Setting.{IsRising, AreColumns}
use Rattle.table_sets.specs.Sets.{Rising}
use Rattle.help_book.proofs.Listed.{is_rising, all_below, some_weaker}
use Rattle.help_book.proofs.settings.columns_of.Goals as goal

pub returns-then-s-eq1-clause-rising : goal.returns-then-s-eq1-clause-rising
returns-then-s-eq1-clause-rising c =
    let columns = c.args.n.now.columns in
    some_weaker c.column_set.result (Rising 0 columns 16) (IsRising columns) (is_rising 0 columns 16) c.column_set.ensures.rising

pub returns-clause-rising : goal.returns-clause-rising
returns-clause-rising c =
    let columns = c.args.n.now.columns in
    let n = c.args.s.now.groups in
    some_weaker c.column_set-2.result (Rising 0 columns n) (IsRising columns) (is_rising 0 columns n) c.column_set-2.ensures.rising

pub returns-clause-fit : goal.returns-clause-fit
returns-clause-fit c =
    let columns = c.args.n.now.columns in
    let n = c.args.s.now.groups in
    let some : 0 < length columns = omega (arith, c.len.ensures.value) in
    some_weaker c.column_set-2.result (Rising 0 columns n) (AreColumns n columns) (λ up. inr (some, all_below 0 columns n up)) c.column_set-2.ensures.rising

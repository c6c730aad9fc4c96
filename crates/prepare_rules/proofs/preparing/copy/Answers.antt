use Rattle.std.proofs.Common.{◌+◌, refl}
use Rattle.csv.specs.Records.{fields_of}
use Rattle.csv.specs.Writing.{text_written}
use Rattle.prepare_rules.proofs.Going.{kept-from, kept-under, none-kept, then-ok}
use Rattle.prepare_rules.specs.Outcome.{from_first, prepared, under}
use Rattle.prepare_text.specs.Source.{begun, left, record_of}
use Rattle.prepare_rules.proofs.preparing.copy.Goals as goal

pub returns-then-not-branch : goal.returns-then-not-branch
returns-then-not-branch g c =
    rw c.refused.ensures (none-kept c.args.rules.now (left g.R.Read.remaining c.args.reader.now) (text_written g.W.Write.contents c.args.writer.now)
    ((rw c.if-not-branch.true at c.in_ok-first_kept.ensures.ended) refl))

pub returns-then-rules : goal.returns-then-rules
returns-then-rules g c =
    let rules = c.args.rules.now in
    let first = record_of (begun c.first_kept.new.reader) (fields_of c.first_kept.new.row) in
    let rows = left g.R.Read.remaining c.args.reader.now in
    let left = left g.R.Read.remaining c.first_kept.new.reader in
    let old = text_written g.W.Write.contents c.args.writer.now in
    let new = text_written g.W.Write.contents c.copy_under.new.writer in
    then-ok (under rules first.fields first.line (rules.skip + 2)) (prepared rules) left rows old old new c.copy_under.result
    (λ report h. kept-under rules first rows left report old new ((rw c.if-not-branch.false at c.in_ok-first_kept.ensures.found) refl) c.if-rules.true h) c.copy_under.ensures

pub returns : goal.returns
returns g c =
    let rules = c.args.rules.now in
    let first = record_of (begun c.first_kept.new.reader) (fields_of c.first_kept.new.row) in
    let rows = left g.R.Read.remaining c.args.reader.now in
    let left = left g.R.Read.remaining c.first_kept.new.reader in
    let old = text_written g.W.Write.contents c.args.writer.now in
    let new = text_written g.W.Write.contents c.copy_from.new.writer in
    then-ok (from_first rules first) (prepared rules) left rows old old new c.copy_from.result
    (λ report h. kept-from rules first rows left report old new ((rw c.if-not-branch.false at c.in_ok-first_kept.ensures.found) refl) c.if-rules.false h) c.copy_from.ensures

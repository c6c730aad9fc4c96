use Rattle.std.proofs.Common.{◌∙◌, refl, sym}
use Rattle.csv.specs.Records.{fields_of}
use Rattle.prepare_look.specs.Rows.{Row}
use Rattle.prepare_page.proofs.Counting.{titles_here, titles_next, titles_none}
use Rattle.prepare_page.proofs.titles.titles_of.Goals as goal

pub returns-then-may_name-clause-above : goal.returns-then-may_name-clause-above
returns-then-may_name-clause-above c =
    let found = c.in_ok-_line.ensures.found c.in-Some._line (rw c.in-Some.is refl) in
    let row : Row = record { line = c.in-Some._line; fields = fields_of c.next.new.row } in
    sym (titles_here c.args.width c.loop-before.before row c.next.new.self (sym c.may_name.ensures ∙ c.if-may_name.true)) ∙ (rw found at c.loop-before.invariant)

pub returns-in-None-clause-above : goal.returns-in-None-clause-above
returns-in-None-clause-above c =
    let ended = (rw c.in-None.is at c.in_ok-_line.ensures.ended) refl in
    sym (titles_none c.args.width c.loop-before.before) ∙ (rw ended at c.loop-before.invariant)

pub loop-before-preserved : goal.loop-before-preserved
loop-before-preserved c =
    let found = c.in_ok-_line.ensures.found c.in-Some._line (rw c.in-Some.is refl) in
    let row : Row = record { line = c.in-Some._line; fields = fields_of c.next.new.row } in
    sym (titles_next c.args.width c.loop-before.before row c.next.new.self (sym c.may_name.ensures ∙ c.if-may_name.false)) ∙ (rw found at c.loop-before.invariant)

use Rattle.std.proofs.Common.{◌≡◌, ◌∙◌, List, length, sym, ap, arith}
use Rattle.std.specs.Ordering.{is_lt}
use Rattle.std.proofs.lemmas.Bool.{false≢true}
use Rattle.table_core.specs.declared.cell.Cell.{Cell}
use Rattle.query_meaning.specs.Cells.{codes}
use Rattle.row_blocks.specs.Blocks.{row_at}
use Rattle.query_meaning.specs.Rows.{row_cmp}
use Rattle.top_rows.specs.Standing.{Entry}
use Rattle.top_rows.proofs.Before.{Row}
use Rattle.top_rows.proofs.Entries.{before_none_at, changes_nothing, keyed_at, unless, when}
use Rattle.top_rows.proofs.top.is_behind_in.Goals as goal

pub returns-in-Some-clause-behind : goal.returns-in-Some-clause-behind
returns-in-Some-clause-behind c = unless c.is_before_in.result (λ e.
    let orders = c.args.order.now in
    let es = c.args.rows.now.entries in
    let r : Row = (c.args.number, row_at c.args.block.now c.args.row) in
    let last : Entry = (c.in-Some.last.now, c.in-Some.cells.now) in
    let behind = sym (ap (λ (cs : List Cell). is_lt (row_cmp codes orders r (c.in-Some.last.now.number, cs))) c.deref.ensures.value) ∙ sym c.is_before_in.ensures ∙ e in
    let full : c.args.limit ≡ length es = omega (arith, c.requires.few, c.if-len-limit.false, c.len.ensures.len) in
    changes_nothing orders _ c.standing_order.ensures c.args.limit es r last full (keyed_at orders es _ last c.requires.keyed c.in-Some.ensures.last) c.requires.keyed c.in-Some.ensures.all_up_to behind)

pub returns-in-Some-clause-among : goal.returns-in-Some-clause-among
returns-in-Some-clause-among c = when c.is_before_in.result (λ e b.
    let orders = c.args.order.now in
    let r : Row = (c.args.number, row_at c.args.block.now c.args.row) in
    let last : Entry = (c.in-Some.last.now, c.in-Some.cells.now) in
    let ahead = sym (ap (λ (cs : List Cell). is_lt (row_cmp codes orders r (c.in-Some.last.now.number, cs))) c.deref.ensures.value) ∙ sym c.is_before_in.ensures ∙ e in
    false≢true (sym (before_none_at orders r c.args.rows.now.entries _ last b.last c.in-Some.ensures.last) ∙ ahead))

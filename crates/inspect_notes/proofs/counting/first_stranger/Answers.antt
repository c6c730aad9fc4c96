use Rattle.std.proofs.Common.{◌≡◌, [], true, false, get_or, sym, ap, ◌∙◌, arith}
use Rattle.table_core.specs.Value.{value_in}
use Rattle.table_core.specs.declared.cell.Cell.TheVariants.{Code}
use Rattle.inspect_notes.specs.Reasons.{is_stranger}
use Rattle.inspect_notes.specs.Values.{value_at}
use Rattle.inspect_notes.proofs.Firsts.{first_is, none_is}
use Rattle.inspect_notes.proofs.counting.first_stranger.Goals as goal
use borrow.Author.Count.{below_more}

pub returns-in-Some-clause-first : goal.returns-in-Some-clause-first
returns-in-Some-clause-first c =
    let dict = c.args.dict.now in
    let cell : c.cell_in.result ≡ Code c.in-Some.code = c.in-Some.ensures.code in
    let is : true ≡ is_stranger (value_in dict c.cell_in.result) = c.in-Some.ensures.is in
    first_is dict c.args.column c.args.table.now.rows c.loop-row.row c.in-Some.code (omega arith) c.requires.cells c.loop-row.invariant (sym c.cell_in.ensures ∙ cell) (ap (λ y. is_stranger (value_in dict y)) (sym cell) ∙ sym is)

pub loop-row-preserved : goal.loop-row-preserved
loop-row-preserved c =
    let dict = c.args.dict.now in
    let is : false ≡ is_stranger (value_in dict c.cell_in.result) = c.in_default.ensures.is in
    below_more (λ i. is_stranger (value_at dict c.args.column (get_or c.args.table.now.rows i [])) ≡ false) c.loop-row.row c.loop-row.invariant (ap (λ y. is_stranger (value_in dict y)) (sym c.cell_in.ensures) ∙ sym is)

pub returns-clause-none : goal.returns-clause-none
returns-clause-none c = none_is c.args.dict.now c.args.column c.args.table.now.rows (λ i low. c.loop-row.invariant i (omega arith))

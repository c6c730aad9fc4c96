use Rattle.std.proofs.Common.{◌≡◌, ◌≤◌, ◌+◌, ◌++◌, [], ℕ, List, length, ap, subst, sym, arith, append-nil}
use Rattle.std.specs.Prelude.{OnErr, OnOk, Result, Ok, Err}
use Rattle.std.proofs.lemmas.List.FromFn.{length-map-range_with_len}
use Rattle.table_core.specs.declared.cell.Cell.{Cell}
use Rattle.row_blocks.specs.Blocks.{row_at, rows_in}
use Rattle.row_blocks.proofs.Chosen.{length-chosen}
use Rattle.agg_groups.specs.Groups as grouped
use Rattle.top_rows.specs.Blocks.{HoldsInPart}
use Rattle.query_gather.proofs.partial.add_chosen_rows.Goals as goal

-- groups that stayed as they were have none of these rows
nothing_added : {E : Type 0} (r : Result (Unit {0}) E) (old new : grouped.Kept) (these : List (List Cell)) → OnErr r (new ≡ old) → OnErr r ((rows : List (List Cell)) → grouped.Stands old rows → HoldsInPart (grouped.Stands new) rows these)
nothing_added (Ok x) old new these same = tt
nothing_added (Err e) old new these same = λ rows s.
    record { count = 0; holds = subst (λ (g : grouped.Kept). grouped.Stands g (rows ++ [])) (sym same) (subst (grouped.Stands old) (sym (append-nil rows)) s) }

few_more : {E : Type 0} (r : Result (Unit {0}) E) (old new : grouped.Kept) (n m : ℕ) → n ≤ m → OnOk r (new.rows ≡ old.rows + n) → OnErr r (new ≡ old) → new.rows ≤ old.rows + m
few_more (Ok x) old new n m few count same = omega (arith, few, count)
few_more (Err e) old new n m few count same = omega (arith, ap (λ (g : grouped.Kept). g.rows) same)

pub returns-clause-count : goal.returns-clause-count
returns-clause-count c =
    let b = c.args.block.now in
    let few : length (rows_in b) ≡ b.count = length-map-range_with_len (row_at b) 0 b.count in
    few_more c.add_block.result c.args.groups.now c.add_block.new.self _ b.count (omega (arith, few, length-chosen 0 c.args.chosen (rows_in b))) c.add_block.ensures.count c.add_block.ensures.err

pub returns-clause-err : goal.returns-clause-err
returns-clause-err c = nothing_added c.add_block.result c.args.groups.now c.add_block.new.self _ c.add_block.ensures.err

use Rattle.std.proofs.Common.{◌≡◌, ◌++◌, drop, map}
use Rattle.std.specs.List.{flat_map}
use Rattle.table_core.specs.Lists.{lists}
use Rattle.table_core.specs.Answer.{answer, row_line, kinds_of, values_of}
use Rattle.table_core.proofs.answer.text_of_answer.Given as goal

abbrev pub invariant-loop-row : goal.invariant-loop-row
invariant-loop-row l =
    l.out ++ flat_map (row_line (kinds_of l.schema l.places)) (map (values_of l.dicts l.places) (lists (drop l.row-index l.rows)))
    ≡ answer l.query (kinds_of l.schema l.places) (map (values_of l.dicts l.places) (lists l.rows))

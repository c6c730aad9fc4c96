use Rattle.std.proofs.Common.{◌≡◌, ◌++◌, drop}
use Rattle.table_core.specs.Value.{value_text, zip_with}
use Rattle.table_core.specs.Answer.{more_joined, kinds_of, values_of}
use Rattle.table_core.proofs.answer.write_more.Given as goal

abbrev pub invariant-loop-i : goal.invariant-loop-i
invariant-loop-i l =
    l.out ++ more_joined (zip_with value_text (kinds_of l.columns (drop l.i l.places)) (values_of l.dicts (drop l.i l.places) (drop l.i l.row)))
    ≡ l.initial.out ++ more_joined (zip_with value_text (kinds_of l.columns l.places) (values_of l.dicts l.places l.row))

use Rattle.std.specs.List.{AllZip}
use Rattle.csv_load.specs.Typed.{IsTyped}
use Rattle.csv_load.proofs.typed.type_columns.Given as goal

abbrev pub invariant-loop-gathered : goal.invariant-loop-gathered
invariant-loop-gathered l = AllZip IsTyped l.yielded l.typed.items

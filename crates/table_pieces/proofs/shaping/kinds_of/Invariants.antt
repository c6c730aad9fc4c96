use Rattle.std.proofs.Common.{◌≡◌, ◌++◌, map, drop}
use Rattle.table_core.specs.declared.schema.Column.{Column}
use Rattle.table_pieces.proofs.shaping.kinds_of.Given as goal

abbrev pub invariant-loop-column : goal.invariant-loop-column
invariant-loop-column l = l.kinds.items ++ map (λ (c : Column). c.kind) (drop l.column-index l.columns) ≡ map (λ (c : Column). c.kind) l.columns

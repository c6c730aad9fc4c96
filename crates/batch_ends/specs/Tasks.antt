-- What a batch is given: a loaded table, and queries with plans over it.
use Rattle.std.specs.Prelude.{◌<◌, List, length, Option, Some, None}
use Rattle.csv_load.specs.Judged.{Fields}
use Rattle.csv_load.specs.Loaded.{IsLoaded}
use Rattle.table_core.specs.Table.{TableRows}
use Rattle.table_core.specs.declared.schema.Column.{Column}
use Rattle.filter_zones.specs.declared.cond.Cond.{Cond}
use Rattle.sql_bind.specs.Bounds.{FitsRows}
use Rattle.sql_bind.specs.Reads.{ReadsItsColumns}
use Rattle.sql_bind.specs.declared.plan.Plan.{Plan}

-- the table and its dictionaries are those of some text's records
abbrev pub CanBeLoaded : TableRows → List Fields → Type 0
CanBeLoaded table dicts = (records : List Fields) × IsLoaded records table dicts

-- where there is a condition, it fits each row of cells that its columns may have
abbrev pub FitsWhere : List Column → List Fields → Option Cond → Type 0
FitsWhere columns dicts None = Unit {0}
FitsWhere columns dicts (Some c) = FitsRows columns dicts c

-- the plan is over these columns and dictionaries, and names a column at least
pub record IsPlanOfTable (columns : List Column) (dicts : List Fields) (p : Plan) : Type 0 where
  pub reads : ReadsItsColumns (length columns) p
  pub some : 0 < length p.columns
  pub cond : FitsWhere columns dicts p.cond

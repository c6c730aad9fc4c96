-- Why a query isn't bound: the first cause that holds, at the first place where it holds.
use Rattle.std.specs.Prelude.{ℕ, Bool, true, false, if◌then◌else◌, List, map}
use Rattle.std.specs.Prelude.{Option, Some, None, is_none, option_map, codes}
use Rattle.std.specs.List.{find}
use Rattle.std.specs.Str.{bytes_eq}
use Rattle.table_sets.specs.Sets.{has}
use Rattle.table_core.specs.declared.schema.Column.{Column}
use Rattle.table_core.specs.declared.schema.Kind.{Kind}
use Rattle.table_core.specs.declared.schema.Kind.TheVariants as kind
use Rattle.query_meaning.specs.Meaning.{or_else, first_some}
use Rattle.sql_text.specs.declared.query.QItem.{QItem}
use Rattle.sql_text.specs.declared.query.QItem.TheVariants as item
use Rattle.sql_text.specs.Grammar.{QueryTree}
use Rattle.sql_bind.specs.declared.judging.Wrong.{Wrong}
use Rattle.sql_bind.specs.declared.judging.Wrong.TheVariants as wrong
use Rattle.sql_bind.specs.declared.places.Use.{Use}
use Rattle.sql_bind.specs.declared.places.Use.TheVariants as use_
use Rattle.sql_bind.specs.declared.refusal.BindRefusal.{BindRefusal}
use Rattle.sql_bind.specs.declared.refusal.BindRefusal.TheVariants as refusal
use Rattle.sql_bind.specs.Names.{column_of, kind_of}
use Rattle.sql_bind.specs.Places.{Place, places}

-- no column has the name
abbrev pub is_unknown : List Column → Place → Bool
is_unknown columns p = is_none (kind_of columns p.0)

-- a column of texts is summed or compared with a number, or a column of numbers with a text
abbrev pub misuses : Kind → Use → Bool
misuses kind.Text use_.Sum = true
misuses kind.Text use_.Number = true
misuses kind.Text use_.Text = false
misuses kind.Text use_.Other = false
misuses _ use_.Text = true
misuses _ use_.Sum = false
misuses _ use_.Number = false
misuses _ use_.Other = false

abbrev pub misuses_some : Option Kind → Use → Bool
misuses_some None used = false
misuses_some (Some k) used = misuses k used

abbrev pub is_misused : List Column → Place → Bool
is_misused columns p = misuses_some (kind_of columns p.0) p.1

-- what may be wrong at a place: the name, or the kind of its column
abbrev pub is_wrong : Wrong → List Column → Place → Bool
is_wrong wrong.Name = is_unknown
is_wrong wrong.Kind = is_misused

-- the name of the first place at which this is wrong
abbrev pub first_wrong : Wrong → List Column → List Place → Option (List ℕ)
first_wrong w columns ps = option_map (λ p. p.0) (find (is_wrong w columns) ps)

-- the name of a plain item whose column is none of these key columns
abbrev pub plain_outside : List Column → List ℕ → QItem → Option (List ℕ)
plain_outside columns keys (item.Plain c) = if has keys (column_of columns c) then None else Some c
plain_outside columns keys _ = None

-- the first such item; a query with a limit has none
abbrev pub not_grouped : List Column → List ℕ → List QItem → Option ℕ → Option (List ℕ)
not_grouped columns keys items None = first_some (plain_outside columns keys) items
not_grouped columns keys items (Some n) = None

-- the only table is called t
abbrev pub unknown_table : List ℕ → Option (List ℕ)
unknown_table table = if bytes_eq table (codes "t") then None else Some table

-- THE REFUSAL of a query
abbrev pub refusal_of : List Column → QueryTree → Option BindRefusal
refusal_of columns q =
    or_else (option_map refusal.UnknownTable (unknown_table q.table))
    (or_else (option_map refusal.UnknownColumn (first_wrong wrong.Name columns (places q)))
    (or_else (option_map refusal.WrongKind (first_wrong wrong.Kind columns (places q)))
    (option_map refusal.NotGrouped (not_grouped columns (map (column_of columns) q.keys) q.items q.limit))))

-- Which columns a plan reads.
use Rattle.std.specs.Prelude.{◌≡◌, ◌<◌, ℕ, true, All, Option, Some, None}
use Rattle.table_sets.specs.Sets.{has}
use Rattle.filter_zones.specs.declared.cond.Cond.{Cond}
use Rattle.filter_zones.specs.declared.cond.Cond.TheVariants as cond
use Rattle.query_meaning.specs.declared.item.Item.{Item}
use Rattle.query_meaning.specs.declared.item.Item.TheVariants.{CountAll, Count, Sum, Min, Max, Key}
use Rattle.query_meaning.specs.Places.{NamesPlaces}
use Rattle.query_meaning.specs.declared.order.Order.{Order}
use Rattle.query_meaning.specs.Rows.{RowQuery}
use Rattle.sql_bind.specs.declared.plan.Plan.{Plan}

-- P holds of each column that a condition compares or tests
abbrev pub CondReads : (ℕ → Type 0) → Cond → Type 0
CondReads P (cond.Compare x o v) = P x
CondReads P (cond.IsNull x negated) = P x
CondReads P (cond.And' p a q b) = CondReads P a × CondReads P b
CondReads P (cond.Or' p a q b) = CondReads P a × CondReads P b
CondReads P (cond.Not' p a) = CondReads P a

abbrev pub WhereReads : (ℕ → Type 0) → Option Cond → Type 0
WhereReads P None = Unit {0}
WhereReads P (Some c) = CondReads P c

-- P holds of the column of an item; a key's is among the key columns
abbrev pub ItemReads : (ℕ → Type 0) → Item → Type 0
ItemReads P CountAll = Unit {0}
ItemReads P (Count x) = P x
ItemReads P (Sum x) = P x
ItemReads P (Min x) = P x
ItemReads P (Max x) = P x
ItemReads P (Key j) = Unit {0}

pub record RowsRead (P : ℕ → Type 0) (r : RowQuery) : Type 0 where
  pub columns : All P r.columns
  pub order : All (λ (o : Order). P o.column) r.order

abbrev pub SomeRowsRead : (ℕ → Type 0) → Option RowQuery → Type 0
SomeRowsRead P None = Unit {0}
SomeRowsRead P (Some r) = RowsRead P r

-- P holds of each column that the plan reads
pub record Reads (P : ℕ → Type 0) (p : Plan) : Type 0 where
  pub cond : WhereReads P p.cond
  pub items : All (ItemReads P) p.items.items
  pub keys : All P p.keys.items
  pub rows : SomeRowsRead P p.rows

-- the plan reads no column but those that it names, and each of these is one of so many
pub record ReadsItsColumns (n : ℕ) (p : Plan) : Type 0 where
  pub reads : Reads (λ x. has p.columns x ≡ true) p
  pub groups_in : NamesPlaces p.items.items p.keys.items n
  pub rows_in : SomeRowsRead (λ x. x < n) p.rows
  pub columns_in : 0 < n → All (λ x. x < n) p.columns

-- What a rows query means over its matching rows: the first rows in the order that it asks for, and of these the values
-- of the named columns.
use Rattle.std.specs.Prelude.{◌≡◌, ℕ, ◌==◌, ◌||◌, Bool, true, false, if◌then◌else◌, List, [], ◌∷◌, map, take}
use Rattle.std.specs.Ordering.{is_lt, ordering_then, nat_cmp}
use Rattle.std.specs.declared.cmp.Ordering.{Ordering}
use Rattle.std.specs.declared.cmp.Ordering.TheVariants.{Equal, Less}
use Rattle.query_meaning.specs.Cells.{Cells}
use Rattle.query_meaning.specs.Meaning.{cell}
use Rattle.query_meaning.specs.declared.order.Order.{Order}

-- what a rows query asks: the named columns, the orders, and how many rows
pub record RowQuery : Type 0 where
  pub columns : List ℕ
  pub order : List Order
  pub limit : ℕ

-- a row with its number in the table
abbrev pub Numbered : Type 0 → Type 0
Numbered C = ℕ × List C

-- whether one of the rows has this number
abbrev pub has_number : {C : Type 0} → List (Numbered C) → ℕ → Bool
has_number [] n = false
has_number (r ∷ rows) n = (n == r.0) || has_number rows n

-- no two of the rows have one number
abbrev pub AreDistinct : {C : Type 0} → List (Numbered C) → Type 0
AreDistinct [] = Unit {0}
AreDistinct (r ∷ rows) = (has_number rows r.0 ≡ false) × AreDistinct rows

-- no number is in both lists
abbrev pub AreApart : {C : Type 0} → List (Numbered C) → List (Numbered C) → Type 0
AreApart rows more = (n : ℕ) → has_number rows n ≡ true → has_number more n ≡ false

-- over any kind of cell
module _ {C : Type 0} (k : Cells C) where
  -- how two rows stand in one order: by their cells in its column, the greater one first where it is descending
  abbrev pub order_cmp : Order → List C → List C → Ordering
  order_cmp o a b = if o.descending then k.order (cell k b o.column) (cell k a o.column)
      else k.order (cell k a o.column) (cell k b o.column)

  -- how two rows stand: in the first order in which they differ
  abbrev pub orders_cmp : List Order → List C → List C → Ordering
  orders_cmp [] a b = Equal
  orders_cmp (o ∷ orders) a b = ordering_then (order_cmp o a b) (orders_cmp orders a b)

  -- how two numbered rows stand: those that differ in no order column by their numbers
  abbrev pub row_cmp : List Order → Numbered C → Numbered C → Ordering
  row_cmp orders a b = ordering_then (orders_cmp orders a.1 b.1) (nat_cmp a.0 b.0)

  -- the row stands before the first one
  abbrev pub LeadsRows : List Order → Numbered C → List (Numbered C) → Type 0
  LeadsRows orders r [] = Unit {0}
  LeadsRows orders r (q ∷ rows) = row_cmp orders r q ≡ Less

  -- each row stands before the next one
  abbrev pub AreRising : List Order → List (Numbered C) → Type 0
  AreRising orders [] = Unit {0}
  AreRising orders (r ∷ rows) = LeadsRows orders r rows × AreRising orders rows

  -- one row more among rows in order
  abbrev pub insert_row : List Order → Numbered C → List (Numbered C) → List (Numbered C)
  insert_row orders r [] = r ∷ []
  insert_row orders r (q ∷ rows) = if is_lt (row_cmp orders r q) then r ∷ q ∷ rows else q ∷ insert_row orders r rows

  -- the rows in order: the one rearrangement in which each stands before the next
  abbrev pub in_order : List Order → List (Numbered C) → List (Numbered C)
  in_order orders [] = []
  in_order orders (r ∷ rows) = insert_row orders r (in_order orders rows)

  -- the first `limit` rows in the order that is asked for
  abbrev pub first_rows : RowQuery → List (Numbered C) → List (Numbered C)
  first_rows q rows = take q.limit (in_order q.order rows)

  -- THE MEANING: of the first rows, the values of the named columns
  abbrev pub rows_meaning : RowQuery → List (Numbered C) → List (List C)
  rows_meaning q rows = map (λ (r : Numbered C). map (cell k r.1) q.columns) (first_rows q rows)

-- The places of a query: where it names a column, from left to right, and how it uses the column there.
use Rattle.std.specs.Prelude.{ℕ, List, [], ◌∷◌, ◌++◌, map, Option, Some, None}
use Rattle.std.specs.List.{flat_map}
use Rattle.sql_text.specs.declared.condition.Literal.{Literal}
use Rattle.sql_text.specs.declared.condition.Literal.TheVariants as literal
use Rattle.sql_text.specs.declared.query.QItem.{QItem}
use Rattle.sql_text.specs.declared.query.QItem.TheVariants as item
use Rattle.sql_text.specs.declared.query.QOrder.{QOrder}
use Rattle.sql_text.specs.Grammar.{Tree, Compare, NullTest, Both, Either, Negated, QueryTree}
use Rattle.sql_bind.specs.declared.places.Place as code
use Rattle.sql_bind.specs.declared.places.Use.{Use}
use Rattle.sql_bind.specs.declared.places.Use.TheVariants as use_

-- a name and its use
abbrev pub Place : Type 0
Place = List ℕ × Use

-- a place, wherever its name lies in memory
abbrev pub place_seen : code.Place → Place
place_seen p = (p.name.now, p.used)

abbrev pub item_places : QItem → List Place
item_places item.CountAll = []
item_places (item.Count c) = (c, use_.Other) ∷ []
item_places (item.Sum c) = (c, use_.Sum) ∷ []
item_places (item.Min c) = (c, use_.Other) ∷ []
item_places (item.Max c) = (c, use_.Other) ∷ []
item_places (item.Plain c) = (c, use_.Other) ∷ []

-- a column is compared with a number or with a text
abbrev pub literal_use : Literal → Use
literal_use (literal.Int n) = use_.Number
literal_use (literal.Dec n places) = use_.Number
literal_use (literal.Text t) = use_.Text

abbrev pub cond_places : Tree → List Place
cond_places (Compare c o v) = (c, literal_use v) ∷ []
cond_places (NullTest c negated) = (c, use_.Other) ∷ []
cond_places (Both a b) = cond_places a ++ cond_places b
cond_places (Either a b) = cond_places a ++ cond_places b
cond_places (Negated a) = cond_places a

abbrev pub where_places : Option Tree → List Place
where_places None = []
where_places (Some c) = cond_places c

abbrev pub key_place : List ℕ → Place
key_place c = (c, use_.Other)

abbrev pub order_place : QOrder → Place
order_place o = (o.column, use_.Other)

-- the items, then the comparisons and tests for NULL, then the key columns, then the orders
abbrev pub places : QueryTree → List Place
places q = flat_map item_places q.items ++ (where_places q.cond ++ (map key_place q.keys ++ map order_place q.order))

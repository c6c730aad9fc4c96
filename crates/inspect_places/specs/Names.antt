-- The names among the tokens of a statement, each with the part that it plays, and the first one that a refusal is
-- about.
use Rattle.std.specs.Prelude.{ℕ, suc, Bool, true, false, not, ◌&&◌, if◌then◌else◌}
use Rattle.std.specs.Prelude.{List, [], ◌∷◌, ◌++◌, map, Option, Some, None}
use Rattle.std.specs.List.{flat_map}
use Rattle.std.specs.Str.{bytes_eq}
use Rattle.table_core.specs.declared.schema.Column as columns
use Rattle.table_core.specs.declared.schema.Kind as column_kind
use Rattle.sql_tokens.specs.declared.keyword.Keyword.TheVariants as key
use Rattle.sql_text.specs.declared.condition.Literal.{Literal}
use Rattle.sql_text.specs.declared.condition.Literal.TheVariants as literal
use Rattle.sql_text.specs.declared.query.QItem.{QItem}
use Rattle.sql_text.specs.declared.query.QItem.TheVariants as item
use Rattle.sql_text.specs.declared.query.QOrder.{QOrder}
use Rattle.sql_text.specs.Grammar.{Token, Column, Tree, Compare, NullTest, Both, Either, Negated, QueryTree}
use Rattle.sql_bind.specs.declared.places.Use.{Use}
use Rattle.sql_bind.specs.declared.places.Use.TheVariants as use_
use Rattle.sql_bind.specs.Names as columns_by_name
use Rattle.sql_bind.specs.Refusals.{misuses}
use Rattle.inspect_places.specs.Kinds.{kind_of}
use Rattle.inspect_places.specs.declared.kind.Kind.{Kind}
use Rattle.inspect_places.specs.declared.kind.Kind.TheVariants as kind
use Rattle.inspect_places.specs.declared.role.Role.{Role}
use Rattle.inspect_places.specs.declared.role.Role.TheVariants as role
use Rattle.inspect_places.specs.declared.role.Before.{Before}
use Rattle.inspect_places.specs.declared.role.Before.TheVariants as before
use Rattle.inspect_places.specs.declared.role.About.{About}
use Rattle.inspect_places.specs.declared.role.About.TheVariants as about

-- a name and its part
abbrev pub Named : Type 0
Named = List ℕ × Role

-- ---- among tokens

-- behind one token more, which is of this kind
abbrev pub next : Before → Kind → Before
next before.Rest k = before.Rest
next before.From k = before.Rest
next b (kind.Key key.From) = before.From
next before.Items (kind.Key key.Sum) = before.Sum
next before.Items kind.Open = before.Open
next before.Sum kind.Open = before.SumOpen
next b k = before.Items

abbrev pub first_kind : List Token → Option Kind
first_kind [] = None
first_kind (t ∷ ts) = Some (kind_of t)

-- compared with what is of this kind: a number may have a minus
abbrev pub compared_with : Option Kind → Role
compared_with (Some kind.Text) = role.WithText
compared_with k = role.WithNumber

abbrev pub tested_by : Kind → List Token → Role
tested_by kind.Comparison ts = compared_with (first_kind ts)
tested_by k ts = role.Bare

abbrev pub tested : List Token → Role
tested [] = role.Bare
tested (t ∷ ts) = tested_by (kind_of t) ts

-- the part of a name there, by the tokens behind it
abbrev pub role_at : Before → List Token → Role
role_at before.Items ts = role.Item
role_at before.Sum ts = role.Item
role_at before.SumOpen ts = role.Summed
role_at before.Open ts = role.Called
role_at before.From ts = role.Table
role_at before.Rest ts = tested ts

-- the name that a token is
abbrev pub name_at : Before → Token → List Token → Option Named
name_at b (Column c) ts = Some (c, role_at b ts)
name_at b t ts = None

-- of each token the name that it is, if it is one
abbrev pub names_from : Before → List Token → List (Option Named)
names_from b [] = []
names_from b (t ∷ ts) = name_at b t ts ∷ names_from (next b (kind_of t)) ts

abbrev pub names_at : List Token → List (Option Named)
names_at ts = names_from before.Items ts

-- ---- in a query

abbrev pub item_names : QItem → List Named
item_names item.CountAll = []
item_names (item.Count c) = (c, role.Called) ∷ []
item_names (item.Sum c) = (c, role.Summed) ∷ []
item_names (item.Min c) = (c, role.Called) ∷ []
item_names (item.Max c) = (c, role.Called) ∷ []
item_names (item.Plain c) = (c, role.Item) ∷ []

abbrev pub literal_role : Literal → Role
literal_role (literal.Int n) = role.WithNumber
literal_role (literal.Dec n places) = role.WithNumber
literal_role (literal.Text t) = role.WithText

abbrev pub cond_names : Tree → List Named
cond_names (Compare c o v) = (c, literal_role v) ∷ []
cond_names (NullTest c negated) = (c, role.Bare) ∷ []
cond_names (Both a b) = cond_names a ++ cond_names b
cond_names (Either a b) = cond_names a ++ cond_names b
cond_names (Negated a) = cond_names a

abbrev pub where_names : Option Tree → List Named
where_names None = []
where_names (Some c) = cond_names c

abbrev pub key_name : List ℕ → Named
key_name c = (c, role.Bare)

abbrev pub order_name : QOrder → Named
order_name o = (o.column, role.Bare)

-- items, table, condition, keys, orders
abbrev pub query_names : QueryTree → List Named
query_names q = flat_map item_names q.items
    ++ ((q.table, role.Table) ∷ (where_names q.cond ++ (map key_name q.keys ++ map order_name q.order)))

-- those that are there
abbrev pub somes : List (Option Named) → List Named
somes [] = []
somes (None ∷ xs) = somes xs
somes (Some x ∷ xs) = x ∷ somes xs

-- ---- which name a refusal is about

abbrev pub is_table : Role → Bool
is_table role.Table = true
is_table _ = false

abbrev pub is_item : Role → Bool
is_item role.Item = true
is_item _ = false

abbrev pub use_of : Role → Use
use_of role.Summed = use_.Sum
use_of role.WithNumber = use_.Number
use_of role.WithText = use_.Text
use_of _ = use_.Other

abbrev pub misused : Option column_kind.Kind → Role → Bool
misused None r = false
misused (Some k) r = misuses k (use_of r)

-- whether a part is one that is refused, where the name's column has this kind
abbrev pub fits : Option column_kind.Kind → About → Role → Bool
fits k about.Table r = is_table r
fits k about.Column r = not (is_table r)
fits k about.Use r = misused k r
fits k about.Key r = is_item r

abbrev pub is_sought : Option column_kind.Kind → About → List ℕ → Option Named → Bool
is_sought k a name None = false
is_sought k a name (Some x) = bytes_eq x.0 name && fits k a x.1

-- whether it is this name in a part that is refused
abbrev pub is_about : List columns.Column → About → List ℕ → Option Named → Bool
is_about columns a name x = is_sought (columns_by_name.kind_of columns name) a name x

-- whether a token is this name
abbrev pub is_called : List ℕ → Token → Bool
is_called name (Column c) = bytes_eq c name
is_called name t = false

-- the number of the first at which the test is true, or else how many there are
abbrev pub first_index : {A : Type 0} → (A → Bool) → List A → ℕ
first_index test [] = 0
first_index test (x ∷ xs) = if test x then 0 else suc (first_index test xs)

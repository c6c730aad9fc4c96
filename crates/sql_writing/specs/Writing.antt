-- The text that a query is written as: keywords in capital letters, one space between tokens, each name in double
-- quotes, and parentheses only where the grammar needs them.
use Rattle.std.specs.Prelude.{ℕ, ◌≤◌, Bool, true, false, List, [], ◌∷◌, ◌++◌, if◌then◌else◌}
use Rattle.std.specs.Prelude.{◌==◌, Option, Some, None, codes, flat_map, pos}
use Rattle.table_core.specs.Value.{number_text, quoted}
use Rattle.table_core.specs.declared.op.Op.{Op}
use Rattle.table_core.specs.declared.op.Op.TheVariants.{Eq, Ne, Lt, Le, Gt, Ge}
use Rattle.sql_text.specs.declared.condition.Literal.{Literal}
use Rattle.sql_text.specs.declared.condition.Literal.TheVariants as literal
use Rattle.sql_text.specs.declared.query.QItem.{QItem}
use Rattle.sql_text.specs.declared.query.QItem.TheVariants as item
use Rattle.sql_text.specs.declared.query.QOrder.{QOrder}
use Rattle.sql_writing.specs.declared.writing.Place.{Place}
use Rattle.sql_writing.specs.declared.writing.Place.TheVariants as place
use Rattle.sql_text.specs.Grammar.{Tree, Compare, NullTest, Both, Either, Negated, QueryTree}

-- a double quote inside is doubled
abbrev pub doubled : ℕ → List ℕ
doubled b = if b == 34 then 34 ∷ 34 ∷ [] else b ∷ []

abbrev pub name_text : List ℕ → List ℕ
name_text c = 34 ∷ (flat_map doubled c ++ 34 ∷ [])

abbrev pub op_text : Op → List ℕ
op_text Eq = codes " = "
op_text Ne = codes " <> "
op_text Lt = codes " < "
op_text Le = codes " <= "
op_text Gt = codes " > "
op_text Ge = codes " >= "

abbrev pub literal_text : Literal → List ℕ
literal_text (literal.Int n) = number_text 0 n
literal_text (literal.Dec n places) = number_text places n
literal_text (literal.Text t) = quoted t

abbrev pub null_text : Bool → List ℕ
null_text false = codes " IS NULL"
null_text true = codes " IS NOT NULL"

abbrev pub open_text : Bool → List ℕ
open_text b = if b then codes "( " else []

abbrev pub close_text : Bool → List ℕ
close_text b = if b then codes " )" else []

abbrev pub enclosed : Bool → List ℕ → List ℕ
enclosed b w = open_text b ++ (w ++ close_text b)

-- An OR stands free only where an OR may stand, an AND only where an OR or an AND may stand.
abbrev pub encloses_or : Place → Bool
encloses_or place.Or = false
encloses_or place.And = true
encloses_or place.Not = true

abbrev pub encloses_and : Place → Bool
encloses_and place.Or = false
encloses_and place.And = false
encloses_and place.Not = true

abbrev pub cond_text : Place → Tree → List ℕ
cond_text p (Compare c o v) = name_text c ++ (op_text o ++ literal_text v)
cond_text p (NullTest c negated) = name_text c ++ null_text negated
cond_text p (Either l r) = enclosed (encloses_or p) (cond_text place.Or l ++ (codes " OR " ++ cond_text place.And r))
cond_text p (Both l r) = enclosed (encloses_and p) (cond_text place.And l ++ (codes " AND " ++ cond_text place.Not r))
cond_text p (Negated t) = codes "NOT " ++ cond_text place.Not t

abbrev pub called_text : List ℕ → List ℕ → List ℕ
called_text word c = word ++ (codes " ( " ++ (name_text c ++ codes " )"))

abbrev pub item_text : QItem → List ℕ
item_text item.CountAll = codes "COUNT ( * )"
item_text (item.Count c) = called_text (codes "COUNT") c
item_text (item.Sum c) = called_text (codes "SUM") c
item_text (item.Min c) = called_text (codes "MIN") c
item_text (item.Max c) = called_text (codes "MAX") c
item_text (item.Plain c) = name_text c

abbrev pub order_text : QOrder → List ℕ
order_text o = name_text o.column ++ (if o.descending then codes " DESC" else codes " ASC")

-- things with a comma between them, behind a word
abbrev pub list_text : {A : Type 0} → (A → List ℕ) → List ℕ → List A → List ℕ
list_text f word [] = []
list_text f word (x ∷ xs) = word ++ (f x ++ list_text f (codes " , ") xs)

abbrev pub where_text : Option Tree → List ℕ
where_text None = []
where_text (Some t) = codes " WHERE " ++ cond_text place.Or t

abbrev pub limit_text : Option ℕ → List ℕ
limit_text None = []
limit_text (Some n) = codes " LIMIT " ++ number_text 0 (pos n)

abbrev pub query_text : QueryTree → List ℕ
query_text q =
    list_text item_text (codes "SELECT ") q.items ++ (codes " FROM " ++ (name_text q.table ++ (where_text q.cond
    ++ (list_text name_text (codes " GROUP BY ") q.keys
    ++ (list_text order_text (codes " ORDER BY ") q.order ++ limit_text q.limit)))))

-- ---- what can be written

abbrev pub HasFewPlaces : Literal → Type 0
HasFewPlaces (literal.Int n) = Unit {0}
HasFewPlaces (literal.Dec n places) = places ≤ 9
HasFewPlaces (literal.Text t) = Unit {0}

abbrev pub HasFewPlacesIn : Tree → Type 0
HasFewPlacesIn (Compare c o v) = HasFewPlaces v
HasFewPlacesIn (NullTest c negated) = Unit {0}
HasFewPlacesIn (Both l r) = HasFewPlacesIn l × HasFewPlacesIn r
HasFewPlacesIn (Either l r) = HasFewPlacesIn l × HasFewPlacesIn r
HasFewPlacesIn (Negated t) = HasFewPlacesIn t

abbrev pub CanStand : Option Tree → Type 0
CanStand None = Unit {0}
CanStand (Some t) = HasFewPlacesIn t

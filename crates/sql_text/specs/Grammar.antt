-- The grammar of queries: each rule as data, the tokens that it spells, and what it means.
use Rattle.std.specs.Prelude.{◌≡◌, ◌<◌, ◌≤◌, ℕ, ◌+◌, ◌^◌, Bool, true, false, List, [], ◌∷◌, ◌++◌, map}
use Rattle.std.specs.Prelude.{length, Option, Some, None, pos, neg_ℤ, if◌then◌else◌, nat_lt, ◌||◌}
use Rattle.sql_tokens.specs.declared.keyword.Keyword.{Keyword}
use Rattle.sql_tokens.specs.declared.keyword.Keyword.TheVariants as key
use Rattle.table_core.specs.declared.op.Op.{Op}
use Rattle.sql_text.specs.declared.word.Sign.{Sign}
use Rattle.sql_text.specs.declared.word.Sign.TheVariants.{Open, Close, Comma, Star, Minus}
use Rattle.sql_text.specs.declared.condition.Literal.{Literal}
use Rattle.sql_text.specs.declared.condition.Literal.TheVariants as literal
use Rattle.sql_text.specs.declared.query.QItem.{QItem}
use Rattle.sql_text.specs.declared.query.QItem.TheVariants.{CountAll, Count, Sum, Min, Max, Plain}
use Rattle.sql_text.specs.declared.query.QOrder.{QOrder}

-- ---- what is read

-- a token with its meaning
pub data Token : Type 0 where
  Key : Keyword → Token
  Symbol : Sign → Token
  Compares : Op → Token
  -- a name, quoted or not
  Column : List ℕ → Token
  Number : ℕ → Token
  -- the number read without the point, and how many digits stand behind it
  Decimal : ℕ → ℕ → Token
  Text : List ℕ → Token

-- a condition, wherever it lies in memory
pub data Tree : Type 0 where
  Compare : List ℕ → Op → Literal → Tree
  NullTest : List ℕ → Bool → Tree
  Both : Tree → Tree → Tree
  Either : Tree → Tree → Tree
  Negated : Tree → Tree

-- a query, wherever it lies in memory
pub record QueryTree : Type 0 where
  pub items : List QItem
  pub table : List ℕ
  pub cond : Option Tree
  pub keys : List (List ℕ)
  pub order : List QOrder
  pub limit : Option ℕ

-- ---- the rules

-- literal = [ - ] number | [ - ] decimal | text
pub data LiteralText : Type 0 where
  number : (n : ℕ) → n < 2 ^ 63 → LiteralText
  minus_number : (n : ℕ) → n ≤ 2 ^ 63 → LiteralText
  decimal : (n places : ℕ) → n < 2 ^ 63 → places ≤ 9 → LiteralText
  minus_decimal : (n places : ℕ) → n ≤ 2 ^ 63 → places ≤ 9 → LiteralText
  text : List ℕ → LiteralText

mutual
  -- or = and { OR and }
  pub data Ors : Type 0 where
    ors : Ands → OrTail → Ors

  pub data OrTail : Type 0 where
    no_or : OrTail
    more_or : Ands → OrTail → OrTail

  -- and = not { AND not }
  pub data Ands : Type 0 where
    ands : Nots → AndTail → Ands

  pub data AndTail : Type 0 where
    no_and : AndTail
    more_and : Nots → AndTail → AndTail

  -- not = NOT not | ( or ) | column op literal | column IS [ NOT ] NULL
  pub data Nots : Type 0 where
    not_not : Nots → Nots
    in_parentheses : Ors → Nots
    compare : List ℕ → Op → LiteralText → Nots
    is_null : List ℕ → Nots
    is_not_null : List ℕ → Nots

-- order = column [ ASC | DESC ]
pub data OrderText : Type 0 where
  bare : List ℕ → OrderText
  ascending : List ℕ → OrderText
  descending : List ℕ → OrderText

-- A list of things with a comma between them has a first one.
abbrev pub Listed : Type 0 → Type 0
Listed A = A × List A

-- query = groups | rows
pub data QueryText : Type 0 where
  -- groups = SELECT item { , item } FROM column [ WHERE or ] [ GROUP BY column { , column } ]
  groups : Listed QItem → List ℕ → Option Ors → Option (Listed (List ℕ)) → QueryText
  -- rows = SELECT column { , column } FROM column [ WHERE or ] [ ORDER BY order { , order } ] LIMIT number
  rows : Listed (List ℕ) → List ℕ → Option Ors → Option (Listed OrderText) → ℕ → QueryText

-- ---- the tokens of each rule

abbrev pub literal_tokens : LiteralText → List Token
literal_tokens (number n h) = Number n ∷ []
literal_tokens (minus_number n h) = Symbol Minus ∷ Number n ∷ []
literal_tokens (decimal n p h k) = Decimal n p ∷ []
literal_tokens (minus_decimal n p h k) = Symbol Minus ∷ Decimal n p ∷ []
literal_tokens (text t) = Text t ∷ []

abbrev mutual
  pub or_tokens : Ors → List Token
  or_tokens (ors a t) = and_tokens a ++ or_tail_tokens t

  pub or_tail_tokens : OrTail → List Token
  or_tail_tokens no_or = []
  or_tail_tokens (more_or a t) = Key key.Or ∷ (and_tokens a ++ or_tail_tokens t)

  pub and_tokens : Ands → List Token
  and_tokens (ands a t) = not_tokens a ++ and_tail_tokens t

  pub and_tail_tokens : AndTail → List Token
  and_tail_tokens no_and = []
  and_tail_tokens (more_and a t) = Key key.And ∷ (not_tokens a ++ and_tail_tokens t)

  pub not_tokens : Nots → List Token
  not_tokens (not_not a) = Key key.Not ∷ not_tokens a
  not_tokens (in_parentheses o) = Symbol Open ∷ (or_tokens o ++ Symbol Close ∷ [])
  not_tokens (compare c o v) = Column c ∷ Compares o ∷ literal_tokens v
  not_tokens (is_null c) = Column c ∷ Key key.Is ∷ Key key.Null ∷ []
  not_tokens (is_not_null c) = Column c ∷ Key key.Is ∷ Key key.Not ∷ Key key.Null ∷ []

-- item = COUNT ( * ) | COUNT ( column ) | SUM ( column ) | MIN ( column ) | MAX ( column ) | column
abbrev pub item_tokens : QItem → List Token
item_tokens CountAll = Key key.Count ∷ Symbol Open ∷ Symbol Star ∷ Symbol Close ∷ []
item_tokens (Count c) = Key key.Count ∷ Symbol Open ∷ Column c ∷ Symbol Close ∷ []
item_tokens (Sum c) = Key key.Sum ∷ Symbol Open ∷ Column c ∷ Symbol Close ∷ []
item_tokens (Min c) = Key key.Min ∷ Symbol Open ∷ Column c ∷ Symbol Close ∷ []
item_tokens (Max c) = Key key.Max ∷ Symbol Open ∷ Column c ∷ Symbol Close ∷ []
item_tokens (Plain c) = Column c ∷ []

abbrev pub column_tokens : List ℕ → List Token
column_tokens c = Column c ∷ []

abbrev pub order_tokens : OrderText → List Token
order_tokens (bare c) = Column c ∷ []
order_tokens (ascending c) = Column c ∷ Key key.Asc ∷ []
order_tokens (descending c) = Column c ∷ Key key.Desc ∷ []

-- thing { , thing }
abbrev pub list_tokens : {A : Type 0} → (A → List Token) → A → List A → List Token
list_tokens f x [] = f x
list_tokens f x (y ∷ ys) = f x ++ (Symbol Comma ∷ list_tokens f y ys)

abbrev pub where_tokens : Option Ors → List Token
where_tokens None = []
where_tokens (Some o) = Key key.Where ∷ or_tokens o

abbrev pub group_tokens : Option (Listed (List ℕ)) → List Token
group_tokens None = []
group_tokens (Some l) = Key key.Group ∷ Key key.By ∷ list_tokens column_tokens l.0 l.1

abbrev pub order_by_tokens : Option (Listed OrderText) → List Token
order_by_tokens None = []
order_by_tokens (Some l) = Key key.Order ∷ Key key.By ∷ list_tokens order_tokens l.0 l.1

abbrev pub query_tokens : QueryText → List Token
query_tokens (groups l t w k) =
    Key key.Select ∷ (list_tokens item_tokens l.0 l.1 ++ (Key key.From ∷ Column t ∷ (where_tokens w ++ group_tokens k)))
query_tokens (rows l t w o n) =
    Key key.Select ∷ (list_tokens column_tokens l.0 l.1
    ++ (Key key.From ∷ Column t ∷ (where_tokens w ++ (order_by_tokens o ++ (Key key.Limit ∷ Number n ∷ [])))))

-- ---- what each rule means

abbrev pub literal_value : LiteralText → Literal
literal_value (number n h) = literal.Int (pos n)
literal_value (minus_number n h) = literal.Int (neg_ℤ (pos n))
literal_value (decimal n p h k) = literal.Dec (pos n) p
literal_value (minus_decimal n p h k) = literal.Dec (neg_ℤ (pos n)) p
literal_value (text t) = literal.Text t

-- AND and OR group to the left, and parentheses leave no mark.
abbrev mutual
  pub or_tree : Ors → Tree
  or_tree (ors a t) = or_tail_tree (and_tree a) t

  pub or_tail_tree : Tree → OrTail → Tree
  or_tail_tree left no_or = left
  or_tail_tree left (more_or a t) = or_tail_tree (Either left (and_tree a)) t

  pub and_tree : Ands → Tree
  and_tree (ands a t) = and_tail_tree (not_tree a) t

  pub and_tail_tree : Tree → AndTail → Tree
  and_tail_tree left no_and = left
  and_tail_tree left (more_and a t) = and_tail_tree (Both left (not_tree a)) t

  pub not_tree : Nots → Tree
  not_tree (not_not a) = Negated (not_tree a)
  not_tree (in_parentheses o) = or_tree o
  not_tree (compare c o v) = Compare c o (literal_value v)
  not_tree (is_null c) = NullTest c false
  not_tree (is_not_null c) = NullTest c true

abbrev pub order_of : OrderText → QOrder
order_of (bare c) = record { column = c; descending = false }
order_of (ascending c) = record { column = c; descending = false }
order_of (descending c) = record { column = c; descending = true }

abbrev pub all_of : {A B : Type 0} → (A → B) → Option (Listed A) → List B
all_of f None = []
all_of f (Some l) = map f (l.0 ∷ l.1)

abbrev pub cond_of : Option Ors → Option Tree
cond_of None = None
cond_of (Some o) = Some (or_tree o)

abbrev pub query_tree : QueryText → QueryTree
query_tree (groups l t w k) =
    record { items = l.0 ∷ l.1; table = t; cond = cond_of w; keys = all_of (λ c. c) k; order = []; limit = None }
query_tree (rows l t w o n) =
    record {
      items = map Plain (l.0 ∷ l.1);
      table = t;
      cond = cond_of w;
      keys = [];
      order = all_of order_of o;
      limit = Some n;
    }

-- The tokens are this query.
abbrev pub Reads : List Token → QueryTree → Type 0
Reads ts q = (x : QueryText) × (query_tokens x ≡ ts) × (query_tree x ≡ q)

-- ---- the limits

-- how many tokens are AND, OR, NOT or an opening parenthesis
abbrev pub nests : Token → Bool
nests (Key key.And) = true
nests (Key key.Or) = true
nests (Key key.Not) = true
nests (Symbol Open) = true
nests _ = false

abbrev pub nesting : List Token → ℕ
nesting [] = 0
nesting (t ∷ ts) = (if nests t then 1 else 0) + nesting ts

abbrev pub is_past : ℕ → Option ℕ → Bool
is_past most None = false
is_past most (Some n) = nat_lt most n

-- more than 32 items, key columns or orders, or a limit past 4096
abbrev pub has_too_many : QueryTree → Bool
has_too_many q = nat_lt 32 (length q.items)
    || (nat_lt 32 (length q.keys) || (nat_lt 32 (length q.order) || is_past 4096 q.limit))

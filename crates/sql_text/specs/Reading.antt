-- Reading from left to right: what each function of the reader gives. It reads just what the grammar has, as the
-- clauses of `read_query` say.
use Rattle.std.specs.Prelude.{◌≡◌, ◌<◌, ℕ, zero, suc, ◌^◌, Bool, true, false, if◌then◌else◌, ◌&&◌, nat_le, nat_lt, List}
use Rattle.std.specs.Prelude.{[], ◌∷◌, length, Option, Some, None, Result, Ok, Err, ℤ, pos, neg_ℤ, option_and_then}
use Rattle.std.specs.List.{list_all}
use Rattle.std.specs.Borrow.{Bor}
use denote.Enum.Bare.{sameb}
use Rattle.sql_tokens.specs.declared.keyword.Keyword.{Keyword}
use Rattle.sql_tokens.specs.declared.keyword.Keyword.TheVariants as key
use Rattle.sql_tokens.specs.contracts.keyword.Keyword as keyword
use Rattle.sql_tokens.specs.declared.refusal.TextRefusal.{TextRefusal}
use Rattle.sql_tokens.specs.declared.refusal.TextRefusal.TheVariants as refusal
use Rattle.sql_text.specs.declared.word.Sign.{Sign}
use Rattle.sql_text.specs.declared.word.Sign.TheVariants.{Open, Close, Comma, Star, Minus}
use Rattle.sql_text.specs.contracts.word.Sign as sign
use Rattle.sql_text.specs.declared.word.Word.{Word}
use Rattle.sql_text.specs.declared.condition.Literal.{Literal}
use Rattle.sql_text.specs.declared.condition.Literal.TheVariants as literal
use Rattle.sql_text.specs.declared.condition.QCond.{QCond}
use Rattle.sql_text.specs.declared.condition.QCond.TheVariants as cond
use Rattle.sql_text.specs.declared.query.QItem.{QItem}
use Rattle.sql_text.specs.declared.query.QItem.TheVariants as item
use Rattle.sql_text.specs.declared.query.QOrder.{QOrder}
use Rattle.sql_text.specs.declared.query.Query.{Query}
use Rattle.sql_text.specs.declared.reading.Parsed.{Parsed}
use Rattle.sql_text.specs.declared.tail.Tail.{Tail}
use Rattle.sql_text.specs.Grammar.{Token, Key, Symbol, Compares, Column, Number, Decimal, Text}
use Rattle.sql_text.specs.Grammar.{Tree, Compare, NullTest, Both, Either, Negated, QueryTree}
use Rattle.sql_text.specs.Words.{name_of, tokens_of, value_of}

-- ---- what the code holds, wherever it lies in memory

abbrev pub tree_of : QCond → Tree
tree_of (cond.Compare c o v) = Compare c o v
tree_of (cond.IsNull c negated) = NullTest c negated
tree_of (cond.And' p l q r) = Both (tree_of l) (tree_of r)
tree_of (cond.Or' p l q r) = Either (tree_of l) (tree_of r)
tree_of (cond.Not' p c) = Negated (tree_of c)

abbrev pub cond_seen : Option QCond → Option Tree
cond_seen None = None
cond_seen (Some c) = Some (tree_of c)

abbrev pub query_of : Query → QueryTree
query_of q =
    record {
      items = q.items.items;
      table = q.table;
      cond = cond_seen q.cond;
      keys = q.keys.items;
      order = q.order.items;
      limit = q.limit;
    }

-- ---- what a function answers

-- What was read is what reading gives, unless memory ran out.
abbrev pub Fails : {Y : Type 0} → TextRefusal → Option Y → Type 0
Fails refusal.Syntax read = read ≡ None
Fails refusal.TooNested read = ⊥
Fails refusal.TooManyItems read = ⊥
Fails refusal.Memory read = Unit {0}

abbrev pub Gives : {X Y : Type 0} → (X → Y) → Result X TextRefusal → Option Y → Type 0
Gives view (Ok x) read = read ≡ Some (view x)
Gives view (Err e) read = Fails e read

infixl 10 ◌>>=◌
abbrev pub ◌>>=◌ : {A B : Type 0} → Option A → (A → Option B) → Option B
o >>= f = option_and_then f o

abbrev pub choose : {A B : Type 0} → Option A → B → (A → B) → B
choose None none some = none
choose (Some a) none some = some a

-- What is read, and the tokens behind it.
abbrev pub Read : Type 0 → Type 0
Read A = Option (A × List Token)

-- each thing that is read takes a token at least
abbrev pub Takes : {A : Type 0} → (List Token → Read A) → Type 0
Takes {A} thing = (ts us : List Token) (a : A) → thing ts ≡ Some (a, us) → length us < length ts

abbrev pub rest_seen : Option (Bor (List Word)) → Option (List Token)
rest_seen None = None
rest_seen (Some r) = Some (tokens_of r.now)

abbrev pub column_seen : Option (Bool × Bor (List ℕ) × Bor (List Word)) → Read (List ℕ)
column_seen None = None
column_seen (Some c) = Some (name_of c.0 c.1.now, tokens_of c.2.now)

abbrev pub literal_seen : Option (Literal × Bor (List Word)) → Read Literal
literal_seen None = None
literal_seen (Some v) = Some (v.0, tokens_of v.1.now)

-- ---- single tokens

abbrev pub after_key : Keyword → List Token → Option (List Token)
after_key k (Key j ∷ ts) = if sameb keyword.the_type j k then Some ts else None
after_key k _ = None

abbrev pub after_sign : Sign → List Token → Option (List Token)
after_sign s (Symbol r ∷ ts) = if sameb sign.the_type r s then Some ts else None
after_sign s _ = None

abbrev pub column_at : List Token → Read (List ℕ)
column_at (Column c ∷ ts) = Some (c, ts)
column_at _ = None

-- ---- literals

abbrev pub up_to : ℕ → ℕ → Option ℕ
up_to most n = if nat_le n most then Some n else None

abbrev pub signed : Bool → ℕ → Option ℤ
signed false n = if nat_lt n (2 ^ 63) then Some (pos n) else None
signed true n = if nat_le n (2 ^ 63) then Some (neg_ℤ (pos n)) else None

abbrev pub decimal_value : Bool → ℕ → ℕ → Option Literal
decimal_value is_negative n places = if nat_le places 9 then (signed is_negative n >>= λ v. Some (literal.Dec v places))
    else None

abbrev pub number_at : Bool → List Token → Read Literal
number_at is_negative (Number n ∷ ts) = signed is_negative n >>= λ v. Some (literal.Int v, ts)
number_at is_negative (Decimal n places ∷ ts) = decimal_value is_negative n places >>= λ v. Some (v, ts)
number_at is_negative _ = None

abbrev pub literal_at : List Token → Read Literal
literal_at (Symbol Minus ∷ ts) = number_at true ts
literal_at (Text t ∷ ts) = Some (literal.Text t, ts)
literal_at ts = number_at false ts

-- ---- conditions

abbrev pub null_at : List ℕ → Bool → List Token → Read Tree
null_at c negated ts = after_key key.Null ts >>= λ us. Some (NullTest c negated, us)

abbrev pub is_at : List ℕ → List Token → Read Tree
is_at c ts = choose (after_key key.Not ts) (null_at c false ts) (λ us. null_at c true us)

-- behind a column
abbrev pub leaf_at : List ℕ → List Token → Read Tree
leaf_at c (Compares o ∷ ts) = literal_at ts >>= λ v. Some (Compare c o v.0, v.1)
leaf_at c ts = after_key key.Is ts >>= λ us. is_at c us

abbrev pub close_at : Tree → List Token → Read Tree
close_at tree ts = after_sign Close ts >>= λ us. Some (tree, us)

-- At most so many rules are open at once.
unfoldable mutual
  pub or_at : ℕ → List Token → Read Tree
  or_at zero ts = None
  or_at (suc n) ts = and_at n ts >>= λ a. or_tail_at n a.0 a.1

  pub or_tail_at : ℕ → Tree → List Token → Read Tree
  or_tail_at zero left ts = None
  or_tail_at (suc n) left ts = choose (after_key key.Or ts) (Some (left, ts))
      (λ us. and_at n us >>= λ a. or_tail_at n (Either left a.0) a.1)

  pub and_at : ℕ → List Token → Read Tree
  and_at zero ts = None
  and_at (suc n) ts = not_at n ts >>= λ a. and_tail_at n a.0 a.1

  pub and_tail_at : ℕ → Tree → List Token → Read Tree
  and_tail_at zero left ts = None
  and_tail_at (suc n) left ts = choose (after_key key.And ts) (Some (left, ts))
      (λ us. not_at n us >>= λ a. and_tail_at n (Both left a.0) a.1)

  pub not_at : ℕ → List Token → Read Tree
  not_at zero ts = None
  not_at (suc n) ts =
      choose (after_key key.Not ts)
      (choose (after_sign Open ts)
      (choose (column_at ts) None (λ c. leaf_at c.0 c.1))
      (λ us. or_at n us >>= λ a. close_at a.0 a.1))
      (λ us. not_at n us >>= λ a. Some (Negated a.0, a.1))

-- 4 rules are open for each token that nests, and 3 without one.
abbrev pub where_at : List Token → Read (Option Tree)
where_at ts = choose (after_key key.Where ts) (Some (None, ts)) (λ us. or_at 1027 us >>= λ c. Some (Some c.0, c.1))

-- ---- lists

-- At most n things.
abbrev pub list_at : {A : Type 0} → (List Token → Read A) → ℕ → List Token → Read (List A)
list_at thing zero ts = None
list_at thing (suc n) ts =
    thing ts >>= λ a. choose (after_sign Comma a.1) (Some (a.0 ∷ [], a.1))
    (λ us. list_at thing n us >>= λ r. Some (a.0 ∷ r.0, r.1))

abbrev pub all_at : {A : Type 0} → (List Token → Read A) → List Token → Read (List A)
all_at thing ts = list_at thing (length ts) ts

abbrev pub inside_at : List Token → Read (List ℕ)
inside_at ts = after_sign Open ts >>= λ us. column_at us >>= λ c. after_sign Close c.1 >>= λ vs. Some (c.0, vs)

abbrev pub star_at : List Token → Option (List Token)
star_at ts = after_sign Open ts >>= λ us. after_sign Star us >>= λ vs. after_sign Close vs

abbrev pub count_at : List Token → Read QItem
count_at ts = choose (star_at ts) (inside_at ts >>= λ c. Some (item.Count c.0, c.1)) (λ us. Some (item.CountAll, us))

abbrev pub keyed_item : Keyword → List Token → Read QItem
keyed_item key.Count ts = count_at ts
keyed_item key.Sum ts = inside_at ts >>= λ c. Some (item.Sum c.0, c.1)
keyed_item key.Min ts = inside_at ts >>= λ c. Some (item.Min c.0, c.1)
keyed_item key.Max ts = inside_at ts >>= λ c. Some (item.Max c.0, c.1)
keyed_item _ ts = None

abbrev pub item_at : List Token → Read QItem
item_at (Key k ∷ ts) = keyed_item k ts
item_at ts = column_at ts >>= λ c. Some (item.Plain c.0, c.1)

abbrev pub direction_at : List Token → Bool × List Token
direction_at ts = choose (after_key key.Desc ts) (choose (after_key key.Asc ts) (false, ts) (λ us. (false, us)))
    (λ us. (true, us))

abbrev pub order_at : List Token → Read QOrder
order_at ts = column_at ts >>= λ c. Some
    (record { column = c.0; descending = (direction_at c.1).0 }, (direction_at c.1).1)

-- ---- what stands behind the condition

pub record TailTree : Type 0 where
  pub keys : List (List ℕ)
  pub order : List QOrder
  pub limit : Option ℕ

abbrev pub limit_seen : Option (Bor (List ℕ)) → Option ℕ
limit_seen None = None
limit_seen (Some digits) = Some (value_of digits.now)

abbrev pub tail_of : Tail → TailTree
tail_of t = record { keys = t.keys.items; order = t.order.items; limit = limit_seen t.limit }

abbrev pub grouped : List (List ℕ) → List Token → Option TailTree
grouped keys [] = Some (record { keys = keys; order = []; limit = None })
grouped keys (t ∷ ts) = None

abbrev pub grouped_at : List Token → Option TailTree
grouped_at ts = after_key key.By ts >>= λ us. all_at column_at us >>= λ k. grouped k.0 k.1

abbrev pub limited : List QOrder → ℕ → List Token → Option TailTree
limited order n [] = Some (record { keys = []; order = order; limit = Some n })
limited order n (t ∷ ts) = None

abbrev pub limited_at : List QOrder → List Token → Option TailTree
limited_at order (Number n ∷ ts) = limited order n ts
limited_at order _ = None

abbrev pub ordered_at : List Token → Option TailTree
ordered_at ts = after_key key.By ts >>= λ us. all_at order_at us >>= λ o. after_key key.Limit o.1 >>= λ vs. limited_at
    o.0 vs

abbrev pub keyed_tail : Keyword → List Token → Option TailTree
keyed_tail key.Group ts = grouped_at ts
keyed_tail key.Order ts = ordered_at ts
keyed_tail key.Limit ts = limited_at [] ts
keyed_tail _ ts = None

abbrev pub tail_at : List Token → Option TailTree
tail_at [] = Some (record { keys = []; order = []; limit = None })
tail_at (Key k ∷ ts) = keyed_tail k ts
tail_at _ = None

-- ---- queries

abbrev pub is_plain : QItem → Bool
is_plain (item.Plain c) = true
is_plain _ = false

abbrev pub all_plain : List QItem → Bool
all_plain items = list_all is_plain items

abbrev pub joined : List QItem → List ℕ → Option Tree → TailTree → QueryTree
joined items table c tail = record {
  items = items;
  table = table;
  cond = c;
  keys = tail.keys;
  order = tail.order;
  limit = tail.limit;
}

-- A query with a limit has plain items alone.
abbrev pub fits : List QItem → Option ℕ → Bool
fits items None = true
fits items (Some n) = all_plain items

abbrev pub head_at : List Token → Read (List QItem × List ℕ)
head_at ts =
    after_key key.Select ts >>= λ us. all_at item_at us >>= λ i. after_key key.From i.1 >>= λ vs. column_at vs >>= λ t.
    Some ((i.0, t.0), t.1)

abbrev pub checked : List QItem → List ℕ → Option Tree → TailTree → Option QueryTree
checked items table c tail = if fits items tail.limit then Some (joined items table c tail) else None

abbrev pub query_at : List Token → Option QueryTree
query_at ts = head_at ts >>= λ h. where_at h.1 >>= λ w. tail_at w.1 >>= λ k. checked h.0.0 h.0.1 w.0 k

abbrev pub parsed_of : Parsed → QueryTree
parsed_of p = joined p.items.items p.table (cond_seen p.cond) (tail_of p.tail)

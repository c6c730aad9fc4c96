-- Token by token: what each state of the reader goes on with. It is just the grammar, as the clauses of `syntax_place`
-- say.
use Rattle.std.specs.Prelude.{ℕ, ◌+◌, ◌-◌, ◌^◌, ◌==◌, Bool, true, false, if◌then◌else◌}
use Rattle.std.specs.Prelude.{List, [], ◌∷◌, Option, Some, None, option_map, is_some}
use Rattle.sql_tokens.specs.declared.keyword.Keyword.TheVariants as key
use Rattle.sql_text.specs.Grammar.{Token}
use Rattle.sql_text.specs.Reading.{choose}
use Rattle.inspect_places.specs.declared.kind.Kind.{Kind}
use Rattle.inspect_places.specs.declared.kind.Kind.TheVariants.{Key, Open, Close, Comma, Star, Minus}
use Rattle.inspect_places.specs.declared.kind.Kind.TheVariants.{Comparison, Name, Number, Decimal, Text, End}
use Rattle.inspect_places.specs.declared.state.State.{State}
use Rattle.inspect_places.specs.declared.state.State.TheVariants as state
use Rattle.inspect_places.specs.declared.word.Size.{Size}
use Rattle.inspect_places.specs.declared.word.Size.TheVariants as size
use Rattle.inspect_places.specs.Kinds.{kind_of, size_of}

-- ---- how many more things a list takes

-- behind the first of 32
abbrev pub first_room : Bool → Option ℕ
first_room limited = if limited then Some 31 else None

-- with one thing more
abbrev pub less : Option ℕ → Option (Option ℕ)
less None = Some None
less (Some n) = if n == 0 then None else Some (Some (n - 1))

-- ---- the items

abbrev pub after_item : Bool → Option ℕ → Kind → Option State
after_item plain room Name = Some (state.ItemEnd plain room)
after_item plain room (Key key.Count) = Some (state.Count room)
after_item plain room (Key key.Sum) = Some (state.Call room)
after_item plain room (Key key.Min) = Some (state.Call room)
after_item plain room (Key key.Max) = Some (state.Call room)
after_item plain room _ = None

abbrev pub after_count : Option ℕ → Kind → Option State
after_count room Open = Some (state.CountOpen room)
after_count room _ = None

abbrev pub after_count_open : Option ℕ → Kind → Option State
after_count_open room Star = Some (state.CallEnd room)
after_count_open room Name = Some (state.CallEnd room)
after_count_open room _ = None

abbrev pub after_call : Option ℕ → Kind → Option State
after_call room Open = Some (state.CallOpen room)
after_call room _ = None

abbrev pub after_call_open : Option ℕ → Kind → Option State
after_call_open room Name = Some (state.CallEnd room)
after_call_open room _ = None

abbrev pub after_call_end : Option ℕ → Kind → Option State
after_call_end room Close = Some (state.ItemEnd false room)
after_call_end room _ = None

abbrev pub after_item_end : Bool → Option ℕ → Kind → Option State
after_item_end plain room Comma = option_map (state.Item plain) (less room)
after_item_end plain room (Key key.From) = Some (state.Table plain)
after_item_end plain room _ = None

-- ---- behind the condition

abbrev pub when : Bool → State → Option State
when true s = Some s
when false s = None

abbrev pub after_all : Bool → Kind → Option State
after_all plain (Key key.Group) = Some state.Group
after_all plain (Key key.Order) = when plain state.Order
after_all plain (Key key.Limit) = when plain state.Limit
after_all plain _ = None

abbrev pub after_table : Bool → Kind → Option State
after_table plain Name = Some (state.TableEnd plain)
after_table plain _ = None

abbrev pub after_table_end : Bool → Kind → Option State
after_table_end plain (Key key.Where) = Some (state.Test plain 0)
after_table_end plain k = after_all plain k

-- ---- the condition

abbrev pub after_test : Bool → ℕ → Kind → Option State
after_test plain depth (Key key.Not) = Some (state.Test plain depth)
after_test plain depth Open = Some (state.Test plain (depth + 1))
after_test plain depth Name = Some (state.TestName plain depth)
after_test plain depth _ = None

abbrev pub after_test_name : Bool → ℕ → Kind → Option State
after_test_name plain depth Comparison = Some (state.Compared plain depth)
after_test_name plain depth (Key key.Is) = Some (state.Is plain depth)
after_test_name plain depth _ = None

abbrev pub after_compared : Bool → ℕ → Kind → Option State
after_compared plain depth Minus = Some (state.Minus plain depth)
after_compared plain depth Number = Some (state.TestEnd plain depth)
after_compared plain depth Decimal = Some (state.TestEnd plain depth)
after_compared plain depth Text = Some (state.TestEnd plain depth)
after_compared plain depth _ = None

abbrev pub after_minus : Bool → ℕ → Kind → Option State
after_minus plain depth Number = Some (state.TestEnd plain depth)
after_minus plain depth Decimal = Some (state.TestEnd plain depth)
after_minus plain depth _ = None

abbrev pub after_is : Bool → ℕ → Kind → Option State
after_is plain depth (Key key.Not) = Some (state.IsNot plain depth)
after_is plain depth (Key key.Null) = Some (state.TestEnd plain depth)
after_is plain depth _ = None

abbrev pub after_is_not : Bool → ℕ → Kind → Option State
after_is_not plain depth (Key key.Null) = Some (state.TestEnd plain depth)
after_is_not plain depth _ = None

-- behind a test in no parentheses, or in some
abbrev pub after_free : Bool → Kind → Option State
after_free plain (Key key.And) = Some (state.Test plain 0)
after_free plain (Key key.Or) = Some (state.Test plain 0)
after_free plain k = after_all plain k

abbrev pub after_enclosed : Bool → ℕ → Kind → Option State
after_enclosed plain depth (Key key.And) = Some (state.Test plain depth)
after_enclosed plain depth (Key key.Or) = Some (state.Test plain depth)
after_enclosed plain depth Close = Some (state.TestEnd plain (depth - 1))
after_enclosed plain depth _ = None

abbrev pub after_test_end : Bool → ℕ → Kind → Option State
after_test_end plain depth k = if depth == 0 then after_free plain k else after_enclosed plain depth k

-- ---- keys, orders, limit

abbrev pub after_group : Bool → Kind → Option State
after_group limited (Key key.By) = Some (state.GroupKey (first_room limited))
after_group limited _ = None

abbrev pub after_group_key : Option ℕ → Kind → Option State
after_group_key room Name = Some (state.GroupKeyEnd room)
after_group_key room _ = None

abbrev pub after_group_key_end : Option ℕ → Kind → Option State
after_group_key_end room Comma = option_map state.GroupKey (less room)
after_group_key_end room _ = None

abbrev pub after_order : Bool → Kind → Option State
after_order limited (Key key.By) = Some (state.OrderKey (first_room limited))
after_order limited _ = None

abbrev pub after_order_key : Option ℕ → Kind → Option State
after_order_key room Name = Some (state.OrderKeyEnd room)
after_order_key room _ = None

abbrev pub after_direction : Option ℕ → Kind → Option State
after_direction room Comma = option_map state.OrderKey (less room)
after_direction room (Key key.Limit) = Some state.Limit
after_direction room _ = None

abbrev pub after_order_key_end : Option ℕ → Kind → Option State
after_order_key_end room (Key key.Asc) = Some (state.DirectionEnd room)
after_order_key_end room (Key key.Desc) = Some (state.DirectionEnd room)
after_order_key_end room k = after_direction room k

abbrev pub after_limit : Kind → Option State
after_limit Number = Some state.LimitEnd
after_limit _ = None

abbrev pub after_start : Bool → Kind → Option State
after_start limited (Key key.Select) = Some (state.Item true (first_room limited))
after_start limited _ = None

-- ---- a step

-- the state behind a token of this kind, if a query goes on with it; numbers are judged apart
abbrev pub step : Bool → State → Kind → Option State
step limited state.Start k = after_start limited k
step limited (state.Item plain room) k = after_item plain room k
step limited (state.Count room) k = after_count room k
step limited (state.CountOpen room) k = after_count_open room k
step limited (state.Call room) k = after_call room k
step limited (state.CallOpen room) k = after_call_open room k
step limited (state.CallEnd room) k = after_call_end room k
step limited (state.ItemEnd plain room) k = after_item_end plain room k
step limited (state.Table plain) k = after_table plain k
step limited (state.TableEnd plain) k = after_table_end plain k
step limited (state.Test plain depth) k = after_test plain depth k
step limited (state.TestName plain depth) k = after_test_name plain depth k
step limited (state.Compared plain depth) k = after_compared plain depth k
step limited (state.Minus plain depth) k = after_minus plain depth k
step limited (state.Is plain depth) k = after_is plain depth k
step limited (state.IsNot plain depth) k = after_is_not plain depth k
step limited (state.TestEnd plain depth) k = after_test_end plain depth k
step limited state.Group k = after_group limited k
step limited (state.GroupKey room) k = after_group_key room k
step limited (state.GroupKeyEnd room) k = after_group_key_end room k
step limited state.Order k = after_order limited k
step limited (state.OrderKey room) k = after_order_key room k
step limited (state.OrderKeyEnd room) k = after_order_key_end room k
step limited (state.DirectionEnd room) k = after_direction room k
step limited state.Limit k = after_limit k
step limited state.LimitEnd k = None

-- whether a number of this size may stand there
abbrev pub is_positive : Size → Bool
is_positive size.Limit = true
is_positive size.Positive = true
is_positive _ = false

abbrev pub is_negative : Size → Bool
is_negative size.TooLarge = false
is_negative _ = true

abbrev pub is_limit : Size → Bool
is_limit size.Limit = true
is_limit _ = false

abbrev pub takes : Bool → State → Size → Bool
takes limited (state.Compared plain depth) z = is_positive z
takes limited (state.Minus plain depth) z = is_negative z
takes true state.Limit z = is_limit z
takes _ _ z = true

abbrev pub step_sized : Bool → State → Kind → Size → Option State
step_sized limited s k z = if takes limited s z then step limited s k else None

abbrev pub after : Bool → State → Token → Option State
after limited s t = step_sized limited s (kind_of t) (size_of t)

-- whether a query may end there
abbrev pub may_end : State → Bool
may_end (state.TableEnd plain) = true
may_end (state.TestEnd plain depth) = depth == 0
may_end (state.GroupKeyEnd room) = true
may_end state.LimitEnd = true
may_end _ = false

-- whether a token of this kind may stand there, or the end
abbrev pub stands : Bool → State → Kind → Bool
stands limited s End = may_end s
stands limited s k = is_some (step limited s k)

-- the greatest number that may stand there, if there is one
abbrev pub most : Bool → State → Option ℕ
most limited (state.Compared plain depth) = Some (2 ^ 63 - 1)
most limited (state.Minus plain depth) = Some (2 ^ 63)
most true state.Limit = Some 4096
most _ _ = None

-- ---- from a state to the first token with which no query goes on

-- how many tokens were read, and the state behind them
abbrev pub stop_from : Bool → ℕ → State → List Token → ℕ × State
stop_from limited n s [] = (n, s)
stop_from limited n s (t ∷ ts) = choose (after limited s t) (n, s) (λ r. stop_from limited (n + 1) r ts)

-- how many parentheses are open
abbrev pub opened : State → ℕ
opened (state.Test plain depth) = depth
opened (state.TestName plain depth) = depth
opened (state.Compared plain depth) = depth
opened (state.Minus plain depth) = depth
opened (state.Is plain depth) = depth
opened (state.IsNot plain depth) = depth
opened (state.TestEnd plain depth) = depth
opened _ = 0

-- each kind once
abbrev pub all_kinds : List Kind
all_kinds =
    Name ∷ Key key.Select ∷ Key key.From ∷ Key key.Where ∷ Key key.Group ∷ Key key.Order ∷ Key key.By ∷ Key key.Limit
    ∷ Key key.Count ∷ Key key.Sum ∷ Key key.Min
    ∷ Key key.Max ∷ Key key.And ∷ Key key.Or ∷ Key key.Is ∷ Key key.Not ∷ Key key.Null ∷ Key key.Asc ∷ Key key.Desc
    ∷ Comparison
    ∷ Number ∷ Decimal ∷ Text ∷ Minus ∷ Star ∷ Open ∷ Close ∷ Comma ∷ End ∷ []

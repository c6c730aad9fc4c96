-- A step opens one parenthesis at most.
use Rattle.std.proofs.Common.{◌≡◌, ◌≤◌, ◌+◌, ◌==◌, ℕ, Bool, true, false, Option, Some, None, refl, subst, arith}
use Rattle.std.specs.Prelude.{option_map, if◌then◌else◌}
use Rattle.sql_tokens.specs.declared.keyword.Keyword.TheVariants as key
use Rattle.inspect_places.specs.declared.kind.Kind.{Kind}
use Rattle.inspect_places.specs.declared.kind.Kind.TheVariants as kind
use Rattle.inspect_places.specs.declared.state.State.{State}
use Rattle.inspect_places.specs.declared.state.State.TheVariants as state
use Rattle.inspect_places.specs.declared.word.Size.{Size}
use Rattle.inspect_places.specs.Steps.{less, after_start, after_item, after_count, after_count_open, after_call, after_call_open, after_call_end, after_item_end, when, after_all, after_table, after_table_end, after_test, after_test_name, after_compared, after_minus, after_is, after_is_not, after_free, after_enclosed, after_group, after_group_key, after_group_key_end, after_order, after_order_key, after_direction, after_order_key_end, after_limit, step, takes, step_sized, opened}

abbrev Opens : ℕ → Option State → Type 0
Opens d None = Unit {0}
Opens d (Some r) = opened r ≤ d + 1

by_room : (d : ℕ) (f : Option ℕ → State) → ((r : Option ℕ) → opened (f r) ≡ 0) → (o : Option (Option ℕ)) → Opens d (option_map f o)
by_room d f e None = tt
by_room d f e (Some r) = omega (arith, e r)

if_plain : (d : ℕ) (s : State) → opened s ≡ 0 → (p : Bool) → Opens d (when p s)
if_plain d s e true = omega (arith, e)
if_plain d s e false = tt

all_opens : (d : ℕ) (p : Bool) (k : Kind) → Opens d (after_all p k)
all_opens d p (kind.Key key.Group) = omega arith
all_opens d p (kind.Key key.Order) = if_plain d state.Order refl p
all_opens d p (kind.Key key.Limit) = if_plain d state.Limit refl p
all_opens d p _ = tt

direction_opens : (d : ℕ) (r : Option ℕ) (k : Kind) → Opens d (after_direction r k)
direction_opens d r kind.Comma = by_room d state.OrderKey (λ r. refl) (less r)
direction_opens d r (kind.Key key.Limit) = omega arith
direction_opens d r _ = tt

free_opens : (d : ℕ) (p : Bool) (k : Kind) → Opens d (after_free p k)
free_opens d p (kind.Key key.And) = omega arith
free_opens d p (kind.Key key.Or) = omega arith
free_opens d p k = all_opens d p k

enclosed_opens : (d : ℕ) (p : Bool) (k : Kind) → Opens d (after_enclosed p d k)
enclosed_opens d p (kind.Key key.And) = omega arith
enclosed_opens d p (kind.Key key.Or) = omega arith
enclosed_opens d p kind.Close = omega arith
enclosed_opens d p _ = tt

test_end_opens : (d : ℕ) (p b : Bool) (k : Kind) → Opens d (if b then after_free p k else after_enclosed p d k)
test_end_opens d p true k = free_opens d p k
test_end_opens d p false k = enclosed_opens d p k

table_end_opens : (d : ℕ) (p : Bool) (k : Kind) → Opens d (after_table_end p k)
table_end_opens d p (kind.Key key.Where) = omega arith
table_end_opens d p k = all_opens d p k

order_key_end_opens : (d : ℕ) (r : Option ℕ) (k : Kind) → Opens d (after_order_key_end r k)
order_key_end_opens d r (kind.Key key.Asc) = omega arith
order_key_end_opens d r (kind.Key key.Desc) = omega arith
order_key_end_opens d r k = direction_opens d r k

start_opens : (d : ℕ) (l : Bool) (k : Kind) → Opens d (after_start l k)
start_opens d l (kind.Key key.Select) = omega arith
start_opens d l _ = tt

item_opens : (d : ℕ) (p : Bool) (r : Option ℕ) (k : Kind) → Opens d (after_item p r k)
item_opens d p r kind.Name = omega arith
item_opens d p r (kind.Key key.Count) = omega arith
item_opens d p r (kind.Key key.Sum) = omega arith
item_opens d p r (kind.Key key.Min) = omega arith
item_opens d p r (kind.Key key.Max) = omega arith
item_opens d p r _ = tt

count_opens : (d : ℕ) (r : Option ℕ) (k : Kind) → Opens d (after_count r k)
count_opens d r kind.Open = omega arith
count_opens d r _ = tt

count_open_opens : (d : ℕ) (r : Option ℕ) (k : Kind) → Opens d (after_count_open r k)
count_open_opens d r kind.Star = omega arith
count_open_opens d r kind.Name = omega arith
count_open_opens d r _ = tt

call_opens : (d : ℕ) (r : Option ℕ) (k : Kind) → Opens d (after_call r k)
call_opens d r kind.Open = omega arith
call_opens d r _ = tt

call_open_opens : (d : ℕ) (r : Option ℕ) (k : Kind) → Opens d (after_call_open r k)
call_open_opens d r kind.Name = omega arith
call_open_opens d r _ = tt

call_end_opens : (d : ℕ) (r : Option ℕ) (k : Kind) → Opens d (after_call_end r k)
call_end_opens d r kind.Close = omega arith
call_end_opens d r _ = tt

item_end_opens : (d : ℕ) (p : Bool) (r : Option ℕ) (k : Kind) → Opens d (after_item_end p r k)
item_end_opens d p r kind.Comma = by_room d (state.Item p) (λ r. refl) (less r)
item_end_opens d p r (kind.Key key.From) = omega arith
item_end_opens d p r _ = tt

table_opens : (d : ℕ) (p : Bool) (k : Kind) → Opens d (after_table p k)
table_opens d p kind.Name = omega arith
table_opens d p _ = tt

test_opens : (p : Bool) (d : ℕ) (k : Kind) → Opens d (after_test p d k)
test_opens p d (kind.Key key.Not) = omega arith
test_opens p d kind.Open = omega arith
test_opens p d kind.Name = omega arith
test_opens p d _ = tt

test_name_opens : (p : Bool) (d : ℕ) (k : Kind) → Opens d (after_test_name p d k)
test_name_opens p d kind.Comparison = omega arith
test_name_opens p d (kind.Key key.Is) = omega arith
test_name_opens p d _ = tt

compared_opens : (p : Bool) (d : ℕ) (k : Kind) → Opens d (after_compared p d k)
compared_opens p d kind.Minus = omega arith
compared_opens p d kind.Number = omega arith
compared_opens p d kind.Decimal = omega arith
compared_opens p d kind.Text = omega arith
compared_opens p d _ = tt

minus_opens : (p : Bool) (d : ℕ) (k : Kind) → Opens d (after_minus p d k)
minus_opens p d kind.Number = omega arith
minus_opens p d kind.Decimal = omega arith
minus_opens p d _ = tt

is_opens : (p : Bool) (d : ℕ) (k : Kind) → Opens d (after_is p d k)
is_opens p d (kind.Key key.Not) = omega arith
is_opens p d (kind.Key key.Null) = omega arith
is_opens p d _ = tt

is_not_opens : (p : Bool) (d : ℕ) (k : Kind) → Opens d (after_is_not p d k)
is_not_opens p d (kind.Key key.Null) = omega arith
is_not_opens p d _ = tt

group_opens : (d : ℕ) (l : Bool) (k : Kind) → Opens d (after_group l k)
group_opens d l (kind.Key key.By) = omega arith
group_opens d l _ = tt

group_key_opens : (d : ℕ) (r : Option ℕ) (k : Kind) → Opens d (after_group_key r k)
group_key_opens d r kind.Name = omega arith
group_key_opens d r _ = tt

group_key_end_opens : (d : ℕ) (r : Option ℕ) (k : Kind) → Opens d (after_group_key_end r k)
group_key_end_opens d r kind.Comma = by_room d state.GroupKey (λ r. refl) (less r)
group_key_end_opens d r _ = tt

order_opens : (d : ℕ) (l : Bool) (k : Kind) → Opens d (after_order l k)
order_opens d l (kind.Key key.By) = omega arith
order_opens d l _ = tt

order_key_opens : (d : ℕ) (r : Option ℕ) (k : Kind) → Opens d (after_order_key r k)
order_key_opens d r kind.Name = omega arith
order_key_opens d r _ = tt

limit_opens : (d : ℕ) (k : Kind) → Opens d (after_limit k)
limit_opens d kind.Number = omega arith
limit_opens d _ = tt

step_opens : (l : Bool) (s : State) (k : Kind) → Opens (opened s) (step l s k)
step_opens l state.Start k = start_opens 0 l k
step_opens l (state.Item p r) k = item_opens 0 p r k
step_opens l (state.Count r) k = count_opens 0 r k
step_opens l (state.CountOpen r) k = count_open_opens 0 r k
step_opens l (state.Call r) k = call_opens 0 r k
step_opens l (state.CallOpen r) k = call_open_opens 0 r k
step_opens l (state.CallEnd r) k = call_end_opens 0 r k
step_opens l (state.ItemEnd p r) k = item_end_opens 0 p r k
step_opens l (state.Table p) k = table_opens 0 p k
step_opens l (state.TableEnd p) k = table_end_opens 0 p k
step_opens l (state.Test p d) k = test_opens p d k
step_opens l (state.TestName p d) k = test_name_opens p d k
step_opens l (state.Compared p d) k = compared_opens p d k
step_opens l (state.Minus p d) k = minus_opens p d k
step_opens l (state.Is p d) k = is_opens p d k
step_opens l (state.IsNot p d) k = is_not_opens p d k
step_opens l (state.TestEnd p d) k = test_end_opens d p (d == 0) k
step_opens l state.Group k = group_opens 0 l k
step_opens l (state.GroupKey r) k = group_key_opens 0 r k
step_opens l (state.GroupKeyEnd r) k = group_key_end_opens 0 r k
step_opens l state.Order k = order_opens 0 l k
step_opens l (state.OrderKey r) k = order_key_opens 0 r k
step_opens l (state.OrderKeyEnd r) k = order_key_end_opens 0 r k
step_opens l (state.DirectionEnd r) k = direction_opens 0 r k
step_opens l state.Limit k = limit_opens 0 k
step_opens l state.LimitEnd k = tt

sized_opens : (l : Bool) (s : State) (k : Kind) (b : Bool) → Opens (opened s) (if b then step l s k else None)
sized_opens l s k true = step_opens l s k
sized_opens l s k false = tt

opens_by : (d : ℕ) (o : Option State) (r : State) → o ≡ Some r → Opens d o → opened r ≤ d + 1
opens_by d o r e h = subst (Opens d) e h

pub opens_one : (l : Bool) (s r : State) (k : Kind) (z : Size) → step_sized l s k z ≡ Some r → opened r ≤ opened s + 1
opens_one l s r k z e = opens_by (opened s) (step_sized l s k z) r e (sized_opens l s k (takes l s z))

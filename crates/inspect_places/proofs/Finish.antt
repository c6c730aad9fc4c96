-- From each state a query can be finished.
use Rattle.std.proofs.Common.{◌≡◌, ℕ, zero, suc, Bool, true, false, List, [], ◌∷◌, Option, Some, None, inl, refl, subst, arith}
use Rattle.sql_tokens.specs.declared.keyword.Keyword.TheVariants as key
use Rattle.sql_text.specs.declared.word.Sign.TheVariants.{Open, Close}
use Rattle.sql_text.specs.Grammar.{Token, Key, Symbol, Column, Number, Text, no_or, no_and}
use Rattle.inspect_places.specs.declared.state.State.{State}
use Rattle.inspect_places.specs.declared.state.State.TheVariants as state
use Rattle.inspect_places.specs.Steps.{first_room, after}
use Rattle.inspect_places.proofs.Follow.{Small, Follow}
use Rattle.inspect_places.proofs.Back.{Back, back, fits_none, closed_test}

abbrev pub Finish : Bool → State → Type 0
Finish l s = (ts : List Token) × Follow l s ts

by : (l : Bool) (s : State) (t : Token) (r : State) → after l s t ≡ Some r → Finish l r → Finish l s
by l s t r e f = let b = subst (Back l s t) e (back l s t) in (t ∷ f.0, b f.0 f.1)

table_end : (l p : Bool) → Finish l (state.TableEnd p)
table_end l p = ([], (None, [], refl, inl (None, refl, tt)))

test_end : (l p : Bool) (d : ℕ) → Finish l (state.TestEnd p d)
test_end l p zero = ([], (no_and, no_or, [], refl, inl (None, refl, tt)))
test_end l p (suc d) = let f = test_end l p d in (Symbol Close ∷ f.0, closed_test l p d f.0 f.1)

is : (l p : Bool) (d : ℕ) → Finish l (state.Is p d)
is l p d = by l (state.Is p d) (Key key.Null) (state.TestEnd p d) refl (test_end l p d)

test_name : (l p : Bool) (d : ℕ) → Finish l (state.TestName p d)
test_name l p d = by l (state.TestName p d) (Key key.Is) (state.Is p d) refl (is l p d)

group_key_end : (l : Bool) (r : Option ℕ) → Finish l (state.GroupKeyEnd r)
group_key_end l r = ([], λ c. ((c, []), refl, fits_none (List ℕ) r))

group_key : (l : Bool) (r : Option ℕ) → Finish l (state.GroupKey r)
group_key l r = by l (state.GroupKey r) (Column []) (state.GroupKeyEnd r) refl (group_key_end l r)

limit : (l : Bool) → Finish l state.Limit
limit l = (Number 0 ∷ [], (0, refl, small l)) where
  small : (l : Bool) → Small l 0
  small false = tt
  small true = omega arith

direction_end : (l : Bool) (r : Option ℕ) → Finish l (state.DirectionEnd r)
direction_end l r = by l (state.DirectionEnd r) (Key key.Limit) state.Limit refl (limit l)

order_key_end : (l : Bool) (r : Option ℕ) → Finish l (state.OrderKeyEnd r)
order_key_end l r = by l (state.OrderKeyEnd r) (Key key.Limit) state.Limit refl (limit l)

order_key : (l : Bool) (r : Option ℕ) → Finish l (state.OrderKey r)
order_key l r = by l (state.OrderKey r) (Column []) (state.OrderKeyEnd r) refl (order_key_end l r)

table : (l p : Bool) → Finish l (state.Table p)
table l p = by l (state.Table p) (Column []) (state.TableEnd p) refl (table_end l p)

item_end : (l p : Bool) (r : Option ℕ) → Finish l (state.ItemEnd p r)
item_end l p r = by l (state.ItemEnd p r) (Key key.From) (state.Table p) refl (table l p)

call_end : (l : Bool) (r : Option ℕ) → Finish l (state.CallEnd r)
call_end l r = by l (state.CallEnd r) (Symbol Close) (state.ItemEnd false r) refl (item_end l false r)

call_open : (l : Bool) (r : Option ℕ) → Finish l (state.CallOpen r)
call_open l r = by l (state.CallOpen r) (Column []) (state.CallEnd r) refl (call_end l r)

count_open : (l : Bool) (r : Option ℕ) → Finish l (state.CountOpen r)
count_open l r = by l (state.CountOpen r) (Column []) (state.CallEnd r) refl (call_end l r)

item : (l p : Bool) (r : Option ℕ) → Finish l (state.Item p r)
item l p r = by l (state.Item p r) (Column []) (state.ItemEnd p r) refl (item_end l p r)

pub finish : (l : Bool) (s : State) → Finish l s
finish l state.Start = by l state.Start (Key key.Select) (state.Item true (first_room l)) refl (item l true (first_room l))
finish l (state.Item p r) = item l p r
finish l (state.Count r) = by l (state.Count r) (Symbol Open) (state.CountOpen r) refl (count_open l r)
finish l (state.CountOpen r) = count_open l r
finish l (state.Call r) = by l (state.Call r) (Symbol Open) (state.CallOpen r) refl (call_open l r)
finish l (state.CallOpen r) = call_open l r
finish l (state.CallEnd r) = call_end l r
finish l (state.ItemEnd p r) = item_end l p r
finish l (state.Table p) = table l p
finish l (state.TableEnd p) = table_end l p
finish l (state.Test p d) = by l (state.Test p d) (Column []) (state.TestName p d) refl (test_name l p d)
finish l (state.TestName p d) = test_name l p d
finish l (state.Compared p d) = by l (state.Compared p d) (Text []) (state.TestEnd p d) refl (test_end l p d)
finish l (state.Minus p d) = by l (state.Minus p d) (Number 0) (state.TestEnd p d) refl (test_end l p d)
finish l (state.Is p d) = is l p d
finish l (state.IsNot p d) = by l (state.IsNot p d) (Key key.Null) (state.TestEnd p d) refl (test_end l p d)
finish l (state.TestEnd p d) = test_end l p d
finish l state.Group = by l state.Group (Key key.By) (state.GroupKey (first_room l)) refl (group_key l (first_room l))
finish l (state.GroupKey r) = group_key l r
finish l (state.GroupKeyEnd r) = group_key_end l r
finish l state.Order = by l state.Order (Key key.By) (state.OrderKey (first_room l)) refl (order_key l (first_room l))
finish l (state.OrderKey r) = order_key l r
finish l (state.OrderKeyEnd r) = order_key_end l r
finish l (state.DirectionEnd r) = direction_end l r
finish l state.Limit = limit l
finish l state.LimitEnd = ([], refl)

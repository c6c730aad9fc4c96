-- The names among the tokens of a query are the names of the query.
use Rattle.std.proofs.Common.{◌≡◌, ℕ, List, [], ◌∷◌, ◌++◌, map, Option, Some, None, refl, sym, ap, ◌∙◌, append_assoc}
use Rattle.std.specs.List.{flat_map}
use Rattle.std.proofs.lemmas.List.{append-nil}
use Rattle.sql_tokens.specs.declared.keyword.Keyword.TheVariants as key
use Rattle.table_core.specs.declared.op.Op.{Op}
use Rattle.sql_text.specs.declared.word.Sign.TheVariants.{Close, Comma}
use Rattle.sql_text.specs.declared.query.QItem.{QItem}
use Rattle.sql_text.specs.declared.query.QItem.TheVariants as item
use Rattle.sql_text.specs.Grammar.{Token, Key, Symbol, Column, Tree, Either, Both, QueryTree, LiteralText, number, minus_number, decimal, minus_decimal, text, Ors, ors, OrTail, no_or, more_or, Ands, ands, AndTail, no_and, more_and, Nots, not_not, in_parentheses, compare, is_null, is_not_null, OrderText, bare, ascending, descending, Listed, QueryText, groups, rows, or_tokens, or_tail_tokens, and_tokens, and_tail_tokens, not_tokens, item_tokens, column_tokens, order_tokens, list_tokens, where_tokens, group_tokens, order_by_tokens, query_tokens, or_tree, or_tail_tree, and_tree, and_tail_tree, not_tree, order_of, all_of, cond_of, query_tree, Reads}
use Rattle.inspect_places.specs.declared.role.Before.{Before}
use Rattle.inspect_places.specs.declared.role.Before.TheVariants as before
use Rattle.inspect_places.specs.declared.role.Role.TheVariants as role
use Rattle.inspect_places.specs.Names.{Named, names_from, names_at, somes, item_names, cond_names, where_names, key_name, order_name, query_names}
use Rattle.inspect_places.proofs.Follow.{limit_tokens}
use Rattle.inspect_places.proofs.Whole.{same_tokens}

abbrev Among : Before → List Token → List Named
Among b ts = somes (names_from b ts)

-- ---- the condition

compared : (c : List ℕ) (o : Op) (v : LiteralText) (us : List Token) → Among before.Rest (not_tokens (compare c o v) ++ us) ≡ cond_names (not_tree (compare c o v)) ++ Among before.Rest us
compared c o (number n h) us = refl
compared c o (minus_number n h) us = refl
compared c o (decimal n p h k) us = refl
compared c o (minus_decimal n p h k) us = refl
compared c o (text t) us = refl

mutual
  or_names : (x : Ors) (us : List Token) → Among before.Rest (or_tokens x ++ us) ≡ cond_names (or_tree x) ++ Among before.Rest us
  or_names (ors a t) us = ap (Among before.Rest) (append_assoc (and_tokens a) (or_tail_tokens t) us) ∙ and_names a (or_tail_tokens t ++ us) ∙ or_tail_names (and_tree a) t us

  or_tail_names : (left : Tree) (x : OrTail) (us : List Token) → cond_names left ++ Among before.Rest (or_tail_tokens x ++ us) ≡ cond_names (or_tail_tree left x) ++ Among before.Rest us
  or_tail_names left no_or us = refl
  or_tail_names left (more_or a t) us = ap (λ w. cond_names left ++ Among before.Rest w) (append_assoc (and_tokens a) (or_tail_tokens t) us) ∙ ap (λ w. cond_names left ++ w) (and_names a (or_tail_tokens t ++ us)) ∙ sym (append_assoc (cond_names left) (cond_names (and_tree a)) (Among before.Rest (or_tail_tokens t ++ us))) ∙ or_tail_names (Either left (and_tree a)) t us

  and_names : (x : Ands) (us : List Token) → Among before.Rest (and_tokens x ++ us) ≡ cond_names (and_tree x) ++ Among before.Rest us
  and_names (ands a t) us = ap (Among before.Rest) (append_assoc (not_tokens a) (and_tail_tokens t) us) ∙ not_names a (and_tail_tokens t ++ us) ∙ and_tail_names (not_tree a) t us

  and_tail_names : (left : Tree) (x : AndTail) (us : List Token) → cond_names left ++ Among before.Rest (and_tail_tokens x ++ us) ≡ cond_names (and_tail_tree left x) ++ Among before.Rest us
  and_tail_names left no_and us = refl
  and_tail_names left (more_and a t) us = ap (λ w. cond_names left ++ Among before.Rest w) (append_assoc (not_tokens a) (and_tail_tokens t) us) ∙ ap (λ w. cond_names left ++ w) (not_names a (and_tail_tokens t ++ us)) ∙ sym (append_assoc (cond_names left) (cond_names (not_tree a)) (Among before.Rest (and_tail_tokens t ++ us))) ∙ and_tail_names (Both left (not_tree a)) t us

  not_names : (x : Nots) (us : List Token) → Among before.Rest (not_tokens x ++ us) ≡ cond_names (not_tree x) ++ Among before.Rest us
  not_names (not_not a) us = not_names a us
  not_names (in_parentheses o) us = ap (Among before.Rest) (append_assoc (or_tokens o) (Symbol Close ∷ []) us) ∙ or_names o (Symbol Close ∷ us)
  not_names (compare c o v) us = compared c o v us
  not_names (is_null c) us = refl
  not_names (is_not_null c) us = refl

where_is : (w : Option Ors) (us : List Token) → Among before.Rest (where_tokens w ++ us) ≡ where_names (cond_of w) ++ Among before.Rest us
where_is None us = refl
where_is (Some o) us = or_names o us

-- ---- the items

one_item : (x : QItem) (us : List Token) → Among before.Items (item_tokens x ++ us) ≡ item_names x ++ Among before.Items us
one_item item.CountAll us = refl
one_item (item.Count c) us = refl
one_item (item.Sum c) us = refl
one_item (item.Min c) us = refl
one_item (item.Max c) us = refl
one_item (item.Plain c) us = refl

items_are : (x : QItem) (xs : List QItem) (us : List Token) → Among before.Items (list_tokens item_tokens x xs ++ us) ≡ flat_map item_names (x ∷ xs) ++ Among before.Items us
items_are x [] us = one_item x us ∙ ap (λ w. w ++ Among before.Items us) (sym (append-nil (item_names x)))
items_are x (y ∷ ys) us =
    ap (Among before.Items) (append_assoc (item_tokens x) (Symbol Comma ∷ list_tokens item_tokens y ys) us) ∙ one_item x (Symbol Comma ∷ (list_tokens item_tokens y ys ++ us)) ∙ ap (λ w. item_names x ++ w) (items_are y ys us) ∙ sym (append_assoc (item_names x) (flat_map item_names (y ∷ ys)) (Among before.Items us))

-- ---- keys and orders

keys_are : (x : List ℕ) (xs : List (List ℕ)) → Among before.Rest (list_tokens column_tokens x xs) ≡ map key_name (map (λ c. c) (x ∷ xs))
keys_are x [] = refl
keys_are x (y ∷ ys) = ap (λ w. key_name x ∷ w) (keys_are y ys)

group_is : (k : Option (Listed (List ℕ))) → Among before.Rest (group_tokens k) ≡ map key_name (all_of (λ c. c) k)
group_is None = refl
group_is (Some k) = keys_are k.0 k.1

one_order : (x : OrderText) (us : List Token) → Among before.Rest (order_tokens x ++ (Symbol Comma ∷ us)) ≡ order_name (order_of x) ∷ Among before.Rest us
one_order (bare c) us = refl
one_order (ascending c) us = refl
one_order (descending c) us = refl

last_order : (x : OrderText) (n : ℕ) → Among before.Rest (order_tokens x ++ limit_tokens n) ≡ order_name (order_of x) ∷ []
last_order (bare c) n = refl
last_order (ascending c) n = refl
last_order (descending c) n = refl

orders_are : (x : OrderText) (xs : List OrderText) (n : ℕ) → Among before.Rest (list_tokens order_tokens x xs ++ limit_tokens n) ≡ map order_name (map order_of (x ∷ xs))
orders_are x [] n = last_order x n
orders_are x (y ∷ ys) n =
    ap (Among before.Rest) (append_assoc (order_tokens x) (Symbol Comma ∷ list_tokens order_tokens y ys) (limit_tokens n)) ∙ one_order x (list_tokens order_tokens y ys ++ limit_tokens n) ∙ ap (λ w. order_name (order_of x) ∷ w) (orders_are y ys n)

order_is : (o : Option (Listed OrderText)) (n : ℕ) → Among before.Rest (order_by_tokens o ++ limit_tokens n) ≡ map order_name (all_of order_of o)
order_is None n = refl
order_is (Some o) n = orders_are o.0 o.1 n

-- ---- queries

names_are : (x : QueryText) → somes (names_at (query_tokens x)) ≡ query_names (query_tree x)
names_are (groups l t w k) =
    let us = where_tokens w ++ group_tokens k in
    let keys = map key_name (all_of (λ c. c) k) in
    let rest : Among before.Rest us ≡ where_names (cond_of w) ++ (keys ++ []) = where_is w (group_tokens k) ∙ ap (λ v. where_names (cond_of w) ++ v) (group_is k ∙ sym (append-nil keys)) in
    items_are l.0 l.1 (Key key.From ∷ Column t ∷ us) ∙ ap (λ v. flat_map item_names (l.0 ∷ l.1) ++ ((t, role.Table) ∷ v)) rest
names_are (rows l t w o n) =
    let us = where_tokens w ++ (order_by_tokens o ++ limit_tokens n) in
    let rest : Among before.Rest us ≡ where_names (cond_of w) ++ map order_name (all_of order_of o) = where_is w (order_by_tokens o ++ limit_tokens n) ∙ ap (λ v. where_names (cond_of w) ++ v) (order_is o n) in
    ap (λ v. Among before.Items (v ++ (Key key.From ∷ Column t ∷ us))) (same_tokens l.0 l.1) ∙ items_are (item.Plain l.0) (map item.Plain l.1) (Key key.From ∷ Column t ∷ us) ∙ ap (λ v. flat_map item_names (map item.Plain (l.0 ∷ l.1)) ++ ((t, role.Table) ∷ v)) rest

pub names_of_query : (ts : List Token) (q : QueryTree) → Reads ts q → somes (names_at ts) ≡ query_names q
names_of_query ts q r = ap (λ us. somes (names_at us)) (sym r.1) ∙ names_are r.0 ∙ ap query_names r.2

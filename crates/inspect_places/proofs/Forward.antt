-- A query's tokens are gone through to their end.
use Rattle.std.proofs.Common.{◌≡◌, ◌≤◌, ℕ, zero, suc, ◌+◌, ◌-◌, ◌==◌, Bool, true, false, List, [], ◌∷◌, ◌++◌, length, map, Option, Some, None, inl, inr, refl, ap, ◌∙◌, arith, append_assoc}
use Rattle.std.specs.Prelude.{option_map, nat_lt}
use Rattle.std.proofs.lemmas.Bool.{cases_Bool, eqb-true, ltb-false, or_parts}
use Rattle.std.proofs.lemmas.List.{length-map}
use Rattle.sql_tokens.specs.declared.keyword.Keyword.TheVariants as key
use Rattle.sql_text.specs.declared.word.Sign.TheVariants.{Close, Comma}
use Rattle.sql_text.specs.declared.query.QItem.{QItem}
use Rattle.sql_text.specs.declared.query.QItem.TheVariants as item
use Rattle.sql_text.specs.Grammar.{Token, Key, Symbol, Column, Number, LiteralText, number, minus_number, decimal, minus_decimal, text, Ors, ors, OrTail, no_or, more_or, Ands, ands, AndTail, no_and, more_and, Nots, not_not, in_parentheses, compare, is_null, is_not_null, OrderText, bare, ascending, descending, Listed, QueryText, groups, rows, literal_tokens, or_tokens, or_tail_tokens, and_tokens, and_tail_tokens, not_tokens, item_tokens, column_tokens, order_tokens, list_tokens, where_tokens, group_tokens, order_by_tokens, query_tokens, order_of, all_of, query_tree}
use Rattle.sql_text.specs.Reading.{choose}
use Rattle.inspect_places.specs.declared.state.State.{State}
use Rattle.inspect_places.specs.declared.state.State.TheVariants as state
use Rattle.inspect_places.specs.Places.{Keeps}
use Rattle.inspect_places.specs.Steps.{first_room, less, after, may_end}
use Rattle.inspect_places.proofs.Sizes.{is_positive_if, is_negative_if, is_limit_if, is_positive_decimal, is_negative_decimal}
use Rattle.inspect_places.proofs.Follow.{Fits, FitsSome, Small, limit_tokens, plain_with, plains}
use Rattle.inspect_places.proofs.Back.{is_enclosed}

-- the state behind the tokens, if each goes on
abbrev pub run : Bool → State → List Token → Option State
run l s [] = Some s
run l s (t ∷ ts) = choose (after l s t) None (λ r. run l r ts)

pub run_step : (l : Bool) (s : State) (t : Token) (r : State) (ts : List Token) → after l s t ≡ Some r → run l s (t ∷ ts) ≡ run l r ts
run_step l s t r ts e = rw e refl

-- ---- the condition

literal_run : (l p : Bool) (d : ℕ) (v : LiteralText) (us : List Token) → run l (state.Compared p d) (literal_tokens v ++ us) ≡ run l (state.TestEnd p d) us
literal_run l p d (number n h) us = rw (is_positive_if n h) refl
literal_run l p d (minus_number n h) us = rw (is_negative_if n h) refl
literal_run l p d (decimal n k h g) us = rw (is_positive_decimal n k h g) refl
literal_run l p d (minus_decimal n k h g) us = rw (is_negative_decimal n k h g) refl
literal_run l p d (text t) us = refl

and_step : (l p : Bool) (d : ℕ) → after l (state.TestEnd p d) (Key key.And) ≡ Some (state.Test p d)
and_step l p zero = refl
and_step l p (suc d) = is_enclosed l p d (Key key.And)

or_step : (l p : Bool) (d : ℕ) → after l (state.TestEnd p d) (Key key.Or) ≡ Some (state.Test p d)
or_step l p zero = refl
or_step l p (suc d) = is_enclosed l p d (Key key.Or)

close_step : (l p : Bool) (d : ℕ) → after l (state.TestEnd p (d + 1)) (Symbol Close) ≡ Some (state.TestEnd p d)
close_step l p d =
    let more : d + 1 ≡ suc d = omega arith in let same : suc d - 1 ≡ d = omega arith in
    ap (λ n. after l (state.TestEnd p n) (Symbol Close)) more ∙ is_enclosed l p d (Symbol Close) ∙ ap (λ n. Some (state.TestEnd p n)) same

mutual
  or_run : (l p : Bool) (d : ℕ) (x : Ors) (us : List Token) → run l (state.Test p d) (or_tokens x ++ us) ≡ run l (state.TestEnd p d) us
  or_run l p d (ors a t) us = ap (run l (state.Test p d)) (append_assoc (and_tokens a) (or_tail_tokens t) us) ∙ and_run l p d a (or_tail_tokens t ++ us) ∙ or_tail_run l p d t us

  or_tail_run : (l p : Bool) (d : ℕ) (x : OrTail) (us : List Token) → run l (state.TestEnd p d) (or_tail_tokens x ++ us) ≡ run l (state.TestEnd p d) us
  or_tail_run l p d no_or us = refl
  or_tail_run l p d (more_or a t) us = run_step l (state.TestEnd p d) (Key key.Or) (state.Test p d) ((and_tokens a ++ or_tail_tokens t) ++ us) (or_step l p d) ∙ ap (run l (state.Test p d)) (append_assoc (and_tokens a) (or_tail_tokens t) us) ∙ and_run l p d a (or_tail_tokens t ++ us) ∙ or_tail_run l p d t us

  and_run : (l p : Bool) (d : ℕ) (x : Ands) (us : List Token) → run l (state.Test p d) (and_tokens x ++ us) ≡ run l (state.TestEnd p d) us
  and_run l p d (ands a t) us = ap (run l (state.Test p d)) (append_assoc (not_tokens a) (and_tail_tokens t) us) ∙ not_run l p d a (and_tail_tokens t ++ us) ∙ and_tail_run l p d t us

  and_tail_run : (l p : Bool) (d : ℕ) (x : AndTail) (us : List Token) → run l (state.TestEnd p d) (and_tail_tokens x ++ us) ≡ run l (state.TestEnd p d) us
  and_tail_run l p d no_and us = refl
  and_tail_run l p d (more_and a t) us = run_step l (state.TestEnd p d) (Key key.And) (state.Test p d) ((not_tokens a ++ and_tail_tokens t) ++ us) (and_step l p d) ∙ ap (run l (state.Test p d)) (append_assoc (not_tokens a) (and_tail_tokens t) us) ∙ not_run l p d a (and_tail_tokens t ++ us) ∙ and_tail_run l p d t us

  not_run : (l p : Bool) (d : ℕ) (x : Nots) (us : List Token) → run l (state.Test p d) (not_tokens x ++ us) ≡ run l (state.TestEnd p d) us
  not_run l p d (not_not a) us = not_run l p d a us
  not_run l p d (in_parentheses o) us = ap (run l (state.Test p (d + 1))) (append_assoc (or_tokens o) (Symbol Close ∷ []) us) ∙ or_run l p (d + 1) o (Symbol Close ∷ us) ∙ run_step l (state.TestEnd p (d + 1)) (Symbol Close) (state.TestEnd p d) us (close_step l p d)
  not_run l p d (compare c o v) us = literal_run l p d v us
  not_run l p d (is_null c) us = refl
  not_run l p d (is_not_null c) us = refl

-- ---- lists

-- the room behind one thing more
less_of : {A : Type 0} (room : Option ℕ) (x : A) (xs : List A) → Fits room (x ∷ xs) → (r : Option ℕ) × (less room ≡ Some r) × Fits r xs
less_of None x xs f = (None, refl, tt)
less_of (Some n) x xs f = elim (cases_Bool (n == 0)) [
  | inl a ↦ absurd (omega (arith, eqb-true n 0 a, f))
  | inr a ↦ (Some (n - 1), rw a refl, omega (arith, f))
]

item_run : (l p : Bool) (r : Option ℕ) (x : QItem) (us : List Token) → run l (state.Item p r) (item_tokens x ++ us) ≡ run l (state.ItemEnd (plain_with x p) r) us
item_run l p r item.CountAll us = refl
item_run l p r (item.Count c) us = refl
item_run l p r (item.Sum c) us = refl
item_run l p r (item.Min c) us = refl
item_run l p r (item.Max c) us = refl
item_run l p r (item.Plain c) us = refl

comma_step : (l q : Bool) (r s : Option ℕ) → less r ≡ Some s → after l (state.ItemEnd q r) (Symbol Comma) ≡ Some (state.Item q s)
comma_step l q r s e = ap (option_map (state.Item q)) e

items_run : (l p : Bool) (r : Option ℕ) (x : QItem) (xs : List QItem) (us : List Token) → Fits r xs → (s : Option ℕ) × (run l (state.Item p r) (list_tokens item_tokens x xs ++ us) ≡ run l (state.ItemEnd (plains (x ∷ xs) p) s) us)
items_run l p r x [] us f = (r, item_run l p r x us)
items_run l p r x (y ∷ ys) us f =
    let q = plain_with x p in let h = less_of r y ys f in let i = items_run l q h.0 y ys us h.2 in
    (i.0, ap (run l (state.Item p r)) (append_assoc (item_tokens x) (Symbol Comma ∷ list_tokens item_tokens y ys) us) ∙ item_run l p r x (Symbol Comma ∷ (list_tokens item_tokens y ys ++ us)) ∙ run_step l (state.ItemEnd q r) (Symbol Comma) (state.Item q h.0) (list_tokens item_tokens y ys ++ us) (comma_step l q r h.0 h.1) ∙ i.1)

names_run : (l p : Bool) (r : Option ℕ) (x : List ℕ) (xs : List (List ℕ)) (us : List Token) → Fits r xs → (s : Option ℕ) × (run l (state.Item p r) (list_tokens column_tokens x xs ++ us) ≡ run l (state.ItemEnd p s) us)
names_run l p r x [] us f = (r, refl)
names_run l p r x (y ∷ ys) us f =
    let h = less_of r y ys f in let i = names_run l p h.0 y ys us h.2 in
    (i.0, run_step l (state.ItemEnd p r) (Symbol Comma) (state.Item p h.0) (list_tokens column_tokens y ys ++ us) (comma_step l p r h.0 h.1) ∙ i.1)

keys_run : (l : Bool) (r : Option ℕ) (x : List ℕ) (xs : List (List ℕ)) → Fits r xs → (s : Option ℕ) × (run l (state.GroupKey r) (list_tokens column_tokens x xs) ≡ Some (state.GroupKeyEnd s))
keys_run l r x [] f = (r, refl)
keys_run l r x (y ∷ ys) f =
    let h = less_of r y ys f in let i = keys_run l h.0 y ys h.2 in
    (i.0, run_step l (state.GroupKeyEnd r) (Symbol Comma) (state.GroupKey h.0) (list_tokens column_tokens y ys) (ap (option_map state.GroupKey) h.1) ∙ i.1)

limit_run : (l : Bool) (n : ℕ) → Small l n → run l state.Limit (Number n ∷ []) ≡ Some state.LimitEnd
limit_run false n h = refl
limit_run true n h = rw (is_limit_if n h) refl

order_more : (l : Bool) (r s : Option ℕ) (x : OrderText) (us : List Token) → less r ≡ Some s → run l (state.OrderKey r) (order_tokens x ++ (Symbol Comma ∷ us)) ≡ run l (state.OrderKey s) us
order_more l r s (bare c) us e = run_step l (state.OrderKeyEnd r) (Symbol Comma) (state.OrderKey s) us (ap (option_map state.OrderKey) e)
order_more l r s (ascending c) us e = run_step l (state.DirectionEnd r) (Symbol Comma) (state.OrderKey s) us (ap (option_map state.OrderKey) e)
order_more l r s (descending c) us e = run_step l (state.DirectionEnd r) (Symbol Comma) (state.OrderKey s) us (ap (option_map state.OrderKey) e)

order_last : (l : Bool) (r : Option ℕ) (x : OrderText) (n : ℕ) → Small l n → run l (state.OrderKey r) (order_tokens x ++ limit_tokens n) ≡ Some state.LimitEnd
order_last l r (bare c) n h = limit_run l n h
order_last l r (ascending c) n h = limit_run l n h
order_last l r (descending c) n h = limit_run l n h

orders_run : (l : Bool) (r : Option ℕ) (x : OrderText) (xs : List OrderText) (n : ℕ) → Fits r xs → Small l n → run l (state.OrderKey r) (list_tokens order_tokens x xs ++ limit_tokens n) ≡ Some state.LimitEnd
orders_run l r x [] n f h = order_last l r x n h
orders_run l r x (y ∷ ys) n f h =
    let e = less_of r y ys f in
    ap (run l (state.OrderKey r)) (append_assoc (order_tokens x) (Symbol Comma ∷ list_tokens order_tokens y ys) (limit_tokens n)) ∙ order_more l r e.0 x (list_tokens order_tokens y ys ++ limit_tokens n) e.1 ∙ orders_run l e.0 y ys n e.2 h

-- ---- behind the condition

-- the tokens are gone through, to where a query may end
abbrev pub Runs : Bool → State → List Token → Type 0
Runs l s ts = (r : State) × (run l s ts ≡ Some r) × (may_end r ≡ true)

runs_by : (l : Bool) (s r : State) (ts us : List Token) → run l s ts ≡ run l r us → Runs l r us → Runs l s ts
runs_by l s r ts us e h = (h.0, e ∙ h.1, h.2)

module _ (l : Bool) (s : State) (ends : may_end s ≡ true) (group : after l s (Key key.Group) ≡ Some state.Group) where
  groups_run : (k : Option (Listed (List ℕ))) → FitsSome (first_room l) k → Runs l s (group_tokens k)
  groups_run None f = (s, refl, ends)
  groups_run (Some k) f =
      let h = keys_run l (first_room l) k.0 k.1 f in
      (state.GroupKeyEnd h.0, run_step l s (Key key.Group) state.Group (Key key.By ∷ list_tokens column_tokens k.0 k.1) group ∙ h.1, refl)

module _ (l : Bool) (s : State) (order : after l s (Key key.Order) ≡ Some state.Order) (limit : after l s (Key key.Limit) ≡ Some state.Limit) where
  rows_run : (o : Option (Listed OrderText)) (n : ℕ) → FitsSome (first_room l) o → Small l n → Runs l s (order_by_tokens o ++ limit_tokens n)
  rows_run None n f h = (state.LimitEnd, run_step l s (Key key.Limit) state.Limit (Number n ∷ []) limit ∙ limit_run l n h, refl)
  rows_run (Some o) n f h = (state.LimitEnd, run_step l s (Key key.Order) state.Order (Key key.By ∷ (list_tokens order_tokens o.0 o.1 ++ limit_tokens n)) order ∙ orders_run l (first_room l) o.0 o.1 n f h, refl)

table_groups : (l p : Bool) (w : Option Ors) (k : Option (Listed (List ℕ))) → FitsSome (first_room l) k → Runs l (state.TableEnd p) (where_tokens w ++ group_tokens k)
table_groups l p None k f = groups_run l (state.TableEnd p) refl refl k f
table_groups l p (Some o) k f = runs_by l (state.TableEnd p) (state.TestEnd p 0) (Key key.Where ∷ (or_tokens o ++ group_tokens k)) (group_tokens k) (or_run l p 0 o (group_tokens k)) (groups_run l (state.TestEnd p 0) refl refl k f)

table_rows : (l : Bool) (w : Option Ors) (o : Option (Listed OrderText)) (n : ℕ) → FitsSome (first_room l) o → Small l n → Runs l (state.TableEnd true) (where_tokens w ++ (order_by_tokens o ++ limit_tokens n))
table_rows l None o n f h = rows_run l (state.TableEnd true) refl refl o n f h
table_rows l (Some x) o n f h = runs_by l (state.TableEnd true) (state.TestEnd true 0) (Key key.Where ∷ (or_tokens x ++ (order_by_tokens o ++ limit_tokens n))) (order_by_tokens o ++ limit_tokens n) (or_run l true 0 x (order_by_tokens o ++ limit_tokens n)) (rows_run l (state.TestEnd true 0) refl refl o n f h)

-- ---- limits

fits_first : {A B : Type 0} (f : A → B) (x : A) (xs : List A) → nat_lt 32 (length (map f (x ∷ xs))) ≡ false → length xs ≤ 31
fits_first f x xs e = omega (arith, ltb-false 32 (length (map f (x ∷ xs))) e, length-map (x ∷ xs) f)

fits_items : (x : QItem) (xs : List QItem) → nat_lt 32 (length (x ∷ xs)) ≡ false → length xs ≤ 31
fits_items x xs e = omega (arith, ltb-false 32 (length (x ∷ xs)) e)

fits_some : {A B : Type 0} (f : A → B) (k : Option (Listed A)) → nat_lt 32 (length (all_of f k)) ≡ false → FitsSome (Some 31) k
fits_some f None e = tt
fits_some f (Some k) e = fits_first f k.0 k.1 e

groups_fit : (l : Bool) (x : Listed QItem) (t : List ℕ) (w : Option Ors) (k : Option (Listed (List ℕ))) → Keeps l (query_tree (groups x t w k)) → Fits (first_room l) x.1 × FitsSome (first_room l) k
groups_fit false x t w None h = (tt, tt)
groups_fit false x t w (Some k) h = (tt, tt)
groups_fit true x t w k h =
    let a = or_parts _ _ h in let b = or_parts _ _ a.1 in
    (fits_items x.0 x.1 a.0, fits_some (λ c. c) k b.0)

rows_fit : (l : Bool) (x : Listed (List ℕ)) (t : List ℕ) (w : Option Ors) (o : Option (Listed OrderText)) (n : ℕ) → Keeps l (query_tree (rows x t w o n)) → Fits (first_room l) x.1 × FitsSome (first_room l) o × Small l n
rows_fit false x t w None n h = (tt, tt, tt)
rows_fit false x t w (Some o) n h = (tt, tt, tt)
rows_fit true x t w o n h =
    let a = or_parts _ _ h in let c = or_parts _ _ a.1 in
    (fits_first item.Plain x.0 x.1 a.0, fits_some order_of o c.0, ltb-false 4096 n c.1)

-- ---- whole queries

pub query_runs : (l : Bool) (x : QueryText) → Keeps l (query_tree x) → Runs l state.Start (query_tokens x)
query_runs l (groups x t w k) h =
    let f = groups_fit l x t w k h in
    let us = Key key.From ∷ Column t ∷ (where_tokens w ++ group_tokens k) in
    let i = items_run l true (first_room l) x.0 x.1 us f.0 in
    let q = plains (x.0 ∷ x.1) true in
    runs_by l state.Start (state.ItemEnd q i.0) (query_tokens (groups x t w k)) us i.1 (table_groups l q w k f.1)
query_runs l (rows x t w o n) h =
    let f = rows_fit l x t w o n h in
    let us = Key key.From ∷ Column t ∷ (where_tokens w ++ (order_by_tokens o ++ limit_tokens n)) in
    let i = names_run l true (first_room l) x.0 x.1 us f.0 in
    runs_by l state.Start (state.ItemEnd true i.0) (query_tokens (rows x t w o n)) us i.1 (table_rows l w o n f.1 f.2)

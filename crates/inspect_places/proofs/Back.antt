-- A step, backwards: what follows the state behind a token follows, with the token, the state before it.
use Rattle.std.proofs.Common.{◌≡◌, ◌≤◌, ℕ, zero, suc, ◌+◌, ◌-◌, ◌==◌, Bool, true, false, List, [], ◌∷◌, ◌++◌, length, Option, Some, None, inl, inr, refl, sym, ap, ◌∙◌, subst, arith, append_assoc}
use Rattle.std.specs.Prelude.{option_map, if◌then◌else◌}
use Rattle.std.proofs.lemmas.Bool.{cases_Bool, eqb-true}
use Rattle.sql_tokens.specs.declared.keyword.Keyword.TheVariants as key
use Rattle.sql_text.specs.declared.word.Sign.TheVariants.{Open, Close, Comma, Star, Minus}
use Rattle.sql_text.specs.declared.query.QItem.{QItem}
use Rattle.sql_text.specs.declared.query.QItem.TheVariants as item
use Rattle.sql_text.specs.Grammar.{Token, Key, Symbol, Compares, Column, Number, Decimal, Text, number, minus_number, decimal, minus_decimal, text, ors, no_or, more_or, ands, no_and, more_and, not_not, in_parentheses, compare, is_null, is_not_null, OrderText, bare, ascending, descending, or_tail_tokens, and_tail_tokens, not_tokens, item_tokens, order_tokens, list_tokens}
use Rattle.inspect_places.specs.declared.state.State.{State}
use Rattle.inspect_places.specs.declared.state.State.TheVariants as state
use Rattle.inspect_places.specs.Kinds.{kind_of, number_size, decimal_size}
use Rattle.inspect_places.specs.Steps.{less, after, after_enclosed, is_positive, is_negative, is_limit}
use Rattle.inspect_places.proofs.Sizes.{positive_is, negative_is, limit_is, decimal_is_positive, decimal_is_negative}
use Rattle.inspect_places.proofs.Follow.{Fits, limit_tokens, Ends, Orders, TestEnds, Tests, TableEnds, Tables, plains, Items, Called, all, count, sum, min, max, Call, sums, mins, maxs, call_key, called_tokens, Follow}

abbrev pub Back : Bool → State → Token → Option State → Type 0
Back l s t None = Unit {0}
Back l s t (Some r) = (ts : List Token) → Follow l r ts → Follow l s (t ∷ ts)

-- ---- room

-- what fits behind one thing more
fits_more : {A : Type 0} (room r : Option ℕ) (x : A) (xs : List A) → less room ≡ Some r → Fits r xs → Fits room (x ∷ xs)
fits_more None r x xs e f = tt
fits_more (Some zero) r x xs e f = let no : None ≡ Some r = e in absurd (cc)
fits_more (Some (suc n)) r x xs e f = elim (cases_Bool (suc n == 0)) [
  | inl a ↦ let no : None ≡ Some r = rw a at e in absurd (cc)
  | inr a ↦
      let e' : Some (Some (suc n - 1)) ≡ Some r = rw a at e in
      let same : Some (suc n - 1) ≡ r = cc in
      let f' : length xs ≤ suc n - 1 = subst (λ r. Fits r xs) (sym same) f in
      omega (arith, f')
]

-- ---- the items

back_start : (l : Bool) (t : Token) → Back l state.Start t (after l state.Start t)
back_start l (Key key.Select) = λ ts f. (ts, refl, f)
back_start l (Symbol Open) = tt
back_start l _ = tt

back_item : (l p : Bool) (r : Option ℕ) (t : Token) → Back l (state.Item p r) t (after l (state.Item p r) t)
back_item l p r (Column c) = λ ts f. f (item.Plain c) p refl
back_item l p r (Key key.Count) = λ ts f. f p
back_item l p r (Key key.Sum) = λ ts f. f sums p
back_item l p r (Key key.Min) = λ ts f. f mins p
back_item l p r (Key key.Max) = λ ts f. f maxs p
back_item l p r (Symbol Open) = tt
back_item l p r _ = tt

back_count : (l : Bool) (r : Option ℕ) (t : Token) → Back l (state.Count r) t (after l (state.Count r) t)
back_count l r (Symbol Open) = λ ts f. f
back_count l r _ = tt

back_count_open : (l : Bool) (r : Option ℕ) (t : Token) → Back l (state.CountOpen r) t (after l (state.CountOpen r) t)
back_count_open l r (Symbol Star) = λ ts f. f all
back_count_open l r (Column c) = λ ts f. f (count c)
back_count_open l r _ = tt

back_call : (l : Bool) (r : Option ℕ) (t : Token) → Back l (state.Call r) t (after l (state.Call r) t)
back_call l r (Symbol Open) = λ ts f. f
back_call l r _ = tt

called_by : (l p : Bool) (r : Option ℕ) (x : List ℕ) (ts : List Token) → Follow l (state.CallEnd r) ts → (c : Call) → Items l p r (Key (call_key c) ∷ Symbol Open ∷ Column x ∷ ts)
called_by l p r x ts f sums = f (sum x) p
called_by l p r x ts f mins = f (min x) p
called_by l p r x ts f maxs = f (max x) p

back_call_open : (l : Bool) (r : Option ℕ) (t : Token) → Back l (state.CallOpen r) t (after l (state.CallOpen r) t)
back_call_open l r (Column c) = λ ts f x p. called_by l p r c ts f x
back_call_open l r (Symbol Open) = tt
back_call_open l r _ = tt

closed : (l p : Bool) (r : Option ℕ) (ts : List Token) → Follow l (state.ItemEnd false r) ts → (c : Called) → Items l p r (called_tokens c ++ (Symbol Close ∷ ts))
closed l p r ts f all = f item.CountAll p refl
closed l p r ts f (count c) = f (item.Count c) p refl
closed l p r ts f (sum c) = f (item.Sum c) p refl
closed l p r ts f (min c) = f (item.Min c) p refl
closed l p r ts f (max c) = f (item.Max c) p refl

back_call_end : (l : Bool) (r : Option ℕ) (t : Token) → Back l (state.CallEnd r) t (after l (state.CallEnd r) t)
back_call_end l r (Symbol Close) = λ ts f c p. closed l p r ts f c
back_call_end l r _ = tt

pub fits_none : (A : Type 0) (r : Option ℕ) → Fits {A = A} r []
fits_none A None = tt
fits_none A (Some n) = omega arith

last_item : (l q : Bool) (r : Option ℕ) (ts : List Token) → Tables l q ts → Follow l (state.ItemEnd q r) (Key key.From ∷ ts)
last_item l q r ts f i p e = ((i, []), ts, refl, fits_none QItem r, subst (λ b. Tables l b ts) (sym e) f)

more_items : (l q : Bool) (r s : Option ℕ) (ts : List Token) → less r ≡ Some s → Items l q s ts → Follow l (state.ItemEnd q r) (Symbol Comma ∷ ts)
more_items l q r s ts e f i p h =
    let xs = f.0.0 ∷ f.0.1 in
    ((i, xs), f.1, append_assoc (item_tokens i) (Symbol Comma ∷ list_tokens item_tokens f.0.0 f.0.1) (Key key.From ∷ f.1) ∙ ap (λ w. item_tokens i ++ (Symbol Comma ∷ w)) f.2, more f.3, subst (λ b. Tables l (plains xs b) f.1) (sym h) f.4)
  where
    more : Fits s f.0.1 → Fits r (f.0.0 ∷ f.0.1)
    more k = fits_more r s f.0.0 f.0.1 e k

comma_items : (l q : Bool) (r : Option ℕ) (o : Option (Option ℕ)) → less r ≡ o → Back l (state.ItemEnd q r) (Symbol Comma) (elim o [ None ↦ None | Some s ↦ Some (state.Item q s) ])
comma_items l q r None e = tt
comma_items l q r (Some s) e = λ ts f. more_items l q r s ts e f

back_item_end : (l q : Bool) (r : Option ℕ) (t : Token) → Back l (state.ItemEnd q r) t (after l (state.ItemEnd q r) t)
back_item_end l q r (Symbol Comma) = comma_items l q r (less r) refl
back_item_end l q r (Key key.From) = λ ts f. last_item l q r ts f
back_item_end l q r _ = tt

-- ---- the table and what stands behind the condition

back_table : (l p : Bool) (t : Token) → Back l (state.Table p) t (after l (state.Table p) t)
back_table l p (Column c) = λ ts f. (c, ts, refl, f)
back_table l p (Symbol Open) = tt
back_table l p _ = tt

-- the rows end
order_ends : (l : Bool) (ts : List Token) → Follow l state.Order ts → Ends l true (Key key.Order ∷ ts)
order_ends l ts f = inr f

limit_ends : (l : Bool) (ts : List Token) → Follow l state.Limit ts → Ends l true (Key key.Limit ∷ ts)
limit_ends l ts f = inr (None, f.0, ap (λ w. Key key.Limit ∷ w) f.1, tt, f.2, refl)

-- ---- the condition

free : (l p : Bool) (ts : List Token) → Ends l p ts → TestEnds l p 0 ts
free l p ts e = (no_and, no_or, ts, refl, e)

bare_table : (l p : Bool) (ts : List Token) → Ends l p ts → TableEnds l p ts
bare_table l p ts e = (None, ts, refl, e)

where_table : (l p : Bool) (ts : List Token) → Tests l p 0 ts → TableEnds l p (Key key.Where ∷ ts)
where_table l p ts f =
    let x = f.0 in let g = f.3 in let a = g.0 in let o = g.1 in let us = g.2 in
    (Some (ors (ands x a) o), us, ap (λ w. Key key.Where ∷ w) (append_assoc (not_tokens x ++ and_tail_tokens a) (or_tail_tokens o) us ∙ append_assoc (not_tokens x) (and_tail_tokens a) (or_tail_tokens o ++ us) ∙ ap (λ w. not_tokens x ++ w) g.3 ∙ f.2), g.4)

back_table_end : (l p : Bool) (t : Token) → Back l (state.TableEnd p) t (after l (state.TableEnd p) t)
back_table_end l p (Key key.Where) = λ ts f. where_table l p ts f
back_table_end l p (Key key.Group) = λ ts f. bare_table l p (Key key.Group ∷ ts) (inl f)
back_table_end l true (Key key.Order) = λ ts f. bare_table l true (Key key.Order ∷ ts) (order_ends l ts f)
back_table_end l true (Key key.Limit) = λ ts f. bare_table l true (Key key.Limit ∷ ts) (limit_ends l ts f)
back_table_end l p (Symbol Open) = tt
back_table_end l p _ = tt

one_more : (n : ℕ) → n + 1 ≡ suc n
one_more n = omega arith

opened_test : (l p : Bool) (d : ℕ) (ts : List Token) → Tests l p (suc d) ts → Tests l p d (Symbol Open ∷ ts)
opened_test l p d ts f =
    let x = f.0 in let g = f.3 in let a = g.0 in let o = g.1 in let us = g.2 in
    (in_parentheses (ors (ands x a) o), us, ap (λ w. Symbol Open ∷ w) (append_assoc ((not_tokens x ++ and_tail_tokens a) ++ or_tail_tokens o) (Symbol Close ∷ []) us ∙ append_assoc (not_tokens x ++ and_tail_tokens a) (or_tail_tokens o) (Symbol Close ∷ us) ∙ append_assoc (not_tokens x) (and_tail_tokens a) (or_tail_tokens o ++ (Symbol Close ∷ us)) ∙ ap (λ w. not_tokens x ++ w) g.3 ∙ f.2), g.4)

back_test : (l p : Bool) (d : ℕ) (t : Token) → Back l (state.Test p d) t (after l (state.Test p d) t)
back_test l p d (Column c) = λ ts f. f c
back_test l p d (Key key.Not) = λ ts f. (not_not f.0, f.1, ap (λ w. Key key.Not ∷ w) f.2, f.3)
back_test l p d (Symbol Open) = λ ts f. opened_test l p d ts (subst (λ n. Tests l p n ts) (one_more d) f)
back_test l p d _ = tt

back_test_name : (l p : Bool) (d : ℕ) (t : Token) → Back l (state.TestName p d) t (after l (state.TestName p d) t)
back_test_name l p d (Compares o) = λ ts f c. f c o
back_test_name l p d (Key key.Is) = λ ts f. f
back_test_name l p d (Symbol Open) = tt
back_test_name l p d _ = tt

compared_number : (l p : Bool) (d n : ℕ) (b : Bool) → is_positive (number_size n) ≡ b → Back l (state.Compared p d) (Number n) (if b then Some (state.TestEnd p d) else None)
compared_number l p d n true e = λ ts f c o. (compare c o (number n (positive_is n e)), ts, refl, f)
compared_number l p d n false e = tt

compared_decimal : (l p : Bool) (d n k : ℕ) (b : Bool) → is_positive (decimal_size n k) ≡ b → Back l (state.Compared p d) (Decimal n k) (if b then Some (state.TestEnd p d) else None)
compared_decimal l p d n k true e = λ ts f c o. (let h = decimal_is_positive n k e in (compare c o (decimal n k h.0 h.1), ts, refl, f))
compared_decimal l p d n k false e = tt

back_compared : (l p : Bool) (d : ℕ) (t : Token) → Back l (state.Compared p d) t (after l (state.Compared p d) t)
back_compared l p d (Number n) = compared_number l p d n (is_positive (number_size n)) refl
back_compared l p d (Decimal n k) = compared_decimal l p d n k (is_positive (decimal_size n k)) refl
back_compared l p d (Text t) = λ ts f c o. (compare c o (text t), ts, refl, f)
back_compared l p d (Symbol Minus) = λ ts f. f
back_compared l p d _ = tt

minus_is_number : (l p : Bool) (d n : ℕ) (b : Bool) → is_negative (number_size n) ≡ b → Back l (state.Minus p d) (Number n) (if b then Some (state.TestEnd p d) else None)
minus_is_number l p d n true e = λ ts f c o. (compare c o (minus_number n (negative_is n e)), ts, refl, f)
minus_is_number l p d n false e = tt

minus_is_decimal : (l p : Bool) (d n k : ℕ) (b : Bool) → is_negative (decimal_size n k) ≡ b → Back l (state.Minus p d) (Decimal n k) (if b then Some (state.TestEnd p d) else None)
minus_is_decimal l p d n k true e = λ ts f c o. (let h = decimal_is_negative n k e in (compare c o (minus_decimal n k h.0 h.1), ts, refl, f))
minus_is_decimal l p d n k false e = tt

back_minus : (l p : Bool) (d : ℕ) (t : Token) → Back l (state.Minus p d) t (after l (state.Minus p d) t)
back_minus l p d (Number n) = minus_is_number l p d n (is_negative (number_size n)) refl
back_minus l p d (Decimal n k) = minus_is_decimal l p d n k (is_negative (decimal_size n k)) refl
back_minus l p d (Symbol Open) = tt
back_minus l p d _ = tt

back_is : (l p : Bool) (d : ℕ) (t : Token) → Back l (state.Is p d) t (after l (state.Is p d) t)
back_is l p d (Key key.Null) = λ ts f c. (is_null c, ts, refl, f)
back_is l p d (Key key.Not) = λ ts f. f
back_is l p d (Symbol Open) = tt
back_is l p d _ = tt

back_is_not : (l p : Bool) (d : ℕ) (t : Token) → Back l (state.IsNot p d) t (after l (state.IsNot p d) t)
back_is_not l p d (Key key.Null) = λ ts f c. (is_not_null c, ts, refl, f)
back_is_not l p d (Symbol Open) = tt
back_is_not l p d _ = tt

-- one test more behind AND or OR
and_more : (l p : Bool) (d : ℕ) (ts : List Token) → Tests l p d ts → TestEnds l p d (Key key.And ∷ ts)
and_more l p zero ts f =
    let g = f.3 in
    (more_and f.0 g.0, g.1, g.2, ap (λ w. Key key.And ∷ w) (append_assoc (not_tokens f.0) (and_tail_tokens g.0) (or_tail_tokens g.1 ++ g.2) ∙ ap (λ w. not_tokens f.0 ++ w) g.3 ∙ f.2), g.4)
and_more l p (suc d) ts f =
    let g = f.3 in
    (more_and f.0 g.0, g.1, g.2, ap (λ w. Key key.And ∷ w) (append_assoc (not_tokens f.0) (and_tail_tokens g.0) (or_tail_tokens g.1 ++ (Symbol Close ∷ g.2)) ∙ ap (λ w. not_tokens f.0 ++ w) g.3 ∙ f.2), g.4)

or_more : (l p : Bool) (d : ℕ) (ts : List Token) → Tests l p d ts → TestEnds l p d (Key key.Or ∷ ts)
or_more l p zero ts f =
    let g = f.3 in
    (no_and, more_or (ands f.0 g.0) g.1, g.2, ap (λ w. Key key.Or ∷ w) (append_assoc (not_tokens f.0 ++ and_tail_tokens g.0) (or_tail_tokens g.1) g.2 ∙ append_assoc (not_tokens f.0) (and_tail_tokens g.0) (or_tail_tokens g.1 ++ g.2) ∙ ap (λ w. not_tokens f.0 ++ w) g.3 ∙ f.2), g.4)
or_more l p (suc d) ts f =
    let g = f.3 in
    (no_and, more_or (ands f.0 g.0) g.1, g.2, ap (λ w. Key key.Or ∷ w) (append_assoc (not_tokens f.0 ++ and_tail_tokens g.0) (or_tail_tokens g.1) (Symbol Close ∷ g.2) ∙ append_assoc (not_tokens f.0) (and_tail_tokens g.0) (or_tail_tokens g.1 ++ (Symbol Close ∷ g.2)) ∙ ap (λ w. not_tokens f.0 ++ w) g.3 ∙ f.2), g.4)

pub closed_test : (l p : Bool) (d : ℕ) (ts : List Token) → TestEnds l p d ts → TestEnds l p (suc d) (Symbol Close ∷ ts)
closed_test l p d ts f = (no_and, no_or, ts, refl, f)

back_free : (l p : Bool) (t : Token) → Back l (state.TestEnd p 0) t (after l (state.TestEnd p 0) t)
back_free l p (Key key.And) = λ ts f. and_more l p 0 ts f
back_free l p (Key key.Or) = λ ts f. or_more l p 0 ts f
back_free l p (Key key.Group) = λ ts f. free l p (Key key.Group ∷ ts) (inl f)
back_free l true (Key key.Order) = λ ts f. free l true (Key key.Order ∷ ts) (order_ends l ts f)
back_free l true (Key key.Limit) = λ ts f. free l true (Key key.Limit ∷ ts) (limit_ends l ts f)
back_free l p (Symbol Open) = tt
back_free l p _ = tt

one_less : (d : ℕ) → suc d - 1 ≡ d
one_less d = omega arith

back_enclosed : (l p : Bool) (d : ℕ) (t : Token) → Back l (state.TestEnd p (suc d)) t (after_enclosed p (suc d) (kind_of t))
back_enclosed l p d (Key key.And) = λ ts f. and_more l p (suc d) ts f
back_enclosed l p d (Key key.Or) = λ ts f. or_more l p (suc d) ts f
back_enclosed l p d (Symbol Close) = λ ts f. closed_test l p d ts (subst (λ n. TestEnds l p n ts) (one_less d) f)
back_enclosed l p d _ = tt

pub is_enclosed : (l p : Bool) (d : ℕ) (t : Token) → after l (state.TestEnd p (suc d)) t ≡ after_enclosed p (suc d) (kind_of t)
is_enclosed l p d t = rw (not_zero d) refl where
  not_zero : (d : ℕ) → (suc d == 0) ≡ false
  not_zero d = elim (cases_Bool (suc d == 0)) [
    | inl a ↦ absurd (omega (arith, eqb-true (suc d) 0 a))
    | inr a ↦ a
  ]

back_test_end : (l p : Bool) (d : ℕ) (t : Token) → Back l (state.TestEnd p d) t (after l (state.TestEnd p d) t)
back_test_end l p zero t = back_free l p t
back_test_end l p (suc d) t = subst (Back l (state.TestEnd p (suc d)) t) (sym (is_enclosed l p d t)) (back_enclosed l p d t)

-- ---- keys, orders, limit

back_group : (l : Bool) (t : Token) → Back l state.Group t (after l state.Group t)
back_group l (Key key.By) = λ ts f. (Some f.0, ap (λ w. Key key.Group ∷ Key key.By ∷ w) f.1, f.2)
back_group l (Symbol Open) = tt
back_group l _ = tt

back_group_key : (l : Bool) (r : Option ℕ) (t : Token) → Back l (state.GroupKey r) t (after l (state.GroupKey r) t)
back_group_key l r (Column c) = λ ts f. f c
back_group_key l r (Symbol Open) = tt
back_group_key l r _ = tt

comma_keys : (l : Bool) (r : Option ℕ) (o : Option (Option ℕ)) → less r ≡ o → Back l (state.GroupKeyEnd r) (Symbol Comma) (option_map state.GroupKey o)
comma_keys l r None e = tt
comma_keys l r (Some s) e = λ ts f c. ((c, f.0.0 ∷ f.0.1), ap (λ w. Column c ∷ Symbol Comma ∷ w) f.1, fits_more r s f.0.0 f.0.1 e f.2)

back_group_key_end : (l : Bool) (r : Option ℕ) (t : Token) → Back l (state.GroupKeyEnd r) t (after l (state.GroupKeyEnd r) t)
back_group_key_end l r (Symbol Comma) = comma_keys l r (less r) refl
back_group_key_end l r _ = tt

back_order : (l : Bool) (t : Token) → Back l state.Order t (after l state.Order t)
back_order l (Key key.By) = λ ts f. (Some f.0, f.1, ap (λ w. Key key.Order ∷ Key key.By ∷ w) f.2, f.3, f.4, refl)
back_order l (Symbol Open) = tt
back_order l _ = tt

back_order_key : (l : Bool) (r : Option ℕ) (t : Token) → Back l (state.OrderKey r) t (after l (state.OrderKey r) t)
back_order_key l r (Column c) = λ ts f. f c
back_order_key l r (Symbol Open) = tt
back_order_key l r _ = tt

limit_order : (l : Bool) (r : Option ℕ) (ts : List Token) (o : OrderText) → Follow l state.Limit ts → Orders l r (order_tokens o ++ (Key key.Limit ∷ ts))
limit_order l r ts o f = ((o, []), f.0, ap (λ w. order_tokens o ++ (Key key.Limit ∷ w)) f.1, fits_none OrderText r, f.2)

more_orders : (l : Bool) (r s : Option ℕ) (ts : List Token) (o : OrderText) → less r ≡ Some s → Orders l s ts → Orders l r (order_tokens o ++ (Symbol Comma ∷ ts))
more_orders l r s ts o e f =
    ((o, f.0.0 ∷ f.0.1), f.1, append_assoc (order_tokens o) (Symbol Comma ∷ list_tokens order_tokens f.0.0 f.0.1) (limit_tokens f.1) ∙ ap (λ w. order_tokens o ++ (Symbol Comma ∷ w)) f.2, fits_more r s f.0.0 f.0.1 e f.3, f.4)

comma_orders : (l : Bool) (r : Option ℕ) (o : Option (Option ℕ)) → less r ≡ o → Back l (state.DirectionEnd r) (Symbol Comma) (option_map state.OrderKey o)
comma_orders l r None e = tt
comma_orders l r (Some s) e = λ ts f o. more_orders l r s ts o e f

back_direction : (l : Bool) (r : Option ℕ) (t : Token) → Back l (state.DirectionEnd r) t (after l (state.DirectionEnd r) t)
back_direction l r (Symbol Comma) = comma_orders l r (less r) refl
back_direction l r (Key key.Limit) = λ ts f o. limit_order l r ts o f
back_direction l r _ = tt

comma_bare : (l : Bool) (r : Option ℕ) (o : Option (Option ℕ)) → less r ≡ o → Back l (state.OrderKeyEnd r) (Symbol Comma) (option_map state.OrderKey o)
comma_bare l r None e = tt
comma_bare l r (Some s) e = λ ts f c. more_orders l r s ts (bare c) e f

back_order_key_end : (l : Bool) (r : Option ℕ) (t : Token) → Back l (state.OrderKeyEnd r) t (after l (state.OrderKeyEnd r) t)
back_order_key_end l r (Symbol Comma) = comma_bare l r (less r) refl
back_order_key_end l r (Key key.Asc) = λ ts f c. f (ascending c)
back_order_key_end l r (Key key.Desc) = λ ts f c. f (descending c)
back_order_key_end l r (Key key.Limit) = λ ts f c. limit_order l r ts (bare c) f
back_order_key_end l r _ = tt

small_limit : (n : ℕ) (b : Bool) → is_limit (number_size n) ≡ b → Back true state.Limit (Number n) (if b then Some state.LimitEnd else None)
small_limit n true e = λ ts f. (n, ap (λ w. Number n ∷ w) (sym f), limit_is n e)
small_limit n false e = tt

back_limit : (l : Bool) (t : Token) → Back l state.Limit t (after l state.Limit t)
back_limit false (Number n) = λ ts f. (n, ap (λ w. Number n ∷ w) (sym f), tt)
back_limit true (Number n) = small_limit n (is_limit (number_size n)) refl
back_limit false (Symbol Open) = tt
back_limit false _ = tt
back_limit true (Symbol Open) = tt
back_limit true (Decimal n k) = no_decimal (is_limit (decimal_size n k)) where
  no_decimal : (b : Bool) → Back true state.Limit (Decimal n k) (if b then None else None)
  no_decimal true = tt
  no_decimal false = tt
back_limit true _ = tt

-- ---- every state

pub back : (l : Bool) (s : State) (t : Token) → Back l s t (after l s t)
back l state.Start t = back_start l t
back l (state.Item p r) t = back_item l p r t
back l (state.Count r) t = back_count l r t
back l (state.CountOpen r) t = back_count_open l r t
back l (state.Call r) t = back_call l r t
back l (state.CallOpen r) t = back_call_open l r t
back l (state.CallEnd r) t = back_call_end l r t
back l (state.ItemEnd q r) t = back_item_end l q r t
back l (state.Table p) t = back_table l p t
back l (state.TableEnd p) t = back_table_end l p t
back l (state.Test p d) t = back_test l p d t
back l (state.TestName p d) t = back_test_name l p d t
back l (state.Compared p d) t = back_compared l p d t
back l (state.Minus p d) t = back_minus l p d t
back l (state.Is p d) t = back_is l p d t
back l (state.IsNot p d) t = back_is_not l p d t
back l (state.TestEnd p d) t = back_test_end l p d t
back l state.Group t = back_group l t
back l (state.GroupKey r) t = back_group_key l r t
back l (state.GroupKeyEnd r) t = back_group_key_end l r t
back l state.Order t = back_order l t
back l (state.OrderKey r) t = back_order_key l r t
back l (state.OrderKeyEnd r) t = back_order_key_end l r t
back l (state.DirectionEnd r) t = back_direction l r t
back l state.Limit t = back_limit l t
back l state.LimitEnd t = tt

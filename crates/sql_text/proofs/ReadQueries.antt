-- Reading a query is the grammar.
use Rattle.std.proofs.Common.{◌≡◌, ◌≤◌, ◌⊎◌, ℕ, true, List, [], ◌∷◌, ◌++◌, length, map, Option, Some, None, inl, inr, refl, sym, ap, ◌∙◌, arith, append_assoc}
use Rattle.std.proofs.lemmas.Bool.{cases_Bool, and_parts, false≢true}
use Rattle.std.proofs.lemmas.List.{append-nil}
use Rattle.sql_tokens.specs.declared.keyword.Keyword.{Keyword}
use Rattle.sql_tokens.specs.declared.keyword.Keyword.TheVariants as key
use Rattle.sql_text.specs.declared.query.QItem.{QItem}
use Rattle.sql_text.specs.declared.query.QItem.TheVariants as item
use Rattle.sql_text.specs.declared.query.QOrder.{QOrder}
use Rattle.sql_text.specs.declared.word.Sign.TheVariants.{Comma}
use Rattle.sql_text.specs.Grammar.{Token, Key, Symbol, Column, Number, Tree, QueryTree, Ors, OrderText, Listed, QueryText, groups, rows, item_tokens, column_tokens, order_tokens, list_tokens, where_tokens, group_tokens, order_by_tokens, query_tokens, or_tokens, order_of, all_of, cond_of, query_tree, Reads, nesting}
use Rattle.sql_text.specs.Reading.{◌>>=◌, after_key, after_sign, column_at, or_at, where_at, all_at, item_at, order_at, TailTree, grouped, grouped_at, limited, limited_at, ordered_at, keyed_tail, tail_at, is_plain, all_plain, joined, fits, head_at, checked, query_at}
use Rattle.sql_text.proofs.Tokens.{bind_ok, choose_ok, no_some, some_pair, key_is, column_is}
use Rattle.sql_text.proofs.ReadConditions.{or_found, or_read, or_bound, nesting-append, or_depth}
use Rattle.sql_text.proofs.ReadLists.{list_found, all_read}
use Rattle.sql_text.proofs.ReadThings.{item_found, item_some, item_read, column_found, column_some, order_found, order_some, order_read, EndsOrder}

-- ---- what is read is in the grammar

where_found : (ts us : List Token) (w : Option Tree) → where_at ts ≡ Some (w, us) → (o : Option Ors) × (where_tokens o ++ us ≡ ts) × (cond_of o ≡ w)
where_found ts us w e = elim (choose_ok (after_key key.Where ts) (Some (None, ts)) (λ us. or_at 1027 us >>= λ c. Some (Some c.0, c.1)) (w, us) e) [
  | inl d ↦ let p = some_pair (None, ts) (w, us) d.1 in (None, sym p.1, p.0)
  | inr d ↦
      let b = bind_ok (or_at 1027 d.0) (λ c. Some (Some c.0, c.1)) (w, us) d.2 in
      let p = some_pair (Some b.0.0, b.0.1) (w, us) b.2 in
      let o = or_found 1027 d.0 b.0.0 b.0.1 b.1 in
      (Some o.0, ap (λ w. Key key.Where ∷ (or_tokens o.0 ++ w)) (sym p.1) ∙ ap (λ w. Key key.Where ∷ w) o.1 ∙ key_is key.Where ts d.0 d.1, ap Some o.2 ∙ p.0)
]

abbrev group_tail : Option (Listed (List ℕ)) → TailTree
group_tail k = record { keys = all_of (λ c. c) k; order = []; limit = None }

abbrev row_tail : Option (Listed OrderText) → ℕ → TailTree
row_tail o n = record { keys = []; order = all_of order_of o; limit = Some n }

abbrev row_tokens : Option (Listed OrderText) → ℕ → List Token
row_tokens o n = order_by_tokens o ++ (Key key.Limit ∷ Number n ∷ [])

abbrev IsTail : List Token → TailTree → Type 0
IsTail ts t = ((k : Option (Listed (List ℕ))) × (group_tokens k ≡ ts) × (group_tail k ≡ t)) ⊎ ((o : Option (Listed OrderText)) × ((n : ℕ) × (row_tokens o n ≡ ts) × (row_tail o n ≡ t)))

pub same_some : {A : Type 0} (x y : A) → Some x ≡ Some y → x ≡ y
same_some x y e = cc

group_end : (keys : List (List ℕ)) (us : List Token) (t : TailTree) → grouped keys us ≡ Some t → (us ≡ []) × (record { keys = keys; order = []; limit = None } ≡ t)
group_end keys [] t e = (refl, same_some _ t e)
group_end keys (u ∷ us) t e = absurd (no_some t e)

group_found : (ts : List Token) (t : TailTree) → grouped_at ts ≡ Some t → IsTail (Key key.Group ∷ ts) t
group_found ts t e =
    let a = bind_ok (after_key key.By ts) (λ us. all_at column_at us >>= λ k. grouped k.0 k.1) t e in
    let b = bind_ok (all_at column_at a.0) (λ k. grouped k.0 k.1) t a.2 in
    let g = group_end b.0.0 b.0.1 t b.2 in
    let l = list_found column_at column_tokens (λ c. c) column_found (length a.0) a.0 b.0.1 b.0.0 b.1 in
    let s : list_tokens column_tokens l.0 l.1 ≡ a.0 = sym (append-nil (list_tokens column_tokens l.0 l.1)) ∙ ap (λ w. list_tokens column_tokens l.0 l.1 ++ w) (sym g.0) ∙ l.2 in
    inl (Some (l.0, l.1), ap (λ w. Key key.Group ∷ Key key.By ∷ w) s ∙ ap (λ w. Key key.Group ∷ w) (key_is key.By ts a.0 a.1), ap (λ k. record { keys = k; order = []; limit = None }) l.3 ∙ g.1)

limit_end : (order : List QOrder) (n : ℕ) (us : List Token) (t : TailTree) → limited order n us ≡ Some t → (us ≡ []) × (record { keys = []; order = order; limit = Some n } ≡ t)
limit_end order n [] t e = (refl, same_some _ t e)
limit_end order n (u ∷ us) t e = absurd (no_some t e)

limit_found : (order : List QOrder) (ts : List Token) (t : TailTree) → limited_at order ts ≡ Some t → (n : ℕ) × (ts ≡ Number n ∷ []) × (record { keys = []; order = order; limit = Some n } ≡ t)
limit_found order [] t e = absurd (no_some t e)
limit_found order (Number n ∷ ts) t e = let r = limit_end order n ts t e in (n, ap (λ w. Number n ∷ w) r.0, r.1)
limit_found order (u ∷ ts) t e = absurd (no_some t e)

ordered_found : (ts : List Token) (t : TailTree) → ordered_at ts ≡ Some t → IsTail (Key key.Order ∷ ts) t
ordered_found ts t e =
    let a = bind_ok (after_key key.By ts) (λ us. all_at order_at us >>= λ o. after_key key.Limit o.1 >>= λ vs. limited_at o.0 vs) t e in
    let b = bind_ok (all_at order_at a.0) (λ o. after_key key.Limit o.1 >>= λ vs. limited_at o.0 vs) t a.2 in
    let d = bind_ok (after_key key.Limit b.0.1) (λ vs. limited_at b.0.0 vs) t b.2 in
    let g = limit_found b.0.0 d.0 t d.2 in
    let l = list_found order_at order_tokens order_of order_found (length a.0) a.0 b.0.1 b.0.0 b.1 in
    let r : Key key.Limit ∷ Number g.0 ∷ [] ≡ b.0.1 = ap (λ w. Key key.Limit ∷ w) (sym g.1) ∙ key_is key.Limit b.0.1 d.0 d.1 in
    let s : list_tokens order_tokens l.0 l.1 ++ (Key key.Limit ∷ Number g.0 ∷ []) ≡ a.0 = ap (λ w. list_tokens order_tokens l.0 l.1 ++ w) r ∙ l.2 in
    inr (Some (l.0, l.1), (g.0, ap (λ w. Key key.Order ∷ Key key.By ∷ w) s ∙ ap (λ w. Key key.Order ∷ w) (key_is key.By ts a.0 a.1), ap (λ k. record { keys = []; order = k; limit = Some g.0 }) l.3 ∙ g.2))

bare_limit : (ts : List Token) (t : TailTree) → limited_at [] ts ≡ Some t → IsTail (Key key.Limit ∷ ts) t
bare_limit ts t e = let g = limit_found [] ts t e in inr (None, (g.0, ap (λ w. Key key.Limit ∷ w) (sym g.1), g.2))

keyed_tail_found : (k : Keyword) (ts : List Token) (t : TailTree) → keyed_tail k ts ≡ Some t → IsTail (Key k ∷ ts) t
keyed_tail_found key.Group ts t e = group_found ts t e
keyed_tail_found key.Order ts t e = ordered_found ts t e
keyed_tail_found key.Limit ts t e = bare_limit ts t e
keyed_tail_found k ts t e = absurd (no_some t e)

tail_found : (ts : List Token) (t : TailTree) → tail_at ts ≡ Some t → IsTail ts t
tail_found [] t e = inl (None, refl, same_some _ t e)
tail_found (Key k ∷ ts) t e = keyed_tail_found k ts t e
tail_found (u ∷ ts) t e = absurd (no_some t e)

-- plain items are names
plain_name : (i : QItem) → is_plain i ≡ true → (c : List ℕ) × (item.Plain c ≡ i)
plain_name (item.Plain c) e = (c, refl)
plain_name i e = absurd (false≢true e)

plain_names : (is : List QItem) → all_plain is ≡ true → (cs : List (List ℕ)) × (map item.Plain cs ≡ is)
plain_names [] e = ([], refl)
plain_names (i ∷ is) e =
    let p = and_parts (is_plain i) (all_plain is) e in
    let c = plain_name i p.0 in
    let r = plain_names is p.1 in
    (c.0 ∷ r.0, ap (λ j. j ∷ map item.Plain r.0) c.1 ∙ ap (λ l. i ∷ l) r.1)

plain_tokens : (c : List ℕ) (cs : List (List ℕ)) → list_tokens item_tokens (item.Plain c) (map item.Plain cs) ≡ list_tokens column_tokens c cs
plain_tokens c [] = refl
plain_tokens c (d ∷ ds) = ap (λ w. Column c ∷ Symbol Comma ∷ w) (plain_tokens d ds)

map_same : {A : Type 0} (xs : List A) → map (λ x. x) xs ≡ xs
map_same [] = refl
map_same (x ∷ xs) = ap (λ l. x ∷ l) (map_same xs)

plain_list : (x : QItem) (xs : List QItem) → all_plain (x ∷ xs) ≡ true → (c : List ℕ) × ((cs : List (List ℕ)) × (list_tokens column_tokens c cs ≡ list_tokens item_tokens x xs) × (map item.Plain (c ∷ cs) ≡ x ∷ xs))
plain_list x xs e =
    let p = and_parts (is_plain x) (all_plain xs) e in
    let c = plain_name x p.0 in
    let r = plain_names xs p.1 in
    (c.0, (r.0, sym (plain_tokens c.0 r.0) ∙ ap (λ i. list_tokens item_tokens i (map item.Plain r.0)) c.1 ∙ ap (list_tokens item_tokens x) r.1, ap (λ j. j ∷ map item.Plain r.0) c.1 ∙ ap (λ l. x ∷ l) r.1))

head_found : (ts us : List Token) (items : List QItem) (table : List ℕ) → head_at ts ≡ Some ((items, table), us) → (x : QItem) × (xs : List QItem) × (Key key.Select ∷ (list_tokens item_tokens x xs ++ (Key key.From ∷ Column table ∷ us)) ≡ ts) × (x ∷ xs ≡ items)
head_found ts us items table e =
    let a = bind_ok (after_key key.Select ts) (λ us. all_at item_at us >>= λ i. after_key key.From i.1 >>= λ vs. column_at vs >>= λ t. Some ((i.0, t.0), t.1)) ((items, table), us) e in
    let b = bind_ok (all_at item_at a.0) (λ i. after_key key.From i.1 >>= λ vs. column_at vs >>= λ t. Some ((i.0, t.0), t.1)) ((items, table), us) a.2 in
    let c = bind_ok (after_key key.From b.0.1) (λ vs. column_at vs >>= λ t. Some ((b.0.0, t.0), t.1)) ((items, table), us) b.2 in
    let d = bind_ok (column_at c.0) (λ t. Some ((b.0.0, t.0), t.1)) ((items, table), us) c.2 in
    let p = some_pair ((b.0.0, d.0.0), d.0.1) ((items, table), us) d.2 in
    let l = list_found item_at item_tokens (λ i. i) item_found (length a.0) a.0 b.0.1 b.0.0 b.1 in
    let t : Column table ∷ us ≡ c.0 = ap (λ w. Column w ∷ us) (sym (ap (λ h. h.1) p.0)) ∙ ap (λ w. Column d.0.0 ∷ w) (sym p.1) ∙ column_is c.0 d.0.0 d.0.1 d.1 in
    let f : Key key.From ∷ Column table ∷ us ≡ b.0.1 = ap (λ w. Key key.From ∷ w) t ∙ key_is key.From b.0.1 c.0 c.1 in
    (l.0, l.1, ap (λ w. Key key.Select ∷ (list_tokens item_tokens l.0 l.1 ++ w)) f ∙ ap (λ w. Key key.Select ∷ w) l.2 ∙ key_is key.Select ts a.0 a.1, sym (map_same (l.0 ∷ l.1)) ∙ l.3 ∙ ap (λ h. h.0) p.0)

checked_is : (items : List QItem) (table : List ℕ) (c : Option Tree) (t : TailTree) (q : QueryTree) → checked items table c t ≡ Some q → (fits items t.limit ≡ true) × (joined items table c t ≡ q)
checked_is items table c t q e = elim (cases_Bool (fits items t.limit)) [
  | inl f ↦ let e' : Some (joined items table c t) ≡ Some q = rw f at e in (f, same_some _ q e')
  | inr f ↦ let e' : None ≡ Some q = rw f at e in absurd (no_some q e')
]

pub query_found : (ts : List Token) (q : QueryTree) → query_at ts ≡ Some q → Reads ts q
query_found ts q e =
    let a = bind_ok (head_at ts) (λ h. where_at h.1 >>= λ w. tail_at w.1 >>= λ k. checked h.0.0 h.0.1 w.0 k) q e in
    let b = bind_ok (where_at a.0.1) (λ w. tail_at w.1 >>= λ k. checked a.0.0.0 a.0.0.1 w.0 k) q a.2 in
    let c = bind_ok (tail_at b.0.1) (λ k. checked a.0.0.0 a.0.0.1 b.0.0 k) q b.2 in
    let h = head_found ts a.0.1 a.0.0.0 a.0.0.1 a.1 in
    let w = where_found a.0.1 b.0.1 b.0.0 b.1 in
    let k = checked_is a.0.0.0 a.0.0.1 b.0.0 c.0 q c.2 in
    let front : List Token → List Token = λ v. Key key.Select ∷ (list_tokens item_tokens h.0 h.1 ++ (Key key.From ∷ Column a.0.0.1 ∷ v)) in
    elim (tail_found b.0.1 c.0 c.1) [
      | inl g ↦
          (groups (h.0, h.1) a.0.0.1 w.0 g.0, ap (λ v. front (where_tokens w.0 ++ v)) g.1 ∙ ap front w.1 ∙ h.2, ap (λ i. record { items = i; table = a.0.0.1; cond = cond_of w.0; keys = all_of (λ c. c) g.0; order = []; limit = None }) h.3 ∙ ap (λ o. joined a.0.0.0 a.0.0.1 o (group_tail g.0)) w.2 ∙ ap (joined a.0.0.0 a.0.0.1 b.0.0) g.2 ∙ k.1)
      | inr g ↦
          let l : fits (h.0 ∷ h.1) (Some g.1.0) ≡ true = ap (λ i. fits i (Some g.1.0)) h.3 ∙ ap (λ t. fits a.0.0.0 t.limit) g.1.2 ∙ k.0 in
          let p = plain_list h.0 h.1 l in
          (rows (p.0, p.1.0) a.0.0.1 w.0 g.0 g.1.0, ap (λ v. Key key.Select ∷ (v ++ (Key key.From ∷ Column a.0.0.1 ∷ (where_tokens w.0 ++ row_tokens g.0 g.1.0)))) p.1.1 ∙ ap (λ v. front (where_tokens w.0 ++ v)) g.1.1 ∙ ap front w.1 ∙ h.2, ap (λ i. joined i a.0.0.1 (cond_of w.0) (row_tail g.0 g.1.0)) (p.1.2 ∙ h.3) ∙ ap (λ o. joined a.0.0.0 a.0.0.1 o (row_tail g.0 g.1.0)) w.2 ∙ ap (joined a.0.0.0 a.0.0.1 b.0.0) g.1.2 ∙ k.1)
    ]

-- ---- what is in the grammar is read

-- what may stand behind a condition
abbrev EndsWhere : List Token → Type 0
EndsWhere us = (after_key key.Where us ≡ None) × (after_key key.Or us ≡ None) × (after_key key.And us ≡ None)

where_read : (o : Option Ors) (us : List Token) → nesting (where_tokens o) ≤ 256 → EndsWhere us → where_at (where_tokens o ++ us) ≡ Some (cond_of o, us)
where_read None us h e = rw e.0 refl
where_read (Some o) us h e =
    let b : or_depth o ≤ 1027 = omega (arith, or_bound o) in
    rw (or_read o 1027 us b e.1 e.2) refl

group_ends : (k : Option (Listed (List ℕ))) → EndsWhere (group_tokens k)
group_ends None = (refl, refl, refl)
group_ends (Some l) = (refl, refl, refl)

row_ends : (o : Option (Listed OrderText)) (n : ℕ) → EndsWhere (row_tokens o n)
row_ends None n = (refl, refl, refl)
row_ends (Some l) n = (refl, refl, refl)

columns_read : (c : List ℕ) (cs : List (List ℕ)) (us : List Token) → after_sign Comma us ≡ None → all_at column_at (list_tokens column_tokens c cs ++ us) ≡ Some (map (λ c. c) (c ∷ cs), us)
columns_read c cs us e = all_read column_at column_tokens (λ c. c) (λ us. Unit {0}) (λ b us h. refl) (λ us. tt) column_some c cs us tt e

items_read : (i : QItem) (is : List QItem) (us : List Token) → after_sign Comma us ≡ None → all_at item_at (list_tokens item_tokens i is ++ us) ≡ Some (map (λ i. i) (i ∷ is), us)
items_read i is us e = all_read item_at item_tokens (λ i. i) (λ us. Unit {0}) (λ b us h. item_read b us) (λ us. tt) item_some i is us tt e

orders_read : (o : OrderText) (os : List OrderText) (us : List Token) → EndsOrder us → after_sign Comma us ≡ None → all_at order_at (list_tokens order_tokens o os ++ us) ≡ Some (map order_of (o ∷ os), us)
orders_read o os us h e = all_read order_at order_tokens order_of EndsOrder order_read (λ us. (refl, refl)) order_some o os us h e

group_read : (k : Option (Listed (List ℕ))) → tail_at (group_tokens k) ≡ Some (group_tail k)
group_read None = refl
group_read (Some l) =
    let r = columns_read l.0 l.1 [] refl in
    rw (sym (append-nil (list_tokens column_tokens l.0 l.1)), r) refl

row_read : (o : Option (Listed OrderText)) (n : ℕ) → tail_at (row_tokens o n) ≡ Some (row_tail o n)
row_read None n = refl
row_read (Some l) n = rw (orders_read l.0 l.1 (Key key.Limit ∷ Number n ∷ []) (refl, refl) refl) refl

head_read : (x : QItem) (xs : List QItem) (t : List ℕ) (us : List Token) → head_at (Key key.Select ∷ (list_tokens item_tokens x xs ++ (Key key.From ∷ Column t ∷ us))) ≡ Some ((x ∷ xs, t), us)
head_read x xs t us = rw (items_read x xs (Key key.From ∷ Column t ∷ us) refl, map_same xs) refl

all_names_plain : (cs : List (List ℕ)) → all_plain (map item.Plain cs) ≡ true
all_names_plain [] = refl
all_names_plain (c ∷ cs) = all_names_plain cs

where_nests : (h : List Token) (o : Option Ors) (us : List Token) → nesting (h ++ (where_tokens o ++ us)) ≤ 256 → nesting (where_tokens o) ≤ 256
where_nests h o us e = omega (arith, nesting-append h (where_tokens o ++ us), nesting-append (where_tokens o) us)

query_read_at : (x : QueryText) → nesting (query_tokens x) ≤ 256 → query_at (query_tokens x) ≡ Some (query_tree x)
query_read_at (groups l t w k) h =
    let n : nesting (where_tokens w) ≤ 256 = where_nests (Key key.Select ∷ (list_tokens item_tokens l.0 l.1 ++ (Key key.From ∷ Column t ∷ []))) w (group_tokens k) (let z : nesting (Key key.Select ∷ (list_tokens item_tokens l.0 l.1 ++ (Key key.From ∷ Column t ∷ (where_tokens w ++ group_tokens k)))) ≤ 256 = h in rw (append_assoc (list_tokens item_tokens l.0 l.1) (Key key.From ∷ Column t ∷ []) (where_tokens w ++ group_tokens k)) z) in
    rw (head_read l.0 l.1 t (where_tokens w ++ group_tokens k), where_read w (group_tokens k) n (group_ends k), group_read k) refl
query_read_at (rows l t w o m) h =
    let p : list_tokens item_tokens (item.Plain l.0) (map item.Plain l.1) ≡ list_tokens column_tokens l.0 l.1 = plain_tokens l.0 l.1 in
    let n : nesting (where_tokens w) ≤ 256 = where_nests (Key key.Select ∷ (list_tokens column_tokens l.0 l.1 ++ (Key key.From ∷ Column t ∷ []))) w (row_tokens o m) (let z : nesting (Key key.Select ∷ (list_tokens column_tokens l.0 l.1 ++ (Key key.From ∷ Column t ∷ (where_tokens w ++ row_tokens o m)))) ≤ 256 = h in rw (append_assoc (list_tokens column_tokens l.0 l.1) (Key key.From ∷ Column t ∷ []) (where_tokens w ++ row_tokens o m)) z) in
    rw (sym p, head_read (item.Plain l.0) (map item.Plain l.1) t (where_tokens w ++ row_tokens o m), where_read w (row_tokens o m) n (row_ends o m), row_read o m, all_names_plain l.1) refl

pub query_read : (ts : List Token) (q : QueryTree) → nesting ts ≤ 256 → Reads ts q → query_at ts ≡ Some q
query_read ts q h r =
    let n : nesting (query_tokens r.0) ≤ 256 = rw (sym r.1) at h in
    ap query_at (sym r.1) ∙ query_read_at r.0 n ∙ ap Some r.2

-- What is written of a query that was read is that query.
use Rattle.std.proofs.Common.{◌≡◌, ◌<◌, ◌≤◌, ℕ, Bool, true, false, List, [], ◌∷◌, ◌++◌, length, map, map-id, codes, Option, Some, None, IfOk, Result, Ok, Err, refl, sym, ap, ◌∙◌, subst, arith, append-nil}
use Rattle.std.specs.Prelude.{◌||◌, nat_lt}
use Rattle.std.proofs.lemmas.Bool.Decides.{nat_tests}
use Rattle.sql_tokens.specs.Keywords.{spelling}
use Rattle.sql_tokens.specs.declared.keyword.Keyword.{Keyword}
use Rattle.sql_tokens.specs.declared.keyword.Keyword.TheVariants as key
use Rattle.table_core.specs.Value.{unsigned_text}
use Rattle.sql_text.specs.declared.query.QItem.{QItem}
use Rattle.sql_text.specs.declared.query.QItem.TheVariants as item
use Rattle.sql_text.specs.declared.word.Sign.TheVariants.{Open, Close, Comma, Star}
use Rattle.sql_text.specs.Grammar.{Token, Key, Symbol, Column, Number, QueryTree, Ors, OrderText, bare, ascending, descending, Listed, QueryText, groups, rows, or_tokens, item_tokens, column_tokens, order_tokens, list_tokens, where_tokens, group_tokens, order_by_tokens, query_tokens, order_of, all_of, cond_of, query_tree, nesting, has_too_many}
use Rattle.sql_text.specs.Queries.{HasWords, HasQuery, CanBeRead}
use Rattle.sql_writing.specs.Writing.{name_text, called_text, item_text, order_text, list_text, where_text, limit_text, query_text}
use Rattle.sql_text.proofs.ReadConditions.{nesting-append}
use Rattle.sql_writing.proofs.Spelling.{Spells, Adds, spaced, adds_none, adds_spaced, adds_more, spells_more, has_words}
use Rattle.sql_writing.proofs.SpelledTokens.{AreSound, sound_left, sound_right, words_sound}
use Rattle.sql_writing.proofs.SpelledWords.{key_spells, open_spells, close_spells, comma_spells, star_spells, name_spells, whole_counts}
use Rattle.sql_writing.proofs.SpelledConditions.{cond_again}

-- ---- lists

module _ {A B : Type 0} (f : A → List ℕ) (g again : B → List Token) (view : B → A) (each : (b : B) → AreSound (g b) → Spells (f (view b)) (again b)) where
  list_spells : (x : B) (xs : List B) → AreSound (list_tokens g x xs) → Spells (f (view x) ++ list_text f (codes " , ") (map view xs)) (list_tokens again x xs)
  list_spells x [] s = subst (λ w. Spells w (again x)) (sym (append-nil (f (view x)))) (each x s)
  list_spells x (y ∷ ys) s =
      let rest = list_spells y ys (sound_right (g x) (Symbol Comma ∷ list_tokens g y ys) s).1 in
      spaced (f (view x)) _ (again x) (Symbol Comma ∷ list_tokens again y ys) (each x (sound_left (g x) (Symbol Comma ∷ list_tokens g y ys) s)) (spaced (44 ∷ []) _ (Symbol Comma ∷ []) (list_tokens again y ys) comma_spells rest)

called_spells : (k : Keyword) (c : List ℕ) → 0 < length c → Spells (called_text (spelling k) c) (Key k ∷ Symbol Open ∷ Column c ∷ Symbol Close ∷ [])
called_spells k c h =
    spaced (spelling k) _ (Key k ∷ []) _ (key_spells k) (spaced (40 ∷ []) _ (Symbol Open ∷ []) _ open_spells (spaced (name_text c) (41 ∷ []) (Column c ∷ []) (Symbol Close ∷ []) (name_spells c h) close_spells))

item_spells : (i : QItem) → AreSound (item_tokens i) → Spells (item_text i) (item_tokens i)
item_spells item.CountAll s =
    spaced (codes "COUNT") _ (Key key.Count ∷ []) _ (key_spells key.Count) (spaced (40 ∷ []) _ (Symbol Open ∷ []) _ open_spells (spaced (42 ∷ []) (41 ∷ []) (Symbol Star ∷ []) (Symbol Close ∷ []) star_spells close_spells))
item_spells (item.Count c) s = called_spells key.Count c s.1.1.0
item_spells (item.Sum c) s = called_spells key.Sum c s.1.1.0
item_spells (item.Min c) s = called_spells key.Min c s.1.1.0
item_spells (item.Max c) s = called_spells key.Max c s.1.1.0
item_spells (item.Plain c) s = name_spells c s.0

items_spell : (l : Listed QItem) → AreSound (list_tokens item_tokens l.0 l.1) → Spells (item_text l.0 ++ list_text item_text (codes " , ") l.1) (list_tokens item_tokens l.0 l.1)
items_spell l s =
    subst (λ is. Spells (item_text l.0 ++ list_text item_text (codes " , ") is) (list_tokens item_tokens l.0 l.1)) (map-id l.1) (list_spells item_text item_tokens item_tokens (λ i. i) item_spells l.0 l.1 s)

columns_spell : (l : Listed (List ℕ)) → AreSound (list_tokens column_tokens l.0 l.1) → Spells (item_text (item.Plain l.0) ++ list_text item_text (codes " , ") (map item.Plain l.1)) (list_tokens column_tokens l.0 l.1)
columns_spell l = list_spells item_text column_tokens column_tokens item.Plain (λ c s. name_spells c s.0) l.0 l.1

-- ---- orders are written with their direction

order_again : OrderText → OrderText
order_again (bare c) = ascending c
order_again (ascending c) = ascending c
order_again (descending c) = descending c

again_tokens : OrderText → List Token
again_tokens o = order_tokens (order_again o)

order_spells : (o : OrderText) → AreSound (order_tokens o) → Spells (order_text (order_of o)) (again_tokens o)
unfolding order_again again_tokens
order_spells (bare c) s = spaced (name_text c) (codes "ASC") (Column c ∷ []) (Key key.Asc ∷ []) (name_spells c s.0) (key_spells key.Asc)
order_spells (ascending c) s = spaced (name_text c) (codes "ASC") (Column c ∷ []) (Key key.Asc ∷ []) (name_spells c s.0) (key_spells key.Asc)
order_spells (descending c) s = spaced (name_text c) (codes "DESC") (Column c ∷ []) (Key key.Desc ∷ []) (name_spells c s.0) (key_spells key.Desc)

again_list : (x : OrderText) (xs : List OrderText) → list_tokens again_tokens x xs ≡ list_tokens order_tokens (order_again x) (map order_again xs)
unfolding again_tokens
again_list x [] = refl
again_list x (y ∷ ys) = ap (λ ts. order_tokens (order_again x) ++ (Symbol Comma ∷ ts)) (again_list y ys)

again_of : (o : OrderText) → order_of (order_again o) ≡ order_of o
unfolding order_again
again_of (bare c) = refl
again_of (ascending c) = refl
again_of (descending c) = refl

again_all : (xs : List OrderText) → map order_of (map order_again xs) ≡ map order_of xs
again_all [] = refl
again_all (x ∷ xs) = ap (λ o. o ∷ map order_of (map order_again xs)) (again_of x) ∙ ap (λ os. order_of x ∷ os) (again_all xs)

order_nests : (o : OrderText) → nesting (order_tokens o) ≡ 0
order_nests (bare c) = refl
order_nests (ascending c) = refl
order_nests (descending c) = refl

orders_nest : (x : OrderText) (xs : List OrderText) → nesting (list_tokens order_tokens x xs) ≡ 0
orders_nest x [] = order_nests x
orders_nest x (y ∷ ys) = omega (arith, nesting-append (order_tokens x) (Symbol Comma ∷ list_tokens order_tokens y ys), order_nests x, orders_nest y ys)

-- ---- what stands behind the table's name

where_again : (w : Option Ors) → AreSound (where_tokens w) → (v : Option Ors) × (cond_of v ≡ cond_of w) × Adds (where_text (cond_of w)) (where_tokens v) × (nesting (where_tokens v) ≤ nesting (where_tokens w))
where_again None s = (None, refl, adds_none, omega arith)
where_again (Some o) s =
    let a = cond_again o s.1 in
    (Some a.0, ap Some a.1, adds_spaced _ (Key key.Where ∷ or_tokens a.0) (spaced (codes "WHERE") _ (Key key.Where ∷ []) (or_tokens a.0) (key_spells key.Where) a.2), omega (arith, a.3))

group_adds : (k : Option (Listed (List ℕ))) → AreSound (group_tokens k) → Adds (list_text name_text (codes " GROUP BY ") (all_of (λ c. c) k)) (group_tokens k)
group_adds None s = adds_none
group_adds (Some l) s =
    let names = list_spells name_text column_tokens column_tokens (λ c. c) (λ c s. name_spells c s.0) l.0 l.1 s.1.1 in
    adds_spaced _ (Key key.Group ∷ Key key.By ∷ list_tokens column_tokens l.0 l.1) (spaced (codes "GROUP") _ (Key key.Group ∷ []) _ (key_spells key.Group) (spaced (codes "BY") _ (Key key.By ∷ []) _ (key_spells key.By) names))

order_adds : (o : Option (Listed OrderText)) → AreSound (order_by_tokens o) → (p : Option (Listed OrderText)) × (all_of order_of p ≡ all_of order_of o) × Adds (list_text order_text (codes " ORDER BY ") (all_of order_of o)) (order_by_tokens p) × (nesting (order_by_tokens p) ≤ nesting (order_by_tokens o))
order_adds None s = (None, refl, adds_none, omega arith)
order_adds (Some l) s =
    let e = again_list l.0 l.1 in
    let orders = list_spells order_text order_tokens again_tokens order_of order_spells l.0 l.1 s.1.1 in
    let all = spaced (codes "ORDER") _ (Key key.Order ∷ []) _ (key_spells key.Order) (spaced (codes "BY") _ (Key key.By ∷ []) _ (key_spells key.By) (subst (Spells _) e orders)) in
    (Some (order_again l.0, map order_again l.1), again_all (l.0 ∷ l.1), adds_spaced _ _ all, omega (arith, orders_nest (order_again l.0) (map order_again l.1), orders_nest l.0 l.1))

limit_adds : (n : ℕ) → n ≤ 4096 → Adds (limit_text (Some n)) (Key key.Limit ∷ Number n ∷ [])
limit_adds n h =
    adds_spaced _ (Key key.Limit ∷ Number n ∷ []) (spaced (codes "LIMIT") (unsigned_text 0 n) (Key key.Limit ∷ []) (Number n ∷ []) (key_spells key.Limit) (whole_counts n (omega arith)).spells)

-- ---- queries

module _ (list : List ℕ) (things : List Token) (t : List ℕ) (tail : List ℕ) (ts : List Token) where
  select_spells : Spells list things → 0 < length t → Adds tail ts → Spells ((codes "SELECT " ++ list) ++ (codes " FROM " ++ (name_text t ++ tail))) (Key key.Select ∷ (things ++ (Key key.From ∷ Column t ∷ ts)))
  select_spells s h a =
      let behind = spells_more (name_text t) tail (Column t ∷ []) ts (name_spells t h) a in
      spaced (codes "SELECT " ++ list) (codes "FROM " ++ (name_text t ++ tail)) (Key key.Select ∷ things) (Key key.From ∷ Column t ∷ ts) (spaced (codes "SELECT") list (Key key.Select ∷ []) things (key_spells key.Select) s) (spaced (codes "FROM") (name_text t ++ tail) (Key key.From ∷ []) (Column t ∷ ts) (key_spells key.From) behind)

select_nests : (things : List Token) (t : List ℕ) (ts us : List Token) → nesting ts ≤ nesting us → nesting (Key key.Select ∷ (things ++ (Key key.From ∷ Column t ∷ ts))) ≤ nesting (Key key.Select ∷ (things ++ (Key key.From ∷ Column t ∷ us)))
select_nests things t ts us h =
    omega (arith, nesting-append things (Key key.From ∷ Column t ∷ ts), nesting-append things (Key key.From ∷ Column t ∷ us), h)

or_right : (x y : Bool) → (x || y) ≡ false → y ≡ false
or_right true y e = cc
or_right false y e = e

limit_within : (n : ℕ) → nat_lt 4096 n ≡ false → n ≤ 4096
limit_within n e = grind (arith, nat_tests)

-- The text of a query spells tokens that are the query.
abbrev Again : QueryText → Type 0
Again x = (y : QueryText) × (query_tree y ≡ query_tree x) × Spells (query_text (query_tree x)) (query_tokens y) × (nesting (query_tokens y) ≤ nesting (query_tokens x))

query_again : (x : QueryText) → AreSound (query_tokens x) → has_too_many (query_tree x) ≡ false → Again x
query_again (groups l t w k) s f =
    let things = list_tokens item_tokens l.0 l.1 in
    let ts = where_tokens w ++ group_tokens k in
    let behind = sound_right things (Key key.From ∷ Column t ∷ ts) s.1 in
    let v = where_again w (sound_left (where_tokens w) (group_tokens k) behind.1.1) in
    let g = group_adds k (sound_right (where_tokens w) (group_tokens k) behind.1.1) in
    let names = list_text name_text (codes " GROUP BY ") (all_of (λ c. c) k) in
    let g' = subst (λ n. Adds n (group_tokens k)) (sym (append-nil names)) g in
    let tail = adds_more (where_text (cond_of w)) (names ++ []) (where_tokens v.0) (group_tokens k) v.2 g' in
    (groups l t v.0 k, ap (λ c. record { items = l.0 ∷ l.1; table = t; cond = c; keys = all_of (λ c. c) k; order = []; limit = None }) v.1, select_spells _ things t _ (where_tokens v.0 ++ group_tokens k) (items_spell l (sound_left things (Key key.From ∷ Column t ∷ ts) s.1)) behind.1.0 tail, select_nests things t (where_tokens v.0 ++ group_tokens k) ts (omega (arith, v.3, nesting-append (where_tokens v.0) (group_tokens k), nesting-append (where_tokens w) (group_tokens k))))
query_again (rows l t w o n) s f =
    let things = list_tokens column_tokens l.0 l.1 in
    let last = Key key.Limit ∷ Number n ∷ [] in
    let us = order_by_tokens o ++ last in
    let ts = where_tokens w ++ us in
    let behind = sound_right things (Key key.From ∷ Column t ∷ ts) s.1 in
    let v = where_again w (sound_left (where_tokens w) us behind.1.1) in
    let p = order_adds o (sound_left (order_by_tokens o) last (sound_right (where_tokens w) us behind.1.1)) in
    let q = query_tree (rows l t w o n) in
    let limit = limit_adds n (limit_within n (or_right (nat_lt 32 (length q.order)) _ (or_right (nat_lt 32 (length q.keys)) _ (or_right (nat_lt 32 (length q.items)) _ f)))) in
    let end = adds_more (list_text order_text (codes " ORDER BY ") (all_of order_of o)) (limit_text (Some n)) (order_by_tokens p.0) last p.2 limit in
    let us' = order_by_tokens p.0 ++ last in
    let tail = adds_more (where_text (cond_of w)) _ (where_tokens v.0) us' v.2 end in
    let same : query_tree (rows l t v.0 p.0 n) ≡ query_tree (rows l t w o n) =
    ap (λ c. record { items = map item.Plain (l.0 ∷ l.1); table = t; cond = c; keys = []; order = all_of order_of p.0; limit = Some n }) v.1
    ∙ ap (λ os. record { items = map item.Plain (l.0 ∷ l.1); table = t; cond = cond_of w; keys = []; order = os; limit = Some n }) p.1
    in
    (rows l t v.0 p.0 n, same, select_spells _ things t _ (where_tokens v.0 ++ us') (columns_spell l (sound_left things (Key key.From ∷ Column t ∷ ts) s.1)) behind.1.0 tail, select_nests things t (where_tokens v.0 ++ us') ts (omega (arith, v.3, p.3, nesting-append (where_tokens v.0) us', nesting-append (where_tokens w) us, nesting-append (order_by_tokens p.0) last, nesting-append (order_by_tokens o) last)))

-- what is written of a query that was read is that query
pub written_is_read : (q : QueryTree) → CanBeRead q → HasQuery (query_text q) q
written_is_read q r =
    let h = r.1.2 in
    let x = h.reads in
    let sound = subst AreSound r.1.1.2 (words_sound r.0 r.1.1.0 r.1.1.1) in
    let a = query_again x.0 (subst AreSound (sym x.1) sound) (ap has_too_many x.2 ∙ h.few) in
    (query_tokens a.0, subst (λ q. HasWords (query_text q) (query_tokens a.0)) x.2 (has_words (query_text (query_tree x.0)) (query_tokens a.0) a.2), record { nested = omega (arith, a.3, ap nesting x.1, h.nested); reads = (a.0, refl, a.1 ∙ x.2); few = h.few })

pub text_is_read : {E : Type 0} (q : QueryTree) (result : Result (List ℕ) E) → CanBeRead q → IfOk result (λ bytes. bytes ≡ query_text q) → IfOk result (λ bytes. HasQuery bytes q)
text_is_read q (Ok bytes) r e = subst (λ bytes. HasQuery bytes q) (sym e) (written_is_read q r)
text_is_read q (Err error) r e = tt

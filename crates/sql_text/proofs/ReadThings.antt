-- Items, names and orders: what is read is what is spelled.
use Rattle.std.proofs.Common.{◌≡◌, ◌<◌, ◌⊎◌, ℕ, List, [], ◌∷◌, ◌++◌, length, Option, Some, None, inl, inr, refl, sym, ap, ◌∙◌, arith}
use Rattle.sql_tokens.specs.declared.keyword.Keyword.{Keyword}
use Rattle.sql_tokens.specs.declared.keyword.Keyword.TheVariants as key
use Rattle.sql_text.specs.declared.word.Sign.TheVariants.{Open, Close, Star}
use Rattle.sql_text.specs.declared.query.QItem.{QItem}
use Rattle.sql_text.specs.declared.query.QItem.TheVariants as item
use Rattle.sql_text.specs.declared.query.QOrder.{QOrder}
use Rattle.sql_text.specs.Grammar.{Token, Key, Symbol, Column, OrderText, bare, ascending, descending, item_tokens, column_tokens, order_tokens, order_of}
use Rattle.sql_text.specs.Reading.{Read, Takes, ◌>>=◌, after_key, after_sign, column_at, inside_at, star_at, count_at, keyed_item, item_at, direction_at, order_at}
use Rattle.sql_text.proofs.Tokens.{bind_ok, choose_ok, no_some, some_pair, key_is, sign_is, column_is}
use Rattle.sql_text.proofs.ReadLists.{Found, found_takes}

inside_found : (ts us : List Token) (c : List ℕ) → inside_at ts ≡ Some (c, us) → Symbol Open ∷ Column c ∷ Symbol Close ∷ us ≡ ts
inside_found ts us c e =
    let a = bind_ok (after_sign Open ts) (λ us. column_at us >>= λ c. after_sign Close c.1 >>= λ vs. Some (c.0, vs)) (c, us) e in
    let b = bind_ok (column_at a.0) (λ c. after_sign Close c.1 >>= λ vs. Some (c.0, vs)) (c, us) a.2 in
    let d = bind_ok (after_sign Close b.0.1) (λ vs. Some (b.0.0, vs)) (c, us) b.2 in
    let p = some_pair (b.0.0, d.0) (c, us) d.2 in
    ap (λ w. Symbol Open ∷ Column w ∷ Symbol Close ∷ us) (sym p.0) ∙ ap (λ w. Symbol Open ∷ Column b.0.0 ∷ Symbol Close ∷ w) (sym p.1) ∙ ap (λ w. Symbol Open ∷ Column b.0.0 ∷ w) (sign_is Close b.0.1 d.0 d.1) ∙ ap (λ w. Symbol Open ∷ w) (column_is a.0 b.0.0 b.0.1 b.1) ∙ sign_is Open ts a.0 a.1

star_found : (ts us : List Token) → star_at ts ≡ Some us → Symbol Open ∷ Symbol Star ∷ Symbol Close ∷ us ≡ ts
star_found ts us e =
    let a = bind_ok (after_sign Open ts) (λ us. after_sign Star us >>= λ vs. after_sign Close vs) us e in
    let b = bind_ok (after_sign Star a.0) (λ vs. after_sign Close vs) us a.2 in
    ap (λ w. Symbol Open ∷ Symbol Star ∷ w) (sign_is Close b.0 us b.2) ∙ ap (λ w. Symbol Open ∷ w) (sign_is Star a.0 b.0 b.1) ∙ sign_is Open ts a.0 a.1

abbrev IsItem : List Token → List Token → QItem → Type 0
IsItem ts us i = (j : QItem) × (item_tokens j ++ us ≡ ts) × (j ≡ i)

abbrev with_name : (List ℕ → QItem) → List ℕ × List Token → Read QItem
with_name make c = Some (make c.0, c.1)

-- a keyword, a name in parentheses, and the item that they are
keyed : (k : _) (make : List ℕ → QItem) (ts us : List Token) (i : QItem) → ((c : List ℕ) → item_tokens (make c) ≡ Key k ∷ Symbol Open ∷ Column c ∷ Symbol Close ∷ []) → (inside_at ts >>= with_name make) ≡ Some (i, us) → IsItem (Key k ∷ ts) us i
keyed k make ts us i same e =
    let b = bind_ok (inside_at ts) (with_name make) (i, us) e in
    let p = some_pair (make b.0.0, b.0.1) (i, us) b.2 in
    (make b.0.0, ap (λ w. w ++ us) (same b.0.0) ∙ ap (λ w. Key k ∷ Symbol Open ∷ Column b.0.0 ∷ Symbol Close ∷ w) (sym p.1) ∙ ap (λ w. Key k ∷ w) (inside_found ts b.0.1 b.0.0 b.1), p.0)

count_found : (ts us : List Token) (i : QItem) → count_at ts ≡ Some (i, us) → IsItem (Key key.Count ∷ ts) us i
count_found ts us i e = elim (choose_ok (star_at ts) (inside_at ts >>= λ c. Some (item.Count c.0, c.1)) (λ us. Some (item.CountAll, us)) (i, us) e) [
  | inl d ↦ keyed key.Count item.Count ts us i (λ c. refl) d.1
  | inr d ↦
      let p = some_pair (item.CountAll, d.0) (i, us) d.2 in
      (item.CountAll, ap (λ w. Key key.Count ∷ Symbol Open ∷ Symbol Star ∷ Symbol Close ∷ w) (sym p.1) ∙ ap (λ w. Key key.Count ∷ w) (star_found ts d.0 d.1), p.0)
]

keyed_found : (k : Keyword) (ts us : List Token) (i : QItem) → keyed_item k ts ≡ Some (i, us) → IsItem (Key k ∷ ts) us i
keyed_found key.Count ts us i e = count_found ts us i e
keyed_found key.Sum ts us i e = keyed key.Sum item.Sum ts us i (λ c. refl) e
keyed_found key.Min ts us i e = keyed key.Min item.Min ts us i (λ c. refl) e
keyed_found key.Max ts us i e = keyed key.Max item.Max ts us i (λ c. refl) e
keyed_found k ts us i e = absurd (no_some (i, us) e)

plain_found : (ts us : List Token) (i : QItem) → (column_at ts >>= with_name item.Plain) ≡ Some (i, us) → IsItem ts us i
plain_found ts us i e =
    let b = bind_ok (column_at ts) (with_name item.Plain) (i, us) e in
    let p = some_pair (item.Plain b.0.0, b.0.1) (i, us) b.2 in
    (item.Plain b.0.0, ap (λ w. Column b.0.0 ∷ w) (sym p.1) ∙ column_is ts b.0.0 b.0.1 b.1, p.0)

pub item_found : Found item_at item_tokens (λ i. i)
item_found [] us i e = plain_found [] us i e
item_found (Key k ∷ ts) us i e = keyed_found k ts us i e
item_found (t ∷ ts) us i e = plain_found (t ∷ ts) us i e

pub item_some : (i : QItem) → 0 < length (item_tokens i)
item_some item.CountAll = omega arith
item_some (item.Count c) = omega arith
item_some (item.Sum c) = omega arith
item_some (item.Min c) = omega arith
item_some (item.Max c) = omega arith
item_some (item.Plain c) = omega arith

pub item_read : (i : QItem) (us : List Token) → item_at (item_tokens i ++ us) ≡ Some (i, us)
item_read item.CountAll us = refl
item_read (item.Count c) us = refl
item_read (item.Sum c) us = refl
item_read (item.Min c) us = refl
item_read (item.Max c) us = refl
item_read (item.Plain c) us = refl

pub column_found : Found column_at column_tokens (λ c. c)
column_found ts us c e = (c, column_is ts c us e, refl)

pub column_some : (c : List ℕ) → 0 < length (column_tokens c)
column_some c = omega arith

pub order_some : (o : OrderText) → 0 < length (order_tokens o)
order_some (bare c) = omega arith
order_some (ascending c) = omega arith
order_some (descending c) = omega arith

seen : {A : Type 0} (o : Option A) → (o ≡ None) ⊎ ((x : A) × (o ≡ Some x))
seen None = inl refl
seen (Some x) = inr (x, refl)

abbrev IsOrder : List ℕ → List Token → List Token → QOrder → Type 0
IsOrder c ts us o = (b : OrderText) × (order_tokens b ++ us ≡ Column c ∷ ts) × (order_of b ≡ o)

direction_found : (c : List ℕ) (ts : List Token) → IsOrder c ts ((direction_at ts).1) (record { column = c; descending = (direction_at ts).0 })
direction_found c ts = elim (seen (after_key key.Desc ts)) [
  | inr d ↦ rw d.1 (descending c, ap (λ w. Column c ∷ w) (key_is key.Desc ts d.0 d.1), refl)
  | inl e ↦ elim (seen (after_key key.Asc ts)) [
    | inr a ↦ rw (e, a.1) (ascending c, ap (λ w. Column c ∷ w) (key_is key.Asc ts a.0 a.1), refl)
    | inl f ↦ rw (e, f) (bare c, refl, refl)
  ]
]

pub order_found : Found order_at order_tokens order_of
order_found ts us o e =
    let b = bind_ok (column_at ts) (λ c. Some (record { column = c.0; descending = (direction_at c.1).0 }, (direction_at c.1).1)) (o, us) e in
    let p = some_pair (record { column = b.0.0; descending = (direction_at b.0.1).0 }, (direction_at b.0.1).1) (o, us) b.2 in
    let d = direction_found b.0.0 b.0.1 in
    (d.0, ap (λ w. order_tokens d.0 ++ w) (sym p.1) ∙ d.1 ∙ column_is ts b.0.0 b.0.1 b.1, d.2 ∙ p.0)

-- what may stand behind an order
abbrev pub EndsOrder : List Token → Type 0
EndsOrder us = (after_key key.Desc us ≡ None) × (after_key key.Asc us ≡ None)

pub order_read : (o : OrderText) (us : List Token) → EndsOrder us → order_at (order_tokens o ++ us) ≡ Some (order_of o, us)
order_read (bare c) us h = rw (h.0, h.1) refl
order_read (ascending c) us h = refl
order_read (descending c) us h = refl

-- ---- each takes a token at least

pub item_takes : Takes item_at
item_takes = found_takes item_at item_tokens (λ i. i) item_some item_found

pub column_takes : Takes column_at
column_takes = found_takes column_at column_tokens (λ c. c) column_some column_found

pub order_takes : Takes order_at
order_takes = found_takes order_at order_tokens order_of order_some order_found

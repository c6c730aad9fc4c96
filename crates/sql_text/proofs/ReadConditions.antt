-- Reading conditions by descent is the grammar.
use Rattle.std.proofs.Common.{◌≡◌, ◌<◌, ◌≤◌, ◌+◌, ◌*◌, ◌^◌, ℕ, zero, suc, max, Bool, true, false, List, [], ◌∷◌, ◌++◌, Some, None, inl, inr, refl, sym, ap, ◌∙◌, arith, append_assoc}
use Rattle.std.specs.Prelude.{nat_lt, nat_le, pos, neg_ℤ, ℤ}
use Rattle.std.proofs.lemmas.Bool.{cases_Bool, lt-ltb, le-leb, ltb-true, leb-true}
use Rattle.sql_tokens.specs.declared.keyword.Keyword.TheVariants as key
use Rattle.sql_text.specs.declared.word.Sign.TheVariants.{Open, Close, Minus}
use Rattle.sql_text.specs.declared.condition.Literal.{Literal}
use Rattle.sql_text.specs.declared.condition.Literal.TheVariants as literal
use Rattle.sql_text.specs.Grammar.{Token, Key, Symbol, Compares, Column, Number, Decimal, Text, Tree, Compare, NullTest, Both, Either, Negated, LiteralText, number, minus_number, decimal, minus_decimal, text, Ors, ors, OrTail, no_or, more_or, Ands, ands, AndTail, no_and, more_and, Nots, not_not, in_parentheses, compare, is_null, is_not_null, literal_tokens, or_tokens, or_tail_tokens, and_tokens, and_tail_tokens, not_tokens, literal_value, or_tree, or_tail_tree, and_tree, and_tail_tree, not_tree, nests, nesting}
use Rattle.sql_text.specs.Reading.{◌>>=◌, choose, signed, decimal_value, number_at, literal_at, null_at, is_at, leaf_at, close_at, or_at, or_tail_at, and_at, and_tail_at, not_at, after_key, after_sign, column_at}
use Rattle.sql_text.proofs.Tokens.{bind_ok, choose_ok, no_some, some_pair, key_is, sign_is, column_is}

-- ---- literals

positive : (n : ℕ) (v : ℤ) → signed false n ≡ Some v → (n < 2 ^ 63) × (pos n ≡ v)
positive n v e = elim (cases_Bool (nat_lt n (2 ^ 63))) [
  | inl t ↦ let e' : Some (pos n) ≡ Some v = rw t at e in (ltb-true n (2 ^ 63) t, cc)
  | inr t ↦ let e' : None ≡ Some v = rw t at e in absurd (no_some v e')
]

negative : (n : ℕ) (v : ℤ) → signed true n ≡ Some v → (n ≤ 2 ^ 63) × (neg_ℤ (pos n) ≡ v)
negative n v e = elim (cases_Bool (nat_le n (2 ^ 63))) [
  | inl t ↦ let e' : Some (neg_ℤ (pos n)) ≡ Some v = rw t at e in (leb-true n (2 ^ 63) t, cc)
  | inr t ↦ let e' : None ≡ Some v = rw t at e in absurd (no_some v e')
]

few_places : (b : Bool) (n p : ℕ) (v : Literal) → decimal_value b n p ≡ Some v → (p ≤ 9) × ((d : ℤ) × (signed b n ≡ Some d) × (literal.Dec d p ≡ v))
few_places b n p v e = elim (cases_Bool (nat_le p 9)) [
  | inl t ↦
      let e' : (signed b n >>= λ d. Some (literal.Dec d p)) ≡ Some v = rw t at e in
      let r = bind_ok (signed b n) (λ d. Some (literal.Dec d p)) v e' in
      let q : literal.Dec r.0 p ≡ v = cc (r.2) in
      (leb-true p 9 t, (r.0, r.1, q))
  | inr t ↦ let e' : None ≡ Some v = rw t at e in absurd (no_some v e')
]

-- a literal behind its sign
abbrev Spells : List Token → List Token → Literal → Type 0
Spells ts us v = (l : LiteralText) × (literal_tokens l ++ us ≡ ts) × (literal_value l ≡ v)

unsigned : (ts us : List Token) (v : Literal) → number_at false ts ≡ Some (v, us) → Spells ts us v
unsigned [] us v e = absurd (no_some (v, us) e)
unsigned (Number n ∷ ts) us v e =
    let r = bind_ok (signed false n) (λ d. Some (literal.Int d, ts)) (v, us) e in
    let q = some_pair (literal.Int r.0, ts) (v, us) r.2 in
    let p = positive n r.0 r.1 in
    (number n p.0, ap (λ w. Number n ∷ w) (sym q.1), ap literal.Int p.1 ∙ q.0)
unsigned (Decimal n places ∷ ts) us v e =
    let r = bind_ok (decimal_value false n places) (λ d. Some (d, ts)) (v, us) e in
    let q = some_pair (r.0, ts) (v, us) r.2 in
    let f = few_places false n places r.0 r.1 in
    let p = positive n f.1.0 f.1.1 in
    (decimal n places p.0 f.0, ap (λ w. Decimal n places ∷ w) (sym q.1), ap (λ d. literal.Dec d places) p.1 ∙ f.1.2 ∙ q.0)
unsigned (t ∷ ts) us v e = absurd (no_some (v, us) e)

behind_minus : (ts us : List Token) (v : Literal) → number_at true ts ≡ Some (v, us) → Spells (Symbol Minus ∷ ts) us v
behind_minus [] us v e = absurd (no_some (v, us) e)
behind_minus (Number n ∷ ts) us v e =
    let r = bind_ok (signed true n) (λ d. Some (literal.Int d, ts)) (v, us) e in
    let q = some_pair (literal.Int r.0, ts) (v, us) r.2 in
    let p = negative n r.0 r.1 in
    (minus_number n p.0, ap (λ w. Symbol Minus ∷ Number n ∷ w) (sym q.1), ap literal.Int p.1 ∙ q.0)
behind_minus (Decimal n places ∷ ts) us v e =
    let r = bind_ok (decimal_value true n places) (λ d. Some (d, ts)) (v, us) e in
    let q = some_pair (r.0, ts) (v, us) r.2 in
    let f = few_places true n places r.0 r.1 in
    let p = negative n f.1.0 f.1.1 in
    (minus_decimal n places p.0 f.0, ap (λ w. Symbol Minus ∷ Decimal n places ∷ w) (sym q.1), ap (λ d. literal.Dec d places) p.1 ∙ f.1.2 ∙ q.0)
behind_minus (t ∷ ts) us v e = absurd (no_some (v, us) e)

literal_found : (ts us : List Token) (v : Literal) → literal_at ts ≡ Some (v, us) → Spells ts us v
literal_found [] us v e = unsigned [] us v e
literal_found (Symbol Minus ∷ ts) us v e = behind_minus ts us v e
literal_found (Text t ∷ ts) us v e = let p = some_pair (literal.Text t, ts) (v, us) e in (text t, ap (λ w. Text t ∷ w) (sym p.1), p.0)
literal_found (t ∷ ts) us v e = unsigned (t ∷ ts) us v e

literal_read : (l : LiteralText) (rest : List Token) → literal_at (literal_tokens l ++ rest) ≡ Some (literal_value l, rest)
literal_read (number n h) rest = rw (lt-ltb n (2 ^ 63) h) refl
literal_read (minus_number n h) rest = rw (le-leb n (2 ^ 63) h) refl
literal_read (decimal n p h k) rest = rw (le-leb p 9 k, lt-ltb n (2 ^ 63) h) refl
literal_read (minus_decimal n p h k) rest = rw (le-leb p 9 k, le-leb n (2 ^ 63) h) refl
literal_read (text t) rest = refl

-- ---- what is read is in the grammar

close_is : (tree tree' : Tree) (ts us : List Token) → close_at tree ts ≡ Some (tree', us) → (Symbol Close ∷ us ≡ ts) × (tree ≡ tree')
close_is tree tree' ts us e =
    let b = bind_ok (after_sign Close ts) (λ us. Some (tree, us)) (tree', us) e in
    let p = some_pair (tree, b.0) (tree', us) b.2 in
    (ap (λ w. Symbol Close ∷ w) (sym p.1) ∙ sign_is Close ts b.0 b.1, p.0)

null_found : (c : List ℕ) (b : Bool) (ts us : List Token) (tree : Tree) → null_at c b ts ≡ Some (tree, us) → (Key key.Null ∷ us ≡ ts) × (NullTest c b ≡ tree)
null_found c b ts us tree e =
    let r = bind_ok (after_key key.Null ts) (λ us. Some (NullTest c b, us)) (tree, us) e in
    let p = some_pair (NullTest c b, r.0) (tree, us) r.2 in
    (ap (λ w. Key key.Null ∷ w) (sym p.1) ∙ key_is key.Null ts r.0 r.1, p.0)

abbrev IsLeaf : List ℕ → List Token → List Token → Tree → Type 0
IsLeaf c ts us tree = (a : Nots) × (not_tokens a ++ us ≡ Column c ∷ ts) × (not_tree a ≡ tree)

is_found : (c : List ℕ) (ts us : List Token) (tree : Tree) → is_at c ts ≡ Some (tree, us) → IsLeaf c (Key key.Is ∷ ts) us tree
is_found c ts us tree e = elim (choose_ok (after_key key.Not ts) (null_at c false ts) (λ us. null_at c true us) (tree, us) e) [
  | inl d ↦ let n = null_found c false ts us tree d.1 in (is_null c, ap (λ w. Column c ∷ Key key.Is ∷ w) n.0, n.1)
  | inr d ↦
      let n = null_found c true d.0 us tree d.2 in
      (is_not_null c, ap (λ w. Column c ∷ Key key.Is ∷ Key key.Not ∷ w) n.0 ∙ ap (λ w. Column c ∷ Key key.Is ∷ w) (key_is key.Not ts d.0 d.1), n.1)
]

behind_is : (c : List ℕ) (ts us : List Token) (tree : Tree) → (after_key key.Is ts >>= λ us. is_at c us) ≡ Some (tree, us) → IsLeaf c ts us tree
behind_is c ts us tree e =
    let b = bind_ok (after_key key.Is ts) (λ us. is_at c us) (tree, us) e in
    let a = is_found c b.0 us tree b.2 in
    (a.0, a.1 ∙ ap (λ w. Column c ∷ w) (key_is key.Is ts b.0 b.1), a.2)

leaf_found : (c : List ℕ) (ts us : List Token) (tree : Tree) → leaf_at c ts ≡ Some (tree, us) → IsLeaf c ts us tree
leaf_found c [] us tree e = absurd (no_some (tree, us) e)
leaf_found c (Compares o ∷ ts) us tree e =
    let b = bind_ok (literal_at ts) (λ v. Some (Compare c o v.0, v.1)) (tree, us) e in
    let p = some_pair (Compare c o b.0.0, b.0.1) (tree, us) b.2 in
    let v = literal_found ts b.0.1 b.0.0 b.1 in
    (compare c o v.0, ap (λ w. Column c ∷ Compares o ∷ (literal_tokens v.0 ++ w)) (sym p.1) ∙ ap (λ w. Column c ∷ Compares o ∷ w) v.1, ap (Compare c o) v.2 ∙ p.0)
leaf_found c (t ∷ ts) us tree e = behind_is c (t ∷ ts) us tree e

mutual
  unfolding or_at

  pub or_found : (n : ℕ) (ts : List Token) (tree : Tree) (rest : List Token) → or_at n ts ≡ Some (tree, rest) → (o : Ors) × (or_tokens o ++ rest ≡ ts) × (or_tree o ≡ tree)
  or_found zero ts tree rest h = absurd (no_some (tree, rest) h)
  or_found (suc n) ts tree rest h =
      let b = bind_ok (and_at n ts) (λ a. or_tail_at n a.0 a.1) (tree, rest) h in
      let a = and_found n ts b.0.0 b.0.1 b.1 in
      let t = or_tail_found n b.0.0 b.0.1 tree rest b.2 in
      (ors a.0 t.0, append_assoc (and_tokens a.0) (or_tail_tokens t.0) rest ∙ ap (λ w. and_tokens a.0 ++ w) t.1 ∙ a.1, ap (λ l. or_tail_tree l t.0) a.2 ∙ t.2)

  or_tail_found : (n : ℕ) (left : Tree) (ts : List Token) (tree : Tree) (rest : List Token) → or_tail_at n left ts ≡ Some (tree, rest) → (t : OrTail) × (or_tail_tokens t ++ rest ≡ ts) × (or_tail_tree left t ≡ tree)
  or_tail_found zero left ts tree rest h = absurd (no_some (tree, rest) h)
  or_tail_found (suc n) left ts tree rest h =
      elim (choose_ok (after_key key.Or ts) (Some (left, ts)) (λ us. and_at n us >>= λ a. or_tail_at n (Either left a.0) a.1) (tree, rest) h) [
        | inl c ↦ let p = some_pair (left, ts) (tree, rest) c.1 in (no_or, sym p.1, p.0)
        | inr c ↦
            let b = bind_ok (and_at n c.0) (λ a. or_tail_at n (Either left a.0) a.1) (tree, rest) c.2 in
            let a = and_found n c.0 b.0.0 b.0.1 b.1 in
            let t = or_tail_found n (Either left b.0.0) b.0.1 tree rest b.2 in
            (more_or a.0 t.0, ap (λ w. Key key.Or ∷ w) (append_assoc (and_tokens a.0) (or_tail_tokens t.0) rest ∙ ap (λ w. and_tokens a.0 ++ w) t.1 ∙ a.1) ∙ key_is key.Or ts c.0 c.1, ap (λ l. or_tail_tree (Either left l) t.0) a.2 ∙ t.2)
      ]

  and_found : (n : ℕ) (ts : List Token) (tree : Tree) (rest : List Token) → and_at n ts ≡ Some (tree, rest) → (o : Ands) × (and_tokens o ++ rest ≡ ts) × (and_tree o ≡ tree)
  and_found zero ts tree rest h = absurd (no_some (tree, rest) h)
  and_found (suc n) ts tree rest h =
      let b = bind_ok (not_at n ts) (λ a. and_tail_at n a.0 a.1) (tree, rest) h in
      let a = not_found n ts b.0.0 b.0.1 b.1 in
      let t = and_tail_found n b.0.0 b.0.1 tree rest b.2 in
      (ands a.0 t.0, append_assoc (not_tokens a.0) (and_tail_tokens t.0) rest ∙ ap (λ w. not_tokens a.0 ++ w) t.1 ∙ a.1, ap (λ l. and_tail_tree l t.0) a.2 ∙ t.2)

  and_tail_found : (n : ℕ) (left : Tree) (ts : List Token) (tree : Tree) (rest : List Token) → and_tail_at n left ts ≡ Some (tree, rest) → (t : AndTail) × (and_tail_tokens t ++ rest ≡ ts) × (and_tail_tree left t ≡ tree)
  and_tail_found zero left ts tree rest h = absurd (no_some (tree, rest) h)
  and_tail_found (suc n) left ts tree rest h =
      elim (choose_ok (after_key key.And ts) (Some (left, ts)) (λ us. not_at n us >>= λ a. and_tail_at n (Both left a.0) a.1) (tree, rest) h) [
        | inl c ↦ let p = some_pair (left, ts) (tree, rest) c.1 in (no_and, sym p.1, p.0)
        | inr c ↦
            let b = bind_ok (not_at n c.0) (λ a. and_tail_at n (Both left a.0) a.1) (tree, rest) c.2 in
            let a = not_found n c.0 b.0.0 b.0.1 b.1 in
            let t = and_tail_found n (Both left b.0.0) b.0.1 tree rest b.2 in
            (more_and a.0 t.0, ap (λ w. Key key.And ∷ w) (append_assoc (not_tokens a.0) (and_tail_tokens t.0) rest ∙ ap (λ w. not_tokens a.0 ++ w) t.1 ∙ a.1) ∙ key_is key.And ts c.0 c.1, ap (λ l. and_tail_tree (Both left l) t.0) a.2 ∙ t.2)
      ]

  not_found : (n : ℕ) (ts : List Token) (tree : Tree) (rest : List Token) → not_at n ts ≡ Some (tree, rest) → (a : Nots) × (not_tokens a ++ rest ≡ ts) × (not_tree a ≡ tree)
  not_found zero ts tree rest h = absurd (no_some (tree, rest) h)
  not_found (suc n) ts tree rest h =
      elim (choose_ok (after_key key.Not ts) (choose (after_sign Open ts) (choose (column_at ts) None (λ c. leaf_at c.0 c.1)) (λ us. or_at n us >>= λ a. close_at a.0 a.1)) (λ us. not_at n us >>= λ a. Some (Negated a.0, a.1)) (tree, rest) h) [
        | inr c ↦
            let b = bind_ok (not_at n c.0) (λ a. Some (Negated a.0, a.1)) (tree, rest) c.2 in
            let p = some_pair (Negated b.0.0, b.0.1) (tree, rest) b.2 in
            let a = not_found n c.0 b.0.0 b.0.1 b.1 in
            (not_not a.0, ap (λ w. Key key.Not ∷ (not_tokens a.0 ++ w)) (sym p.1) ∙ ap (λ w. Key key.Not ∷ w) a.1 ∙ key_is key.Not ts c.0 c.1, ap Negated a.2 ∙ p.0)
        | inl d ↦ elim (choose_ok (after_sign Open ts) (choose (column_at ts) None (λ c. leaf_at c.0 c.1)) (λ us. or_at n us >>= λ a. close_at a.0 a.1) (tree, rest) d.1) [
          | inr c ↦
              let b = bind_ok (or_at n c.0) (λ a. close_at a.0 a.1) (tree, rest) c.2 in
              let o = or_found n c.0 b.0.0 b.0.1 b.1 in
              let k = close_is b.0.0 tree b.0.1 rest b.2 in
              (in_parentheses o.0, ap (λ w. Symbol Open ∷ w) (append_assoc (or_tokens o.0) (Symbol Close ∷ []) rest ∙ ap (λ w. or_tokens o.0 ++ w) k.0 ∙ o.1) ∙ sign_is Open ts c.0 c.1, o.2 ∙ k.1)
          | inl e ↦ elim (choose_ok (column_at ts) None (λ c. leaf_at c.0 c.1) (tree, rest) e.1) [
            | inl x ↦ absurd (no_some (tree, rest) x.1)
            | inr c ↦
                let a = leaf_found c.0.0 c.0.1 rest tree c.2 in
                (a.0, a.1 ∙ column_is ts c.0.0 c.0.1 c.1, a.2)
          ]
        ]
      ]

-- ---- what is in the grammar is read

-- how many rules are open at once
mutual
  pub or_depth : Ors → ℕ
  or_depth (ors a t) = suc (max (and_depth a) (or_tail_depth t))

  pub or_tail_depth : OrTail → ℕ
  or_tail_depth no_or = 1
  or_tail_depth (more_or a t) = suc (max (and_depth a) (or_tail_depth t))

  pub and_depth : Ands → ℕ
  and_depth (ands a t) = suc (max (not_depth a) (and_tail_depth t))

  pub and_tail_depth : AndTail → ℕ
  and_tail_depth no_and = 1
  and_tail_depth (more_and a t) = suc (max (not_depth a) (and_tail_depth t))

  pub not_depth : Nots → ℕ
  not_depth (not_not a) = suc (not_depth a)
  not_depth (in_parentheses o) = suc (or_depth o)
  not_depth (compare c o v) = 1
  not_depth (is_null c) = 1
  not_depth (is_not_null c) = 1

or_tail_stops : (t : OrTail) (rest : List Token) → after_key key.And rest ≡ None → after_key key.And (or_tail_tokens t ++ rest) ≡ None
or_tail_stops no_or rest e = e
or_tail_stops (more_or a t) rest e = refl

mutual
  unfolding or_at or_depth

  pub or_read : (o : Ors) (n : ℕ) (rest : List Token) → or_depth o ≤ n → after_key key.Or rest ≡ None → after_key key.And rest ≡ None → or_at n (or_tokens o ++ rest) ≡ Some (or_tree o, rest)
  or_read (ors a t) zero rest h e f = absurd (omega arith)
  or_read (ors a t) (suc n) rest h e f =
      rw (append_assoc (and_tokens a) (or_tail_tokens t) rest, and_read a n (or_tail_tokens t ++ rest) (omega arith) (or_tail_stops t rest f)) (or_tail_read t n (and_tree a) rest (omega arith) e f)

  or_tail_read : (t : OrTail) (n : ℕ) (left : Tree) (rest : List Token) → or_tail_depth t ≤ n → after_key key.Or rest ≡ None → after_key key.And rest ≡ None → or_tail_at n left (or_tail_tokens t ++ rest) ≡ Some (or_tail_tree left t, rest)
  or_tail_read no_or zero left rest h e f = absurd (omega arith)
  or_tail_read no_or (suc n) left rest h e f = rw e refl
  or_tail_read (more_or a t) zero left rest h e f = absurd (omega arith)
  or_tail_read (more_or a t) (suc n) left rest h e f =
      rw (append_assoc (and_tokens a) (or_tail_tokens t) rest, and_read a n (or_tail_tokens t ++ rest) (omega arith) (or_tail_stops t rest f)) (or_tail_read t n (Either left (and_tree a)) rest (omega arith) e f)

  and_read : (o : Ands) (n : ℕ) (rest : List Token) → and_depth o ≤ n → after_key key.And rest ≡ None → and_at n (and_tokens o ++ rest) ≡ Some (and_tree o, rest)
  and_read (ands a t) zero rest h f = absurd (omega arith)
  and_read (ands a t) (suc n) rest h f =
      rw (append_assoc (not_tokens a) (and_tail_tokens t) rest, not_read a n (and_tail_tokens t ++ rest) (omega arith)) (and_tail_read t n (not_tree a) rest (omega arith) f)

  and_tail_read : (t : AndTail) (n : ℕ) (left : Tree) (rest : List Token) → and_tail_depth t ≤ n → after_key key.And rest ≡ None → and_tail_at n left (and_tail_tokens t ++ rest) ≡ Some (and_tail_tree left t, rest)
  and_tail_read no_and zero left rest h f = absurd (omega arith)
  and_tail_read no_and (suc n) left rest h f = rw f refl
  and_tail_read (more_and a t) zero left rest h f = absurd (omega arith)
  and_tail_read (more_and a t) (suc n) left rest h f =
      rw (append_assoc (not_tokens a) (and_tail_tokens t) rest, not_read a n (and_tail_tokens t ++ rest) (omega arith)) (and_tail_read t n (Both left (not_tree a)) rest (omega arith) f)

  not_read : (a : Nots) (n : ℕ) (rest : List Token) → not_depth a ≤ n → not_at n (not_tokens a ++ rest) ≡ Some (not_tree a, rest)
  not_read (not_not a) zero rest h = absurd (omega arith)
  not_read (not_not a) (suc n) rest h = rw (not_read a n rest (omega arith)) refl
  not_read (in_parentheses o) zero rest h = absurd (omega arith)
  not_read (in_parentheses o) (suc n) rest h =
      rw (append_assoc (or_tokens o) (Symbol Close ∷ []) rest, or_read o n (Symbol Close ∷ rest) (omega arith) refl refl) refl
  not_read (compare c o v) zero rest h = absurd (omega arith)
  not_read (compare c o v) (suc n) rest h = rw (literal_read v rest) refl
  not_read (is_null c) zero rest h = absurd (omega arith)
  not_read (is_null c) (suc n) rest h = refl
  not_read (is_not_null c) zero rest h = absurd (omega arith)
  not_read (is_not_null c) (suc n) rest h = refl

-- ---- the depth stays small where few tokens nest

pub nesting-append : (xs ys : List Token) → nesting (xs ++ ys) ≡ nesting xs + nesting ys
nesting-append [] ys = omega arith
nesting-append (x ∷ xs) ys = elim (cases_Bool (nests x)) [
  | inl e ↦ rw e (omega (arith, nesting-append xs ys))
  | inr e ↦ rw e (omega (arith, nesting-append xs ys))
]

mutual
  unfolding or_depth

  pub or_bound : (o : Ors) → or_depth o ≤ 4 * nesting (or_tokens o) + 3
  or_bound (ors a t) = omega (arith, and_bound a, or_tail_bound t, nesting-append (and_tokens a) (or_tail_tokens t))

  or_tail_bound : (t : OrTail) → or_tail_depth t ≤ 4 * nesting (or_tail_tokens t) + 1
  or_tail_bound no_or = omega arith
  or_tail_bound (more_or a t) = omega (arith, and_bound a, or_tail_bound t, nesting-append (and_tokens a) (or_tail_tokens t))

  and_bound : (o : Ands) → and_depth o ≤ 4 * nesting (and_tokens o) + 2
  and_bound (ands a t) = omega (arith, not_bound a, and_tail_bound t, nesting-append (not_tokens a) (and_tail_tokens t))

  and_tail_bound : (t : AndTail) → and_tail_depth t ≤ 4 * nesting (and_tail_tokens t) + 1
  and_tail_bound no_and = omega arith
  and_tail_bound (more_and a t) = omega (arith, not_bound a, and_tail_bound t, nesting-append (not_tokens a) (and_tail_tokens t))

  not_bound : (a : Nots) → not_depth a ≤ 4 * nesting (not_tokens a) + 1
  not_bound (not_not a) = omega (arith, not_bound a)
  not_bound (in_parentheses o) = omega (arith, or_bound o, nesting-append (or_tokens o) (Symbol Close ∷ []))
  not_bound (compare c o v) = omega arith
  not_bound (is_null c) = omega arith
  not_bound (is_not_null c) = omega arith

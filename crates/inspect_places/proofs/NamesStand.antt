-- A name for which a query is refused stands among the tokens.
use Rattle.std.proofs.Common.{◌≡◌, ℕ, zero, suc, Bool, true, false, ◌&&◌, List, [], ◌∷◌, ◌++◌, map, Option, Some, None, refl, sym, ap, ◌∙◌, subst, inl, inr, ◌⊎◌}
use Rattle.std.specs.Prelude.{if◌then◌else◌, codes, option_map, slice_get, length}
use Rattle.std.specs.List.{find, flat_map}
use Rattle.std.specs.Str.{bytes_eq}
use Rattle.std.proofs.lemmas.Bool.{cases_Bool}
use Rattle.std.proofs.lemmas.Slice.Eq.{bytes_eq-Decides}
use Rattle.query_meaning.specs.Meaning.{or_else, first_some}
use Rattle.table_sets.specs.Sets.{has}
use Rattle.table_core.specs.declared.schema.Column.{Column}
use Rattle.table_core.specs.declared.schema.Kind as column_kind
use Rattle.sql_tokens.specs.declared.token.Token as tokens
use Rattle.sql_tokens.proofs.TokenLists.{one_list}
use Rattle.sql_text.specs.declared.condition.Literal.TheVariants as literal
use Rattle.sql_text.specs.declared.query.QItem.{QItem}
use Rattle.sql_text.specs.declared.query.QItem.TheVariants as item
use Rattle.sql_text.specs.declared.query.QOrder.{QOrder}
use Rattle.sql_text.specs.Grammar.{Token, Tree, Compare, NullTest, Both, Either, Negated, QueryTree, Reads}
use Rattle.sql_text.specs.Words.{meaning_in}
use Rattle.sql_bind.specs.Names.{column_of, kind_of}
use Rattle.sql_bind.specs.Places.{Place, places, item_places, cond_places, where_places, key_place, order_place}
use Rattle.sql_bind.specs.Refusals.{is_unknown, is_misused, misuses_some, plain_outside, not_grouped, unknown_table, first_wrong}
use Rattle.sql_bind.specs.declared.judging.Wrong.TheVariants as wrong
use Rattle.sql_bind.specs.declared.refusal.BindRefusal.{BindRefusal}
use Rattle.sql_bind.specs.declared.refusal.BindRefusal.TheVariants as bind
use Rattle.inspect_places.specs.Kinds.{kind_of as token_kind}
use Rattle.inspect_places.specs.declared.role.Before.{Before}
use Rattle.inspect_places.specs.declared.role.Before.TheVariants as before
use Rattle.inspect_places.specs.declared.role.Role.{Role}
use Rattle.inspect_places.specs.declared.role.Role.TheVariants as role
use Rattle.inspect_places.specs.declared.role.About.{About}
use Rattle.inspect_places.specs.declared.role.About.TheVariants as about
use Rattle.inspect_places.specs.declared.place.Place as placed
use Rattle.inspect_places.specs.Names.{Named, next, role_at, name_at, names_from, names_at, somes, item_names, cond_names, where_names, key_name, order_name, query_names, use_of, is_table, misused, fits, is_sought, is_called, first_index, is_about}
use Rattle.inspect_places.specs.Places.{span_or}
use Rattle.inspect_places.specs.Refusals.{IsAt, IsQueryPlace}
use Rattle.inspect_places.specs.Standing.{name_of, IsTokenOf, NamesStand}
use Rattle.inspect_places.proofs.NameSteps.{sought_is}
use Rattle.inspect_places.proofs.QueryNames.{names_of_query}

-- ---- whether the test is true of some thing of a list

abbrev any : {A : Type 0} → (A → Bool) → List A → Bool
any f [] = false
any f (x ∷ xs) = if f x then true else any f xs

any_here : {A : Type 0} (f : A → Bool) (x : A) (xs : List A) → f x ≡ true → any f (x ∷ xs) ≡ true
any_here f x xs e = rw e refl

any_later : {A : Type 0} (f : A → Bool) (x : A) (xs : List A) → any f xs ≡ true → any f (x ∷ xs) ≡ true
any_later f x xs e = elim (cases_Bool (f x)) [
  | inl y ↦ rw y refl
  | inr n ↦ rw n e
]

-- it is true of the first, or of some other
any_cases : {A : Type 0} (f : A → Bool) (x : A) (xs : List A) → any f (x ∷ xs) ≡ true → (f x ≡ true) ⊎ (any f xs ≡ true)
any_cases f x xs e = elim (cases_Bool (f x)) [
  | inl y ↦ inl y
  | inr n ↦ inr (sym (ap (λ b. if b then true else any f xs) n) ∙ e)
]

not_false : {A : Type 0} → false ≡ true → A
not_false e = absurd (apart e) where
  apart : false ≡ true → ⊥
  apart e = cc

only : {A : Type 0} (f : A → Bool) (x : A) → any f (x ∷ []) ≡ true → f x ≡ true
only f x e = elim (any_cases f x [] e) [
  | inl y ↦ y
  | inr n ↦ not_false n
]

any_left : {A : Type 0} (f : A → Bool) (xs ys : List A) → any f xs ≡ true → any f (xs ++ ys) ≡ true
any_left f [] ys e = not_false e
any_left f (x ∷ xs) ys e = elim (any_cases f x xs e) [
  | inl y ↦ any_here f x (xs ++ ys) y
  | inr n ↦ any_later f x (xs ++ ys) (any_left f xs ys n)
]

any_right : {A : Type 0} (f : A → Bool) (xs ys : List A) → any f ys ≡ true → any f (xs ++ ys) ≡ true
any_right f [] ys e = e
any_right f (x ∷ xs) ys e = any_later f x (xs ++ ys) (any_right f xs ys e)

any_split : {A : Type 0} (f : A → Bool) (xs ys : List A) → any f (xs ++ ys) ≡ true → (any f xs ≡ true) ⊎ (any f ys ≡ true)
any_split f [] ys e = inr e
any_split f (x ∷ xs) ys e = elim (any_cases f x (xs ++ ys) e) [
  | inl y ↦ inl (any_here f x xs y)
  | inr n ↦ elim (any_split f xs ys n) [
    | inl a ↦ inl (any_later f x xs a)
    | inr b ↦ inr b
  ]
]

-- ---- the token of a name

some_same : {A : Type 0} (x y : A) → Some x ≡ Some y → x ≡ y
some_same x y e = cc

both : (a b : Bool) → (a && b) ≡ true → (a ≡ true) × (b ≡ true)
both true b e = (refl, e)
both false b e = not_false e

module _ (k : Option column_kind.Kind) (a : About) (name : List ℕ) where
  abbrev Sought : Option Named → Bool
  Sought x = is_sought k a name x

  abbrev Is : Named → Bool
  Is x = is_sought k a name (Some x)

  record Found (ts : List Token) (n : ℕ) : Type 0 where
    token : Token
    among : slice_get ts n ≡ Some token
    called : is_called name token ≡ true

  some_or : (x : Option Named) (xs : List (Option Named)) → Sought x ≡ false → any Is (somes (x ∷ xs)) ≡ true → any Is (somes xs) ≡ true
  some_or None xs plain e = e
  some_or (Some x) xs plain e = elim (any_cases Is x (somes xs) e) [
    | inl y ↦ not_false (sym plain ∙ y)
    | inr n ↦ n
  ]

  token_of : (b : Before) (ts : List Token) → any Is (somes (names_from b ts)) ≡ true → Found ts (first_index Sought (names_from b ts))
  token_of b [] e = not_false e
  token_of b (t ∷ ts) e =
      let here = name_at b t ts in
      let rest = names_from (next b (token_kind t)) ts in
      elim (cases_Bool (Sought here)) [
        | inl y ↦ rw y (record { token = t; among = refl; called = (both (is_called name t) (fits k a (role_at b ts)) (sym (sought_is k a name b t ts) ∙ y)).0 })
        | inr n ↦
            let f = token_of (next b (token_kind t)) ts (some_or here rest n e) in
            rw n (record { token = f.token; among = f.among; called = f.called })
      ]

-- the place of a name that some name of the query is
token_in : (bytes : List ℕ) (all : List tokens.Token) (n : ℕ) (t : Token) → slice_get (map (meaning_in bytes) all) n ≡ Some t → (u : tokens.Token) × (slice_get all n ≡ Some u) × (meaning_in bytes u ≡ t)
token_in bytes [] n t e = absurd (apart e) where
  apart : None ≡ Some t → ⊥
  apart e = cc
token_in bytes (u ∷ us) zero t e = (u, refl, some_same (meaning_in bytes u) t e)
token_in bytes (u ∷ us) (suc n) t e = token_in bytes us n t e

place_of : (bytes : List ℕ) (columns : List Column) (a : About) (name : List ℕ) (all : List tokens.Token) (q : QueryTree) (p : placed.Place) → Reads (map (meaning_in bytes) all) q
    → any (Is (kind_of columns name) a name) (query_names q) ≡ true
    → IsAt bytes all (first_index (is_about columns a name) (names_at (map (meaning_in bytes) all))) p → IsTokenOf bytes all name p
place_of bytes columns a name all q p reads some at =
    let ts = map (meaning_in bytes) all in
    let k = kind_of columns name in
    let f = token_of k a name before.Items ts (ap (any (Is k a name)) (names_of_query ts q reads) ∙ some) in
    let n = first_index (Sought k a name) (names_at ts) in
    let u = token_in bytes all n f.token f.among in
    record { number = n; token = u.0; among = u.1; there = at.0 ∙ ap (span_or (length bytes)) u.1; called = ap (is_called name) u.2 ∙ f.called }

-- ---- the names that are wrong

-- what is wrong with a place of the query is wrong with its name
module _ (f : Place → Bool) (g : Named → Bool) (h : (c : List ℕ) (r : Role) → is_table r ≡ false → f (c, use_of r) ≡ true → g (c, r) ≡ true) where
  one : (c : List ℕ) (r : Role) → is_table r ≡ false → any f ((c, use_of r) ∷ []) ≡ true → any g ((c, r) ∷ []) ≡ true
  one c r plain e = any_here g (c, r) [] (h c r plain (only f (c, use_of r) e))

  in_item : (x : QItem) → any f (item_places x) ≡ true → any g (item_names x) ≡ true
  in_item item.CountAll e = not_false e
  in_item (item.Count c) e = one c role.Called refl e
  in_item (item.Sum c) e = one c role.Summed refl e
  in_item (item.Min c) e = one c role.Called refl e
  in_item (item.Max c) e = one c role.Called refl e
  in_item (item.Plain c) e = one c role.Item refl e

  in_items : (xs : List QItem) → any f (flat_map item_places xs) ≡ true → any g (flat_map item_names xs) ≡ true
  in_items [] e = not_false e
  in_items (x ∷ xs) e = elim (any_split f (item_places x) (flat_map item_places xs) e) [
    | inl a ↦ any_left g (item_names x) (flat_map item_names xs) (in_item x a)
    | inr b ↦ any_right g (item_names x) (flat_map item_names xs) (in_items xs b)
  ]

  in_cond : (x : Tree) → any f (cond_places x) ≡ true → any g (cond_names x) ≡ true
  in_cond (Compare c o (literal.Int n)) e = one c role.WithNumber refl e
  in_cond (Compare c o (literal.Dec n p)) e = one c role.WithNumber refl e
  in_cond (Compare c o (literal.Text t)) e = one c role.WithText refl e
  in_cond (NullTest c negated) e = one c role.Bare refl e
  in_cond (Both a b) e = elim (any_split f (cond_places a) (cond_places b) e) [
    | inl x ↦ any_left g (cond_names a) (cond_names b) (in_cond a x)
    | inr x ↦ any_right g (cond_names a) (cond_names b) (in_cond b x)
  ]
  in_cond (Either a b) e = elim (any_split f (cond_places a) (cond_places b) e) [
    | inl x ↦ any_left g (cond_names a) (cond_names b) (in_cond a x)
    | inr x ↦ any_right g (cond_names a) (cond_names b) (in_cond b x)
  ]
  in_cond (Negated a) e = in_cond a e

  in_where : (x : Option Tree) → any f (where_places x) ≡ true → any g (where_names x) ≡ true
  in_where None e = not_false e
  in_where (Some x) e = in_cond x e

  in_keys : (cs : List (List ℕ)) → any f (map key_place cs) ≡ true → any g (map key_name cs) ≡ true
  in_keys [] e = not_false e
  in_keys (c ∷ cs) e = elim (any_cases f (key_place c) (map key_place cs) e) [
    | inl y ↦ any_here g (key_name c) (map key_name cs) (h c role.Bare refl y)
    | inr n ↦ any_later g (key_name c) (map key_name cs) (in_keys cs n)
  ]

  in_orders : (os : List QOrder) → any f (map order_place os) ≡ true → any g (map order_name os) ≡ true
  in_orders [] e = not_false e
  in_orders (o ∷ os) e = elim (any_cases f (order_place o) (map order_place os) e) [
    | inl y ↦ any_here g (order_name o) (map order_name os) (h o.column role.Bare refl y)
    | inr n ↦ any_later g (order_name o) (map order_name os) (in_orders os n)
  ]

  in_query : (q : QueryTree) → any f (places q) ≡ true → any g (query_names q) ≡ true
  in_query q e =
      let items = flat_map item_names q.items in
      let test = where_names q.cond in
      let keys = map key_name q.keys in
      let orders = map order_name q.order in
      let others = test ++ (keys ++ orders) in
      let behind = λ (x : any g others ≡ true). any_right g items ((q.table, role.Table) ∷ others) (any_later g (q.table, role.Table) others x) in
      elim (any_split f (flat_map item_places q.items) (where_places q.cond ++ (map key_place q.keys ++ map order_place q.order)) e) [
        | inl x ↦ any_left g items ((q.table, role.Table) ∷ others) (in_items q.items x)
        | inr x ↦ elim (any_split f (where_places q.cond) (map key_place q.keys ++ map order_place q.order) x) [
          | inl y ↦ behind (any_left g test (keys ++ orders) (in_where q.cond y))
          | inr y ↦ elim (any_split f (map key_place q.keys) (map order_place q.order) y) [
            | inl z ↦ behind (any_right g test (keys ++ orders) (any_left g keys orders (in_keys q.keys z)))
            | inr z ↦ behind (any_right g test (keys ++ orders) (any_right g keys orders (in_orders q.order z)))
          ]
        ]
      ]

same_name : (n : List ℕ) → bytes_eq n n ≡ true
same_name n = (bytes_eq-Decides n n).1 refl

-- the first place with this wrong has this name
named_wrong : (f : Place → Bool) (name : List ℕ) (ps : List Place) → option_map (λ (p : Place). p.0) (find f ps) ≡ Some name → any (λ (p : Place). bytes_eq p.0 name && f p) ps ≡ true
named_wrong f name [] e = absurd (apart e) where
  apart : None ≡ Some name → ⊥
  apart e = cc
named_wrong f name (p ∷ ps) e = elim (cases_Bool (f p)) [
  | inl y ↦
      let is : p.0 ≡ name = some_same p.0 name (sym (ap (λ b. option_map (λ (p : Place). p.0) (if b then Some p else find f ps)) y) ∙ e) in
      any_here (λ (p : Place). bytes_eq p.0 name && f p) p ps (ap (λ n. bytes_eq p.0 n && f p) (sym is) ∙ ap (λ b. b && f p) (same_name p.0) ∙ y)
  | inr n ↦
      let later = sym (ap (λ b. option_map (λ (p : Place). p.0) (if b then Some p else find f ps)) n) ∙ e in
      any_later (λ (p : Place). bytes_eq p.0 name && f p) p ps (named_wrong f name ps later)
]

and_is : (a b : Bool) → a ≡ true → b ≡ true → (a && b) ≡ true
and_is a b x y = rw (x, y) refl

unknown : (columns : List Column) (name : List ℕ) (k : Option column_kind.Kind) (c : List ℕ) (r : Role) → is_table r ≡ false → (bytes_eq c name && is_unknown columns (c, use_of r)) ≡ true → Is k about.Column name (c, r) ≡ true
unknown columns name k c r plain e = and_is (bytes_eq c name) _ (both (bytes_eq c name) _ e).0 (rw plain refl)

kinds : (k : Option column_kind.Kind) (r : Role) → misuses_some k (use_of r) ≡ misused k r
kinds None r = refl
kinds (Some k) r = refl

wrong_kind : (columns : List Column) (name c : List ℕ) (r : Role) → is_table r ≡ false → (bytes_eq c name && is_misused columns (c, use_of r)) ≡ true → Is (kind_of columns name) about.Use name (c, r) ≡ true
wrong_kind columns name c r plain e =
    let is = both (bytes_eq c name) (is_misused columns (c, use_of r)) e in
    let same = (bytes_eq-Decides c name).0 is.0 in
    and_is (bytes_eq c name) (misused (kind_of columns name) r) is.0 (sym (kinds (kind_of columns name) r) ∙ ap (λ n. misuses_some (kind_of columns n) (use_of r)) (sym same) ∙ is.1)

outside : (k : Option column_kind.Kind) (columns : List Column) (keys : List ℕ) (name : List ℕ) (xs : List QItem) → first_some (plain_outside columns keys) xs ≡ Some name → any (Is k about.Key name) (flat_map item_names xs) ≡ true
outside k columns keys name [] e = absurd (apart e) where
  apart : None ≡ Some name → ⊥
  apart e = cc
outside k columns keys name (item.CountAll ∷ xs) e = outside k columns keys name xs e
outside k columns keys name (item.Count c ∷ xs) e = any_later (Is k about.Key name) (c, role.Called) (flat_map item_names xs) (outside k columns keys name xs e)
outside k columns keys name (item.Sum c ∷ xs) e = any_later (Is k about.Key name) (c, role.Summed) (flat_map item_names xs) (outside k columns keys name xs e)
outside k columns keys name (item.Min c ∷ xs) e = any_later (Is k about.Key name) (c, role.Called) (flat_map item_names xs) (outside k columns keys name xs e)
outside k columns keys name (item.Max c ∷ xs) e = any_later (Is k about.Key name) (c, role.Called) (flat_map item_names xs) (outside k columns keys name xs e)
outside k columns keys name (item.Plain c ∷ xs) e =
    let given = λ (b : Bool). or_else (if b then None else Some c) (first_some (plain_outside columns keys) xs) in
    elim (cases_Bool (has keys (column_of columns c))) [
      | inl y ↦ any_later (Is k about.Key name) (c, role.Item) (flat_map item_names xs) (outside k columns keys name xs (sym (ap given y) ∙ e))
      | inr n ↦
          let is : c ≡ name = some_same c name (sym (ap given n) ∙ e) in
          any_here (Is k about.Key name) (c, role.Item) (flat_map item_names xs) (and_is (bytes_eq c name) true (ap (bytes_eq c) (sym is) ∙ same_name c) refl)
    ]

not_in_groups : (k : Option column_kind.Kind) (columns : List Column) (keys : List ℕ) (name : List ℕ) (xs : List QItem) (limit : Option ℕ) → not_grouped columns keys xs limit ≡ Some name → any (Is k about.Key name) (flat_map item_names xs) ≡ true
not_in_groups k columns keys name xs None e = outside k columns keys name xs e
not_in_groups k columns keys name xs (Some n) e = absurd (apart e) where
  apart : None ≡ Some name → ⊥
  apart e = cc

the_table : (k : Option column_kind.Kind) (table name : List ℕ) (others : List Named) → unknown_table table ≡ Some name → any (Is k about.Table name) ((table, role.Table) ∷ others) ≡ true
the_table k table name others e = elim (cases_Bool (bytes_eq table (codes "t"))) [
  | inl y ↦ absurd (apart (sym (ap (λ b. if b then None else Some table) y) ∙ e))
  | inr n ↦
      let is : table ≡ name = some_same table name (sym (ap (λ b. if b then None else Some table) n) ∙ e) in
      any_here (Is k about.Table name) (table, role.Table) others (and_is (bytes_eq table name) true (ap (bytes_eq table) (sym is) ∙ same_name table) refl)
] where
  apart : None ≡ Some name → ⊥
  apart e = cc

-- ---- the first cause

abbrev Cause : Option (List ℕ) → Option (List ℕ) → Option (List ℕ) → Option (List ℕ) → BindRefusal → Type 0
Cause a b c d (bind.UnknownTable n) = a ≡ Some n
Cause a b c d (bind.UnknownColumn n) = b ≡ Some n
Cause a b c d (bind.WrongKind n) = c ≡ Some n
Cause a b c d (bind.NotGrouped n) = d ≡ Some n
Cause a b c d bind.Memory = ⊥

cause : (a b c d : Option (List ℕ)) (e : BindRefusal)
    → or_else (option_map bind.UnknownTable a) (or_else (option_map bind.UnknownColumn b) (or_else (option_map bind.WrongKind c) (option_map bind.NotGrouped d))) ≡ Some e → Cause a b c d e
cause (Some n) b c d e h = subst (Cause (Some n) b c d) (some_same (bind.UnknownTable n) e h) refl
cause None (Some n) c d e h = subst (Cause None (Some n) c d) (some_same (bind.UnknownColumn n) e h) refl
cause None None (Some n) d e h = subst (Cause None None (Some n) d) (some_same (bind.WrongKind n) e h) refl
cause None None None (Some n) e h = subst (Cause None None None (Some n)) (some_same (bind.NotGrouped n) e h) refl
cause None None None None e h = absurd (apart h) where
  apart : None ≡ Some e → ⊥
  apart h = cc

module _ (bytes : List ℕ) (columns : List Column) (all : List tokens.Token) (q : QueryTree) (p : placed.Place) (reads : Reads (map (meaning_in bytes) all) q) where
  by_cause : (why : BindRefusal)
      → Cause (unknown_table q.table) (first_wrong wrong.Name columns (places q)) (first_wrong wrong.Kind columns (places q)) (not_grouped columns (map (column_of columns) q.keys) q.items q.limit) why
      → IsQueryPlace bytes columns all why p → (name : List ℕ) → name_of why ≡ Some name → IsTokenOf bytes all name p
  by_cause (bind.UnknownTable n) e at name is =
      let k = kind_of columns n in
      let others = where_names q.cond ++ (map key_name q.keys ++ map order_name q.order) in
      let some = any_right (Is k about.Table n) (flat_map item_names q.items) ((q.table, role.Table) ∷ others) (the_table k q.table n others e) in
      subst (λ (m : List ℕ). IsTokenOf bytes all m p) (some_same n name is) (place_of bytes columns about.Table n all q p reads some at)
  by_cause (bind.UnknownColumn n) e at name is =
      let k = kind_of columns n in
      let f = λ (x : Place). bytes_eq x.0 n && is_unknown columns x in
      let some = in_query f (Is k about.Column n) (unknown columns n k) q (named_wrong (is_unknown columns) n (places q) e) in
      subst (λ (m : List ℕ). IsTokenOf bytes all m p) (some_same n name is) (place_of bytes columns about.Column n all q p reads some at)
  by_cause (bind.WrongKind n) e at name is =
      let k = kind_of columns n in
      let f = λ (x : Place). bytes_eq x.0 n && is_misused columns x in
      let some = in_query f (Is k about.Use n) (wrong_kind columns n) q (named_wrong (is_misused columns) n (places q) e) in
      subst (λ (m : List ℕ). IsTokenOf bytes all m p) (some_same n name is) (place_of bytes columns about.Use n all q p reads some at)
  by_cause (bind.NotGrouped n) e at name is =
      let k = kind_of columns n in
      let others = (q.table, role.Table) ∷ (where_names q.cond ++ (map key_name q.keys ++ map order_name q.order)) in
      let some = any_left (Is k about.Key n) (flat_map item_names q.items) others (not_in_groups k columns (map (column_of columns) q.keys) n q.items q.limit e) in
      subst (λ (m : List ℕ). IsTokenOf bytes all m p) (some_same n name is) (place_of bytes columns about.Key n all q p reads some at)
  by_cause bind.Memory e at name is = absurd e

pub names_stand : NamesStand
names_stand bytes columns why name all p is caused has at =
    let q = caused.0 in
    let words = caused.1.1 in
    let same = one_list 0 bytes words.0 all words.1 has in
    let reads = subst (λ (ts : List Token). Reads ts q) (sym words.2 ∙ ap (map (meaning_in bytes)) same) caused.1.2.reads in
    let e = cause (unknown_table q.table) (first_wrong wrong.Name columns (places q)) (first_wrong wrong.Kind columns (places q)) (not_grouped columns (map (column_of columns) q.keys) q.items q.limit) why caused.2 in
    by_cause bytes columns all q p reads why e at name is

-- What follows the start is a query, and where a query may end nothing is owed.
use Rattle.std.proofs.Common.{◌≡◌, ◌≤◌, ℕ, zero, suc, Bool, true, false, List, [], ◌∷◌, ◌++◌, length, map, Option, Some, None, inl, inr, refl, sym, ap, ◌∙◌, subst, arith}
use Rattle.std.specs.Prelude.{nat_lt}
use Rattle.std.proofs.lemmas.Bool.{cases_Bool, ltb-true, or_from, false≢true, eqb-true}
use Rattle.std.proofs.lemmas.List.{length-map}
use Rattle.sql_tokens.specs.declared.keyword.Keyword.TheVariants as key
use Rattle.sql_text.specs.declared.word.Sign.TheVariants.{Comma}
use Rattle.sql_text.specs.declared.query.QItem.{QItem}
use Rattle.sql_text.specs.declared.query.QItem.TheVariants as item
use Rattle.sql_text.specs.Grammar.{Token, Key, Symbol, Column, Ors, no_or, no_and, OrderText, Listed, groups, rows, item_tokens, column_tokens, list_tokens, where_tokens, order_by_tokens, order_of, all_of, query_tree}
use Rattle.inspect_places.specs.declared.state.State.{State}
use Rattle.inspect_places.specs.declared.state.State.TheVariants as state
use Rattle.inspect_places.specs.Places.{Keeps, AreQuery}
use Rattle.inspect_places.specs.Steps.{first_room, may_end}
use Rattle.inspect_places.proofs.Follow.{Fits, FitsSome, Small, limit_tokens, EndsGroups, EndsRows, Ends, plains, Follow}
use Rattle.inspect_places.proofs.Back.{fits_none}

-- ---- limits

not_above : (m n : ℕ) → n ≤ m → nat_lt m n ≡ false
not_above m n h = elim (cases_Bool (nat_lt m n)) [
  | inl a ↦ absurd (omega (arith, ltb-true m n a, h))
  | inr a ↦ a
]

few : {A B : Type 0} (f : A → B) (x : A) (xs : List A) → length xs ≤ 31 → nat_lt 32 (length (map f (x ∷ xs))) ≡ false
few f x xs h = not_above 32 (length (map f (x ∷ xs))) (omega (arith, length-map (x ∷ xs) f, h))

few_items : (x : QItem) (xs : List QItem) → length xs ≤ 31 → nat_lt 32 (length (x ∷ xs)) ≡ false
few_items x xs h = not_above 32 (length (x ∷ xs)) (omega (arith, h))

few_some : {A B : Type 0} (f : A → B) (k : Option (Listed A)) → FitsSome (Some 31) k → nat_lt 32 (length (all_of f k)) ≡ false
few_some f None h = not_above 32 0 (omega arith)
few_some f (Some l) h = few f l.0 l.1 h

keeps_groups : (l : Bool) (x : Listed QItem) (t : List ℕ) (w : Option Ors) (k : Option (Listed (List ℕ))) → Fits (first_room l) x.1 → FitsSome (first_room l) k → Keeps l (query_tree (groups x t w k))
keeps_groups false x t w k h g = tt
keeps_groups true x t w k h g =
    or_from _ _ (few_items x.0 x.1 h) (or_from _ _ (few_some (λ c. c) k g) (or_from _ _ (not_above 32 0 (omega arith)) refl))

keeps_rows : (l : Bool) (x : Listed (List ℕ)) (t : List ℕ) (w : Option Ors) (o : Option (Listed OrderText)) (n : ℕ) → Fits (first_room l) x.1 → FitsSome (first_room l) o → Small l n → Keeps l (query_tree (rows x t w o n))
keeps_rows false x t w o n h g k = tt
keeps_rows true x t w o n h g k =
    or_from _ _ (few item.Plain x.0 x.1 h) (or_from _ _ (not_above 32 0 (omega arith)) (or_from _ _ (few_some order_of o g) (not_above 4096 n k)))

-- ---- plain items are names

-- if all of these are plain, they are the names that they spell
abbrev Named : List QItem → Type 0
Named xs = (cs : List (List ℕ)) × (xs ≡ map item.Plain cs)

not_plain : (xs : List QItem) → plains xs false ≡ true → ⊥
not_plain [] e = false≢true e
not_plain (item.Plain c ∷ xs) e = not_plain xs e
not_plain (x ∷ xs) e = not_plain xs e

named : (xs : List QItem) → plains xs true ≡ true → Named xs
named [] e = ([], refl)
named (item.Plain c ∷ xs) e = let r = named xs e in (c ∷ r.0, ap (λ ys. item.Plain c ∷ ys) r.1)
named (x ∷ xs) e = absurd (not_plain xs e)

pub same_tokens : (x : List ℕ) (xs : List (List ℕ)) → list_tokens column_tokens x xs ≡ list_tokens item_tokens (item.Plain x) (map item.Plain xs)
same_tokens x [] = refl
same_tokens x (y ∷ ys) = ap (λ w. Column x ∷ Symbol Comma ∷ w) (same_tokens y ys)

fits_named : (r : Option ℕ) (cs : List (List ℕ)) → Fits r (map item.Plain cs) → Fits r cs
fits_named None cs h = tt
fits_named (Some n) cs h = omega (arith, h, length-map cs item.Plain)

-- ---- what follows the start is a query

groups_whole : (l : Bool) (x : Listed QItem) (t : List ℕ) (w : Option Ors) (us vs : List Token) → Fits (first_room l) x.1 → where_tokens w ++ us ≡ vs → EndsGroups l us → AreQuery l (Key key.Select ∷ (list_tokens item_tokens x.0 x.1 ++ (Key key.From ∷ Column t ∷ vs)))
groups_whole l x t w us vs f e g =
    (groups x t w g.0, ap (λ v. Key key.Select ∷ (list_tokens item_tokens x.0 x.1 ++ (Key key.From ∷ Column t ∷ v))) (ap (λ u. where_tokens w ++ u) g.1 ∙ e), keeps_groups l x t w g.0 f g.2)

rows_whole : (l : Bool) (x : Listed QItem) (t : List ℕ) (w : Option Ors) (us vs : List Token) → Fits (first_room l) x.1 → where_tokens w ++ us ≡ vs → EndsRows l (plains (x.0 ∷ x.1) true) us → AreQuery l (Key key.Select ∷ (list_tokens item_tokens x.0 x.1 ++ (Key key.From ∷ Column t ∷ vs)))
rows_whole l x t w us vs f e g = by_names (x.0) x.1 f (g.5) where
  by_names : (y : QItem) (ys : List QItem) → Fits (first_room l) ys → plains (y ∷ ys) true ≡ true → AreQuery l (Key key.Select ∷ (list_tokens item_tokens y ys ++ (Key key.From ∷ Column t ∷ vs)))
  by_names (item.Plain c) ys f p =
      let r = named ys p in
      let h : Fits (first_room l) r.0 = fits_named (first_room l) r.0 (subst (Fits (first_room l)) r.1 f) in
      let same : list_tokens column_tokens c r.0 ≡ list_tokens item_tokens (item.Plain c) ys = same_tokens c r.0 ∙ ap (λ zs. list_tokens item_tokens (item.Plain c) zs) (sym r.1) in
      (rows (c, r.0) t w g.0 g.1, ap (λ v. Key key.Select ∷ (v ++ (Key key.From ∷ Column t ∷ (where_tokens w ++ (order_by_tokens g.0 ++ limit_tokens g.1))))) same ∙ ap (λ v. Key key.Select ∷ (list_tokens item_tokens (item.Plain c) ys ++ (Key key.From ∷ Column t ∷ v))) (ap (λ u. where_tokens w ++ u) g.2 ∙ e), keeps_rows l (c, r.0) t w g.0 g.1 h g.3 g.4)
  by_names y ys f p = absurd (not_plain ys p)

by_ends : (l : Bool) (x : Listed QItem) (t : List ℕ) (w : Option Ors) (us vs : List Token) → Fits (first_room l) x.1 → where_tokens w ++ us ≡ vs → Ends l (plains (x.0 ∷ x.1) true) us → AreQuery l (Key key.Select ∷ (list_tokens item_tokens x.0 x.1 ++ (Key key.From ∷ Column t ∷ vs)))
by_ends l x t w us vs f e (inl g) = groups_whole l x t w us vs f e g
by_ends l x t w us vs f e (inr g) = rows_whole l x t w us vs f e g

pub whole : (l : Bool) (ts : List Token) → Follow l state.Start ts → AreQuery l ts
whole l ts f =
    let i = f.2 in let x = i.0 in let t = i.4 in let e = t.3 in
    let q = by_ends l x t.0 e.0 e.1 t.1 i.3 e.2 e.3 in
    let same : Key key.Select ∷ (list_tokens item_tokens x.0 x.1 ++ (Key key.From ∷ Column t.0 ∷ t.1)) ≡ ts = ap (λ u. Key key.Select ∷ (list_tokens item_tokens x.0 x.1 ++ (Key key.From ∷ u))) t.2 ∙ ap (λ u. Key key.Select ∷ u) i.2 ∙ f.1 in
    subst (AreQuery l) same q

-- ---- the end

pub end_follows : (l : Bool) (s : State) → may_end s ≡ true → Follow l s []
end_follows l (state.TableEnd p) e = (None, [], refl, inl (None, refl, tt))
end_follows l (state.TestEnd p d) e = by_depth d (eqb-true d 0 e) where
  by_depth : (d : ℕ) → d ≡ 0 → Follow l (state.TestEnd p d) []
  by_depth zero h = (no_and, no_or, [], refl, inl (None, refl, tt))
  by_depth (suc d) h = absurd (omega (arith, h))
end_follows l (state.GroupKeyEnd r) e = λ c. ((c, []), refl, fits_none (List ℕ) r)
end_follows l state.LimitEnd e = refl
end_follows l s e = absurd (false≢true e)

-- A query without a refusal has a sound condition.
use Rattle.std.proofs.Common.{◌≡◌, ◌∙◌, ◌<◌, ℕ, Bool, false, List, [], ◌∷◌, ◌++◌, length, map, refl, sym, ap, arith, inl, inr}
use Rattle.std.specs.Prelude.{Option, Some, None, is_none, option_map}
use Rattle.std.specs.List.{find, flat_map}
use Rattle.std.proofs.lemmas.Bool.{cases_Bool, false≢true}
use Rattle.table_core.specs.Fitting.{kind_at}
use Rattle.table_core.specs.declared.schema.Column.{Column}
use Rattle.query_meaning.specs.Meaning.{or_else}
use Rattle.sql_text.specs.Grammar.{Tree, Compare, NullTest, Both, Either, Negated, QueryTree}
use Rattle.sql_bind.specs.declared.judging.Wrong.{Wrong}
use Rattle.sql_bind.specs.declared.judging.Wrong.TheVariants as wrong
use Rattle.sql_bind.specs.declared.places.Use.TheVariants as use_
use Rattle.sql_bind.specs.declared.refusal.BindRefusal.{BindRefusal}
use Rattle.sql_bind.specs.declared.refusal.BindRefusal.TheVariants as refusal
use Rattle.sql_bind.specs.Names.{is_called, column_of, kind_of}
use Rattle.sql_bind.specs.Places.{Place, literal_use, cond_places, where_places, item_places, key_place, order_place, places}
use Rattle.sql_bind.specs.Refusals.{is_unknown, is_misused, is_wrong, misuses_some, first_wrong, not_grouped, unknown_table, refusal_of}
use Rattle.sql_bind.specs.Bounds.{IsSound, IsSoundWhere}

-- ---- names

pub known : (columns : List Column) (name : List ℕ) → is_none (kind_of columns name) ≡ false → column_of columns name < length columns
known [] name h = absurd (false≢true (sym h))
known (c ∷ columns) name h = elim (cases_Bool (is_called name c)) [
  | inl here ↦ rw here (omega arith)
  | inr there ↦ let rest : is_none (kind_of columns name) ≡ false = rw there at h in
      rw there (omega (arith, known columns name rest))
]

pub kind_is : (columns : List Column) (name : List ℕ) → is_none (kind_of columns name) ≡ false → kind_of columns name ≡ Some (kind_at columns (column_of columns name))
kind_is [] name h = absurd (false≢true (sym h))
kind_is (c ∷ columns) name h = elim (cases_Bool (is_called name c)) [
  | inl here ↦ rw here refl
  | inr there ↦ let rest : is_none (kind_of columns name) ≡ false = rw there at h in
      rw there (kind_is columns name rest)
]

-- ---- a search that finds nothing

none_left : {A : Type 0} (a b : Option A) → or_else a b ≡ None → a ≡ None
none_left None b e = refl
none_left (Some x) b e = absurd (cc)

none_right : {A : Type 0} (a b : Option A) → or_else a b ≡ None → b ≡ None
none_right None b e = e
none_right (Some x) b e = absurd (cc)

find_left : (test : Place → Bool) (xs ys : List Place) → find test (xs ++ ys) ≡ None → find test xs ≡ None
find_left test [] ys e = refl
find_left test (x ∷ xs) ys e = elim (cases_Bool (test x)) [
  | inl so ↦ let no : Some x ≡ None = rw so at e in absurd (cc)
  | inr not ↦ let rest : find test (xs ++ ys) ≡ None = rw not at e in rw not (find_left test xs ys rest)
]

find_right : (test : Place → Bool) (xs ys : List Place) → find test (xs ++ ys) ≡ None → find test ys ≡ None
find_right test [] ys e = e
find_right test (x ∷ xs) ys e = elim (cases_Bool (test x)) [
  | inl so ↦ let no : Some x ≡ None = rw so at e in absurd (cc)
  | inr not ↦ let rest : find test (xs ++ ys) ≡ None = rw not at e in find_right test xs ys rest
]

passes_not : (test : Place → Bool) (p : Place) → find test (p ∷ []) ≡ None → test p ≡ false
passes_not test p e = elim (cases_Bool (test p)) [
  | inl so ↦ let no : Some p ≡ None = rw so at e in absurd (cc)
  | inr not ↦ not
]

nothing_mapped : {A B : Type 0} (f : A → B) (o : Option A) → option_map f o ≡ None → o ≡ None
nothing_mapped f None e = refl
nothing_mapped f (Some x) e = absurd (cc)

-- ---- conditions

sound_cond : (columns : List Column) (t : Tree) → find (is_unknown columns) (cond_places t) ≡ None → find (is_misused columns) (cond_places t) ≡ None → IsSound columns t
sound_cond columns (Compare c o l) u m =
    let named = passes_not (is_unknown columns) (c, literal_use l) u in
    let used = passes_not (is_misused columns) (c, literal_use l) m in
    (known columns c named, sym (ap (λ k. misuses_some k (literal_use l)) (kind_is columns c named)) ∙ used)
sound_cond columns (NullTest c negated) u m = known columns c (passes_not (is_unknown columns) (c, use_.Other) u)
sound_cond columns (Both a b) u m = (
  sound_cond columns a (find_left (is_unknown columns) (cond_places a) (cond_places b) u) (find_left (is_misused columns) (cond_places a) (cond_places b) m),
  sound_cond columns b (find_right (is_unknown columns) (cond_places a) (cond_places b) u) (find_right (is_misused columns) (cond_places a) (cond_places b) m),
)
sound_cond columns (Either a b) u m = (
  sound_cond columns a (find_left (is_unknown columns) (cond_places a) (cond_places b) u) (find_left (is_misused columns) (cond_places a) (cond_places b) m),
  sound_cond columns b (find_right (is_unknown columns) (cond_places a) (cond_places b) u) (find_right (is_misused columns) (cond_places a) (cond_places b) m),
)
sound_cond columns (Negated a) u m = sound_cond columns a u m

sound_some : (columns : List Column) (cond : Option Tree) → find (is_unknown columns) (where_places cond) ≡ None → find (is_misused columns) (where_places cond) ≡ None → IsSoundWhere columns cond
sound_some columns None u m = tt
sound_some columns (Some t) u m = sound_cond columns t u m

-- of the places of a query, those of its condition
in_where : (test : Place → Bool) (q : QueryTree) → find test (places q) ≡ None → find test (where_places q.cond) ≡ None
in_where test q e =
    let rest = map key_place q.keys ++ map order_place q.order in
    find_left test (where_places q.cond) rest (find_right test (flat_map item_places q.items) (where_places q.cond ++ rest) e)

no_place : (w : Wrong) (columns : List Column) (ps : List Place) (f : List ℕ → BindRefusal) → option_map f (first_wrong w columns ps) ≡ None → find (is_wrong w columns) ps ≡ None
no_place w columns ps f e = nothing_mapped (λ (p : Place). p.0) (find (is_wrong w columns) ps) (nothing_mapped f (first_wrong w columns ps) e)

-- a query without a refusal has no place that names no column, and none that misuses its column
pub no_wrong : (columns : List Column) (q : QueryTree) → refusal_of columns q ≡ None → (find (is_unknown columns) (places q) ≡ None) × (find (is_misused columns) (places q) ≡ None)
no_wrong columns q e =
    let names = option_map refusal.UnknownColumn (first_wrong wrong.Name columns (places q)) in
    let kinds = option_map refusal.WrongKind (first_wrong wrong.Kind columns (places q)) in
    let plain = option_map refusal.NotGrouped (not_grouped columns (map (column_of columns) q.keys) q.items q.limit) in
    let behind : or_else names (or_else kinds plain) ≡ None = none_right (option_map refusal.UnknownTable (unknown_table q.table)) (or_else names (or_else kinds plain)) e in (
      no_place wrong.Name columns (places q) refusal.UnknownColumn (none_left names (or_else kinds plain) behind),
      no_place wrong.Kind columns (places q) refusal.WrongKind (none_left kinds plain (none_right names (or_else kinds plain) behind)),
    )

pub sound_where : (columns : List Column) (q : QueryTree) → refusal_of columns q ≡ None → IsSoundWhere columns q.cond
sound_where columns q e =
    let none = no_wrong columns q e in
    sound_some columns q.cond (in_where (is_unknown columns) q none.0) (in_where (is_misused columns) q none.1)

-- The kinds in which a plan's result rows are written are those of its query's items.
use Rattle.std.proofs.Common.{◌≡◌, ◌∙◌, ◌<◌, ℕ, List, [], ◌∷◌, length, map, true, refl, ap, subst, arith, inl, inr}
use Rattle.std.specs.Prelude.{Option, Some, None, slice_get, ◌==◌}
use Rattle.std.specs.List.{AllByRecursion, flat_map}
use Rattle.std.proofs.lemmas.Bool.{cases_Bool, false≢true, eqb-true}
use Rattle.std.proofs.lemmas.List.{get_or_default}
use Rattle.table_core.specs.Fitting.{kind_at}
use Rattle.table_sets.specs.Sets.{has}
use Rattle.table_core.specs.declared.schema.Column.{Column}
use Rattle.table_core.specs.declared.schema.Kind.TheVariants.{Int}
use Rattle.table_core.specs.Answer as answers
use Rattle.query_meaning.specs.Meaning.{or_else, first_some}
use Rattle.query_meaning.specs.Places.{IsInRow}
use Rattle.query_meaning.specs.GroupText as groups_text
use Rattle.query_meaning.specs.RowText as rows_text
use Rattle.sql_text.specs.declared.query.QItem.{QItem}
use Rattle.sql_text.specs.declared.query.QItem.TheVariants as item
use Rattle.sql_bind.specs.Names.{column_of}
use Rattle.sql_bind.specs.Plans.{item_of, place_of, plain_column}
use Rattle.sql_bind.specs.Refusals.{plain_outside}
use Rattle.run_output.specs.Output.{item_kind}

kind_in : (columns : List Column) (x : ℕ) → x < length columns → answers.kind_at columns (Some x) ≡ kind_at columns x
kind_in [] x low = absurd (omega arith)
kind_in (c ∷ columns) x low = ap (λ (d : Column). d.kind) (get_or_default (c ∷ columns) x c (record { name = []; kind = Int }) low)

-- ---- a query without a limit

none_left : {A : Type 0} (a b : Option A) → or_else a b ≡ None → a ≡ None
none_left None b e = refl
none_left (Some x) b e = absurd (cc)

pub none_right : {A : Type 0} (a b : Option A) → or_else a b ≡ None → b ≡ None
none_right None b e = e
none_right (Some x) b e = absurd (cc)

-- a key column stands at its place among the key columns, and is a column of the table
key_there : (keys : List ℕ) (x : ℕ) → has keys x ≡ true → slice_get keys (place_of keys x) ≡ Some x
key_there [] x h = absurd (false≢true h)
key_there (k ∷ keys) x h = elim (cases_Bool (k == x)) [
  | inl here ↦ rw here (ap Some (eqb-true k x here))
  | inr there ↦ let rest : has keys x ≡ true = rw there at h in rw there (key_there keys x rest)
]

key_low : (n : ℕ) (keys : List ℕ) (x : ℕ) → AllByRecursion (λ k. k < n) keys → has keys x ≡ true → x < n
key_low n [] x all h = absurd (false≢true h)
key_low n (k ∷ keys) x all h = elim (cases_Bool (k == x)) [
  | inl here ↦ subst (λ y. y < n) (eqb-true k x here) all.0
  | inr there ↦ let rest : has keys x ≡ true = rw there at h in key_low n keys x all.1 rest
]

module _ (columns : List Column) (keys : List ℕ) (low : AllByRecursion (λ x. x < length columns) keys) where
  plain_kind : (c : List ℕ) → plain_outside columns keys (item.Plain c) ≡ None → answers.kind_at columns (slice_get keys (place_of keys (column_of columns c))) ≡ kind_at columns (column_of columns c)
  plain_kind c e = elim (cases_Bool (has keys (column_of columns c))) [
    | inl so ↦ ap (answers.kind_at columns) (key_there keys (column_of columns c) so) ∙ kind_in columns (column_of columns c) (key_low (length columns) keys (column_of columns c) low so)
    | inr not ↦ let no : Some c ≡ None = rw not at e in absurd (cc)
  ]

  kind_of : (i : QItem) → IsInRow (item_of columns keys i) (length columns) → plain_outside columns keys i ≡ None
      → answers.kind_at columns (groups_text.column_of keys (item_of columns keys i)) ≡ item_kind columns i
  kind_of item.CountAll inside e = refl
  kind_of (item.Count c) inside e = refl
  kind_of (item.Sum c) inside e = kind_in columns (column_of columns c) inside
  kind_of (item.Min c) inside e = kind_in columns (column_of columns c) inside
  kind_of (item.Max c) inside e = kind_in columns (column_of columns c) inside
  kind_of (item.Plain c) inside e = plain_kind c e

  pub group_kinds : (is : List QItem) → AllByRecursion (λ i. IsInRow i (length columns)) (map (item_of columns keys) is) → first_some (plain_outside columns keys) is ≡ None
      → answers.kinds_of columns (groups_text.columns_of keys (map (item_of columns keys) is)) ≡ map (item_kind columns) is
  group_kinds [] inside e = refl
  group_kinds (i ∷ is) inside e =
      let first = plain_outside columns keys i in
      let rest = first_some (plain_outside columns keys) is in
      ap (λ k. k ∷ answers.kinds_of columns (groups_text.columns_of keys (map (item_of columns keys) is))) (kind_of i inside.0 (none_left first rest e))
      ∙ ap (λ ks. item_kind columns i ∷ ks) (group_kinds is inside.1 (none_right first rest e))

-- ---- a query with a limit, whose items are plain

pub row_kinds : (columns : List Column) (names : List (List ℕ)) → AllByRecursion (λ x. x < length columns) (flat_map (plain_column columns) (map item.Plain names))
    → answers.kinds_of columns (rows_text.columns_of (flat_map (plain_column columns) (map item.Plain names))) ≡ map (item_kind columns) (map item.Plain names)
row_kinds columns [] low = refl
row_kinds columns (c ∷ names) low =
    ap (λ k. k ∷ answers.kinds_of columns (rows_text.columns_of (flat_map (plain_column columns) (map item.Plain names)))) (kind_in columns (column_of columns c) low.0)
    ∙ ap (λ ks. kind_at columns (column_of columns c) ∷ ks) (row_kinds columns names low.1)

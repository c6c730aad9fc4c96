-- A plan of a query means what the query means.
use Rattle.std.proofs.Common.{◌≡◌, ◌∙◌, ℕ, List, [], map, filter, length, sym, ap}
use Rattle.std.specs.Prelude.{Some, None, option_map, IfOk, Result, Ok, Err}
use Rattle.std.specs.List.{AllByRecursion}
use Rattle.std.proofs.lemmas.List.Elements.{recursion_from_All}
use Rattle.table_core.specs.Fitting.{FitsRow}
use Rattle.table_core.specs.Dict.{Rises}
use Rattle.table_core.specs.Value.{Value, row_values}
use Rattle.table_core.specs.declared.cell.Cell.{Cell}
use Rattle.table_core.specs.declared.schema.Column.{Column}
use Rattle.query_meaning.specs.Meaning.{meaning, overflow}
use Rattle.query_meaning.specs.Rows.{RowQuery, Numbered, rows_meaning}
use Rattle.sql_bind.specs.Texts.{texts}
use Rattle.sql_bind.proofs.Groups.{same_meaning, same_overflow, readable_results}
use Rattle.sql_bind.proofs.Firsts.{same_first_rows, readable_rows as answer_rows}
use Rattle.sql_text.specs.Grammar.{QueryTree}
use Rattle.sql_bind.specs.declared.plan.Plan.{Plan}
use Rattle.sql_bind.specs.declared.refusal.BindRefusal.{BindRefusal}
use Rattle.sql_bind.specs.Plans.{IsPlanOf, columns_of, items_of, row_query, without_limit}
use Rattle.sql_bind.specs.Bounds.{HasTruth, IsBound}
use Rattle.sql_bind.specs.Meaning.{MeansQuery, numbered, matches, matches_query}
use Rattle.sql_bind.specs.Causes.{Judges}
use Rattle.sql_bind.specs.Refusals.{refusal_of}
use Rattle.sql_bind.proofs.Keys.{rises_at}
use Rattle.sql_bind.proofs.Rows.{has_truth}
use Rattle.sql_bind.proofs.Sound.{sound_where}
use Rattle.sql_bind.proofs.Matching.{matching-map, matching_are, numbered-map, numbered_are}

module _ (columns : List Column) (dicts : List (List (List ℕ))) (q : QueryTree) (p : Plan) (same : length dicts ≡ length columns) (rises : AllByRecursion Rises dicts) (is : IsPlanOf columns q p) (truth : HasTruth columns dicts q.cond p.cond) where
  items_are : q.limit ≡ None → p.items.items ≡ items_of columns q
  items_are none = is.items ∙ ap (λ l. without_limit l (items_of columns q)) none

  keys_are : q.limit ≡ None → p.keys.items ≡ columns_of columns q.keys
  keys_are none = is.keys ∙ ap (λ l. without_limit l (columns_of columns q.keys)) none

  rows_are : (limit : ℕ) (r : RowQuery) → q.limit ≡ Some limit → p.rows ≡ Some r → r ≡ row_query columns q limit
  rows_are limit r l e = (let s : Some r ≡ Some (row_query columns q limit) = sym e ∙ is.rows ∙ ap (option_map (row_query columns q)) l in cc)

  pub means : MeansQuery columns dicts q p
  means = record {
    meaning = λ rows none all.
        (let fits = recursion_from_All (FitsRow columns dicts) rows all in
        same_meaning dicts rises p.items.items p.keys.items (filter (matches p.cond) rows) (matching_are columns dicts same q.cond p.cond truth rows fits)
        ∙ ap (meaning texts p.items.items p.keys.items) (matching-map columns dicts same q.cond p.cond truth rows fits)
        ∙ ap (λ is. meaning texts is p.keys.items (filter (matches_query columns q.cond) (map (row_values dicts) rows))) (items_are none)
        ∙ ap (λ ks. meaning texts (items_of columns q) ks (filter (matches_query columns q.cond) (map (row_values dicts) rows))) (keys_are none));
    overflow = λ rows none all.
        (let fits = recursion_from_All (FitsRow columns dicts) rows all in
        same_overflow dicts rises p.items.items p.keys.items (filter (matches p.cond) rows) (matching_are columns dicts same q.cond p.cond truth rows fits)
        ∙ ap (overflow texts p.items.items p.keys.items) (matching-map columns dicts same q.cond p.cond truth rows fits)
        ∙ ap (λ is. overflow texts is p.keys.items (filter (matches_query columns q.cond) (map (row_values dicts) rows))) (items_are none)
        ∙ ap (λ ks. overflow texts (items_of columns q) ks (filter (matches_query columns q.cond) (map (row_values dicts) rows))) (keys_are none));
    first_rows = λ rows limit r l e all.
        (let fits = recursion_from_All (FitsRow columns dicts) rows all in
        same_first_rows dicts rises r (filter (λ (row : Numbered Cell). matches p.cond row.1) (numbered 0 rows)) (numbered_are columns dicts same q.cond p.cond truth 0 rows fits)
        ∙ ap (rows_meaning texts r) (numbered-map columns dicts same q.cond p.cond truth 0 rows fits)
        ∙ ap (λ x. rows_meaning texts x (filter (λ (row : Numbered Value). matches_query columns q.cond row.1) (numbered 0 (map (row_values dicts) rows)))) (rows_are limit r l e));
    readable = λ rows all. readable_results dicts rises p.items.items p.keys.items (filter (matches p.cond) rows) (matching_are columns dicts same q.cond p.cond truth rows (recursion_from_All (FitsRow columns dicts) rows all));
    readable_rows = λ rows r e all.
        answer_rows dicts rises r (filter (λ (row : Numbered Cell). matches p.cond row.1) (numbered 0 rows)) (numbered_are columns dicts same q.cond p.cond truth 0 rows (recursion_from_All (FitsRow columns dicts) rows all));
  }

-- what is bound has the truth of the query, and means what it means
pub bound_truth : (columns : List Column) (dicts : List (List (List ℕ))) (q : QueryTree) (r : Result Plan BindRefusal) → length dicts ≡ length columns → AllByRecursion Rises dicts
    → Judges r (refusal_of columns q) → IfOk r (λ p. IsBound columns dicts q.cond p.cond) → IfOk r (λ p. HasTruth columns dicts q.cond p.cond)
bound_truth columns dicts q (Ok p) same rises passes bound = has_truth columns dicts same (rises_at dicts rises []) q.cond p.cond (sound_where columns q passes) bound
bound_truth columns dicts q (Err e) same rises passes bound = tt

pub bound_means : (columns : List Column) (dicts : List (List (List ℕ))) (q : QueryTree) (r : Result Plan BindRefusal) → length dicts ≡ length columns → AllByRecursion Rises dicts
    → IfOk r (λ p. IsPlanOf columns q p) → IfOk r (λ p. HasTruth columns dicts q.cond p.cond) → IfOk r (λ p. MeansQuery columns dicts q p)
bound_means columns dicts q (Ok p) same rises is truth = means columns dicts q p same rises is truth
bound_means columns dicts q (Err e) same rises is truth = tt

-- What is printed from plans and answers is what the texts print over the table's values.
use Rattle.std.proofs.Common.{◌≡◌, ◌∙◌, ◌+◌, ◌<◌, ℕ, ℤ, List, [], ◌∷◌, length, map, refl, sym, ap, subst, inl, inr}
use Rattle.std.specs.Prelude.{All, Option, Some, None, option_map, MatchOption}
use Rattle.std.specs.List.{AllZip, flat_map}
use Rattle.std.proofs.lemmas.List.Elements.{recursion_from_All}
use Rattle.table_core.specs.Fitting.{FitsRow}
use Rattle.table_core.specs.Value.{Value, row_values}
use Rattle.table_core.specs.declared.cell.Cell.{Cell}
use Rattle.table_core.specs.declared.schema.Column.{Column}
use Rattle.table_core.specs.Answer.{answer, kinds_of, values_of}
use Rattle.query_meaning.specs.Meaning.{or_else}
use Rattle.query_meaning.specs.Places.{IsInRow}
use Rattle.query_meaning.specs.declared.item.Item.{Item}
use Rattle.query_meaning.specs.GroupText as groups_text
use Rattle.query_meaning.specs.RowText as rows_text
use Rattle.query_meaning.specs.Rows.{RowQuery}
use Rattle.sql_text.specs.declared.query.QItem.TheVariants as item
use Rattle.sql_text.specs.Grammar.{QueryText, QueryTree, groups, rows, query_tree}
use Rattle.sql_bind.specs.declared.plan.Plan.{Plan}
use Rattle.sql_bind.specs.declared.judging.Wrong.TheVariants as wrong
use Rattle.sql_bind.specs.declared.refusal.BindRefusal.TheVariants as refusal
use Rattle.sql_bind.specs.Meaning.{plan_rows, query_meaning, query_overflow, query_rows}
use Rattle.sql_bind.specs.Places.{places}
use Rattle.sql_bind.specs.Plans.{columns_of, items_of, plain_column, row_query, without_limit}
use Rattle.sql_bind.specs.Reads.{SomeRowsRead}
use Rattle.sql_bind.specs.Refusals.{first_wrong, not_grouped, refusal_of, unknown_table}
use Rattle.sql_bind.specs.Statements.{IsPlanFor}
use Rattle.run_output.specs.Refusals.{refusal_line}
use Rattle.query_gather.specs.declared.answer.Answer.{Answer}
use Rattle.query_gather.specs.declared.answer.Answer.TheVariants as answers
use Rattle.query_gather.specs.Answer.{IsAnswer}
use Rattle.run_stops.specs.declared.outcome.Outcome.{Outcome}
use Rattle.run_stops.specs.declared.outcome.Outcome.TheVariants.{Planned, Refused}
use Rattle.run_output.specs.Answers.{answer_printed, columns_where, overflow_of, printed, result_columns, rows_printed}
use Rattle.run_stops.specs.Outcomes.{ComeTo, plans_of}
use Rattle.run_output.specs.Outcomes.{loss_of, losses}
use Rattle.run_output.specs.Output.{PrintEach, groups_printed, item_kind, item_kinds, meaning_printed, query_printed}
use Rattle.run_output.specs.Printed.{answered, refused}
use Rattle.run_output.proofs.ItemKinds.{group_kinds, none_right, row_kinds}

no_limit : {A : Type 0} (f : ℕ → A) (limit : Option ℕ) → option_map f limit ≡ None → limit ≡ None
no_limit f None e = refl
no_limit f (Some n) e = absurd (cc)

some_limit : {A : Type 0} (f : ℕ → A) (limit : Option ℕ) (a : A) → option_map f limit ≡ Some a → (n : ℕ) × (limit ≡ Some n) × (a ≡ f n)
some_limit f None a e = absurd (cc)
some_limit f (Some n) a e = (n, refl, cc)

nothing_mapped : {A B : Type 0} (f : A → B) (o : Option A) → option_map f o ≡ None → o ≡ None
nothing_mapped f None e = refl
nothing_mapped f (Some x) e = absurd (cc)

-- in a query that isn't refused each plain item is a key column
all_grouped : (columns : List Column) (q : QueryTree) → refusal_of columns q ≡ None → not_grouped columns (columns_of columns q.keys) q.items q.limit ≡ None
all_grouped columns q e =
    let table = option_map refusal.UnknownTable (unknown_table q.table) in
    let names = option_map refusal.UnknownColumn (first_wrong wrong.Name columns (places q)) in
    let kinds = option_map refusal.WrongKind (first_wrong wrong.Kind columns (places q)) in
    let plain = option_map refusal.NotGrouped (not_grouped columns (columns_of columns q.keys) q.items q.limit) in
    nothing_mapped refusal.NotGrouped (not_grouped columns (columns_of columns q.keys) q.items q.limit)
    (none_right kinds plain (none_right names (or_else kinds plain) (none_right table (or_else names (or_else kinds plain)) e)))

-- the items of a query with a limit are plain
plain_items : (x : QueryText) (q : QueryTree) (n : ℕ) → query_tree x ≡ q → q.limit ≡ Some n → (names : List (List ℕ)) × (q.items ≡ map item.Plain names)
plain_items (groups l t w k) q n e limit = absurd (let no : None ≡ Some n = ap (λ (t : QueryTree). t.limit) e ∙ limit in cc)
plain_items (rows l t w o m) q n e limit = (l.0 ∷ l.1, sym (ap (λ (t : QueryTree). t.items) e))

module _ (columns : List Column) (dicts : List (List (List ℕ))) (text : List ℕ) (p : Plan) (is : IsPlanFor text columns dicts p) where
  abbrev pub q : QueryTree
  q = is.query

  module _ (none : p.rows ≡ None) where
    unlimited : q.limit ≡ None
    unlimited = no_limit (row_query columns q) q.limit (sym is.plan.rows ∙ none)

    items_are : p.items.items ≡ items_of columns q
    items_are = is.plan.items ∙ ap (λ l. without_limit l (items_of columns q)) unlimited

    keys_are : p.keys.items ≡ columns_of columns q.keys
    keys_are = is.plan.keys ∙ ap (λ l. without_limit l (columns_of columns q.keys)) unlimited

    columns_none : result_columns p ≡ groups_text.columns_of p.keys.items p.items.items
    columns_none = ap (columns_where p) none

    kinds_none : kinds_of columns (groups_text.columns_of p.keys.items p.items.items) ≡ item_kinds columns q
    kinds_none =
        let keys = columns_of columns q.keys in
        let low = subst (λ (ks : List ℕ). All (λ x. x < length columns) ks) keys_are is.reads.groups_in.keys_in in
        let inside = subst (λ (xs : List Item). All (λ i. IsInRow i (length columns)) xs) items_are is.reads.groups_in.items_in in
        let plain = subst (λ (l : Option ℕ). not_grouped columns keys q.items l ≡ None) unlimited (all_grouped columns q is.passes) in
        ap (λ ks. kinds_of columns (groups_text.columns_of ks p.items.items)) keys_are
        ∙ ap (λ xs. kinds_of columns (groups_text.columns_of keys xs)) items_are
        ∙ group_kinds columns keys (recursion_from_All (λ x. x < length columns) keys low) q.items (recursion_from_All (λ i. IsInRow i (length columns)) (items_of columns q) inside) plain

  module _ (r : RowQuery) (some : p.rows ≡ Some r) where
    limited : (n : ℕ) × (q.limit ≡ Some n) × (r ≡ row_query columns q n)
    limited = some_limit (row_query columns q) q.limit r (sym is.plan.rows ∙ some)

    columns_some : result_columns p ≡ rows_text.columns_of r.columns
    columns_some = ap (columns_where p) some

    kinds_some : kinds_of columns (rows_text.columns_of r.columns) ≡ item_kinds columns q
    kinds_some =
        let plain = plain_items is.text.2.reads.0 q limited.0 is.text.2.reads.2 limited.1 in
        let low : All (λ x. x < length columns) r.columns = (subst (λ (o : Option RowQuery). SomeRowsRead (λ x. x < length columns) o) some is.reads.rows_in).columns in
        let named : r.columns ≡ flat_map (plain_column columns) (map item.Plain plain.0) = ap (λ (s : RowQuery). s.columns) limited.2 ∙ ap (flat_map (plain_column columns)) plain.1 in
        ap (λ xs. kinds_of columns (rows_text.columns_of xs)) named
        ∙ row_kinds columns plain.0 (recursion_from_All (λ x. x < length columns) (flat_map (plain_column columns) (map item.Plain plain.0)) (subst (λ (xs : List ℕ). All (λ x. x < length columns) xs) named low))
        ∙ sym (ap (map (item_kind columns)) plain.1)

  module _ (table : List (List Cell)) (fits : All (FitsRow columns dicts) table) (n : ℕ) where
    abbrev pub values : List (List Value)
    values = map (row_values dicts) table

    rows_alike : (out : List (List Cell)) → IsAnswer p table (answers.Rows out) → rows_printed columns dicts n p out ≡ query_printed columns values n q None
    rows_alike out h =
        let cs = groups_text.columns_of p.keys.items p.items.items in
        let over : query_overflow columns q values ≡ None = sym (is.means.overflow table (unlimited h.0) fits) ∙ h.2 in
        ap (λ xs. answered (answer n (kinds_of columns xs) (map (values_of dicts xs) out))) (columns_none h.0)
        ∙ ap (λ rs. answered (answer n (kinds_of columns cs) (map (values_of dicts cs) rs))) h.1
        ∙ ap (λ vs. answered (answer n (kinds_of columns cs) vs)) (is.means.meaning table (unlimited h.0) fits)
        ∙ ap (λ ks. answered (answer n ks (query_meaning columns q values))) (kinds_none h.0)
        ∙ sym (ap (groups_printed columns values n q) over)
        ∙ sym (ap (meaning_printed columns values n q) (unlimited h.0))

    overflow_alike : (i : ℕ) (total : ℤ) → IsAnswer p table (answers.Overflow i total) → answer_printed columns dicts n p (answers.Overflow i total) ≡ query_printed columns values n q None
    overflow_alike i total h =
        let over : query_overflow columns q values ≡ Some (i, total) = sym (is.means.overflow table (unlimited h.0) fits) ∙ h.1 in
        ap (λ xs. refused (refusal_line n (overflow_of (kinds_of columns xs) i total))) (columns_none h.0)
        ∙ ap (λ ks. refused (refusal_line n (overflow_of ks i total))) (kinds_none h.0)
        ∙ sym (ap (groups_printed columns values n q) over)
        ∙ sym (ap (meaning_printed columns values n q) (unlimited h.0))

    picked_alike : (out : List (List Cell)) (r : RowQuery) → p.rows ≡ Some r → out ≡ plan_rows p r table → rows_printed columns dicts n p out ≡ query_printed columns values n q None
    picked_alike out r some h =
        let cs = rows_text.columns_of r.columns in
        let limit = limited r some in
        ap (λ xs. answered (answer n (kinds_of columns xs) (map (values_of dicts xs) out))) (columns_some r some)
        ∙ ap (λ rs. answered (answer n (kinds_of columns cs) (map (values_of dicts cs) rs))) h
        ∙ ap (λ vs. answered (answer n (kinds_of columns cs) vs)) (is.means.first_rows table limit.0 r limit.1 some fits)
        ∙ ap (λ ks. answered (answer n ks (query_rows columns q limit.0 values))) (kinds_some r some)
        ∙ sym (ap (meaning_printed columns values n q) limit.1)

    picked_by : (out : List (List Cell)) (o : Option RowQuery) → p.rows ≡ o → MatchOption o ⊥ (λ r. out ≡ plan_rows p r table) → rows_printed columns dicts n p out ≡ query_printed columns values n q None
    picked_by out None some h = absurd h
    picked_by out (Some r) some h = picked_alike out r some h

    -- what is printed from the plan and its answer is what the query prints
    pub answer_alike : (a : Answer) → IsAnswer p table a → answer_printed columns dicts n p a ≡ query_printed columns values n q (loss_of a)
    answer_alike (answers.Rows out) h = rows_alike out h
    answer_alike (answers.Picked out) h = picked_by out p.rows refl h
    answer_alike (answers.Overflow i total) h = overflow_alike i total h
    answer_alike (answers.Stopped why) h = refl

module _ (columns : List Column) (dicts : List (List (List ℕ))) (table : List (List Cell)) (fits : All (FitsRow columns dicts) table) where
  pub print_each : (n : ℕ) (texts : List (List ℕ)) (outcomes : List Outcome) (answers : List Answer) → ComeTo columns dicts texts outcomes → AllZip (λ p a. IsAnswer p table a) (plans_of outcomes) answers
      → PrintEach columns (map (row_values dicts) table) n texts (losses outcomes answers) (printed columns dicts n outcomes answers)
  print_each n [] [] answers come are = tt
  print_each n [] (o ∷ outcomes) answers come are = absurd come
  print_each n (text ∷ texts) [] answers come are = absurd come
  print_each n (text ∷ texts) (Planned p ∷ outcomes) [] come are = absurd are
  print_each n (text ∷ texts) (Planned p ∷ outcomes) (a ∷ answers) come are =
      (inr (come.0.query, come.0.text, come.0.passes, answer_alike columns dicts text p come.0 table fits n a are.0), print_each (n + 1) texts outcomes answers come.1 are.1)
  print_each n (text ∷ texts) (Refused why ∷ outcomes) answers come are = (inl (why, come.0, refl), print_each (n + 1) texts outcomes answers come.1 are)

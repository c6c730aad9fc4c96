-- Over rows that agree at the columns of a plan the answer is the same.
use Rattle.std.proofs.Common.{◌≡◌, ◌∙◌, ℕ, ◌+◌, List, [], ◌∷◌, length, map, refl, sym, ap}
use Rattle.std.specs.Prelude.{◌==◌, if◌then◌else◌, Option, Some, None, MatchOption, pos}
use Rattle.std.specs.List.{AllByRecursion}
use Rattle.std.proofs.lemmas.List.Elements.{recursion_from_All}
use Rattle.table_core.specs.declared.cell.Cell.{Cell}
use Rattle.table_core.specs.declared.cell.Cell.TheVariants.{Null, Int}
use Rattle.query_meaning.specs.declared.item.Item.{Item}
use Rattle.query_meaning.specs.declared.item.Item.TheVariants.{CountAll, Count, Sum, Min, Max, Key}
use Rattle.query_meaning.specs.Cells.{codes}
use Rattle.query_meaning.specs.Meaning.{values, total, fits, least, greatest, group, answer, keys_of, meaning, over, overflow, or_else, first_some}
use Rattle.query_meaning.specs.declared.order.Order.{Order}
use Rattle.query_meaning.specs.Rows.{Numbered, RowQuery, in_order, first_rows, rows_meaning}
use Rattle.sql_bind.specs.declared.plan.Plan.{Plan}
use Rattle.sql_bind.specs.Reads.{ItemReads, SomeRowsRead, RowsRead, Reads, ReadsItsColumns}
use Rattle.query_gather.specs.declared.answer.Answer.{Answer}
use Rattle.query_gather.specs.declared.answer.Answer.TheVariants.{Rows, Picked, Overflow, Stopped}
use Rattle.query_gather.specs.Partial.{unnumbered, matching}
use Rattle.query_gather.specs.Answer.{IsAnswerOver}
use Rattle.query_gather.specs.Agree.{Agree}
use Rattle.query_gather.specs.Laws.{AnswerAgrees}
use Rattle.query_gather.proofs.Agreeing.{IsNamed, AllAgree, unnumbered_agree, matching_agree, keys_same, group_agrees, length_same, values_same, order_agrees, take_agrees, picked_same}

module _ (columns : List ℕ) where
  -- ---- items over the rows of a key
  module _ (xs ys : List (List Cell)) (agree : AllAgree columns xs ys) where
    cell_same : (q : List Cell) (i : Item) → ItemReads (IsNamed columns) i → answer codes q xs i ≡ answer codes q ys i
    cell_same q CountAll r = ap (λ n. Int (pos n)) (length_same columns xs ys agree)
    cell_same q (Count x) r = ap (λ vs. Int (pos (length vs))) (values_same columns x r xs ys agree)
    cell_same q (Sum x) r = ap (λ vs. if length vs == 0 then Null else Int (total codes vs)) (values_same columns x r xs ys agree)
    cell_same q (Min x) r = ap (least codes) (values_same columns x r xs ys agree)
    cell_same q (Max x) r = ap (greatest codes) (values_same columns x r xs ys agree)
    cell_same q (Key j) r = refl

    pub row_same : (q : List Cell) (items : List Item) → AllByRecursion (ItemReads (IsNamed columns)) items → map (answer codes q xs) items ≡ map (answer codes q ys) items
    row_same q [] r = refl
    row_same q (i ∷ items) r = ap (λ c. c ∷ map (answer codes q xs) items) (cell_same q i r.0) ∙ ap (λ cs. answer codes q ys i ∷ cs) (row_same q items r.1)

    pub over_same : (n : ℕ) (items : List Item) → AllByRecursion (ItemReads (IsNamed columns)) items → over codes n items xs ≡ over codes n items ys
    over_same n [] r = refl
    over_same n (Sum x ∷ items) r =
        ap (λ vs. if fits (total codes vs) then over codes (n + 1) items xs else Some (n, total codes vs)) (values_same columns x r.0 xs ys agree)
        ∙ ap (λ o. if fits (total codes (values codes x ys)) then o else Some (n, total codes (values codes x ys))) (over_same (n + 1) items r.1)
    over_same n (CountAll ∷ items) r = over_same (n + 1) items r.1
    over_same n (Count x ∷ items) r = over_same (n + 1) items r.1
    over_same n (Min x ∷ items) r = over_same (n + 1) items r.1
    over_same n (Max x ∷ items) r = over_same (n + 1) items r.1
    over_same n (Key j ∷ items) r = over_same (n + 1) items r.1

  -- ---- all keys
  module _ (items : List Item) (keys : List ℕ) (some : AllByRecursion (ItemReads (IsNamed columns)) items) (named : AllByRecursion (IsNamed columns) keys) (xs ys : List (List Cell)) (agree : AllAgree columns xs ys) where
    results_same : (qs : List (List Cell)) → map (λ q. map (answer codes q (group codes keys q xs)) items) qs ≡ map (λ q. map (answer codes q (group codes keys q ys)) items) qs
    results_same [] = refl
    results_same (q ∷ qs) =
        ap (λ r. r ∷ map (λ p. map (answer codes p (group codes keys p xs)) items) qs) (row_same (group codes keys q xs) (group codes keys q ys) (group_agrees columns keys named q xs ys agree) q items some)
        ∙ ap (λ rs. map (answer codes q (group codes keys q ys)) items ∷ rs) (results_same qs)

    pub meaning_same : meaning codes items keys xs ≡ meaning codes items keys ys
    meaning_same = results_same (keys_of codes keys xs) ∙ ap (map (λ q. map (answer codes q (group codes keys q ys)) items)) (keys_same columns keys named xs ys agree)

    firsts_same : (qs : List (List Cell)) → first_some (λ q. over codes 1 items (group codes keys q xs)) qs ≡ first_some (λ q. over codes 1 items (group codes keys q ys)) qs
    firsts_same [] = refl
    firsts_same (q ∷ qs) =
        ap (λ o. or_else o (first_some (λ p. over codes 1 items (group codes keys p xs)) qs)) (over_same (group codes keys q xs) (group codes keys q ys) (group_agrees columns keys named q xs ys agree) 1 items some)
        ∙ ap (or_else (over codes 1 items (group codes keys q ys))) (firsts_same qs)

    pub overflow_same : overflow codes items keys xs ≡ overflow codes items keys ys
    overflow_same = firsts_same (keys_of codes keys xs) ∙ ap (first_some (λ q. over codes 1 items (group codes keys q ys))) (keys_same columns keys named xs ys agree)

  -- ---- first rows
  pub first_same : (q : RowQuery) → RowsRead (IsNamed columns) q → (xs ys : List (Numbered Cell)) → Agree columns xs ys → rows_meaning codes q xs ≡ rows_meaning codes q ys
  first_same q r xs ys h =
      picked_same columns q.columns (recursion_from_All (IsNamed columns) q.columns r.columns) (first_rows codes q xs) (first_rows codes q ys)
      (take_agrees columns q.limit (in_order codes q.order xs) (in_order codes q.order ys) (order_agrees columns q.order (recursion_from_All (λ (o : Order). IsNamed columns o.column) q.order r.order) xs ys h))

module _ (p : Plan) (reads : Reads (IsNamed p.columns) p) (xs ys : List (Numbered Cell)) (agree : Agree p.columns xs ys) where
  agree_all : AllAgree p.columns (unnumbered xs) (unnumbered ys)
  agree_all = unnumbered_agree p.columns xs ys agree

  some : AllByRecursion (ItemReads (IsNamed p.columns)) p.items.items
  some = recursion_from_All (ItemReads (IsNamed p.columns)) p.items.items reads.items

  named : AllByRecursion (IsNamed p.columns) p.keys.items
  named = recursion_from_All (IsNamed p.columns) p.keys.items reads.keys

  pub answer_over : (a : Answer) → IsAnswerOver p xs a → IsAnswerOver p ys a
  answer_over (Rows r) h = (
    h.0,
    h.1 ∙ meaning_same p.columns p.items.items p.keys.items some named (unnumbered xs) (unnumbered ys) agree_all,
    sym (overflow_same p.columns p.items.items p.keys.items some named (unnumbered xs) (unnumbered ys) agree_all) ∙ h.2,
  )
  answer_over (Picked r) h = by p.rows reads.rows h where
    by : (o : Option RowQuery) → SomeRowsRead (IsNamed p.columns) o → MatchOption o ⊥ (λ q. r ≡ rows_meaning codes q xs) → MatchOption o ⊥ (λ q. r ≡ rows_meaning codes q ys)
    by None s m = m
    by (Some q) s m = m ∙ first_same p.columns q s xs ys agree
  answer_over (Overflow item total) h = (h.0, sym (overflow_same p.columns p.items.items p.keys.items some named (unnumbered xs) (unnumbered ys) agree_all) ∙ h.1)
  answer_over (Stopped why) h = tt

-- A PLAN READS NO COLUMN BUT THOSE THAT IT NAMES
pub answer_agrees : (n : ℕ) (p : Plan) (xs ys : List (Numbered Cell)) (a : Answer) → ReadsItsColumns n p → Agree p.columns xs ys → AnswerAgrees p xs ys a
answer_agrees n p xs ys a reads agree =
    let both = matching_agree p.columns p.cond reads.reads.cond xs ys agree in
    record { matching_agree = both; same = answer_over p reads.reads (matching p xs) (matching p ys) both a }

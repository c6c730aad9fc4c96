-- What groups show: result rows, and the first sum that does not fit.
use Rattle.std.proofs.Common.{◌≡◌, ℕ, ◌≤◌, false, List, [], ◌∷◌, ◌++◌, length, map, refl, sym, ap, ◌∙◌}
use Rattle.std.specs.Prelude.{ℤ, Option, Some, None, is_some, Vec}
use Rattle.std.proofs.lemmas.Bool.{false≢true}
use Rattle.std.specs.Global.{Global}
use Rattle.table_core.specs.declared.cell.Cell.{Cell}
use Rattle.agg_groups.specs.declared.running.Running.{Running}
use Rattle.query_meaning.specs.declared.item.Item.{Item}
use Rattle.query_meaning.specs.Cells.{codes}
use Rattle.query_meaning.specs.Meaning as meaning
use Rattle.query_meaning.specs.Meaning.{or_else, first_some, answer, over, meaning, overflow}
use Rattle.agg_groups.specs.Running.{runnings, over_shown}
use Rattle.agg_groups.specs.Groups.{groups_of}
use Rattle.table_core.specs.Lists.{lists}
use Rattle.table_sets.specs.declared.limits.TheConstants.{MOST_ROWS}
use Rattle.agg_groups.specs.Table.{AreSound, AreBelow, AllFit, first_over, result_rows, values_at}
use Rattle.agg_groups.proofs.Values.{answers-shown, over-shown, all_fit}

pub is_none : {A : Type 0} (o : Option A) → is_some o ≡ false → o ≡ None
is_none None e = refl
is_none (Some a) e = absurd (false≢true (sym e))

none_first : (a b : Option (ℕ × ℤ)) → or_else a b ≡ None → a ≡ None
none_first None b e = refl
none_first (Some x) b e = cc

none_rest : (a b : Option (ℕ × ℤ)) → or_else a b ≡ None → b ≡ None
none_rest None b e = e
none_rest (Some x) b e = cc

-- where no sum is too great, all cells can be written
pub all_shown_fit : (n m : ℕ) (vs : List (List Running)) (es : List (List Cell × ℕ)) → n ≤ MOST_ROWS → AreSound n m vs → AreBelow (length vs) es
    → first_over (map (λ (e : List Cell × ℕ). (e.0, values_at vs e.1)) es) ≡ None → AllFit (map (λ (e : List Cell × ℕ). (e.0, values_at vs e.1)) es)
all_shown_fit n m vs [] l s b e = tt
all_shown_fit n m vs (x ∷ es) l s b e =
    let rest = first_over (map (λ (e : List Cell × ℕ). (e.0, values_at vs e.1)) es) in
    (all_fit n (values_at vs x.1) (none_first (over_shown 1 (values_at vs x.1)) rest e) l (s x.1 b.0).1, all_shown_fit n m vs es l s b.1 (none_rest (over_shown 1 (values_at vs x.1)) rest e))

pub rows_push : (vs : List (Vec Cell Global)) (v : Vec Cell Global) (ys : List (List Cell)) → lists (vs ++ v ∷ []) ++ ys ≡ lists vs ++ (v.items ∷ ys)
rows_push [] v ys = refl
rows_push (x ∷ vs) v ys = ap (λ zs. x.items ∷ zs) (rows_push vs v ys)

-- the result rows of the groups of a list of rows are its meaning
rows_shown : (items : List Item) (keys : List ℕ) (rows : List (List Cell)) (ks : List (List Cell))
    → result_rows items (map (λ q. (q, runnings items (meaning.group codes keys q rows))) ks) ≡ map (λ q. map (answer codes q (meaning.group codes keys q rows)) items) ks
rows_shown items keys rows [] = refl
rows_shown items keys rows (k ∷ ks) =
    ap (λ r. r ∷ result_rows items (map (λ q. (q, runnings items (meaning.group codes keys q rows))) ks)) (answers-shown k (meaning.group codes keys k rows) items)
    ∙ ap (λ rs. map (answer codes k (meaning.group codes keys k rows)) items ∷ rs) (rows_shown items keys rows ks)

pub rows-groups_of : (items : List Item) (keys : List ℕ) (rows : List (List Cell)) → result_rows items (groups_of items keys rows) ≡ meaning codes items keys rows
rows-groups_of items keys rows = rows_shown items keys rows (meaning.keys_of codes keys rows)

over_groups : (items : List Item) (keys : List ℕ) (rows : List (List Cell)) (ks : List (List Cell))
    → first_over (map (λ q. (q, runnings items (meaning.group codes keys q rows))) ks) ≡ first_some (λ q. over codes 1 items (meaning.group codes keys q rows)) ks
over_groups items keys rows [] = refl
over_groups items keys rows (k ∷ ks) =
    ap (λ o. or_else o (first_over (map (λ q. (q, runnings items (meaning.group codes keys q rows))) ks))) (over-shown 1 items (meaning.group codes keys k rows))
    ∙ ap (or_else (over codes 1 items (meaning.group codes keys k rows))) (over_groups items keys rows ks)

-- the first sum of the groups of a list of rows that does not fit is its overflow
pub over-groups_of : (items : List Item) (keys : List ℕ) (rows : List (List Cell)) → first_over (groups_of items keys rows) ≡ overflow codes items keys rows
over-groups_of items keys rows = over_groups items keys rows (meaning.keys_of codes keys rows)

-- The rows that what is gathered stands for: one row more, other rows behind, and the same rows in another order.
use Rattle.std.proofs.Common.{◌≡◌, ◌∙◌, ℕ, false, List, [], ◌∷◌, ◌++◌, refl, sym, ap, subst}
use Rattle.std.specs.Prelude.{◌==◌, ◌||◌, IsPermutation}
use Rattle.std.specs.List.{list_any}
use Rattle.std.proofs.lemmas.List.{map-append}
use Rattle.std.proofs.lemmas.List.Sorted.{IsPermutation-append, IsPermutation-append_left, IsPermutation-map, IsPermutation-trans, list_any-IsPermutation}
use Rattle.table_core.specs.declared.cell.Cell.{Cell}
use Rattle.agg_groups.specs.Groups as groups
use Rattle.top_rows.specs.Top as top
use Rattle.query_meaning.specs.Rows.{Numbered, AreApart, has_number}
use Rattle.query_gather.specs.declared.partial.Partial.{Partial}
use Rattle.query_gather.specs.declared.partial.Partial.TheVariants.{Groups, Top}
use Rattle.query_gather.specs.Partial.{unnumbered, Stands}

numbers_in : (rows : List (Numbered Cell)) (n : ℕ) → has_number rows n ≡ list_any (λ (r : Numbered Cell). n == r.0) rows
numbers_in [] n = refl
numbers_in (r ∷ rows) n = ap (λ b. (n == r.0) || b) (numbers_in rows n)

-- rows in another order have the same numbers
pub same_numbers : (xs ys : List (Numbered Cell)) → IsPermutation xs ys → (n : ℕ) → has_number xs n ≡ has_number ys n
same_numbers xs ys p n = numbers_in xs n ∙ list_any-IsPermutation (λ (r : Numbered Cell). n == r.0) xs ys p ∙ sym (numbers_in ys n)

-- one row more
groups_more : (g new : groups.Kept) (row : List Cell) → ((rows : List (List Cell)) → groups.Stands g rows → groups.Stands new (rows ++ row ∷ []))
    → (rows : List (List Cell)) → groups.StandsInSomeOrder g rows → groups.StandsInSomeOrder new (rows ++ row ∷ [])
groups_more g new row h rows s = record {
  order = s.order ++ row ∷ [];
  stands = h s.order s.stands;
  same = IsPermutation-append_left (row ∷ []) s.order rows s.same;
}

pub numbered_more : (g new : groups.Kept) (number : ℕ) (row : List Cell) → ((rows : List (List Cell)) → groups.Stands g rows → groups.Stands new (rows ++ row ∷ []))
    → (rows : List (Numbered Cell)) → Stands (Groups g) rows → Stands (Groups new) (rows ++ (number, row) ∷ [])
numbered_more g new number row h rows s = subst (λ rs. groups.StandsInSomeOrder new rs) (sym (map-append (λ (r : Numbered Cell). r.1) rows ((number, row) ∷ []))) (groups_more g new row h (unnumbered rows) s)

pub top_more : (t new : top.Kept) (r : Numbered Cell) → ((rows : List (Numbered Cell)) → top.Stands t rows → has_number rows r.0 ≡ false → top.Stands new (rows ++ r ∷ []))
    → (rows : List (Numbered Cell)) → Stands (Top t) rows → has_number rows r.0 ≡ false → Stands (Top new) (rows ++ r ∷ [])
top_more t new r h rows s e = record {
  order = s.order ++ r ∷ [];
  stands = h s.order s.stands (same_numbers s.order rows s.same r.0 ∙ e);
  same = IsPermutation-append_left (r ∷ []) s.order rows s.same;
}

-- other rows behind
groups_behind : (a b new : groups.Kept) → ((rows more : List (List Cell)) → groups.Stands a rows → groups.Stands b more → groups.Stands new (rows ++ more))
    → (rows more : List (List Cell)) → groups.StandsInSomeOrder a rows → groups.StandsInSomeOrder b more → groups.StandsInSomeOrder new (rows ++ more)
groups_behind a b new h rows more s t = record {
  order = s.order ++ t.order;
  stands = h s.order t.order s.stands t.stands;
  same = IsPermutation-append s.order rows t.order more s.same t.same;
}

pub groups_joined : (a b new : groups.Kept) → ((rows more : List (List Cell)) → groups.Stands a rows → groups.Stands b more → groups.Stands new (rows ++ more))
    → (rows more : List (Numbered Cell)) → Stands (Groups a) rows → Stands (Groups b) more → Stands (Groups new) (rows ++ more)
groups_joined a b new h rows more s t = subst (λ rs. groups.StandsInSomeOrder new rs) (sym (map-append (λ (r : Numbered Cell). r.1) rows more)) (groups_behind a b new h (unnumbered rows) (unnumbered more) s t)

pub top_joined : (a b new : top.Kept) → ((rows more : List (Numbered Cell)) → top.Stands a rows → top.Stands b more → AreApart rows more → top.Stands new (rows ++ more))
    → (rows more : List (Numbered Cell)) → Stands (Top a) rows → Stands (Top b) more → AreApart rows more → Stands (Top new) (rows ++ more)
top_joined a b new h rows more s t apart = record {
  order = s.order ++ t.order;
  stands = h s.order t.order s.stands t.stands (λ n e. same_numbers t.order more t.same n ∙ apart n (sym (same_numbers s.order rows s.same n) ∙ e));
  same = IsPermutation-append s.order rows t.order more s.same t.same;
}

-- THE ORDER IN WHICH ROWS COME IS FREE
pub stands_reordered : (p : Partial) (rows other : List (Numbered Cell)) → IsPermutation rows other → Stands p rows → Stands p other
stands_reordered (Groups g) rows other same s = record {
  order = s.order;
  stands = s.stands;
  same = IsPermutation-trans s.order (unnumbered rows) (unnumbered other) s.same (IsPermutation-map (λ (r : Numbered Cell). r.1) rows other same);
}
stands_reordered (Top t) rows other same s = record { order = s.order; stands = s.stands; same = IsPermutation-trans s.order rows other s.same same }

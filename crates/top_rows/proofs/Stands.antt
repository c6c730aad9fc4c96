-- The lists of rows that kept rows stand for: one row more, other rows behind, and the same rows in another order.
use Rattle.std.proofs.Common.{◌≡◌, ℕ, false, List, [], ◌∷◌, ◌++◌, take, refl, sym, ap, subst, ◌∙◌, append_assoc, append-nil}
use Rattle.std.specs.Prelude.{◌==◌}
use Rattle.std.proofs.lemmas.Bool.{or_from}
use Rattle.std.proofs.lemmas.Cmp.{nat_eq_equiv}
use Rattle.query_meaning.specs.Cells.{codes}
use Rattle.query_meaning.specs.Rows.{AreDistinct, AreApart, has_number, insert_row, in_order, first_rows}
use Rattle.top_rows.specs.Top.{Kept, Stands, StandsInSomeOrder}
use Rattle.top_rows.proofs.Before.{Row}
use Rattle.top_rows.proofs.Firsts.{has-middle, has-firsts, distinct-push, distinct-append, distinct-firsts, firsts_apart, sorted-push, sorted-permutation, take-insert, firsts-joined}

-- a number that the rows lack is lacked by the kept ones
lacks_kept : (t : Kept) (rows : List Row) (n : ℕ) → Stands t rows → has_number rows n ≡ false → has_number t.rows n ≡ false
lacks_kept t rows n s e = ap (λ rs. has_number rs n) s.first ∙ has-firsts t.plan.order t.plan.limit rows n e

-- one row more
pub stands_more : (t new : Kept) (r : Row) → new.plan ≡ t.plan → (has_number t.rows r.0 ≡ false → new.rows ≡ take t.plan.limit (insert_row codes t.plan.order r t.rows))
    → (rows : List Row) → Stands t rows → has_number rows r.0 ≡ false → Stands new (rows ++ r ∷ [])
stands_more t new r p h rows s e = record {
  distinct = distinct-push rows r s.distinct e;
  first = h (lacks_kept t rows r.0 s e)
      ∙ ap (λ rs. take t.plan.limit (insert_row codes t.plan.order r rs)) s.first
      ∙ take-insert t.plan.order t.plan.limit r (in_order codes t.plan.order rows)
      ∙ sym (ap (take t.plan.limit) (sorted-push t.plan.order rows r e))
      ∙ ap (λ q. first_rows codes q (rows ++ r ∷ [])) (sym p);
}

-- other rows behind
pub stands_joined : (a b new : Kept) → b.plan ≡ a.plan → new.plan ≡ a.plan → ((rows : List Row) → rows ≡ a.rows ++ b.rows → AreDistinct rows → Stands new rows)
    → (rows more : List Row) → Stands a rows → Stands b more → AreApart rows more → Stands new (rows ++ more)
stands_joined a b new p q h rows more s t apart =
    let A = first_rows codes a.plan rows in
    let B = first_rows codes a.plan more in
    let second : b.rows ≡ B = t.first ∙ ap (λ x. first_rows codes x more) p in
    let both : A ++ B ≡ a.rows ++ b.rows = sym (ap (λ xs. xs ++ b.rows) s.first ∙ ap (λ ys. A ++ ys) second) in
    let kept = h (A ++ B) both (distinct-append A B (distinct-firsts a.plan.order a.plan.limit rows s.distinct) (distinct-firsts a.plan.order a.plan.limit more t.distinct)
    (firsts_apart a.plan.order a.plan.limit rows more apart)) in
    record {
      distinct = distinct-append rows more s.distinct t.distinct apart;
      first = kept.first ∙ ap (λ x. first_rows codes x (A ++ B)) q ∙ firsts-joined a.plan.order a.plan.limit rows more s.distinct t.distinct apart ∙ ap (λ x. first_rows codes x (rows ++ more)) (sym q);
    }

-- the kept rows are the first ones of the rows in any order
pub first_in_some_order : (t : Kept) (rows : List Row) → StandsInSomeOrder t rows → t.rows ≡ first_rows codes t.plan rows
first_in_some_order t rows s = s.stands.first ∙ ap (take t.plan.limit) (sorted-permutation t.plan.order s.order rows s.same s.stands.distinct)

-- after some of the rows were added: all rows are those that it stands for and those that are left
pub record IsPartly (t : Kept) (left all : List Row) : Type 0 where
  pub done : List Row
  pub stands : Stands t done
  pub same : done ++ left ≡ all

pub distinct_behind : (xs : List Row) (r : Row) (ys : List Row) → AreDistinct (xs ++ r ∷ ys) → has_number xs r.0 ≡ false
distinct_behind [] r ys d = refl
distinct_behind (x ∷ xs) r ys d = or_from (r.0 == x.0) (has_number xs r.0) (nat_eq_equiv.symm r.0 x.0 ∙ has-middle xs r ys x.0 d.0) (distinct_behind xs r ys d.1)

pub partly_more : (t new : Kept) (r : Row) (left all : List Row) → ((rows : List Row) → Stands t rows → has_number rows r.0 ≡ false → Stands new (rows ++ r ∷ []))
    → AreDistinct all → IsPartly t (r ∷ left) all → IsPartly new left all
partly_more t new r left all h d p = record {
  done = p.done ++ r ∷ [];
  stands = h p.done p.stands (distinct_behind p.done r left (subst (λ rows. AreDistinct rows) (sym p.same) d));
  same = append_assoc p.done (r ∷ []) left ∙ p.same;
}

pub partly_all : (t : Kept) (all : List Row) → IsPartly t [] all → Stands t all
partly_all t all p = subst (Stands t) (sym (append-nil p.done) ∙ p.same) p.stands

-- Rows whose numbers are below one: the row of that number is new among them.
use Rattle.std.proofs.Common.{◌≡◌, ◌≤◌, ◌+◌, ℕ, false, List, [], ◌∷◌, ◌++◌, length, refl, ap, inl, inr, arith, ◌∙◌}
use Rattle.std.specs.Prelude.{◌==◌}
use Rattle.std.proofs.lemmas.Bool.{cases_Bool, ne_eqb, or_from}
use Rattle.table_core.specs.declared.cell.Cell.{Cell}
use Rattle.query_meaning.specs.Rows.{Numbered, has_number}
use Rattle.sql_bind.specs.declared.plan.Plan.{Plan}
use Rattle.sql_bind.specs.Meaning.{matches, numbered}
use Rattle.query_gather.specs.declared.partial.Partial.{Partial}
use Rattle.query_gather.specs.declared.partial.Partial.TheVariants.{Groups, Top}
use Rattle.query_gather.specs.Partial.{AreBelow, IsNew, matching}

lacks_next : (n : ℕ) (rows : List (Numbered Cell)) → AreBelow n rows → has_number rows n ≡ false
lacks_next n [] b = refl
lacks_next n (r ∷ rows) b = or_from (n == r.0) (has_number rows n) (ne_eqb n r.0 (λ e. omega (arith, e, b.0))) (lacks_next n rows b.1)

pub below_new : (a : Partial) (n : ℕ) (rows : List (Numbered Cell)) → AreBelow n rows → IsNew a rows n
below_new (Groups g) n rows b = tt
below_new (Top t) n rows b = lacks_next n rows b

pub below_later : (m n : ℕ) (rows : List (Numbered Cell)) → m ≤ n → AreBelow m rows → AreBelow n rows
below_later m n [] h b = tt
below_later m n (r ∷ rows) h b = (omega (arith, h, b.0), below_later m n rows h b.1)

pub below-append : (n : ℕ) (xs ys : List (Numbered Cell)) → AreBelow n xs → AreBelow n ys → AreBelow n (xs ++ ys)
below-append n [] ys a b = b
below-append n (x ∷ xs) ys a b = (a.0, below-append n xs ys a.1 b)

pub matching_below : (p : Plan) (n : ℕ) (rows : List (Numbered Cell)) → AreBelow n rows → AreBelow n (matching p rows)
matching_below p n [] b = tt
matching_below p n (r ∷ rows) b = elim (cases_Bool (matches p.cond r.1)) [
  | inl so ↦ rw so (b.0, matching_below p n rows b.1)
  | inr not ↦ rw not (matching_below p n rows b.1)
]

-- the rows of a table, numbered from a start
pub numbered_below : (start end : ℕ) (table : List (List Cell)) → start + length table ≤ end → AreBelow end (numbered start table)
numbered_below start end [] h = tt
numbered_below start end (row ∷ table) h = (omega (arith, h), numbered_below (start + 1) end table (omega (arith, h)))

-- a table in two parts, numbered on
pub numbered-append : (start : ℕ) (front behind : List (List Cell)) → numbered start (front ++ behind) ≡ numbered start front ++ numbered (start + length front) behind
numbered-append start [] behind = ap (λ n. numbered n behind) (omega (arith))
numbered-append start (row ∷ front) behind =
    ap (λ rows. (start, row) ∷ rows) (numbered-append (start + 1) front behind ∙ ap (λ n. numbered (start + 1) front ++ numbered n behind) (omega (arith)))

-- The rows of a table, taken one after another.
use Rattle.std.proofs.Common.{◌≡◌, ◌∙◌, ◌+◌, ◌<◌, ◌∷◌, [], ◌++◌, ℕ, List, length, take, get_or, ap, arith}
use Rattle.std.proofs.lemmas.List.{take_more, length-take}
use Rattle.std.proofs.lemmas.List.Elements.{filter-append}
use Rattle.table_core.specs.declared.cell.Cell.{Cell}
use Rattle.sql_bind.specs.declared.plan.Plan.{Plan}
use Rattle.sql_bind.specs.Meaning.{matches, numbered}
use Rattle.query_gather.specs.declared.partial.Partial.{Partial}
use Rattle.query_gather.specs.Partial.{IsNew, matching}
use Rattle.query_gather.proofs.Below.{below_new, matching_below, numbered-append, numbered_below}
use Rattle.query_meaning.specs.Rows.{Numbered}

matching-append : (p : Plan) (xs ys : List (Numbered Cell)) → matching p (xs ++ ys) ≡ matching p xs ++ matching p ys
matching-append p xs ys = filter-append (λ (r : Numbered Cell). matches p.cond r.1) xs ys

module _ (p : Plan) (rows : List (List Cell)) (i : ℕ) (low : i < length rows) where
  before : length (take i rows) ≡ i
  before = omega (arith, length-take i rows, low)

  at_place : 0 + length (take i rows) ≡ i
  at_place = omega (arith, before)

  -- with one row more, it matches or not
  pub matching_more : matching p (numbered 0 (take (i + 1) rows)) ≡ matching p (numbered 0 (take i rows)) ++ matching p ((i, get_or rows i []) ∷ [])
  matching_more =
      let behind : List (List Cell) = get_or rows i [] ∷ [] in
      let one = ap (λ (t : List (List Cell)). matching p (numbered 0 t)) (take_more rows i [] low) in
      let two = ap (matching p) (numbered-append 0 (take i rows) behind) in
      let three = matching-append p (numbered 0 (take i rows)) (numbered (0 + length (take i rows)) behind) in
      let four = ap (λ (n : ℕ). matching p (numbered 0 (take i rows)) ++ matching p (numbered n behind)) at_place in
      one ∙ (two ∙ (three ∙ four))

  -- and its number is new
  pub is_new : (a : Partial) → IsNew a (matching p (numbered 0 (take i rows))) i
  is_new a = below_new a i (matching p (numbered 0 (take i rows))) (matching_below p i (numbered 0 (take i rows)) (numbered_below 0 i (take i rows) (omega (arith, before))))

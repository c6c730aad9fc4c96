-- Writing ends, since the parts of a condition are smaller than the whole, and a decimal that was read has 9 places at most.
use Rattle.std.proofs.Common.{ℕ, ◌+◌, Option, Some, None, subst}
use Rattle.sql_text.specs.Grammar.{Tree, Compare, NullTest, Both, Either, Negated, LiteralText, number, minus_number, decimal, minus_decimal, text, Ors, ors, OrTail, no_or, more_or, Ands, ands, AndTail, no_and, more_and, Nots, not_not, in_parentheses, compare, is_null, is_not_null, literal_value, or_tree, or_tail_tree, and_tree, and_tail_tree, not_tree, cond_of, QueryText, groups, rows, query_tree, QueryTree}
use Rattle.sql_text.specs.Queries.{CanBeRead}
use Rattle.sql_writing.specs.Writing.{HasFewPlaces, HasFewPlacesIn, CanStand}

abbrev pub size : Tree → ℕ
size (Compare c o v) = 0
size (NullTest c negated) = 0
size (Both l r) = 1 + (size l + size r)
size (Either l r) = 1 + (size l + size r)
size (Negated t) = 1 + size t

few_literal : (l : LiteralText) → HasFewPlaces (literal_value l)
few_literal (number n h) = tt
few_literal (minus_number n h) = tt
few_literal (decimal n p h k) = k
few_literal (minus_decimal n p h k) = k
few_literal (text t) = tt

mutual
  few_or : (o : Ors) → HasFewPlacesIn (or_tree o)
  few_or (ors a t) = few_or_tail (and_tree a) t (few_and a)

  few_or_tail : (left : Tree) (t : OrTail) → HasFewPlacesIn left → HasFewPlacesIn (or_tail_tree left t)
  few_or_tail left no_or h = h
  few_or_tail left (more_or a t) h = few_or_tail (Either left (and_tree a)) t (h, few_and a)

  few_and : (a : Ands) → HasFewPlacesIn (and_tree a)
  few_and (ands a t) = few_and_tail (not_tree a) t (few_not a)

  few_and_tail : (left : Tree) (t : AndTail) → HasFewPlacesIn left → HasFewPlacesIn (and_tail_tree left t)
  few_and_tail left no_and h = h
  few_and_tail left (more_and a t) h = few_and_tail (Both left (not_tree a)) t (h, few_not a)

  few_not : (a : Nots) → HasFewPlacesIn (not_tree a)
  few_not (not_not a) = few_not a
  few_not (in_parentheses o) = few_or o
  few_not (compare c o v) = few_literal v
  few_not (is_null c) = tt
  few_not (is_not_null c) = tt

few_cond : (o : Option Ors) → CanStand (cond_of o)
few_cond None = tt
few_cond (Some o) = few_or o

few_query : (x : QueryText) → CanStand ((query_tree x).cond)
few_query (groups l t w k) = few_cond w
few_query (rows l t w o n) = few_cond w

pub can_stand : (q : QueryTree) → CanBeRead q → CanStand q.cond
can_stand q r = let x = r.1.2.reads in subst (λ (t : QueryTree). CanStand t.cond) x.2 (few_query x.0)

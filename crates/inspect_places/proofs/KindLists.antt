-- The list of kinds has each kind, and a filter keeps just what passes.
use Rattle.std.proofs.Common.{◌≡◌, ◌<◌, ℕ, Bool, true, List, [], ◌∷◌, zero, suc, inl, inr, refl, ap, ◌∙◌, arith, slice_index_or}
use Rattle.std.specs.List.{Contains, filter}
use Rattle.std.proofs.lemmas.Bool.{cases_Bool}
use Rattle.std.proofs.lemmas.List.Elements.{All-contains, filter_passes, Contains-append_left, Contains-append_right, Contains-append_cases}
use Rattle.sql_tokens.specs.declared.keyword.Keyword.TheVariants as key
use Rattle.inspect_places.specs.declared.kind.Kind.{Kind}
use Rattle.inspect_places.specs.declared.kind.Kind.TheVariants as kind
use Rattle.inspect_places.specs.Steps.{all_kinds}

has_kind : (k : Kind) → Contains all_kinds k
has_kind (kind.Key key.Select) = (1, omega arith, refl)
has_kind (kind.Key key.From) = (2, omega arith, refl)
has_kind (kind.Key key.Where) = (3, omega arith, refl)
has_kind (kind.Key key.Group) = (4, omega arith, refl)
has_kind (kind.Key key.Order) = (5, omega arith, refl)
has_kind (kind.Key key.By) = (6, omega arith, refl)
has_kind (kind.Key key.Limit) = (7, omega arith, refl)
has_kind (kind.Key key.Count) = (8, omega arith, refl)
has_kind (kind.Key key.Sum) = (9, omega arith, refl)
has_kind (kind.Key key.Min) = (10, omega arith, refl)
has_kind (kind.Key key.Max) = (11, omega arith, refl)
has_kind (kind.Key key.And) = (12, omega arith, refl)
has_kind (kind.Key key.Or) = (13, omega arith, refl)
has_kind (kind.Key key.Is) = (14, omega arith, refl)
has_kind (kind.Key key.Not) = (15, omega arith, refl)
has_kind (kind.Key key.Null) = (16, omega arith, refl)
has_kind (kind.Key key.Asc) = (17, omega arith, refl)
has_kind (kind.Key key.Desc) = (18, omega arith, refl)
has_kind kind.Name = (0, omega arith, refl)
has_kind kind.Comparison = (19, omega arith, refl)
has_kind kind.Number = (20, omega arith, refl)
has_kind kind.Decimal = (21, omega arith, refl)
has_kind kind.Text = (22, omega arith, refl)
has_kind kind.Minus = (23, omega arith, refl)
has_kind kind.Star = (24, omega arith, refl)
has_kind kind.Open = (25, omega arith, refl)
has_kind kind.Close = (26, omega arith, refl)
has_kind kind.Comma = (27, omega arith, refl)
has_kind kind.End = (28, omega arith, refl)

pub passes : (p : Kind → Bool) (xs : List Kind) (k : Kind) → Contains (filter p xs) k → p k ≡ true
passes p xs k h = All-contains (λ x. p x ≡ true) (filter p xs) k (filter_passes p xs) h

only_one : (x k : Kind) → Contains (x ∷ []) k → x ≡ k
only_one x k h = by h.0 h.1 h.2 where
  by : (i : ℕ) → i < 1 → slice_index_or (x ∷ []) i k ≡ k → x ≡ k
  by zero l e = e
  by (suc i) l e = absurd (omega (arith, l))

kept : (p : Kind → Bool) (xs : List Kind) (k : Kind) → Contains xs k → p k ≡ true → Contains (filter p xs) k
kept p [] k h e = absurd (omega (arith, h.1))
kept p (x ∷ xs) k h e = elim (Contains-append_cases (x ∷ []) xs k h) [
  | inl a ↦ let same = only_one x k a in let yes : p x ≡ true = ap p same ∙ e in rw yes (Contains-append_left (x ∷ []) (filter p xs) k a)
  | inr a ↦ elim (cases_Bool (p x)) [
    | inl t ↦ rw t (Contains-append_right (x ∷ []) (filter p xs) k (kept p xs k a e))
    | inr t ↦ rw t (kept p xs k a e)
  ]
]

pub listed : (p : Kind → Bool) (k : Kind) → p k ≡ true → Contains (filter p all_kinds) k
listed p k e = kept p all_kinds k (has_kind k) e

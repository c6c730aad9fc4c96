-- What stands for a query's literals and conditions over cells.
use Rattle.std.specs.Prelude.{◌≡◌, ◌<◌, ℕ, zero, suc, ◌^◌, false, Option, Some, None, List, length, ℤ, pos, ◌+ℤ◌, ◌*ℤ◌}
use Rattle.table_core.specs.Fitting.{FitsRow, dict_at, kind_at}
use Rattle.table_core.specs.Value.{FitsColumn, places_of, value_in, row_values}
use Rattle.table_core.specs.declared.cell.Cell.{Cell}
use Rattle.table_core.specs.declared.schema.Column.{Column}
use Rattle.table_core.specs.declared.schema.Kind.{Kind}
use Rattle.filter_zones.specs.Truth as codes
use Rattle.filter_zones.specs.declared.cond.Bound.TheVariants as bound
use Rattle.table_core.specs.Dict.{IsCode, IsGap}
use Rattle.filter_zones.specs.declared.cond.Bound.{Bound}
use Rattle.filter_zones.specs.declared.cond.Cond.{Cond}
use Rattle.filter_zones.specs.declared.cond.Cond.TheVariants as cond
use Rattle.filter_zones.specs.Truth.{order_of, truth_of, Fits, is_null}
use Rattle.sql_text.specs.declared.condition.Literal.{Literal}
use Rattle.sql_text.specs.declared.condition.Literal.TheVariants as literal
use Rattle.sql_text.specs.Grammar.{Tree, Compare, NullTest, Both, Either, Negated}
use Rattle.sql_bind.specs.Names.{column_of}
use Rattle.sql_bind.specs.Places.{literal_use}
use Rattle.sql_bind.specs.Refusals.{misuses}
use Rattle.sql_bind.specs.Truth.{value_order, truth_over}

-- one where something is left over
abbrev pub half_of : ℕ → ℤ
half_of zero = pos 0
half_of (suc rest) = pos 1

-- twice the greatest whole number that is at most N divided by D, and one more where that quotient isn't whole
pub record IsHalfSteps (N : ℤ) (D : ℕ) (h : ℤ) : Type 0 where
  pub whole : ℤ
  pub rest : ℕ
  pub less : rest < D
  pub parts : ((whole *ℤ pos D) +ℤ pos rest) ≡ N
  pub is : h ≡ ((whole +ℤ whole) +ℤ half_of rest)

-- the number that stands for m with p places in a column with s places
abbrev pub IsNumberBound : ℕ → ℤ → ℕ → Bound → Type 0
IsNumberBound s m p (bound.Number h) = IsHalfSteps (m *ℤ pos (10 ^ s)) (10 ^ p) h
IsNumberBound s m p (bound.Code k) = ⊥
IsNumberBound s m p (bound.Gap place) = ⊥

-- the code of a text, or the gap where it isn't
abbrev pub IsTextBound : List (List ℕ) → List ℕ → Bound → Type 0
IsTextBound dict text (bound.Number h) = ⊥
IsTextBound dict text (bound.Code k) = IsCode dict text k
IsTextBound dict text (bound.Gap place) = IsGap dict text place

-- what stands for a literal in a column of this kind, with this dictionary
abbrev pub IsBoundOf : Kind → List (List ℕ) → Literal → Bound → Type 0
IsBoundOf k dict (literal.Int m) v = IsNumberBound (places_of k) m 0 v
IsBoundOf k dict (literal.Dec m p) v = IsNumberBound (places_of k) m p v
IsBoundOf k dict (literal.Text t) v = IsTextBound dict t v

-- THE CONDITION over cells: of the same shape, with columns for names and bounds for literals
abbrev pub IsCondOf : List Column → List (List (List ℕ)) → Tree → Cond → Type 0
IsCondOf columns dicts (Compare c o l) (cond.Compare x p v) = (x ≡ column_of columns c) × (p ≡ o)
    × IsBoundOf (kind_at columns x) (dict_at dicts x) l v
IsCondOf columns dicts (NullTest c negated) (cond.IsNull x n) = (x ≡ column_of columns c) × (n ≡ negated)
IsCondOf columns dicts (Both a b) (cond.And' p x q y) = IsCondOf columns dicts a x × IsCondOf columns dicts b y
IsCondOf columns dicts (Either a b) (cond.Or' p x q y) = IsCondOf columns dicts a x × IsCondOf columns dicts b y
IsCondOf columns dicts (Negated a) (cond.Not' p x) = IsCondOf columns dicts a x
IsCondOf columns dicts _ _ = ⊥

-- where the query has a condition the plan has this one, and else none
abbrev pub IsBound : List Column → List (List (List ℕ)) → Option Tree → Option Cond → Type 0
IsBound columns dicts None None = Unit {0}
IsBound columns dicts (Some t) (Some c) = IsCondOf columns dicts t c
IsBound columns dicts _ _ = ⊥

-- a bound stands for a literal in a column: each cell stands to it as the cell's value stands to the literal
abbrev pub StandsFor : Kind → List (List ℕ) → Literal → Bound → Type 0
StandsFor k dict l v = (c : Cell) → FitsColumn k dict c → is_null c ≡ false
    → order_of c v ≡ value_order k l (value_in dict c)

-- a bound is of the kind of the column's cells
abbrev pub IsOfKind : Kind → List (List ℕ) → Bound → Type 0
IsOfKind k dict v = (c : Cell) → FitsColumn k dict c → Fits c v

-- the columns of a condition are there, and each of its literals is of its column's kind
abbrev pub IsSound : List Column → Tree → Type 0
IsSound columns (Compare c o l) = (column_of columns c < length columns)
    × (misuses (kind_at columns (column_of columns c)) (literal_use l) ≡ false)
IsSound columns (NullTest c negated) = column_of columns c < length columns
IsSound columns (Both a b) = IsSound columns a × IsSound columns b
IsSound columns (Either a b) = IsSound columns a × IsSound columns b
IsSound columns (Negated a) = IsSound columns a

-- a condition over cells has on each row the truth of this one over the row's values
abbrev pub HasTruthOf : List Column → List (List (List ℕ)) → Tree → Cond → Type 0
HasTruthOf columns dicts t c = (row : List Cell) → FitsRow columns dicts row
    → truth_of c row ≡ truth_over columns t (row_values dicts row)

-- a condition over cells fits each row
abbrev pub FitsRows : List Column → List (List (List ℕ)) → Cond → Type 0
FitsRows columns dicts c = (row : List Cell) → FitsRow columns dicts row → codes.FitsRow c row

-- where there is a condition, it is sound
abbrev pub IsSoundWhere : List Column → Option Tree → Type 0
IsSoundWhere columns None = Unit {0}
IsSoundWhere columns (Some t) = IsSound columns t

-- over each row of cells that fits, the plan's condition fits it and has the truth that the query's has over the row's
-- values
abbrev pub HasTruth : List Column → List (List (List ℕ)) → Option Tree → Option Cond → Type 0
HasTruth columns dicts None None = Unit {0}
HasTruth columns dicts (Some t) (Some c) = HasTruthOf columns dicts t c × FitsRows columns dicts c
HasTruth columns dicts _ _ = ⊥

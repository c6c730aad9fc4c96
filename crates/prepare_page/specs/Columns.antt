-- What the fields of a column are, taken together.
use Rattle.std.specs.Prelude.{◌+◌, ◌&&◌, ◌||◌, ℕ, zero, suc, Bool, false, not, nat_lt, List}
use Rattle.std.specs.List.{list_any}
use Rattle.prepare_look.specs.Lines.{one_if}
use Rattle.prepare_look.specs.Surveys.{seen_of}
use Rattle.prepare_look.specs.declared.kind.Kind.{Kind}
use Rattle.prepare_look.specs.declared.survey.Survey.{Survey}

-- some field of a column is of a kind
abbrev pub has_kind : Survey → ℕ → Kind → Bool
has_kind s column kind = nat_lt 0 (seen_of s column kind).count

-- of one of these kinds
abbrev pub has : Survey → ℕ → List Kind → Bool
has s column kinds = list_any (has_kind s column) kinds

-- some field is of these kinds, and none of the others
abbrev pub is_of : Survey → ℕ → List Kind → List Kind → Bool
is_of s column some none = not (has s column none) && has s column some

-- one of the first columns is such
unfoldable pub some_below : (ℕ → Bool) → ℕ → Bool
some_below is zero = false
some_below is (suc n) = some_below is n || is n

abbrev pub some_column : Survey → List Kind → List Kind → ℕ → Bool
some_column s some none n = some_below (λ column. is_of s column some none) n

-- how many of the first columns are such
unfoldable pub count_below : (ℕ → Bool) → ℕ → ℕ
count_below is zero = 0
count_below is (suc n) = count_below is n + one_if (is n)

abbrev pub count_columns : Survey → List Kind → List Kind → ℕ → ℕ
count_columns s some none n = count_below (λ column. is_of s column some none) n

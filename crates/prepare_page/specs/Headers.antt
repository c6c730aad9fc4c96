-- Whether the first record holds names.
use Rattle.std.specs.Prelude.{◌&&◌, ◌||◌, ◌==◌, ℕ, Bool, not, List, [], slice_index_or}
use Rattle.std.specs.List.{list_any}
use Rattle.prepare_look.specs.Kinds.{index_of, kind_of}
use Rattle.prepare_look.specs.declared.kind.Kind.{Kind}
use Rattle.prepare_look.specs.declared.survey.Survey.{Survey}
use Rattle.prepare_page.specs.Columns.{is_of, some_below}
use Rattle.prepare_page.specs.declared.header.TheConstants.{VALUES, WORDS}

-- the kind is one of these
abbrev pub is_among : Kind → List Kind → Bool
is_among kind kinds = list_any (λ k. index_of kind == index_of k) kinds

abbrev pub first_kind : List (List ℕ) → ℕ → Kind
first_kind fields column = kind_of (slice_index_or fields column [])

-- numbers and dates, and nothing but them and what is missing, under a field of one of these kinds
abbrev pub is_under : List Kind → List (List ℕ) → Survey → ℕ → Bool
is_under kinds fields s column = is_of s column VALUES WORDS && is_among (first_kind fields column) kinds

-- SOME COLUMN of numbers or dates stands under such a field
abbrev pub some_under : List Kind → List (List ℕ) → Survey → ℕ → Bool
some_under kinds fields s n = some_below (is_under kinds fields s) n

-- THE FIRST RECORD HOLDS NAMES: some column of numbers or dates stands under a text, or none under a number or date
abbrev pub has_names : List (List ℕ) → Survey → ℕ → Bool
has_names fields s n = some_under WORDS fields s n || not (some_under VALUES fields s n)

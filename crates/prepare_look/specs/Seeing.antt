-- What is seen in the records of an export.
use Rattle.std.specs.Prelude.{◌==◌, ◌+◌, ◌||◌, ℕ, Bool, nat_lt, if◌then◌else◌}
use Rattle.std.specs.Prelude.{List, [], ◌∷◌, length, slice_index_or}
use Rattle.std.specs.List.{list_any}
use Rattle.prepare_look.specs.Kinds.{index_of, kind_of}
use Rattle.prepare_look.specs.Lines.{is_feed, is_return}
use Rattle.prepare_look.specs.Rows.{Row}
use Rattle.prepare_look.specs.declared.seen.Seen.{Seen}

abbrev pub none_seen : Seen
none_seen = record { count = 0; line = 0 }

-- one more, on this line
abbrev pub one_more : ℕ → Seen → Seen
one_more line s =
    if s.count == 0 then record { count = 1; line = line } else record { count = s.count + 1; line = s.line }

-- one more, where it is one
abbrev pub noted : Bool → ℕ → Seen → Seen
noted is line s = if is then one_more line s else s

-- what is seen in some records, and then in those behind them
abbrev pub then_seen : Seen → Seen → Seen
then_seen a b = record {
  count = a.count + b.count;
  line = if a.count == 0 then (if b.count == 0 then a.line else b.line) else a.line;
}

-- THE RECORDS FOR WHICH A TEST HOLDS: how many they are, and the line of the first
unfoldable pub seen_in : (Row → Bool) → List Row → Seen
seen_in is [] = none_seen
seen_in is (row ∷ rows) = then_seen (noted (is row) row.line none_seen) (seen_in is rows)

-- the field of a column, both from 0, is of a kind by its number
abbrev pub is_kind : ℕ → ℕ → Row → Bool
is_kind column kind row = index_of (kind_of (slice_index_or row.fields column [])) == kind

abbrev pub is_short : ℕ → Row → Bool
is_short width row = nat_lt (length row.fields) width

abbrev pub is_long : ℕ → Row → Bool
is_long width row = nat_lt width (length row.fields)

-- the record stands on several lines: a line ends in one of its fields
abbrev pub ends_line : ℕ → Bool
ends_line b = is_feed b || is_return b

abbrev pub is_folded : Row → Bool
is_folded row = list_any (list_any ends_line) row.fields

-- What is seen in the records of an export.
use Rattle.std.specs.Prelude.{◌≡◌, ◌+◌, ◌*◌, ◌<◌, ◌≤◌, ℕ, nat_lt, List, length, slice_index_or, if◌then◌else◌}
use Rattle.prepare_look.specs.Kinds.{index_of}
use Rattle.prepare_look.specs.Rows.{Row}
use Rattle.prepare_look.specs.Seeing.{is_folded, is_kind, is_long, is_short, none_seen, noted, seen_in, then_seen}
use Rattle.prepare_look.specs.declared.kind.Kind.{Kind}
use Rattle.prepare_look.specs.declared.kind.TheConstants.{KINDS}
use Rattle.prepare_look.specs.declared.seen.Seen.{Seen}
use Rattle.prepare_look.specs.declared.survey.Survey.{Survey}

-- WHAT IS SEEN in records of which each should have so many fields
pub record IsSurvey (wide : ℕ) (rows : List Row) (s : Survey) : Type 0 where
  pub width : s.width ≡ wide
  pub records : s.records ≡ length rows
  pub short : s.short ≡ seen_in (is_short wide) rows
  pub long : s.long ≡ seen_in (is_long wide) rows
  pub folded : s.folded ≡ seen_in is_folded rows
  pub kinds : (column kind : ℕ) → column < wide → kind < KINDS
      → slice_index_or s.cells.items (column * KINDS + kind) none_seen ≡ seen_in (is_kind column kind) rows

-- how many fields of a column, from 0, are of a kind; none where the column isn't there
abbrev pub seen_of : Survey → ℕ → Kind → Seen
seen_of s column kind = if nat_lt column s.width
    then slice_index_or s.cells.items (column * KINDS + index_of kind) none_seen else none_seen

-- no count is as high as this
pub record IsLow (n : ℕ) (s : Survey) : Type 0 where
  pub records : s.records < n
  pub short : s.short.count < n
  pub long : s.long.count < n
  pub folded : s.folded.count < n
  pub kinds : (i : ℕ) → (slice_index_or s.cells.items i none_seen).count < n

-- one record more was seen
pub record IsAdded (old : Survey) (row : Row) (new : Survey) : Type 0 where
  pub width : new.width ≡ old.width
  pub records : new.records ≡ old.records + 1
  pub short : new.short ≡ noted (is_short old.width row) row.line old.short
  pub long : new.long ≡ noted (is_long old.width row) row.line old.long
  pub folded : new.folded ≡ noted (is_folded row) row.line old.folded
  pub low : (i : ℕ)
      → (slice_index_or new.cells.items i none_seen).count ≤ (slice_index_or old.cells.items i none_seen).count + 1
  pub kinds : (column kind : ℕ) → column < old.width → kind < KINDS
      → slice_index_or new.cells.items (column * KINDS + kind) none_seen
      ≡ noted (is_kind column kind row) row.line (slice_index_or old.cells.items (column * KINDS + kind) none_seen)

-- what is seen so far, and then what is left, is what is seen in all
pub record Adds (wide : ℕ) (all left : List Row) (s : Survey) : Type 0 where
  pub width : s.width ≡ wide
  pub records : s.records + length left ≡ length all
  pub short : then_seen s.short (seen_in (is_short wide) left) ≡ seen_in (is_short wide) all
  pub long : then_seen s.long (seen_in (is_long wide) left) ≡ seen_in (is_long wide) all
  pub folded : then_seen s.folded (seen_in is_folded left) ≡ seen_in is_folded all
  pub kinds : (column kind : ℕ) → column < wide → kind < KINDS
      → then_seen (slice_index_or s.cells.items (column * KINDS + kind) none_seen) (seen_in (is_kind column kind) left)
      ≡ seen_in (is_kind column kind) all

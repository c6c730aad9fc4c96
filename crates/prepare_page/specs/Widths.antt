-- How many fields records have, and which delimiter that speaks for.
use Rattle.std.specs.Prelude.{◌≡◌, ◌==◌, ◌+◌, ◌*◌, ◌<◌, ◌≤◌, ℕ, Bool, nat_lt, List, [], ◌∷◌, length}
use Rattle.std.specs.Prelude.{slice_index_or, slice_set, if◌then◌else◌}
use Rattle.prepare_look.specs.Lines.{one_if}
use Rattle.prepare_look.specs.Rows.{Row}
use Rattle.prepare_page.specs.declared.usual.Usual.{Usual}
use Rattle.prepare_page.specs.declared.counts.TheConstants.{WIDEST}
use Rattle.prepare_page.specs.declared.counts.Widths.{Widths}

-- so many fields; from WIDEST on all are told as one
abbrev pub told_width : ℕ → ℕ
told_width n = if nat_lt n WIDEST then n else WIDEST

abbrev pub has_width : ℕ → Row → Bool
has_width n row = told_width (length row.fields) == n

-- HOW MANY RECORDS a test holds for
unfoldable pub count_rows : (Row → Bool) → List Row → ℕ
count_rows is [] = 0
count_rows is (row ∷ rows) = one_if (is row) + count_rows is rows

-- how many records have each number of fields
pub record AreWidths (rows : List Row) (w : Widths) : Type 0 where
  pub records : w.records ≡ length rows
  pub counts : (n : ℕ) → n ≤ WIDEST → slice_index_or w.counts.items n 0 ≡ count_rows (has_width n) rows

-- the count at a place is one higher
abbrev pub one_higher : List ℕ → ℕ → List ℕ
one_higher counts at = slice_set counts at (slice_index_or counts at 0 + 1)

-- one record more, with so many fields
pub record IsWider (old : Widths) (row : Row) (new : Widths) : Type 0 where
  pub records : new.records ≡ old.records + 1
  pub counts : (n : ℕ) → n ≤ WIDEST
      → slice_index_or new.counts.items n 0 ≡ slice_index_or old.counts.items n 0 + one_if (has_width n row)

-- the records so far, and then those that are left, are all
pub record AddsWidths (all left : List Row) (w : Widths) : Type 0 where
  pub records : w.records + length left ≡ length all
  pub counts : (n : ℕ) → n ≤ WIDEST
      → slice_index_or w.counts.items n 0 + count_rows (has_width n) left ≡ count_rows (has_width n) all

-- no count is above the number of records
abbrev pub IsFew : Widths → Type 0
IsFew w = (n : ℕ) → n ≤ WIDEST → slice_index_or w.counts.items n 0 ≤ w.records

-- of the widths of two fields or more below one, this is the one that the most records have
pub record IsMost (counts : List ℕ) (below : ℕ) (u : Usual) : Type 0 where
  pub wide : 0 < u.count → 2 ≤ u.width
  pub low : u.width ≤ WIDEST
  pub count : 0 < u.count → u.count ≡ slice_index_or counts u.width 0
  pub most : (n : ℕ) → 2 ≤ n → n < below → slice_index_or counts n 0 ≤ u.count

-- THE USUAL WIDTH of records: no other one of two fields or more is that of more records
pub record IsUsual (rows : List Row) (u : Usual) : Type 0 where
  pub records : u.records ≡ length rows
  pub wide : 0 < u.count → 2 ≤ u.width
  pub low : u.width ≤ WIDEST
  pub count : 0 < u.count → u.count ≡ count_rows (has_width u.width) rows
  pub most : (n : ℕ) → 2 ≤ n → n ≤ WIDEST → count_rows (has_width n) rows ≤ u.count

-- a greater share of records has the usual width
abbrev pub is_better : Usual → Usual → Bool
is_better a b = nat_lt (b.count * a.records) (a.count * b.records)

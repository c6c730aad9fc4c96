-- Which marks a picture of some of the entries shows, and where.
use Rattle.std.specs.Prelude.{◌≡◌, ◌≤◌, ◌+◌, ◌&&◌, ℕ, Bool, true, max, min, nat_le, List, length}
use Rattle.std.specs.List.{AllByRecursion}
use Rattle.scan_story.specs.declared.entry.Entry.{Entry}
use Rattle.inspect_picture.specs.declared.mark.Mark.{Mark}
use Rattle.inspect_picture.specs.declared.scale.Scale.{Scale}
use Rattle.inspect_picture.specs.Extents.{first_of, is_shown, last_of, x_from}
use Rattle.inspect_picture.specs.Marks.{marks}
use Rattle.inspect_picture.specs.Scales.{scale_of, x_at}

-- the mark touches the entries from and to these, both of them included
abbrev pub touches : ℕ → ℕ → Mark → Bool
touches from to m = nat_le (first_of m) to && nat_le from (last_of m)

-- the number of an entry, cut to these and the one behind them
abbrev pub cut : ℕ → ℕ → ℕ → ℕ
cut from to i = min (max i from) (to + 1)

-- A PICTURE OF THESE ENTRIES: of the marks of the whole story it shows just those that touch them, each cut to them,
-- and one that was open before lies from the left edge on
pub record IsWindow (z : Scale) (from to : ℕ) : Type 0 where
  pub touching : (m : Mark) → is_shown z m ≡ touches from to m
  pub cut_to : (i : ℕ) → x_at z i ≡ x_at z (cut from to i)
  pub edge : (m : Mark) → first_of m ≤ from → x_from z m ≡ 1000

abbrev pub IsWindowOf : ℕ → ℕ → ℕ → List Entry → Type 0
IsWindowOf groups from to entries = IsWindow (scale_of groups from to entries) from to

-- a picture of all entries shows each mark of them
abbrev pub AllShown : ℕ → List Entry → Type 0
AllShown groups entries =
    AllByRecursion (λ (m : Mark). is_shown (scale_of groups 0 4294967295 entries) m ≡ true) (marks groups entries)

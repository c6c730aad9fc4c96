use Rattle.std.specs.Prelude.{ℕ, ◌+◌, ◌<◌, List, Option, None, Some, length, take}
use Rattle.scan_story.specs.declared.entry.Entry.{Entry}
use Rattle.scan_story.specs.declared.setting.Setting.{Setting}
use Rattle.scan_story.specs.Views.{past}
use Rattle.scan_story.specs.Legal.{Legal}

-- the story is legal up to the entry at the place, and not with it; with no place it is legal
abbrev pub IsFirstIllegal : Setting → List Entry → Option ℕ → Type 0
IsFirstIllegal s entries None = Legal s (past entries)
IsFirstIllegal s entries (Some place) =
    (place < length entries) × Legal s (past (take place entries)) × (Legal s (past (take (place + 1) entries)) → ⊥)

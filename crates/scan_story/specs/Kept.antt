use Rattle.std.specs.Prelude.{ℕ, List}
use Rattle.scan_story.specs.declared.entry.Entry.{Entry}

-- a story: its entries, the oldest first, and the room for more
pub record Kept : Type 0 where
  pub entries : List Entry
  pub spare : ℕ

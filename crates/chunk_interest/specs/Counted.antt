-- A set of chunks with the number of its members.
use Rattle.std.specs.Prelude.{◌≡◌, ◌<◌, ℕ, List, true}
use Rattle.scan_story.specs.Counting.{has, count_below}

-- how many members a set of chunks has
unfoldable pub size_of : List ℕ → ℕ
size_of members = count_below (has members) 1024

-- the members are chunks, and this is how many there are
pub record IsCounted (members : List ℕ) (n : ℕ) : Type 0 where
  pub size : n ≡ size_of members
  pub within : (x : ℕ) → has members x ≡ true → x < 1024

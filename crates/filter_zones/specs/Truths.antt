-- The truth of a condition on each row of a block: two bits for a row.
use Rattle.std.specs.Prelude.{◌≡◌, ◌<◌, ℕ, Bool, true, false}
use Rattle.row_blocks.specs.Blocks.{BlockView, row_at}
use Rattle.filter_zones.specs.declared.cond.Cond.{Cond}
use Rattle.filter_zones.specs.declared.truth.Truth.{Truth}
use Rattle.filter_zones.specs.declared.truth.Truth.TheVariants as truth
use Rattle.filter_zones.specs.declared.truths.Truths.{Truths}
use Rattle.filter_zones.specs.Truth.{FitsRow}
use Rattle.filter_zones.specs.Masks.{is_set}

abbrev pub is_true : Truth → Bool
is_true truth.True = true
is_true truth.Unknown = false
is_true truth.False = false

abbrev pub is_unknown : Truth → Bool
is_unknown truth.True = false
is_unknown truth.Unknown = true
is_unknown truth.False = false

-- row i has this truth: its bit is set among the true ones just where it is True, and among the unknown ones just
-- where it is Unknown
abbrev pub HasTruth : Truths → ℕ → Truth → Type 0
HasTruth t i x = (is_set t.yes i ≡ is_true x) × (is_set t.unknown i ≡ is_unknown x)

-- the condition fits each row of the block
abbrev pub FitsBlock : Cond → BlockView → Type 0
FitsBlock c b = (i : ℕ) → i < b.count → FitsRow c (row_at b i)

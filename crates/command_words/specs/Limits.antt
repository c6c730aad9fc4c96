-- The limits of what words can ask for.
use Rattle.std.specs.Prelude.{ℕ, ◌≤◌, IfSome}
use Rattle.command_words.specs.Options.{Request}
use Rattle.command_words.specs.declared.limits.TheConstants.{MOST_FRAMES, MOST_PARTS, MOST_WORKERS}
use Rattle.table_sets.specs.declared.limits.TheConstants.{MOST_CHUNK_ROWS}

abbrev pub IsFrom : ℕ → ℕ → ℕ → Type 0
IsFrom low high n = (low ≤ n) × (n ≤ high)

pub record IsWithinLimits (r : Request) : Type 0 where
  pub workers : IsFrom 1 MOST_WORKERS r.workers
  pub frames : IfSome r.frames (IsFrom 1 MOST_FRAMES)
  pub per : IsFrom 1 MOST_CHUNK_ROWS r.per
  pub parts : IsFrom 1 MOST_PARTS r.parts

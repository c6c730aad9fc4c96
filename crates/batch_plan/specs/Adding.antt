-- What the scans of a query ask for together.
use Rattle.std.specs.Prelude.{◌≡◌, ◌<◌, ◌++◌, ℕ, zero, suc, true, List, [], IsPermutation}
use Rattle.filter_zones.specs.Possible.{needed}
use Rattle.filter_zones.specs.declared.zone.ChunkZones.{ChunkZones}
use Rattle.scan_story.specs.declared.setting.Setting.{Setting}
use Rattle.scan_story.specs.Setting.{asks_for, chunks_in, need_of}
use Rattle.batch_plan.specs.declared.task.Task.{Task}
use Rattle.batch_plan.specs.Scans.{scan_number}

-- the chunks that the scans of a query's first parts ask for, one part after another
abbrev pub asked_by : Setting → ℕ → ℕ → ℕ → List ℕ
asked_by s parts query zero = []
asked_by s parts query (suc n) = asked_by s parts query n ++ chunks_in (need_of s (scan_number parts query n))

-- THE NEEDS ADD UP: together the scans of a query's parts ask for the chunks that the query needs, each of them once,
-- and no two of them for one chunk
pub record AddUp (s : Setting) (zones : List ChunkZones) (parts : ℕ) (t : Task) : Type 0 where
  pub together : IsPermutation (needed t.plan.cond zones) (asked_by s parts t.query parts)
  pub apart : (i j c : ℕ) → i < parts → j < parts → asks_for s (scan_number parts t.query i) c ≡ true
      → asks_for s (scan_number parts t.query j) c ≡ true → i ≡ j

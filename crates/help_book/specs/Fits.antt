-- What is asked of a setting's numbers, and of its needs.
use Rattle.std.specs.Prelude.{◌≡◌, ◌≤◌, List, map}
use Rattle.std.specs.List.{AllByRecursion}
use Rattle.scan_story.specs.declared.setting.Setting.{Setting}
use Rattle.scan_story.specs.Setting.{IsNeed, AreDistinct}
use Rattle.chunk_interest.specs.declared.need.Need.{Need}
use Rattle.chunk_interest.specs.Fresh.{as_need}

pub record IsFit (s : Setting) : Type 0 where
  pub chunks : s.chunks ≤ 1024
  pub workers : (1 ≤ s.workers) × (s.workers ≤ 32)
  pub groups : (1 ≤ s.groups) × (s.groups ≤ 16)
  pub frames : s.frames ≤ 33554432

-- the needs are the setting's, which may be so, and no query has two
pub record AreFit (s : Setting) (ns : List Need) : Type 0 where
  pub same : map as_need ns ≡ s.needs
  pub needs : AllByRecursion (IsNeed s) s.needs
  pub distinct : AreDistinct s.needs

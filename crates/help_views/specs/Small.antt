use Rattle.std.specs.Prelude.{◌<◌, ◌≤◌, length}
use Rattle.scan_story.specs.declared.setting.Setting.{Setting}

-- a setting whose numbers can be multiplied
pub record IsSmall (s : Setting) : Type 0 where
  pub needs : length s.needs ≤ 256
  pub some_groups : 0 < s.groups
  pub groups : s.groups ≤ 16

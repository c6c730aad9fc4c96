-- The setting that a story is judged in.
use Rattle.std.specs.Prelude.{map}
use Rattle.scan_story.specs.declared.setting.Setting.{Setting}
use Rattle.scan_story.specs.Setting.{first_cursor}
use Rattle.chunk_interest.specs.Fresh.{as_need}
use Rattle.inspect_referee.specs.declared.terms.Terms.{Terms}

-- the setting of the terms, in which the policy begins with its first cursor
abbrev pub setting_of : Terms → Setting
setting_of t = record {
  needs = map as_need t.needs.items;
  chunks = t.chunks;
  workers = t.workers;
  frames = t.frames;
  groups = t.groups;
  policy = t.policy;
  cursor = first_cursor t.policy;
}

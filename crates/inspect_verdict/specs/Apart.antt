-- What separate scans would read.
use Rattle.std.specs.Prelude.{◌≡◌, ◌≤◌, ◌*◌, ◌==◌, ℕ, length, if◌then◌else◌}
use Rattle.scan_story.specs.declared.setting.Need.{Need}
use Rattle.scan_story.specs.declared.setting.Setting.{Setting}
use Rattle.scan_story.specs.Spent.{reads, stopped_queries}
use Rattle.scan_story.specs.Views.{History}
use Rattle.scan_story.specs.Whole.{IsWhole}
use Rattle.story_laws.specs.Lists.{sum_among}

-- a query reads of each chunk that it needs the one piece that a chunk has, or one for each of its columns
abbrev pub pieces_of : ℕ → Need → ℕ
pieces_of groups n = length n.chunks * (if groups == 1 then 1 else length n.columns)

-- WHAT SEPARATE SCANS READ: each query for itself
abbrev pub reads_apart : Setting → ℕ
reads_apart s = sum_among (pieces_of s.groups) s.needs

-- over chunks of one piece a whole history without stopped queries reads at most what separate scans read
abbrev pub WholeReadLittle : Setting → History → Type 0
WholeReadLittle s h = s.groups ≡ 1 → IsWhole s h → stopped_queries s h ≡ 0 → reads h ≤ reads_apart s

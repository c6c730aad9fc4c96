-- The rank of a query, and the ratios of chunks.
use Rattle.std.specs.Prelude.{◌+◌, ◌*◌, ◌≤◌, ℕ, ℤ, pos, ◌-ℤ◌}
use Rattle.scan_story.specs.declared.ratio.Ratio.{Ratio}
use Rattle.scan_story.specs.declared.setting.Setting.{Setting}
use Rattle.scan_story.specs.Views.{History}
use Rattle.scan_story.specs.Numbers.{needed, waiting, running, interested, close}
use Rattle.scan_story.specs.Numbers.{cached, missing_for, overlap, starved_overlap}

abbrev pub query_rank : Setting → History → ℕ → ℤ
query_rank s h q = pos (waiting s h q) -ℤ pos (running s h * needed s h q)

-- how much is gained by loading the chunk for the query
abbrev pub load_ratio : Setting → History → ℕ → ℕ → Ratio
load_ratio s h q c = record { num = 1024 * starved_overlap s h q c + overlap s h q c; den = missing_for s h q c }

-- how much room is won by delivering the chunk to the query
abbrev pub use_ratio : Setting → History → ℕ → ℕ → Ratio
use_ratio s h q c = record { num = cached s h c; den = overlap s h q c }

-- how much is lost by evicting the chunk
abbrev pub keep_ratio : Setting → History → ℕ → Ratio
keep_ratio s h c = record { num = 1024 * close s h c + interested s h c; den = cached s h c }

-- a isn't greater than b: a greater one would have a.num * b.den above b.num * a.den
abbrev pub IsAtMost : Ratio → Ratio → Type 0
IsAtMost a b = a.num * b.den ≤ b.num * a.den

-- How much a history loads, and how long it is.
use Rattle.std.specs.Prelude.{◌≡◌, ◌+◌, ◌*◌, ◌<◌, ◌≤◌, true, false, ℕ, Some, length, min, if◌then◌else◌}
use Rattle.scan_story.specs.declared.entry.Entry.{Entry}
use Rattle.scan_story.specs.declared.view.Load.{Load}
use Rattle.scan_story.specs.declared.setting.Setting.{Setting}
use Rattle.scan_story.specs.Setting.{IsSetting, HasRoom}
use Rattle.scan_story.specs.Views.{History, is_active, past}
use Rattle.scan_story.specs.Loads.{underway}
use Rattle.scan_story.specs.Numbers.{available, is_starved}
use Rattle.scan_story.specs.Legal.{Legal}
use Rattle.scan_story.specs.Whole.{IsWhole}
use Rattle.scan_story.specs.Spent.{loads, deliveries, stopped_queries}
use Rattle.scan_story.specs.Kept.{Kept}
use Rattle.story_laws.specs.Lists.{sum_among}
use Rattle.story_laws.specs.Every.{MayCome}

-- Loads

-- how many chunks the needs have together: what separate scans would load
abbrev pub sizes : Setting → ℕ
sizes s = sum_among (λ n. length n.chunks) s.needs

-- the chunks that are available to the active queries, at most two of each
abbrev pub two_of_each : Setting → History → ℕ
two_of_each s h = sum_among (λ n. if is_active h n.query then min (available s h n.query) 2 else 0) s.needs

-- what loads are paid by: deliveries, stopped queries at two each, and the chunks that are available now
abbrev pub paid_by : Setting → History → ℕ
paid_by s h = deliveries h + 2 * stopped_queries s h + two_of_each s h

-- the loads are paid
abbrev pub LoadsArePaid : Setting → History → Type 0
LoadsArePaid s h = loads s h ≤ paid_by s h

-- a load underway is paid ahead where its trigger isn't active any more
abbrev pub LostTriggersPayAhead : Setting → History → Type 0
LostTriggersPayAhead s h = (l : Load) → underway s h ≡ Some l → is_active h l.query ≡ false
    → loads s h + 1 ≤ paid_by s h

-- as long as a load is underway, its trigger is starved where it is active
abbrev pub TriggersStayStarved : Setting → History → Type 0
TriggersStayStarved s h = (l : Load) → underway s h ≡ Some l → is_active h l.query ≡ true
    → is_starved s h l.query ≡ true

-- a whole history without stopped queries loads at most what separate scans would
abbrev pub WholeLoadLittle : Setting → History → Type 0
WholeLoadLittle s h = IsWhole s h → stopped_queries s h ≡ 0 → loads s h ≤ sizes s

-- Entries

-- the capacity for the setting
abbrev pub capacity_for : Setting → ℕ
capacity_for s = 3 * length s.needs + 2 * sizes s + (sizes s + 3 * length s.needs) * (2 + 2 * s.groups)

abbrev pub IsShort : Setting → History → Type 0
IsShort s h = length h ≤ capacity_for s

-- a story was given room for all that may come; each push leaves this as it is
abbrev pub HasAllRoom : Setting → Kept → Type 0
HasAllRoom s k = capacity_for s ≤ length k.entries + k.spare

-- wherever an entry may come, a story that was given all room has room for it
abbrev pub NextHasRoom : Type 0
NextHasRoom =
    (s : Setting) (k : Kept) (e : Entry) → IsSetting s → HasRoom s → Legal s (past k.entries)
    → MayCome s (past k.entries) e → HasAllRoom s k → 0 < k.spare

-- the numbers of a setting are within what capacity takes
pub record FitsCapacity (s : Setting) : Type 0 where
  pub chunks : sizes s ≤ 262144
  pub queries : length s.needs ≤ 256
  pub groups : s.groups ≤ 16

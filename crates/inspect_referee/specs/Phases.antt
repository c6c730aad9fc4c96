-- What the phase of a query says, and what is left to see of a legal history that is whole.
use Rattle.std.specs.Prelude.{◌&&◌, ◌||◌, not, Bool, true, false, is_none, is_some}
use Rattle.std.specs.List.{list_all}
use Rattle.scan_story.specs.declared.setting.Setting.{Setting}
use Rattle.scan_story.specs.Counting.{any_below}
use Rattle.scan_story.specs.Loads.{underway}
use Rattle.scan_story.specs.Views.{History, is_ended, is_stopped, held_by}
use Rattle.scan_story.specs.declared.view.Phase.{Phase}
use Rattle.scan_story.specs.declared.view.Phase.TheVariants.{Waiting, Active, Ended, Stopped}

-- the query is active
abbrev pub runs : Phase → Bool
runs Waiting = false
runs Active = true
runs Ended = false
runs Stopped = false

-- the query has ended or stopped
abbrev pub is_over : Phase → Bool
is_over Waiting = false
is_over Active = false
is_over Ended = true
is_over Stopped = true

-- the query was registered
abbrev pub has_begun : Phase → Bool
has_begun Waiting = false
has_begun Active = true
has_begun Ended = true
has_begun Stopped = true

-- each query has ended or stopped, no load is underway, and no worker holds a chunk
abbrev pub is_complete : Setting → History → Bool
is_complete s h =
    list_all (λ n. is_ended h n.query || is_stopped h n.query) s.needs && is_none (underway s h)
    && not (any_below (λ w. is_some (held_by h w)) s.workers)

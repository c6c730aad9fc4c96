-- What a worker knows of the story, and when a state agrees with it.
use Rattle.std.specs.Prelude.{ℕ, ◌≡◌, List, []}
use Rattle.scan_story.specs.declared.entry.Entry.{Entry}
use Rattle.scan_story.specs.declared.origin.Start.{Start}
use Rattle.scan_story.specs.Setting.{nowhere}
use Rattle.scan_story.specs.Makers.{entries_by, StartsWith}
use Rattle.baton.specs.declared.view.Share.{Share}

-- a state of the origin and story agrees with the share: the origin is the share's, the story begins with what the
-- worker has seen, and the worker's entries in it are its own, no more and no less
pub record Agrees (o : Start) (story : List Entry) (k : Share) : Type 0 where
  pub origin : o ≡ k.origin
  pub seen : StartsWith story k.seen
  pub mine : entries_by k.number story ≡ k.mine

-- the share of a worker that has just seen the story, and made those entries of it that are its own
abbrev pub up_to_date : ℕ → Start → List Entry → Share
up_to_date n o story = record { number = n; origin = o; seen = story; mine = entries_by n story }

abbrev pub nothing : Share
nothing = record { number = 0; origin = nowhere; seen = []; mine = [] }

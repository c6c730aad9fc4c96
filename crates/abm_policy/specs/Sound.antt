-- What a desk is made for, and what it keeps.
use Rattle.std.specs.Prelude.{◌≡◌, ℕ, List, Option, map}
use Rattle.scan_story.specs.declared.setting.PolicyName.{PolicyName}
use Rattle.scan_story.specs.declared.setting.Setting.{Setting}
use Rattle.scan_story.specs.declared.origin.Start.{Start}
use Rattle.scan_story.specs.Kept.{Kept}
use Rattle.scan_story.specs.Setting.{IsStart}
use Rattle.scan_story.specs.Views.{past}
use Rattle.scan_story.specs.Loads.{underway}
use Rattle.scan_story.specs.Legal.{Legal, cursor_at}
use Rattle.interest_book.specs.declared.book.Book.{Book}
use Rattle.chunk_interest.specs.declared.need.Need.{Need}
use Rattle.chunk_interest.specs.Fresh.{as_need}
use Rattle.interest_book.specs.Stands.{Stands}
use Rattle.story_laws.specs.Bounds.{HasAllRoom}
use Rattle.abm_policy.specs.Depots.{DepotView, HasDepot}

-- the setting that these make
abbrev pub setting_of : List Need → ℕ → ℕ → ℕ → ℕ → PolicyName → List ℕ → Setting
setting_of needs chunks workers frames groups policy cursor = record {
  needs = map as_need needs;
  chunks = chunks;
  workers = workers;
  frames = frames;
  groups = groups;
  policy = policy;
  cursor = cursor;
}

-- the origin of a setting and a depot
abbrev pub start_of : Setting → DepotView → Start
start_of s d = record { setting = s; held = d.held; gets = d.gets; faults = d.faults }

-- the story is legal, the book stands for it, and it has room for all that may come
pub record IsWritten (s : Setting) (b : Book) (k : Kept) : Type 0 where
  pub legal : Legal s (past k.entries)
  pub stands : Stands b s (past k.entries)
  pub room : HasAllRoom s k

-- what a desk keeps: an origin that a desk may be made for, its book and story, the policy at its cursor, and the depot
pub record IsSound (o : Start) (name : PolicyName) (cursor : List ℕ) (b : Book) (k : Kept)
    (d : Option DepotView) : Type 0 where
  pub start : IsStart o
  pub written : IsWritten o.setting b k
  pub named : name ≡ o.setting.policy
  pub at_cursor : cursor ≡ cursor_at o.setting (past k.entries)
  pub depot : HasDepot o (past k.entries) (underway o.setting (past k.entries)) d

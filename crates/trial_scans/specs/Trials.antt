-- Scans on trial.
use Rattle.std.specs.Prelude.{◌≡◌, ℕ, Bool, true, false, List, [], None, Some}
use Rattle.atomic_table.specs.Seated.{TableId}
use Rattle.frame_pool.specs.Berths.{PoolView}
use Rattle.frame_pool.specs.Frames.{Told}
use Rattle.piece_format.specs.Shape.{IsShape, TableShape, chunks, groups}
use Rattle.scan_story.specs.declared.origin.Start.{Start}
use Rattle.scan_story.specs.declared.setting.PolicyName.{PolicyName}
use Rattle.scan_story.specs.declared.setting.Setting.{Setting}
use Rattle.cscan.specs.declared.scan.CScan.{CScan}
use Rattle.cscan.specs.declared.station.Station.{Station}
use Rattle.cscan.specs.Answers.{delivery_to}
use Rattle.cscan.specs.Scans.{IsOver, IsScan}
use Rattle.cscan.specs.Stations.{IsSeated}
use Rattle.trial_scans.specs.declared.at.At.{At}
use Rattle.trial_scans.specs.declared.at.At.TheVariants as at

-- the setting under a policy of this name and first cursor
abbrev pub under : Setting → PolicyName → List ℕ → Setting
under s name cursor = record s { policy = name; cursor = cursor }

-- the shape is within the limits, and has the setting's chunks and groups
pub record FitEachOther (s : Setting) (z : TableShape) : Type 0 where
  pub shape : IsShape z
  pub chunks : s.chunks ≡ chunks z
  pub groups : s.groups ≡ groups z

module _ {S C P D : Type 0} where
  -- the station of worker n, on which nothing was done yet
  abbrev pub IsFresh : TableId → PoolView → Start → ℕ → Station S C P D → Type 0
  IsFresh id pool o n s = IsSeated id pool o [] s × (s.number ≡ n) × (s.pass.seen ≡ [])

module _ {S C P D T K : Type 0} where
  -- a scan between two steps: under way with nothing out or with a chunk out, or over
  abbrev pub StandsAt : Start → Told → CScan S C P D T K → At → Type 0
  StandsAt o told scan at.Ready = IsScan o told scan × (scan.out ≡ None)
  StandsAt o told scan (at.Holds held delivery) = IsScan o told scan × (scan.out ≡ Some held.given)
      × (delivery ≡ delivery_to scan.station.now.number scan.query held.given.chunk)
  StandsAt o told scan at.Over = IsOver o scan.baton.now scan.pool.now scan.query scan.station.now

  -- a scan that is said to go on or not is under way with nothing out, or over
  abbrev pub MayGoOn : Start → Told → Bool → CScan S C P D T K → Type 0
  MayGoOn o told true scan = StandsAt o told scan at.Ready
  MayGoOn o told false scan = StandsAt o told scan at.Over

-- What a batch asks for, and the setting that its manager is made for.
use Rattle.std.specs.Prelude.{◌≡◌, ◌<◌, ◌≤◌, ◌*◌, ◌+◌, ℕ, All, List, IfSome, length, map}
use Rattle.scan_story.specs.declared.setting.PolicyName.{PolicyName}
use Rattle.scan_story.specs.declared.setting.Setting.{Setting}
use Rattle.chunk_interest.specs.Fresh.{as_need}
use Rattle.table_sets.specs.Sets.{Rising}
use Rattle.piece_format.specs.Shape.{TableShape, IsShape, chunks, groups}
use Rattle.filter_zones.specs.declared.zone.ChunkZones.{ChunkZones}
use Rattle.filter_zones.specs.Possible.{FitsZones}
use Rattle.sql_bind.specs.declared.plan.Plan.{Plan}
use Rattle.batch_plan.specs.declared.task.Task.{Task}
use Rattle.batch_plan.specs.declared.options.Options.{Options}
use Rattle.batch_plan.specs.Scans.{needs, scans}

-- the plan names columns of a table with so many, at least one
pub record NamesColumns (columns : ℕ) (p : Plan) : Type 0 where
  pub some : 0 < length p.columns
  pub within : All (λ (x : ℕ). x < columns) p.columns

-- the limits of how a batch runs: with so many pieces to a chunk there are frames for three chunks a worker and one
-- more
pub record AreOptions (groups : ℕ) (o : Options) : Type 0 where
  pub workers : (1 ≤ o.workers) × (o.workers ≤ 32)
  pub parts : (1 ≤ o.parts) × (o.parts ≤ 32)
  pub room : (3 * o.workers + 1) * groups ≤ o.frames
  pub frames : o.frames ≤ 33554432

-- what a batch asks for: tasks whose numbers rise, at most 256 scans, plans over the columns of the shape, and zones
-- for each chunk, on which each condition can be judged
pub record IsBatch (z : TableShape) (zs : List ChunkZones) (tasks : List Task) (o : Options) : Type 0 where
  pub shape : IsShape z
  pub zoned : length zs ≡ chunks z
  pub options : AreOptions (groups z) o
  pub numbers : Rising 1 (map (λ (t : Task). t.query) tasks) 257
  pub scans : All (λ (t : Task). t.query * o.parts ≤ 256) tasks
  pub columns : All (λ (t : Task). NamesColumns (length z.kinds) t.plan) tasks
  pub conditions : All (λ (t : Task). IfSome t.plan.cond (λ c. All (λ chunk. FitsZones c chunk.zones) zs)) tasks

-- THE SETTING of a batch under a policy and its first cursor
abbrev pub batch_setting : TableShape → List ChunkZones → List Task → Options → PolicyName → List ℕ → Setting
batch_setting z zones tasks o name cursor = record {
  needs = map as_need (needs zones o.parts (scans o.workers o.parts tasks));
  chunks = chunks z;
  workers = o.workers;
  frames = o.frames;
  groups = groups z;
  policy = name;
  cursor = cursor;
}

-- The chunks that scans took, by the story.
use Rattle.std.specs.Prelude.{◌≡◌, ℕ, true, List}
use Rattle.table_sets.specs.Sets.{has}
use Rattle.filter_zones.specs.declared.zone.ChunkZones.{ChunkZones}
use Rattle.scan_story.specs.declared.entry.Entry.{Entry}
use Rattle.scan_story.specs.Views.{past, is_ended}
use Rattle.story_laws.specs.Lists.{NoneTwice}
use Rattle.story_laws.specs.Queries.{chunks_delivered}
use Rattle.batch_plan.specs.Scans.{Scan, need_of}
use Rattle.batch_ends.specs.declared.taken.Taken.{Taken}

-- what is told of a scan: its query's number, its part and worker, and the chunks that the story delivered to it, in
-- its order
pub record IsTakenBy (story : List Entry) (k : Scan) (t : Taken) : Type 0 where
  pub query : t.query ≡ k.query
  pub part : t.part ≡ k.part
  pub worker : t.worker ≡ k.worker
  pub chunks : t.chunks.items ≡ chunks_delivered story k.number

-- a scan took chunks of its need, each once; where it has its End, all of them
pub record TookNeed (zones : List ChunkZones) (parts : ℕ) (story : List Entry) (k : Scan) : Type 0 where
  pub asked : (c : ℕ) → has (chunks_delivered story k.number) c ≡ true → has (need_of zones parts k).chunks c ≡ true
  pub once : NoneTwice (chunks_delivered story k.number)
  pub all : is_ended (past story) k.number ≡ true → (c : ℕ) → has (need_of zones parts k).chunks c ≡ true
      → has (chunks_delivered story k.number) c ≡ true

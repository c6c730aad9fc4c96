-- How many entries of each kind there are.
use Rattle.std.specs.Prelude.{◌≡◌, false, true, Bool, List, filter, length}
use Rattle.scan_story.specs.declared.entry.Entry.{Entry}
use Rattle.scan_story.specs.declared.entry.Entry.TheVariants as entries
use Rattle.inspect_referee.specs.declared.counts.Kind.{Kind}
use Rattle.inspect_referee.specs.declared.counts.Kind.TheVariants as kinds
use Rattle.inspect_referee.specs.declared.counts.Counts.{Counts}

-- the entry is of the kind
abbrev pub is_of : Kind → Entry → Bool
is_of kinds.Register (entries.Register w q) = true
is_of kinds.Plan (entries.Plan w q c) = true
is_of kinds.Evict (entries.Evict w c) = true
is_of kinds.Fill (entries.Fill w f p) = true
is_of kinds.Filled (entries.Filled w f p) = true
is_of kinds.Failed (entries.Failed w q p why) = true
is_of kinds.Deliver (entries.Deliver w q c) = true
is_of kinds.Release (entries.Release w q c) = true
is_of kinds.Stop (entries.Stop w q) = true
is_of kinds.End (entries.End w q) = true
is_of _ _ = false

pub record AreCounts (es : List Entry) (n : Counts) : Type 0 where
  pub registers : n.registers ≡ length (filter (is_of kinds.Register) es)
  pub plans : n.plans ≡ length (filter (is_of kinds.Plan) es)
  pub evicts : n.evicts ≡ length (filter (is_of kinds.Evict) es)
  pub fills : n.fills ≡ length (filter (is_of kinds.Fill) es)
  pub filled : n.filled ≡ length (filter (is_of kinds.Filled) es)
  pub failed : n.failed ≡ length (filter (is_of kinds.Failed) es)
  pub delivers : n.delivers ≡ length (filter (is_of kinds.Deliver) es)
  pub releases : n.releases ≡ length (filter (is_of kinds.Release) es)
  pub stops : n.stops ≡ length (filter (is_of kinds.Stop) es)
  pub ends : n.ends ≡ length (filter (is_of kinds.End) es)

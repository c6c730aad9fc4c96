use Rattle.std.proofs.Common.{◌≡◌, ◌+◌, ◌-◌, ◌++◌, List, length}
use Rattle.filter_zones.specs.declared.zone.ChunkZones.{ChunkZones}
use Rattle.filter_zones.specs.Possible.{needed}
use Rattle.batch_plan.specs.Scans.{needs, scans_from_part}
use Rattle.batch_plan.proofs.needs.push_parts.Given as goal

-- the needs of the parts before this one are there
abbrev pub invariant-loop-part : goal.invariant-loop-part
invariant-loop-part l =
    let first = length l.fn.needs.items in
    record {
      count : length l.needs.items ≡ first + l.part;
      needs : (zones : List ChunkZones) → l.chunks ≡ needed l.task.plan.cond zones
          → l.needs.items ++ needs zones l.parts (scans_from_part l.workers l.parts l.task (first + l.part) l.part (l.parts - l.part))
          ≡ l.fn.needs.items ++ needs zones l.parts (scans_from_part l.workers l.parts l.task first 0 l.parts);
    }

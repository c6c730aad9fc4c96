use Rattle.std.proofs.Common.{◌≡◌, ◌≤◌, ◌+◌, ◌*◌, ℕ, List, false, min}
use Rattle.scan_story.specs.Counting.{has}
use Rattle.query_gather.specs.Partial.{FitsPlan, row_count}
use Rattle.batch_ends.specs.Gathered.{Gathered}
use Rattle.batch_run.proofs.Gathering.{GatheredFirst}
use Rattle.batch_run.proofs.rows.add_rows.Given as goal

-- the first rows of the chunk are gathered
abbrev pub invariant-loop-turn : goal.invariant-loop-turn
invariant-loop-turn g l =
    let held = g.S.Origin.origin.held in
    let told = g.C.Content.pieces in
    let c = l.held.given.chunk in
    let done = min (l.turn * 64) l.held.given.rows in
    record {
      same : l.scan ≡ l.fn.scan;
      fits : FitsPlan l.plan l.partial;
      few : row_count l.partial ≤ row_count l.fn.partial + done;
      gathered : (cs : List ℕ) → has cs c ≡ false → Gathered l.shape l.plan held told cs l.fn.partial → GatheredFirst l.shape l.plan held told cs c done l.partial;
    }

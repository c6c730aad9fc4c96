use Rattle.std.proofs.Common.{◌≡◌, ◌++◌, List}
use Rattle.query_meaning.specs.Rows.{AreDistinct}
use Rattle.top_rows.specs.Standing.{numbered}
use Rattle.top_rows.specs.Top.{Stands}
use Rattle.top_rows.proofs.Before.{Row}
use Rattle.top_rows.proofs.Stands.{IsPartly}
use Rattle.top_rows.proofs.top.absorb.Given as goal

abbrev pub invariant-loop-standing : goal.invariant-loop-standing
invariant-loop-standing l = record {
  plan : l.top.plan ≡ l.initial.top.plan;
  stands : (before : List Row) → Stands l.initial.top before → AreDistinct (before ++ numbered l.rows.entries) → IsPartly l.top (numbered l.standing-iterator) (before ++ numbered l.rows.entries);
}

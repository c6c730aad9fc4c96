use Rattle.std.proofs.Common.{◌≡◌, length}
use Rattle.std.specs.Prelude.{map}
use Rattle.chunk_interest.specs.Fresh.{as_need}
use Rattle.scan_story.specs.declared.setting.Setting.{Setting}
use Rattle.inspect_verdict.specs.Words.{IsInside, IsOrder}
use Rattle.inspect_verdict.proofs.workers.order_of.Given as goal

-- so it is said of the workers so far
abbrev pub invariant-loop-worker : goal.invariant-loop-worker
invariant-loop-worker l = record {
  inside : IsInside l.turns (length l.story);
  order : (s : Setting) → s.needs ≡ map as_need l.needs → s.workers ≡ l.workers → IsOrder s l.story l.worker l.turns;
}

use Rattle.std.proofs.Common.{◌≡◌, ◌+◌, ◌*◌, replicate}
use Rattle.prepare_look.specs.Seeing.{none_seen}
use Rattle.prepare_look.proofs.survey.Survey.none.Given as goal

abbrev pub invariant-loop-column : goal.invariant-loop-column
invariant-loop-column l = l.cells.items ≡ replicate (l._column * 25) none_seen

abbrev pub invariant-loop-kind : goal.invariant-loop-kind
invariant-loop-kind l = l.cells.items ≡ replicate (l._column * 25 + l._kind) none_seen

use Rattle.inspect_story.proofs.Lines.{IsBehind}
use Rattle.inspect_story.proofs.begun.behind_entries.Given as goal

abbrev pub invariant-loop-line : goal.invariant-loop-line
invariant-loop-line l = IsBehind l.text l._line l.rest

use Rattle.std.proofs.Common.{◌+◌, ◌≤◌, length}
use Rattle.help_walks.proofs.settings.add_needs.Given as goal

abbrev pub invariant-loop-i : goal.invariant-loop-i
invariant-loop-i l = length l.needs ≤ length l.initial.needs + l.i

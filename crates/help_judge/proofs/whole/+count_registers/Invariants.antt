use Rattle.std.proofs.Common.{length}
use Rattle.help_judge.proofs.whole.+count_registers.Given as goal

abbrev pub decreases-count_registers : goal.decreases-count_registers
decreases-count_registers l = length l.entries.now

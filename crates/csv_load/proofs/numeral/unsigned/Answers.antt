use Rattle.std.proofs.Common.{sym}
use Rattle.csv_load.proofs.Numerals.{unsigned-none}
use Rattle.csv_load.proofs.numeral.unsigned.Goals as goal

pub returns-in-None : goal.returns-in-None
returns-in-None c = sym (unsigned-none c.args.minus c.args.text.now c.in-None.ensures)

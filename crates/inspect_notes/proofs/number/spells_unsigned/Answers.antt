use Rattle.csv_load.proofs.Numerals.{unsigned-none}
use Rattle.inspect_notes.proofs.number.spells_unsigned.Goals as goal

pub returns-in-None : goal.returns-in-None
returns-in-None c = rw (unsigned-none c.args.minus c.args.text.now c.in-None.ensures)

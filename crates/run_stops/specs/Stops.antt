-- The status and the line of each way in which a run stops before it answers.
use Rattle.std.specs.Prelude.{ℕ, List, [], ◌++◌, codes, decimal}
use Rattle.run_stops.specs.declared.stop.Stop.{Stop}
use Rattle.run_stops.specs.declared.stop.Stop.TheVariants as stop

abbrev pub status_of : Stop → ℕ
status_of stop.Usage = 2
status_of stop.TableTooLong = 3
status_of stop.NoHeader = 3
status_of (stop.Columns columns) = 3
status_of (stop.LongName column) = 3
status_of (stop.TwiceNamed first second) = 3
status_of (stop.Ragged row fields) = 3
status_of stop.TooManyRows = 3
status_of (stop.Chunks chunks) = 3
status_of stop.TableFault = 4
status_of stop.BatchFault = 4
status_of (stop.NotStored piece) = 5
status_of (stop.FramesNeeded frames) = 8
status_of (stop.FrameWords words) = 8
status_of stop.BatchTooLong = 9
status_of (stop.Statements statements) = 9
status_of (stop.Scans scans) = 9
status_of stop.Memory = 7

abbrev pub line_of : Stop → List ℕ
line_of stop.Usage = codes "stopped 2: usage\n"
line_of stop.TableTooLong = codes "stopped 3: table text too long\n"
line_of stop.NoHeader = codes "stopped 3: no header\n"
line_of (stop.Columns columns) = codes "stopped 3: " ++ decimal columns ++ codes " columns\n"
line_of (stop.LongName column) = codes "stopped 3: name of column " ++ decimal column ++ codes " too long\n"
line_of (stop.TwiceNamed first second) = codes "stopped 3: columns " ++ decimal first ++ codes " and " ++ decimal second
    ++ codes " have one name\n"
line_of (stop.Ragged row fields) = codes "stopped 3: row " ++ decimal row ++ codes " has " ++ decimal fields
    ++ codes " fields\n"
line_of stop.TooManyRows = codes "stopped 3: too many rows\n"
line_of (stop.Chunks chunks) = codes "stopped 3: " ++ decimal chunks ++ codes " chunks\n"
line_of stop.TableFault = codes "stopped 4: table read fault\n"
line_of stop.BatchFault = codes "stopped 4: batch read fault\n"
line_of (stop.NotStored piece) = codes "stopped 5: piece " ++ decimal piece ++ codes " not stored\n"
line_of (stop.FramesNeeded frames) = codes "stopped 8: " ++ decimal frames ++ codes " frames needed\n"
line_of (stop.FrameWords words) = codes "stopped 8: " ++ decimal words ++ codes " words in frames\n"
line_of stop.BatchTooLong = codes "stopped 9: batch text too long\n"
line_of (stop.Statements statements) = codes "stopped 9: " ++ decimal statements ++ codes " statements\n"
line_of (stop.Scans scans) = codes "stopped 9: " ++ decimal scans ++ codes " scans\n"
line_of stop.Memory = []

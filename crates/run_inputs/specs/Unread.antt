-- Why the words of the command line could not be had.
use Rattle.std.specs.declared.io.ErrorKind.{ErrorKind}
use Rattle.std.specs.declared.io.ErrorKind.TheVariants as kind
use Rattle.run_stops.specs.declared.stop.Stop.{Stop}
use Rattle.run_stops.specs.declared.stop.Stop.TheVariants as stop

-- a word that isn't UTF-8 is a faulty command line, and all else is out of memory
abbrev pub stop_for : ErrorKind → Stop
stop_for kind.InvalidData = stop.Usage
stop_for _ = stop.Memory

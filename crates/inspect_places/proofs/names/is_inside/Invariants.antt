use Rattle.std.proofs.Common.{◌≡◌, length, true}
use Rattle.std.specs.Str.{bytes_eq}
use Rattle.sql_text.specs.Words.{«inside»}
use Rattle.inspect_places.proofs.names.is_inside.Given as goal

abbrev pub invariant-loop-left : goal.invariant-loop-left
invariant-loop-left l = bytes_eq («inside» l.quote l.is_open l.left) l.wanted ≡ bytes_eq («inside» l.quote true l.«inside») l.name

abbrev pub decreases-loop-left : goal.decreases-loop-left
decreases-loop-left l = length l.left

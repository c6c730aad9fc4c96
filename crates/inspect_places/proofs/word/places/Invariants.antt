use Rattle.std.proofs.Common.{◌≡◌, length}
use Rattle.sql_text.specs.Words.{places_of}
use Rattle.inspect_places.proofs.word.places.Given as goal

abbrev pub invariant-loop-digits : goal.invariant-loop-digits
invariant-loop-digits l = places_of l.digits ≡ places_of l.fn.digits

abbrev pub decreases-loop-digits : goal.decreases-loop-digits
decreases-loop-digits l = length l.digits

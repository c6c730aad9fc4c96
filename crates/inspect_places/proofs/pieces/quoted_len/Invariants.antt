use Rattle.std.proofs.Common.{◌≡◌, true, false, Some, drop}
use Rattle.sql_tokens.proofs.Quotes.{last_close, behind}
use Rattle.inspect_places.proofs.pieces.quoted_len.Given as goal

abbrev pub invariant-loop-i : goal.invariant-loop-i
invariant-loop-i l =
    (behind l.best l.i (last_close l.quote l.is_open (drop l.i l.bytes)) ≡ last_close l.quote true l.bytes) × (l.is_open ≡ false → l.best ≡ Some l.i)

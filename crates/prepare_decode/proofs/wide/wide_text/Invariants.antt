use Rattle.std.proofs.Common.{◌≡◌, ◌*◌, ◌-◌, ◌≤◌, drop, length, string_bytes}
use Rattle.std.specs.Char.Utf16.{utf16_chars}
use Rattle.prepare_decode.specs.Decoding.{wide}
use Rattle.prepare_decode.proofs.Going.{joined}
use Rattle.prepare_decode.proofs.wide.wide_text.Given as goal

abbrev pub invariant-loop-at : goal.invariant-loop-at
invariant-loop-at l = record {
  within : l.at ≤ length l.units;
  joins : joined (string_bytes l.text) (wide l.is_half (l.at * 2) (utf16_chars (drop l.at l.units))) ≡ wide l.is_half 0 (utf16_chars l.units);
}

abbrev pub decreases-loop-at : goal.decreases-loop-at
decreases-loop-at l = length l.units - l.at

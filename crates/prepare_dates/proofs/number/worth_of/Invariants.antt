use Rattle.std.proofs.Common.{◌≡◌, ◌<◌, ◌^◌, drop, true}
use Rattle.std.specs.Char.{is_ascii_digit}
use Rattle.std.specs.List.{list_all}
use Rattle.std.specs.Str.Parse.{digits_value, digits_value_after}
use Rattle.prepare_dates.proofs.number.worth_of.Given as goal

abbrev pub invariant-loop-i : goal.invariant-loop-i
invariant-loop-i l = record {
  value : digits_value_after 10 l.worth (drop l.i l.digits) ≡ digits_value 10 l.digits;
  are : list_all is_ascii_digit (drop l.i l.digits) ≡ true;
  bound : l.worth < 10 ^ l.i;
}

-- A date that is written is the day that it was.
use Rattle.std.proofs.Common.{◌≡◌}
use Rattle.prepare_dates.proofs.Back.{reads-back}
use Rattle.prepare_rules.specs.Dates.{KeepsDay}

pub keeps-day : KeepsDay
keeps-day order other field d h = rw h (reads-back order other field d h)

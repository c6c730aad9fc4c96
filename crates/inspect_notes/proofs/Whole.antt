-- The part of all rows.
use Rattle.std.proofs.Common.{◌≡◌, ◌-◌, ℕ, List, arith, length}
use Rattle.std.proofs.lemmas.List.{take_all}
use Rattle.filter_zones.specs.Zone.{part}

pub whole : {T : Type 0} (rows : List T) (to : ℕ) → to ≡ length rows → part 0 to rows ≡ rows
whole rows to is = take_all (to - 0) rows (omega (arith, is))

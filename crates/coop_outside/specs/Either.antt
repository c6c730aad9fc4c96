-- What a depot in memory or in a file tells, and its counts.
use Rattle.std.specs.Prelude.{ℕ, Some, None}
use Rattle.coop_outside.specs.Pieces.{Stored}
use Rattle.coop_outside.specs.Real.{depot_faults, depot_gets}
use Rattle.coop_outside.specs.declared.any_depot.AnyDepot.{AnyDepot}
use Rattle.coop_outside.specs.declared.any_depot.AnyDepot.TheVariants.{Mem, Scratch}

-- the pieces of a depot in memory
abbrev pub any_held : {R : Type 0} → AnyDepot R → Stored
any_held (Mem depot) = Some depot.pieces.entries
any_held (Scratch depot) = None

abbrev pub any_gets : {R : Type 0} → AnyDepot R → ℕ
any_gets (Mem depot) = depot.gets
any_gets (Scratch depot) = depot_gets depot

abbrev pub any_faults : {R : Type 0} → AnyDepot R → ℕ
any_faults (Mem depot) = depot.faults
any_faults (Scratch depot) = depot_faults depot

-- Records that are known.
use Rattle.std.specs.Prelude.{◌≡◌, ⊤, ℕ, List, Option, Some, None}
use Rattle.prepare_rules.specs.declared.failure.Failure.{Failure}
use Rattle.prepare_rules.specs.declared.failure.Failure.TheVariants as failure
use Rattle.prepare_text.specs.Walk.{Lined}
use Rattle.prepare_text.specs.declared.fault.Fault.{Fault}
use Rattle.prepare_text.specs.declared.fault.Fault.TheVariants as fault

-- the fields of a record
abbrev pub Record : Type 0
Record = List (List ℕ)

-- these known records are left
abbrev pub IsLeft : Option (List Lined) → Option (List Lined) → Type 0
IsLeft None new = ⊤
IsLeft (Some rows) None = ⊥
IsLeft (Some rows) (Some rest) = rest ≡ rows

-- what breaks off the reading breaks off the preparation
abbrev pub failure_of : Fault → Failure
failure_of fault.Input = failure.Input
failure_of fault.TooLong = failure.TooLong
failure_of fault.Memory = failure.Memory

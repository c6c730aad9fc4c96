-- The depot that a command line asks for.
use Rattle.std.specs.Prelude.{◌≡◌, Bool, true, false, ℕ, List, [], Option, Some, None}
use Rattle.coop_outside.specs.Real.{depot_faults, depot_gets, depot_name}
use Rattle.coop_outside.specs.declared.any_depot.AnyDepot.{AnyDepot}
use Rattle.coop_outside.specs.declared.any_depot.AnyDepot.TheVariants.{Mem, Scratch}
use Rattle.coop_outside.specs.declared.mem_depot.MemDepot.{MemDepot}
use Rattle.coop_outside.specs.declared.scratch_depot.ScratchDepot.{ScratchDepot}

-- whether the depot is a file, and not memory
abbrev pub is_in_file : {R : Type 0} → AnyDepot R → Bool
is_in_file (Mem depot) = false
is_in_file (Scratch depot) = true

-- a depot in memory without pieces, which fails at no call and has counted nothing
pub record IsNewMemory (depot : MemDepot) : Type 0 where
  pub pieces : depot.pieces.entries ≡ []
  pub fail_puts : depot.fail_puts.items ≡ []
  pub fail_gets : depot.fail_gets.items ≡ []
  pub gets : depot.gets ≡ 0
  pub faults : depot.faults ≡ 0

-- a depot in a file of this name that has counted nothing
pub record IsNewFile {R : Type 0} (asked : List ℕ) (depot : ScratchDepot R) : Type 0 where
  pub name : depot_name depot ≡ asked
  pub gets : depot_gets depot ≡ 0
  pub faults : depot_faults depot ≡ 0

-- THE NEW DEPOT where a name of a file may be asked for: a file of that name, or memory
abbrev pub IsNewFor : {R : Type 0} → Option (List ℕ) → AnyDepot R → Type 0
IsNewFor None (Mem depot) = IsNewMemory depot
IsNewFor (Some name) (Scratch depot) = IsNewFile name depot
IsNewFor _ _ = ⊥

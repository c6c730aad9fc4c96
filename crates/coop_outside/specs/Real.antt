-- The counts of faults of the devices over the system, and the name of the depot's file.
use Rattle.std.specs.Prelude.{List, ℕ, string_bytes}
use Rattle.coop_outside.specs.declared.disk_shelf.DiskShelf.{DiskShelf}
use Rattle.coop_outside.specs.declared.scratch_depot.ScratchDepot.{ScratchDepot}
use Rattle.coop_outside.specs.declared.stdout_sink.StdoutSink.{StdoutSink}

-- how many faults the shelf of the system's files has counted
abbrev pub shelf_faults : {R : Type 0} → DiskShelf R → ℕ
shelf_faults shelf = shelf.faults

-- how many faults standard output has counted
abbrev pub sink_faults : {R : Type 0} → StdoutSink R → ℕ
sink_faults sink = sink.faults

-- how many gets and how many faults the depot in a file has counted
abbrev pub depot_gets : {R : Type 0} → ScratchDepot R → ℕ
depot_gets depot = depot.gets

abbrev pub depot_faults : {R : Type 0} → ScratchDepot R → ℕ
depot_faults depot = depot.faults

-- the name of the file of the depot, in bytes
abbrev pub depot_name : {R : Type 0} → ScratchDepot R → List ℕ
depot_name depot = string_bytes depot.store.path

-- The devices of a run, as their traits tell them.
use Rattle.std.specs.Prelude.{◌≡◌, ℕ, List, Option, Some}
use Rattle.coop_outside.specs.Causes.{Rose}
use Rattle.coop_outside.specs.declared.depot.Depot.{Ghosts as Depot}
use Rattle.coop_outside.specs.declared.shelf.Shelf.{Ghosts as Shelf}
use Rattle.coop_outside.specs.declared.sink.Sink.{Ghosts as Sink}
use Rattle.batch_ends.specs.Lost.{Tells}
use Rattle.run_ends.specs.Devices.{DepotAt, OverShelf, OverSink, depot_at, over_shelf, over_sink}

-- a depot before a run and after it
pub record OverDepot : Type 0 where
  pub old : DepotAt
  pub new : DepotAt

-- THE DEVICES OF A RUN: what each held and counted, before and after
pub record Devices : Type 0 where
  pub shelf : OverShelf
  pub depot : OverDepot
  pub sink : OverSink

-- what a device of a type tells of itself, before and after
abbrev pub shelf_over : {F : Type 0} → Shelf F → F → F → OverShelf
shelf_over F old new = over_shelf (F.held old) (F.faults old) (F.faults new)

abbrev pub depot_over : {D : Type 0} → Depot D → D → D → OverDepot
depot_over D old new = record {
  old = depot_at (D.held old) (D.gets old) (D.faults old);
  new = depot_at (D.held new) (D.gets new) (D.faults new);
}

abbrev pub sink_over : {O : Type 0} → Sink O → O → O → OverSink
sink_over O old new = over_sink (O.taken old) (O.taken new) (O.faults old) (O.faults new)

-- the devices of a run: of each its type, and the device before and after
abbrev pub devices : {F D O : Type 0} → Shelf F → F → F → Depot D → D → D → Sink O → O → O → Devices
devices F shelf shelf' D depot depot' O sink sink' = record {
  shelf = shelf_over F shelf shelf';
  depot = depot_over D depot depot';
  sink = sink_over O sink sink';
}

-- a shelf and a depot that tell what they hold
pub record AreHonest (over : Devices) (files : List ℕ → Option (List ℕ)) : Type 0 where
  pub shelf_tells : over.shelf.held ≡ Some files
  pub depot_tells : Tells over.depot.old.held

-- no device counted a fault, or stands at its last value
pub record AreFaultless (over : Devices) : Type 0 where
  pub shelf_is : Rose over.shelf.before over.shelf.now → ⊥
  pub depot_is : Rose over.depot.old.faults over.depot.new.faults → ⊥
  pub sink_is : Rose over.sink.before over.sink.now → ⊥

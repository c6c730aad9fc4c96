-- What each device tells of itself over a run.
use Rattle.std.specs.Prelude.{ℕ, List, Option}
use Rattle.coop_outside.specs.Held.{Held}
use Rattle.coop_outside.specs.Pieces.{Stored}

-- a shelf: what it holds, which no call changes, and its count of faults before and after
pub record OverShelf : Type 0 where
  pub held : Held
  pub before : ℕ
  pub now : ℕ

abbrev pub over_shelf : Held → ℕ → ℕ → OverShelf
over_shelf held before now = record { held = held; before = before; now = now }

-- a depot at one moment: what it holds, its count of gets, and that of its faults
pub record DepotAt : Type 0 where
  pub held : Stored
  pub gets : ℕ
  pub faults : ℕ

abbrev pub depot_at : Stored → ℕ → ℕ → DepotAt
depot_at held gets faults = record { held = held; gets = gets; faults = faults }

-- a sink: the bytes that it took and its count of faults, before and after
pub record OverSink : Type 0 where
  pub old : Option (List ℕ)
  pub new : Option (List ℕ)
  pub before : ℕ
  pub now : ℕ

abbrev pub over_sink : Option (List ℕ) → Option (List ℕ) → ℕ → ℕ → OverSink
over_sink old new before now = record { old = old; new = new; before = before; now = now }

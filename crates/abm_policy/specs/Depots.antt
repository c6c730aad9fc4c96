-- What a desk knows of its depot, here and out with a ticket.
use Rattle.std.specs.Prelude.{◌≡◌, ◌+◌, ◌-◌, ◌^◌, ◌≤◌, ℕ, Bool, false, Option, None, Some, is_some}
use Rattle.scan_story.specs.declared.entry.Why.{Why}
use Rattle.scan_story.specs.declared.entry.Why.TheVariants.{Fault, Damage}
use Rattle.scan_story.specs.declared.origin.Start.{Start}
use Rattle.scan_story.specs.declared.view.Load.{Load}
use Rattle.scan_story.specs.Views.{History}
use Rattle.scan_story.specs.MayFollow.{IsRise}
use Rattle.scan_story.specs.Spent.{reads}
use Rattle.scan_story.specs.Causes.{Licensed, last_fault}
use Rattle.coop_outside.specs.Pieces.{Stored}

-- how a depot is seen: what it tells that it holds, how many gets there were, and its count of faults
pub record DepotView : Type 0 where
  pub held : Stored
  pub gets : ℕ
  pub faults : ℕ

abbrev pub depot_view : Stored → ℕ → ℕ → DepotView
depot_view held gets faults = record { held = held; gets = gets; faults = faults }

-- the origin's depot told what it held
abbrev pub tells : Start → Bool
tells o = is_some o.held

-- the depot holds what the origin's held, was read once for each Filled and Failed since, and the faults are its own
pub record Agrees (o : Start) (h : History) (d : DepotView) : Type 0 where
  pub held : d.held ≡ o.held
  pub gets : d.gets ≡ o.gets + reads h
  pub licensed : Licensed (tells o) o.faults d.faults h

-- a depot as it is handed out with a ticket of n slots: its gets leave room for n more
pub record IsHandedOut (o : Start) (h : History) (n : ℕ) (d : DepotView) : Type 0 where
  pub agrees : Agrees o h d
  pub faults : last_fault o.faults h ≤ d.faults
  pub room : d.gets + n ≤ 2 ^ 64 - 1

-- a depot as it comes back, after n reads that the history doesn't record yet
pub record ComesBack (o : Start) (h : History) (n : ℕ) (d : DepotView) : Type 0 where
  pub held : d.held ≡ o.held
  pub gets : d.gets ≡ o.gets + reads h + n
  pub faults : last_fault o.faults h ≤ d.faults

-- why a read may be said to have failed: the depot's count rose between the last fault of the history and now, or a
-- piece is damaged, which is never said of a depot that tells what it holds
abbrev pub MayReport : Start → History → ℕ → Why → Type 0
MayReport o h now (Fault before after) = (last_fault o.faults h ≤ before) × IsRise before after × (after ≤ now)
MayReport o h now (Damage word) = tells o ≡ false

-- the depot is here exactly where no load is underway; while it is out, the story is licensed up to its own last fault
abbrev pub HasDepot : Start → History → Option Load → Option DepotView → Type 0
HasDepot o h None (Some d) = Agrees o h d
HasDepot o h (Some l) None = Licensed (tells o) o.faults (last_fault o.faults h) h
HasDepot o h None None = ⊥
HasDepot o h (Some l) (Some d) = ⊥

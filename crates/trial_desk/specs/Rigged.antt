-- What a desk on trial remembers.
use Rattle.std.specs.Prelude.{◌≡◌, ◌==◌, ◌&&◌, false, ◌+◌, ◌-◌, ◌^◌, ◌<◌, ◌≤◌, ⊤, ℕ, []}
use Rattle.std.specs.Prelude.{List, Option, None, Some, IfSome, length, slice_index_or}
use Rattle.scan_story.specs.declared.entry.Entry.{Entry}
use Rattle.scan_story.specs.declared.entry.Why.{Why}
use Rattle.scan_story.specs.declared.entry.Why.TheVariants.{Fault, Damage}
use Rattle.scan_story.specs.declared.origin.Start.{Start}
use Rattle.scan_story.specs.declared.setting.PolicyName.{PolicyName}
use Rattle.scan_story.specs.declared.setting.Setting.{Setting}
use Rattle.scan_story.specs.declared.view.Load.{Load}
use Rattle.std.specs.List.{list_any}
use Rattle.scan_story.specs.Setting.{worker_of}
use Rattle.scan_story.specs.Views.{History, past, held_by, is_registered, is_active}
use Rattle.scan_story.specs.Loads.{underway}
use Rattle.scan_story.specs.MayFollow.{IsRise}
use Rattle.scan_story.specs.Spent.{reads}
use Rattle.scan_story.specs.Causes.{last_fault}
use Rattle.abm_policy.specs.Loads.{load_at, pieces}
use Rattle.abm_policy.specs.Turns.{RunsOn}
use Rattle.trial_desk.specs.declared.seat.Seat.{Seat}
use Rattle.trial_desk.specs.declared.out.Out.{Out}

-- the setting under a policy of this name and first cursor
abbrev pub under : Setting → PolicyName → List ℕ → Setting
under s name cursor = record s { policy = name; cursor = cursor }

-- of a worker that has done nothing
abbrev pub empty_seat : Seat
empty_seat = record { on = None; holds = None }

-- what is remembered of the worker is so
pub record IsSeat (s : Setting) (h : History) (w : ℕ) (seat : Seat) : Type 0 where
  pub holds : seat.holds ≡ held_by h w
  pub on : IfSome seat.on (λ q. RunsOn s h q w)

abbrev pub AreSeats : Setting → History → List Seat → Type 0
AreSeats s h seats = (w : ℕ) → w < 32 → IsSeat s h w (slice_index_or seats w empty_seat)

-- the need of the query names the worker, the query was never registered, and no query is active on the worker
pub record IsNext (s : Setting) (h : History) (w q : ℕ) : Type 0 where
  pub on : worker_of s q ≡ Some w
  pub first : is_registered h q ≡ false
  pub alone : list_any (λ n. n.worker == w && is_active h n.query) s.needs ≡ false

-- the load is out, and nothing was read for it: the depot had so many reads, and the last fault was this one
pub record IsOut (o : Start) (u : Option Load) (r f : ℕ) (out : Out) : Type 0 where
  pub load : u ≡ Some (load_at out.worker out.query out.chunk (pieces out.slots) out.slots [])
  pub told : o.held ≡ None
  pub gets : out.depot.inner.gets ≡ o.gets + r
  pub faults : f ≤ out.depot.inner.faults
  pub room : out.depot.inner.gets + length out.slots ≤ 2 ^ 64 - 1

abbrev pub MayBeOut : Start → Option Load → ℕ → ℕ → Option Out → Type 0
MayBeOut o u r f None = u ≡ None
MayBeOut o u r f (Some out) = IsOut o u r f out

-- what is remembered is so, and so is the load that is out, if any
pub record IsRigged (o : Start) (es : List Entry) (seats : List Seat) (out : Option Out) : Type 0 where
  pub told : o.held ≡ None
  pub count : length seats ≡ 32
  pub remembered : AreSeats o.setting (past es) seats
  pub loading : MayBeOut o (underway o.setting (past es)) (reads (past es)) (last_fault o.faults (past es)) out

-- why a read failed, between two counts of faults
abbrev pub IsReport : ℕ → ℕ → Why → Type 0
IsReport from to (Fault before after) = (from ≤ before) × IsRise before after × (after ≤ to)
IsReport from to (Damage word) = ⊤

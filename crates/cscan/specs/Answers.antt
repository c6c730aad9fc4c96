-- What a scan's calls add to the story, and what `next` answers.
use Rattle.std.specs.Prelude.{◌≡◌, ◌⊎◌, ◌++◌, ◌∷◌, [], true, false, ℕ, Bool, List, None, Some}
use Rattle.scan_story.specs.declared.cause.Cause.{Cause}
use Rattle.scan_story.specs.declared.cause.Cause.TheVariants.{Memory}
use Rattle.scan_story.specs.declared.entry.Entry.{Entry}
use Rattle.scan_story.specs.declared.entry.Entry.TheVariants.{Plan, Evict, Fill, Filled, Failed}
use Rattle.scan_story.specs.declared.entry.Entry.TheVariants.{Deliver, Release, Stop, End}
use Rattle.scan_story.specs.declared.origin.Start.{Start}
use Rattle.scan_story.specs.declared.setting.Setting.{Setting}
use Rattle.scan_story.specs.Counting.{has}
use Rattle.scan_story.specs.Views.{past, is_stopped}
use Rattle.scan_story.specs.Numbers.{needed}
use Rattle.scan_story.specs.MayFollow.{is_ready}
use Rattle.scan_story.specs.Causes.{cause_of}
use Rattle.story_laws.specs.Queries.{chunks_delivered}
use Rattle.baton.specs.Passes.{PassView, Went}
use Rattle.frame_pool.specs.Frames.{Told}
use Rattle.cscan.specs.declared.delivery.Delivery.{Delivery}
use Rattle.cscan.specs.declared.next.Next.{Next}
use Rattle.cscan.specs.declared.next.Next.TheVariants as next
use Rattle.cscan.specs.declared.scan.CScan.{CScan}
use Rattle.cscan.specs.Scans.{IsScan, IsOver}

-- the delivery of a chunk to a query on a worker
abbrev pub delivery_to : ℕ → ℕ → ℕ → Delivery
delivery_to w q c = record { worker = w; query = q; chunk = c }

-- the entry is one of a load: no Register, Deliver, Release, Stop or End
abbrev pub is_of_load : Entry → Bool
is_of_load (Plan w q c) = true
is_of_load (Evict w c) = true
is_of_load (Fill w f p) = true
is_of_load (Filled w f p) = true
is_of_load (Failed w q p why) = true
is_of_load _ = false

-- each entry is one of a load
abbrev pub AreOfLoads : List Entry → Type 0
AreOfLoads [] = Unit {0}
AreOfLoads (e ∷ es) = (is_of_load e ≡ true) × AreOfLoads es

-- after loads the worker was delivered the chunk, which was available to the query and not among those that the worker
-- had taken for it
pub record TakesChunk (s : Setting) (w q : ℕ) (p r : PassView) (c : ℕ) : Type 0 where
  pub loads : List Entry
  pub only_loads : AreOfLoads loads
  pub went : Went p r (loads ++ Deliver w q c ∷ [])
  pub before : List Entry
  pub seen : r.seen ≡ before ++ Deliver w q c ∷ []
  pub ready : is_ready s (past before) q c ≡ true
  pub fresh : has (chunks_delivered p.mine q) c ≡ false
  pub taken : chunks_delivered r.mine q ≡ chunks_delivered p.mine q ++ c ∷ []

-- after loads the query, which wasn't stopped and needed nothing more, was ended
pub record Ends (s : Setting) (w q : ℕ) (p r : PassView) : Type 0 where
  pub loads : List Entry
  pub only_loads : AreOfLoads loads
  pub went : Went p r (loads ++ End w q ∷ [])
  pub before : List Entry
  pub seen : r.seen ≡ before ++ End w q ∷ []
  pub not_stopped : is_stopped (past before) q ≡ false
  pub needs_nothing : needed s (past before) q ≡ 0
  pub taken : chunks_delivered r.mine q ≡ chunks_delivered p.mine q

-- after loads the query was found stopped, for the first cause that the story has
pub record FindsStopped (q : ℕ) (p r : PassView) (cause : Cause) : Type 0 where
  pub loads : List Entry
  pub only_loads : AreOfLoads loads
  pub went : Went p r loads
  pub first : cause_of (past r.seen) q ≡ Some cause
  pub taken : chunks_delivered r.mine q ≡ chunks_delivered p.mine q

-- the worker made its entry alone, which is now the last one of the story
pub record AddsOne (e : Entry) (p r : PassView) : Type 0 where
  pub went : Went p r (e ∷ [])
  pub before : List Entry
  pub seen : r.seen ≡ before ++ e ∷ []

-- the chunk was released
abbrev pub Releases : ℕ → ℕ → PassView → PassView → ℕ → Type 0
Releases w q p r c = AddsOne (Release w q c) p r

-- the query was stopped when out of memory; else the story had stopped it, and nothing was added
abbrev pub IsStoppedBy : ℕ → ℕ → PassView → PassView → Cause → Type 0
IsStoppedBy w q p r cause = (cause_of (past r.seen) q ≡ Some cause)
    × (Went p r [] ⊎ (AddsOne (Stop w q) p r × (cause ≡ Memory)))

module _ {S C P D T K : Type 0} where
  -- what an answer of `next` says
  abbrev pub Answered : Start → Told → CScan S C P D T K → CScan S C P D T K → Next → Type 0
  Answered o told old new (next.Chunk held delivery) = (new.out ≡ Some held.given) × IsScan o told new
      × TakesChunk o.setting old.station.now.number old.query old.station.now.pass new.station.now.pass held.given.chunk
      × (delivery ≡ delivery_to new.station.now.number new.query held.given.chunk)
  Answered o told old new next.Done = (new.out ≡ None) × IsOver o new.baton.now new.pool.now new.query new.station.now
      × Ends o.setting old.station.now.number old.query old.station.now.pass new.station.now.pass
  Answered o told old new (next.Stopped cause) = (new.out ≡ None)
      × IsOver o new.baton.now new.pool.now new.query new.station.now
      × FindsStopped old.query old.station.now.pass new.station.now.pass cause

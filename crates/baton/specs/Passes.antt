-- What contracts see of a baton and of its passes.
use Rattle.std.specs.Prelude.{ℕ, zero, suc, ◌≡◌, Bool, false, Option, List, [], ◌∷◌, ◌++◌}
use Rattle.atomic_table.specs.Seated.{TableId}
use Rattle.crossbeam_queue.specs.declared.array_queue.Doing.{Doing}
use Rattle.crossbeam_queue.specs.declared.array_queue.Slotted.{Slotted}
use Rattle.crossbeam_queue.specs.Passes.{Pass as Seat, view}
use Rattle.scan_story.specs.declared.entry.Entry.{Entry}
use Rattle.scan_story.specs.declared.origin.Start.{Start}
use Rattle.scan_story.specs.Makers.{entries_by, StartsWith}
use Rattle.baton.specs.declared.view.Role.TheVariants.{Worker}
use Rattle.baton.specs.declared.view.Share.{Share}
use Rattle.baton.specs.declared.view.View.{View}
use Rattle.baton.specs.Shares.{Agrees}

-- a pass: of which baton it is, its worker's number, the origin of the state, the story as the worker has seen it last,
-- the worker's own entries in their order, and whether the worker has the state
pub record PassView : Type 0 where
  pub baton : TableId
  pub number : ℕ
  pub origin : Start
  pub seen : List Entry
  pub mine : List Entry
  pub holding : Bool

abbrev pub share_of : PassView → Share
share_of p = record { number = p.number; origin = p.origin; seen = p.seen; mine = p.mine }

-- a state of the origin and story agrees with the pass: the origin is the pass's, the story begins with what was seen,
-- and the entries of the pass's number in it are its own
abbrev pub AgreesWith : Start → List Entry → PassView → Type 0
AgreesWith o story p = Agrees o story (share_of p)

-- of this baton, and not holding
abbrev pub IsFree : TableId → PassView → Type 0
IsFree id p = (p.baton ≡ id) × (p.holding ≡ false)

-- the pass p after turns of its worker, in which it made these entries: it is free, and has seen more, if anything
pub record Went (p q : PassView) (added : List Entry) : Type 0 where
  pub baton : q.baton ≡ p.baton
  pub number : q.number ≡ p.number
  pub origin : q.origin ≡ p.origin
  pub free : q.holding ≡ false
  pub seen : StartsWith q.seen p.seen
  pub mine : q.mine ≡ p.mine ++ added

-- the pass of worker n, which has seen the story and made those entries of it that are its own
abbrev pub new_pass : TableId → ℕ → Start → List Entry → PassView
new_pass id n o story = record {
  baton = id;
  number = n;
  origin = o;
  seen = story;
  mine = entries_by n story;
  holding = false;
}

-- such a pass for each of so many workers, by number
abbrev pub new_passes : TableId → Start → List Entry → ℕ → List PassView
new_passes id o story zero = []
new_passes id o story (suc n) = new_passes id o story n ++ new_pass id n o story ∷ []

module _ {T : Type 0} where
  abbrev pub pass_view : Seat T View → PassView
  pass_view p = record {
    baton = p.table_id;
    number = (view p).share.number;
    origin = (view p).share.origin;
    seen = (view p).share.seen;
    mine = (view p).share.mine;
    holding = (view p).holding;
  }

  -- between two calls: a worker's, whose own entries are exactly those of its number in what it has seen
  abbrev pub IsPass : Seat T View → Type 0
  IsPass p = (p.me.1 ≡ []) × ((view p).role ≡ Worker)
      × (entries_by (view p).share.number (view p).share.seen ≡ (view p).share.mine)

abbrev pub line_id : {T Q A : Type 0} → Slotted (Option T) (Doing T View) Q A → TableId
line_id q = q.table.shared.table_id

-- One story that workers add to in turns: what holds at every moment of the queue that holds the state.
use Rattle.std.specs.Prelude.{ℕ, ◌≡◌, ◌≢◌, ◌≤◌, ◌+◌, ◌⊎◌, Bool, true, false, List, [], ◌∷◌, length, None, Some}
use mathlib.Core.Option.{some}
use lib.ListN.{get_elem?}
use Rattle.scan_story.specs.declared.entry.Entry.{Entry}
use Rattle.scan_story.specs.declared.origin.Start.{Start}
use Rattle.scan_story.specs.Setting.{nowhere}
use Rattle.baton.specs.declared.view.Role.TheVariants.{Dealer, Worker}
use Rattle.baton.specs.declared.view.Share.{Share}
use Rattle.baton.specs.declared.view.View.{View}
use Rattle.baton.specs.Shares.{Agrees, up_to_date}

-- the pass of a worker with the share
abbrev pub worker : Share → Bool → View
worker k holding = record { role = Worker; share = k; holding = holding; told = None }

-- the pass that deals a pass to worker n next
abbrev pub dealer : ℕ → Start → List Entry → Bool → View
dealer n o story holding =
    record {
      role = Dealer;
      share =
          record { number = n; origin = o; seen = story; mine = [] };
      holding = holding;
      told = None;
    }

-- the first pass, before any state is there
abbrev pub unmade : View
unmade = dealer 0 nowhere [] true

-- what the pass has seen agrees with what it was told
abbrev pub AgreesWithTold : View → Type 0
AgreesWithTold v = (k : Share) → v.told ≡ Some k → Agrees v.share.origin v.share.seen k

-- what holds of a worker's pass at a port, where `story` is the story so far. The dealer has port 0, and the workers
-- follow by number. A pass was told something only while it holds
pub record IsWorkers (o : Start) (story : List Entry) (port : ℕ) (v : View) : Type 0 where
  pub number : v.share.number + 1 ≡ port
  pub agrees : Agrees o story v.share
  pub told : (k : Share) → v.told ≡ Some k → (v.holding ≡ true) × Agrees v.share.origin v.share.seen k

-- what holds of the dealer, among so many passes: no worker that has no pass yet has added anything since
pub record IsDealers (o : Start) (story : List Entry) (passes : ℕ) (port : ℕ) (v : View) : Type 0 where
  pub first : port ≡ 0
  pub dealt : v.share.number + 1 ≡ passes
  pub agrees : (n : ℕ) → v.share.number ≤ n → Agrees o story (up_to_date n v.share.origin v.share.seen)

abbrev pub Fits : Start → List Entry → ℕ → ℕ → View → Type 0
Fits o story passes port v = (v.role ≡ Worker → IsWorkers o story port v)
    × (v.role ≡ Dealer → IsDealers o story passes port v)

-- the queue is empty, and exactly one pass is holding, which has seen the story
pub record IsOut {T : Type 0} (story : List Entry) (items : List T) (views : List View) : Type 0 where
  pub empty : items ≡ []
  pub port : ℕ
  pub holder : View
  pub there : get_elem? views port ≡ some holder
  pub holds : holder.holding ≡ true
  pub seen : holder.share.seen ≡ story
  pub others : (p : ℕ) (v : View) → get_elem? views p ≡ some v → p ≢ port → v.holding ≡ false

module _ {T : Type 0} (origin_of : T → Start) (story_of : T → List Entry) where
  -- the queue has one state, of this origin and story, and no pass is holding
  pub record LiesThere (o : Start) (story : List Entry) (items : List T) (views : List View) : Type 0 where
    pub state : T
    pub alone : items ≡ state ∷ []
    pub origin : origin_of state ≡ o
    pub told : story_of state ≡ story
    pub nobody : (p : ℕ) (v : View) → get_elem? views p ≡ some v → v.holding ≡ false

  -- the state lies in the queue or one pass is holding, and each pass agrees with the origin and the story so far
  pub record OneStory (items : List T) (views : List View) : Type 0 where
    pub origin : Start
    pub story : List Entry
    pub state : LiesThere origin story items views ⊎ IsOut story items views
    pub passes : (p : ℕ) (v : View) → get_elem? views p ≡ some v → Fits origin story (length views) p v

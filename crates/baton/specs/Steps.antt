-- The steps on the queue, and what each leaves of the passes that make it.
use Rattle.std.specs.Prelude.{◌≡◌, ◌+◌, true, false, List, None, Some}
use Rattle.scan_story.specs.declared.entry.Entry.{Entry}
use Rattle.scan_story.specs.declared.origin.Start.{Start}
use Rattle.baton.specs.declared.view.Role.TheVariants.{Worker, Gone}
use Rattle.baton.specs.declared.view.Share.{Share}
use Rattle.baton.specs.declared.view.View.{View}
use Rattle.baton.specs.Shares.{Agrees, up_to_date, nothing}
use Rattle.baton.specs.Rule.{worker, dealer}

-- the worker has seen the story
abbrev pub sees : List Entry → Share → Share
sees story k = record { number = k.number; origin = k.origin; seen = story; mine = k.mine }

module _ {T : Type 0} (origin_of : T → Start) (story_of : T → List Entry) where
  -- the dealer laid the first state down
  abbrev pub Laid : View → T → View → Type 0
  Laid v x w = w ≡ dealer 0 (origin_of x) (story_of x) false

  -- a worker took the state, which agrees with what the worker knows
  abbrev pub Took : View → T → View → Type 0
  Took v x w = Agrees (origin_of x) (story_of x) v.share × (w ≡ worker (sees (story_of x) v.share) true)

-- a worker gave the state back
abbrev pub Gave : {T : Type 0} → (T → List Entry) → View → T → View → Type 0
Gave story_of v x w = w ≡ worker (up_to_date v.share.number v.share.origin (story_of x)) false

-- the dealer dealt a pass to the next worker, which has seen what the dealer has
abbrev pub dealer_after : View → View
dealer_after v = dealer (v.share.number + 1) v.share.origin v.share.seen v.holding

abbrev pub dealt_by : View → View
dealt_by v = worker (up_to_date v.share.number v.share.origin v.share.seen) false

-- the pass v took over the pass w
abbrev pub told_of : View → View → View
told_of v w = record { role = Worker; share = v.share; holding = v.holding; told = Some w.share }

abbrev pub gone : View
gone = record { role = Gone; share = nothing; holding = false; told = None }

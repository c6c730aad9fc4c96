-- What a referee knows of the entries that it has seen.
use Rattle.std.specs.Prelude.{◌≡◌, ◌<◌, ◌≤◌, ◌-◌, ◌^◌, ℕ, length, take}
use Rattle.scan_story.specs.declared.entry.Entry.{Entry}
use Rattle.scan_story.specs.declared.entry.Entry.TheVariants.{Deliver, Release}
use Rattle.scan_story.specs.declared.setting.Setting.{Setting}
use Rattle.scan_story.specs.Views.{History, past}
use Rattle.scan_story.specs.Loads.{underway}
use Rattle.scan_story.specs.Legal.{cursor_at}
use Rattle.interest_book.specs.Held.{AreHolds}
use Rattle.interest_book.specs.Stands.{Stands}
use Rattle.inspect_referee.specs.Choices.{LegalBy}
use Rattle.inspect_referee.specs.Terms.{setting_of}
use Rattle.inspect_referee.specs.declared.referee.Referee.{Referee}

abbrev pub setting : Referee → Setting
setting r = setting_of r.terms.now

-- the entries seen so far
abbrev pub seen : Referee → History
seen r = past (take r.place r.entries.now)

-- the entries seen are legal, and what is kept is what they say
pub record IsReading (r : Referee) : Type 0 where
  pub within : r.place ≤ length r.entries.now
  pub short : length r.entries.now < 2 ^ 63 - 1
  pub legal : LegalBy r.choices (setting r) (seen r)
  pub stands : Stands r.book (setting r) (seen r)
  pub load : r.load ≡ underway (setting r) (seen r)
  pub workers : length r.holds.items ≡ 32
  pub holds : AreHolds (seen r) r.holds.items
  pub cursor : r.cursor.items ≡ cursor_at (setting r) (seen r)

-- the worker that the entry lets hold or release is one of so many
abbrev pub holds_within : ℕ → Entry → Type 0
holds_within n (Deliver w q c) = w < n
holds_within n (Release w q c) = w < n
holds_within n _ = Unit {0}

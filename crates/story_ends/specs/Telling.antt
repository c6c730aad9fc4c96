-- What a turn's row tells of the entries that may come.
use Rattle.std.specs.Prelude.{ℕ}
use Rattle.scan_story.specs.declared.entry.Entry.TheVariants.{Deliver, End, Plan}
use Rattle.scan_story.specs.declared.setting.Setting.{Setting}
use Rattle.scan_story.specs.Views.{History}
use Rattle.story_laws.specs.Every.{MayCome}
use Rattle.story_ends.specs.Going.{Awaits, IsOver}
use Rattle.abm_policy.specs.Turns.{MayTurn, Row, StoppedRow, FinishedRow, TakeRow, NotYetRow, LoadRow, row}

-- the query is over; or its End, a Deliver to it or a Plan by the worker may come; or the worker awaits the load of
-- another one
abbrev pub Tells : Setting → History → ℕ → ℕ → Row → Type 0
Tells s h w q StoppedRow = IsOver h q
Tells s h w q FinishedRow = MayCome s h (End w q)
Tells s h w q TakeRow = (c : ℕ) × MayCome s h (Deliver w q c)
Tells s h w q NotYetRow = Awaits s h w
Tells s h w q LoadRow = (r : ℕ) × (c : ℕ) × MayCome s h (Plan w r c)

-- wherever a worker may take a turn, the turn's row tells so
abbrev pub TurnsTell : Setting → History → Type 0
TurnsTell s h = (w q : ℕ) → MayTurn s h w q → Tells s h w q (row s h q)

-- What a turn asks, and what it answers.
use Rattle.std.specs.Prelude.{◌≡◌, ◌==◌, ◌<◌, ◌++◌, ◌∷◌, [], ℕ, true, false, List, Some, is_some, length, if◌then◌else◌}
use Rattle.scan_story.specs.declared.entry.Entry.{Entry}
use Rattle.scan_story.specs.declared.entry.Entry.TheVariants.{Deliver, End}
use Rattle.scan_story.specs.declared.setting.Setting.{Setting}
use Rattle.scan_story.specs.declared.origin.Start.{Start}
use Rattle.scan_story.specs.Counting.{any_below}
use Rattle.scan_story.specs.Setting.{worker_of, pieces_read}
use Rattle.scan_story.specs.Views.{History, past, is_registered, is_ended, is_stopped, piece_in}
use Rattle.scan_story.specs.Loads.{underway}
use Rattle.scan_story.specs.Numbers.{needed}
use Rattle.scan_story.specs.MayFollow.{IsIdle, is_ready}
use Rattle.scan_story.specs.Causes.{cause_of}
use Rattle.abm_policy.specs.declared.ticket.Ticket.{Ticket}
use Rattle.abm_policy.specs.declared.turn.Turn.{Turn}
use Rattle.abm_policy.specs.declared.turn.Turn.TheVariants.{Take, Load, NotYet, Finished, Stopped}
use Rattle.abm_policy.specs.Depots.{DepotView, IsHandedOut}
use Rattle.abm_policy.specs.Loads.{pieces, AddsLoad}

-- the query runs on the worker: it is registered and has not ended; it may be stopped
pub record RunsOn (s : Setting) (h : History) (q w : ℕ) : Type 0 where
  pub on : worker_of s q ≡ Some w
  pub registered : is_registered h q ≡ true
  pub not_ended : is_ended h q ≡ false

-- the worker may take a turn for the query: the query runs on it, and it holds nothing and loads nothing
pub record MayTurn (s : Setting) (h : History) (w q : ℕ) : Type 0 where
  pub runs : RunsOn s h q w
  pub idle : IsIdle s h w

-- the rows of the table of turns
pub data Row : Type 0 where
  StoppedRow : Row
  FinishedRow : Row
  TakeRow : Row
  NotYetRow : Row
  LoadRow : Row

-- the first row that fits: the story stopped the query; the query needs nothing; a chunk is available to it; a plan is
-- underway; none of these
abbrev pub row : Setting → History → ℕ → Row
row s h q =
    if is_stopped h q then StoppedRow else (
    if needed s h q == 0 then FinishedRow else (
    if any_below (is_ready s h q) s.chunks then TakeRow else (
    if is_some (underway s h) then NotYetRow else LoadRow)))

abbrev pub row_of : {D : Type 0} → Turn D → Row
row_of (Stopped cause) = StoppedRow
row_of Finished = FinishedRow
row_of (Take chunk slots) = TakeRow
row_of NotYet = NotYetRow
row_of (Load ticket depot) = LoadRow

-- each slot's piece stands in its frame
abbrev pub StandIn : Setting → History → List (ℕ × ℕ) → Type 0
StandIn s h [] = Unit {0}
StandIn s h (b ∷ bs) = (b.0 < s.frames) × (piece_in s h b.0 ≡ Some b.1) × StandIn s h bs

-- the chunk was available to the query and was delivered to it; the slots are the frames of its pieces that the query
-- reads
pub record Takes (s : Setting) (w q c : ℕ) (slots : List (ℕ × ℕ)) (old new : List Entry) : Type 0 where
  pub ready : is_ready s (past old) q c ≡ true
  pub added : new ≡ old ++ Deliver w q c ∷ []
  pub read : pieces slots ≡ pieces_read s q c
  pub frames : StandIn s (past new) slots
  pub runs : RunsOn s (past new) q w

-- the worker's load of the ticket begins, and the depot is handed out for it
pub record Loads (o : Start) (w q : ℕ) (t : Ticket) (d : DepotView) (old new : List Entry) : Type 0 where
  pub load : AddsLoad o.setting w t old new
  pub depot : IsHandedOut o (past new) (length t.slots) d
  pub runs : RunsOn o.setting (past new) q w

-- what an answer says, and what the turn appended
abbrev pub Answers : {D : Type 0} → (D → DepotView) → Start → ℕ → ℕ → List Entry → List Entry → Turn D → Type 0
Answers view o w q old new (Stopped cause) = (new ≡ old) × (cause_of (past old) q ≡ Some cause)
Answers view o w q old new Finished = new ≡ old ++ End w q ∷ []
Answers view o w q old new (Take chunk slots) = Takes o.setting w q chunk slots old new
Answers view o w q old new NotYet = new ≡ old
Answers view o w q old new (Load ticket depot) = Loads o w q ticket (view depot) old new

-- THE VERDICT on an output.
use Rattle.std.specs.Prelude.{◌≡◌, ◌≤◌, ◌+◌, ◌++◌, ◌∷◌, [], ℕ, Bool, List, drop, length}
use Rattle.std.specs.List.{AllByRecursion}
use Rattle.scan_story.specs.declared.entry.Entry.{Entry}
use Rattle.scan_story.specs.declared.setting.PolicyName.{PolicyName}
use Rattle.scan_story.specs.Legal.{Legal}
use Rattle.story_text.specs.Reading.{BeginsBadly, Fits}
use Rattle.scan_story.specs.Spent.{reads, stopped_queries}
use Rattle.story_text.specs.Text.{story_text}
use Rattle.scan_story.specs.Views.{past}
use Rattle.scan_story.specs.Whole.{IsWhole}
use Rattle.inspect_verdict.specs.Ends.{BeginsAtLine}
use Rattle.inspect_verdict.specs.Lines.{IsParting}
use Rattle.inspect_verdict.specs.Apart.{reads_apart}
use Rattle.run_inputs.specs.declared.inputs.Inputs.{Inputs}
use Rattle.inspect_referee.specs.Counts.{AreCounts}
use Rattle.inspect_referee.specs.declared.counts.Counts.{Counts}
use Rattle.inspect_referee.specs.declared.ruling.Reason.{Reason}
use Rattle.query_gather.specs.declared.answer.Answer.{Answer}
use Rattle.run_output.specs.Outcomes.{losses}
use Rattle.run_ends.specs.Losses.{AreLostBy}
use Rattle.run_ends.specs.Running.{shape_in}
use Rattle.inspect_verdict.specs.Judged.{IsIllegal, IsStray}
use Rattle.inspect_verdict.specs.Words.{AreAllRegistered}
use Rattle.inspect_verdict.specs.declared.parting.Parting.{Parting}
use Rattle.inspect_verdict.specs.declared.unfit.Unfit.{Unfit}
use Rattle.inspect_verdict.specs.Reading.{IsTrace, LacksAnswer, LacksSummary, text_with}
use Rattle.inspect_verdict.specs.Told.{IsRunTold, run_setting}
use Rattle.inspect_verdict.specs.declared.verdict.Verdict.{Verdict}
use Rattle.inspect_verdict.specs.declared.verdict.Verdict.TheVariants as verdict

-- no run is told by the text
abbrev pub TellsNoRun : Inputs → PolicyName → Bool → List ℕ → Type 0
TellsNoRun i name scratch out = (story : List Entry) → IsRunTold i name scratch out story → ⊥

-- a run is told by the text, with so many entries, reads, and entries of each kind; separate scans would read so many
-- pieces
pub record TellsRun (i : Inputs) (name : PolicyName) (scratch : Bool) (out : List ℕ) (entries reads_made apart : ℕ)
    (counts : Counts) : Type 0 where
  pub story : List Entry
  pub told : IsRunTold i name scratch out story
  pub entries_are : entries ≡ length story
  pub reads_are : reads_made ≡ reads (past story)
  pub apart_are : apart ≡ reads_apart (run_setting i name)
  -- where a chunk has one piece and no query was stopped, it read no more than that
  pub little : (run_setting i name).groups ≡ 1 → stopped_queries (run_setting i name) (past story) ≡ 0
      → reads_made ≤ apart
  pub counts_are : AreCounts story counts

-- no run is told: the trace begins with a story whose entry at this place is the first that may not come, for this
-- reason, and which goes on from there at the line of this number
pub record RefusesEntry (i : Inputs) (name : PolicyName) (scratch : Bool) (out : List ℕ) (line place : ℕ)
    (reason : Reason) : Type 0 where
  pub none : TellsNoRun i name scratch out
  pub story : List Entry
  pub rest : List ℕ
  pub trace : IsTrace i out (story_text story ++ rest)
  pub refused : IsIllegal (run_setting i name) (shape_in i) scratch story place reason
  pub at_line : BeginsAtLine out (story_text (drop place story) ++ rest) line

-- no run is told: the trace begins with a story whose entries before this place are legal, the one there doesn't fit
-- the words, for this reason, and it goes on from there at the line of this number
pub record RefusesUnfit (i : Inputs) (name : PolicyName) (scratch : Bool) (out : List ℕ) (line place : ℕ)
    (reason : Unfit) : Type 0 where
  pub none : TellsNoRun i name scratch out
  pub story : List Entry
  pub rest : List ℕ
  pub trace : IsTrace i out (story_text story ++ rest)
  pub stray : IsStray (run_setting i name) (shape_in i) scratch story place reason
  pub at_line : BeginsAtLine out (story_text (drop place story) ++ rest) line

-- the trace has the lines of some entries and then, from the line of this number on, what begins with no entry's line
pub record HasNoEntryAt (i : Inputs) (out : List ℕ) (line : ℕ) : Type 0 where
  pub entries : List Entry
  pub rest : List ℕ
  pub fit : AllByRecursion Fits entries
  pub trace : IsTrace i out (story_text entries ++ rest)
  pub bad : BeginsBadly rest
  pub at_line : BeginsAtLine out rest line

-- no run is told, since this line is no entry's
pub record RefusesLine (i : Inputs) (name : PolicyName) (scratch : Bool) (out : List ℕ) (line : ℕ) : Type 0 where
  pub none : TellsNoRun i name scratch out
  pub bad : HasNoEntryAt i out line

-- no run is told, since nothing stands for the statement of this number
pub record RefusesAnswer (i : Inputs) (name : PolicyName) (scratch : Bool) (out : List ℕ) (query : ℕ) (p : Parting)
    : Type 0 where
  pub none : TellsNoRun i name scratch out
  pub lacks : LacksAnswer i out query p

-- no run is told, since no summary stands at this line
pub record RefusesSummary (i : Inputs) (name : PolicyName) (scratch : Bool) (out : List ℕ) (line : ℕ) : Type 0 where
  pub none : TellsNoRun i name scratch out
  pub lacks : LacksSummary i out line

-- no run is told: the trace is a story that is legal, but not whole, or in which a worker left out one of its scans;
-- the text ends before the line of this number
pub record LeavesOpen (i : Inputs) (name : PolicyName) (scratch : Bool) (out : List ℕ) (story : List Entry) (line : ℕ)
    : Type 0 where
  pub none : TellsNoRun i name scratch out
  pub trace : IsTrace i out (story_text story)
  pub at_line : BeginsAtLine out [] line
  pub legal : Legal (run_setting i name) (past story)
  pub unfinished : IsWhole (run_setting i name) (past story)
      → AreAllRegistered (run_setting i name) story i.options.workers → ⊥

-- so it is with some entry
abbrev pub LeavesSome : Inputs → PolicyName → Bool → List ℕ → ℕ → Type 0
LeavesSome i name scratch out line = (e : Entry) × (es : List Entry) × LeavesOpen i name scratch out (e ∷ es) line

-- no run is told: the trace is a story that is legal and whole, and there the text parts from what a run with this
-- story prints: it stopped queries as the story says, or since memory ran out
pub record RefusesLines (i : Inputs) (name : PolicyName) (scratch : Bool) (out : List ℕ) (p : Parting) : Type 0 where
  pub none : TellsNoRun i name scratch out
  pub story : List Entry
  pub trace : IsTrace i out (story_text story)
  pub legal : Legal (run_setting i name) (past story)
  pub whole : IsWhole (run_setting i name) (past story)
  pub answers : List Answer
  pub lost : AreLostBy (past story) i.options.parts 1 i.outcomes.items (losses i.outcomes.items answers)
  pub parting : IsParting out (text_with i answers story) p

-- a story of which the first entry stands at this line is left open
abbrev pub left_open : ℕ → List Entry → Verdict
left_open first [] = verdict.NoTrace first
left_open first (e ∷ es) = verdict.NotWhole (first + length (e ∷ es))

-- LEGAL exactly where the text tells a run
abbrev pub IsVerdict : Inputs → PolicyName → Bool → List ℕ → Verdict → Type 0
IsVerdict i name scratch out (verdict.Legal entries reads_made apart counts) =
    TellsRun i name scratch out entries reads_made apart counts
IsVerdict i name scratch out (verdict.Illegal line place reason) = RefusesEntry i name scratch out line place reason
IsVerdict i name scratch out (verdict.Unfit line place reason) = RefusesUnfit i name scratch out line place reason
IsVerdict i name scratch out (verdict.NotStory line) = RefusesLine i name scratch out line
IsVerdict i name scratch out (verdict.NotAnswered query p) = RefusesAnswer i name scratch out query p
IsVerdict i name scratch out (verdict.NoSummary line) = RefusesSummary i name scratch out line
IsVerdict i name scratch out (verdict.NoTrace line) = LeavesOpen i name scratch out [] line
IsVerdict i name scratch out (verdict.NotWhole line) = LeavesSome i name scratch out line
IsVerdict i name scratch out (verdict.Differs p) = RefusesLines i name scratch out p

-- the verdict on a text, where a front of it has this one: an entry that may not come there is earlier
abbrev pub earlier_of : Verdict → Verdict → Verdict
earlier_of v (verdict.Illegal line place reason) = verdict.Illegal line place reason
earlier_of v (verdict.Unfit line place why) = verdict.Unfit line place why
earlier_of v _ = v

-- what stands in the way of reading a story
abbrev pub IsOfReading : Inputs → List ℕ → Verdict → Type 0
IsOfReading i out (verdict.NotAnswered query p) = LacksAnswer i out query p
IsOfReading i out (verdict.NoSummary line) = LacksSummary i out line
IsOfReading i out (verdict.NotStory line) = HasNoEntryAt i out line
IsOfReading i out _ = ⊥

-- What a turn with its load comes to.
use Rattle.std.specs.Prelude.{ℕ, List, [], ⊤, Some}
use Rattle.scan_story.specs.declared.entry.Entry.{Entry}
use Rattle.scan_story.specs.declared.setting.Setting.{Setting}
use Rattle.scan_story.specs.Views.{past}
use Rattle.scan_story.specs.Legal.{Legal}
use Rattle.abm_policy.specs.Turns.{MayTurn}
use Rattle.baton.specs.Passes.{PassView, Went}
use Rattle.piece_format.specs.Shape.{TableShape}
use Rattle.cscan.specs.declared.rounds.Round.{Round}
use Rattle.cscan.specs.declared.rounds.Round.TheVariants.{Took, Again, Done, Stopped}
use Rattle.cscan.specs.Answers.{AreOfLoads, Ends, FindsStopped, TakesChunk}
use Rattle.cscan.specs.Scans.{IsAt, IsAtRest, IsGiven}

-- the slots that are out after it
abbrev pub slots_of : Round → List (ℕ × ℕ)
slots_of (Took g) = g.slots
slots_of _ = []

-- the worker made entries of loads alone, and may turn again
pub record GoesOn (s : Setting) (w q : ℕ) (p r : PassView) : Type 0 where
  pub loads : List Entry
  pub only_loads : AreOfLoads loads
  pub went : Went p r loads
  pub legal : Legal s (past r.seen)
  pub may : MayTurn s (past r.seen) w q

abbrev pub IsRound : Setting → TableShape → ℕ → ℕ → PassView → PassView → Round → Type 0
IsRound s z w q p r (Took g) = TakesChunk s w q p r g.chunk × Legal s (past r.seen) × IsAt s (past r.seen) w q (Some g)
    × IsGiven s z (past r.seen) q g
IsRound s z w q p r (Again pause) = GoesOn s w q p r
IsRound s z w q p r Done = Ends s w q p r × IsAtRest s (past r.seen) w q
IsRound s z w q p r (Stopped cause) = FindsStopped q p r cause × IsAtRest s (past r.seen) w q

-- it came to something
abbrev pub IsEnd : Round → Type 0
IsEnd (Again pause) = ⊥
IsEnd _ = ⊤

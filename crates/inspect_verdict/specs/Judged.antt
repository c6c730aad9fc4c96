-- What is said of the story of a run.
use Rattle.std.specs.Prelude.{◌≡◌, ◌<◌, ℕ, Bool, true, List, Some, take}
use Rattle.scan_story.specs.declared.entry.Entry.{Entry}
use Rattle.scan_story.specs.declared.setting.Setting.{Setting}
use Rattle.scan_story.specs.Views.{past}
use Rattle.scan_story.specs.Legal.{Legal}
use Rattle.scan_story.specs.Whole.{IsWhole, Undisturbed}
use Rattle.inspect_verdict.specs.Apart.{WholeReadLittle, reads_apart}
use Rattle.inspect_referee.specs.Counts.{AreCounts}
use Rattle.inspect_referee.specs.Ruling.{IsFirstIllegal, IsRefused}
use Rattle.inspect_referee.specs.declared.ruling.Reason.{Reason}
use Rattle.inspect_referee.specs.declared.ruling.Ruling.{Ruling}
use Rattle.inspect_referee.specs.declared.ruling.Ruling.TheVariants as rulings
use Rattle.piece_format.specs.Shape.{TableShape}
use Rattle.inspect_verdict.specs.Words.{AreAllRegistered, AreInOrder, FaultsFit, IsFirstUnfit}
use Rattle.inspect_verdict.specs.declared.wording.Fitting.{Fitting}
use Rattle.inspect_verdict.specs.declared.wording.Fitting.TheVariants as fits
use Rattle.inspect_verdict.specs.declared.judging.Judged.{Judged}
use Rattle.inspect_verdict.specs.declared.unfit.Unfit.{Unfit}
use Rattle.inspect_verdict.specs.declared.judging.Judged.TheVariants as judged

-- the entries before the one that the ruling refuses
abbrev pub legal_front : Ruling → List Entry → List Entry
legal_front (rulings.Legal whole counts) es = es
legal_front (rulings.Illegal place reason) es = take place es

-- the entry that the ruling refuses stands in a story of this length
abbrev pub StandsIn : Ruling → ℕ → Type 0
StandsIn (rulings.Legal whole counts) n = Unit {0}
StandsIn (rulings.Illegal place reason) n = place < n

-- what a ruling, and what is said of the entries before the one that it refuses, say of the story of a run for which
-- separate scans would read so many pieces
abbrev pub judged_by : Ruling → Fitting → ℕ → Judged
judged_by ruling (fits.Unfit place reason) apart = judged.Unfit place reason
judged_by (rulings.Illegal place reason) _ apart = judged.Illegal place reason
judged_by (rulings.Legal true counts) fits.All apart = judged.Legal counts apart
judged_by (rulings.Legal _ counts) _ apart = judged.NotWhole

-- the entry at the place is the first that may not come where it stands, for this reason; those before it fit the words
pub record IsIllegal (s : Setting) (z : TableShape) (scratch : Bool) (es : List Entry) (place : ℕ) (reason : Reason)
    : Type 0 where
  pub refused : IsRefused s es place reason
  pub first : IsFirstIllegal s es (Some place)
  pub order : AreInOrder s (take place es) s.workers
  pub faults : FaultsFit z scratch (past (take place es))

-- the entry at the place is the first that doesn't fit the words, for this reason; and those before it are legal
pub record IsStray (s : Setting) (z : TableShape) (scratch : Bool) (es : List Entry) (place : ℕ) (reason : Unfit)
    : Type 0 where
  pub legal : Legal s (past (take place es))
  pub first : IsFirstUnfit s z scratch es place reason

-- legal, whole and undisturbed, it fits the words, and separate scans would read so many pieces; or the first entry
-- that may not come, or that doesn't fit the words, and why; or legal, but not whole
abbrev pub IsJudged : Setting → TableShape → Bool → List Entry → Judged → Type 0
IsJudged s z scratch es (judged.Legal counts apart) = Legal s (past es) × IsWhole s (past es) × Undisturbed s (past es)
    × AreCounts es counts × (apart ≡ reads_apart s) × WholeReadLittle s (past es)
    × AreAllRegistered s es s.workers × FaultsFit z scratch (past es)
IsJudged s z scratch es (judged.Illegal place reason) = IsIllegal s z scratch es place reason
IsJudged s z scratch es (judged.Unfit place reason) = IsStray s z scratch es place reason
IsJudged s z scratch es judged.NotWhole =
    Legal s (past es) × (IsWhole s (past es) → AreAllRegistered s es s.workers → ⊥)

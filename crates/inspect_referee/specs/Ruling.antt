-- What a ruling says of a story.
use Rattle.std.specs.Prelude.{◌≡◌, ◌⊎◌, ◌↔◌, ◌<◌, ◌+◌, ◌∷◌, ◌++◌, true, false, ℕ}
use Rattle.std.specs.Prelude.{Bool, List, Option, None, Some, IsTrue, length, take}
use Rattle.scan_story.specs.declared.entry.Entry.{Entry}
use Rattle.scan_story.specs.declared.entry.Entry.TheVariants.{Plan, Evict, Deliver}
use Rattle.scan_story.specs.declared.setting.Setting.{Setting}
use Rattle.scan_story.specs.Views.{History, past}
use Rattle.scan_story.specs.Whole.{IsWhole}
use Rattle.inspect_referee.specs.declared.choices.Choices.{Choices}
use Rattle.inspect_referee.specs.declared.choices.Choices.TheVariants.{OfPolicy, Free}
use Rattle.inspect_referee.specs.declared.rank.Choice.{Choice}
use Rattle.inspect_referee.specs.declared.rank.Choice.TheVariants as choices
use Rattle.inspect_referee.specs.declared.ruling.Better.{Better}
use Rattle.inspect_referee.specs.declared.ruling.Reason.{Reason}
use Rattle.inspect_referee.specs.declared.ruling.Reason.TheVariants.{Broken, Outdone}
use Rattle.inspect_referee.specs.declared.ruling.Ruling.{Ruling}
use Rattle.inspect_referee.specs.declared.ruling.Ruling.TheVariants as rulings
use Rattle.inspect_referee.specs.Choices.{LegalBy}
use Rattle.inspect_referee.specs.Counts.{AreCounts}
use Rattle.inspect_referee.specs.Ranks.{beats, is_candidate, rank_of}
use Rattle.inspect_referee.specs.Rules.{keeps}

-- a candidate that the policy prefers to x, which was chosen for q, with both ranks
pub record IsBetter (s : Setting) (h : History) (choice : Choice) (q x : ℕ) (b : Better) : Type 0 where
  pub chosen : b.choice ≡ choice
  pub candidate : is_candidate s h choice q b.number ≡ true
  pub rank : b.rank ≡ rank_of s h choice q b.number
  pub taken : b.taken ≡ rank_of s h choice q x
  pub better : beats b.rank b.taken ≡ true

-- a better candidate than what the entry takes
abbrev pub IsOutdone : Setting → History → Entry → Better → Type 0
IsOutdone s h (Plan w q c) b = IsBetter s h choices.Trigger q q b ⊎ IsBetter s h choices.Load q c b
IsOutdone s h (Deliver w q c) b = IsBetter s h choices.Delivery q c b
IsOutdone s h (Evict w c) b = IsBetter s h choices.Victim 0 c b
IsOutdone s h _ b = ⊥

-- where choices are free none is better
abbrev pub IsOutdoneBy : Choices → Setting → History → Entry → Better → Type 0
IsOutdoneBy OfPolicy s h e b = IsOutdone s h e b
IsOutdoneBy Free s h e b = ⊥

-- why the entry may not come after the history
abbrev pub IsReasonBy : Choices → Setting → History → Entry → Reason → Type 0
IsReasonBy choices s h e (Broken rule) = keeps s h e rule ≡ false
IsReasonBy choices s h e (Outdone better) = IsOutdoneBy choices s h e better

-- the entries before the place are legal, and the one at the place may not come after them
pub record IsRefusedBy (choices : Choices) (s : Setting) (es : List Entry) (place : ℕ) (reason : Reason) : Type 0 where
  pub before : List Entry
  pub entry : Entry
  pub after : List Entry
  pub parts : es ≡ before ++ entry ∷ after
  pub at_place : length before ≡ place
  pub legal : LegalBy choices s (past before)
  pub is_reason : IsReasonBy choices s (past before) entry reason

-- THE RULING on a story whose entries take such choices
abbrev pub IsRulingBy : Choices → Setting → List Entry → Ruling → Type 0
IsRulingBy choices s es (rulings.Legal whole counts) =
    LegalBy choices s (past es) × (IsTrue whole ↔ IsWhole s (past es)) × AreCounts es counts
IsRulingBy choices s es (rulings.Illegal place reason) = IsRefusedBy choices s es place reason

-- the place at which the ruling finds the story not legal
abbrev pub place_of : Ruling → Option ℕ
place_of (rulings.Legal whole counts) = None
place_of (rulings.Illegal place reason) = Some place

abbrev pub finds_legal : Ruling → Bool
finds_legal (rulings.Legal whole counts) = true
finds_legal (rulings.Illegal place reason) = false

-- the story is legal up to the entry at the place, and not with it; with no place it is legal
abbrev pub IsFirstIllegalBy : Choices → Setting → List Entry → Option ℕ → Type 0
IsFirstIllegalBy choices s es None = LegalBy choices s (past es)
IsFirstIllegalBy choices s es (Some place) =
    (place < length es) × LegalBy choices s (past (take place es))
    × (LegalBy choices s (past (take (place + 1) es)) → ⊥)

-- The same under the setting's policy

abbrev pub IsRefused : Setting → List Entry → ℕ → Reason → Type 0
IsRefused s es place reason = IsRefusedBy OfPolicy s es place reason

abbrev pub IsRuling : Setting → List Entry → Ruling → Type 0
IsRuling s es ruling = IsRulingBy OfPolicy s es ruling

abbrev pub IsFirstIllegal : Setting → List Entry → Option ℕ → Type 0
IsFirstIllegal s es place = IsFirstIllegalBy OfPolicy s es place

-- Which choices the entries of a story may take.
use Rattle.scan_story.specs.declared.entry.Entry.{Entry}
use Rattle.scan_story.specs.declared.setting.Setting.{Setting}
use Rattle.scan_story.specs.Views.{History}
use Rattle.scan_story.specs.Legal.{Chosen, Legal}
use Rattle.chunk_interest.specs.Follows.{AllMayFollow}
use Rattle.inspect_referee.specs.declared.choices.Choices.{Choices}
use Rattle.inspect_referee.specs.declared.choices.Choices.TheVariants.{OfPolicy, Free}

-- what the entry takes may be taken
abbrev pub IsTaken : Choices → Setting → History → Entry → Type 0
IsTaken OfPolicy s h e = Chosen s h e
IsTaken Free s h e = Unit {0}

-- LEGAL BY CHOICES: under the setting's policy, or, where choices are free, by the rules alone: each entry may follow
-- those before it
abbrev pub LegalBy : Choices → Setting → History → Type 0
LegalBy OfPolicy s h = Legal s h
LegalBy Free s h = AllMayFollow s h

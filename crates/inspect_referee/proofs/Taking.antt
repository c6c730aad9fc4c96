-- Histories that are legal by the choices that may be taken.
use Rattle.std.proofs.Common.{◌∷◌, []}
use Rattle.scan_story.specs.declared.entry.Entry.{Entry}
use Rattle.scan_story.specs.declared.setting.Setting.{Setting}
use Rattle.scan_story.specs.Views.{History}
use Rattle.scan_story.specs.MayFollow.{Allowed}
use Rattle.chunk_interest.specs.Follows.{AllMayFollow}
use Rattle.inspect_referee.specs.declared.choices.Choices.{Choices}
use Rattle.inspect_referee.specs.declared.choices.Choices.TheVariants.{OfPolicy, Free}
use Rattle.inspect_referee.specs.Choices.{IsTaken, LegalBy}

pub none_legal : (choices : Choices) (s : Setting) → LegalBy choices s []
none_legal OfPolicy s = tt
none_legal Free s = tt

pub legal_next : (choices : Choices) (s : Setting) (h : History) (e : Entry) → Allowed s h e → IsTaken choices s h e → LegalBy choices s h → LegalBy choices s (e ∷ h)
legal_next OfPolicy s h e may taken legal = (may, taken, legal)
legal_next Free s h e may taken legal = (may, legal)

pub legal_last : (choices : Choices) (s : Setting) (h : History) (e : Entry) → LegalBy choices s (e ∷ h) → Allowed s h e × IsTaken choices s h e × LegalBy choices s h
legal_last OfPolicy s h e legal = legal
legal_last Free s h e legal = (legal.0, tt, legal.1)

pub all_follow : (choices : Choices) (s : Setting) (h : History) → LegalBy choices s h → AllMayFollow s h
all_follow Free s h legal = legal
all_follow OfPolicy s [] legal = tt
all_follow OfPolicy s (e ∷ h) legal = (legal.0, all_follow OfPolicy s h legal.2)

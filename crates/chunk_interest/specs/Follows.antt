-- Histories in which each entry may follow those before it.
use Rattle.std.specs.Prelude.{[], ◌∷◌}
use Rattle.scan_story.specs.declared.setting.Setting.{Setting}
use Rattle.scan_story.specs.Views.{History}
use Rattle.scan_story.specs.MayFollow.{Allowed}

abbrev pub AllMayFollow : Setting → History → Type 0
AllMayFollow s [] = Unit {0}
AllMayFollow s (e ∷ h) = Allowed s h e × AllMayFollow s h

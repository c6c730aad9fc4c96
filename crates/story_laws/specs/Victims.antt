-- Which chunks are evicted.
use Rattle.std.specs.Prelude.{◌≡◌, ◌<◌, true, false, ℕ, List, [], ◌∷◌, Some, length}
use Rattle.scan_story.specs.declared.entry.Entry.TheVariants.{Evict}
use Rattle.scan_story.specs.declared.view.Load.{Load}
use Rattle.scan_story.specs.declared.setting.Setting.{Setting}
use Rattle.scan_story.specs.Views.{History}
use Rattle.scan_story.specs.Loads.{underway, free_frames}
use Rattle.scan_story.specs.Numbers.{close, is_starved}
use Rattle.scan_story.specs.MayFollow.{is_victim}
use Rattle.scan_story.specs.Policies.{BestVictim}
use Rattle.story_laws.specs.Every.{MayCome}

-- some chunk may be evicted that is close to no query
pub record HasFarVictim (s : Setting) (h : History) : Type 0 where
  pub chunk : ℕ
  pub victim : is_victim s h chunk ≡ true
  pub far : close s h chunk ≡ 0

-- where fewer frames are free than pieces are missing and no fill has begun, some chunk may be evicted that is close to
-- no query
abbrev pub AlwaysAFarVictim : Setting → History → Type 0
AlwaysAFarVictim s h =
    (l : Load) → underway s h ≡ Some l → l.begun ≡ [] → free_frames s h < length l.missing → HasFarVictim s h

-- the policy's victim is close to no query wherever some candidate is
abbrev pub ChosenIsFar : Setting → History → Type 0
ChosenIsFar s h =
    (cursor : List ℕ) (c : ℕ) → BestVictim s.policy cursor s h c → HasFarVictim s h → close s h c ≡ 0

-- each chunk that was evicted was close to no query, by the entries before
abbrev pub VictimsWereFar : Setting → History → Type 0
VictimsWereFar s [] = Unit {0}
VictimsWereFar s (Evict w c ∷ h) = (close s h c ≡ 0) × VictimsWereFar s h
VictimsWereFar s (_ ∷ h) = VictimsWereFar s h

-- an eviction makes no query starved that was not
abbrev pub EvictionStarvesNobody : Setting → History → Type 0
EvictionStarvesNobody s h =
    (w c : ℕ) → MayCome s h (Evict w c) → (q : ℕ) → is_starved s h q ≡ false → is_starved s (Evict w c ∷ h) q ≡ false

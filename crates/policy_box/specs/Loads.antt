-- Which chunks elevator loads.
use Rattle.std.specs.Prelude.{◌≡◌, ◌<◌, ◌&&◌, true, false, ℕ, Bool, [], ◌∷◌, get_or}
use Rattle.std.specs.List.{list_any}
use Rattle.scan_story.specs.declared.entry.Entry.TheVariants.{Plan}
use Rattle.scan_story.specs.declared.setting.Setting.{Setting}
use Rattle.scan_story.specs.Views.{History}
use Rattle.scan_story.specs.Numbers.{is_starved}
use Rattle.scan_story.specs.MayFollow.{is_target}
use Rattle.scan_story.specs.Legal.{cursor_at}
use Rattle.relevance.specs.Around.{chunk_at}

-- some starved query needs the chunk and misses some of it
abbrev pub is_wanted : Setting → History → ℕ → Bool
is_wanted s h c = list_any (λ n. is_starved s h n.query && is_target s h n.query c) s.needs

-- going up the chunks from the start and around, c is the first one that passes
pub record IsFirstFrom (chunks start : ℕ) (test : ℕ → Bool) (c : ℕ) : Type 0 where
  pub far : ℕ
  pub within : far < chunks
  pub there : chunk_at chunks start far ≡ c
  pub passes : test c ≡ true
  pub none_before : (k : ℕ) → k < far → test (chunk_at chunks start k) ≡ false

-- each load was of the first chunk, from the cursor on and around, that some starved query needed and missed
abbrev pub LoadsWentAround : Setting → History → Type 0
LoadsWentAround s [] = Unit {0}
LoadsWentAround s (Plan w q c ∷ h) = IsFirstFrom s.chunks (get_or (cursor_at s h) 0 0) (is_wanted s h) c
    × LoadsWentAround s h
LoadsWentAround s (_ ∷ h) = LoadsWentAround s h

-- Stories that are complete, and stories in which held chunks stay.
use Rattle.std.specs.Prelude.{◌≡◌, ◌==◌, ◌<◌, ◌||◌, true, false, ℕ, Bool, [], ◌∷◌, Option, None, Some, if◌then◌else◌}
use Rattle.std.specs.List.{AllByRecursion}
use Rattle.scan_story.specs.declared.entry.Entry.TheVariants.{Evict, Fill, Deliver, Release}
use Rattle.scan_story.specs.declared.setting.Need.{Need}
use Rattle.scan_story.specs.declared.setting.Setting.{Setting}
use Rattle.scan_story.specs.Counting.{count_among}
use Rattle.scan_story.specs.Setting.{chunk_of}
use Rattle.scan_story.specs.Views.{History, registers, is_stopped, is_ended, held_by, piece_in}
use Rattle.scan_story.specs.Loads.{underway}

-- each query of the needs has one Register and has ended or stopped, no plan is underway, and no worker holds a chunk
pub record IsWhole (s : Setting) (h : History) : Type 0 where
  pub registered : AllByRecursion (λ (n : Need). count_among (registers n.query) h ≡ 1) s.needs
  pub finished : AllByRecursion (λ (n : Need). (is_ended h n.query || is_stopped h n.query) ≡ true) s.needs
  pub none_underway : underway s h ≡ None
  pub none_held : (w : ℕ) → w < s.workers → held_by h w ≡ None

-- the piece is one of the chunk's
abbrev pub is_piece_of : Setting → ℕ → Option ℕ → Bool
is_piece_of s c None = false
is_piece_of s c (Some p) = chunk_of s p == c

-- the chunk was delivered to the worker, which has not released since
abbrev pub has_taken : History → ℕ → ℕ → Bool
has_taken [] w c = false
has_taken (Deliver v q d ∷ h) w c = if v == w then d == c || has_taken h w c else has_taken h w c
has_taken (Release v q d ∷ h) w c = if v == w then false else has_taken h w c
has_taken (_ ∷ h) w c = has_taken h w c

-- a chunk was delivered to the worker, which has not released since, and at that Deliver the frame had a piece of it
abbrev pub had_piece : Setting → History → ℕ → ℕ → Bool
had_piece s [] w f = false
had_piece s (Deliver v q c ∷ h) w f =
    if v == w then is_piece_of s c (piece_in s h f) || had_piece s h w f else had_piece s h w f
had_piece s (Release v q c ∷ h) w f = if v == w then false else had_piece s h w f
had_piece s (_ ∷ h) w f = had_piece s h w f

-- between a Deliver to a worker and its next Release, the chunk is not evicted, and no frame that had a piece of it is
-- filled
abbrev pub Undisturbed : Setting → History → Type 0
Undisturbed s [] = Unit {0}
Undisturbed s (Evict w c ∷ h) = ((v : ℕ) → v < s.workers → has_taken h v c ≡ false) × Undisturbed s h
Undisturbed s (Fill w f p ∷ h) = ((v : ℕ) → v < s.workers → had_piece s h v f ≡ false) × Undisturbed s h
Undisturbed s (_ ∷ h) = Undisturbed s h

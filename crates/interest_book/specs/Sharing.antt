-- Who counts for the overlaps of a query.
use Rattle.std.specs.Prelude.{◌≡◌, ◌&&◌, ℕ}
use Rattle.scan_story.specs.declared.setting.Setting.{Setting}
use Rattle.scan_story.specs.Counting.{has}
use Rattle.scan_story.specs.Setting.{shares}
use Rattle.scan_story.specs.Views.{History, is_active}
use Rattle.scan_story.specs.Numbers.{is_starved, overlap, starved_overlap}
use Rattle.interest_book.specs.declared.sharing.Sharing.{Sharing}
use Rattle.interest_book.specs.declared.sharing.Overlaps.{Overlaps}

-- the active and the starved queries that share a group with q
pub record IsSharing (s : Setting) (h : History) (q : ℕ) (k : Sharing) : Type 0 where
  pub active : (r : ℕ) → has k.active r ≡ (is_active h r && shares s q r)
  pub starved : (r : ℕ) → has k.starved r ≡ (is_starved s h r && shares s q r)

-- both overlaps of q with chunk c
abbrev pub overlaps : Setting → History → ℕ → ℕ → Overlaps
overlaps s h q c = record { active = overlap s h q c; starved = starved_overlap s h q c }

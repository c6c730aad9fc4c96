-- What a story spent: loads, reads, deliveries and stopped queries.
use Rattle.std.specs.Prelude.{◌+◌, ◌&&◌, ℕ, [], ◌∷◌, is_none, is_some, if◌then◌else◌}
use Rattle.scan_story.specs.declared.entry.Entry.TheVariants.{Filled, Failed, Deliver}
use Rattle.scan_story.specs.declared.setting.Setting.{Setting}
use Rattle.scan_story.specs.Counting.{count_among}
use Rattle.scan_story.specs.Views.{History, is_stopped}
use Rattle.scan_story.specs.Loads.{underway}

-- how many plans were closed by the Filled of their last missing piece
abbrev pub loads : Setting → History → ℕ
loads s [] = 0
loads s (Filled w f p ∷ h) =
    if is_some (underway s h) && is_none (underway s (Filled w f p ∷ h)) then loads s h + 1 else loads s h
loads s (_ ∷ h) = loads s h

-- how many Filled and Failed there are
abbrev pub reads : History → ℕ
reads [] = 0
reads (Filled w f p ∷ h) = reads h + 1
reads (Failed w q p why ∷ h) = reads h + 1
reads (_ ∷ h) = reads h

-- how many Deliver there are
abbrev pub deliveries : History → ℕ
deliveries [] = 0
deliveries (Deliver w q c ∷ h) = deliveries h + 1
deliveries (_ ∷ h) = deliveries h

-- how many queries are stopped
abbrev pub stopped_queries : Setting → History → ℕ
stopped_queries s h = count_among (λ n. is_stopped h n.query) s.needs

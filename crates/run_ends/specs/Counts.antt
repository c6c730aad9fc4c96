-- What is counted of a story.
use Rattle.std.specs.Prelude.{◌≡◌, ◌≤◌, ◌<◌, ◌+◌, ℕ, [], ◌∷◌}
use Rattle.table_sets.specs.Sets.{has}
use Rattle.scan_story.specs.declared.entry.Entry.TheVariants.{Evict}
use Rattle.scan_story.specs.Spent.{deliveries, reads}
use Rattle.scan_story.specs.Views.{History, is_stopped}
use Rattle.run_ends.specs.declared.counts.Counts.{Counts}

-- how many Evict there are
abbrev pub evictions : History → ℕ
evictions [] = 0
evictions (Evict w c ∷ h) = evictions h + 1
evictions (_ ∷ h) = evictions h

-- these are the counts of a history, and the set of the scans that it stopped
pub record AreCounts (h : History) (c : Counts) : Type 0 where
  pub reads : c.reads ≡ reads h
  pub evictions : c.evictions ≡ evictions h
  pub deliveries : c.deliveries ≡ deliveries h
  pub stopped : (q : ℕ) → q < 1024 → has c.stopped q ≡ is_stopped h q

-- no count passes the number of entries
pub record AreFew (n : ℕ) (c : Counts) : Type 0 where
  pub reads : c.reads ≤ n
  pub evictions : c.evictions ≤ n
  pub deliveries : c.deliveries ≤ n

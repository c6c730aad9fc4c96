-- A client for which one chunk was looked up anew.
use Rattle.std.specs.Prelude.{◌≡◌, ◌==◌, ◌&&◌, ℕ, List, Option, if◌then◌else◌}
use Rattle.scan_story.specs.Counting.{has}
use Rattle.chunk_interest.specs.declared.client.Client.{Client}
use Rattle.chunk_interest.specs.Frames.{missing_in}

-- chunk c is available where it is needed and no piece that is read is missing; all else is kept
pub record IsRenewed (places : List (Option ℕ)) (n c : ℕ) (old new : Client) : Type 0 where
  pub kept : new ≡ record old { available = new.available }
  pub available : (x : ℕ)
      → has new.available x
      ≡ (if x == c then has old.remaining c && missing_in places n old.reads c == 0 else has old.available x)

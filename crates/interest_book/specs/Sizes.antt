-- How large the parts of a book are.
use Rattle.std.specs.Prelude.{◌≡◌, ◌≤◌, ℕ, List, All, Option, length}
use Rattle.scan_story.specs.declared.view.Hold.{Hold}
use Rattle.chunk_interest.specs.declared.need.Need.{Need}
use Rattle.chunk_interest.specs.declared.client.Client.{Client}

pub record AreParts (ns : List Need) (ks : List Client) (hs : List (Option Hold)) (n w : ℕ) : Type 0 where
  pub needs : length ns ≤ 256
  pub queries : All (λ n. n.query ≤ 256) ns
  pub clients : length ks ≡ 257
  pub holds : length hs ≡ 32
  pub chunks : n ≤ 1024
  pub workers : w ≤ 32

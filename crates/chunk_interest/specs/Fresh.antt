-- What a query asks for, and how its client begins.
use Rattle.std.specs.Prelude.{◌≡◌, ◌==◌, ◌<◌, ℕ, List, [], ◌∷◌, Option, None, find, map, if◌then◌else◌}
use Rattle.scan_story.specs.declared.setting.Need as asked
use Rattle.scan_story.specs.declared.view.Phase.TheVariants.{Waiting}
use Rattle.scan_story.specs.Counting.{has}
use Rattle.scan_story.specs.Setting.{worker_in, chunks_in, columns_in}
use Rattle.chunk_interest.specs.declared.need.Need.{Need}
use Rattle.chunk_interest.specs.declared.client.Client.{Client}
use Rattle.chunk_interest.specs.Clients.{client_at}

-- the need, as a setting has it
abbrev pub as_need : Need → asked.Need
as_need n = record { query = n.query; worker = n.worker; chunks = n.chunks; columns = n.columns }

-- the need that names the query
abbrev pub wanted : List Need → ℕ → Option asked.Need
wanted needs q = find (λ n. n.query == q) (map as_need needs)

-- a client before the first entry, with a need or without
pub record IsFresh (groups : ℕ) (o : Option asked.Need) (k : Client) : Type 0 where
  pub worker : k.worker ≡ worker_in o
  pub columns : k.columns ≡ columns_in o
  pub reads : (g : ℕ) → has k.reads g ≡ has (if groups == 1 then 0 ∷ [] else columns_in o) g
  pub phase : k.phase ≡ Waiting
  pub remaining : k.remaining ≡ chunks_in o
  pub available : k.available ≡ []
  pub began : k.began ≡ None

-- each client below m is fresh, with the need that names its query
abbrev pub AreFresh : ℕ → List Need → List Client → ℕ → Type 0
AreFresh groups needs clients m = (q : ℕ) → q < m → IsFresh groups (wanted needs q) (client_at clients q)

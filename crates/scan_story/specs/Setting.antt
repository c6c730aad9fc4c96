-- What a manager is made for: the needs, the pieces that a query reads, and which settings there may be.
use Rattle.std.specs.Prelude.{◌≡◌, ◌≢◌, ◌==◌, ◌+◌, ◌*◌, ◌/◌, ◌^◌, ◌<◌, ◌≤◌, ◌⊎◌, ℕ, Bool, List, []}
use Rattle.std.specs.Prelude.{◌∷◌, Option, None, Some, length, map, find, replicate, if◌then◌else◌}
use Rattle.std.specs.List.{list_any, AllByRecursion}
use Rattle.scan_story.specs.declared.setting.Need.{Need}
use Rattle.scan_story.specs.Counting.{has}
use Rattle.scan_story.specs.declared.setting.Setting.{Setting}
use Rattle.scan_story.specs.declared.origin.Start.{Start}
use Rattle.scan_story.specs.declared.setting.PolicyName.{PolicyName}
use Rattle.scan_story.specs.declared.setting.PolicyName.TheVariants.{Relevance, Elevator, Normal, Attach}

-- Needs

abbrev pub worker_in : Option Need → Option ℕ
worker_in None = None
worker_in (Some n) = Some n.worker

abbrev pub chunks_in : Option Need → List ℕ
chunks_in None = []
chunks_in (Some n) = n.chunks

abbrev pub columns_in : Option Need → List ℕ
columns_in None = []
columns_in (Some n) = n.columns

-- the need that names the query
abbrev pub need_of : Setting → ℕ → Option Need
need_of s q = find (λ n. n.query == q) s.needs

-- the worker that the query's need names
abbrev pub worker_of : Setting → ℕ → Option ℕ
worker_of s q = worker_in (need_of s q)

-- the query's need has the chunk
abbrev pub asks_for : Setting → ℕ → ℕ → Bool
asks_for s q c = has (chunks_in (need_of s q)) c

-- Pieces: the pieces of chunk c have the numbers from c * groups on, one for each group

-- the groups that a query reads: the one group, or else the columns of its need
abbrev pub groups_read : Setting → ℕ → List ℕ
groups_read s q = if s.groups == 1 then 0 ∷ [] else columns_in (need_of s q)

abbrev pub piece_at : Setting → ℕ → ℕ → ℕ
piece_at s c g = c * s.groups + g

-- the chunk of which the piece is one
abbrev pub chunk_of : Setting → ℕ → ℕ
chunk_of s p = p / s.groups

-- the pieces of the chunk that the query reads, and that a load for it loads
abbrev pub pieces_read : Setting → ℕ → ℕ → List ℕ
pieces_read s q c = map (piece_at s c) (groups_read s q)

-- the query reads the group
abbrev pub reads_group : Setting → ℕ → ℕ → Bool
reads_group s q g = has (groups_read s q) g

-- r reads a piece of a chunk that q reads
abbrev pub shares : Setting → ℕ → ℕ → Bool
shares s q r = list_any (reads_group s r) (groups_read s q)

-- Which settings a manager may be made for

-- the numbers rise
abbrev pub IsRising : List ℕ → Type 0
IsRising [] = Unit {0}
IsRising (x ∷ xs) = AllByRecursion (λ (y : ℕ). x < y) xs × IsRising xs

-- with one group the columns are free
abbrev pub AreColumns : ℕ → List ℕ → Type 0
AreColumns groups columns = (groups ≡ 1) ⊎ ((0 < length columns) × AllByRecursion (λ (g : ℕ). g < groups) columns)

pub record IsNeed (s : Setting) (n : Need) : Type 0 where
  pub query : (1 ≤ n.query) × (n.query ≤ 256)
  pub worker : n.worker < s.workers
  pub rising : IsRising n.chunks
  pub within : AllByRecursion (λ (c : ℕ). c < s.chunks) n.chunks
  pub columns_rise : IsRising n.columns
  pub columns : AreColumns s.groups n.columns

-- each need names a query of its own
abbrev pub AreDistinct : List Need → Type 0
AreDistinct [] = Unit {0}
AreDistinct (n ∷ ns) = AllByRecursion (λ (m : Need). n.query ≢ m.query) ns × AreDistinct ns

-- the first cursor of a policy
abbrev pub first_cursor : PolicyName → List ℕ
first_cursor Relevance = []
first_cursor Elevator = 0 ∷ []
first_cursor Normal = []
first_cursor Attach = replicate 257 0

pub record IsSetting (s : Setting) : Type 0 where
  pub distinct : AreDistinct s.needs
  pub needs : AllByRecursion (IsNeed s) s.needs
  pub chunks : s.chunks ≤ 1024
  pub workers : (1 ≤ s.workers) × (s.workers ≤ 32)
  pub groups : (1 ≤ s.groups) × (s.groups ≤ 16)
  pub frames : s.frames ≤ 33554432

-- three frames for each worker and one more, counted in chunks
abbrev pub HasRoom : Setting → Type 0
HasRoom s = (3 * s.workers + 1) * s.groups ≤ s.frames

-- what a manager may be made for over a depot
pub record IsStart (o : Start) : Type 0 where
  pub setting : IsSetting o.setting
  pub room : HasRoom o.setting
  pub gets : o.gets ≤ 2 ^ 63

-- an origin of which nothing is said
abbrev pub nowhere : Start
nowhere = record {
  setting = record { needs = []; chunks = 0; workers = 0; frames = 0; groups = 0; policy = Relevance; cursor = [] };
  held = None;
  gets = 0;
  faults = 0;
}

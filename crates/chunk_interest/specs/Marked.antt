-- Which queries need each chunk and have it available, by chunk.
use Rattle.std.specs.Prelude.{◌≡◌, ◌≢◌, ◌<◌, ◌&&◌, ◌==◌, ℕ, Bool, true, false, List, []}
use Rattle.std.specs.Prelude.{length, nat_lt, nat_le, slice_index_or, if◌then◌else◌}
use Rattle.scan_story.specs.declared.view.Phase.{Phase}
use Rattle.scan_story.specs.declared.view.Phase.TheVariants.{Ended, Stopped}
use Rattle.scan_story.specs.Counting.{has}
use Rattle.chunk_interest.specs.declared.client.Client.{Client}
use Rattle.chunk_interest.specs.declared.marks.Marks.{Marks}
use Rattle.chunk_interest.specs.Clients.{client_at, is_active_phase}
use Rattle.chunk_interest.specs.Counted.{size_of}

-- Of a client

abbrev pub is_active : Client → Bool
is_active k = is_active_phase k.phase

-- active, with fewer than two chunks available
abbrev pub is_starved : Client → Bool
is_starved k = is_active k && nat_lt (size_of k.available) 2

-- active, with at most two chunks available
abbrev pub is_near : Client → Bool
is_near k = is_active k && nat_le (size_of k.available) 2

abbrev pub is_over_phase : Phase → Bool
is_over_phase Ended = true
is_over_phase Stopped = true
is_over_phase phase = false

-- ended or stopped
abbrev pub is_over : Client → Bool
is_over k = is_over_phase k.phase

-- Marks

-- the set of a chunk
abbrev pub row_at : List (List ℕ) → ℕ → List ℕ
row_at rows c = slice_index_or rows c []

-- the sets are those of the clients, but for what stands at chunks of clients that are over; the place before the
-- first query's is never active
pub record AreMarks (ks : List Client) (m : Marks) : Type 0 where
  pub clients : length ks ≡ 257
  pub nobody : is_active (client_at ks 0) ≡ false
  pub needing_size : length m.needing.items ≡ 1024
  pub having_size : length m.having.items ≡ 1024
  pub needing : (q c : ℕ) → c < 1024 → is_over (client_at ks q) ≡ false
      → has (row_at m.needing.items c) q ≡ has (client_at ks q).remaining c
  pub having : (q c : ℕ) → c < 1024 → is_over (client_at ks q) ≡ false
      → has (row_at m.having.items c) q ≡ has (client_at ks q).available c
  pub active : (q : ℕ) → has m.active q ≡ is_active (client_at ks q)
  pub starved : (q : ℕ) → has m.starved q ≡ is_starved (client_at ks q)
  pub near : (q : ℕ) → has m.near q ≡ is_near (client_at ks q)
  pub over : (q : ℕ) → has m.over q ≡ is_over (client_at ks q)

-- the clients of which a look at chunk c may change something are among these
abbrev pub AreConcerned : List Client → ℕ → List ℕ → Type 0
AreConcerned ks c these = (q : ℕ) → has these q ≡ false → (has (client_at ks q).remaining c ≡ false)
    × (has (client_at ks q).available c ≡ false)

-- Changes

-- unless the new client is over, the old one isn't either, and their sets differ in at most the chunk c
abbrev pub IsNear : ℕ → Client → Client → Type 0
IsNear c old new = is_over new ≡ false → (is_over old ≡ false)
    × ((x : ℕ) → x ≢ c → (has new.remaining x ≡ has old.remaining x) × (has new.available x ≡ has old.available x))

-- the query is marked as this client, at chunk c and among those that count; all else is as it was
pub record Follows (q c : ℕ) (k : Client) (m n : Marks) : Type 0 where
  pub needing_size : length n.needing.items ≡ length m.needing.items
  pub having_size : length n.having.items ≡ length m.having.items
  pub needing : (x r : ℕ)
      → has (row_at n.needing.items x) r
      ≡ (if x == c && r == q then has k.remaining c else has (row_at m.needing.items x) r)
  pub having : (x r : ℕ)
      → has (row_at n.having.items x) r
      ≡ (if x == c && r == q then has k.available c else has (row_at m.having.items x) r)
  pub active : (r : ℕ) → has n.active r ≡ (if r == q then is_active k else has m.active r)
  pub starved : (r : ℕ) → has n.starved r ≡ (if r == q then is_starved k else has m.starved r)
  pub near : (r : ℕ) → has n.near r ≡ (if r == q then is_near k else has m.near r)
  pub over : (r : ℕ) → has n.over r ≡ (if r == q then is_over k else has m.over r)

-- the marks of clients of which none is active or over and to none of which a chunk is available
pub record BeginsMarks (ks : List Client) (m : Marks) : Type 0 where
  pub needing_size : length m.needing.items ≡ 1024
  pub having_size : length m.having.items ≡ 1024
  pub needing : (c q : ℕ) → c < 1024 → has (row_at m.needing.items c) q ≡ has (client_at ks q).remaining c
  pub having : (c : ℕ) → c < 1024 → row_at m.having.items c ≡ []
  pub active : m.active ≡ []
  pub starved : m.starved ≡ []
  pub near : m.near ≡ []
  pub over : m.over ≡ []

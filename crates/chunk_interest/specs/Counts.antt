-- The numbers of what is kept of queries.
use Rattle.std.specs.Prelude.{◌&&◌, ℕ, Bool, List, nat_lt, nat_le}
use Rattle.scan_story.specs.Counting.{has, any_below}
use Rattle.chunk_interest.specs.Counted.{size_of}
use Rattle.chunk_interest.specs.declared.client.Client.{Client}
use Rattle.chunk_interest.specs.Clients.{client_at, is_active_phase}

-- Of a query

abbrev pub is_active_in : List Client → ℕ → Bool
is_active_in ks q = is_active_phase (client_at ks q).phase

abbrev pub needs_in : List Client → ℕ → ℕ → Bool
needs_in ks q c = has (client_at ks q).remaining c

abbrev pub is_available_in : List Client → ℕ → ℕ → Bool
is_available_in ks q c = has (client_at ks q).available c

abbrev pub needed_in : List Client → ℕ → ℕ
needed_in ks q = size_of (client_at ks q).remaining

abbrev pub available_in : List Client → ℕ → ℕ
available_in ks q = size_of (client_at ks q).available

abbrev pub is_starved_in : List Client → ℕ → Bool
is_starved_in ks q = is_active_in ks q && nat_lt (available_in ks q) 2

-- r reads a group that q reads, of n groups
abbrev pub shares_in : List Client → ℕ → ℕ → ℕ → Bool
shares_in ks n q r = any_below (λ g. has (client_at ks q).reads g && has (client_at ks r).reads g) n

-- Of a chunk, over all queries

abbrev pub is_interested_in : List Client → ℕ → ℕ → Bool
is_interested_in ks c q = is_active_in ks q && needs_in ks q c

abbrev pub is_starved_for : List Client → ℕ → ℕ → Bool
is_starved_for ks c q = is_starved_in ks q && needs_in ks q c

abbrev pub is_close_in : List Client → ℕ → ℕ → Bool
is_close_in ks c q = is_active_in ks q && is_available_in ks q c && nat_le (available_in ks q) 2

-- the query is one of these, active and needs the chunk
abbrev pub overlaps_by : List Client → List ℕ → ℕ → ℕ → Bool
overlaps_by ks among c r = is_interested_in ks c r && has among r

-- the query is one of these, starved and needs the chunk
abbrev pub starved_overlaps_by : List Client → List ℕ → ℕ → ℕ → Bool
starved_overlaps_by ks among c r = is_starved_for ks c r && has among r

abbrev pub feeds_in : List Client → ℕ → ℕ → Bool
feeds_in ks c q = is_starved_in ks q && is_available_in ks q c

-- The candidates, of what is kept of queries.
use Rattle.std.specs.Prelude.{◌&&◌, not, ℕ, Bool, List, nat_lt}
use Rattle.chunk_interest.specs.declared.client.Client.{Client}
use Rattle.chunk_interest.specs.Counts.{needs_in, is_available_in}

abbrev pub is_target_in : List Client → ℕ → ℕ → ℕ → Bool
is_target_in ks n q c = nat_lt c n && needs_in ks q c && not (is_available_in ks q c)

abbrev pub is_ready_in : List Client → ℕ → ℕ → ℕ → Bool
is_ready_in ks n q c = nat_lt c n && is_available_in ks q c

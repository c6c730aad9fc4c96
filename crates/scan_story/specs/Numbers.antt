-- The numbers of a history.
use Rattle.std.specs.Prelude.{◌==◌, ◌+◌, ◌&&◌, not, false, ℕ, Bool, [], ◌∷◌, Option, None}
use Rattle.std.specs.Prelude.{Some, nat_lt, nat_le, length, unwrap_or, if◌then◌else◌}
use Rattle.std.specs.Option.{option_map}
use Rattle.scan_story.specs.declared.entry.Entry.{Entry}
use Rattle.scan_story.specs.declared.entry.Entry.TheVariants.{Register, Release}
use Rattle.scan_story.specs.declared.view.Hold.{Hold}
use Rattle.scan_story.specs.declared.setting.Setting.{Setting}
use Rattle.scan_story.specs.Counting.{count_below, count_among}
use Rattle.scan_story.specs.Setting.{worker_of, shares, piece_at}
use Rattle.scan_story.specs.Views.{History, is_active, needs_chunk, is_available, is_framed, held_by}
use Rattle.scan_story.specs.Loads.{missing_pieces}

-- Of a query

-- how many chunks the query needs
abbrev pub needed : Setting → History → ℕ → ℕ
needed s h q = count_below (needs_chunk s h q) s.chunks

-- how many of them have all pieces that the query reads in frames
abbrev pub available : Setting → History → ℕ → ℕ
available s h q = count_below (is_available s h q) s.chunks

-- active, with fewer than two chunks available
abbrev pub is_starved : Setting → History → ℕ → Bool
is_starved s h q = is_active h q && nat_lt (available s h q) 2

-- a wait begins with the query's Register, and anew with each Release of it
abbrev pub begins_wait : ℕ → Entry → Bool
begins_wait q (Register w r) = r == q
begins_wait q (Release w r c) = r == q
begins_wait q _ = false

-- how many entries came after the last wait began
abbrev pub since_wait : History → ℕ → Option ℕ
since_wait [] q = None
since_wait (e ∷ h) q = if begins_wait q e then Some 0 else option_map (λ n. n + 1) (since_wait h q)

abbrev pub is_hold_for : ℕ → Option Hold → Bool
is_hold_for q None = false
is_hold_for q (Some o) = o.query == q

-- the worker, if any, holds a chunk for the query
abbrev pub holds_by : History → ℕ → Option ℕ → Bool
holds_by h q None = false
holds_by h q (Some w) = is_hold_for q (held_by h w)

-- the query's worker holds a chunk for it
abbrev pub holds_for : Setting → History → ℕ → Bool
holds_for s h q = holds_by h q (worker_of s q)

-- how many entries the query has waited: none while a chunk is held for it, and none before its Register
abbrev pub waiting : Setting → History → ℕ → ℕ
waiting s h q = if holds_for s h q then 0 else unwrap_or (since_wait h q) 0

-- how many queries are active
abbrev pub running : Setting → History → ℕ
running s h = count_among (λ n. is_active h n.query) s.needs

-- Of a chunk

-- how many active queries need the chunk
abbrev pub interested : Setting → History → ℕ → ℕ
interested s h c = count_among (λ n. is_active h n.query && needs_chunk s h n.query c) s.needs

-- how many starved queries need it
abbrev pub starved_interested : Setting → History → ℕ → ℕ
starved_interested s h c = count_among (λ n. is_starved s h n.query && needs_chunk s h n.query c) s.needs

-- how many active queries have it available, and at most two available chunks
abbrev pub close : Setting → History → ℕ → ℕ
close s h c = count_among
    (λ n. is_active h n.query && is_available s h n.query c && nat_le (available s h n.query) 2) s.needs

-- how many of its pieces are in no frame
abbrev pub missing : Setting → History → ℕ → ℕ
missing s h c = count_below (λ g. not (is_framed s h (piece_at s c g))) s.groups

-- how many of its pieces are in a frame
abbrev pub cached : Setting → History → ℕ → ℕ
cached s h c = count_below (λ g. is_framed s h (piece_at s c g)) s.groups

-- Of a query and a chunk

-- how many pieces that the query reads are in no frame
abbrev pub missing_for : Setting → History → ℕ → ℕ → ℕ
missing_for s h q c = length (missing_pieces s h q c)

-- how many active queries need the chunk and read a piece of it that the query reads
abbrev pub overlap : Setting → History → ℕ → ℕ → ℕ
overlap s h q c = count_among (λ n. is_active h n.query && needs_chunk s h n.query c && shares s q n.query) s.needs

-- how many of these are starved
abbrev pub starved_overlap : Setting → History → ℕ → ℕ → ℕ
starved_overlap s h q c = count_among
    (λ n. is_starved s h n.query && needs_chunk s h n.query c && shares s q n.query) s.needs

-- What a history says of queries, workers and frames. A history is a list of entries, the newest first.
use Rattle.std.specs.Prelude.{◌==◌, ◌&&◌, not, false, ℕ, Bool, List, [], ◌∷◌}
use Rattle.std.specs.Prelude.{Option, None, Some, reverse, if◌then◌else◌}
use Rattle.std.specs.List.{list_any, list_all}
use Rattle.scan_story.specs.declared.entry.Entry.{Entry}
use Rattle.scan_story.specs.declared.entry.Entry.TheVariants.{Register, Evict, Fill, Filled}
use Rattle.scan_story.specs.declared.entry.Entry.TheVariants.{Failed, Deliver, Release, Stop, End}
use Rattle.scan_story.specs.declared.view.Hold.{Hold}
use Rattle.scan_story.specs.declared.view.Phase.{Phase}
use Rattle.scan_story.specs.declared.view.Phase.TheVariants.{Waiting, Active, Ended, Stopped}
use Rattle.scan_story.specs.declared.setting.Setting.{Setting}
use Rattle.scan_story.specs.Counting.{is_number, any_below}
use Rattle.scan_story.specs.Setting.{asks_for, pieces_read, chunk_of}

abbrev pub History : Type 0
History = List Entry

-- a story, the oldest entry first, as a history
abbrev pub past : List Entry → History
past entries = reverse entries

-- Queries

abbrev pub registers : ℕ → Entry → Bool
registers q (Register w r) = r == q
registers q _ = false

abbrev pub stops : ℕ → Entry → Bool
stops q (Stop w r) = r == q
stops q (Failed w r p why) = r == q
stops q _ = false

abbrev pub ends : ℕ → Entry → Bool
ends q (End w r) = r == q
ends q _ = false

abbrev pub delivers : ℕ → ℕ → Entry → Bool
delivers q c (Deliver w r d) = r == q && d == c
delivers q c _ = false

-- the query has a Register
abbrev pub is_registered : History → ℕ → Bool
is_registered h q = list_any (registers q) h

-- the query has a Stop, or a Failed names it
abbrev pub is_stopped : History → ℕ → Bool
is_stopped h q = list_any (stops q) h

-- the query has an End
abbrev pub is_ended : History → ℕ → Bool
is_ended h q = list_any (ends q) h

-- registered, neither stopped nor ended
abbrev pub is_active : History → ℕ → Bool
is_active h q = is_registered h q && not (is_stopped h q) && not (is_ended h q)

-- the query's need has the chunk, it was not delivered to the query, and the query is neither stopped nor ended
abbrev pub needs_chunk : Setting → History → ℕ → ℕ → Bool
needs_chunk s h q c = asks_for s q c && not (is_stopped h q) && not (is_ended h q) && not (list_any (delivers q c) h)

abbrev pub phase_of : History → ℕ → Phase
phase_of h q =
    if is_stopped h q then Stopped
    else (if is_ended h q then Ended else (if is_registered h q then Active else Waiting))

-- Workers

-- the query and chunk that were last delivered to the worker, unless it released since
abbrev pub held_by : History → ℕ → Option Hold
held_by [] w = None
held_by (Deliver v q c ∷ h) w = if v == w then Some (record { query = q; chunk = c }) else held_by h w
held_by (Release v q c ∷ h) w = if v == w then None else held_by h w
held_by (_ ∷ h) w = held_by h w

abbrev pub is_hold_of : ℕ → Option Hold → Bool
is_hold_of c None = false
is_hold_of c (Some o) = o.chunk == c

-- some worker holds the chunk
abbrev pub is_held : Setting → History → ℕ → Bool
is_held s h c = any_below (λ w. is_hold_of c (held_by h w)) s.workers

-- Frames

-- the piece, unless it is one of the chunk's
abbrev pub kept_from : Setting → ℕ → Option ℕ → Option ℕ
kept_from s c None = None
kept_from s c (Some p) = if chunk_of s p == c then None else Some p

-- the piece that was last filled into the frame, unless a Fill of the frame or an Evict of the piece's chunk came since
abbrev pub piece_in : Setting → History → ℕ → Option ℕ
piece_in s [] f = None
piece_in s (Filled w g p ∷ h) f = if g == f then Some p else piece_in s h f
piece_in s (Fill w g p ∷ h) f = if g == f then None else piece_in s h f
piece_in s (Evict w c ∷ h) f = kept_from s c (piece_in s h f)
piece_in s (_ ∷ h) f = piece_in s h f

-- some frame has the piece
abbrev pub is_framed : Setting → History → ℕ → Bool
is_framed s h p = any_below (λ f. is_number p (piece_in s h f)) s.frames

-- each piece of the chunk that the query reads is in a frame
abbrev pub is_wholly_framed : Setting → History → ℕ → ℕ → Bool
is_wholly_framed s h q c = list_all (is_framed s h) (pieces_read s q c)

-- the query needs the chunk, and each piece of it that the query reads is in a frame
abbrev pub is_available : Setting → History → ℕ → ℕ → Bool
is_available s h q c = needs_chunk s h q c && is_wholly_framed s h q c

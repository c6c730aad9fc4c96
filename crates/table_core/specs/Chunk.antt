-- Chunks: the runs of consecutive rows into which a table is cut, counted from 0.
use Rattle.std.specs.Prelude.{◌+◌, ◌-◌, ◌*◌, ◌/◌, ℕ, List, length, min, take, drop}

-- how many chunks so many rows make, with so many rows in each but the last
abbrev pub chunk_count : ℕ → ℕ → ℕ
chunk_count rows per = (rows + per - 1) / per

-- the row after the last one of a chunk
abbrev pub chunk_end : ℕ → ℕ → ℕ → ℕ
chunk_end rows per c = min ((c + 1) * per) rows

-- the rows of a chunk
abbrev pub chunk : {T : Type 0} → List T → ℕ → ℕ → List T
chunk rows per c = take (chunk_end (length rows) per c - c * per) (drop (c * per) rows)

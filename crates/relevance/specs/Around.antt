-- Chunks going up and around from a start.
use Rattle.std.specs.Prelude.{◌+◌, ◌-◌, ◌%◌, ◌==◌, ℕ, if◌then◌else◌}

-- the chunk that is so far from the start
abbrev pub chunk_at : ℕ → ℕ → ℕ → ℕ
chunk_at chunks start far = (start % chunks + far) % chunks

-- how far the chunk is from the start; 0 where there is no chunk
abbrev pub far_from : ℕ → ℕ → ℕ → ℕ
far_from chunks start c = if chunks == 0 then 0 else (c + chunks - start % chunks) % chunks

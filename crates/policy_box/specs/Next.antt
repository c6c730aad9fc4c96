-- The chunk after a chunk, going around.
use Rattle.std.specs.Prelude.{◌+◌, ◌%◌, ◌==◌, ℕ, if◌then◌else◌}

-- the chunk after c; 0 where there is no chunk
abbrev pub next_of : ℕ → ℕ → ℕ
next_of chunks c = if chunks == 0 then 0 else (c + 1) % chunks

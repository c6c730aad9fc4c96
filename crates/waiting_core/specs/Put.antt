-- A worker's own place in a list of all.
use Rattle.std.specs.Prelude.{◌==◌, ℕ, if◌then◌else◌}

-- as before, but a for w
abbrev pub put : {A : Type 0} → (ℕ → A) → ℕ → A → ℕ → A
put f w a v = if v == w then a else f v

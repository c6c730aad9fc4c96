-- A look-up from texts to places, and the texts that stand there.
use Rattle.std.specs.Prelude.{◌≡◌, ◌<◌, ℕ, List, [], length, slice_index_or, All, Vec}
use Rattle.std.specs.Global.{Global}
use Rattle.csv_load.specs.Judged.{Fields}

-- the text of an entry stands at its place
abbrev pub IsSound : Fields → Vec ℕ Global × ℕ → Type 0
IsSound texts entry = (entry.1 < length texts) × (slice_index_or texts entry.1 [] ≡ entry.0.items)

abbrev pub AreSound : Fields → List (Vec ℕ Global × ℕ) → Type 0
AreSound texts entries = All (IsSound texts) entries

-- What a writer that runs out of memory leaves: what was there, and a prefix of its text.
use Rattle.std.specs.Prelude.{◌≡◌, ℕ, List, ◌++◌}

-- THE BYTES GREW BY A PREFIX of a text: by the part that is written, without the rest
pub record GrewByPrefix (old new text : List ℕ) : Type 0 where
  pub part : List ℕ
  pub rest : List ℕ
  pub grew : new ≡ old ++ part
  pub begins : text ≡ part ++ rest

-- What the book keeps of the load underway.
use Rattle.std.specs.Prelude.{◌==◌, ◌-◌, ℕ, Bool, false, Option, None, Some, nat_lt, if◌then◌else◌}
use Rattle.scan_story.specs.declared.view.Load.{Load}
use Rattle.interest_book.specs.declared.loading.Loading.{Loading}
use Rattle.chunk_interest.specs.Frames.{open_pieces}

-- what the book keeps of a load
abbrev pub loading_of : Load → Loading
loading_of l = record { worker = l.worker; query = l.query; chunk = l.chunk; left = open_pieces l }

-- what the book keeps of a load after a piece was filled: nothing where it was the last one
abbrev pub after_fill : Option Loading → Option Loading
after_fill None = None
after_fill (Some k) = if nat_lt 1 k.left then Some (record k { left = k.left - 1 }) else None

-- the chunk is the one that is loaded
abbrev pub loaded_in : ℕ → Option Loading → Bool
loaded_in c None = false
loaded_in c (Some k) = k.chunk == c

-- What a depot tells of the pieces that it holds, and what its calls do to them.
use Rattle.std.specs.Prelude.{◌≡◌, ◌≢◌, ◌==◌, ⊤, ℕ, List, [], ◌∷◌, length}
use Rattle.std.specs.Prelude.{Option, Some, None, option_map, if◌then◌else◌}
use Rattle.std.specs.BTreeMap.{insert_entry}
use Rattle.std.specs.Ordering.{nat_cmp}

-- pieces with their bytes, by rising piece
abbrev pub Pieces : Type 0
Pieces = List (ℕ × List ℕ)

-- the pieces that a depot holds, where it tells them
abbrev pub Stored : Type 0
Stored = Option Pieces

-- the bytes of a piece
abbrev pub bytes_of : Pieces → ℕ → Option (List ℕ)
bytes_of [] p = None
bytes_of (e ∷ es) p = if e.0 == p then Some e.1 else bytes_of es p

-- where it tells what it holds, the depot holds the piece with so many bytes
abbrev pub HoldsPiece : Stored → ℕ → ℕ → Type 0
HoldsPiece None p size = ⊤
HoldsPiece (Some pieces) p size = (bytes : List ℕ) × (bytes_of pieces p ≡ Some bytes) × (length bytes ≡ size)

-- where it tells what it holds, these are the bytes of the piece
abbrev pub ReadsPiece : Stored → ℕ → List ℕ → Type 0
ReadsPiece None p bytes = ⊤
ReadsPiece (Some pieces) p bytes = bytes_of pieces p ≡ Some bytes

-- the same pieces, and at this piece these bytes
abbrev pub with_piece : Stored → ℕ → List ℕ → Stored
with_piece stored p bytes = option_map (λ pieces. insert_entry nat_cmp pieces p bytes) stored

-- where it tells what it holds, each piece but this one is as it was
abbrev pub OthersStay : Stored → Stored → ℕ → Type 0
OthersStay None None p = ⊤
OthersStay None (Some new) p = ⊥
OthersStay (Some old) None p = ⊥
OthersStay (Some old) (Some new) p = (q : ℕ) → q ≢ p → bytes_of new q ≡ bytes_of old q

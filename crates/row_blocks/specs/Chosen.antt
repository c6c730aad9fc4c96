-- Rows chosen by the bits of a word.
use Rattle.std.specs.Prelude.{◌+◌, ◌==◌, ℕ, List, [], ◌∷◌, if◌then◌else◌}
use Rattle.std.specs.Int.{bit_at}

-- those at the places whose bits are set; the first row has the number n
abbrev pub chosen_from : {T : Type 0} → ℕ → ℕ → List T → List T
chosen_from n word [] = []
chosen_from n word (r ∷ rs) = if bit_at word n == 1 then r ∷ chosen_from (n + 1) word rs
    else chosen_from (n + 1) word rs

-- THE CHOSEN ROWS, in their order
abbrev pub chosen : {T : Type 0} → ℕ → List T → List T
chosen word rows = chosen_from 0 word rows

-- Texts that lie one after another in one run of bytes.
use Rattle.std.specs.Prelude.{◌-◌, ◌≤◌, ◌≡◌, ℕ, List, [], ◌∷◌, take, drop}

-- the texts that end at these places, after a start
abbrev pub cut : ℕ → List ℕ → List ℕ → List (List ℕ)
cut start [] bytes = []
cut start (end ∷ ends) bytes = take (end - start) (drop start bytes) ∷ cut end ends bytes

-- the places rise, and the last one is the end of the bytes
abbrev pub CutsAll : ℕ → List ℕ → ℕ → Type 0
CutsAll start [] size = start ≡ size
CutsAll start (end ∷ ends) size = (start ≤ end) × CutsAll end ends size

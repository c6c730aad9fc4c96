-- The lines of a text: a line feed ends one, a carriage return ends one, and both together end one.
use Rattle.std.specs.Prelude.{◌==◌, ◌+◌, ◌&&◌, ℕ, Bool, List, [], ◌∷◌, if◌then◌else◌}

abbrev pub is_feed : ℕ → Bool
is_feed b = b == 10

abbrev pub is_return : ℕ → Bool
is_return b = b == 13

abbrev pub one_if : Bool → ℕ
one_if b = if b then 1 else 0

-- how many lines end with this byte, where a carriage return may stand right before it
abbrev pub ended : Bool → ℕ → ℕ
ended behind_return b = if is_return b then 1 else if is_feed b then (if behind_return then 0 else 1) else 0

-- how many line feeds stand right behind a carriage return
unfoldable pub pairs : Bool → List ℕ → ℕ
pairs behind_return [] = 0
pairs behind_return (b ∷ bytes) = one_if (behind_return && is_feed b) + pairs (is_return b) bytes

-- how many line ends there are
unfoldable pub line_ends : Bool → List ℕ → ℕ
line_ends behind_return [] = 0
line_ends behind_return (b ∷ bytes) = ended behind_return b + line_ends (is_return b) bytes

-- how many bytes are of a kind
unfoldable pub count : (ℕ → Bool) → List ℕ → ℕ
count is [] = 0
count is (b ∷ bytes) = one_if (is b) + count is bytes

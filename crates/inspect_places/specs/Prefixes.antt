-- The longest prefix of a text that has tokens.
use Rattle.std.specs.Prelude.{◌<◌, ◌≤◌, ℕ, List, length, take, Option, Some, None}
use Rattle.sql_tokens.specs.Pieces.{Longest}
use Rattle.sql_tokens.specs.Tokens.{HasTokens}
use Rattle.sql_tokens.specs.declared.piece.Piece.{Piece}
use Rattle.sql_tokens.specs.declared.token.Token.{Token}

-- THE FRONT: so many bytes have tokens, and no longer prefix of the text has.
pub record IsLongestPrefix (bytes : List ℕ) (prefix : ℕ) : Type 0 where
  pub within : prefix ≤ length bytes
  pub tokens : (ts : List Token) × HasTokens 0 (take prefix bytes) ts
  pub longest : (more : ℕ) → prefix < more → more ≤ length bytes → (ts : List Token) → HasTokens 0 (take more bytes) ts
      → ⊥

-- how long the longest prefix is that f takes, whatever it is; None where it takes no prefix
abbrev pub IsLong : (List ℕ → Option Piece) → List ℕ → Option ℕ → Type 0
IsLong f bs None = Longest f bs None
IsLong f bs (Some n) = (p : Piece) × Longest f bs (Some (p, n))

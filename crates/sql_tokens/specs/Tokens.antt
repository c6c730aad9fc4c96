-- Which list of tokens a text has.
use Rattle.std.specs.Prelude.{◌≡◌, ◌<◌, ◌≤◌, ℕ, ◌+◌, List, [], ◌∷◌, ◌++◌, drop, Some}
use Rattle.sql_tokens.specs.Pieces.{Longest, piece_of}
use Rattle.sql_tokens.specs.declared.piece.Piece.{Piece}
use Rattle.sql_tokens.specs.declared.piece.Piece.TheVariants.{Blank, Comment, Lexeme}
use Rattle.sql_tokens.specs.declared.token.Token.{Token}
use Rattle.sql_tokens.specs.declared.refusal.TextRefusal.{TextRefusal}
use Rattle.sql_tokens.specs.declared.refusal.TextRefusal.TheVariants as refusal

-- the token of a piece, if it is one
abbrev pub tokens_of : Piece → ℕ → ℕ → List Token
tokens_of Blank from to = []
tokens_of Comment from to = []
tokens_of (Lexeme k) from to = record { kind = k; span = record { from = from; to = to } } ∷ []

-- The text from `at` on has these tokens: it is pieces one behind the other, each the longest at its place.
pub data HasTokens : ℕ → List ℕ → List Token → Type 0 where
  at_end : {at : ℕ} → HasTokens at [] []
  piece : {at : ℕ} {bs : List ℕ} {ts all : List Token} (n : ℕ) (p : Piece) → Longest piece_of bs (Some (p, n))
      → HasTokens (at + n) (drop n bs) ts → all ≡ tokens_of p at (at + n) ++ ts → HasTokens at bs all

-- From `at` on each token has a byte, ends before the next one begins, and ends at `end` or before.
abbrev pub AreInOrder : ℕ → ℕ → List Token → Type 0
AreInOrder at end [] = at ≤ end
AreInOrder at end (t ∷ ts) = (at ≤ t.span.from) × (t.span.from < t.span.to) × AreInOrder t.span.to end ts

-- why a text is refused
abbrev pub IsLexRefusal : List ℕ → TextRefusal → Type 0
IsLexRefusal bs refusal.Syntax = (ts : List Token) → HasTokens 0 bs ts → ⊥
IsLexRefusal bs refusal.TooNested = ⊥
IsLexRefusal bs refusal.TooManyItems = ⊥
IsLexRefusal bs refusal.Memory = Unit {0}

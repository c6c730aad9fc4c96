-- The token of a number, and the one before it.
use Rattle.std.specs.Prelude.{ℕ, ◌-◌, ◌==◌, Bool, true, false, if◌then◌else◌, List, slice_get, Option, Some, None}
use Rattle.sql_tokens.specs.Keywords.{keyword_of}
use Rattle.sql_tokens.specs.declared.keyword.Keyword.{Keyword}
use Rattle.sql_tokens.specs.declared.keyword.Keyword.TheVariants as key
use Rattle.sql_tokens.specs.declared.token.Token.{Token}
use Rattle.sql_tokens.specs.declared.token.TokenKind.{TokenKind}
use Rattle.sql_tokens.specs.declared.token.TokenKind.TheVariants as token
use Rattle.inspect_places.specs.Spelled.{bytes_at}

-- the token before the one of this number
abbrev pub before_at : List Token → ℕ → Option Token
before_at all number = if number == 0 then None else slice_get all (number - 1)

abbrev pub is_number_kind : TokenKind → Bool
is_number_kind token.Number = true
is_number_kind token.Decimal = true
is_number_kind _ = false

abbrev pub is_number : Option Token → Bool
is_number None = false
is_number (Some t) = is_number_kind t.kind

-- whether the token of this number is a number
abbrev pub is_number_at : List Token → ℕ → Bool
is_number_at all number = is_number (slice_get all number)

abbrev pub keyword_as : TokenKind → List ℕ → Option Keyword
keyword_as token.Keyword spelling = keyword_of spelling
keyword_as _ spelling = None

abbrev pub keyword_in : List ℕ → Option Token → Option Keyword
keyword_in bytes None = None
keyword_in bytes (Some t) = keyword_as t.kind (bytes_at bytes t.span)

-- the keyword before the token of this number, if one stands there
abbrev pub keyword_before : List ℕ → List Token → ℕ → Option Keyword
keyword_before bytes all number = keyword_in bytes (before_at all number)

abbrev pub is_from : Option Keyword → Bool
is_from (Some key.From) = true
is_from _ = false

-- whether a name of this number is the table's: FROM stands before it
abbrev pub is_table_at : List ℕ → List Token → ℕ → Bool
is_table_at bytes all number = is_from (keyword_before bytes all number)

abbrev pub is_limit : Option Keyword → Bool
is_limit (Some key.Limit) = true
is_limit _ = false

-- whether what stands there is a limit: LIMIT stands before it
abbrev pub is_limit_at : List ℕ → List Token → ℕ → Bool
is_limit_at bytes all number = is_limit (keyword_before bytes all number)

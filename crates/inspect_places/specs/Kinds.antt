-- The kind of a token, and its size where it is a number.
use Rattle.std.specs.Prelude.{ℕ, ◌^◌, if◌then◌else◌, nat_le, nat_lt, Option, Some, None}
use Rattle.sql_text.specs.Grammar.{Token, Key, Symbol, Compares, Column, Number, Decimal, Text}
use Rattle.sql_text.specs.declared.word.Sign.TheVariants.{Open, Close, Comma, Star, Minus}
use Rattle.sql_text.specs.Reading.{up_to}
use Rattle.inspect_places.specs.declared.kind.Kind.{Kind}
use Rattle.inspect_places.specs.declared.kind.Kind.TheVariants as kind
use Rattle.inspect_places.specs.declared.word.Size.{Size}
use Rattle.inspect_places.specs.declared.word.Size.TheVariants as size
use Rattle.inspect_places.specs.declared.word.Word.{Word}

abbrev pub kind_of : Token → Kind
kind_of (Key k) = kind.Key k
kind_of (Symbol Open) = kind.Open
kind_of (Symbol Close) = kind.Close
kind_of (Symbol Comma) = kind.Comma
kind_of (Symbol Star) = kind.Star
kind_of (Symbol Minus) = kind.Minus
kind_of (Compares o) = kind.Comparison
kind_of (Column c) = kind.Name
kind_of (Number n) = kind.Number
kind_of (Decimal n p) = kind.Decimal
kind_of (Text t) = kind.Text

abbrev pub size_of_value : Option ℕ → Size
size_of_value None = size.TooLarge
size_of_value (Some n) = if nat_le n 4096 then size.Limit
    else (if nat_lt n (2 ^ 63) then size.Positive else size.Negative)

abbrev pub number_size : ℕ → Size
number_size n = size_of_value (up_to (2 ^ 63) n)

abbrev pub decimal_size : ℕ → ℕ → Size
decimal_size n places = if nat_lt 9 places then size.TooLarge else number_size n

abbrev pub size_of : Token → Size
size_of (Number n) = number_size n
size_of (Decimal n p) = decimal_size n p
size_of _ = size.Limit

abbrev pub small : Kind → Word
small k = record { kind = k; size = size.Limit }

abbrev pub word_of : Token → Word
word_of t = record { kind = kind_of t; size = size_of t }

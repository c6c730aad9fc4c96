-- What a token of a text means, by its kind and its spelling.
use Rattle.std.specs.Prelude.{◌≡◌, ◌≤◌, ℕ, ◌+◌, ◌*◌, ◌-◌, Bool, true, false, not, ◌==◌, ◌||◌, if◌then◌else◌}
use Rattle.std.specs.Prelude.{List, ◌∷◌, [], length, map, take, drop, Option, Some, None, Result, Ok, Err}
use Rattle.sql_tokens.specs.Keywords.{keyword_of}
use Rattle.sql_tokens.specs.declared.keyword.Keyword.{Keyword}
use Rattle.sql_tokens.specs.declared.refusal.TextRefusal.{TextRefusal}
use Rattle.sql_tokens.specs.declared.refusal.TextRefusal.TheVariants as refusal
use Rattle.sql_tokens.specs.declared.span.Span.{Span}
use Rattle.sql_tokens.specs.declared.token.Token as tokens
use Rattle.sql_tokens.specs.declared.token.TokenKind.{TokenKind}
use Rattle.sql_tokens.specs.declared.token.TokenKind.TheVariants as kind
use Rattle.table_core.specs.declared.op.Op.TheVariants.{Eq, Ne, Lt, Le, Gt, Ge}
use Rattle.sql_text.specs.Grammar.{Token, Key, Symbol, Compares, Column, Number, Decimal, Text}
use Rattle.sql_text.specs.declared.word.Sign.TheVariants.{Open, Close, Comma, Star, Minus}
use Rattle.sql_text.specs.declared.word.Word.{Word}
use Rattle.sql_text.specs.declared.word.Word.TheVariants as word

-- The bytes behind an opening quote: a doubled quote stands for one, and the closing one for none.
abbrev pub inside : ℕ → Bool → List ℕ → List ℕ
inside quote is_open [] = []
inside quote true (b ∷ bs) = if b == quote then inside quote false bs else b ∷ inside quote true bs
inside quote false (b ∷ bs) = b ∷ inside quote true bs

-- what stands between quotes
abbrev pub unquoted : List ℕ → List ℕ
unquoted [] = []
unquoted (quote ∷ bs) = inside quote true bs

-- the value of digits behind n, a point left out
abbrev pub value_from : ℕ → List ℕ → ℕ
value_from n [] = n
value_from n (b ∷ bs) = if b == 46 then value_from n bs else value_from (10 * n + (b - 48)) bs

abbrev pub value_of : List ℕ → ℕ
value_of = value_from 0

-- how many bytes stand behind the point
abbrev pub places_of : List ℕ → ℕ
places_of [] = 0
places_of (b ∷ bs) = if b == 46 then length bs else places_of bs

-- ( ) , * - = < >
abbrev pub one_sign : ℕ → Token
one_sign a =
    if a == 40 then Symbol Open
    else (if a == 41 then Symbol Close
    else (if a == 44 then Symbol Comma
    else (if a == 42 then Symbol Star
    else (if a == 45 then Symbol Minus
    else (if a == 61 then Compares Eq
    else (if a == 60 then Compares Lt
    else Compares Gt))))))

-- <> and != are both Ne; <= >=
abbrev pub two_signs : ℕ → ℕ → Token
two_signs a b =
    if not (b == 61) || a == 33 then Compares Ne
    else (if a == 60 then Compares Le
    else Compares Ge)

-- No symbol is empty.
abbrev pub symbol_of : List ℕ → Token
symbol_of [] = Symbol Comma
symbol_of (a ∷ []) = one_sign a
symbol_of (a ∷ b ∷ bs) = two_signs a b

abbrev pub key_or_name : Option Keyword → List ℕ → Token
key_or_name (Some k) w = Key k
key_or_name None w = Column w

-- the meaning of a token of this kind that is spelled so
abbrev pub meaning : TokenKind → List ℕ → Token
meaning kind.Keyword w = key_or_name (keyword_of w) w
meaning kind.Name w = Column w
meaning kind.QuotedName w = Column (unquoted w)
meaning kind.Text w = Text (unquoted w)
meaning kind.Number w = Number (value_of w)
meaning kind.Decimal w = Decimal (value_of w) (places_of w)
meaning kind.Symbol w = symbol_of w

abbrev pub part : List ℕ → Span → List ℕ
part bytes span = take (span.to - span.from) (drop span.from bytes)

abbrev pub meaning_in : List ℕ → tokens.Token → Token
meaning_in bytes t = meaning t.kind (part bytes t.span)

-- Each token stands within the bytes.
abbrev pub StandIn : List ℕ → List tokens.Token → Type 0
StandIn bytes [] = Unit {0}
StandIn bytes (t ∷ ts) = (t.span.from ≤ t.span.to) × (t.span.to ≤ length bytes) × StandIn bytes ts

-- ---- the same of what the code holds

abbrev pub name_of : Bool → List ℕ → List ℕ
name_of is_quoted w = if is_quoted then unquoted w else w

abbrev pub token_of : Word → Token
token_of (word.Key k) = Key k
token_of (word.Sign s) = Symbol s
token_of (word.Compares o) = Compares o
token_of (word.Column q w) = Column (name_of q w.now)
token_of (word.Number w) = Number (value_of w.now)
token_of (word.Decimal w) = Decimal (value_of w.now) (places_of w.now)
token_of (word.Text w) = Text (unquoted w.now)

abbrev pub tokens_of : List Word → List Token
tokens_of = map token_of

-- something was made, unless memory ran out
abbrev pub Makes : {X Y : Type 0} → (X → Y) → Y → Result X TextRefusal → Type 0
Makes view y (Ok x) = view x ≡ y
Makes view y (Err e) = e ≡ refusal.Memory

-- What the pieces of a text are, and which piece is the longest at a place.
use Rattle.std.specs.Prelude.{◌≡◌, ◌<◌, ◌≤◌, ℕ, ◌+◌, Bool, true, false, not, ◌&&◌, ◌||◌, if◌then◌else◌}
use Rattle.std.specs.Prelude.{◌==◌, nat_lt, List, [], ◌∷◌, length, take, drop, Option, Some, None}
use Rattle.std.specs.List.{list_all, prefix_len}
use Rattle.sql_tokens.specs.Classes.{is_in}
use Rattle.sql_tokens.specs.Keywords.{keyword_of}
use Rattle.sql_tokens.specs.declared.class.Class.TheVariants as class
use Rattle.sql_tokens.specs.declared.keyword.Keyword.{Keyword}
use Rattle.sql_tokens.specs.declared.piece.Piece.{Piece}
use Rattle.sql_tokens.specs.declared.piece.Piece.TheVariants.{Blank, Comment, Lexeme}
use Rattle.sql_tokens.specs.declared.token.TokenKind.{TokenKind}
use Rattle.sql_tokens.specs.declared.token.TokenKind.TheVariants as kind

abbrev pub when : Bool → Piece → Option Piece
when true p = Some p
when false p = None

abbrev pub either : Option Piece → Option Piece → Option Piece
either (Some p) q = Some p
either None q = q

-- ---- what a whole word is

-- white space
abbrev pub blank_of : List ℕ → Option Piece
blank_of w = when (list_all (is_in class.White) w) Blank

-- a keyword, or else a name
abbrev pub kind_by : Option Keyword → TokenKind
kind_by (Some k) = kind.Keyword
kind_by None = kind.Name

abbrev pub kind_of_word : List ℕ → TokenKind
kind_of_word w = kind_by (keyword_of w)

abbrev pub word_of : List ℕ → Option Piece
word_of w = when (list_all (is_in class.Word) w) (Lexeme (kind_of_word w))

-- digits, one or more
abbrev pub is_digits : List ℕ → Bool
is_digits [] = false
is_digits (b ∷ bs) = list_all (is_in class.Digit) (b ∷ bs)

-- a point and digits
abbrev pub is_fraction : List ℕ → Bool
is_fraction [] = false
is_fraction (b ∷ bs) = b == 46 && is_digits bs

-- digits, a point, digits
abbrev pub is_decimal : List ℕ → Bool
is_decimal [] = false
is_decimal (b ∷ bs) = is_in class.Digit b && (is_fraction bs || is_decimal bs)

abbrev pub number_of : List ℕ → Option Piece
number_of w = either (when (is_digits w) (Lexeme kind.Number)) (when (is_decimal w) (Lexeme kind.Decimal))

-- the bytes behind an opening quote: they end at a closing quote, and a doubled quote closes nothing
abbrev pub closes : ℕ → Bool → List ℕ → Bool
closes quote is_open [] = not is_open
closes quote true (b ∷ bs) = closes quote (not (b == quote)) bs
closes quote false (b ∷ bs) = b == quote && closes quote true bs

-- in single quotes, and maybe nothing inside
abbrev pub text_of : List ℕ → Option Piece
text_of w = when (closes 39 true (drop 1 w)) (Lexeme kind.Text)

-- in double quotes, and at least one byte inside
abbrev pub quoted_of : List ℕ → Option Piece
quoted_of w = when (nat_lt 2 (length w) && closes 34 true (drop 1 w)) (Lexeme kind.QuotedName)

-- ( ) , * - = < > and <> != <= >=
abbrev pub is_one : ℕ → Bool
is_one a = a == 40 || (a == 41 || (a == 44 || (a == 42 || (a == 45 || (a == 61 || (a == 60 || a == 62))))))

abbrev pub is_two : ℕ → ℕ → Bool
is_two a b = (a == 60 && b == 62) || (b == 61 && (a == 33 || (a == 60 || a == 62)))

abbrev pub is_symbol : List ℕ → Bool
is_symbol [] = false
is_symbol (a ∷ []) = is_one a
is_symbol (a ∷ b ∷ []) = is_two a b
is_symbol (a ∷ b ∷ c ∷ bs) = false

-- two dashes and the rest of a line
abbrev pub is_comment : List ℕ → Bool
is_comment [] = false
is_comment (a ∷ []) = false
is_comment (a ∷ b ∷ bs) = a == 45 && (b == 45 && list_all (is_in class.Line) bs)

abbrev pub other_of : List ℕ → Option Piece
other_of w = either (when (is_comment w) Comment) (when (is_symbol w) (Lexeme kind.Symbol))

-- by its first byte
abbrev pub piece_by : ℕ → List ℕ → Option Piece
piece_by b w =
    if is_in class.White b then blank_of w
    else (if is_in class.Letter b then word_of w
    else (if is_in class.Digit b then number_of w
    else (if b == 39 then text_of w
    else (if b == 34 then quoted_of w
    else other_of w))))

abbrev pub piece_of : List ℕ → Option Piece
piece_of [] = None
piece_of (b ∷ bs) = piece_by b (b ∷ bs)

-- ---- the longest front of the bytes that f takes, and what it is; None where it takes no front

abbrev pub Longest : (List ℕ → Option Piece) → List ℕ → Option (Piece × ℕ) → Type 0
Longest f bs None = (m : ℕ) → 0 < m → m ≤ length bs → f (take m bs) ≡ None
Longest f bs (Some p) = (0 < p.1) × (p.1 ≤ length bs) × (f (take p.1 bs) ≡ Some p.0)
    × ((m : ℕ) → p.1 < m → m ≤ length bs → f (take m bs) ≡ None)

-- the longest front of the bytes that closes the quote
abbrev pub ClosesLast : ℕ → Bool → List ℕ → Option ℕ → Type 0
ClosesLast quote is_open bs None = (m : ℕ) → m ≤ length bs → closes quote is_open (take m bs) ≡ false
ClosesLast quote is_open bs (Some n) = (n ≤ length bs) × (closes quote is_open (take n bs) ≡ true)
    × ((m : ℕ) → n < m → m ≤ length bs → closes quote is_open (take m bs) ≡ false)

-- how many digits stand behind a point
abbrev pub fraction_len : List ℕ → ℕ
fraction_len [] = 0
fraction_len (b ∷ bs) = if b == 46 then prefix_len (is_in class.Digit) bs else 0

-- the longest comment or symbol
abbrev pub one_at : ℕ → Option (Piece × ℕ)
one_at a = if is_one a then Some (Lexeme kind.Symbol, 1) else None

abbrev pub longest_other : List ℕ → Option (Piece × ℕ)
longest_other [] = None
longest_other (a ∷ []) = one_at a
longest_other (a ∷ b ∷ bs) =
    if a == 45 && b == 45 then Some (Comment, 2 + prefix_len (is_in class.Line) bs)
    else (if is_two a b then Some (Lexeme kind.Symbol, 2) else one_at a)

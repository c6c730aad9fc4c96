-- What could stand at a place, in words.
use Rattle.std.specs.Prelude.{ℕ, Bool, true, false, List, [], ◌∷◌, ◌++◌, Option, Some, None, codes, decimal}
use Rattle.sql_tokens.specs.Keywords.{spelling}
use Rattle.inspect_places.specs.declared.kind.Kind.{Kind}
use Rattle.inspect_places.specs.declared.kind.Kind.TheVariants as kind

-- a kind of token, or the end
abbrev pub plain_text : Kind → List ℕ
plain_text (kind.Key k) = spelling k
plain_text kind.Open = codes "'('"
plain_text kind.Close = codes "')'"
plain_text kind.Comma = codes "','"
plain_text kind.Star = codes "'*'"
plain_text kind.Minus = codes "'-'"
plain_text kind.Comparison = codes "a comparison"
plain_text kind.Name = codes "a name"
plain_text kind.Number = codes "a number"
plain_text kind.Decimal = codes "a decimal"
plain_text kind.Text = codes "a text"
plain_text kind.End = codes "the end"

-- a name, by whose it is
abbrev pub name_words : Bool → List ℕ
name_words true = codes "the table's name, t"
name_words false = codes "a column's name"

-- numbers, with the greatest one where it is told
abbrev pub number_words : Option ℕ → List ℕ
number_words None = codes "a number"
number_words (Some most) = codes "a number up to " ++ decimal most

abbrev pub decimal_words : Option ℕ → List ℕ
decimal_words None = codes "a decimal"
decimal_words (Some most) = codes "a decimal with at most 9 places"

-- a kind of token in the words of a place
abbrev pub kind_text : Bool → Option ℕ → Kind → List ℕ
kind_text is_table most kind.Name = name_words is_table
kind_text is_table most kind.Number = number_words most
kind_text is_table most kind.Decimal = decimal_words most
kind_text is_table most k = plain_text k

-- what stands before a kind of a list, by the kinds behind it
abbrev pub between : List Kind → List ℕ
between [] = codes " or "
between (k ∷ ks) = codes ", "

-- all but the first kind of a list
abbrev pub others_text : Bool → Option ℕ → List Kind → List ℕ
others_text is_table most [] = []
others_text is_table most (k ∷ ks) = between ks ++ (kind_text is_table most k ++ others_text is_table most ks)

-- THE LIST in words: a comma behind each kind but the last two, and `or` between these; a name is the table's or a
-- column's, and the greatest number, where there is one, is told with the numbers
abbrev pub stands_text : Bool → Option ℕ → List Kind → List ℕ
stands_text is_table most [] = []
stands_text is_table most (k ∷ ks) = kind_text is_table most k ++ others_text is_table most ks

-- The reserved words, and which one a word is, ASCII case aside.
use Rattle.std.specs.Prelude.{ℕ, if◌then◌else◌, List, [], ◌∷◌, Option, Some, None, codes}
use Rattle.std.specs.Str.{str_eq_ignore_ascii_case}
use Rattle.sql_tokens.specs.declared.keyword.Keyword.{Keyword}
use Rattle.sql_tokens.specs.declared.keyword.Keyword.TheVariants as key

abbrev pub spelling : Keyword → List ℕ
spelling key.Select = codes "SELECT"
spelling key.From = codes "FROM"
spelling key.Where = codes "WHERE"
spelling key.Group = codes "GROUP"
spelling key.By = codes "BY"
spelling key.Count = codes "COUNT"
spelling key.Sum = codes "SUM"
spelling key.Min = codes "MIN"
spelling key.Max = codes "MAX"
spelling key.And = codes "AND"
spelling key.Or = codes "OR"
spelling key.Not = codes "NOT"
spelling key.Is = codes "IS"
spelling key.Null = codes "NULL"
spelling key.Order = codes "ORDER"
spelling key.Limit = codes "LIMIT"
spelling key.Asc = codes "ASC"
spelling key.Desc = codes "DESC"

abbrev pub keywords : List Keyword
keywords =
    key.Select ∷ key.From ∷ key.Where ∷ key.Group ∷ key.By ∷ key.Count ∷ key.Sum ∷ key.Min ∷ key.Max ∷ key.And
    ∷ key.Or ∷ key.Not ∷ key.Is ∷ key.Null ∷ key.Order ∷ key.Limit ∷ key.Asc ∷ key.Desc ∷ []

abbrev pub find_in : List Keyword → List ℕ → Option Keyword
find_in [] word = None
find_in (k ∷ ks) word = if str_eq_ignore_ascii_case (spelling k) word then Some k else find_in ks word

abbrev pub keyword_of : List ℕ → Option Keyword
keyword_of = find_in keywords

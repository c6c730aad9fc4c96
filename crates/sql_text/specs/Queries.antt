-- Which query a text is, and why a text is refused.
use Rattle.std.specs.Prelude.{◌≡◌, ◌<◌, ◌≤◌, ℕ, true, false, List, map}
use Rattle.sql_tokens.specs.Tokens.{HasTokens}
use Rattle.sql_tokens.specs.declared.refusal.TextRefusal.{TextRefusal}
use Rattle.sql_tokens.specs.declared.refusal.TextRefusal.TheVariants as refusal
use Rattle.sql_tokens.specs.declared.token.Token as tokens
use Rattle.sql_text.specs.Grammar.{Token, QueryTree, Reads, nesting, has_too_many}
use Rattle.sql_text.specs.Words.{meaning_in}

-- The text has these tokens, read with their meanings.
abbrev pub HasWords : List ℕ → List Token → Type 0
HasWords bytes ts = (all : List tokens.Token) × HasTokens 0 bytes all × (map (meaning_in bytes) all ≡ ts)

-- These tokens are this query, and no limit is passed.
pub record IsRead (ts : List Token) (q : QueryTree) : Type 0 where
  pub nested : nesting ts ≤ 256
  pub reads : Reads ts q
  pub few : has_too_many q ≡ false

-- Why tokens are refused, in the order in which the causes are looked for.
abbrev pub AreRefused : List Token → TextRefusal → Type 0
AreRefused ts refusal.TooNested = 256 < nesting ts
AreRefused ts refusal.Syntax = (nesting ts ≤ 256) × ((q : QueryTree) → Reads ts q → ⊥)
AreRefused ts refusal.TooManyItems = (nesting ts ≤ 256) × ((q : QueryTree) × Reads ts q × (has_too_many q ≡ true))
AreRefused ts refusal.Memory = Unit {0}

-- The text is this query.
abbrev pub HasQuery : List ℕ → QueryTree → Type 0
HasQuery bytes q = (ts : List Token) × HasWords bytes ts × IsRead ts q

-- Some text is this query.
abbrev pub CanBeRead : QueryTree → Type 0
CanBeRead q = (bytes : List ℕ) × HasQuery bytes q

-- Why a text is refused: it has no tokens, or its tokens are refused.
abbrev pub IsRefused : List ℕ → TextRefusal → Type 0
IsRefused bytes refusal.Syntax = (ts : List Token) → HasWords bytes ts → AreRefused ts refusal.Syntax
IsRefused bytes refusal.TooNested = (ts : List Token) × HasWords bytes ts × AreRefused ts refusal.TooNested
IsRefused bytes refusal.TooManyItems = (ts : List Token) × HasWords bytes ts × AreRefused ts refusal.TooManyItems
IsRefused bytes refusal.Memory = Unit {0}

-- The token at which a statement is nested too deep.
use Rattle.std.specs.Prelude.{◌<◌, ◌≤◌, ℕ, suc, ◌+◌, ◌-◌, ◌==◌, Bool, true}
use Rattle.std.specs.Prelude.{false, if◌then◌else◌, List, [], ◌∷◌, length, take}
use Rattle.sql_tokens.specs.declared.keyword.Keyword.TheVariants as key
use Rattle.sql_text.specs.Grammar.{Token, nesting}
use Rattle.inspect_places.specs.declared.kind.Kind.{Kind}
use Rattle.inspect_places.specs.declared.kind.Kind.TheVariants as kind
use Rattle.inspect_places.specs.Kinds.{kind_of}

-- The place: before it at most 256 tokens nest, and with the next one, if there is one, more.
pub record IsNestingPlace (ts : List Token) (place : ℕ) : Type 0 where
  pub within : place ≤ length ts
  pub few : nesting (take place ts) ≤ 256
  pub past : place < length ts → 256 < nesting (take (place + 1) ts)

-- AND, OR, NOT and an opening parenthesis
abbrev pub kind_nests : Kind → Bool
kind_nests (kind.Key key.And) = true
kind_nests (kind.Key key.Or) = true
kind_nests (kind.Key key.Not) = true
kind_nests kind.Open = true
kind_nests _ = false

-- how many tokens stand before the one that nests where no more may
abbrev pub nested_from : ℕ → List Token → ℕ
nested_from room [] = 0
nested_from room (t ∷ ts) =
    if kind_nests (kind_of t) then (if room == 0 then 0 else suc (nested_from (room - 1) ts))
    else suc (nested_from room ts)

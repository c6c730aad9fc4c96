-- The place at which tokens stop being the beginning of a query, and what could stand there.
use Rattle.std.specs.Prelude.{◌≡◌, ◌<◌, ◌≤◌, ◌+◌, ℕ, Bool, true, false, if◌then◌else◌, List}
use Rattle.std.specs.Prelude.{[], ◌∷◌, ◌++◌, length, map, take, Option, Some, None, slice_get}
use Rattle.std.specs.List.{Contains}
use Rattle.sql_tokens.specs.declared.span.Span.{Span}
use Rattle.sql_tokens.specs.declared.token.Token as tokens
use Rattle.sql_text.specs.Grammar.{Token, Number, Decimal, QueryText, QueryTree, query_tokens, query_tree, has_too_many}
use Rattle.sql_text.specs.Words.{meaning_in}
use Rattle.inspect_places.specs.declared.kind.Kind.{Kind}
use Rattle.inspect_places.specs.declared.kind.Kind.TheVariants as kind
use Rattle.inspect_places.specs.declared.place.Place.{Place}
use Rattle.inspect_places.specs.Foreign.{foreign_at, takes_text}
use Rattle.inspect_places.specs.Kinds.{kind_of}
use Rattle.inspect_places.specs.Near.{is_limit_at, is_number_at, is_table_at}

-- Where limits count, the query has at most 32 items, key columns and orders and a limit of at most 4096.
abbrev pub Keeps : Bool → QueryTree → Type 0
Keeps false q = Unit {0}
Keeps true q = has_too_many q ≡ false

-- These tokens are a query.
abbrev pub AreQuery : Bool → List Token → Type 0
AreQuery limited ts = (x : QueryText) × (query_tokens x ≡ ts) × Keeps limited (query_tree x)

-- Some query begins with these tokens.
abbrev pub Begin : Bool → List Token → Type 0
Begin limited ts = (rest : List Token) × AreQuery limited (ts ++ rest)

-- THE PLACE: so many tokens begin a query, and with the next one, if there is one, they begin none.
pub record IsPlace (limited : Bool) (ts : List Token) (place : ℕ) : Type 0 where
  pub within : place ≤ length ts
  pub begin : Begin limited (take place ts)
  pub stop : place < length ts → Begin limited (take (place + 1) ts) → ⊥

-- Behind these tokens a token of this kind could stand, or the end: with some such token they still begin a query.
abbrev pub CanStand : Bool → List Token → Kind → Type 0
CanStand limited before kind.End = AreQuery limited before
CanStand limited before k = (t : Token) × (kind_of t ≡ k) × Begin limited (before ++ t ∷ [])

-- a number behind these tokens begins a query exactly where it is at most so large; a decimal that does has no larger
-- digits and at most 9 places
pub record IsMost (limited : Bool) (before : List Token) (most : ℕ) : Type 0 where
  pub within : (n : ℕ) → Begin limited (before ++ Number n ∷ []) → n ≤ most
  pub stands : (n : ℕ) → n ≤ most → Begin limited (before ++ Number n ∷ [])
  pub decimals : (n p : ℕ) → Begin limited (before ++ Decimal n p ∷ []) → (n ≤ most) × (p ≤ 9)

-- THE BOUND of the numbers behind these tokens, if they have one
abbrev pub IsBound : Bool → List Token → Option ℕ → Type 0
IsBound limited before (Some most) = IsMost limited before most
IsBound limited before None = (most : ℕ) → IsMost limited before most → ⊥

-- behind these tokens a number passes no limit exactly where it is at most so large, if any query within the limits
-- begins with them
pub record IsMostWithin (before : List Token) (most : ℕ) : Type 0 where
  pub within : (n : ℕ) → Begin true (before ++ Number n ∷ []) → n ≤ most
  pub stands : (n : ℕ) → Begin true before → n ≤ most → Begin true (before ++ Number n ∷ [])

-- the greatest number that is told: behind LIMIT that of the limits, whatever is refused there, and else the bound
-- where a number is refused
abbrev pub told_most : Bool → Bool → Option ℕ → Option ℕ
told_most is_limit is_number bound = if is_limit then Some 4096 else (if is_number then bound else None)

-- the bytes of the token, or else the end of the text
abbrev pub span_or : ℕ → Option tokens.Token → Span
span_or end None = record { from = end; to = end }
span_or end (Some t) = t.span

-- the bytes of the token of this number; behind the last token the end of the text
abbrev pub span_at : ℕ → List tokens.Token → ℕ → Span
span_at end ts number = span_or end (slice_get ts number)

-- The place of the tokens of a text, by the grammar: where it is, what is known there, and just the kinds that can
-- stand there.
pub record IsGrammarPlace (limited : Bool) (bytes : List ℕ) (all : List tokens.Token) (p : Place) : Type 0 where
  pub number : ℕ
  pub place : IsPlace limited (map (meaning_in bytes) all) number
  pub span : p.span ≡ span_at (length bytes) all number
  pub bound : Option ℕ
  pub bound_is : IsBound limited (take number (map (meaning_in bytes) all)) bound
  pub most : p.most ≡ told_most (is_limit_at bytes all number) (is_number_at all number) bound
  pub limit : is_limit_at bytes all number ≡ true → IsMostWithin (take number (map (meaning_in bytes) all)) 4096
  pub is_table : p.is_table ≡ is_table_at bytes all number
  pub foreign : p.foreign ≡ foreign_at bytes (takes_text p.stands.items) all number
  pub listed : (k : Kind) → Contains p.stands.items k → CanStand limited (take number (map (meaning_in bytes) all)) k
  pub lists : (k : Kind) → CanStand limited (take number (map (meaning_in bytes) all)) k → Contains p.stands.items k

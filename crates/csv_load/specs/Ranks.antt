-- The dictionary of a list of names, and the code of each name in it.
use Rattle.std.specs.Prelude.{◌≡◌, ◌≢◌, ◌<◌, ℕ, List, [], length, map, slice_index_or}
use Rattle.std.specs.Prelude.{All, Contains, Option, Some, None, IfSome}
use Rattle.std.specs.Borrow.{Bor}
use Rattle.std.specs.List.Sorted.{IsSorted}
use Rattle.std.specs.Ordering.{nat_cmp, ordering_then}
use Rattle.std.specs.declared.cmp.Ordering.{Ordering}
use Rattle.csv_load.specs.Fronts.{IsFront}
use Rattle.table_core.specs.Dict.{Rises, text_cmp}

-- the text that a code stands for; no code stands for the empty text
abbrev pub stands_for : List (List ℕ) → Option ℕ → List ℕ
stands_for dict None = []
stands_for dict (Some code) = slice_index_or dict code []

-- the rising list of the names that aren't empty, and the code of each name
pub record IsRanked (names : List (List ℕ)) (dict : List (List ℕ)) (codes : List (Option ℕ)) : Type 0 where
  pub rises : Rises dict
  pub codes_stand : map (stands_for dict) codes ≡ names
  pub in_range : All (λ o. IfSome o (λ code. code < length dict)) codes
  pub filled : All (λ t. t ≢ []) dict
  pub named : All (Contains names) dict

-- a name that isn't empty, with its front and its place
abbrev pub Key : Type 0
Key = (ℕ × ℕ) × Bor (List ℕ) × ℕ

-- the texts of keys
abbrev pub key_texts : List Key → List (List ℕ)
key_texts order = map (λ (p : Key). p.1.now) order

-- the places of the names of keys
abbrev pub key_places : List Key → List ℕ
key_places order = map (λ (p : Key). p.2) order

-- how two names stand, by their fronts first, and two equal ones by their places
abbrev pub key_cmp : Key → Key → Ordering
key_cmp p q = ordering_then
    (ordering_then (ordering_then (nat_cmp p.0.0 q.0.0) (nat_cmp p.0.1 q.0.1)) (text_cmp p.1.now q.1.now))
    (nat_cmp p.2 q.2)

-- the names up to a place that aren't empty, each with its front and its place
pub record Keyed (names : List (List ℕ)) (end : ℕ) (order : List Key) : Type 0 where
  pub fronts : All (λ p. IsFront p.1.now p.0) order
  pub true_name : All (λ p. (p.2 < length names) × (p.1.now ≡ slice_index_or names p.2 []) × (p.1.now ≢ [])) order
  pub all : (k : ℕ) → k < end → slice_index_or names k [] ≢ [] → Contains (map (λ p. p.2) order) k

-- the names that aren't empty in rising order, and the place of each: those of sorted keys
pub record AreInOrder (names texts : List (List ℕ)) (places : List ℕ) : Type 0 where
  pub order : List Key
  pub keyed : Keyed names (length names) order
  pub sorted : IsSorted key_cmp order
  pub texts_are : texts ≡ key_texts order
  pub places_are : places ≡ key_places order

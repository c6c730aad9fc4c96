-- What a groups query means over its matching rows: one result row for each key, in key order, and the first sum that
-- overflows.
use Rattle.std.specs.Prelude.{ℕ, ◌+◌, ◌==◌, ◌^◌, Bool, not, ◌&&◌, if◌then◌else◌, List, [], ◌∷◌, ◌++◌, length}
use Rattle.std.specs.Prelude.{map, filter, fold, Option, Some, None, ℤ, pos, neg_ℤ, ◌+ℤ◌, int_lt, slice_index_or}
use Rattle.std.specs.Ordering.{is_eq, is_lt, match_ordering}
use Rattle.std.specs.Cmp.Lexicographic.{slice_cmp}
use Rattle.std.specs.declared.cmp.Ordering.{Ordering}
use Rattle.query_meaning.specs.declared.item.Item.{Item}
use Rattle.query_meaning.specs.declared.item.Item.TheVariants.{CountAll, Count, Sum, Min, Max, Key}
use Rattle.query_meaning.specs.Cells.{Cells}

-- whether a total is a whole number of 64 bits
abbrev pub fits : ℤ → Bool
fits t = not (int_lt t (neg_ℤ (pos (2 ^ 63)))) && int_lt t (pos (2 ^ 63))

abbrev pub or_else : {B : Type 0} → Option B → Option B → Option B
or_else (Some b) o = Some b
or_else None o = o

-- the first answer that a function has along a list
abbrev pub first_some : {A B : Type 0} → (A → Option B) → List A → Option B
first_some f [] = None
first_some f (a ∷ rest) = or_else (f a) (first_some f rest)

-- over any kind of cell
module _ {C : Type 0} (k : Cells C) where
  -- the cell of a column
  abbrev pub cell : List C → ℕ → C
  cell row x = slice_index_or row x k.null

  -- the value list of a column: its cells but for NULLs
  abbrev pub values : ℕ → List (List C) → List C
  values x rows = filter k.is_value (map (λ row. cell row x) rows)

  abbrev pub total : List C → ℤ
  total cells = fold (λ t c. t +ℤ k.int_of c) (pos 0) cells

  abbrev pub is_less : C → C → Bool
  is_less a b = is_lt (k.order a b)

  -- the lesser of two, of which each may be NULL for none
  abbrev pub lesser : C → C → C
  lesser a c = if not (k.is_value a) then c else (if not (k.is_value c) then a else (if is_less c a then c else a))

  -- the greater of two; NULL stands below all values
  abbrev pub greater : C → C → C
  greater a c = if is_less a c then c else a

  -- the least of the values, NULL where there is none
  abbrev pub least : List C → C
  least cells = fold lesser k.null cells

  -- the greatest of the values, NULL where there is none
  abbrev pub greatest : List C → C
  greatest cells = fold greater k.null cells

  -- the key of a row
  abbrev pub key_of : List ℕ → List C → List C
  key_of keys row = map (cell row) keys

  -- keys are ordered by their first cells that differ
  abbrev pub key_cmp : List C → List C → Ordering
  key_cmp = slice_cmp k.order

  abbrev pub same_key : List C → List C → Bool
  same_key q p = is_eq (key_cmp q p)

  -- the rows of a key
  abbrev pub group : List ℕ → List C → List (List C) → List (List C)
  group keys q rows = filter (λ row. same_key q (key_of keys row)) rows

  -- without key columns there is one group, whose key is the empty list
  abbrev pub first_keys : List ℕ → List (List C)
  first_keys [] = [] ∷ []
  first_keys (x ∷ xs) = []

  -- one key more among rising ones
  abbrev pub insert_key : List C → List (List C) → List (List C)
  insert_key p [] = p ∷ []
  insert_key p (q ∷ qs) = match_ordering (key_cmp p q) (p ∷ q ∷ qs) (q ∷ qs) (q ∷ insert_key p qs)

  -- the distinct ones, in key order
  abbrev pub distinct : List (List C) → List (List C)
  distinct [] = []
  distinct (q ∷ qs) = insert_key q (distinct qs)

  -- the keys of the answer
  abbrev pub keys_of : List ℕ → List (List C) → List (List C)
  keys_of keys rows = distinct (first_keys keys ++ map (key_of keys) rows)

  -- the cell of an item in the result row of the key q, over the rows of that key
  abbrev pub answer : List C → List (List C) → Item → C
  answer q rows CountAll = k.number (pos (length rows))
  answer q rows (Count x) = k.number (pos (length (values x rows)))
  answer q rows (Sum x) = if length (values x rows) == 0 then k.null else k.number (total (values x rows))
  answer q rows (Min x) = least (values x rows)
  answer q rows (Max x) = greatest (values x rows)
  answer q rows (Key j) = cell q j

  -- THE MEANING: one result row for each key, in key order
  abbrev pub meaning : List Item → List ℕ → List (List C) → List (List C)
  meaning items keys rows = map (λ q. map (answer q (group keys q rows)) items) (keys_of keys rows)

  -- the first sum over the rows of a key that is no whole number of 64 bits, with its item; the first item has the
  -- number n
  abbrev pub over : ℕ → List Item → List (List C) → Option (ℕ × ℤ)
  over n [] rows = None
  over n (Sum x ∷ items) rows = if fits (total (values x rows)) then over (n + 1) items rows
      else Some (n, total (values x rows))
  over n (i ∷ items) rows = over (n + 1) items rows

  -- THE OVERFLOW: the first in key order, then in item order, items counted from 1
  abbrev pub overflow : List Item → List ℕ → List (List C) → Option (ℕ × ℤ)
  overflow items keys rows = first_some (λ q. over 1 items (group keys q rows)) (keys_of keys rows)

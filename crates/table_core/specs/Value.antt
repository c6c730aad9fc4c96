-- The values of a table, which cells stand for, and the text of one value in an answer.
use Rattle.std.specs.Prelude.{◌≡◌, ◌≢◌, ◌+◌, ◌<◌, ◌/◌, ◌%◌, ◌^◌, ◌==◌, ◌++◌, ℕ, zero, suc, ℤ, pos, negsuc}
use Rattle.std.specs.Prelude.{List, [], ◌∷◌, length, slice_index_or, if◌then◌else◌, codes, decimal}
use Rattle.std.specs.List.{flat_map}
use Rattle.std.specs.Ordering.{int_cmp}
use Rattle.std.specs.declared.cmp.Ordering.{Ordering}
use Rattle.std.specs.declared.cmp.Ordering.TheVariants.{Less, Equal, Greater}
use Rattle.table_core.specs.declared.cell.Cell.{Cell}
use Rattle.table_core.specs.declared.cell.Cell.TheVariants.{Null, Int, Code}
use Rattle.table_core.specs.declared.schema.Kind.{Kind}
use Rattle.table_core.specs.declared.schema.Kind.TheVariants as kinds
use Rattle.table_core.specs.Dict.{text_cmp}

-- no value, a whole number, or a text; in a column with places the number is the value times 10 to their power
pub data Value : Type 0 where
  none : Value
  number : ℤ → Value
  text : List ℕ → Value

-- how two values stand: no value first, then numbers rising, then texts byte by byte
abbrev pub value_cmp : Value → Value → Ordering
value_cmp none none = Equal
value_cmp none (number n) = Less
value_cmp none (text t) = Less
value_cmp (number m) none = Greater
value_cmp (number m) (number n) = int_cmp m n
value_cmp (number m) (text t) = Less
value_cmp (text s) none = Greater
value_cmp (text s) (number n) = Greater
value_cmp (text s) (text t) = text_cmp s t

-- what a cell stands for, its code read in the column's dictionary
abbrev pub value_in : List (List ℕ) → Cell → Value
value_in dict Null = none
value_in dict (Int n) = number n
value_in dict (Code c) = text (slice_index_or dict c [])

-- a code is a place in the dictionary
abbrev pub IsCellOf : List (List ℕ) → Cell → Type 0
IsCellOf dict Null = Unit {0}
IsCellOf dict (Int n) = Unit {0}
IsCellOf dict (Code c) = c < length dict

-- the digits after the point of a column's numbers
abbrev pub places_of : Kind → ℕ
places_of kinds.Int = 0
places_of kinds.Text = 0
places_of (kinds.Dec places) = places

-- the last digits of a number, exactly so many
abbrev pub last_digits : ℕ → ℕ → List ℕ
last_digits zero n = []
last_digits (suc count) n = last_digits count (n / 10) ++ (48 + n % 10) ∷ []

-- a number of so many places without its sign: the whole part, and where there are places a point and just so many
-- digits
abbrev pub unsigned_text : ℕ → ℕ → List ℕ
unsigned_text zero n = decimal n
unsigned_text (suc places) n = decimal (n / 10 ^ suc places) ++ (46 ∷ last_digits (suc places) n)

abbrev pub number_text : ℕ → ℤ → List ℕ
number_text places (pos n) = unsigned_text places n
number_text places (negsuc n) = 45 ∷ unsigned_text places (suc n)

-- a quote inside is doubled
abbrev pub quoted_byte : ℕ → List ℕ
quoted_byte c = if c == 39 then 39 ∷ 39 ∷ [] else c ∷ []

-- a text in single quotes
abbrev pub quoted : List ℕ → List ℕ
quoted t = 39 ∷ (flat_map quoted_byte t ++ 39 ∷ [])

-- the text of one value of a column
abbrev pub value_text : Kind → Value → List ℕ
value_text kind none = codes "NULL"
value_text kind (number n) = number_text (places_of kind) n
value_text kind (text t) = quoted t

-- what a cell of a column may be: no value, a code in a column of texts, a number in any other
abbrev pub FitsColumn : Kind → List (List ℕ) → Cell → Type 0
FitsColumn kind dict Null = Unit {0}
FitsColumn kind dict (Int n) = kind ≢ kinds.Text
FitsColumn kind dict (Code c) = (kind ≡ kinds.Text) × (c < length dict)

-- the elements of two lists taken together, as far as both go
abbrev pub zip_with : {A B C : Type 0} → (A → B → C) → List A → List B → List C
zip_with f [] ys = []
zip_with f (x ∷ xs) [] = []
zip_with f (x ∷ xs) (y ∷ ys) = f x y ∷ zip_with f xs ys

-- what the cells of a row stand for, each in its column's dictionary
abbrev pub row_values : List (List (List ℕ)) → List Cell → List Value
row_values dicts row = zip_with value_in dicts row

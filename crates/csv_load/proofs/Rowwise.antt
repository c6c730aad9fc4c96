-- Rows that were read one after another, each field in its column.
use Rattle.std.proofs.Common.{◌≡◌, ◌∙◌, ◌+◌, ◌<◌, ◌≤◌, ◌++◌, ℕ, List, [], ◌∷◌, arith, sym, ap, length, get_or, take, drop, replicate, append_assoc, length-append, refl, inl, inr, set, get_or-set_same, get_or-set_other}
use Rattle.std.specs.Prelude.{None}
use Rattle.std.proofs.lemmas.Bool.{cases_eq}
use Rattle.std.proofs.lemmas.List.{append-nil, drop_all, get_or-replicate, length-replicate, map-append, take_all}
use Rattle.std.proofs.lemmas.List.Elements.{All-nil, All-push}
use Rattle.csv_load.specs.Judged.{Fields, refusal_of}
use Rattle.csv_load.specs.Gathered.{AreGathered, RowPut}
use Rattle.csv_load.specs.Meaning.{column_at}
use Rattle.csv_load.specs.Reading.{IsRead}
use Rattle.table_sets.specs.declared.limits.TheConstants.{MOST_ROWS}

-- the rows that were read, and those that are left
pub record SoFar (records : List Fields) (names : Fields) (columns : List Fields) (left : List Fields) (count : ℕ) : Type 0 where
  pub rows : List Fields
  pub records_are : records ≡ names ∷ (rows ++ left)
  pub read : AreGathered rows (length names) columns
  pub counted : length rows ≡ count

read-none : (width : ℕ) → AreGathered [] width (replicate width [])
read-none width = record {
  width_is = length-replicate {A = Fields} width [];
  widths = All-nil (λ (row : Fields). length row ≡ width);
  gathered = λ k inside. get_or-replicate {A = Fields} width k [] [] inside;
}

pub so_far-none : (records : List Fields) (names : Fields) (columns : List Fields) (left : List Fields) (width count : ℕ)
    → records ≡ names ∷ left → width ≡ length names → columns ≡ replicate width [] → count ≡ 0 → SoFar records names columns left count
so_far-none records names columns left width count e w none zero_rows = record {
  rows = [];
  records_are = e;
  read = rw (none, w) (read-none (length names));
  counted = sym zero_rows;
}

-- a column with a row more
column-push : (rows : List Fields) (row : Fields) (k : ℕ) → column_at k (rows ++ row ∷ []) ≡ column_at k rows ++ get_or row k [] ∷ []
column-push rows row k = map-append (λ (r : Fields). get_or r k []) rows (row ∷ [])

read-more : (rows : List Fields) (width : ℕ) (columns new : List Fields) (row : Fields) → AreGathered rows width columns → length row ≡ width → RowPut columns row new
    → AreGathered (rows ++ row ∷ []) width new
read-more rows width columns new row is wide put = record {
  width_is = put.width ∙ is.width_is;
  widths = All-push (λ (r : Fields). length r ≡ width) rows row is.widths wide;
  gathered = λ k inside.
      put.put k (rw is.width_is inside) ∙ ap (λ (fields : Fields). fields ++ get_or row k [] ∷ []) (is.gathered k inside) ∙ sym (column-push rows row k);
}

pub so_far-more : (records : List Fields) (names : Fields) (columns new : List Fields) (row : Fields) (left rest : List Fields) (count : ℕ)
    → SoFar records names columns left count → left ≡ row ∷ rest → length row ≡ length names → RowPut columns row new → SoFar records names new rest (count + 1)
so_far-more records names columns new row left rest count is e wide put = record {
  rows = is.rows ++ row ∷ [];
  records_are = is.records_are ∙ ap (λ (rs : List Fields). names ∷ rs) (rw e (sym (append_assoc is.rows (row ∷ []) rest)));
  read = read-more is.rows (length names) columns new row is.read wide put;
  counted = omega (arith, length-append is.rows (row ∷ []), is.counted);
}

pub so_far-all : (records : List Fields) (names : Fields) (columns : List Fields) (left : List Fields) (count : ℕ)
    → SoFar records names columns left count → left ≡ [] → refusal_of records ≡ None → 0 < length names → count ≤ MOST_ROWS → IsRead records names columns count
so_far-all records names columns left count is e accepted some few = record {
  accepted = accepted;
  rows = is.rows;
  records_are = is.records_are ∙ ap (λ (rs : List Fields). names ∷ rs) (rw e (append-nil is.rows));
  read = is.read;
  counted = is.counted;
  some_names = some;
  few_rows = omega (arith, is.counted, few);
}

-- what a call leaves of a vector that it was lent as a slice
pub rest-none : {T : Type 0} (new old : List T) (len : ℕ) → length new ≡ length old → len ≡ length old → take len (new ++ drop (length new) old) ≡ new
rest-none new old len e n = rw (drop_all (length new) old (omega arith), append-nil new) (take_all len new (omega arith))

-- one field more of a row is put
pub put-step : (old columns : List Fields) (row : Fields) (place : ℕ) (new : Fields) → place < length columns
    → ((k : ℕ) → k < place → get_or columns k [] ≡ get_or old k [] ++ get_or row k [] ∷ []) → get_or columns place [] ≡ get_or old place []
    → new ≡ get_or columns place [] ++ get_or row place [] ∷ [] → (k : ℕ) → k < place + 1 → get_or (set columns place new) k [] ≡ get_or old k [] ++ get_or row k [] ∷ []
put-step old columns row place new there before left put k low = elim (cases_eq k place) [
  | inl same ↦ rw (same, get_or-set_same columns place new [] there, put, left) refl
  | inr other ↦ get_or-set_other columns place k new [] other ∙ before k (omega (arith, low, other))
]

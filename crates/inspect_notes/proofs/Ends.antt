-- The ends of a column's zone over all rows are those of its values.
use Rattle.std.proofs.Common.{◌≡◌, ◌≢◌, ◌<◌, ℕ, zero, suc, Bool, true, false, not, List, [], ◌∷◌, length, get_or, refl, sym, ap, ◌∙◌, arith}
use Rattle.std.specs.Prelude.{Option, Some, None, IfSome, All, Contains, filter, if◌then◌else◌}
use Rattle.std.specs.Ordering.{is_le}
use Rattle.std.proofs.lemmas.Bool.{false≢true}
use Rattle.std.proofs.lemmas.List.{get_or-map, length-map}
use Rattle.std.proofs.lemmas.List.Elements.{All-map, All-contains, Contains-append_right}
use Rattle.table_core.specs.Dict.{Rises}
use Rattle.table_core.specs.Value.{none, value_in, value_cmp, IsCellOf}
use Rattle.table_core.specs.declared.cell.Cell.{Cell}
use Rattle.table_core.specs.declared.cell.Cell.TheVariants.{Null, Int, Code}
use Rattle.filter_zones.specs.Truth.{cell_at, is_null}
use Rattle.filter_zones.specs.Zone.{IsWithin, IsRange, Covers, column_of, values_of}
use Rattle.sql_bind.proofs.Stand.{cells_stand}
use Rattle.inspect_notes.specs.Values.{HasEnds, column_values, value_at}

-- what passes a filter stood there before
unfiltered : {A : Type 0} (p : A → Bool) (xs : List A) (x : A) (k : ℕ) → k < length (filter p xs) → get_or (filter p xs) k x ≡ x → Contains xs x
unfiltered p [] x k low is = absurd (omega arith)
unfiltered {A} p (y ∷ ys) x k low is = by (p y) k low is (unfiltered p ys x) where
  by : (b : Bool) (k : ℕ) → k < length (if b then y ∷ filter p ys else filter p ys) → get_or (if b then y ∷ filter p ys else filter p ys) k x ≡ x
      → ((k : ℕ) → k < length (filter p ys) → get_or (filter p ys) k x ≡ x → Contains ys x) → Contains (y ∷ ys) x
  by true zero low is rest = (zero, omega arith, is)
  by true (suc k) low is rest = Contains-append_right (y ∷ []) ys x (rest k (omega arith) is)
  by false k low is rest = Contains-append_right (y ∷ []) ys x (rest k low is)

is_value : (dict : List (List ℕ)) (c : Cell) → is_null c ≡ false → value_in dict c ≢ none
is_value dict Null e = absurd (false≢true (sym e))
is_value dict (Int n) e = λ same. cc
is_value dict (Code k) e = λ same. cc

above : (dict : List (List ℕ)) → Rises dict → (lo hi c : Cell) → IsCellOf dict lo → IsCellOf dict c → IsWithin c (Some (lo, hi)) → is_le (value_cmp (value_in dict lo) (value_in dict c)) ≡ true
above dict rises lo hi c v w within = ap is_le (cells_stand dict rises lo c v w) ∙ within.2

below : (dict : List (List ℕ)) → Rises dict → (lo hi c : Cell) → IsCellOf dict hi → IsCellOf dict c → IsWithin c (Some (lo, hi)) → is_le (value_cmp (value_in dict c) (value_in dict hi)) ≡ true
below dict rises lo hi c v w within = ap is_le (cells_stand dict rises c hi w v) ∙ within.3

-- the zone has room for a cell that isn't NULL: it lies in the range
in_range : (null : Bool) (range : Option (Cell × Cell)) (dict : List (List ℕ)) (c : Cell) → Covers (record { has_null = null; range = range }) c → value_in dict c ≢ none → IsWithin c range
in_range null range dict Null covers there = absurd (there refl)
in_range null range dict (Int n) covers there = covers
in_range null range dict (Code k) covers there = covers

no_value : (null : Bool) (dict : List (List ℕ)) (c : Cell) → Covers (record { has_null = null; range = None }) c → value_in dict c ≡ none
no_value null dict Null covers = refl
no_value null dict (Int n) covers = absurd covers
no_value null dict (Code k) covers = absurd covers

-- a cell of the range stands in the column
stood : (dict : List (List ℕ)) (x : ℕ) (rows : List (List Cell)) (c : Cell) → Contains (values_of (column_of x rows)) c → Contains (column_of x rows) c
stood dict x rows c found = unfiltered (λ (y : Cell). not (is_null y)) (column_of x rows) c found.0 found.1 found.2

pub coded : (dict : List (List ℕ)) (x : ℕ) (rows : List (List Cell)) (c : Cell) → All (λ row. IsCellOf dict (cell_at row x)) rows → Contains (values_of (column_of x rows)) c → IsCellOf dict c
coded dict x rows c cells found =
    All-contains (IsCellOf dict) (column_of x rows) c (All-map (IsCellOf dict) (λ row. cell_at row x) rows cells) (stood dict x rows c found)

stands : (dict : List (List ℕ)) (x : ℕ) (rows : List (List Cell)) (c : Cell) → Contains (values_of (column_of x rows)) c → Contains (column_values dict x rows) (value_in dict c)
stands dict x rows c found = by (stood dict x rows c found) where
  by : Contains (column_of x rows) c → Contains (column_values dict x rows) (value_in dict c)
  by s =
      let low : s.0 < length rows = omega (arith, length-map rows (λ (row : List Cell). cell_at row x), s.1) in
      let cell : cell_at (get_or rows s.0 []) x ≡ c = sym (get_or-map (λ row. cell_at row x) rows s.0 [] c low) ∙ s.2 in
      (s.0, omega (arith, length-map rows (value_at dict x), low), get_or-map (value_at dict x) rows s.0 [] (value_in dict c) low ∙ ap (value_in dict) cell)

pub ends_are : (dict : List (List ℕ)) (x : ℕ) (rows : List (List Cell)) (null : Bool) (range : Option (Cell × Cell)) → Rises dict → All (λ row. IsCellOf dict (cell_at row x)) rows
    → All (λ row. Covers (record { has_null = null; range = range }) (cell_at row x)) rows → IsRange (values_of (column_of x rows)) range → HasEnds dict (column_values dict x rows) range
ends_are dict x rows null None rises cells covers is =
    All-map (λ v. v ≡ none) (value_at dict x) rows (λ k d low. no_value null dict (cell_at (get_or rows k d) x) (covers k d low))
ends_are dict x rows null (Some p) rises cells covers is =
    let lo = coded dict x rows p.0 cells is.0 in
    let hi = coded dict x rows p.1 cells is.1 in
    let whole = All-contains (λ v. IsWithin v (Some p)) (values_of (column_of x rows)) p.0 is.2 is.0 in (
      record {
        there = stands dict x rows p.0 is.0;
        is_value = is_value dict p.0 whole.0;
        least = All-map (λ w. w ≢ none → is_le (value_cmp (value_in dict p.0) w) ≡ true) (value_at dict x) rows
            (λ k d low there. above dict rises p.0 p.1 (cell_at (get_or rows k d) x) lo (cells k d low) (in_range null (Some p) dict (cell_at (get_or rows k d) x) (covers k d low) there));
      },
      record {
        there = stands dict x rows p.1 is.1;
        is_value = is_value dict p.1 whole.1;
        greatest = All-map (λ w. w ≢ none → is_le (value_cmp w (value_in dict p.1)) ≡ true) (value_at dict x) rows
            (λ k d low there. below dict rises p.0 p.1 (cell_at (get_or rows k d) x) hi (cells k d low) (in_range null (Some p) dict (cell_at (get_or rows k d) x) (covers k d low) there));
      },
    )

pub ends_coded : (dict : List (List ℕ)) (x : ℕ) (rows : List (List Cell)) (range : Option (Cell × Cell)) → All (λ row. IsCellOf dict (cell_at row x)) rows → IsRange (values_of (column_of x rows)) range
    → IfSome range (λ e. IsCellOf dict e.0 × IsCellOf dict e.1)
ends_coded dict x rows None cells is = tt
ends_coded dict x rows (Some p) cells is = (coded dict x rows p.0 cells is.0, coded dict x rows p.1 cells is.1)

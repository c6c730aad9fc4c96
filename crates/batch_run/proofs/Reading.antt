-- Rows that are read from a chunk.
use Rattle.std.proofs.Common.{◌≡◌, ◌∙◌, ◌<◌, ◌-◌, ◌*◌, ℕ, List, [], length, drop, get_or, arith, inl, inr, sym, length-drop}
use Rattle.std.proofs.lemmas.Bool.{cases_Bool}
use Rattle.std.proofs.lemmas.List.{length-take-le}
use Rattle.std.proofs.lemmas.List.Elements.{All-drop, All-get_or, All-take}
use Rattle.table_core.specs.Chunk.{chunk, chunk_end}
use Rattle.table_sets.specs.Sets.{has}
use Rattle.table_core.specs.declared.cell.Cell.{Cell}
use Rattle.piece_format.specs.Shape.{TableShape, rows_in}
use Rattle.query_gather.specs.Agree.{RowsAgree}
use Rattle.frame_rows.specs.Rows.{FitColumns, HasCellsOf, OthersAreNull}
use Rattle.batch_ends.specs.Rows.{AreOfShape, FitsShape}

-- cells that some columns may have, and NULL in the other places
pub read_fits : (z : TableShape) (columns : List ℕ) (cells : List Cell) → length cells ≡ length z.kinds → FitColumns z columns cells → OthersAreNull columns cells → FitsShape z cells
read_fits z columns cells width fits others = record {
  width = width;
  cells = λ x low. elim (cases_Bool (has columns x)) [
    | inl named ↦ fits x named
    | inr not ↦ rw (others x (omega (arith, low, width)) not) tt
  ];
}

module _ (z : TableShape) (table : List (List Cell)) (wide : AreOfShape z table) (c : ℕ) where
  -- a chunk of a table of the shape
  pub chunk_long : length (chunk table z.per c) ≡ rows_in z c
  chunk_long =
      let n = chunk_end (length table) z.per c - c * z.per in
      length-take-le n (drop (c * z.per) table) (omega (arith, length-drop (c * z.per) table)) ∙ omega (arith, wide.count)

  -- as far as a plan can tell, a row that is read is that of the table
  pub read_agrees : (columns : List ℕ) (row : ℕ) (cells : List Cell) → length cells ≡ length z.kinds → row < rows_in z c → HasCellsOf (chunk table z.per c) row columns cells
      → (row < length (chunk table z.per c)) × RowsAgree columns cells (get_or (chunk table z.per c) row [])
  read_agrees columns row cells width low are =
      let Wide = λ (r : List Cell). length r ≡ length z.kinds in
      let there : row < length (chunk table z.per c) = omega (arith, low, chunk_long) in (
        there,
        record {
          width = width ∙ sym (All-get_or Wide (chunk table z.per c) row [] there (All-take Wide (chunk_end (length table) z.per c - c * z.per) (drop (c * z.per) table) (All-drop Wide (c * z.per) table wide.width)));
          cells = are;
        },
      )

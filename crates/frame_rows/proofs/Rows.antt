-- Rows that are read place by place.
use Rattle.std.proofs.Common.{◌≡◌, ◌<◌, ◌+◌, ◌/◌, ◌%◌, ◌∙◌, ℕ, List, length, slice_set, arith, sym, ap, subst, inl, inr}
use Rattle.std.proofs.lemmas.Bool.{cases_eq}
use Rattle.std.proofs.lemmas.List.{get_or-set_other, get_or-set_same, length-set}
use Rattle.std.proofs.lemmas.Nat.{div-mul-add, mod-mul-add}
use Rattle.frame_pool.specs.Frames.{Told}
use Rattle.piece_format.specs.Shape.{TableShape, chunk_of, groups, groups_in}
use Rattle.piece_format.specs.declared.layout.Layout.{Layout}
use Rattle.piece_format.specs.declared.layout.Layout.TheVariants as layouts
use Rattle.table_sets.specs.Sets.{has}
use Rattle.table_core.specs.declared.cell.Cell.{Cell}
use Rattle.table_core.specs.declared.cell.Cell.TheVariants.{Null}
use Rattle.frame_rows.specs.Pins.{slot_at}
use Rattle.frame_rows.specs.Rows.{AreForPlaces, AreForSlots, AreOfColumns, IsForPlace, column_in, in_place}

-- Slots

-- in the column layout a chunk has a piece for each column
pub column_groups : (z : TableShape) → z.layout ≡ layouts.Column → groups z ≡ length z.kinds
column_groups z e = ap (λ (l : Layout). groups_in l (length z.kinds)) e

-- the chunk and the group of a slot's piece
pub slot_chunk : (z : TableShape) (c : ℕ) (slots : List (ℕ × ℕ)) (k : ℕ) → z.layout ≡ layouts.Column → AreOfColumns z c slots → k < length slots → chunk_of z (slot_at slots k).1 ≡ c
slot_chunk z c slots k e are low =
    let n : ℕ = length z.kinds in
    let a = are k low in
    ap (λ (m : ℕ). (slot_at slots k).1 / m) (column_groups z e) ∙ (ap (λ (p : ℕ). p / n) a.0 ∙ div-mul-add c n (column_in z c slots k) a.1)

pub slot_group : (z : TableShape) (c : ℕ) (slots : List (ℕ × ℕ)) (k : ℕ) → z.layout ≡ layouts.Column → AreOfColumns z c slots → k < length slots → (slot_at slots k).1 % groups z ≡ column_in z c slots k
slot_group z c slots k e are low =
    let n : ℕ = length z.kinds in
    let a = are k low in
    ap (λ (m : ℕ). (slot_at slots k).1 % m) (column_groups z e) ∙ (ap (λ (p : ℕ). p % n) a.0 ∙ mod-mul-add c n (column_in z c slots k) a.1)

-- Places

module _ (told : Told) (z : TableShape) (c row : ℕ) (columns : List ℕ) where
  -- a place was read, and of another one it was known
  put_one : (cells : List Cell) (i x : ℕ) (cell : Cell) → i < length cells → IsForPlace told z c row columns i cell → ((x ≡ i → ⊥) → IsForPlace told z c row columns x (in_place cells x))
      → IsForPlace told z c row columns x (in_place (slice_set cells i cell) x)
  put_one cells i x cell there is known = elim (cases_eq x i) [
    | inl here ↦ subst (λ (y : ℕ). IsForPlace told z c row columns y (in_place (slice_set cells i cell) y)) (sym here) (rw (get_or-set_same cells i cell Null there) is)
    | inr other ↦ rw (get_or-set_other cells i x cell Null other) (known other)
  ]

  -- one place more is read
  pub one_place_more : (cells : List Cell) (i : ℕ) (cell : Cell) → i < length cells → AreForPlaces told z c row columns i cells → IsForPlace told z c row columns i cell
      → AreForPlaces told z c row columns (i + 1) (slice_set cells i cell)
  one_place_more cells i cell there are is x low = put_one cells i x cell there is (λ other. are x (omega (arith, low, other)))

  -- one slot more is read
  pub one_slot_more : (slots : List (ℕ × ℕ)) (i : ℕ) (cells : List Cell) (cell : Cell) → let x = column_in z c slots i in x < length cells → AreForSlots told z c row columns slots i cells → IsForPlace told z c row columns x cell
      → AreForSlots told z c row columns slots (i + 1) (slice_set cells x cell)
  one_slot_more slots i cells cell there are is =
      let x : ℕ = column_in z c slots i in
      let at = λ (y : ℕ). in_place (slice_set cells x cell) y in
      record {
        first = λ k low. put_one cells x (column_in z c slots k) cell there is (λ other. are.first k (elim (cases_eq k i) [
          | inl here ↦ absurd (other (ap (column_in z c slots) here))
          | inr less ↦ omega (arith, low, less)
        ]));
        others = λ y low not. elim (cases_eq y x) [
          | inl here ↦ ap at here ∙ (get_or-set_same cells x cell Null there ∙ is.other (ap (has columns) (sym here) ∙ not))
          | inr other ↦ get_or-set_other cells x y cell Null other ∙ are.others y (let n = length-set cells x cell in omega (arith, low, n)) not
        ];
      }

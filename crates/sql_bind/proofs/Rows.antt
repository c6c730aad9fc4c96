-- The values of a row of cells, place by place, and the truth of a condition over them.
use Rattle.std.proofs.Common.{◌≡◌, ◌∙◌, ◌<◌, ℕ, List, length, refl, sym, ap, arith}
use Rattle.std.specs.Prelude.{Bool, false, if◌then◌else◌, not, Option, Some, None}
use Rattle.table_core.specs.Fitting.{FitsRow, dict_at, kind_at}
use Rattle.table_core.specs.Dict.{Rises}
use Rattle.table_core.specs.Value.{FitsColumn, value_in, row_values}
use Rattle.table_core.specs.declared.cell.Cell.{Cell}
use Rattle.table_core.specs.declared.cell.Cell.TheVariants.{Null, Int, Code}
use Rattle.table_core.specs.declared.op.Op.{Op}
use Rattle.table_core.specs.declared.schema.Column.{Column}
use Rattle.table_core.specs.declared.schema.Kind.{Kind}
use Rattle.filter_zones.specs.declared.cond.Bound.{Bound}
use Rattle.filter_zones.specs.declared.cond.Cond.{Cond}
use Rattle.filter_zones.specs.declared.cond.Cond.TheVariants as cond
use Rattle.filter_zones.specs.Truth.{is_null, cell_at, comparison, null_test, two_valued, is_met, truth_of, least, greatest, opposite}
use Rattle.sql_bind.proofs.Stand as values
use Rattle.sql_text.specs.declared.condition.Literal.{Literal}
use Rattle.sql_text.specs.Grammar.{Tree, Compare, NullTest, Both, Either, Negated}
use Rattle.sql_bind.specs.Places.{literal_use}
use Rattle.sql_bind.specs.Refusals.{misuses}
use Rattle.sql_bind.specs.Truth.{value_at, is_none, compared, tested, truth_over}
use Rattle.sql_bind.specs.Bounds.{StandsFor, IsSound, IsSoundWhere, IsCondOf, IsBound, HasTruthOf, FitsRows, HasTruth}
use Rattle.sql_bind.proofs.Matching.{cells_fit}
use Rattle.sql_bind.proofs.Stands.{stands, of_kind}

same_null : (dict : List (List ℕ)) (c : Cell) → is_none (value_in dict c) ≡ is_null c
same_null dict Null = refl
same_null dict (Int n) = refl
same_null dict (Code n) = refl

-- a comparison of a cell with what stands for a literal is that of its value with the literal
same_compared : (o : Op) (k : Kind) (dict : List (List ℕ)) (l : Literal) (v : Bound) (c : Cell) → StandsFor k dict l v → FitsColumn k dict c → comparison o v c ≡ compared o k l (value_in dict c)
same_compared o k dict l v Null s f = refl
same_compared o k dict l v (Int n) s f = ap (λ r. two_valued (is_met o r)) (s (Int n) f refl)
same_compared o k dict l v (Code n) s f = ap (λ r. two_valued (is_met o r)) (s (Code n) f refl)

-- the comparison of a row's cell in a column is that of its value
same_comparison : (columns : List Column) (dicts : List (List (List ℕ))) (row : List Cell) (x : ℕ) (o : Op) (l : Literal) (v : Bound) → length dicts ≡ length columns → x < length columns → StandsFor (kind_at columns x) (dict_at dicts x) l v
    → FitsRow columns dicts row → comparison o v (cell_at row x) ≡ compared o (kind_at columns x) l (value_at (row_values dicts row) x)
same_comparison columns dicts row x o l v same inside stands fits =
    same_compared o (kind_at columns x) (dict_at dicts x) l v (cell_at row x) stands (fits.cells x inside) ∙ sym (ap (compared o (kind_at columns x) l) (values.value_at dicts row x (cells_fit columns dicts row same fits)))

-- the test for NULL of a row's cell in a column is that of its value
same_test : (columns : List Column) (dicts : List (List (List ℕ))) (row : List Cell) (x : ℕ) (negated : Bool) → length dicts ≡ length columns
    → FitsRow columns dicts row → null_test negated (cell_at row x) ≡ tested negated (value_at (row_values dicts row) x)
same_test columns dicts row x negated same fits =
    let null : is_null (cell_at row x) ≡ is_none (value_at (row_values dicts row) x) = sym (ap is_none (values.value_at dicts row x (cells_fit columns dicts row same fits)) ∙ same_null (dict_at dicts x) (cell_at row x)) in
    ap (λ b. two_valued (if negated then not b else b)) null

-- ---- conditions

module _ (columns : List Column) (dicts : List (List (List ℕ))) (same : length dicts ≡ length columns) (rises : (x : ℕ) → Rises (dict_at dicts x)) where
  fits_of : (t : Tree) (c : Cond) → IsSound columns t → IsCondOf columns dicts t c → FitsRows columns dicts c
  fits_of (Compare n o l) (cond.Compare x p v) sound is row fits =
      let inside : x < length columns = omega (arith, is.0, sound.0) in
      let used : misuses (kind_at columns x) (literal_use l) ≡ false = ap (λ y. misuses (kind_at columns y) (literal_use l)) is.0 ∙ sound.1 in
      (omega (arith, inside, fits.width), of_kind (kind_at columns x) (dict_at dicts x) l v used is.2 (cell_at row x) (fits.cells x inside))
  fits_of (NullTest n negated) (cond.IsNull x m) sound is row fits = omega (arith, is.0, sound, fits.width)
  fits_of (Both a b) (cond.And' p x q y) sound is row fits = (fits_of a x sound.0 is.0 row fits, fits_of b y sound.1 is.1 row fits)
  fits_of (Either a b) (cond.Or' p x q y) sound is row fits = (fits_of a x sound.0 is.0 row fits, fits_of b y sound.1 is.1 row fits)
  fits_of (Negated a) (cond.Not' p x) sound is row fits = fits_of a x sound is row fits
  fits_of _ _ sound is row fits = absurd is

  truth_of_cond : (t : Tree) (c : Cond) → IsSound columns t → IsCondOf columns dicts t c → HasTruthOf columns dicts t c
  truth_of_cond (Compare n o l) (cond.Compare x p v) sound is row fits =
      let inside : x < length columns = omega (arith, is.0, sound.0) in
      ap (λ y. comparison y v (cell_at row x)) is.1
      ∙ same_comparison columns dicts row x o l v same inside (stands (kind_at columns x) (dict_at dicts x) l v (rises x) is.2) fits
      ∙ ap (λ y. compared o (kind_at columns y) l (value_at (row_values dicts row) y)) is.0
  truth_of_cond (NullTest n negated) (cond.IsNull x m) sound is row fits =
      ap (λ y. null_test y (cell_at row x)) is.1 ∙ same_test columns dicts row x negated same fits ∙ ap (λ y. tested negated (value_at (row_values dicts row) y)) is.0
  truth_of_cond (Both a b) (cond.And' p x q y) sound is row fits =
      ap (λ t. least t (truth_of y row)) (truth_of_cond a x sound.0 is.0 row fits) ∙ ap (least (truth_over columns a (row_values dicts row))) (truth_of_cond b y sound.1 is.1 row fits)
  truth_of_cond (Either a b) (cond.Or' p x q y) sound is row fits =
      ap (λ t. greatest t (truth_of y row)) (truth_of_cond a x sound.0 is.0 row fits) ∙ ap (greatest (truth_over columns a (row_values dicts row))) (truth_of_cond b y sound.1 is.1 row fits)
  truth_of_cond (Negated a) (cond.Not' p x) sound is row fits = ap opposite (truth_of_cond a x sound is row fits)
  truth_of_cond _ _ sound is row fits = absurd is

  pub has_truth : (t : Option Tree) (c : Option Cond) → IsSoundWhere columns t → IsBound columns dicts t c → HasTruth columns dicts t c
  has_truth None None sound is = tt
  has_truth None (Some c) sound is = absurd is
  has_truth (Some t) None sound is = absurd is
  has_truth (Some t) (Some c) sound is = (truth_of_cond t c sound is, fits_of t c sound is)

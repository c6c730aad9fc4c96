-- The fields of a record, and those of the record that is made of it.
use Rattle.std.proofs.Common.{◌≡◌, ℕ, zero, suc, None, List, [], ◌∷◌, refl}
use Rattle.std.specs.Prelude.{slice_index_or}
use Rattle.csv.specs.Records.{field_at}

-- where there is no field, the empty one stands
pub field-absent : (fs : List (List ℕ)) (i : ℕ) → field_at fs i ≡ None → [] ≡ slice_index_or fs i []
unfolding field_at
field-absent [] i e = refl
field-absent (f ∷ fs) zero e = cc e
field-absent (f ∷ fs) (suc i) e = field-absent fs i e

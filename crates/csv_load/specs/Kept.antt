-- What is kept of a column's fields, once all have come.
use Rattle.std.specs.Prelude.{◌≡◌}
use Rattle.csv_load.specs.Gathered.{AreNumbers, number_fields}
use Rattle.csv_load.specs.Judged.{Fields}
use Rattle.csv_load.specs.declared.gathered.Kept.{Kept}
use Rattle.csv_load.specs.declared.gathered.Kept.TheVariants.{Numbers, Texts}

-- it is that of these fields
abbrev pub IsKept : Fields → Kept → Type 0
IsKept fields (Numbers places numbers) = AreNumbers places numbers × (number_fields places numbers ≡ fields)
IsKept fields (Texts texts) = texts ≡ fields

-- Vectors of vectors as lists of lists.
use Rattle.std.specs.Prelude.{List, map, Vec}
use Rattle.std.specs.Global.{Global}

abbrev pub lists : {A : Type 0} → List (Vec A Global) → List (List A)
lists {A} vs = map (λ (v : Vec A Global). v.items) vs

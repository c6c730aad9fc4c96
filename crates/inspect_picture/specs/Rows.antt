-- The rows of a picture, as code keeps them: of each, the marks that are drawn as one.
use Rattle.std.specs.Prelude.{◌≡◌, ◌<◌, ℕ, List, [], Vec, length, get_or, map}
use Rattle.std.specs.Global.{Global}
use Rattle.inspect_picture.specs.declared.mark.Mark.{Mark}
use Rattle.inspect_picture.specs.declared.scale.Scale.{Scale}
use Rattle.inspect_picture.specs.declared.stretch.Stretch.{Stretch}
use Rattle.inspect_picture.specs.Stretches.{stretches}

-- one of them
abbrev pub row_at : List (Vec Stretch Global) → ℕ → List Stretch
row_at rows k = get_or (map (λ (row : Vec Stretch Global). row.items) rows) k []

-- they are all rows of these marks
pub record AreRows (z : Scale) (ms : List Mark) (rows : List (Vec Stretch Global)) : Type 0 where
  pub count : length rows ≡ 114
  pub each : (k : ℕ) → k < 114 → row_at rows k ≡ stretches z k ms

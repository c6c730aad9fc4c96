-- What stands between two commas.
use Rattle.std.specs.Prelude.{◌+◌, ◌≤◌, ◌^◌, ⊤, List, [], ◌∷◌}
use Rattle.prepare_words.specs.Reading.{places_on}
use Rattle.prepare_words.specs.Views.{ColumnIs, named}
use Rattle.prepare_words.specs.declared.columns.Item.{Item}
use Rattle.prepare_words.specs.declared.columns.Item.TheVariants.{Name, Places}

abbrev pub item_view : Item → List ColumnIs
item_view (Name name) = named name.now ∷ []
item_view (Places from count) = places_on from count

-- each place has 32 bits
abbrev pub Fits : Item → Type 0
Fits (Name name) = ⊤
Fits (Places from count) = from + count ≤ 2 ^ 32

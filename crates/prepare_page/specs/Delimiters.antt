-- The byte between two fields, guessed.
use Rattle.std.specs.Prelude.{◌≡◌, ◌==◌, ℕ, List, Option, Some, None, if◌then◌else◌}
use Rattle.prepare_look.specs.Rows.{rows_of}
use Rattle.prepare_look.specs.declared.place.Marks.{Marks}
use Rattle.prepare_page.specs.Widths.{IsUsual, is_better}
use Rattle.prepare_page.specs.declared.delimiter.Guess.{Guess}
use Rattle.prepare_page.specs.declared.usual.Usual.{Usual}

abbrev pub marked : ℕ → ℕ → Marks
marked delimiter quote = record { delimiter = delimiter; quote = quote }

abbrev pub guess : ℕ → Usual → Guess
guess delimiter usual = record { delimiter = delimiter; usual = usual }

-- the second where it is better
abbrev pub better : Guess → Guess → Guess
better a b = if is_better b.usual a.usual then b else a

-- a comma where no records have two fields or more
abbrev pub or_comma : Usual → Guess → Guess
or_comma comma g = if g.usual.count == 0 then guess 44 comma else g

-- of a semicolon, a tab, a bar and a comma the one of the greatest share of records with one number of fields, and the
-- first of them where several have it
abbrev pub best : Usual → Usual → Usual → Usual → Guess
best semicolon tab bar comma =
    or_comma comma (better (better (better (guess 59 semicolon) (guess 9 tab)) (guess 124 bar)) (guess 44 comma))

-- THE DELIMITER OF A TEXT with this quote
pub record IsGuess (quote : ℕ) (text : List ℕ) (g : Guess) : Type 0 where
  pub semicolon : Usual
  pub tab : Usual
  pub bar : Usual
  pub comma : Usual
  pub by_semicolons : IsUsual (rows_of (marked 59 quote) text) semicolon
  pub by_tabs : IsUsual (rows_of (marked 9 quote) text) tab
  pub by_bars : IsUsual (rows_of (marked 124 quote) text) bar
  pub by_commas : IsUsual (rows_of (marked 44 quote) text) comma
  pub is : g ≡ best semicolon tab bar comma

-- one that is known, with the usual width under it
pub record IsKnown (delimiter quote : ℕ) (text : List ℕ) (g : Guess) : Type 0 where
  pub is : g.delimiter ≡ delimiter
  pub usual : IsUsual (rows_of (marked delimiter quote) text) g.usual

-- THE DELIMITER that is known, or else guessed
abbrev pub IsGuessBy : Option ℕ → ℕ → List ℕ → Guess → Type 0
IsGuessBy None quote text g = IsGuess quote text g
IsGuessBy (Some delimiter) quote text g = IsKnown delimiter quote text g

-- Words in quotes.
use Rattle.std.specs.Prelude.{◌≡◌, ◌==◌, ℕ, Bool, false, List, [], ◌∷◌, ◌++◌, if◌then◌else◌}
use Rattle.prepare_blanks.specs.Blanks.{is_blank, is_line_end}
use Rattle.prepare_blanks.specs.Tabs.{tabbed_from}
use Rattle.prepare_blanks.specs.declared.place.Place.TheVariants as place

-- each quote twice
abbrev pub doubled : ℕ → List ℕ → List ℕ
doubled quote [] = []
doubled quote (b ∷ bytes) = if b == quote then quote ∷ quote ∷ doubled quote bytes else b ∷ doubled quote bytes

-- a word in quotes: any bytes, blanks and line ends too
abbrev pub in_quotes : ℕ → List ℕ → List ℕ
in_quotes quote word = quote ∷ (doubled quote word ++ (quote ∷ []))

abbrev pub begins_with : ℕ → List ℕ → Bool
begins_with quote [] = false
begins_with quote (b ∷ bytes) = b == quote

-- a quote parts no words and no lines
pub record IsQuote (quote : ℕ) : Type 0 where
  pub blank : is_blank quote ≡ false
  pub line_end : is_line_end quote ≡ false

-- a word in quotes stays as it is, at the begin of a line and behind another word
pub record StaysQuoted (quote : ℕ) (word rest : List ℕ) : Type 0 where
  pub first : tabbed_from quote place.Before (in_quotes quote word ++ rest)
      ≡ in_quotes quote word ++ tabbed_from quote place.Inside rest
  pub later : tabbed_from quote place.Gap (in_quotes quote word ++ rest)
      ≡ 9 ∷ (in_quotes quote word ++ tabbed_from quote place.Inside rest)

-- so does each word in quotes behind which no further quote stands
abbrev pub AreKept : Type 0
AreKept = (quote : ℕ) (word rest : List ℕ) → IsQuote quote → begins_with quote rest ≡ false
    → StaysQuoted quote word rest

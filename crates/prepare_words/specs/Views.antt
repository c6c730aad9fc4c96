-- What the words ask for, without where it lies in memory.
use Rattle.std.specs.Prelude.{◌≡◌, ℕ, Bool, false, List, [], map, Option, Some, None, codes, is_some, unwrap_or}
use Rattle.std.specs.Borrow.{Bor}
use Rattle.std.specs.Option.{option_map_or}
use Rattle.std.specs.Str.{bytes_eq}
use Rattle.clap.specs.Walk.{Row, Text, all_of, first_of}
use Rattle.prepare_dates.specs.declared.order.Order.{Order}
use Rattle.prepare_decode.specs.declared.encoding.Encoding.{Encoding}
use Rattle.prepare_numbers.specs.declared.limit.Limit.{Limit}
use Rattle.prepare_rules.specs.declared.rules.Column.{Column}
use Rattle.prepare_rules.specs.declared.rules.Column.TheVariants.{Named, Placed}
use Rattle.prepare_rules.specs.declared.rules.Mark.{Mark}
use Rattle.prepare_rules.specs.declared.rules.Rename.{Rename}
use Rattle.prepare_rules.specs.declared.rules.Rules.{Rules}
use Rattle.prepare_words.specs.declared.delimiter.Delimiter.{Delimiter}
use Rattle.prepare_words.specs.declared.delimiter.Delimiter.TheVariants as by
use Rattle.prepare_words.specs.declared.writing.Writing.{Writing}

-- ---- what clap found

abbrev pub texts_of : List (Bor Text) → List Text
texts_of = map (λ s. s.now)

-- the values of an option that stands there, or none
abbrev pub texts_given : Option (Bor (List (Bor Text))) → List Text
texts_given None = []
texts_given (Some values) = texts_of values.now

-- the values of an option, one for each time that it stands there
abbrev pub values_in : Text → List Row → List Text
values_in name rows = unwrap_or (all_of name rows) []

-- a flag stands there
abbrev pub is_set : Text → List Row → Bool
is_set name rows = option_map_or (λ value. bytes_eq value (codes "true")) (first_of name rows) false

-- an option with a value stands there
abbrev pub is_there : Text → List Row → Bool
is_there name rows = is_some (first_of name rows)

-- ---- what the words ask for

pub data ColumnIs : Type 0 where
  named : Text → ColumnIs
  placed : ℕ → ColumnIs

abbrev pub column_view : Column → ColumnIs
column_view (Named name) = named name.now
column_view (Placed place) = placed place

abbrev pub columns_view : List Column → List ColumnIs
columns_view = map column_view

-- a name, and the one under which it is written
abbrev pub rename_view : Rename → Text × Text
rename_view r = (r.from.now, r.to.now)

-- the byte between two fields; for blanks a tab is put there
abbrev pub byte_of : Delimiter → ℕ
byte_of (by.Byte b) = b
byte_of by.Blanks = 9

pub record WritingIs : Type 0 where
  pub file : Text
  pub is_auto : Bool
  pub is_quiet : Bool
  pub has_encoding : Bool
  pub has_delimiter : Bool
  pub has_skip : Bool
  pub delimiter : Delimiter
  pub quote : ℕ
  pub encoding : Encoding
  pub skip : ℕ
  pub has_names : Bool
  pub columns : List ColumnIs
  pub renames : List (Text × Text)
  pub numbers : List ColumnIs
  pub dates : List ColumnIs
  pub order : Order
  pub missing : List Text
  pub mark : Mark
  pub parts : Option ℕ
  pub exponents : Bool
  pub limit : Option Limit
  pub trims : Bool
  pub pads : Bool

abbrev pub writing_view : Writing → WritingIs
writing_view w = record {
  file = w.file.now;
  is_auto = w.is_auto;
  is_quiet = w.is_quiet;
  has_encoding = w.has_encoding;
  has_delimiter = w.has_delimiter;
  has_skip = w.has_skip;
  delimiter = w.delimiter;
  quote = w.quote;
  encoding = w.encoding;
  skip = w.skip;
  has_names = w.has_names;
  columns = columns_view w.columns.items;
  renames = map rename_view w.renames.items;
  numbers = columns_view w.numbers.items;
  dates = columns_view w.dates.items;
  order = w.order;
  missing = texts_of w.missing.items;
  mark = w.mark;
  parts = w.parts;
  exponents = w.exponents;
  limit = w.limit;
  trims = w.trims;
  pads = w.pads;
}

-- the rules are those that the words ask for
pub record HasRules (w : Writing) (r : Rules) : Type 0 where
  pub delimiter : r.delimiter ≡ byte_of w.delimiter
  pub quote : r.quote ≡ w.quote
  pub skip : r.skip ≡ w.skip
  pub has_names : r.has_names ≡ w.has_names
  pub columns : r.columns.now ≡ w.columns.items
  pub renames : r.renames.now ≡ w.renames.items
  pub numbers : r.numbers.now ≡ w.numbers.items
  pub dates : r.dates.now ≡ w.dates.items
  pub order : r.order ≡ w.order
  pub missing : r.missing.now ≡ w.missing.items
  pub mark : r.mark ≡ w.mark
  pub parts : r.parts ≡ w.parts
  pub exponents : r.exponents ≡ w.exponents
  pub limit : r.limit ≡ w.limit
  pub trims : r.trims ≡ w.trims
  pub pads : r.pads ≡ w.pads

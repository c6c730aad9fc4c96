-- The command that reads the words, as clap sees it.
use Rattle.std.specs.Prelude.{◌≡◌, true, false, List, [], ◌∷◌, ◌++◌, Some, codes}
use Rattle.clap.specs.Simple.{App, Shape, app_of, new_rule, new_shape, with_rule}
use Rattle.clap.specs.Walk.{Rule, Text}
use Rattle.clap.specs.declared.builder.action.ArgAction.TheVariants.{Append, Set, SetTrue}
use Rattle.clap.specs.declared.builder.command.Command.{Command}
use Rattle.clap.specs.declared.builder.command.Command.TheViews.{out-Command}

-- an option with a value
abbrev pub option : Text → Rule
option name = record (new_rule name) { long = Some name; action = Some Set; value_names = 1 }

-- an option with a value that may stand again and again
abbrev pub options : Text → Rule
options name = record (option name) { action = Some Append }

abbrev pub flag : Text → Rule
flag name = record (new_rule name) { long = Some name; action = Some SetTrue }

-- a word by its place, which has to be there
abbrev pub place : Text → Rule
place name = record (new_rule name) { action = Some Set; required = true }

-- how the records of the export are found, and whether it is told what was done
abbrev pub record_rules : List Rule
record_rules = flag (codes "auto") ∷ flag (codes "quiet") ∷ option (codes "delimiter") ∷ option (codes "quote")
    ∷ option (codes "encoding") ∷ option (codes "skip") ∷ flag (codes "no-header") ∷ option (codes "ragged") ∷ []

-- which columns are written
abbrev pub table_rules : List Rule
table_rules = options (codes "columns") ∷ options (codes "rename") ∷ flag (codes "trim") ∷ []

-- what becomes of the fields of numbers
abbrev pub number_rules : List Rule
number_rules = options (codes "numbers") ∷ options (codes "missing")
    ∷ flag (codes "decimal-comma") ∷ option (codes "thousands") ∷ flag (codes "exponents")
    ∷ option (codes "places") ∷ flag (codes "round") ∷ []

-- what becomes of the fields of dates
abbrev pub date_rules : List Rule
date_rules = options (codes "date-columns") ∷ option (codes "dates") ∷ []

abbrev pub export_place : List Rule
export_place = place (codes "FILE") ∷ []

-- a subcommand
abbrev pub sub : Text → List Rule → Shape
sub name rules = record (new_shape name) { rules = rules }

abbrev pub write : Shape
write = sub (codes "write") (record_rules ++ (table_rules ++ (number_rules ++ (date_rules ++ export_place))))

abbrev pub look : Shape
look = sub (codes "look") export_place

abbrev pub top : Shape
top = record (new_shape (codes "coop_prepare")) {
  is_leaf = false;
  no_binary_name = true;
  disable_help_subcommand = true;
  has_version = true;
  arg_required_else_help = true;
  subcommand_required = true;
}

-- THE COMMAND: one subcommand has to be there; `--help`, `-h`, `--version` and `-V` are clap's own
abbrev pub prepare : App
prepare = record { top = top; subs = look ∷ write ∷ [] }

-- the command with further rules
abbrev pub with_rules : App → List Rule → App
with_rules a [] = a
with_rules a (r ∷ rs) = with_rules (with_rule a r) rs

-- clap sees a command so, and none of its arguments is global
pub record IsCommand (a : App) (c : Command) : Type 0 where
  pub app : app_of c ≡ a
  pub local : (out-Command c).has_globals ≡ false

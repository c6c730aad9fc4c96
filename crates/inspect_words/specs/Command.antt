-- The command that reads the words, as clap sees it.
use Rattle.std.specs.Prelude.{◌≡◌, ℕ, true, false, pos, List, [], ◌∷◌, ◌++◌, Some, codes}
use Rattle.clap.specs.Simple.{App, Shape, app_of, new_rule, new_shape, with_rule}
use Rattle.clap.specs.Walk.{Rule, Text}
use Rattle.clap.specs.declared.builder.action.ArgAction.TheVariants.{Set, SetTrue}
use Rattle.clap.specs.declared.builder.command.Command.{Command}
use Rattle.clap.specs.declared.builder.command.Command.TheViews.{out-Command}
use Rattle.clap.specs.declared.builder.value_parser.ValueParser.TheVariants.{Signed}
use Rattle.command_words.specs.declared.limits.TheConstants.{MOST_FRAMES, MOST_PARTS, MOST_WORKERS}
use Rattle.table_sets.specs.declared.limits.TheConstants.{MOST_CHUNK_ROWS}
use Rattle.inspect_words.specs.declared.window.TheConstants.{MOST_ENTRIES}

-- an option with a value
abbrev pub option : Text → Rule
option name = record (new_rule name) { long = Some name; action = Some Set; value_names = 1 }

-- an option whose value is a number from 1 to `most`
abbrev pub number : ℕ → Text → Rule
number most name = record (option name) { parser = Some (Signed (pos 1) (pos most)) }

abbrev pub flag : Text → Rule
flag name = record (new_rule name) { long = Some name; action = Some SetTrue }

-- a word by its place, which has to be there
abbrev pub place : Text → Rule
place name = record (new_rule name) { action = Some Set; required = true }

-- how a table is cut
abbrev pub cut_rules : List Rule
cut_rules = number MOST_CHUNK_ROWS (codes "rows") ∷ option (codes "layout") ∷ []

-- who works on it, and how
abbrev pub work_rules : List Rule
work_rules = number MOST_WORKERS (codes "threads") ∷ number MOST_FRAMES (codes "frames")
    ∷ number MOST_PARTS (codes "parts") ∷ option (codes "policy") ∷ []

-- what changes no answer and no entry: where pieces are kept, and what is printed
abbrev pub side_rules : List Rule
side_rules = option (codes "scratch") ∷ flag (codes "summary") ∷ flag (codes "trace") ∷ []

abbrev pub table_places : List Rule
table_places = place (codes "TABLE") ∷ place (codes "BATCH") ∷ []

-- which entries are drawn
abbrev pub window_rules : List Rule
window_rules = number MOST_ENTRIES (codes "from") ∷ number MOST_ENTRIES (codes "to") ∷ []

-- as what they are drawn
abbrev pub form_rules : List Rule
form_rules = flag (codes "html") ∷ []

abbrev pub output_place : List Rule
output_place = place (codes "OUTPUT") ∷ []

-- what of a setting is left to the story
abbrev pub freedom_rules : List Rule
freedom_rules = option (codes "policy") ∷ option (codes "dealt") ∷ []

abbrev pub story_places : List Rule
story_places = place (codes "SETTING") ∷ place (codes "STORY") ∷ []

-- a subcommand, which tells the version too
abbrev pub sub : Text → List Rule → Shape
sub name rules = record (new_shape name) { rules = rules; has_version = true }

abbrev pub explain : Shape
explain = sub (codes "explain") (cut_rules ++ table_places)

abbrev pub judge : Shape
judge = sub (codes "judge") (work_rules ++ (cut_rules ++ (side_rules ++ (table_places ++ output_place))))

abbrev pub setting : Shape
setting = sub (codes "setting") (work_rules ++ (cut_rules ++ (side_rules ++ table_places)))

abbrev pub draw : Shape
draw = sub (codes "draw") (window_rules ++ (form_rules ++ output_place))

abbrev pub top : Shape
top = record (new_shape (codes "coop_inspect")) {
  is_leaf = false;
  no_binary_name = true;
  disable_help_subcommand = true;
  has_version = true;
  arg_required_else_help = true;
  subcommand_required = true;
}

-- THE COMMAND: one subcommand has to be there; `--help`, `-h`, `--version` and `-V` are clap's own
abbrev pub inspect : App
inspect = record { top = top; subs = explain ∷ judge ∷ setting ∷ draw ∷ [] }

-- THE COMMAND behind `judge --story`, for the words behind these two
abbrev pub story : App
story = record {
  top = record (sub (codes "coop_inspect-judge") (freedom_rules ++ story_places)) { no_binary_name = true };
  subs = [];
}

-- the command with further rules
abbrev pub with_rules : App → List Rule → App
with_rules a [] = a
with_rules a (r ∷ rs) = with_rules (with_rule a r) rs

-- clap sees a command so, and none of its arguments is global
pub record IsCommand (a : App) (c : Command) : Type 0 where
  pub app : app_of c ≡ a
  pub local : (out-Command c).has_globals ≡ false

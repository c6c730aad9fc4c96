-- The command that reads the words, as clap sees it.
use Rattle.std.specs.Prelude.{true, List, [], ◌∷◌, Some, codes, if◌then◌else◌}
use Rattle.clap.specs.Walk.{Rule, Text}
use Rattle.clap.specs.Simple.{App, new_app, new_rule, with_rule}
use Rattle.clap.specs.declared.builder.action.ArgAction.TheVariants.{Set, SetTrue}
use Rattle.command_words.specs.Pairs.{Known}

abbrev pub given_option : Text → Rule
given_option name = record (new_rule name) { long = Some name; action = Some Set }

abbrev pub given_flag : Text → Rule
given_flag name = record (new_rule name) { long = Some name; action = Some SetTrue }

abbrev pub given_place : Text → Rule
given_place name = record (new_rule name) { action = Some Set; required = true }

abbrev pub given_rule : Known → Rule
given_rule k = if k.valued then given_option k.name else given_flag k.name

abbrev pub with_options : App → List Known → App
with_options a [] = a
with_options a (k ∷ ks) = with_options (with_rule a (given_rule k)) ks

abbrev pub start : Text → App
start name = record
    (new_app name) { top = record (new_app name).top { no_binary_name = true; disable_help_flag = true } }

abbrev pub app : Text → List Known → App
app name known = with_rule (with_rule (with_options (start name) known) (given_place (codes "TABLE")))
    (given_place (codes "BATCH"))

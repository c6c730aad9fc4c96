-- What the words ask for.
use Rattle.std.specs.Prelude.{◌≡◌, ◌&&◌, Bool, true, false, List, [], ◌∷◌, drop, Option, Some, None, codes}
use Rattle.std.specs.Prelude.{if◌then◌else◌, option_and_then, option_map}
use Rattle.std.specs.Str.{bytes_eq}
use Rattle.clap.specs.Faults.{fault_of}
use Rattle.clap.specs.Kinds.{IsAmong, Kinds}
use Rattle.clap.specs.Simple.{matches_of, subcommand_of}
use Rattle.clap.specs.Values.{kind_of}
use Rattle.clap.specs.Walk.{Row, Text, first_of}
use Rattle.command_words.specs.Limits.{IsWithinLimits}
use Rattle.command_words.specs.Matched.{is_true}
use Rattle.command_words.specs.Options.{Request, options_of}
use Rattle.command_words.specs.Views.{request_view}
use Rattle.command_words.specs.declared.call.Call.TheVariants.{Run, RunBoxed}
use Rattle.inspect_words.specs.Command.{inspect, story}
use Rattle.inspect_words.specs.Windows.{IsInOrder, window_of}
use Rattle.inspect_words.specs.declared.asked.Asked.{Asked}
use Rattle.inspect_words.specs.declared.asked.Asked.TheVariants as asked
use Rattle.inspect_words.specs.declared.form.Form.{Form}
use Rattle.inspect_words.specs.declared.form.Form.TheVariants.{Page, Picture}
use Rattle.inspect_words.specs.declared.refused.Refused.{Refused}
use Rattle.inspect_words.specs.declared.refused.Refused.TheVariants as refused
use Rattle.inspect_words.specs.declared.window.Window.{Window}

pub data AskedIs : Type 0 where
  explain_is : Request → AskedIs
  judge_is : Request → Text → AskedIs
  story_is : Text → Text → Bool → Bool → AskedIs
  setting_is : Request → AskedIs
  draw_is : Text → Window → Form → AskedIs

abbrev pub asked_view : Asked → AskedIs
asked_view (asked.Explain r) = explain_is (request_view r)
asked_view (asked.Judge r output) = judge_is (request_view r) output.now
asked_view (asked.Story setting told choices dealing) = story_is setting.now told.now choices dealing
asked_view (asked.Setting r) = setting_is (request_view r)
asked_view (asked.Draw output window form) = draw_is output.now window form

-- the last word, and the words before it
abbrev pub parted : List Text → Option (List Text × Text)
parted [] = None
parted (w ∷ []) = Some ([], w)
parted (w ∷ v ∷ ws) = option_map (λ p. (w ∷ p.0, p.1)) (parted (v ∷ ws))

-- TABLE and BATCH, cut as coop_cli cuts them by these words
abbrev pub explain_of : List Text → Option AskedIs
explain_of words = option_map explain_is (options_of Run words)

-- the words of a run, as coop_cli has them, and OUTPUT behind them
abbrev pub judge_of : List Text → Option AskedIs
judge_of words = option_and_then (λ p. option_map (λ r. judge_is r p.1) (options_of RunBoxed p.0)) (parted words)

-- whether a value leaves to the story what it is of: `any` alone may be named
abbrev pub is_left : Option Text → Option Bool
is_left None = Some false
is_left (Some word) = if bytes_eq word (codes "any") then Some true else None

-- SETTING and STORY, and what of the setting is left to the story: choices and the dealing of queries
abbrev pub story_with : Text → Text → Option Text → Option Text → Option AskedIs
story_with setting told policy dealt =
    option_and_then (λ choices. option_map (λ dealing. story_is setting told choices dealing) (is_left dealt))
    (is_left policy)

abbrev pub story_from : Text → List Row → Text → Option AskedIs
story_from setting rows told = story_with setting told (first_of (codes "policy") rows) (first_of (codes "dealt") rows)

abbrev pub story_for : Text → List Row → Option AskedIs
story_for setting rows = option_and_then (story_from setting rows) (first_of (codes "STORY") rows)

abbrev pub story_of : List Row → Option AskedIs
story_of rows = option_and_then (λ setting. story_for setting rows) (first_of (codes "SETTING") rows)

-- the words of a run, as coop_cli has them
abbrev pub setting_of : List Text → Option AskedIs
setting_of words = option_map setting_is (options_of RunBoxed words)

-- a page where `--html` is named, and else a picture
abbrev pub form_of : Option Text → Form
form_of html = if is_true html then Page else Picture

-- OUTPUT, the entries of its story that `--from` and `--to` name, and as what they are drawn
abbrev pub draw_from : Text → List Row → Option AskedIs
draw_from output rows =
    option_map (λ w. draw_is output w (form_of (first_of (codes "html") rows)))
    (window_of (first_of (codes "from") rows) (first_of (codes "to") rows))

abbrev pub draw_of : List Row → Option AskedIs
draw_of rows = option_and_then (λ o. draw_from o rows) (first_of (codes "OUTPUT") rows)

-- what the words behind the name of a subcommand ask for, with what clap reads of them
abbrev pub asked_by : Text → List Row → List Text → Option AskedIs
asked_by name rows words = if bytes_eq name (codes "explain") then explain_of words
    else if bytes_eq name (codes "judge") then judge_of words
    else if bytes_eq name (codes "setting") then setting_of words else draw_of rows

-- what accepted words ask for
abbrev pub asked_in : Kinds → List Text → Option AskedIs
asked_in [] words = option_and_then (λ s. asked_by s.0 s.1 (drop 1 words)) (subcommand_of inspect words)
asked_in (k ∷ ks) words = None

-- what accepted words behind `judge --story` ask for
abbrev pub story_in : Kinds → List Text → Option AskedIs
story_in [] words = story_of (matches_of story words)
story_in (k ∷ ks) words = None

abbrev pub are_names : Text → Text → Bool
are_names first second = bytes_eq first (codes "judge") && bytes_eq second (codes "--story")

-- the first two words are `judge --story`
abbrev pub names_story : List Text → Bool
names_story (first ∷ second ∷ words) = are_names first second
names_story _ = false

-- the faults that clap finds, in the words behind `judge --story`, or else in all words
abbrev pub faults_in : List Text → Kinds
faults_in words = if names_story words then fault_of story (drop 2 words) else fault_of inspect words

-- WHAT THE WORDS ASK FOR: nothing where clap finds a fault in them, or where they ask for help or the version
abbrev pub asked_of : List Text → Option AskedIs
asked_of words = if names_story words then story_in (fault_of story (drop 2 words)) (drop 2 words)
    else asked_in (fault_of inspect words) words

-- the words of a run are refused where they ask for nothing, and clap has no word in it
abbrev pub IsRunRefused : Option AskedIs → Refused → Type 0
IsRunRefused asked (refused.Said error) = ⊥
IsRunRefused asked (refused.Run which) = asked ≡ None
IsRunRefused asked refused.Memory = Unit {0}

-- the numbers of a request lie within their limits, and entries are in order
abbrev pub HasLimits : AskedIs → Type 0
HasLimits (explain_is r) = IsWithinLimits r
HasLimits (judge_is r output) = IsWithinLimits r
HasLimits (story_is setting told choices dealing) = Unit {0}
HasLimits (setting_is r) = IsWithinLimits r
HasLimits (draw_is output window form) = IsInOrder window

-- clap says its first fault, or memory ran out
abbrev pub IsSaidOf : Kinds → Refused → Type 0
IsSaidOf faults (refused.Said error) = IsAmong (kind_of error) faults
IsSaidOf faults (refused.Run which) = ⊥
IsSaidOf faults refused.Memory = Unit {0}

-- why words with these faults, that ask for this, are refused: clap's first fault, help and the version among them; or
-- clap takes them, and they ask for nothing; or memory ran out
abbrev pub IsRefusedBy : Kinds → Option AskedIs → Refused → Type 0
IsRefusedBy faults asked (refused.Said error) = IsAmong (kind_of error) faults
IsRefusedBy faults asked (refused.Run which) = (faults ≡ []) × (asked ≡ None)
IsRefusedBy faults asked refused.Memory = Unit {0}

abbrev pub IsRefusedFor : List Text → Refused → Type 0
IsRefusedFor words = IsRefusedBy (faults_in words) (asked_of words)

-- The options that the pairs give.
use Rattle.std.specs.Prelude.{ℕ, Bool, ◌&&◌, ◌||◌, ◌+◌, ◌*◌, ◌-◌, ◌==◌, List, [], ◌∷◌, Option, Some, None, length}
use Rattle.std.specs.Prelude.{take, drop, nat_le, codes, if◌then◌else◌, option_and_then, option_map, is_some}
use Rattle.std.specs.List.{list_any, before_first, after_first}
use Rattle.std.specs.Str.{bytes_eq}
use Rattle.command_words.specs.Pairs.{Pairs, Text, pairs_of, value_of}
use Rattle.command_words.specs.Knows.{known_to}
use Rattle.command_words.specs.Matched.{is_true}
use Rattle.command_words.specs.declared.call.Call.{Call}
use Rattle.command_words.specs.declared.call.Call.TheVariants.{RunBoxed}
use Rattle.command_words.specs.declared.limits.TheConstants.{MOST_FRAMES, MOST_GENERATED_ROWS, MOST_PARTS}
use Rattle.command_words.specs.declared.limits.TheConstants.{MOST_WORKERS, USUAL_CHUNK_ROWS, USUAL_WORKERS}
use Rattle.piece_format.specs.declared.layout.Layout.{Layout}
use Rattle.piece_format.specs.declared.layout.Layout.TheVariants.{Row, Column}
use Rattle.scan_story.specs.declared.setting.PolicyName.{PolicyName}
use Rattle.scan_story.specs.declared.setting.PolicyName.TheVariants.{Relevance, Elevator, Normal, Attach}
use Rattle.table_sets.specs.declared.limits.TheConstants.{MOST_CHUNK_ROWS}

-- ---- numbers

abbrev pub is_digit : ℕ → Bool
is_digit b = nat_le 48 b && nat_le b 57

-- the number that the digits write after those of n
abbrev pub number_after : ℕ → Text → Option ℕ
number_after n [] = Some n
number_after n (b ∷ bs) = if is_digit b then number_after (n * 10 + (b - 48)) bs else None

abbrev pub within : ℕ → ℕ → ℕ → Option ℕ
within low high n = if nat_le low n && nat_le n high then Some n else None

-- 1 to `most` digits, with a value from `low` to `high`
abbrev pub number_in : ℕ → ℕ → ℕ → Text → Option ℕ
number_in most low high text = if nat_le 1 (length text) && nat_le (length text) most
    then option_and_then (within low high) (number_after 0 text) else None

-- an option's number, or its default where it isn't named
abbrev pub number_or : ℕ → ℕ → ℕ → Option Text → Option ℕ
number_or low high default None = Some default
number_or low high default (Some text) = number_in 10 low high text

abbrev pub optional_number : ℕ → ℕ → Option Text → Option (Option ℕ)
optional_number low high None = Some None
optional_number low high (Some text) = option_map (λ n. Some n) (number_in 10 low high text)

-- ---- names

abbrev pub layout_or : Option Text → Option Layout
layout_or None = Some Row
layout_or (Some text) = if bytes_eq text (codes "row") then Some Row
    else if bytes_eq text (codes "column") then Some Column else None

abbrev pub policy_or : Option Text → Option PolicyName
policy_or None = Some Relevance
policy_or (Some text) = if bytes_eq text (codes "relevance") then Some Relevance
    else if bytes_eq text (codes "elevator") then Some Elevator
    else if bytes_eq text (codes "normal") then Some Normal else if bytes_eq text (codes "attach") then Some Attach
    else None

-- an empty value is refused
abbrev pub scratch_or : Option Text → Option (Option Text)
scratch_or None = Some None
scratch_or (Some []) = None
scratch_or (Some (b ∷ bs)) = Some (Some (b ∷ bs))

-- ---- TABLE and BATCH

-- a text that is generated, or a file
pub data TableIs : Type 0 where
  generated : ℕ → ℕ → TableIs
  file : Text → TableIs

abbrev pub is_colon : ℕ → Bool
is_colon b = b == 58

-- `SEED:ROWS`, cut at the first colon
abbrev pub generated_by : Text → Option TableIs
generated_by text = option_and_then
    (λ seed. option_map (generated seed) (number_in 10 0 MOST_GENERATED_ROWS (after_first is_colon text)))
    (number_in 20 0 18446744073709551615 (before_first is_colon text))

abbrev pub table_of : Text → Option TableIs
table_of word = if bytes_eq (take 4 word) (codes "gen:")
    then (if list_any is_colon (drop 4 word) then generated_by (drop 4 word) else None) else Some (file word)

pub data BatchIs : Type 0 where
  generated_batch : BatchIs
  batch_file : Text → BatchIs

abbrev pub batch_of : Text → BatchIs
batch_of word = if bytes_eq word (codes "gen") then generated_batch else batch_file word

-- ---- all

-- the value of each option and place as it stands in the words, and of each flag whether it stands there
pub record Values : Type 0 where
  pub threads : Option Text
  pub frames : Option Text
  pub rows : Option Text
  pub layout : Option Text
  pub parts : Option Text
  pub scratch : Option Text
  pub policy : Option Text
  pub summary : Bool
  pub trace : Bool
  pub compare : Bool
  pub table : Option Text
  pub batch : Option Text

abbrev pub values_of : Pairs → Values
values_of pairs = record {
  threads = value_of (codes "threads") pairs;
  frames = value_of (codes "frames") pairs;
  rows = value_of (codes "rows") pairs;
  layout = value_of (codes "layout") pairs;
  parts = value_of (codes "parts") pairs;
  scratch = value_of (codes "scratch") pairs;
  policy = value_of (codes "policy") pairs;
  summary = is_true (value_of (codes "summary") pairs);
  trace = is_true (value_of (codes "trace") pairs);
  compare = is_true (value_of (codes "compare") pairs);
  table = value_of (codes "TABLE") pairs;
  batch = value_of (codes "BATCH") pairs;
}

-- what the words ask for
pub record Request : Type 0 where
  pub workers : ℕ
  pub frames : Option ℕ
  pub per : ℕ
  pub layout : Layout
  pub parts : ℕ
  pub scratch : Option Text
  pub policy : PolicyName
  pub summary : Bool
  pub trace : Bool
  pub compare : Bool
  pub table : Text
  pub batch : Text

-- nothing of a single run is asked for where policies are compared
abbrev pub is_mixed : Values → Bool
is_mixed v = v.compare && (is_some v.policy || (v.summary || v.trace))

-- one worker runs where policies are compared
abbrev pub workers_of : Values → Option ℕ
workers_of v = if v.compare then number_or 1 1 1 v.threads else number_or 1 MOST_WORKERS USUAL_WORKERS v.threads

-- a TABLE that may be named
abbrev pub table_word : Option Text → Option Text
table_word None = None
table_word (Some word) = option_map (λ _. word) (table_of word)

abbrev pub request_of : Values → Option Request
request_of v = if is_mixed v then None else
    option_and_then (λ workers. option_and_then (λ frames. option_and_then (λ per. option_and_then (λ layout.
    option_and_then (λ parts. option_and_then (λ scratch. option_and_then (λ policy. option_and_then (λ table.
    option_map (λ batch. record {
      workers = workers;
      frames = frames;
      per = per;
      layout = layout;
      parts = parts;
      scratch = scratch;
      policy = policy;
      summary = v.summary;
      trace = v.trace;
      compare = v.compare;
      table = table;
      batch = batch;
    }) v.batch) (table_word v.table)) (policy_or v.policy)) (scratch_or v.scratch)) (number_or 1 MOST_PARTS 1 v.parts))
    (layout_or v.layout)) (number_or 1 MOST_CHUNK_ROWS USUAL_CHUNK_ROWS v.rows)) (optional_number 1 MOST_FRAMES v.frames))
    (workers_of v)

-- what the words of a call ask for, or none
abbrev pub options_of : Call → List Text → Option Request
options_of call words = option_and_then (λ pairs. request_of (values_of pairs)) (pairs_of (known_to call) words)

-- the value of `--scratch` in accepted words, whichever policies there are
abbrev pub scratch_of : List Text → Option Text
scratch_of words = option_and_then (λ r. r.scratch) (options_of RunBoxed words)

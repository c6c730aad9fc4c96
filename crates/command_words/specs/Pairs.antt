-- Which options, flags and places the words of a command line name, and with which values.
use Rattle.std.specs.Prelude.{ℕ, Bool, true, false, ◌&&◌, ◌==◌, List, [], ◌∷◌, ◌++◌, Option, Some}
use Rattle.std.specs.Prelude.{None, codes, find, if◌then◌else◌, option_map, option_and_then}
use Rattle.std.specs.List.{list_any, before_first, after_first}
use Rattle.std.specs.Str.{bytes_eq}

abbrev pub Text : Type 0
Text = List ℕ

-- an option that a call knows: it takes a value, or is a flag
pub record Known : Type 0 where
  pub name : Text
  pub valued : Bool

-- names and values, in the order of the words; a flag's value is `true`
abbrev pub Pairs : Type 0
Pairs = List (Text × Text)

abbrev pub value_of : Text → Pairs → Option Text
value_of name pairs = option_map (λ p. p.1) (find (λ p. bytes_eq p.0 name) pairs)

abbrev pub has : Text → Pairs → Bool
has name pairs = list_any (λ p. bytes_eq p.0 name) pairs

-- how the next word is read: it may be an option, it is the value of this option, or it is a place
pub data Mode : Type 0 where
  open_ : Mode
  wants : Text → Mode
  closed : Mode

pub record Sofar : Type 0 where
  pub mode : Mode
  pub pairs : Pairs

-- each name stands at most once
abbrev pub given : Mode → Text → Text → Pairs → Option Sofar
given mode name value pairs =
    if has name pairs then None else Some (record { mode = mode; pairs = pairs ++ (name, value) ∷ [] })

-- the first place is TABLE and the second BATCH; there is no third
abbrev pub placed : Mode → Text → Pairs → Option Sofar
placed mode word pairs = given mode (if has (codes "TABLE") pairs then codes "BATCH" else codes "TABLE") word pairs

abbrev pub valued : Text → Option Text → Pairs → Option Sofar
valued name (Some value) pairs = given open_ name value pairs
valued name None pairs = Some (record { mode = wants name; pairs = pairs })

abbrev pub flagged : Text → Option Text → Pairs → Option Sofar
flagged name (Some value) pairs = None
flagged name None pairs = given open_ name (codes "true") pairs

-- `--NAME` or `--NAME=VALUE`
abbrev pub named : Option Known → Option Text → Pairs → Option Sofar
named None value pairs = None
named (Some k) value pairs = if k.valued then valued k.name value pairs else flagged k.name value pairs

abbrev pub known_as : List Known → Text → Option Known
known_as known name = find (λ k. bytes_eq k.name name) known

abbrev pub is_equals : ℕ → Bool
is_equals x = x == 61

-- what follows the first `=`, if there is one
abbrev pub attached : Text → Option Text
attached text = if list_any is_equals text then Some (after_first is_equals text) else None

-- a word that begins with `-`, by what follows
abbrev pub dashed : List Known → Text → Pairs → Option Sofar
dashed known [] pairs = None
dashed known (x ∷ []) pairs = if x == 45 then Some (record { mode = closed; pairs = pairs }) else None
dashed known (x ∷ y ∷ ys) pairs = if x == 45
    then named (known_as known (before_first is_equals (y ∷ ys))) (attached (y ∷ ys)) pairs else None

-- one word; the empty word and the lone `-` are refused wherever they stand
abbrev pub step_at : List Known → Mode → Pairs → ℕ → Text → Option Sofar
step_at known open_ pairs x xs = if x == 45 then dashed known xs pairs else placed open_ (x ∷ xs) pairs
step_at known (wants name) pairs x xs = if x == 45 then None else given open_ name (x ∷ xs) pairs
step_at known closed pairs x xs = placed closed (x ∷ xs) pairs

abbrev pub is_bare : Text → Bool
is_bare [] = true
is_bare (x ∷ []) = x == 45
is_bare (x ∷ y ∷ ys) = false

abbrev pub step_word : List Known → Sofar → Text → Option Sofar
step_word known s [] = None
step_word known s (x ∷ xs) = step_at known s.mode s.pairs x xs

abbrev pub step : List Known → Sofar → Text → Option Sofar
step known s word = if is_bare word then None else step_word known s word

abbrev pub ended : Mode → Pairs → Option Pairs
ended (wants name) pairs = None
ended _ pairs = if has (codes "TABLE") pairs && has (codes "BATCH") pairs then Some pairs else None

-- what the rest of the words gives
abbrev pub pairs_from : List Known → Sofar → List Text → Option Pairs
pairs_from known s [] = ended s.mode s.pairs
pairs_from known s (word ∷ rest) = option_and_then (λ t. pairs_from known t rest) (step known s word)

abbrev pub pairs_of : List Known → List Text → Option Pairs
pairs_of known words = pairs_from known (record { mode = open_; pairs = [] }) words

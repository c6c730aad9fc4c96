-- What the matches hold of the pairs.
use Rattle.std.specs.Prelude.{◌≡◌, Bool, true, false, not, ◌||◌, List, Option, codes, string_bytes, String, map}
use Rattle.std.specs.List.{list_all}
use Rattle.std.specs.Option.{option_map_or}
use Rattle.std.specs.Str.{bytes_eq}
use Rattle.std.specs.declared.alloc.Global.{Global}
use Rattle.clap.specs.Matches.{first_value}
use Rattle.clap.specs.declared.parser.matches.Found.{Found}
use Rattle.command_words.specs.Pairs.{Known, Pairs, Text, value_of}

abbrev pub texts : List (String Global) → List Text
texts = map (λ s. string_bytes s)

abbrev pub is_true : Option Text → Bool
is_true o = option_map_or (λ v. bytes_eq v (codes "true")) o false

-- no flag has this name
abbrev pub takes_text : Text → List Known → Bool
takes_text name known = list_all (λ k. not (bytes_eq k.name name) || k.valued) known

pub record HasPairs (known : List Known) (f : Found) (ps : Pairs) : Type 0 where
  pub text : (name : Text) → takes_text name known ≡ true → first_value f name ≡ value_of name ps
  pub flag : (name : Text) → is_true (first_value f name) ≡ is_true (value_of name ps)

-- the names of the options with a value, and of the places, are no flags
pub record KnowsValues (known : List Known) : Type 0 where
  pub threads : takes_text (codes "threads") known ≡ true
  pub frames : takes_text (codes "frames") known ≡ true
  pub rows : takes_text (codes "rows") known ≡ true
  pub layout : takes_text (codes "layout") known ≡ true
  pub parts : takes_text (codes "parts") known ≡ true
  pub scratch : takes_text (codes "scratch") known ≡ true
  pub policy : takes_text (codes "policy") known ≡ true
  pub table : takes_text (codes "TABLE") known ≡ true
  pub batch : takes_text (codes "BATCH") known ≡ true

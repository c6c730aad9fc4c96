-- Codes or none: words of 32 bits, of which one stands for none.
use Rattle.std.specs.Prelude.{◌<◌, ◌==◌, ℕ, Option, Some, None, IfSome, List, map, if◌then◌else◌}

-- the greatest number of 32 bits stands for no code
abbrev pub no_code : ℕ
no_code = 4294967295

abbrev pub code_of : ℕ → Option ℕ
code_of c = if c == no_code then None else Some c

abbrev pub codes_of : List ℕ → List (Option ℕ)
codes_of cs = map code_of cs

-- a code that isn't the one that stands for none
abbrev pub IsCode : Option ℕ → Type 0
IsCode code = IfSome code (λ c. c < no_code)

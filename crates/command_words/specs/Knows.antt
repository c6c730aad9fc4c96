-- The options that each call knows.
use Rattle.std.specs.Prelude.{true, false, List, [], ◌∷◌, ◌++◌, codes}
use Rattle.command_words.specs.Pairs.{Known, Text}
use Rattle.command_words.specs.declared.call.Call.{Call}
use Rattle.command_words.specs.declared.call.Call.TheVariants.{Run, RunBoxed}

-- an option with a value
abbrev pub valued_ : Text → Known
valued_ n = record { name = n; valued = true }

-- a flag
abbrev pub flag_ : Text → Known
flag_ n = record { name = n; valued = false }

abbrev pub plain_known : List Known
plain_known = valued_ (codes "threads") ∷ valued_ (codes "frames") ∷ valued_ (codes "rows") ∷ valued_ (codes "layout")
    ∷ valued_ (codes "parts") ∷ valued_ (codes "scratch")
    ∷ flag_ (codes "summary") ∷ flag_ (codes "trace") ∷ []

abbrev pub known_to : Call → List Known
known_to Run = plain_known
known_to RunBoxed = plain_known ++ valued_ (codes "policy") ∷ flag_ (codes "compare") ∷ []
